-- A key is an identifier, a length and a prefix of this length.
use Rattle.std.proofs.Common.{◌≡◌, ℕ, List}
use Rattle.byteorder.specs.Endian.{big_number}
use Rattle.bgp_prefix.specs.Keys.{RouteKey}
use Rattle.mrt_frame.specs.declared.fault.Fault.TheVariants.{BadPrefix}
use Rattle.mrt_frame.specs.Fields.{Reading, ◌>>=◌, byte_at, bytes_at}
use Rattle.std.specs.Prelude.{Ok}
use Rattle.bgp_update.specs.Families.{KeyForm}
use Rattle.bgp_update.specs.Keys.{identifier_len, prefix_at, written_key_at, key_at}
use Rattle.bgp_update.proofs.Readings.{bind_assoc}

-- a key, read behind its identifier
abbrev pub key_after : ℕ → List ℕ × List ℕ → Reading RouteKey
key_after width identifier =
    byte_at BadPrefix identifier.1 >>= λ len. prefix_at width len.0 len.1 >>= λ prefix. Ok (record { prefix = prefix.0; id = big_number 4 identifier.0 }, prefix.1)

pub key_parts : (form : KeyForm) (bytes : List ℕ) → key_at form bytes ≡ (bytes_at BadPrefix (identifier_len form.add_path) bytes >>= λ identifier. key_after form.width identifier)
unfolding key_at written_key_at
key_parts form bytes = simp bind_assoc
