-- Readings of single fields fail only where the field runs past the body.
use Rattle.std.proofs.Common.{◌≡◌, ◌⊎◌, inl, inr, ℕ, Bool, true, false, cond, ltb, eqb, List, length, drop, take, Result, Ok, Err}
use Rattle.std.specs.Prelude.{slice_index}
use Rattle.byteorder.specs.Endian.{big_number}
use Rattle.mrt_frame.specs.declared.fault.Fault.{Fault}
use Rattle.mrt_frame.specs.declared.fault.Fault.TheVariants.{ShortRecord}
use Rattle.mrt_frame.specs.Fields.{◌>>=◌, byte_at, number_at, bytes_at}
use Rattle.bgp_update.specs.declared.width.Width.{Width}
use Rattle.bgp_update.specs.Segments.{number_len}
use Rattle.peer_units.specs.declared.unit.PeerAddr.TheVariants.{V4, V6}
use Rattle.mrt_body.specs.Indexes.{addr_at, asn_at}
use Rattle.peer_units.proofs.MessageLaws.{ok_never}
use Rattle.mrt_body.proofs.ManyLaws.{bind_err}

-- it fails with ShortRecord or not at all
abbrev pub IsShort : {A : Type 0} → Result A Fault → Type 0
IsShort r = (fault : Fault) → r ≡ Err fault → fault ≡ ShortRecord

-- a test that failed
guard_err : {A : Type 0} (b : Bool) (x : A) (fault : Fault) → cond b (Err ShortRecord) (Ok x) ≡ Err fault → fault ≡ ShortRecord
guard_err true x fault e = cc
guard_err false x fault e = absurd cc

pub byte_short : (bytes : List ℕ) → IsShort (byte_at ShortRecord bytes)
byte_short bytes fault e = guard_err (eqb (length bytes) 0) (slice_index bytes 0, drop 1 bytes) fault e

pub number_short : (n : ℕ) (bytes : List ℕ) → IsShort (number_at ShortRecord n bytes)
number_short n bytes fault e = guard_err (ltb (length bytes) n) (big_number n bytes, drop n bytes) fault e

pub bytes_short : (n : ℕ) (bytes : List ℕ) → IsShort (bytes_at ShortRecord n bytes)
bytes_short n bytes fault e = guard_err (ltb (length bytes) n) (take n bytes, drop n bytes) fault e

-- a step that fails so, and then one that fails so or for another reason
pub then_short : {A B P : Type 0} (r : Result A Fault) (f : A → Result B Fault) (fault : Fault) → IsShort r → ((x : A) → r ≡ Ok x → f x ≡ Err fault → P ⊎ (fault ≡ ShortRecord)) → (r >>= f) ≡ Err fault → P ⊎ (fault ≡ ShortRecord)
then_short {A} {B} {P} r f fault short more e = by_step (bind_err r f fault e)
  where
    by_step : (r ≡ Err fault) ⊎ ((x : A) × (r ≡ Ok x) × (f x ≡ Err fault)) → P ⊎ (fault ≡ ShortRecord)
    by_step (inl h) = inr (short fault h)
    by_step (inr h) = more h.0 h.1 h.2

-- where there is no other reason
pub only_short : {fault : Fault} → ⊥ ⊎ (fault ≡ ShortRecord) → fault ≡ ShortRecord
only_short (inl h) = absurd h
only_short (inr h) = h

pub addr_short : (is_long : Bool) (bytes : List ℕ) → IsShort (addr_at is_long bytes)
addr_short true bytes fault e = only_short (then_short (number_at ShortRecord 16 bytes) (λ addr. Ok (V6 addr.0, addr.1)) fault (number_short 16 bytes) (λ x is h. ok_never (V6 x.0, x.1) fault h) e)
addr_short false bytes fault e = only_short (then_short (number_at ShortRecord 4 bytes) (λ addr. Ok (V4 addr.0, addr.1)) fault (number_short 4 bytes) (λ x is h. ok_never (V4 x.0, x.1) fault h) e)

pub asn_short : (width : Width) (bytes : List ℕ) → IsShort (asn_at width bytes)
asn_short width bytes fault e = number_short (number_len width) bytes fault e
