-- What a file of bzip2 streams unpacks to, and how it ends.
use Rattle.std.specs.Prelude.{ℕ, zero, suc, ◌+◌, ◌-◌, ◌*◌, ◌%◌, Bool, ◌&&◌, List, [], ◌∷◌, ◌++◌, length, drop, Option, Some, None, Result, Ok, Err, bit_xor, nat_le, ◌==◌, if◌then◌else◌}
use Rattle.std.specs.Int.{rotate_left, w32}
use Rattle.bzip2_reader.specs.declared.fault.BlockFault.{BlockFault}
use Rattle.bzip2_reader.specs.declared.fault.BlockFault.TheVariants.{BadChecksum, LongBlock, ShortBlock}
use Rattle.bzip2_reader.specs.declared.fault.Cause.{Cause}
use Rattle.bzip2_reader.specs.declared.fault.Cause.TheVariants.{Block, EarlyEnd, NoStream, StreamChecksum}
use Rattle.bzip2_reader.specs.Blocks.{block_at}
use Rattle.bzip2_reader.specs.Checksums.{checksum_of}
use Rattle.bzip2_reader.specs.Fields.{◌>>=◌, bits_of, demand, number}
use Rattle.bzip2_reader.specs.Runs.{written}

-- what comes next: a stream or the end; or of a stream whose blocks have at most so many bytes before runs are written
-- out, and this checksum so far, a block or the stream's end
pub data Place : Type 0 where
  Between : Place
  Inside : ℕ → ℕ → Place

-- a part of a file: the bytes that it gives, what comes next, and the bits after it
pub record Part : Type 0 where
  pub given : List ℕ
  pub next : Place
  pub rest : List ℕ

-- what is wrong with a file where this is wrong with a block
abbrev pub cause_of : BlockFault → Cause
cause_of ShortBlock = EarlyEnd
cause_of fault = Block fault

abbrev pub told : {A : Type 0} → Result A BlockFault → Result A Cause
told (Ok x) = Ok x
told (Err fault) = Err (cause_of fault)

-- the next byte of a stream's head, which has to pass
abbrev pub head_byte : (ℕ → Bool) → List ℕ → Result (ℕ × List ℕ) Cause
head_byte passes bits = do
  byte ← told (number 8 bits)
  _ ← demand (passes byte.0) NoStream
  Ok byte

-- the head of a stream: BZh, and its level as a digit
unfoldable pub head_at : List ℕ → Result Part Cause
head_at bits = do
  b ← head_byte (λ n. n == 0x42) bits
  z ← head_byte (λ n. n == 0x5A) b.1
  h ← head_byte (λ n. n == 0x68) z.1
  level ← head_byte (λ n. nat_le 0x31 n && nat_le n 0x39) h.1
  Ok (record { given = []; next = Inside (100000 * (level.0 - 0x30)) 0; rest = level.1 })

-- a block, whose bytes have the checksum that it names
unfoldable pub block_in : ℕ → ℕ → List ℕ → Result Part Cause
block_in most sum bits = do
  block ← told (block_at bits)
  _ ← demand (nat_le (length block.0.text) most) (Block LongBlock)
  _ ← demand (checksum_of (written block.0.text) == block.0.checksum) (Block BadChecksum)
  Ok (record { given = written block.0.text; next = Inside most (bit_xor (rotate_left w32 sum 1) block.0.checksum); rest = block.1 })

-- the end of a stream, behind its 48 bits: the checksum, and what is left of a byte
unfoldable pub end_in : ℕ → List ℕ → Result Part Cause
end_in sum bits = do
  named ← told (number 32 bits)
  _ ← demand (named.0 == sum) StreamChecksum
  Ok (record { given = []; next = Between; rest = drop (length named.1 % 8) named.1 })

-- the next part, or what is wrong with it
abbrev pub part_at : Place → List ℕ → Result Part Cause
part_at Between bits = head_at bits
part_at (Inside most sum) bits = do
  magic ← told (number 48 bits)
  if magic.0 == 0x177245385090 then end_in sum magic.1 else block_in most sum bits

-- all bytes that are given, and by what they end, if it is not the end of the last stream
pub record Unpacked : Type 0 where
  pub given : List ℕ
  pub damage : Option Cause

abbrev pub after_part : List ℕ → Unpacked → Unpacked
after_part given others = record { given = given ++ others.given; damage = others.damage }

-- the parts from here on, at most so many
unfoldable pub unpack_from : ℕ → Place → List ℕ → Unpacked
unpack_from zero place bits = record { given = []; damage = None }
unpack_from (suc parts) Between [] = record { given = []; damage = None }
unpack_from (suc parts) place bits =
    elim (part_at place bits) [ Ok part ↦ after_part part.given (unpack_from parts part.next part.rest) | Err cause ↦ record { given = []; damage = Some cause } ]

-- All parts from here on. Each takes at least one bit, so there are never more.
unfoldable pub unpack : Place → List ℕ → Unpacked
unpack place bits = unpack_from (length bits + 1) place bits

-- something has to come: a part of a stream, or bits
abbrev pub IsMore : Place → List ℕ → Type 0
IsMore Between [] = ⊥
IsMore Between (bit ∷ bits) = Unit {0}
IsMore (Inside most sum) bits = Unit {0}

-- what a file unpacks to
abbrev pub unpacked : List ℕ → Unpacked
unpacked bytes = unpack Between (bits_of bytes)
