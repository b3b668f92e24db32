-- The order of a member's parts (RFC 1952, 2.3), and the trailer that ends it.
use Rattle.std.specs.Prelude.{◌≡◌, ◌≢◌, ℕ, ◌/◌, ◌%◌, ◌^◌, Bool, true, false, not, Result, Ok, Err}
use Rattle.gzip_reader.specs.Bits.{bits_left, unread}
use Rattle.gzip_reader.specs.Crc.{crc_value}
use Rattle.gzip_reader.specs.declared.bit_reader.BitReader.{BitReader}
use Rattle.gzip_reader.specs.declared.decoder.Decoder.{Decoder}
use Rattle.gzip_reader.specs.declared.decoder.Phase.{Phase}
use Rattle.gzip_reader.specs.declared.decoder.Phase.TheVariants.{BetweenMembers, Ended, Trailer}
use Rattle.gzip_reader.specs.declared.decoder.Step.{Step}
use Rattle.gzip_reader.specs.declared.decoder.Step.TheVariants.{To, Pause}
use Rattle.gzip_reader.specs.declared.fault.Flaw.{Flaw}
use Rattle.gzip_reader.specs.declared.fault.Flaw.TheVariants.{Trailing}

-- a member is begun or about to begin, so its trailer is still to come
abbrev pub owes_trailer : Phase → Bool
owes_trailer BetweenMembers = false
owes_trailer Ended = false
owes_trailer _ = true

-- a step goes to where no trailer is to come
abbrev pub leaves : Result Step Flaw → Bool
leaves (Ok (To phase)) = not (owes_trailer phase)
leaves (Ok Pause) = false
leaves (Err _) = false

-- a step that does not leave its member
abbrev pub StaysInside : Result Step Flaw → Type 0
StaysInside result = leaves result ≡ false

-- all that was decoded is in the register and in the count
abbrev pub IsAccounted : Decoder → Type 0
IsAccounted d = d.output.checked ≡ d.output.filled

-- the fields CRC32 and ISIZE, which stand next but for what is left of a byte that is begun
abbrev pub trailer_check : BitReader → ℕ
trailer_check r = unread r / 2 ^ (r.count % 8) % 2 ^ 32

abbrev pub trailer_length : BitReader → ℕ
trailer_length r = unread r / 2 ^ (r.count % 8) / 2 ^ 32 % 2 ^ 32

-- the trailer agrees with what was decoded of its member
pub record TrailerAgrees (d : Decoder) : Type 0 where
  pub check : trailer_check d.input ≡ crc_value d.register
  pub length : trailer_length d.input ≡ d.count

-- a step leaves its member only where the trailer agrees
abbrev pub LeavesMember : Decoder → Result Step Flaw → Type 0
LeavesMember d result = leaves result ≡ true → TrailerAgrees d

-- what a step between members does
pub record ComesAfter (old new : Decoder) (result : Result Step Flaw) : Type 0 where
  -- the end is where the device is at its end and nothing is left
  pub end : result ≡ Ok (To Ended) → (old.input.is_at_end ≡ true) × (bits_left old.input ≡ 0)
  -- no byte but zero is passed over
  pub zero : result ≡ Ok (To BetweenMembers) → (unread old.input % 256 ≡ 0) × (unread new.input ≡ unread old.input / 256)
  -- no member is taken for other data
  pub other : result ≡ Err Trailing → unread old.input % 2 ^ 16 ≢ 0x8b1f

-- what a step does in a phase
pub record Follows (old new : Decoder) (phase : Phase) (result : Result Step Flaw) : Type 0 where
  pub inside : owes_trailer phase ≡ true → leaves result ≡ true → (phase ≡ Trailer) × TrailerAgrees old
  pub between : phase ≡ BetweenMembers → ComesAfter old new result
