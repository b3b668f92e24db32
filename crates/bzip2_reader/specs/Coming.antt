-- What is still to come of a file: its bytes, and how they end.
use Rattle.std.specs.Prelude.{◌≡◌, ◌⊎◌, ℕ, List, [], Option, Some, None, Result, Ok, Err, drop, take, true}
use Rattle.std.specs.Option.{option_map}
use Rattle.bzip2_reader.specs.declared.fault.Cause.{Cause}
use Rattle.bzip2_reader.specs.declared.fault.Cause.TheVariants.{Device, EarlyEnd, Memory}
use Rattle.bzip2_reader.specs.declared.fault.Damage.{Damage}
use Rattle.bzip2_reader.specs.declared.phase.Phase.{Phase}
use Rattle.bzip2_reader.specs.declared.phase.Phase.TheVariants.{Open, Ended, Broken}
use Rattle.bzip2_reader.specs.declared.window.Rest.{Rest}
use Rattle.mrt_frame.specs.declared.device.Failed.{Failed}
use Rattle.bzip2_reader.specs.declared.window.Rest.TheVariants.{None as NoMore}
use Rattle.bzip2_reader.specs.Fields.{bits_of}
use Rattle.bzip2_reader.specs.Files.{Part, Place, Unpacked, after_part, part_at, unpack}
use Rattle.bzip2_reader.specs.Stretches.{has_failed}

-- What a function returned, as the place that comes next, is a part that gives nothing, and these bits are left.
abbrev pub IsPart : {X : Type 0} → (X → Place) → Result X Cause → List ℕ → Result Part Cause → Type 0
IsPart next (Ok x) left part = part ≡ Ok (record { given = []; next = next x; rest = left })
IsPart next (Err cause) left part = part ≡ Err cause

-- memory ran out, or this is wrong with the next part
abbrev pub IsWrong : Cause → Result Part Cause → Type 0
IsWrong cause part = (cause ≡ Memory) ⊎ (part ≡ Err cause)

-- from a bit on a part was taken, whose bytes are these; or nothing yet
abbrev pub GoesOn : List ℕ → Place → ℕ → Place → ℕ → List ℕ → Type 0
GoesOn bits place at place2 at2 given =
    (part_at place (drop at bits) ≡ Ok (record { given = given; next = place2; rest = drop at2 bits })) ⊎ ((place2 ≡ place) × (at2 ≡ at) × (given ≡ []))

-- what comes, where these bytes are left of a block, and the file goes on at this bit of its known bytes
abbrev pub coming : List ℕ → Place → ℕ → Option (List ℕ) → Option Unpacked
coming left place at known = option_map (λ bytes. after_part left (unpack place (drop at (bits_of bytes)))) known

-- Whether more bytes can come tells what does: after the end nothing, for what damage there was, and after a failure what
-- did before.
abbrev pub still : Phase → Option Damage → Option Unpacked → Option Unpacked
still Open damage coming = coming
still Ended damage coming = option_map (λ _. record { given = []; damage = option_map (λ d. d.cause) damage }) coming
still Broken damage coming = coming

-- the bytes of what comes
abbrev pub given_of : Option Unpacked → Option (List ℕ)
given_of coming = option_map (λ u. u.given) coming

-- these bytes come next, and then the rest
abbrev pub Comes : List ℕ → Option Unpacked → Option Unpacked → Type 0
Comes bytes None new = Unit {0}
Comes bytes (Some u) None = ⊥
Comes bytes (Some u) (Some v) = u ≡ after_part bytes v

-- A read gave the bytes that come next, or failed and gave none.
abbrev pub ReadComes : Option Unpacked → Option Unpacked → Result ℕ Failed → List ℕ → Type 0
ReadComes old new (Ok n) buffer = Comes (take n buffer) old new
ReadComes old new (Err failed) buffer = Comes [] old new

-- nothing comes, for this cause if there is one
abbrev pub EndsBy : Option Cause → Option Unpacked → Type 0
EndsBy cause None = Unit {0}
EndsBy cause (Some u) = u ≡ record { given = []; damage = cause }

-- Why nothing comes: memory ran out, the device failed, or this is wrong with what comes; and with bits that end early
-- only if all of the device was read.
abbrev pub Stops : Cause → Rest → Option Unpacked → Type 0
Stops Memory rest coming = Unit {0}
Stops Device rest coming = has_failed rest ≡ true
Stops EarlyEnd rest coming = (rest ≡ NoMore) × EndsBy (Some EarlyEnd) coming
Stops cause rest coming = EndsBy (Some cause) coming
