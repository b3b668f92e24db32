-- What a reader is after a read.
use Rattle.std.specs.Prelude.{◌≡◌, ◌≤◌, ◌-◌, ℕ, Bool, List, IsTrue, Option, None, drop, take}
use Rattle.bzip2_reader.specs.declared.fault.Damage.{Damage}
use Rattle.bzip2_reader.specs.declared.phase.Phase.TheVariants.{Open, Ended, Broken}
use Rattle.bzip2_reader.specs.declared.reader.Bunzip.{Bunzip}
use Rattle.bzip2_reader.specs.Coming.{still}
use Rattle.bzip2_reader.specs.Endings.{agrees}
use Rattle.bzip2_reader.specs.Files.{Unpacked}
use Rattle.bzip2_reader.specs.Runs.{count_written, written}
use Rattle.bzip2_reader.specs.StreamViews.{coming_of}
use Rattle.bzip2_reader.specs.Stretches.{has_failed}

-- what ended the bytes, if it was not the end of the last stream
abbrev pub damage_of : {D : Type 0} → Bunzip D → Option Damage
damage_of b = b.ending.damage

-- the device that it reads from
abbrev pub device_of : {D : Type 0} → Bunzip D → D
device_of b = b.streams.device

-- a read of the device failed
abbrev pub device_failed : {D : Type 0} → Bunzip D → Bool
device_failed b = has_failed b.streams.window.rest

-- what comes, where the device is known to have these bytes left
abbrev pub to_come : {D : Type 0} → Option (List ℕ) → Bunzip D → Option Unpacked
to_come known b = still b.ending.phase b.ending.damage (coming_of known b.streams)

-- all bytes were given: there is no damage, or one of the data
abbrev pub HasEnded : {D : Type 0} → Bunzip D → Type 0
HasEnded b = (b.ending.phase ≡ Ended) × IsTrue (agrees Ended (damage_of b))

-- reading failed: there is a damage, which is that the device failed or memory ran out
abbrev pub HasFailed : {D : Type 0} → Bunzip D → Type 0
HasFailed b = (b.ending.phase ≡ Broken) × IsTrue (agrees Broken (damage_of b))

-- neither the phase nor the damage changes
abbrev pub StaysSo : {D : Type 0} → Bunzip D → Bunzip D → Type 0
StaysSo old new = (new.ending.phase ≡ old.ending.phase) × (damage_of new ≡ damage_of old)

-- nothing was read yet, or not the end
abbrev pub IsOpen : {D : Type 0} → Bunzip D → Type 0
IsOpen b = (b.ending.phase ≡ Open) × (damage_of b ≡ None)

-- so many bytes in front of the buffer are the last of those given of a block, whose bytes have the checksum that it
-- names
abbrev pub Gives : {D : Type 0} → Bunzip D → ℕ → List ℕ → Type 0
Gives b n buffer =
    let block = b.streams.block in
    let given = count_written block.text.items block.runs in
    (n ≤ given) × (take n buffer ≡ take n (drop (given - n) (written block.text.items)))
