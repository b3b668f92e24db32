-- What is still to come of the streams of a device.
use Rattle.std.specs.Prelude.{◌≡◌, ℕ, List, Option}
use Rattle.bzip2_reader.specs.declared.streams.Stage.{Stage}
use Rattle.bzip2_reader.specs.declared.streams.Stage.TheVariants.{Between as BetweenStreams, Inside as InsideStream}
use Rattle.bzip2_reader.specs.declared.streams.Streams.{Streams}
use Rattle.bzip2_reader.specs.Coming.{coming}
use Rattle.bzip2_reader.specs.Files.{Between, Inside, Place, Unpacked}
use Rattle.bzip2_reader.specs.Left.{left_of}
use Rattle.bzip2_reader.specs.Stretches.{known_whole}

-- where in a file the reader is
abbrev pub place_of : Stage → Place
place_of BetweenStreams = Between
place_of (InsideStream most sum) = Inside most sum

-- what comes, where the device is known to have these bytes left
abbrev pub coming_of : {D : Type 0} → Option (List ℕ) → Streams D → Option Unpacked
coming_of known s = coming (left_of s.block) (place_of s.stage) s.at (known_whole s.window.block.items s.window.filled s.window.rest known)

-- the device, the window and the block are the same, and the place in the file
abbrev pub IsSame : {D : Type 0} → Streams D → Streams D → Type 0
IsSame old new = (new.device ≡ old.device) × (new.window ≡ old.window) × (new.at ≡ old.at) × (new.stage ≡ old.stage) × (new.block ≡ old.block)
