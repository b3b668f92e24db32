-- What is still to be read of a device, with its first bytes before it.
use Rattle.std.specs.Prelude.{ℕ, List, [], Option, Some, None, drop, take}
use Rattle.std.specs.Io.KnownBytes.{prepend_known}
use Rattle.packed_io.specs.declared.head.Head.{Head}
use Rattle.packed_io.specs.declared.head.HeadFirst.{HeadFirst}
use Rattle.packed_io.specs.declared.place.Place.{Place}

-- of no device nothing
abbrev pub device_remaining : {D : Type 0} → (D → Option (List ℕ)) → Option D → Option (List ℕ)
device_remaining remaining None = Some []
device_remaining remaining (Some device) = remaining device

abbrev pub place_remaining : {D : Type 0} → (D → Option (List ℕ)) → Place D → Option (List ℕ)
place_remaining remaining place = device_remaining remaining place.device

-- the first bytes, as far as they were read
abbrev pub head_bytes : Head → List ℕ
head_bytes head = take head.filled head.bytes

-- the first bytes that weren't given yet, and then the device's, where these are known
abbrev pub first_remaining : {D : Type 0} → (D → Option (List ℕ)) → HeadFirst D → Option (List ℕ)
first_remaining remaining first = prepend_known (drop first.given (head_bytes first.head)) (place_remaining remaining first.place)
