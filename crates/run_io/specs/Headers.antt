-- What a writer with a header holds.
use Rattle.std.specs.Prelude.{ℕ, List, Option}
use Rattle.std.specs.Io.KnownBytes.{append_known}
use Rattle.run_io.specs.declared.headed.Headed.{Headed}

abbrev pub headed_out : {W : Type 0} → Headed W → W
headed_out h = h.out

-- what is still to be written of the header
abbrev pub header_left : {W : Type 0} → Headed W → List ℕ
header_left h = h.rest.now

-- what the other writer holds, where it is known, and then what is left of the header
abbrev pub headed_contents : {W : Type 0} → (W → Option (List ℕ)) → Headed W → Option (List ℕ)
headed_contents contents h = append_known (contents h.out) (header_left h)
