-- Where no prefix is named each payload concerns a chosen one.
use Rattle.std.proofs.Common.{◌≡◌, true, List, [], ◌∷◌, refl}
use Rattle.peer_units.specs.Plain.{PrefixChoice}
use Rattle.peer_units.specs.Plain.{Payload}
use Rattle.peer_units.specs.declared.unit.Payload.TheVariants.{State, Message, Entry, Clear}
use Rattle.peer_units.specs.Choices.{is_open}
use Rattle.peer_units.specs.Selections.{concerns}

pub open_concerns : (choices : List PrefixChoice) (payload : Payload) → is_open choices ≡ true → concerns choices payload ≡ true
open_concerns [] (State from to rule) h = refl
open_concerns [] (Message bytes width add_path rules) h = refl
open_concerns [] (Entry rules key attrs) h = refl
open_concerns [] Clear h = refl
open_concerns (choice ∷ choices) payload h = absurd cc
