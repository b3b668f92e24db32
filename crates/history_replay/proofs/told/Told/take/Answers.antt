use Rattle.std.proofs.Common.{[], ◌∷◌, ◌++◌, List, sym, subst}
use Rattle.std.proofs.lemmas.List.{append-nil}
use Rattle.std.specs.List.{filter_map}
use Rattle.mrt_body.specs.Units.{damage_of, unit_of}
use Rattle.peer_units.specs.declared.unit.Damage.{Damage}
use Rattle.peer_units.specs.Plain.{Found}
use Rattle.peer_units.specs.Plain.{Unit as ReplayUnit}
use Rattle.history_replay.specs.Tellings.{Tells}
use Rattle.history_replay.proofs.told.Told.take.Goals as goal

pub returns-in_ok-take_unit-in-Unit : goal.returns-in_ok-take_unit-in-Unit
returns-in_ok-take_unit-in-Unit g c = λ units refused h.
    let after = Tells c.args.chosen.now c.args.listing c.take_unit.new.self in
    let taken = c.in_ok-take_unit-in-Unit.ensures units refused h in
    subst (λ (f : Found). after (units ++ filter_map unit_of (f ∷ [])) (refused ++ filter_map damage_of (f ∷ []))) (sym c.in-Unit.is)
    (subst (λ (r : List Damage). after (units ++ c.in-Unit.unit ∷ []) r) (sym (append-nil refused))
    (subst (λ (u : ReplayUnit). after (units ++ u ∷ []) refused) c.as_ref.ensures taken))

pub returns-in_ok-list_refusal-in-Refused : goal.returns-in_ok-list_refusal-in-Refused
returns-in_ok-list_refusal-in-Refused g c = λ units refused h.
    let after = Tells c.args.chosen.now c.args.listing c.list_refusal.new.self in
    let listed = c.in_ok-list_refusal-in-Refused.ensures c.args.chosen.now c.args.listing units refused h in
    subst (λ (f : Found). after (units ++ filter_map unit_of (f ∷ [])) (refused ++ filter_map damage_of (f ∷ []))) (sym c.in-Refused.is)
    (subst (λ (us : List ReplayUnit). after us (refused ++ c.in-Refused.damage ∷ [])) (sym (append-nil units)) listed)
