-- What a replayer took, for a replay by lanes: its rounds take what came, as seats do.
use Rattle.std.proofs.Common.{◌≡◌, ℕ, List, [], ◌++◌, Option, Some, None, refl, sym, ap, ◌∙◌, subst, append_assoc}
use Rattle.std.specs.Prelude.{option_to_list}
use Rattle.std.specs.List.{filter_map}
use Rattle.std.proofs.lemmas.List.{append-nil}
use Rattle.std.proofs.lemmas.List.Elements.{filter_map-append}
use Rattle.peer_units.specs.declared.unit.Damage.{Damage}
use Rattle.peer_units.specs.Plain.{Found}
use Rattle.peer_units.specs.Plain.{Unit as ReplayUnit}
use Rattle.mrt_body.specs.Units.{unit_of, damage_of}
use Rattle.lane_deal.specs.Replayers.{ReplayerState, ReplayerStandsFor}
use Rattle.lane_deal.specs.Rounds.{PlaysRound}
use Rattle.lane_deal.specs.ToDeal.{to_deal}
use Rattle.mrt_replay.specs.Replays.{DealtAll}

pub units_to_deal : (blocked_unit : Option ReplayUnit) (items : List Found) → filter_map unit_of (to_deal blocked_unit items) ≡ option_to_list blocked_unit ++ filter_map unit_of items
units_to_deal None items = refl
units_to_deal (Some unit) items = refl

refused_to_deal : (blocked_unit : Option ReplayUnit) (items : List Found) → filter_map damage_of (to_deal blocked_unit items) ≡ filter_map damage_of items
refused_to_deal None items = refl
refused_to_deal (Some unit) items = refl

-- a round that dealt and listed these of what came
pub played_took : (dealing : ℕ → ℕ → ℕ) (capacity batch : ℕ) (old new : ReplayerState) (items done : List Found) → PlaysRound dealing capacity batch old new items [] done
    → (units : List ReplayUnit) (refused : List Damage) → DealtAll dealing capacity old units refused → DealtAll dealing capacity new (units ++ filter_map unit_of items) (refused ++ filter_map damage_of items)
played_took dealing capacity batch old new items done p units refused h =
    let units_are : option_to_list old.blocked_unit ++ filter_map unit_of items ≡ filter_map unit_of done ++ option_to_list new.blocked_unit =
    sym (units_to_deal old.blocked_unit items) ∙ ap (filter_map unit_of) p.order ∙ filter_map-append unit_of done (to_deal new.blocked_unit [])
    ∙ ap (λ l. filter_map unit_of done ++ l) (units_to_deal new.blocked_unit [] ∙ append-nil (option_to_list new.blocked_unit)) in
    let refused_are : filter_map damage_of items ≡ filter_map damage_of done =
    sym (refused_to_deal old.blocked_unit items) ∙ ap (filter_map damage_of) p.order ∙ filter_map-append damage_of done (to_deal new.blocked_unit [])
    ∙ ap (λ l. filter_map damage_of done ++ l) (refused_to_deal new.blocked_unit []) ∙ append-nil (filter_map damage_of done) in
    record {
      dealt = h.dealt ++ filter_map unit_of done;
      whole = ap (λ l. l ++ filter_map unit_of items) h.whole ∙ append_assoc h.dealt (option_to_list old.blocked_unit) (filter_map unit_of items) ∙ ap (λ l. h.dealt ++ l) units_are
          ∙ sym (append_assoc h.dealt (filter_map unit_of done) (option_to_list new.blocked_unit));
      stands = subst (λ l. ReplayerStandsFor dealing capacity (h.dealt ++ filter_map unit_of done) l new) (ap (λ l. refused ++ l) (sym refused_are)) (p.stands h.dealt refused h.stands);
    }

-- where no unit is blocked, all was dealt
pub all_dealt : (dealing : ℕ → ℕ → ℕ) (capacity : ℕ) (r : ReplayerState) (units : List ReplayUnit) (refused : List Damage) → r.blocked_unit ≡ None → DealtAll dealing capacity r units refused → ReplayerStandsFor dealing capacity units refused r
all_dealt dealing capacity r units refused none h =
    let all : h.dealt ≡ units = sym (h.whole ∙ ap (λ k. h.dealt ++ option_to_list k) none ∙ append-nil h.dealt) in
    subst (λ l. ReplayerStandsFor dealing capacity l refused r) all h.stands
