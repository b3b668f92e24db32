use Rattle.std.proofs.Common.{◌≡◌, ◌++◌, ℕ, List, sym, ap, subst, ◌∙◌}
use Rattle.bgp_update.specs.KeptBytes.{IsShort}
use Rattle.mrt_writing.specs.Updates.{reach_value}
use Rattle.mrt_writing.proofs.ReachLaws.{reach_short}
use Rattle.mrt_writing.proofs.route_fields.push_update_attributes.Goals as goal

pub push_within-requires-2-clause-reach : goal.push_within-requires-2-clause-reach
push_within-requires-2-clause-reach g c =
    let value : List ℕ = reach_value g.F.Unicast.family c.args.add_path c.args.key.now c.in-Some.hop in
    let same : c.as_slice.result.now ≡ value = c.as_slice.ensures.value ∙ c.in_ok-push_reach_value.ensures ∙ ap (λ (l : List ℕ). l ++ value) c.clear.ensures.items in
    subst IsShort (sym same) (reach_short g.F.Unicast.family c.args.add_path c.args.key.now c.in-Some.hop)
