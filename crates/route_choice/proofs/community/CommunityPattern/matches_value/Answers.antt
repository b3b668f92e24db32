use Rattle.std.proofs.Common.{◌-◌, ◌*◌, ◌≤◌, ◌∙◌, Bool, List, ℕ, length, drop, ap, subst, sym}
use Rattle.std.specs.Prelude.{◌||◌}
use Rattle.std.specs.List.{list_any}
use Rattle.std.proofs.lemmas.List.{take_rest}
use Rattle.route_choice.specs.Communities.{matches_member, members_in}
use Rattle.route_choice.proofs.CommunityLaws.{one_tried, room_of}
use Rattle.route_choice.proofs.community.CommunityPattern.matches_value.Goals as goal

pub loop-left-preserved : goal.loop-left-preserved
loop-left-preserved c =
    let left : ℕ = c.loop-left.left in
    let rest : List ℕ = c.loop-left.rest.now in
    let size : ℕ = c.member_size-size.result in
    let behind : Bool = list_any (matches_member c.args.self) (members_in (left - 1) size (drop size rest)) in
    record {
      size = c.loop-left.invariant.size;
      room = subst (λ (t : List ℕ). (left - 1) * size ≤ length t) (sym (take_rest rest size)) (room_of left size rest c.loop-left-test.true c.loop-left.invariant.room).behind;
      same =
          ap (λ (t : List ℕ). list_any (matches_member c.args.self) (members_in (left - 1) size t)) (take_rest rest size)
          ∙ sym (one_tried (matches_member c.args.self) left size rest c.loop-left-test.true ∙ ap (λ (b : Bool). b || behind) (sym c.matches_member.ensures ∙ c.if-matches_member.false))
          ∙ c.loop-left.invariant.same;
    }
