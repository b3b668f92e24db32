use Rattle.std.proofs.Common.{◌-◌, ◌*◌, ◌∷◌, ◌∙◌, List, ℕ, length, get_or, take, drop, ap, subst, sym, arith}
use Rattle.std.proofs.lemmas.List.{take_rest}
use Rattle.bgp_update.specs.Segments.{numbers_in}
use Rattle.route_choice.specs.Cursors.{positions_left, IsCursor}
use Rattle.route_choice.proofs.CursorLaws.{behind_head}
use Rattle.route_choice.proofs.cursor.first_of.Goals as goal

pub bounds-bytes-1 : goal.bounds-bytes-1
bounds-bytes-1 c = omega (arith, (behind_head c.args.bytes.now c.requires.spelled c.requires.some).long)

pub slice_bounds-octets-count : goal.slice_bounds-octets-count
slice_bounds-octets-count c = (behind_head c.args.bytes.now c.requires.spelled c.requires.some).long

pub slice_bounds-octets-start : goal.slice_bounds-octets-start
slice_bounds-octets-start c = (behind_head c.args.bytes.now c.requires.spelled c.requires.some).long

pub slice_bounds-bytes-count : goal.slice_bounds-bytes-count
slice_bounds-bytes-count c = (behind_head c.args.bytes.now c.requires.spelled c.requires.some).cursor.room

pub slice_bounds-bytes-start : goal.slice_bounds-bytes-start
slice_bounds-bytes-start c = (behind_head c.args.bytes.now c.requires.spelled c.requires.some).cursor.room

pub invariant_of-result : goal.invariant_of-result
invariant_of-result c = (behind_head c.args.bytes.now c.requires.spelled c.requires.some).cursor.room

pub invariant_of-result-then-is_set : goal.invariant_of-result-then-is_set
invariant_of-result-then-is_set c =
    let octets : List ℕ = take (length c.args.bytes.now - 2) (drop 2 c.args.bytes.now) in
    subst (IsCursor 0) (sym (take_rest octets (get_or c.args.bytes.now 1 0 * 4))) (behind_head c.args.bytes.now c.requires.spelled c.requires.some).behind

pub first_number-requires-clause-some : goal.first_number-requires-clause-some
first_number-requires-clause-some c = (behind_head c.args.bytes.now c.requires.spelled c.requires.some).some

pub first_number-requires-clause-left : goal.first_number-requires-clause-left
first_number-requires-clause-left c = (behind_head c.args.bytes.now c.requires.spelled c.requires.some).cursor

pub returns-then-is_set : goal.returns-then-is_set
returns-then-is_set c =
    let count : ℕ = get_or c.args.bytes.now 1 0 in
    let octets : List ℕ = take (length c.args.bytes.now - 2) (drop 2 c.args.bytes.now) in
    (behind_head c.args.bytes.now c.requires.spelled c.requires.some).set (sym c.is_set.ensures ∙ c.if-is_set.true)
    ∙ ap (λ (t : List ℕ). numbers_in 4 count octets ∷ positions_left 0 t) (sym (take_rest octets (count * 4)))

pub returns-else-is_set : goal.returns-else-is_set
returns-else-is_set c = (behind_head c.args.bytes.now c.requires.spelled c.requires.some).sequence (sym c.is_set.ensures ∙ c.if-is_set.false) ∙ c.first_number.ensures
