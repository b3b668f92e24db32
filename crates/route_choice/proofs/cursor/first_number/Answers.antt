use Rattle.std.proofs.Common.{◌-◌, ◌∷◌, ◌∙◌, List, ℕ, ap, subst, sym}
use Rattle.std.proofs.lemmas.List.{take_rest}
use Rattle.bgp_update.specs.Segments.{numbers_in}
use Rattle.route_choice.specs.Cursors.{positions_left, IsCursor}
use Rattle.route_choice.proofs.CursorLaws.{one_number_less, cursor_behind}
use Rattle.route_choice.proofs.cursor.first_number.Goals as goal

pub invariant_of-rest : goal.invariant_of-rest
invariant_of-rest c =
    subst (IsCursor (c.args.left - 1)) (sym (take_rest c.args.bytes.now 4)) (cursor_behind c.args.left c.args.bytes.now c.requires.some c.requires.left)

pub returns : goal.returns
returns c =
    one_number_less c.args.left c.args.bytes.now c.requires.some
    ∙ ap (λ (t : List ℕ). numbers_in 4 1 c.args.bytes.now ∷ positions_left (c.args.left - 1) t) (sym (take_rest c.args.bytes.now 4))
