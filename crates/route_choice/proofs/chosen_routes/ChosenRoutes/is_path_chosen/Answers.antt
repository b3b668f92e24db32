use Rattle.std.proofs.Common.{◌∙◌, ap, sym, arith, vec_len}
use Rattle.std.proofs.lemmas.Bool.{eqb-false}
use Rattle.route_choice.specs.Choices.{RouteChoice, meets}
use Rattle.route_choice.specs.Masks.{path_matches}
use Rattle.route_choice.proofs.ChoiceLaws.{no_path}
use Rattle.route_choice.proofs.chosen_routes.ChosenRoutes.is_path_chosen.Goals as goal

pub returns-in_default : goal.returns-in_default
returns-in_default c =
    let paths = c.self.inside.paths in
    let path = c.args.route.now.path in
    sym (no_path path paths.items (sym c.of_route.ensures ∙ c.in_default.is) (λ e. eqb-false (vec_len paths) 0 (sym c.is_empty.ensures ∙ c.if-is_empty.false) (omega (arith, e, paths.ok.0))))
    ∙ ap (λ (r : RouteChoice). meets (λ mask. path_matches mask path) r.paths) c.self.view_is
