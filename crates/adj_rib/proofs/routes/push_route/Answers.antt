use Rattle.std.proofs.Common.{◌≡◌, ◌∙◌, ◌^◌, ◌<◌, ◌++◌, List, ℕ, length, ap, arith}
use Rattle.std.proofs.lemmas.Grind.{common_steps}
use Rattle.adj_rib.specs.Routes.{head_of}
use Rattle.adj_rib.proofs.RouteBlocks.{written}
use Rattle.adj_rib.proofs.routes.push_route.Goals as goal

pub returns-clause-names : goal.returns-clause-names
returns-clause-names c =
    let before : List ℕ = c.if-is_empty.bytes.items in
    let route : List ℕ = c.args.route.now in
    let start : c.in-Ok.at ≡ length before = grind (arith, common_steps) in
    let len : c.in-Ok-try_from.len ≡ length route = grind (arith, common_steps) in
    let fits : length route < 2 ^ 32 = grind (arith, common_steps) in
    let headed : c.push_head.new.bytes.items ≡ before ++ head_of (length route) = grind (arith, common_steps) in
    let after : c.extend_from_slice.new.self.items ≡ (before ++ head_of (length route)) ++ route = c.in_ok-extend_from_slice.ensures.items ∙ ap (λ (b : List ℕ). b ++ route) headed in
    let w = written before c.extend_from_slice.new.self.items route c.in-Ok.at start after fits c.requires in
    record { named = w.0; is = w.1 }
