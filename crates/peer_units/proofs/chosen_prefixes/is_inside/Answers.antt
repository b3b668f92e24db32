use Rattle.std.proofs.Common.{◌<◌, ◌∙◌, arith}
use Rattle.peer_units.proofs.NamedLaws.{inside_here, inside_first, inside_last, splits}
use Rattle.peer_units.proofs.chosen_prefixes.is_inside.Goals as goal

pub returns-in-Ok : goal.returns-in-Ok
returns-in-Ok g c = inside_here c.args.names.now c.args.prefix.now c.requires.order c.in-Ok.field-0 c.in-Ok.ensures.bound c.in-Ok.ensures.position

pub returns-in-Err-eq0 : goal.returns-in-Err-eq0
returns-in-Err-eq0 g c = inside_first c.args.names.now c.args.prefix.now c.requires.order (splits c.args.names.now c.args.prefix.now c.requires.order 0 c.binary_search.result (cc) c.binary_search.ensures.position)

pub returns-in-Err : goal.returns-in-Err
returns-in-Err g c =
    let other = c.in-Err.behind-test.1 in
    let some : 0 < c.in-Err.behind = omega (arith, other) in
    c.covers.ensures
    ∙ inside_last c.args.names.now c.args.prefix.now c.requires.order c.in-Err.behind c.index-names-behind.result c.index-names-behind.result c.requires.apart
    (splits c.args.names.now c.args.prefix.now c.requires.order c.in-Err.behind c.binary_search.result c.in-Err.is c.binary_search.ensures.position) some c.in-Err.ensures.bound c.index-names-behind.is
