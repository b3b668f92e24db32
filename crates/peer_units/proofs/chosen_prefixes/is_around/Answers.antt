use Rattle.std.proofs.Common.{◌∙◌, arith}
use Rattle.peer_units.proofs.NamedLaws.{around_here, around_next, around_end, splits}
use Rattle.peer_units.proofs.chosen_prefixes.is_around.Goals as goal

pub returns-in-Ok : goal.returns-in-Ok
returns-in-Ok g c = around_here c.args.names.now c.args.prefix.now c.requires c.in-Ok.field-0 c.in-Ok.ensures.bound c.in-Ok.ensures.position

pub returns-in-Err : goal.returns-in-Err
returns-in-Err g c =
    c.covers.ensures
    ∙ around_next c.args.names.now c.args.prefix.now c.requires c.in-Err.next c.index-names-next.result c.index-names-next.result c.is_known.ensures
    (splits c.args.names.now c.args.prefix.now c.requires c.in-Err.next c.binary_search.result c.in-Err.is c.binary_search.ensures.position) c.if-next-names.true c.index-names-next.is

pub returns-in-Err-2 : goal.returns-in-Err-2
returns-in-Err-2 g c =
    around_end c.args.names.now c.args.prefix.now c.requires c.in-Err.next c.is_known.ensures
    (splits c.args.names.now c.args.prefix.now c.requires c.in-Err.next c.binary_search.result c.in-Err.is c.binary_search.ensures.position) (omega (arith, c.if-next-names.false))
