use Rattle.std.proofs.Common.{sym}
use Rattle.std.specs.FinMap as finite
use Rattle.adj_rib.proofs.NotingLaws.{kept_same}
use Rattle.adj_rib.proofs.route_table.RouteTable.note_all.Goals as goal

pub returns-then-not-keeps_losses : goal.returns-then-not-keeps_losses
returns-then-not-keeps_losses g c = sym (kept_same g.N.Notes.keep (g.N.Notes.kept c.args.notes.now) (c.keeps_losses.ensures.none c.if-not-keeps_losses.true) (finite.entries c.args.self.now))
