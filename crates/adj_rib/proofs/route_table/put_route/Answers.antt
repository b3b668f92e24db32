use Rattle.std.proofs.Common.{◌∙◌, Some}
use Rattle.adj_rib.proofs.NamedRoutes.{announced, AreNamed-insert}
use Rattle.adj_rib.proofs.route_table.put_route.Goals as goal

pub returns-clause-ok : goal.returns-clause-ok
returns-clause-ok g c =
    announced g.N.Notes.keep c.args.routes.now (g.M.PrefixMap.contents c.args.table.now) (g.M.PrefixMap.contents c.insert.new.self) c.args.key c.in_ok-old.old c.in_ok-old.ensures.before c.outcome_over-outcome.result c.args.churn.now c.count.new.self c.count.ensures (g.N.Notes.kept c.args.notes.now) (g.N.Notes.kept c.note.new.self) c.args.id c.in_ok-old.ensures.ok c.outcome_over-outcome.ensures
    (c.in_ok-note.ensures ∙ (λ i. g.N.Notes.keep (g.N.Notes.kept c.args.notes.now) (record { what = c.what.ensures i; key = c.args.key; route = Some (c.route.ensures i); before = c.route_of-before.ensures i })))

pub returns-in_err-note-clause-all : goal.returns-in_err-note-clause-all
returns-in_err-note-clause-all g c = AreNamed-insert c.args.routes.now (g.M.PrefixMap.contents c.args.table.now) (g.M.PrefixMap.contents c.insert.new.self) c.args.key c.args.id c.in_ok-old.ensures.ok c.requires.id c.requires.all

pub returns-clause-all : goal.returns-clause-all
returns-clause-all g c = AreNamed-insert c.args.routes.now (g.M.PrefixMap.contents c.args.table.now) (g.M.PrefixMap.contents c.insert.new.self) c.args.key c.args.id c.in_ok-old.ensures.ok c.requires.id c.requires.all
