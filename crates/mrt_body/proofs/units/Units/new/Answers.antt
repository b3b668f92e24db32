use Rattle.mrt_body.proofs.FilesLaws.{fresh_found, fresh_cuts}
use Rattle.mrt_body.proofs.units.Units.new.Goals as goal

pub returns-clause-all : goal.returns-clause-all
returns-clause-all g c = rw (c.new.ensures, c.new-2.ensures, c.new-3.ensures) (fresh_found c.args.count c.args.max_records c.args.selection)

pub returns-clause-cuts : goal.returns-clause-cuts
returns-clause-cuts g c = rw (c.new.ensures, c.new-2.ensures, c.new-3.ensures) (fresh_cuts c.args.count c.args.max_records c.args.selection)
