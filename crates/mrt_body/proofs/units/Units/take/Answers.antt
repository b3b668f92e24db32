use Rattle.mrt_body.proofs.units.Units.take.Goals as goal

pub returns-in-IndexTable-clause-takes : goal.returns-in-IndexTable-clause-takes
returns-in-IndexTable-clause-takes g c = rw c.in-IndexTable.is (rw c.as_slice.ensures at (c.take_index.ensures.takes c.args.is_extended))

pub returns-in-Rib-clause-takes : goal.returns-in-Rib-clause-takes
returns-in-Rib-clause-takes g c = rw c.in-Rib.is (c.take_rib.ensures.takes c.args.is_extended)
