use Rattle.std.proofs.Common.{◌||◌, map, not, take}
use Rattle.std.specs.List.{filter}
use Rattle.adj_rib.specs.Steps.{withdraw}
use Rattle.bgp_prefix.specs.Keys.{among}
use Rattle.adj_rib.specs.Keeping.{counted_in}
use Rattle.adj_rib.specs.Noting.{Takes}
use Rattle.adj_rib.proofs.counted_table.CountedTable.withdraw_others.Given as goal

abbrev pub invariant-loop-key : goal.invariant-loop-key
invariant-loop-key g l = Takes g.N.Notes.keep (g.C.Chooses.is_chosen l.chosen) (map withdraw (filter (λ key. not (among l.announced key || among l.reached key)) (take l.key-index l.withdrawn))) (counted_in l.initial.self, g.N.Notes.kept l.initial.notes) (counted_in l.self, g.N.Notes.kept l.notes)
