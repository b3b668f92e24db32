use Rattle.std.proofs.Common.{◌≡◌, map, take}
use Rattle.std.specs.List.{fold}
use Rattle.adj_rib.specs.Histories.{lost_note}
use Rattle.adj_rib.proofs.route_table.note_lost.Given as goal

abbrev pub invariant-loop-key : goal.invariant-loop-key
invariant-loop-key g l = g.N.Notes.kept l.notes ≡ fold g.N.Notes.keep (g.N.Notes.kept l.initial.notes) (map lost_note (take l.key-index l.entries))
