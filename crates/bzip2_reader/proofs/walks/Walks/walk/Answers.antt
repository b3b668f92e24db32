use Rattle.std.proofs.Common.{ap, subst, sym}
use Rattle.bzip2_reader.specs.declared.walks.Segments.{Segments}
use Rattle.bzip2_reader.specs.Walks.{AreSegments}
use Rattle.bzip2_reader.proofs.walks.Walks.walk.Goals.{then-is_ok, else-is_ok}
use Rattle.bzip2_reader.proofs.walks.Walks.walk.Goals as goal

pub walk_all-requires : goal.walk_all-requires
walk_all-requires c = c.clear.ensures c.args.links.now

pub write-requires : goal.write-requires
write-requires c = elim c.if-is_ok.branch [
  | then-is_ok w ↦ subst (λ (s : Segments). AreSegments c.args.links.now s) (sym (ap (λ s. s.segments) w.self-is)) w.walk_all.ensures
  | else-is_ok w ↦ subst (λ (s : Segments). AreSegments c.args.links.now s) (sym (ap (λ s. s.segments) w.self-is)) (c.clear.ensures c.args.links.now)
]
