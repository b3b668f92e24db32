use Rattle.std.proofs.Common.{refl}
use Rattle.chunked_map.proofs.MapInvariant.{map_kept, map_put}
use Rattle.chunked_map.proofs.chunked_map.ChunkedMap.insert_anywhere.Goals as goal

pub invariant_of-self : goal.invariant_of-self
invariant_of-self g c = map_kept _ _ _ _ _ _ _ c.self.invariant c.in_err-before.ensures.nodes c.in_err-before.ensures.err

pub invariant_of-self-then-is_none : goal.invariant_of-self-then-is_none
invariant_of-self-then-is_none g c =
    let e = c.in_ok-before.ensures in
    map_put _ _ _ _ _ _ _ c.self.invariant e.nodes c.args.key.now _ _ e.before _ c.if-is_none.ensures c.args.value _ e.ok c.in-Some.ensures.1 c.raise_bound.ensures.key c.raise_bound.ensures.old c.requires.short

pub invariant_of-self-else-is_none : goal.invariant_of-self-else-is_none
invariant_of-self-else-is_none g c =
    let e = c.in_ok-before.ensures in
    map_put _ _ _ _ _ _ _ c.self.invariant e.nodes c.args.key.now _ _ e.before _ c.if-is_none.ensures c.args.value _ e.ok refl c.raise_bound.ensures.key c.raise_bound.ensures.old c.requires.short
