use Rattle.std.proofs.Common.{◌≡◌, ◌∙◌, ap, sym, arith, map, take, ◌++◌, ◌∷◌, [], ◌<◌, ◌+◌, length, rules}
use Rattle.bgp_prefix.specs.Maps.{paths_of}
use Rattle.chunked_map.proofs.LeafLaws.{path_more, path_same, read_more}
use Rattle.chunked_map.proofs.leaf.LeafNode.paths.Goals as goal
use Rattle.chunked_map.proofs.leaf.LeafNode.paths.Goals.{then-eq+else-is_err, else-eq}

pub loop-at-preserved : goal.loop-at-preserved
loop-at-preserved g c =
    let l = c.loop-at in
    let es = c.args.self.now in
    let p = c.args.prefix.now in
    let k = c.key_at-key.result in
    let v = c.value_at-value.result in
    let lt : l.at < length es = omega (arith, c.loop-at-test.true, c.len.ensures) in
    record {
      inside = omega (arith, lt);
      listed = elim c.if-eq.branch [
        | then-eq+else-is_err w ↦
            let pushed : w.push.new.self.items ≡ l.all.items ++ (k.id, v) ∷ [] = search rules in
            rw w.all-is (read_more (λ e. (e.0, e.1.now)) l.all.items w.push.new.self.items (k.id, v) (map (λ e. (e.0, e.1.now)) c.args.all.now.items) (paths_of p (take l.at es)) (paths_of p (take (l.at + 1) es)) pushed l.invariant.listed (path_more p es l.at k v.now lt c.key_at-key.ensures c.value_at-value.ensures (sym w.if-eq.ensures)))
        | else-eq w ↦
            rw w.all-is (l.invariant.listed ∙ ap (λ t. map (λ e. (e.0, e.1.now)) c.args.all.now.items ++ t) (sym (path_same p es l.at k v.now lt c.key_at-key.ensures c.value_at-value.ensures (sym w.if-eq.ensures))))
      ];
    }
