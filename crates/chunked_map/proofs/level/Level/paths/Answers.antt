use Rattle.std.proofs.Common.{◌∙◌, ◌++◌, ◌<◌, ap, sym, take, map, arith, length}
use Rattle.std.proofs.lemmas.List.{get_or_default, length-map, append_assoc, append-nil}
use Rattle.bgp_prefix.specs.Prefixes.{prefix_cmp}
use Rattle.bgp_prefix.specs.Maps.{paths_of}
use Rattle.bgp_prefix.specs.Keys.{RouteKey}
use Rattle.chunked_map.specs.ChunkedMaps.{in_leaves}
use Rattle.chunked_map.proofs.LastPrefixes.{paths_below, paths_until, paths_on}
use Rattle.chunked_map.proofs.NodeLaws.{node_is}
use Rattle.chunked_map.proofs.level.Level.paths.Goals as goal

pub loop-at-init : goal.loop-at-init
loop-at-init g c =
    let at = c.index_of_key-at.ensures in
    let ps = c.args.self.now.nodes.items in
    record {
      inside = omega (arith, at.in_range, length-map ps g.P.Node.routes);
      listed = rw (paths_below c.args.prefix.now (in_leaves (take c.index_of_key-at.result (map g.P.Node.routes ps))) at.before) (sym (append-nil _));
    }

pub returns-in-Greater : goal.returns-in-Greater
returns-in-Greater g c =
    let p = c.args.prefix.now in
    let x = c.index.result.now in
    c.loop-at.invariant.listed
    ∙ ap (λ t. map (λ e. (e.0, e.1.now)) c.args.all.now.items ++ t)
    (paths_until p _ (map g.P.Node.routes c.args.self.now.nodes.items) c.loop-at.at c.requires
    (λ lt d. ap (λ (k : RouteKey). prefix_cmp k.prefix p) (get_or_default c.args.self.now.firsts.items c.loop-at.at d x lt ∙ sym c.index.ensures) ∙ sym c.in-Greater.ensures))

pub loop-at-preserved : goal.loop-at-preserved
loop-at-preserved g c =
    let f = g.P.Node.routes in
    let ps = c.args.self.now.nodes.items in
    let p = c.args.prefix.now in
    let l = c.loop-at in
    let x = c.index-in_default.result.now in
    let lt : l.at < length (map f ps) = omega (arith, c.loop-at-test.true, c.len.ensures, length-map ps f) in
    record {
      inside = omega (arith, lt, length-map ps f);
      listed = c.in_ok-paths-in_default.ensures
          ∙ ap (λ t. t ++ paths_of p (f x)) l.invariant.listed
          ∙ append_assoc (map (λ e. (e.0, e.1.now)) c.args.all.now.items) (paths_of p (in_leaves (take l.at (map f ps)))) (paths_of p (f x))
          ∙ ap (λ t. map (λ e. (e.0, e.1.now)) c.args.all.now.items ++ t) (sym (paths_on p (map f ps) l.at (f x) lt (node_is f ps l.at x c.index-in_default.ensures lt)));
    }
