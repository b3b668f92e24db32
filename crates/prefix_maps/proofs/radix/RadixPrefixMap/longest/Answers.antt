use Rattle.prefix_maps.specs.Tries.{routes}
use Rattle.prefix_maps.proofs.OrderLaws.{keys_known, routes_sorted}
use Rattle.prefix_maps.proofs.LongestLaws.{longest_found, longest_none}
use Rattle.prefix_maps.proofs.radix.RadixPrefixMap.longest.Goals as goal

pub returns-clause-found : goal.returns-clause-found
returns-clause-found g c =
    let root = c.self.inside.root in
    let trie = c.self.invariant.0 in
    rw (← c.self.view_is) (longest_found (g.F.Family.bits c.args.addr) (routes root) (routes_sorted root trie) (keys_known root trie) _ c.longest.ensures)

pub returns-clause-none : goal.returns-clause-none
returns-clause-none g c =
    let root = c.self.inside.root in
    let trie = c.self.invariant.0 in
    rw (← c.self.view_is) (longest_none (g.F.Family.bits c.args.addr) (routes root) (routes_sorted root trie) (keys_known root trie) _ c.longest.ensures)
