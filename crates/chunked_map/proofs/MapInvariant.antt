-- What a map keeps of its branches, after a change of them.
use Rattle.std.proofs.Common.{◌≡◌, ◌≢◌, ℕ, ◌+◌, ◌-◌, ◌≤◌, Bool, cond, List, length, Option, is_some, sym, ap, ◌∙◌, subst, arith}
use Rattle.std.specs.declared.cmp.Ordering.TheVariants.{Greater}
use Rattle.std.specs.FinMap.{find, put}
use Rattle.std.specs.FinMap.Entries.{length-put, length_without}
use Rattle.bgp_prefix.specs.Keys.{key_cmp, RouteKey}
use Rattle.bgp_prefix.proofs.KeyLaws.{key_cmp_total}
use Rattle.prefix_maps.proofs.RemoveLaws.{without}
use Rattle.chunked_map.specs.ChunkedMaps.{in_leaves, AreNodes, EachKey, IsMap}
use Rattle.chunked_map.proofs.KeyedLists.{each_put, each_weaker, each_without}

module _ {V : Type 0} (w : ℕ) (ks ks' : List RouteKey) (old new : List (List (RouteKey × V))) (n : ℕ) (last : RouteKey) (is : IsMap w ks old n last) (nodes : AreNodes ks' new) where
  pub map_kept : in_leaves new ≡ in_leaves old → IsMap w ks' new n last
  map_kept same = record {
    branches = nodes;
    count = is.count ∙ ap length (sym same);
    bound = subst (EachKey (λ k. key_cmp k last ≢ Greater)) (sym same) is.bound;
    short = subst (EachKey (λ k. k.prefix.len ≤ w)) (sym same) is.short;
  }

  module _ (key : RouteKey) (m : ℕ) (held : Option V) (was : held ≡ find key_cmp key (in_leaves old)) (b : Bool) (some : is_some held ≡ b) where
    -- with a route of a key, which it had or not
    pub map_put : (v : V) (raised : RouteKey) → in_leaves new ≡ put key_cmp key v (in_leaves old) → m ≡ cond b n (n + 1) → key_cmp key raised ≢ Greater → ((k : RouteKey) → key_cmp k last ≢ Greater → key_cmp k raised ≢ Greater) → key.prefix.len ≤ w → IsMap w ks' new m raised
    map_put v raised stored count up rises short = record {
      branches = nodes;
      count = count ∙ (λ i. cond ((sym some ∙ ap is_some was) i) (is.count i) (is.count i + 1)) ∙ sym (length-put key_cmp key_cmp_total key v (in_leaves old) is.branches.sorted) ∙ ap length (sym stored);
      bound = subst (EachKey (λ k. key_cmp k raised ≢ Greater)) (sym stored) (each_put (λ k. key_cmp k raised ≢ Greater) key v (in_leaves old) up (each_weaker (λ k. key_cmp k last ≢ Greater) (λ k. key_cmp k raised ≢ Greater) (in_leaves old) rises is.bound));
      short = subst (EachKey (λ k. k.prefix.len ≤ w)) (sym stored) (each_put (λ k. k.prefix.len ≤ w) key v (in_leaves old) short is.short);
    }

    -- without a key, which it had or not
    pub map_without : in_leaves new ≡ without key (in_leaves old) → m ≡ n - cond b 1 0 → IsMap w ks' new m last
    map_without left count =
        let less : cond b 1 0 + length (without key (in_leaves old)) ≡ length (in_leaves old) = (λ i. cond ((sym some ∙ ap is_some was) i) 1 0 + length (without key (in_leaves old))) ∙ length_without key_cmp key_cmp_total key (in_leaves old) is.branches.sorted in
        record {
          branches = nodes;
          count = omega (arith, count, less, is.count, ap length left);
          bound = subst (EachKey (λ k. key_cmp k last ≢ Greater)) (sym left) (each_without (λ k. key_cmp k last ≢ Greater) key (in_leaves old) is.bound);
          short = subst (EachKey (λ k. k.prefix.len ≤ w)) (sym left) (each_without (λ k. k.prefix.len ≤ w) key (in_leaves old) is.short);
        }
