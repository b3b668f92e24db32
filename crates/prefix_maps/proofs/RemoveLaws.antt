-- What a removal leaves in the trie.
use Rattle.std.proofs.Common.{◌≡◌, ℕ, ◌+◌, ◌*◌, ◌<◌, Bool, true, false, cond, if◌then◌else◌, not, List, ◌++◌, Option, Some, None, refl, sym, ap, ◌∙◌, T, arith, subst, add-zero, Box}
use Rattle.std.specs.declared.alloc.Global.{Global}
use Rattle.std.specs.List.{All}
use Rattle.std.specs.Ordering.{eq_by_cmp}
use Rattle.std.specs.FinMap.{find, put, is_sorted}
use Rattle.std.specs.FinMap.Entries.{where_key, same_entries, is_sorted-put, is_sorted-where_key}
use Rattle.std.proofs.lemmas.List.Elements.{All-weaker, All-filter}
use Rattle.bgp_prefix.specs.Prefixes.{IpPrefix, IsIpPrefix, leading_bits, Starts}
use Rattle.bgp_prefix.specs.Keys.{key_cmp, Changes, is_nil, RouteKey}
use Rattle.prefix_maps.specs.Tries.{routes, IsTrie, IsUnder, IsRoutes, IsRoutesOf, IsUnpruned, IsRemoved, is_empty, only_child}
use Rattle.prefix_maps.specs.declared.radix.node.Branch.{Branch}
use Rattle.prefix_maps.specs.declared.radix.node.Branch.TheVariants.{Empty, Leaf, Fork, Fork'}
use Rattle.prefix_maps.specs.declared.radix.node.Fork.{Fork as ForkOf}
use Rattle.bgp_prefix.proofs.KeyLaws.{key_cmp_total, key_cmp_exact, tied_same}
use Rattle.prefix_maps.proofs.MapLaws.{Changes-put, Changes-without}
use Rattle.prefix_maps.proofs.TrieLaws.{IsFork, fork_routes, starts_as_parent, Changes_here, Changes_low_half, Changes_high_half}
use Rattle.prefix_maps.proofs.InsertLaws.{or_first, low_useful, high_useful}

-- a child lies where its parent does
pub child_under : {F V : Type 0} (b : Branch F V) (p : IpPrefix) (r len bits : ℕ) → p.len < 128 → r < 2 → IsUnder (p.len + 1) (2 * leading_bits p.len p.addr + r) b → Starts len bits p → IsUnder len bits b
child_under Empty p r len bits short h u s = tt
child_under {V} (Leaf l) p r len bits short h u s = All-weaker (λ (e : RouteKey × V). Starts (p.len + 1) (2 * leading_bits p.len p.addr + r) e.0.prefix) (λ (e : RouteKey × V). Starts len bits e.0.prefix) (λ e t. starts_as_parent len bits p e.0.prefix r short s h t) l u
child_under (Fork' q prefix low high here) p r len bits short h u s = starts_as_parent len bits p prefix r short s h u

-- a root pruned after a change of a part
pub removed_by_prune : {F V : Type 0} (old new : Branch F V) (key : RouteKey) (left : List (RouteKey × V)) → Changes (routes old) left key None → IsTrie new → routes new ≡ left → ((len bits : ℕ) → IsUnder len bits old → IsUnder len bits new) → IsRemoved old new key
removed_by_prune old new key left changes trie same under = record { trie = trie; changes = rw same changes; under = under }

unchanged_by : {V : Type 0} (b : Bool) (o : Option V) → (b ≡ true → o ≡ None) → o ≡ cond b None o
unchanged_by true o none = none refl
unchanged_by false o none = refl

twice : {A : Type 0} (b : Bool) (v o : Option A) → (b ≡ true → o ≡ None) → cond b None (cond b v o) ≡ o
twice true v o none = sym (none refl)
twice false v o none = refl

-- a key that is not there
pub nothing_removed : {F V : Type 0} (b : Branch F V) (key : RouteKey) → IsTrie b → find key_cmp key (routes b) ≡ None → IsRemoved b b key
nothing_removed b key trie none = record {
  trie = trie;
  changes = λ q. unchanged_by (eq_by_cmp key_cmp q key) (find key_cmp q (routes b)) (λ t. rw (tied_same q key t) none);
  under = λ len bits u. u;
}

-- what is left of a list of routes
abbrev pub without : {V : Type 0} → RouteKey → List (RouteKey × V) → List (RouteKey × V)
without key es = where_key key_cmp (λ x. not (eq_by_cmp key_cmp key x)) es

module _ {V : Type 0} (key : RouteKey) where
  sorted_without : (es : List (RouteKey × V)) → T (is_sorted key_cmp es) → T (is_sorted key_cmp (without key es))
  sorted_without es h = is_sorted-where_key key_cmp (λ x. not (eq_by_cmp key_cmp key x)) es h

  all_without : (P : RouteKey → Type 0) (es : List (RouteKey × V)) → All (λ e. P e.0) es → All (λ e. P e.0) (without key es)
  all_without P es h = All-filter (λ e. not (eq_by_cmp key_cmp key e.0)) (λ e. P e.0) es h

  pub routes_without : (es : List (RouteKey × V)) → IsRoutes es → IsRoutes (without key es)
  routes_without es ok = record { sorted = sorted_without es ok.sorted; known = all_without (λ k. IsIpPrefix k.prefix) es ok.known }

  pub own_without : (p : IpPrefix) (es : List (RouteKey × V)) → IsRoutesOf p es → IsRoutesOf p (without key es)
  own_without p es ok = record { sorted = sorted_without es ok.sorted; own = all_without (λ k. k.prefix ≡ p) es ok.own }

  pub under_without : (es : List (RouteKey × V)) (len bits : ℕ) → All (λ e. Starts len bits e.0.prefix) es → All (λ e. Starts len bits e.0.prefix) (without key es)
  under_without es len bits h = all_without (λ k. Starts len bits k.prefix) es h

  pub without_changes : (es : List (RouteKey × V)) → Changes es (without key es) key None
  without_changes es = Changes-without es _ key refl

  pub removed_here : {F : Type 0} → (f : ForkOf F V) → IsFork f → key.prefix ≡ f.prefix → Changes (fork_routes f) (without key f.here ++ (routes f.low ++ routes f.high)) key None
  removed_here f trie same = Changes_here f trie key (without key f.here) None same (without_changes f.here)

  -- a key that is put where it was not, and removed again
  pub put_without : (es : List (RouteKey × V)) (value : V) → T (is_sorted key_cmp es) → find key_cmp key es ≡ None → without key (put key_cmp key value es) ≡ es
  put_without es value sorted none =
      let there = put key_cmp key value es in
      same_entries key_cmp key_cmp_total key_cmp_exact (without key there) es (sorted_without there (is_sorted-put key_cmp key_cmp_total key value es sorted)) sorted
      (λ q. without_changes there q ∙ ap (cond (eq_by_cmp key_cmp q key) None) (Changes-put es there key value refl q) ∙ twice (eq_by_cmp key_cmp q key) (Some value) (find key_cmp q es) (λ t. rw (tied_same q key t) none))

held : (a : Bool) → a ≡ false → T (not a)
held true e = cc
held false e = tt

pub only_child_under : {F V : Type 0} (b : Branch F V) → IsUnpruned b → (len bits : ℕ) → IsUnder len bits b → IsUnder len bits (only_child b)
only_child_under Empty ok len bits u = tt
only_child_under (Leaf l) ok len bits u = tt
only_child_under (Fork' p prefix low high here) ok len bits u =
    elim (is_empty low) as (λ b. IsUnder len bits (if b then high else low)) [
      | true ↦ child_under high prefix 1 len bits ok.1 (omega arith) ok.4 u
      | false ↦ child_under low prefix 0 len bits ok.1 (omega arith) (subst (λ (t : ℕ). IsUnder (prefix.len + 1) t low) (sym (add-zero _)) ok.3) u
    ]

module _ {V : Type 0} (key : RouteKey) where
  -- what is left, where it is something
  pub kept_leaf : {F : Type 0} → (l new : List (RouteKey × V)) → IsTrie {F = F} (Leaf l) → new ≡ without key l → is_nil new ≡ false → IsRemoved {F = F} (Leaf l) (Leaf new) key
  kept_leaf l new trie is some =
      let routes : IsRoutes new = rw is (routes_without key l trie.0) in
      record {
        trie = (routes, held (is_nil new) some);
        changes = rw is (without_changes key l);
        under = λ len bits u. rw is (under_without key l len bits u);
      }

  kept_box : {F : Type 0} → (old box : Box (ForkOf F V) Global) (f : ForkOf F V) → box.value ≡ f → old.value.prefix ≡ f.prefix → IsFork f → Changes (fork_routes old.value) (fork_routes f) key None → IsRemoved (Fork old) (Fork box) key
  kept_box old box f is at fork changes =
      let a : IsFork box.value = rw is fork in
      let b : Changes (fork_routes old.value) (fork_routes box.value) key None = rw is changes in
      let p : old.value.prefix ≡ box.value.prefix = rw is at in
      record { trie = a; changes = b; under = λ len bits u. subst (Starts len bits) p u }

  pub kept_here : {F : Type 0} → (old box : Box (ForkOf F V) Global) (here : List (RouteKey × V)) → IsFork old.value → key.prefix ≡ old.value.prefix → box.value ≡ record old.value { here = here } → here ≡ without key old.value.here → is_nil here ≡ false → IsRemoved (Fork old) (Fork box) key
  kept_here old box here trie same is left some =
      let f = old.value in
      let own : IsRoutesOf f.prefix here = rw left (own_without key f.prefix f.here trie.2) in
      let changes : Changes (fork_routes f) (here ++ (routes f.low ++ routes f.high)) key None = rw left (removed_here key f trie same) in
      kept_box old box _ is refl (trie.0, trie.1, own, trie.3, trie.4, trie.5, trie.6, or_first _ _ (held (is_nil here) some)) changes

  pub kept_low : {F : Type 0} → (old box : Box (ForkOf F V) Global) (low : Branch F V) → IsFork old.value → (old.value.prefix.len < key.prefix.len) × (leading_bits (old.value.prefix.len + 1) key.prefix.addr ≡ 2 * leading_bits old.value.prefix.len key.prefix.addr) → box.value ≡ record old.value { low = low } → IsRemoved old.value.low low key → is_empty low ≡ false → IsRemoved (Fork old) (Fork box) key
  kept_low old box low trie direction is done some =
      let f = old.value in
      kept_box old box _ is refl (trie.0, trie.1, trie.2, done.under _ _ trie.3, trie.4, done.trie, trie.6, rw some (low_useful (not (is_nil f.here)) (not (is_empty f.low)) (not (is_empty f.high)) trie.7)) (Changes_low_half f trie key low None direction.0 direction.1 done.changes)

  pub kept_high : {F : Type 0} → (old box : Box (ForkOf F V) Global) (high : Branch F V) → IsFork old.value → (old.value.prefix.len < key.prefix.len) × (leading_bits (old.value.prefix.len + 1) key.prefix.addr ≡ 2 * leading_bits old.value.prefix.len key.prefix.addr + 1) → box.value ≡ record old.value { high = high } → IsRemoved old.value.high high key → is_empty high ≡ false → IsRemoved (Fork old) (Fork box) key
  kept_high old box high trie direction is done some =
      let f = old.value in
      kept_box old box _ is refl (trie.0, trie.1, trie.2, trie.3, done.under _ _ trie.4, trie.5, done.trie, rw some (high_useful (not (is_nil f.here)) (not (is_empty f.low)) (not (is_empty f.high)) trie.7)) (Changes_high_half f trie key high None direction.0 direction.1 done.changes)
