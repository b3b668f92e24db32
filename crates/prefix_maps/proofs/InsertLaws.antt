-- What an insert leaves in the trie.
use Rattle.std.proofs.Common.{◌≡◌, ◌≢◌, ℕ, ◌+◌, ◌-◌, ◌*◌, ◌/◌, ◌<◌, ◌≤◌, Bool, true, false, cond, not, ◌||◌, ◌&&◌, List, [], ◌∷◌, ◌++◌, Some, None, refl, sym, ap, ◌∙◌, T, arith, subst, Box, inl, inr, add-zero}
use Rattle.std.specs.declared.alloc.Global.{Global}
use Rattle.std.specs.List.{All}
use Rattle.std.specs.Ordering.{eq_by_cmp}
use Rattle.std.specs.FinMap.{find, put}
use Rattle.std.specs.FinMap.Entries.{find-append, is_sorted-put, by_order}
use Rattle.std.specs.declared.cmp.Ordering.TheVariants.{Less, Equal, Greater}
use Rattle.std.proofs.lemmas.Bool.{cases_lt}
use Rattle.std.proofs.lemmas.List.{append-nil}
use Rattle.std.proofs.lemmas.List.Elements.{All-cons, All-nil}
use Rattle.bgp_prefix.specs.Prefixes.{IpPrefix, IsIpPrefix, network_of, leading_bits, Starts}
use Rattle.bgp_prefix.specs.Keys.{key_cmp, Changes, is_nil, RouteKey}
use Rattle.prefix_maps.specs.Tries.{routes, IsTrie, IsUnder, IsRoot, IsRoutes, IsRoutesOf, IsForkOf, IsInserted, branch_of, is_empty}
use Rattle.prefix_maps.specs.declared.radix.node.Branch.{Branch}
use Rattle.prefix_maps.specs.declared.radix.node.Branch.TheVariants.{Empty, Leaf, Fork, Fork'}
use Rattle.prefix_maps.specs.declared.radix.node.Fork.{Fork as ForkOf}
use Rattle.bgp_prefix.proofs.Bits.{share_fewer, network_bits, IsIpPrefix-network, half}
use Rattle.bgp_prefix.proofs.KeyLaws.{key_cmp_total}
use Rattle.prefix_maps.proofs.MapLaws.{Changes-put}
use Rattle.prefix_maps.proofs.OrderLaws.{All-parts, sorted_parts}
use Rattle.bgp_prefix.proofs.SortedMaps.{of_put}
use Rattle.prefix_maps.proofs.TrieLaws.{find_outside, IsFork, fork_routes, Changes_here, Changes_low, Changes_high}

-- what an insert by a new fork leaves
pub record IsForkInserted {F V : Type 0} (old : Branch F V) (f : ForkOf F V) (key : RouteKey) (value : V) : Type 0 where
  pub fork : IsFork f
  pub changes : Changes (routes old) (fork_routes f) key (Some value)
  pub under : (len bits : ℕ) → IsUnder len bits old → Starts len bits key.prefix → Starts len bits f.prefix

pub inserted_box : {F V : Type 0} (old : Branch F V) (key : RouteKey) (value : V) (f : ForkOf F V) (box : Box (ForkOf F V) Global) → box.value ≡ f → IsForkInserted old f key value → IsInserted old (Fork box) key value
inserted_box old key value f box is done =
    let there : IsForkInserted old box.value key value = rw is done in
    record {
      trie = there.fork;
      changes = there.changes;
      under = there.under;
      held = refl;
    }

-- a branch lies where its root's prefix does
pub root_under : {F V : Type 0} (b : Branch F V) (at : IpPrefix) (len bits : ℕ) → IsRoot at b → Starts len bits at → IsUnder len bits b
root_under Empty at len bits root s = tt
root_under (Leaf l) at len bits root s = absurd root
root_under (Fork' p prefix low high here) at len bits root s = rw root s

pub root_starts : {F V : Type 0} (b : Branch F V) (at : IpPrefix) (len bits : ℕ) → IsRoot at b → IsUnder len bits b → Starts len bits at
root_starts Empty at len bits root u = absurd root
root_starts (Leaf l) at len bits root u = absurd root
root_starts (Fork' p prefix low high here) at len bits root u = subst (Starts len bits) root u

root_is : {F V : Type 0} (b : Branch F V) (at : IpPrefix) → IsRoot at b → is_empty b ≡ false
root_is Empty at root = absurd root
root_is (Leaf l) at root = absurd root
root_is (Fork' p prefix low high here) at root = refl

-- a list of one route
alone_routes : {V : Type 0} (key : RouteKey) (value : V) → IsIpPrefix key.prefix → IsRoutes ((key, value) ∷ [])
alone_routes {V} key value known = record { sorted = tt; known = All-cons (λ (e : RouteKey × V). IsIpPrefix e.0.prefix) (key, value) [] known (All-nil _) }

alone_own : {V : Type 0} (key : RouteKey) (value : V) (p : IpPrefix) → key.prefix ≡ p → IsRoutesOf p ((key, value) ∷ [])
alone_own {V} key value p same = record { sorted = tt; own = All-cons (λ (e : RouteKey × V). e.0.prefix ≡ p) (key, value) [] same (All-nil _) }

none_own : {V : Type 0} (p : IpPrefix) → IsRoutesOf {V = V} p []
none_own p = record { sorted = tt; own = All-nil _ }

alone_under : {V : Type 0} (key : RouteKey) (value : V) (len bits : ℕ) → Starts len bits key.prefix → All (λ (e : RouteKey × V). Starts len bits e.0.prefix) ((key, value) ∷ [])
alone_under {V} key value len bits s = All-cons (λ (e : RouteKey × V). Starts len bits e.0.prefix) (key, value) [] s (All-nil _)

pub inserted_alone : {F V : Type 0} (key : RouteKey) (value : V) → IsIpPrefix key.prefix → IsInserted {F = F} Empty (Leaf ((key, value) ∷ [])) key value
inserted_alone key value known = record {
  trie = (alone_routes key value known, tt);
  changes = λ q. refl;
  under = λ len bits u s. alone_under key value len bits s;
  held = refl;
}

pub or_first : (a b : Bool) → T a → T (a || b)
or_first true b h = tt
or_first false b h = absurd h

-- two prefixes of at least n bits share n and no more
pub record IsSharedLen (p q : IpPrefix) (n : ℕ) : Type 0 where
  pub in_p : n ≤ p.len
  pub in_q : n ≤ q.len
  pub shared : leading_bits n p.addr ≡ leading_bits n q.addr
  pub longest : n < p.len → n < q.len → leading_bits (n + 1) p.addr ≢ leading_bits (n + 1) q.addr

other_bit : (x y t r : ℕ) → x ≡ 2 * t + r → r < 2 → y / 2 ≡ t → x ≢ y → y ≡ 2 * t + (1 - r)
other_bit x y t r e h half_y apart = omega (arith, e, half_y, apart)

module _ {F V : Type 0} (old : Branch F V) (at : IpPrefix) (key : RouteKey) (value : V) (trie : IsTrie old) (root : IsRoot at old) (known_at : IsIpPrefix at) (known : IsIpPrefix key.prefix) (apart : Starts at.len (leading_bits at.len at.addr) key.prefix → ⊥) (n : ℕ) (shared : IsSharedLen at key.prefix n) where
  not_found : find key_cmp key (routes old) ≡ None
  not_found = find_outside old trie at.len (leading_bits at.len at.addr) (root_under old at at.len _ root (record { long = omega arith; shared = refl })) key apart

  shorter : n < at.len
  shorter = elim (cases_lt n at.len) [
    | inl h ↦ h
    | inr h ↦
        let same : n ≡ at.len = omega (arith, shared.in_p) in
        absurd (apart (record { long = omega (arith, shared.in_q); shared = sym (subst (λ (m : ℕ). leading_bits m at.addr ≡ leading_bits m key.prefix.addr) same shared.shared) }))
  ]

  -- the root's half of a prefix that shares n bits with it
  root_half : (c r : ℕ) → leading_bits n c ≡ leading_bits n at.addr → leading_bits (n + 1) at.addr ≡ 2 * leading_bits n at.addr + r → IsUnder (n + 1) (2 * leading_bits n c + r) old
  root_half c r same bit = root_under old at (n + 1) _ root (record { long = omega (arith, shorter); shared = rw same bit })

  root_low : (c : ℕ) → leading_bits n c ≡ leading_bits n at.addr → leading_bits (n + 1) at.addr ≡ 2 * leading_bits n at.addr + 0 → IsUnder (n + 1) (2 * leading_bits n c) old
  root_low c same bit = subst (λ (t : ℕ). IsUnder (n + 1) t old) (add-zero (2 * leading_bits n c)) (root_half c 0 same bit)

  -- a fork at the key's prefix, over the old branch
  pub inserted_above : key.prefix.len ≡ n → (is_high : Bool) → leading_bits (n + 1) at.addr ≡ 2 * leading_bits n at.addr + cond is_high 1 0 → let f : ForkOf F V = record { prefix = key.prefix; low = Empty; high = Empty; here = (key, value) ∷ [] } in IsForkInserted old (cond is_high (record f { high = old }) (record f { low = old })) key value
  inserted_above len true bit = record {
    fork = (known, omega (arith, len, shorter, known_at.short), alone_own key value key.prefix refl, tt, rw len (root_half key.prefix.addr 1 (sym shared.shared) bit), tt, trie, tt);
    changes = λ q. refl;
    under = λ len bits u s. s;
  }
  inserted_above len false bit = record {
    fork = (known, omega (arith, len, shorter, known_at.short), alone_own key value key.prefix refl, rw len (root_low key.prefix.addr (sym shared.shared) bit), tt, trie, tt, tt);
    changes = λ q. ap (λ (es : List (RouteKey × V)). cond (eq_by_cmp key_cmp q key) (Some value) (find key_cmp q es)) (append-nil (routes old));
    under = λ len bits u s. s;
  }

  fork_under : (len bits : ℕ) → IsUnder len bits old → Starts len bits key.prefix → len ≤ n
  fork_under len bits u s =
      let there : Starts len bits at = root_starts old at len bits root u in
      elim (cases_lt n len) [
        | inl h ↦ absurd (shared.longest shorter (omega (arith, h, s.long)) (share_fewer (n + 1) len at.addr key.prefix.addr (omega (arith, h)) (omega (arith, s.long, known.short)) (there.shared ∙ sym s.shared)))
        | inr h ↦ h
      ]

  -- a fork at the shared bits, over the old branch and a new leaf
  pub inserted_between : (c : IpPrefix) → c ≡ record { addr = network_of at.addr n; len = n } → key.prefix.len ≢ n → (is_high : Bool) → leading_bits (n + 1) at.addr ≡ 2 * leading_bits n at.addr + cond is_high 1 0 → let f : ForkOf F V = record { prefix = c; low = Empty; high = Empty; here = [] } in let g : ForkOf F V = cond (not is_high) (record f { high = Leaf ((key, value) ∷ []) }) (record f { low = Leaf ((key, value) ∷ []) }) in IsForkInserted old (cond is_high (record g { high = old }) (record g { low = old })) key value
  inserted_between c is longer is_high bit = rw is (between is_high bit)
    where
      leaf : Branch F V
      leaf = Leaf ((key, value) ∷ [])

      new : IsTrie leaf
      new = (alone_routes key value known, tt)

      cut : IpPrefix
      cut = record { addr = network_of at.addr n; len = n }

      bits_of_cut : leading_bits n cut.addr ≡ leading_bits n at.addr
      bits_of_cut = network_bits at.addr n

      below_key : n < key.prefix.len
      below_key = omega (arith, shared.in_q, longer)

      key_bit : (r : ℕ) → leading_bits (n + 1) at.addr ≡ 2 * leading_bits n at.addr + r → r < 2 → Starts (n + 1) (2 * leading_bits n cut.addr + (1 - r)) key.prefix
      key_bit r e h = record {
        long = omega (arith, below_key);
        shared = rw bits_of_cut (other_bit _ _ (leading_bits n at.addr) r e h (half key.prefix.addr n (omega (arith, shorter, known_at.short)) ∙ sym shared.shared) (shared.longest shorter below_key));
      }

      key_low : leading_bits (n + 1) at.addr ≡ 2 * leading_bits n at.addr + 1 → Starts (n + 1) (2 * leading_bits n cut.addr) key.prefix
      key_low e = let s = key_bit 1 e (omega arith) in record { long = s.long; shared = s.shared ∙ add-zero _ }

      cut_under : (len bits : ℕ) → IsUnder len bits old → Starts len bits key.prefix → Starts len bits cut
      cut_under len bits u s =
          let there : Starts len bits at = root_starts old at len bits root u in
          let long : len ≤ n = fork_under len bits u s in
          record { long = long; shared = share_fewer len n cut.addr at.addr long (omega (arith, shorter, known_at.short)) bits_of_cut ∙ there.shared }

      root_held : is_empty old ≡ false
      root_held = root_is old at root

      known_cut : IsIpPrefix cut
      known_cut = IsIpPrefix-network at.addr n known_at.fits (omega (arith, shorter, known_at.short))

      between : (is_high : Bool) → leading_bits (n + 1) at.addr ≡ 2 * leading_bits n at.addr + cond is_high 1 0 → let f : ForkOf F V = record { prefix = cut; low = Empty; high = Empty; here = [] } in let g : ForkOf F V = cond (not is_high) (record f { high = leaf }) (record f { low = leaf }) in IsForkInserted old (cond is_high (record g { high = old }) (record g { low = old })) key value
      between true bit = record {
        fork = (known_cut, omega (arith, shorter, known_at.short), none_own cut, alone_under key value _ _ (key_low bit), root_half cut.addr 1 bits_of_cut bit, new, trie, rw root_held tt);
        changes = λ q. refl;
        under = cut_under;
      }
      between false bit = record {
        fork = (known_cut, omega (arith, shorter, known_at.short), none_own cut, root_low cut.addr bits_of_cut bit, alone_under key value _ _ (key_bit 0 bit (omega arith)), trie, new, rw root_held tt);
        changes = λ q. find-append key_cmp key_cmp_total (routes old) key value q not_found;
        under = cut_under;
      }

-- a value among routes
put_held : {V : Type 0} (key : RouteKey) (value : V) (es : List (RouteKey × V)) → T (not (is_nil (put key_cmp key value es)))
put_held key value [] = tt
put_held key value (e ∷ es) = elim (key_cmp key e.0) as (λ r. T (not (is_nil (by_order r ((key, value) ∷ e ∷ es) ((e.0, value) ∷ es) (e ∷ put key_cmp key value es))))) [ Less ↦ tt | Equal ↦ tt | Greater ↦ tt ]

put_routes : {V : Type 0} (key : RouteKey) (value : V) (es : List (RouteKey × V)) → IsRoutes es → IsIpPrefix key.prefix → IsRoutes (put key_cmp key value es)
put_routes key value es ok known = record { sorted = is_sorted-put key_cmp key_cmp_total key value es ok.sorted; known = of_put (λ k. IsIpPrefix k.prefix) key value es known ok.known }

-- a branch of a list of routes
branch_trie : (F : Type 0) {V : Type 0} (es : List (RouteKey × V)) → IsRoutes es → IsTrie {F = F} (branch_of es)
branch_trie F [] ok = tt
branch_trie F (e ∷ es) ok = (ok, tt)

branch_routes : (F : Type 0) {V : Type 0} (es : List (RouteKey × V)) → routes {F = F} (branch_of es) ≡ es
branch_routes F [] = refl
branch_routes F (e ∷ es) = refl

branch_under : (F : Type 0) {V : Type 0} (es : List (RouteKey × V)) (len bits : ℕ) → All (λ e. Starts len bits e.0.prefix) es → IsUnder {F = F} len bits (branch_of es)
branch_under F [] len bits h = tt
branch_under F (e ∷ es) len bits h = h

branch_held : (F : Type 0) {V : Type 0} (es : List (RouteKey × V)) → is_empty {F = F} (branch_of es) ≡ is_nil es
branch_held F [] = refl
branch_held F (e ∷ es) = refl

routes_parts : {V : Type 0} (es fs : List (RouteKey × V)) → IsRoutes (es ++ fs) → IsRoutes es × IsRoutes fs
routes_parts {V} es fs ok =
    let sorted = sorted_parts es fs ok.sorted in
    let known = All-parts (λ (e : RouteKey × V). IsIpPrefix e.0.prefix) es fs ok.known in
    (record { sorted = sorted.0; known = known.0 }, record { sorted = sorted.1; known = known.1 })

module _ {F V : Type 0} (es : List (RouteKey × V)) (f : ForkOf F V) (ok : IsRoutes es) (of : IsForkOf es f) where
  all : f.here ++ (of.low ++ of.high) ≡ es
  all = of.split.all

  in_parts : IsRoutes f.here × IsRoutes of.low × IsRoutes of.high
  in_parts =
      let whole : IsRoutes (f.here ++ (of.low ++ of.high)) = rw all ok in
      let outer = routes_parts f.here (of.low ++ of.high) whole in
      let inner = routes_parts of.low of.high outer.1 in
      (outer.0, inner.0, inner.1)

  -- the fork of a list of routes is one, and has them
  pub fork_trie : IsFork f
  fork_trie = (
    of.split.known,
    of.split.short,
    record { sorted = in_parts.0.sorted; own = of.split.own },
    rw of.low_is (branch_under F of.low _ _ of.split.lower),
    rw of.high_is (branch_under F of.high _ _ of.split.higher),
    rw of.low_is (branch_trie F of.low in_parts.1),
    rw of.high_is (branch_trie F of.high in_parts.2),
    rw (of.low_is, of.high_is, branch_held F of.low, branch_held F of.high) of.split.held,
  )

  pub same_routes : fork_routes f ≡ es
  same_routes = rw (of.low_is, of.high_is, branch_routes F of.low, branch_routes F of.high) all

-- a fork with one child more is useful where it was
pub low_useful : (a b c : Bool) → T (a || (b && c)) → T (a || (true && c))
low_useful true b c h = tt
low_useful false true c h = h
low_useful false false c h = absurd h

pub high_useful : (a b c : Bool) → T (a || (b && c)) → T (a || (b && true))
high_useful true b c h = tt
high_useful false true c h = tt
high_useful false false c h = absurd h

module _ {V : Type 0} (key : RouteKey) (value : V) where
  put_under : (es : List (RouteKey × V)) (len bits : ℕ) → All (λ e. Starts len bits e.0.prefix) es → Starts len bits key.prefix → All (λ e. Starts len bits e.0.prefix) (put key_cmp key value es)
  put_under es len bits u s = of_put (λ k. Starts len bits k.prefix) key value es s u

  pub inserted_in_leaf : {F : Type 0} → (old new : List (RouteKey × V)) → IsTrie {F = F} (Leaf old) → IsIpPrefix key.prefix → new ≡ put key_cmp key value old → IsInserted {F = F} (Leaf old) (Leaf new) key value
  inserted_in_leaf old new trie known is = rw is (record {
    trie = (put_routes key value old trie.0 known, put_held key value old);
    changes = Changes-put old _ key value refl;
    under = put_under old;
    held = refl;
  })

  -- a leaf that becomes a fork
  pub inserted_split : {F : Type 0} → (old new : List (RouteKey × V)) (box : Box (ForkOf F V) Global) → IsTrie {F = F} (Leaf old) → IsIpPrefix key.prefix → new ≡ put key_cmp key value old → IsForkOf new box.value → IsInserted (Leaf old) (Fork box) key value
  inserted_split old new box trie known is of =
      let there : IsForkOf (put key_cmp key value old) box.value = rw is at of in
      let ok = put_routes key value old trie.0 known in
      record {
        trie = fork_trie _ box.value ok there;
        changes = Changes-put old _ key value (same_routes _ box.value ok there);
        under = λ len bits u s. there.split.under len bits (put_under old len bits u s);
        held = refl;
      }

  pub inserted_in_fork : {F : Type 0} → (old new : Box (ForkOf F V) Global) → IsFork old.value → key.prefix ≡ old.value.prefix → new.value ≡ record old.value { here = put key_cmp key value old.value.here } → IsInserted (Fork old) (Fork new) key value
  inserted_in_fork old new trie same is =
      let f = old.value in
      let here = put key_cmp key value f.here in
      let own : IsRoutesOf f.prefix here = record { sorted = is_sorted-put key_cmp key_cmp_total key value f.here trie.2.sorted; own = of_put (λ k. k.prefix ≡ f.prefix) key value f.here same trie.2.own } in
      inserted_box (Fork old) key value _ new is (record {
        fork = (trie.0, trie.1, own, trie.3, trie.4, trie.5, trie.6, or_first _ _ (put_held key value f.here));
        changes = Changes_here f trie key here (Some value) same (Changes-put f.here here key value refl);
        under = λ len bits u s. u;
      })

  pub inserted_low : {F : Type 0} → (old new : Box (ForkOf F V) Global) (low : Branch F V) → IsFork old.value → Starts (old.value.prefix.len + 1) (2 * leading_bits old.value.prefix.len old.value.prefix.addr) key.prefix → new.value ≡ record old.value { low = low } → IsInserted old.value.low low key value → IsInserted (Fork old) (Fork new) key value
  inserted_low old new low trie starts is done =
      let f = old.value in
      inserted_box (Fork old) key value _ new is (record {
        fork = (trie.0, trie.1, trie.2, done.under _ _ trie.3 starts, trie.4, done.trie, trie.6, rw done.held (low_useful (not (is_nil f.here)) (not (is_empty f.low)) (not (is_empty f.high)) trie.7));
        changes = Changes_low f trie key low (Some value) starts done.changes;
        under = λ len bits u s. u;
      })

  pub inserted_high : {F : Type 0} → (old new : Box (ForkOf F V) Global) (high : Branch F V) → IsFork old.value → Starts (old.value.prefix.len + 1) (2 * leading_bits old.value.prefix.len old.value.prefix.addr + 1) key.prefix → new.value ≡ record old.value { high = high } → IsInserted old.value.high high key value → IsInserted (Fork old) (Fork new) key value
  inserted_high old new high trie starts is done =
      let f = old.value in
      inserted_box (Fork old) key value _ new is (record {
        fork = (trie.0, trie.1, trie.2, trie.3, done.under _ _ trie.4 starts, trie.5, done.trie, rw done.held (high_useful (not (is_nil f.here)) (not (is_empty f.low)) (not (is_empty f.high)) trie.7));
        changes = Changes_high f trie key high (Some value) starts done.changes;
        under = λ len bits u s. u;
      })
