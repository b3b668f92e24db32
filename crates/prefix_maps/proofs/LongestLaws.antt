-- The last prefix, in the order of the keys, that contains an address is the longest.
use Rattle.std.proofs.Common.{◌≡◌, ℕ, ◌<◌, ◌≤◌, Bool, true, false, cond, List, [], ◌∷◌, Option, Some, None, is_some, refl, sym, ap, ◌∙◌, subst, T, arith, inl, inr}
use Rattle.std.specs.Prelude.{IsTrue, IfSome, IfNone}
use Rattle.std.specs.declared.cmp.Ordering.TheVariants.{Less, Greater}
use Rattle.std.specs.Ordering.{eq_by_cmp, ordering_reverse}
use Rattle.std.specs.Option.{option_or}
use Rattle.std.specs.FinMap as finite
use Rattle.std.specs.FinMap.{find, is_sorted}
use Rattle.std.specs.FinMap.Entries.{below_all}
use Rattle.std.proofs.lemmas.Bool.{cases_lt, eqb-true}
use Rattle.std.proofs.lemmas.Cmp.{tied_itself}
use Rattle.std.proofs.lemmas.Option.{cond_some}
use borrow.Author.Tests.{both_ways}
use Rattle.bgp_prefix.specs.Prefixes.{IpPrefix, IsIpPrefix, leading_bits, contains, prefix_eq}
use Rattle.bgp_prefix.specs.Keys.{key_cmp, last_match, RouteKey}
use Rattle.bgp_prefix.specs.Maps.{IsLongestMatch, HasNoMatch}
use Rattle.bgp_prefix.proofs.Bits.{share_fewer, network_below}
use Rattle.bgp_prefix.proofs.KeyLaws.{key_cmp_total, tied_same, same_prefix, other_prefix}
use Rattle.prefix_maps.proofs.MapLaws.{found}
use Rattle.prefix_maps.proofs.NetworkLaws.{network_is, shorter_than_network}
use Rattle.prefix_maps.proofs.OrderLaws.{AllKeys, AllKeys-weaker, less_by_len}
use Rattle.bgp_prefix.proofs.SearchLaws.{first, second, less}
use Rattle.bgp_prefix.proofs.SortedMaps.{found_here}

neither : {A : Type 0} (x y : Option A) → option_or x y ≡ None → (x ≡ None) × (y ≡ None)
neither None y e = (refl, e)
neither (Some x) y e = cc

not_taken : {A : Type 0} (b : Bool) (x : A) → cond b (Some x) None ≡ None → b ≡ false
not_taken true x e = cc
not_taken false x e = refl

not_mutual : (j k : RouteKey) → key_cmp j k ≡ Less → key_cmp k j ≡ Less → ⊥
not_mutual j k a b = let clash : Less ≡ Greater = sym a ∙ key_cmp_total.antisymm j k ∙ ap ordering_reverse b in cc

is_some_first : {A : Type 0} (b : Bool) (x : A) (o : Option A) → b ≡ true → is_some (cond b (Some x) o) ≡ true
is_some_first b x o e = rw e refl

module _ {V : Type 0} where
  below_keys : (k : RouteKey) (es : List (RouteKey × V)) → T (below_all key_cmp k es) → AllKeys (λ j. key_cmp k j ≡ Less) es
  below_keys k [] h = tt
  below_keys k (e ∷ es) h = (less _ (first _ _ h), below_keys k es (second _ _ h))

  -- what holds of each key holds of one that is found
  pub held_key : (P : RouteKey → Type 0) (k : RouteKey) (es : List (RouteKey × V)) → AllKeys P es → is_some (find key_cmp k es) ≡ true → P k
  held_key P k [] h is = cc
  held_key P k (e ∷ es) h is =
      elim (eq_by_cmp key_cmp k e.0) as (λ b. eq_by_cmp key_cmp k e.0 ≡ b → is_some (cond b (Some e.1) (find key_cmp k es)) ≡ true → P k) [
        | true ↦ λ tie _. subst P (sym (tied_same k e.0 tie)) h.0
        | false ↦ λ _ there. held_key P k es h.1 there
      ] refl is

-- of two prefixes that contain the address the shorter is first
shorter_first : (addr : ℕ) (j k : RouteKey) → IsIpPrefix j.prefix → IsIpPrefix k.prefix → contains j.prefix addr ≡ true → contains k.prefix addr ≡ true → j.prefix.len < k.prefix.len → key_cmp j k ≡ Less
shorter_first addr j k a b in_j in_k lt =
    let of_j : leading_bits j.prefix.len addr ≡ leading_bits j.prefix.len j.prefix.addr = eqb-true _ _ in_j in
    let of_k : leading_bits k.prefix.len addr ≡ leading_bits k.prefix.len k.prefix.addr = eqb-true _ _ in_k in
    let shared : leading_bits j.prefix.len addr ≡ leading_bits j.prefix.len k.prefix.addr = share_fewer j.prefix.len k.prefix.len addr k.prefix.addr (omega (arith, lt)) b.short of_k in
    less_by_len j k (network_below j.prefix k.prefix.addr a (sym shared ∙ of_j)) lt

module _ {V : Type 0} (addr : ℕ) where
  none_match : (es : List (RouteKey × V)) → last_match es addr ≡ None → AllKeys (λ k. contains k.prefix addr ≡ false) es
  none_match [] e = tt
  none_match (f ∷ es) e = let parts = neither (last_match es addr) _ e in (not_taken _ _ parts.1, none_match es parts.0)

  -- p is the prefix of an entry and contains the address, and none that does is longer
  record IsLongestOf (es : List (RouteKey × V)) (p : IpPrefix) : Type 0 where
    id : ℕ
    held : is_some (find key_cmp (record { prefix = p; id = id }) es) ≡ true
    matches : contains p addr ≡ true
    longest : AllKeys (λ k. contains k.prefix addr ≡ true → k.prefix.len ≤ p.len) es

  last_is_first : (e : RouteKey × V) (es : List (RouteKey × V)) (p : IpPrefix) → last_match es addr ≡ None → (contains e.0.prefix addr ≡ true) × (e.0.prefix ≡ p) → IsLongestOf (e ∷ es) p
  last_is_first e es p none here = record {
    id = e.0.id;
    held = is_some_first (eq_by_cmp key_cmp (record { prefix = p; id = e.0.id }) e.0) e.1 (find key_cmp (record { prefix = p; id = e.0.id }) es) (rw (← here.1) (tied_itself_key e.0));
    matches = subst (λ (q : IpPrefix). contains q addr ≡ true) here.1 here.0;
    longest = (λ _. rw here.1 (omega arith), AllKeys-weaker (λ k. contains k.prefix addr ≡ false) (λ k. contains k.prefix addr ≡ true → k.prefix.len ≤ p.len) es (λ k out within. absurd (both_ways _ out within)) (none_match es none));
  }
    where
      tied_itself_key : (k : RouteKey) → eq_by_cmp key_cmp k k ≡ true
      tied_itself_key k = rw (tied_itself key_cmp_total k) refl

  last_is_later : (e : RouteKey × V) (es : List (RouteKey × V)) (p : IpPrefix) → T (below_all key_cmp e.0 es) → IsIpPrefix e.0.prefix → AllKeys (λ k. IsIpPrefix k.prefix) es → IsLongestOf es p → IsLongestOf (e ∷ es) p
  last_is_later e es p below known all_known rest =
      let k : RouteKey = record { prefix = p; id = rest.id } in
      let known_p : IsIpPrefix p = held_key (λ j. IsIpPrefix j.prefix) k es all_known rest.held in
      let after : key_cmp e.0 k ≡ Less = held_key (λ j. key_cmp e.0 j ≡ Less) k es (below_keys e.0 es below) rest.held in
      let short : contains e.0.prefix addr ≡ true → e.0.prefix.len ≤ p.len = λ within. elim (cases_lt p.len e.0.prefix.len) [
        | inl lt ↦ absurd (not_mutual e.0 k after (shorter_first addr k e.0 known_p known rest.matches within lt))
        | inr ge ↦ ge
      ] in
      record {
        id = rest.id;
        held = found_here (eq_by_cmp key_cmp k e.0) e.1 (find key_cmp k es) rest.held;
        matches = rest.matches;
        longest = (short, rest.longest);
      }

  last_is_longest : (es : List (RouteKey × V)) (p : IpPrefix) → T (is_sorted key_cmp es) → AllKeys (λ k. IsIpPrefix k.prefix) es → last_match es addr ≡ Some p → IsLongestOf es p
  last_is_longest [] p h known is = cc
  last_is_longest (e ∷ es) p h known is =
      elim (last_match es addr) as (λ o. last_match es addr ≡ o → option_or o (cond (contains e.0.prefix addr) (Some e.0.prefix) None) ≡ Some p → IsLongestOf (e ∷ es) p) [
        | None ↦ λ none here. last_is_first e es p none (cond_some _ _ _ here)
        | Some q ↦ λ some there. last_is_later e es p (first _ _ h) known.0 known.1 (last_is_longest es p (second _ _ h) known.1 (some ∙ there))
      ] refl is

  module _ (es : List (RouteKey × V)) (h : T (is_sorted key_cmp es)) (known : AllKeys (λ k. IsIpPrefix k.prefix) es) where
    in_list : (k : RouteKey) → IsTrue (finite.contains_key (finite.from_entries {R = key_cmp} es) k) → is_some (find key_cmp k es) ≡ true
    in_list k is = sym (ap is_some (found es k)) ∙ is

    -- the last match in the list is the longest in its map
    pub longest_found : (o : Option IpPrefix) → o ≡ last_match es addr → IfSome o (IsLongestMatch (finite.from_entries {R = key_cmp} es) addr)
    longest_found None is = tt
    longest_found (Some p) is =
        let of_list = last_is_longest es p h known (sym is) in
        let known_p : IsIpPrefix p = held_key (λ j. IsIpPrefix j.prefix) (record { prefix = p; id = of_list.id }) es known of_list.held in
        record {
          held_by = (of_list.id, ap is_some (found es (record { prefix = p; id = of_list.id })) ∙ of_list.held);
          matches = of_list.matches;
          longest = λ k there within other.
              let no_longer = held_key (λ j. contains j.prefix addr ≡ true → j.prefix.len ≤ p.len) k es of_list.longest (in_list k there) within in
              shorter_than_network addr p.len k.prefix (held_key (λ j. IsIpPrefix j.prefix) k es known (in_list k there)) within (λ same. other (same ∙ sym (network_is addr p known_p of_list.matches))) no_longer;
        }

    pub longest_none : (o : Option IpPrefix) → o ≡ last_match es addr → IfNone o (HasNoMatch (finite.from_entries {R = key_cmp} es) addr)
    longest_none (Some p) is = tt
    longest_none None is = λ k there within. both_ways _ (held_key (λ j. contains j.prefix addr ≡ false) k es (none_match es (sym is)) (in_list k there)) within

    -- and the longest is the last match
    pub last_is : (o : Option IpPrefix) → IfSome o (IsLongestMatch (finite.from_entries {R = key_cmp} es) addr) → IfNone o (HasNoMatch (finite.from_entries {R = key_cmp} es) addr) → o ≡ last_match es addr
    last_is o some none = elim (last_match es addr) as (λ m. m ≡ last_match es addr → o ≡ m) [
      | None ↦ λ is. not_found o some (longest_none None is)
      | Some q ↦ λ is. same_found o q some none (longest_found (Some q) is)
    ] refl
      where
        not_found : (o : Option IpPrefix) → IfSome o (IsLongestMatch (finite.from_entries {R = key_cmp} es) addr) → HasNoMatch (finite.from_entries {R = key_cmp} es) addr → o ≡ None
        not_found None some out = refl
        not_found (Some p) some out = absurd (out (record { prefix = p; id = some.held_by.0 }) some.held_by.1 some.matches)

        same : (p q : IpPrefix) → IsLongestMatch (finite.from_entries {R = key_cmp} es) addr p → IsLongestMatch (finite.from_entries {R = key_cmp} es) addr q → p ≡ q
        same p q a b = elim (prefix_eq p q) as (λ e. prefix_eq p q ≡ e → p ≡ q) [
          | true ↦ λ e. same_prefix p q e
          | false ↦ λ e.
              let longer = a.longest (record { prefix = q; id = b.held_by.0 }) b.held_by.1 b.matches (λ is. other_prefix p q e is) in
              let shorter = b.longest (record { prefix = p; id = a.held_by.0 }) a.held_by.1 a.matches (λ is. other_prefix p q e (sym is)) in
              absurd (omega (arith, longer, shorter))
        ] refl

        same_found : (o : Option IpPrefix) (q : IpPrefix) → IfSome o (IsLongestMatch (finite.from_entries {R = key_cmp} es) addr) → IfNone o (HasNoMatch (finite.from_entries {R = key_cmp} es) addr) → IsLongestMatch (finite.from_entries {R = key_cmp} es) addr q → o ≡ Some q
        same_found None q some none is = absurd (none (record { prefix = q; id = is.held_by.0 }) is.held_by.1 is.matches)
        same_found (Some p) q some none is = ap Some (same p q some is)
