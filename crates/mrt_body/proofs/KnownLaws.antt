-- Which known peers a state change is of.
use Rattle.std.proofs.Common.{◌≡◌, ℕ, zero, suc, ◌-◌, ◌<◌, ◌≤◌, Bool, true, false, cond, List, [], ◌∷◌, ◌++◌, length, take, refl, sym, ap, ◌∙◌, append_assoc, append-nil, arith}
use Rattle.std.specs.List.{filter}
use Rattle.std.proofs.lemmas.List.{length-append}
use Rattle.peer_units.specs.declared.unit.PeerKey.{PeerKey}

module _ (test : PeerKey → Bool) where
  -- those that were found, and those that are to be found of the others
  abbrev pub found_and_left : List PeerKey → List PeerKey → List PeerKey
  found_and_left found others = found ++ take (65535 - length found) (filter test others)

  abbrev first : Bool → PeerKey → List PeerKey → List PeerKey
  first b q others = cond b (q ∷ filter test others) (filter test others)

  pub one_found : (found : List PeerKey) (q : PeerKey) (others : List PeerKey) → test q ≡ true → length found < 65535 → found_and_left found (q ∷ others) ≡ found_and_left (found ++ q ∷ []) others
  one_found found q others is few =
      let one : 65535 - length found ≡ suc (65535 - length (found ++ q ∷ [])) = omega (arith, few, length-append found (q ∷ [])) in
      ap (λ (b : Bool). found ++ take (65535 - length found) (first b q others)) is
      ∙ ap (λ (n : ℕ). found ++ take n (q ∷ filter test others)) one
      ∙ sym (append_assoc found (q ∷ []) (take (65535 - length (found ++ q ∷ [])) (filter test others)))

  pub one_passed : (found : List PeerKey) (q : PeerKey) (others : List PeerKey) → test q ≡ false → found_and_left found (q ∷ others) ≡ found_and_left found others
  one_passed found q others is = ap (λ (b : Bool). found ++ take (65535 - length found) (first b q others)) is

  abbrev none : List PeerKey
  none = []

  nothing : (n : ℕ) → take n none ≡ []
  nothing zero = refl
  nothing (suc n) = refl

  pub none_left : (found : List PeerKey) → found_and_left found [] ≡ found
  none_left found = ap (λ (l : List PeerKey). found ++ l) (nothing (65535 - length found)) ∙ append-nil found

  pub all_found : (found others : List PeerKey) → 65535 ≤ length found → found_and_left found others ≡ found
  all_found found others full =
      let no : 65535 - length found ≡ 0 = omega (arith, full) in
      ap (λ (n : ℕ). found ++ take n (filter test others)) no ∙ append-nil found
