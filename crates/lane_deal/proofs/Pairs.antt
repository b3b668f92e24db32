-- Two lists, position by position.
use Rattle.std.proofs.Common.{◌≡◌, ◌≢◌, ℕ, ◌+◌, ◌<◌, List, [], ◌∷◌, ◌++◌, length, get_or, set, slice_index_or, Result, Ok, Err, OnOk, ◌∙◌, arith, get_or-set_same, get_or-set_other, below_more}
use Rattle.std.specs.List.{AllZip}
use Rattle.std.proofs.lemmas.List.{get_or_default, length-set}
use Rattle.lane_deal.specs.Pairs.{ChangedBelow}

module _ {A B : Type 0} (R : A → B → Type 0) where
  -- two halves
  pub all_zip_both : (xs : List A) (ys : List B) (us : List A) (vs : List B) → AllZip R xs ys → AllZip R us vs → AllZip R (xs ++ us) (ys ++ vs)
  all_zip_both [] [] us vs p q = q
  all_zip_both [] (y ∷ ys) us vs p q = absurd p
  all_zip_both (x ∷ xs) [] us vs p q = absurd p
  all_zip_both (x ∷ xs) (y ∷ ys) us vs p q = (p.0, all_zip_both xs ys us vs p.1 q)

  -- the same where both halves are known on success alone
  pub all_zip_both_ok : {T E : Type 0} (r : Result T E) (xs : List A) (ys : List B) (us : List A) (vs : List B) → OnOk r (AllZip R xs ys) → OnOk r (AllZip R us vs) → OnOk r (AllZip R (xs ++ us) (ys ++ vs))
  all_zip_both_ok (Ok x) xs ys us vs p q = all_zip_both xs ys us vs p q
  all_zip_both_ok (Err e) xs ys us vs p q = p

-- one pair more is changed
pub ChangedBelow-more : {A B : Type 0} (R : A → A → B → B → Type 0) (k : ℕ) (xs xs' : List A) (ys ys' : List B) (x x' : A) (y y' : B) → k < length xs → length ys ≡ length xs → R (get_or xs' k x) x' (get_or ys' k y) y' → ChangedBelow R k xs xs' ys ys' → ChangedBelow R (k + 1) xs (set xs' k x') ys (set ys' k y')
ChangedBelow-more R k xs xs' ys ys' x x' y y' l lengths new p =
    let in_firsts : k < length xs' = (let c = p.firsts_count in omega arith) in
    let in_seconds : k < length ys' = (let c = p.seconds_count in omega arith) in
    record {
      firsts_count = length-set xs' k x' ∙ p.firsts_count;
      seconds_count = length-set ys' k y' ∙ p.seconds_count;
      each =
          λ at d e.
          below_more
          (λ n. R (slice_index_or xs n d) (slice_index_or (set xs' k x') n d) (slice_index_or ys n e) (slice_index_or (set ys' k y') n e))
          k
          (λ n m. let ne : n ≢ k = omega arith in rw (get_or-set_other xs' k n x' d ne, get_or-set_other ys' k n y' e ne) (p.each n d e m))
          (let g = get_or_default xs' k x d in_firsts ∙ p.firsts_rest k d (omega arith) in
          let h = get_or_default ys' k y e in_seconds ∙ p.seconds_rest k e (omega arith) in
          rw (get_or-set_same xs' k x' d in_firsts, get_or-set_same ys' k y' e in_seconds, ← g, ← h) new)
          at;
      firsts_rest = λ at d m. (let ne : at ≢ k = omega arith in get_or-set_other xs' k at x' d ne ∙ p.firsts_rest at d (omega arith));
      seconds_rest = λ at e m. (let ne : at ≢ k = omega arith in get_or-set_other ys' k at y' e ne ∙ p.seconds_rest at e (omega arith));
    }
