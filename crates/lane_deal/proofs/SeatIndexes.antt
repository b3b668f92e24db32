-- Where sessions are remembered to stand.
use Rattle.std.proofs.Common.{◌≡◌, ℕ, zero, suc, ◌<◌, ◌||◌, inl, inr, Bool, true, false, eqb, List, [], ◌∷◌, ◌++◌, length, map, get_or, Option, Some, refl, sym, ap, ◌∙◌, arith}
use Rattle.std.specs.Prelude.{slice_get}
use Rattle.std.specs.List.{list_any, position_or_len}
use Rattle.std.proofs.lemmas.Bool.{eqb-true, eq-eqb}
use Rattle.std.proofs.lemmas.List.{length-map, map-append, get_or-map}
use Rattle.std.proofs.lemmas.Option.{slice_get_within, get_or_from_slice_get}
use Rattle.peer_tables.specs.Seats.{seat_of}
use Rattle.peer_tables.specs.Tables.{Seat}
use Rattle.peer_tables.specs.declared.tables.Seated.{Seated}
use Rattle.lane_deal.specs.Seating.{AreIndexed}
use Rattle.peer_tables.proofs.PeerPositions.{some_is, split_get, position_gets}

or_false : (a b : Bool) → (a || b) ≡ false → b ≡ false
or_false true b e = absurd cc
or_false false b e = e

module _ {M A : Type 0} where
  abbrev numbers : List (Seated M A) → List ℕ
  numbers seats = map (λ seat. seat.number) seats

  abbrev has : ℕ → List (Seated M A) → Bool
  has n seats = list_any (λ s. eqb s.number n) (map seat_of seats)

  absent : (seats : List (Seated M A)) (at m n : ℕ) → slice_get (numbers seats) at ≡ Some m → has n seats ≡ false → m ≡ n → ⊥
  absent [] at m n g e is = absurd cc
  absent (s ∷ ss) zero m n g e is =
      let here : s.number ≡ n = some_is s.number m g ∙ is in
      let clash : true ≡ false = ap (λ b. b || has n ss) (sym (eq-eqb s.number n here)) ∙ e in cc
  absent (s ∷ ss) (suc at) m n g e is = absent ss at m n g (or_false (eqb s.number n) (has n ss) e) is

  number_at : (seats : List (Seated M A)) (at : ℕ) (x : Seat) → slice_get (map seat_of seats) at ≡ Some x → slice_get (numbers seats) at ≡ Some x.number
  number_at [] at x e = absurd cc
  number_at (s ∷ ss) zero x e = ap (λ y. Some y.number) (some_is (seat_of s) x e)
  number_at (s ∷ ss) (suc at) x e = number_at ss at x e

  -- a session that stands at a place has its number there, in the list as contracts see it
  pub stands_here : (seats : List (Seated M A)) (at n : ℕ) (d : Seated M A) → at < length seats → (get_or seats at d).number ≡ n
      → (at < length seats) × ((e : Seat) → (get_or (map seat_of seats) at e).number ≡ n)
  stands_here seats at n d within same = (within, λ e. ap (λ (s : Seat). s.number) (get_or-map seat_of seats at d e within) ∙ same)

  -- where a number is listed there is a session, which has it
  pub stands_within : (seats : List (Seated M A)) (at n : ℕ) → slice_get (numbers seats) at ≡ Some n → at < length seats
  stands_within seats at n there = omega (arith, slice_get_within (numbers seats) at n there, length-map seats (λ (s : Seated M A). s.number))

  pub stands_there : (seats : List (Seated M A)) (at n : ℕ) (d : Seated M A) → slice_get (numbers seats) at ≡ Some n → (get_or seats at d).number ≡ n
  stands_there seats at n d there =
      sym (get_or-map (λ (s : Seated M A). s.number) seats at d n (stands_within seats at n there)) ∙ get_or_from_slice_get (numbers seats) at n n there

  -- a session of another number is remembered
  pub indexed_kept : (old new : List (Option ℕ)) (seats : List (Seated M A)) (n : ℕ) → AreIndexed old (numbers seats) → has n seats ≡ false
      → ((other x : ℕ) → (other ≡ n → ⊥) → slice_get old other ≡ Some (Some x) → slice_get new other ≡ Some (Some x)) → AreIndexed new (numbers seats)
  indexed_kept old new seats n h none others at m g = others m at (λ is. absent seats at m n g none is) (h at m g)

  -- and so is one more session
  pub indexed_more : (new : List (Option ℕ)) (seats after : List (Seated M A)) (s : Seated M A) (n : ℕ) → AreIndexed new (numbers seats) → slice_get new s.number ≡ Some (Some n) → n ≡ length seats
      → after ≡ seats ++ s ∷ [] → AreIndexed new (numbers after)
  indexed_more new seats after s n h own is grown at m g =
      let split = split_get (numbers seats) s.number at m (ap (λ l. slice_get l at) (sym (map-append (λ (x : Seated M A). x.number) seats (s ∷ []))) ∙ ap (λ l. slice_get (numbers l) at) (sym grown) ∙ g) in
      elim split [
        | inl before ↦ h at m before
        | inr last ↦
            let here : at ≡ n = last.0 ∙ (length-map seats (λ (x : Seated M A). x.number) ∙ sym is) in
            ap (slice_get new) (sym last.1) ∙ (own ∙ ap (λ k. Some (Some k)) (sym here))
      ]

  -- what is not remembered is not there
  pub not_there : (positions : List (Option ℕ)) (seats : List (Seated M A)) (n : ℕ) → AreIndexed positions (numbers seats)
      → ((at : ℕ) → slice_get positions n ≡ Some (Some at) → slice_get (numbers seats) at ≡ Some n → ⊥) → has n seats ≡ false
  not_there positions seats n h nowhere =
      elim (has n seats) as (λ b. has n seats ≡ b → b ≡ false) [
        | true ↦ λ any.
            let found = position_gets (λ s. eqb s.number n) (map seat_of seats) any in
            let at = position_or_len (λ s. eqb s.number n) (map seat_of seats) in
            let here : slice_get (numbers seats) at ≡ Some n = number_at seats at found.0 found.1 ∙ ap (λ k. Some k) (eqb-true found.0.number n found.2) in
            absurd (nowhere at (h at n here) here)
        | false ↦ λ _. refl
      ] refl
