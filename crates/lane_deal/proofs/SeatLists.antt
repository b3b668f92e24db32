-- The sessions of a lane, unit by unit.
use Rattle.std.proofs.Common.{◌≡◌, ◌≢◌, ℕ, zero, suc, ◌<◌, ◌||◌, inl, inr, Bool, true, false, cond, eqb, if◌then◌else◌, List, [], ◌∷◌, ◌++◌, length, map, get_or, set, Some, Result, Ok, Err, OnOk, refl, sym, ap, ◌∙◌, subst, arith, get_or-set_same, get_or-set_other}
use Rattle.std.specs.Prelude.{slice_get}
use Rattle.std.specs.List.{filter, list_any}
use Rattle.std.proofs.lemmas.List.{append-nil, set_at, map-append, length-map, length-set, map-set, get_or-map, ext_get_or, get_or_push}
use Rattle.std.proofs.lemmas.List.Elements.{filter-append}
use Rattle.std.proofs.lemmas.List.Folds.{list_any-append}
use Rattle.std.proofs.lemmas.List.FromFn.{get_or-range_with_len}
use Rattle.std.proofs.lemmas.Bool.{eqb-true, eq-eqb}
use Rattle.std.proofs.lemmas.Option.{slice_get_within, slice_get-get_or, get_or_from_slice_get}
use Rattle.std.proofs.Math.Bool.{or-true}
use Rattle.peer_units.specs.declared.unit.PeerKey.{PeerKey}
use Rattle.peer_units.specs.Plain.{Unit as ReplayUnit}
use Rattle.adj_rib.specs.Sessions.{SessionState, session_of}
use Rattle.peer_tables.specs.Peers.{peer_eq, peers_of, units_of_peer}
use Rattle.peer_tables.specs.Seats.{seat_of}
use Rattle.peer_tables.specs.Tables.{Seat}
use Rattle.peer_tables.specs.declared.tables.Seated.{Seated}
use Rattle.unit_rings.specs.Plain.{PeerUnit}
use Rattle.peer_tables.specs.Numbers.{AreApart, number_in}
use Rattle.lane_deal.specs.Numbers.{without_numbers}
use Rattle.lane_deal.specs.Seating.{seat_by, seats_by, AreNumbered, HoldsUnits, new_seat, SeatFor, TakenAt}
use Rattle.lane_deal.proofs.Numbering.{numbered_peers, numbers_of_positions}
use Rattle.peer_tables.proofs.ShareLaws.{same_peer}
use Rattle.peer_tables.proofs.PeerPositions.{peer_itself, listed_at, listed_gets}
use Rattle.lane_deal.proofs.Peers.{is_seen, listed_peer}
use Rattle.lane_deal.proofs.DealerLaws.{peers_push, listed_is_seen, seen_last}
use Rattle.unit_rings.proofs.Lists.{back_of, front_of}

-- ---- lists

pub map_but_one : {X Y : Type 0} (f g : X → Y) (xs : List X) (i : ℕ) (d : X) → i < length xs → ((j : ℕ) → j < length xs → j ≢ i → g (get_or xs j d) ≡ f (get_or xs j d)) → map g xs ≡ set (map f xs) i (g (get_or xs i d))
map_but_one f g xs i d l h =
    let v = g (get_or xs i d) in
    ext_get_or (g d) (map g xs) (set (map f xs) i v) (length-map xs g ∙ sym (length-map xs f) ∙ sym (length-set (map f xs) i v)) (λ j m.
    let lj : j < length xs = (let n = length-map xs g in omega arith) in
    elim (eqb j i) as (λ b. eqb j i ≡ b → get_or (map g xs) j (g d) ≡ get_or (set (map f xs) i v) j (g d)) [
      | true ↦ λ e.
          let in_map : i < length (map f xs) = (let n = length-map xs f in omega arith) in
          subst (λ n. get_or (map g xs) n (g d) ≡ get_or (set (map f xs) i v) n (g d)) (sym (eqb-true j i e))
          (get_or-map g xs i d (g d) l ∙ sym (get_or-set_same (map f xs) i v (g d) in_map))
      | false ↦ λ e.
          let ne : j ≢ i = λ q. (let clash : false ≡ true = sym e ∙ eq-eqb j i q in cc) in
          get_or-map g xs j d (g d) lj ∙ h j lj ne ∙ sym (get_or-map f xs j d (g d) lj) ∙ sym (get_or-set_other (map f xs) i j v (g d) ne)
    ] refl)

none_passes : {X : Type 0} (p : X → Bool) (xs : List X) → list_any p xs ≡ false → filter p xs ≡ []
none_passes p [] e = refl
none_passes p (x ∷ xs) e =
    elim (p x) as (λ b. (b || list_any p xs) ≡ false → cond b (x ∷ filter p xs) (filter p xs) ≡ []) [ true ↦ λ clash. absurd (cc) | false ↦ λ later. none_passes p xs later ] e

-- ---- peers

-- no peer is listed twice
pub peers_apart : (units : List ReplayUnit) → AreApart (peers_of units)
peers_apart units i q at =
    let ps = peers_of units in
    let l : i < length ps = slice_get_within ps i q at in
    let is = get_or_from_slice_get ps i q q at in
    let all = numbered_peers (λ n _. n) units ∙ numbers_of_positions 0 ps in
    let here : number_in ps (get_or ps i q) ≡ i = sym (get_or-map (λ r. number_in ps r) ps i q 0 l) ∙ ap (λ l. get_or l i 0) all ∙ get_or-range_with_len 0 (length ps) i 0 l ∙ omega arith in
    ap (number_in ps) (sym is) ∙ here

pub seen_at : (units : List ReplayUnit) (i : ℕ) (q : PeerKey) → slice_get (peers_of units) i ≡ Some q → is_seen units q ≡ true
seen_at units i q at = sym (listed_is_seen units q) ∙ listed_at (peers_of units) i q at

pub seen_more : (units more : List ReplayUnit) (q : PeerKey) → is_seen units q ≡ true → is_seen (units ++ more) q ≡ true
seen_more units more q e = list_any-append (λ u. peer_eq u.peer q) units more ∙ ap (λ b. b || is_seen more q) e

-- ---- the session of one unit more

module _ (number : PeerKey → ℕ) (units : List ReplayUnit) (u : ReplayUnit) where
  other_units : (q : PeerKey) → peer_eq u.peer q ≡ false → units_of_peer (units ++ u ∷ []) q ≡ units_of_peer units q
  other_units q e = filter-append (λ v. peer_eq v.peer q) units (u ∷ []) ∙ ap (λ b. units_of_peer units q ++ cond b (u ∷ []) []) e ∙ append-nil _

  own_units : (q : PeerKey) → u.peer ≡ q → units_of_peer (units ++ u ∷ []) q ≡ units_of_peer units q ++ u ∷ []
  own_units q e = filter-append (λ v. peer_eq v.peer q) units (u ∷ []) ∙ ap (λ b. units_of_peer units q ++ cond b (u ∷ []) []) (ap (λ p. peer_eq p q) e ∙ peer_itself q)

  -- its session was there
  seats_found : (position : ℕ) (d : PeerKey) → position < length (peers_of units) → u.peer ≡ get_or (peers_of units) position d
      → seats_by number (units ++ u ∷ []) ≡ set (seats_by number units) position (record { number = number (get_or (peers_of units) position d); key = get_or (peers_of units) position d; session = session_of (units_of_peer units (get_or (peers_of units) position d) ++ u ∷ []) })
  seats_found position d l is =
      let ps = peers_of units in
      let k = get_or ps position d in
      let seen : list_any (peer_eq u.peer) ps ≡ true = ap (λ p. list_any (peer_eq p) ps) is ∙ listed_at ps position k (slice_get-get_or ps position d l) in
      let same : peers_of (units ++ u ∷ []) ≡ ps = peers_push units u ∙ ap (λ b. ps ++ (if b then [] else u.peer ∷ [])) seen ∙ append-nil ps in
      ap (map (seat_by number (units ++ u ∷ []))) same
      ∙ map_but_one (seat_by number units) (seat_by number (units ++ u ∷ [])) ps position d l (λ j m ne.
      let q = get_or ps j d in
      let apart : peer_eq u.peer q ≡ false =
      elim (peer_eq u.peer q) as (λ b. peer_eq u.peer q ≡ b → b ≡ false) [
        | true ↦ λ e.
            let equal : k ≡ q = sym is ∙ same_peer u.peer q e in
            let clash : j ≡ position = sym (peers_apart units j q (slice_get-get_or ps j d m)) ∙ ap (number_in ps) (sym equal) ∙ peers_apart units position k (slice_get-get_or ps position d l) in absurd (ne clash)
        | false ↦ λ _. refl
      ] refl in
      ap (λ l. record { number = number q; key = q; session = session_of l }) (other_units q apart))
      ∙ ap (λ l. set (seats_by number units) position (record { number = number k; key = k; session = session_of l })) (own_units k is)

  none_alike : (ps : List PeerKey) → list_any (peer_eq u.peer) ps ≡ false → map (seat_by number (units ++ u ∷ [])) ps ≡ map (seat_by number units) ps
  none_alike [] e = refl
  none_alike (p ∷ ps) e =
      elim (peer_eq u.peer p) as (λ b. peer_eq u.peer p ≡ b → (b || list_any (peer_eq u.peer) ps) ≡ false → map (seat_by number (units ++ u ∷ [])) (p ∷ ps) ≡ map (seat_by number units) (p ∷ ps)) [
        | true ↦ λ _ clash. absurd (cc)
        | false ↦ λ apart later.
            ap (λ l. record { number = number p; key = p; session = session_of l } ∷ map (seat_by number (units ++ u ∷ [])) ps) (other_units p apart)
            ∙ ap (λ l. seat_by number units p ∷ l) (none_alike ps later)
      ] refl e

  -- its session is new
  seats_new : is_seen units u.peer ≡ false → seats_by number (units ++ u ∷ []) ≡ seats_by number units ++ record { number = number u.peer; key = u.peer; session = session_of ([] ++ u ∷ []) } ∷ []
  seats_new new =
      let ps = peers_of units in
      let none : list_any (peer_eq u.peer) ps ≡ false = listed_is_seen units u.peer ∙ new in
      ap (map (seat_by number (units ++ u ∷ []))) (peers_push units u ∙ ap (λ b. ps ++ (if b then [] else u.peer ∷ [])) none)
      ∙ map-append (seat_by number (units ++ u ∷ [])) ps (u.peer ∷ []) ∙ ap (λ l. l ++ seat_by number (units ++ u ∷ []) u.peer ∷ []) (none_alike ps none)
      ∙ ap (λ l. seats_by number units ++ record { number = number u.peer; key = u.peer; session = session_of l } ∷ [])
      (own_units u.peer refl ∙ ap (λ l. l ++ u ∷ []) (none_passes (λ v. peer_eq v.peer u.peer) units new))

-- a session of a number is among those of listed peers
number_listed : (number : PeerKey → ℕ) (units : List ReplayUnit) (ps : List PeerKey) (i n : ℕ) (q : PeerKey) → slice_get ps i ≡ Some q → number q ≡ n → list_any (λ s. eqb s.number n) (map (seat_by number units) ps) ≡ true
number_listed number units [] i n q at e = absurd (cc)
number_listed number units (p ∷ ps) zero n q at e =
    let is : p ≡ q = cc in ap (λ b. b || list_any (λ s. eqb s.number n) (map (seat_by number units) ps)) (eq-eqb (number p) n (ap number is ∙ e))
number_listed number units (p ∷ ps) (suc i) n q at e = ap (λ b. eqb (number p) n || b) (number_listed number units ps i n q at e) ∙ or-true (eqb (number p) n)

module _ (s₀ s₁ s₂ : List Seat) (taken : List PeerUnit) (n position : ℕ) (u : ReplayUnit) (q : TakenAt s₁ s₂ position u) (h : HoldsUnits s₀ taken) where
  abbrev item : PeerUnit
  item = record { number = n; unit = u }

  abbrev before : List ReplayUnit
  before = without_numbers taken

  one_more : without_numbers (taken ++ item ∷ []) ≡ before ++ u ∷ []
  one_more = map-append (λ i. i.unit) taken (item ∷ [])

  module _ (number : PeerKey → ℕ) (a : AreNumbered number (taken ++ item ∷ [])) where
    numbered_before : AreNumbered number taken
    numbered_before = record {
      each = front_of (λ i. number i.unit.peer ≡ i.number) taken (item ∷ []) a.each;
      apart = λ p r seen seen' e.
          a.apart p r (ap (λ l. is_seen l p) one_more ∙ seen_more before (u ∷ []) p seen) (ap (λ l. is_seen l r) one_more ∙ seen_more before (u ∷ []) r seen') e;
    }

    number_own : number u.peer ≡ n
    number_own = (back_of (λ i. number i.unit.peer ≡ i.number) taken (item ∷ []) a.each).0

    seats_before : seats_by number before ≡ s₀
    seats_before = h number numbered_before

    seen_own : is_seen (without_numbers (taken ++ item ∷ [])) u.peer ≡ true
    seen_own = ap (λ l. is_seen l u.peer) one_more ∙ seen_last before u

    taken_found : s₁ ≡ s₀ → position < length s₀ → ((d : Seat) → (get_or s₀ position d).number ≡ n) → seats_by number (without_numbers (taken ++ item ∷ [])) ≡ s₂
    taken_found same within at =
        let ps = peers_of before in
        let k = get_or ps position u.peer in
        let d : Seat = new_seat n u.peer in
        let l : position < length ps = (let e = ap length seats_before in let m = length-map ps (seat_by number before) in omega arith) in
        let seat_is : get_or s₀ position d ≡ seat_by number before k = ap (λ l. get_or l position d) (sym seats_before) ∙ get_or-map (seat_by number before) ps position u.peer d l in
        let number_is : number k ≡ n = ap (λ s. s.number) (sym seat_is) ∙ at d in
        let seen : is_seen (without_numbers (taken ++ item ∷ [])) k ≡ true = ap (λ l. is_seen l k) one_more ∙ seen_more before (u ∷ []) k (seen_at before position k (slice_get-get_or ps position u.peer l)) in
        let is : u.peer ≡ k = a.apart u.peer k seen_own seen (number_own ∙ sym number_is) in
        let here : get_or s₁ position d ≡ seat_by number before k = ap (λ l. get_or l position d) same ∙ seat_is in
        let took = q (units_of_peer before k) d (ap (λ s. s.session) here) in
        ap (seats_by number) one_more ∙ seats_found number before u position u.peer l is
        ∙ ap (λ l. set l position (record { number = number k; key = k; session = session_of (units_of_peer before k ++ u ∷ []) })) (seats_before ∙ sym same)
        ∙ ap (λ s. set s₁ position (record { number = s.number; key = s.key; session = session_of (units_of_peer before k ++ u ∷ []) })) (sym here) ∙ sym took

    taken_new : list_any (λ s. eqb s.number n) s₀ ≡ false → position ≡ length s₀ → s₁ ≡ s₀ ++ new_seat n u.peer ∷ [] → seats_by number (without_numbers (taken ++ item ∷ [])) ≡ s₂
    taken_new none at grown =
        let ps = peers_of before in
        let d : Seat = new_seat n u.peer in
        let new : is_seen before u.peer ≡ false =
        elim (is_seen before u.peer) as (λ b. is_seen before u.peer ≡ b → b ≡ false) [
          | true ↦ λ e.
              let clash : false ≡ true = sym none ∙ ap (list_any (λ s. eqb s.number n)) (sym seats_before) ∙ number_listed number before ps (number_in ps u.peer) n u.peer (listed_gets ps u.peer (listed_peer before u.peer e)) number_own in cc
          | false ↦ λ _. refl
        ] refl in
        let last : get_or s₁ position d ≡ new_seat n u.peer = ap (λ l. get_or l position d) grown ∙ get_or_push s₀ (new_seat n u.peer) d position (sym at) in
        let took = q [] d (ap (λ s. s.session) last) in
        ap (seats_by number) one_more ∙ seats_new number before u new
        ∙ ap (λ l. l ++ record { number = number u.peer; key = u.peer; session = session_of ([] ++ u ∷ []) } ∷ []) seats_before
        ∙ ap (λ m. s₀ ++ record { number = m; key = u.peer; session = session_of ([] ++ u ∷ []) } ∷ []) number_own
        ∙ sym (set_at s₀ (new_seat n u.peer) [] (record { number = n; key = u.peer; session = session_of ([] ++ u ∷ []) }) position (sym at))
        ∙ ap (λ l. set l position (record { number = n; key = u.peer; session = session_of ([] ++ u ∷ []) })) (sym grown)
        ∙ ap (λ s. set s₁ position (record { number = s.number; key = s.key; session = session_of ([] ++ u ∷ []) })) (sym last) ∙ sym took

  -- the sessions stand for one unit more
  pub HoldsUnits-more : SeatFor s₀ s₁ n u.peer position → HoldsUnits s₂ (taken ++ item ∷ [])
  HoldsUnits-more p number a =
      elim p [
        | inl found ↦ taken_found number a found.0 found.1 found.2
        | inr new ↦ taken_new number a new.0 new.1 new.2
      ]

pub HoldsUnits-none : HoldsUnits [] []
unfolding peers_of
HoldsUnits-none number a = refl

-- a session that took a unit keeps its number
pub numbers_stay_at : {M A : Type 0} (seats : List (Seated M A)) (position : ℕ) (x : Seated M A) (session : SessionState) → position < length seats
    → map (λ seat. seat.number) (set seats position (record { number = (get_or seats position x).number; key = (get_or seats position x).key; session = session })) ≡ map (λ seat. seat.number) seats
numbers_stay_at [] position x session l = refl
numbers_stay_at (s ∷ seats) zero x session l = refl
numbers_stay_at (s ∷ seats) (suc position) x session l = ap (λ ns. s.number ∷ ns) (numbers_stay_at seats position x session (omega (arith, l)))

-- one session took a unit
pub TakenAt-from : {M A E : Type 0} (r : Result (Unit {0}) E) (seats : List (Seated M A)) (position : ℕ) (u : ReplayUnit) (x : Seated M A) (session : SessionState) → position < length seats
    → ((before : List ReplayUnit) → (get_or seats position x).session ≡ session_of before → OnOk r (session ≡ session_of (before ++ u ∷ [])))
    → OnOk r (TakenAt (map seat_of seats) (map seat_of (set seats position (record { number = (get_or seats position x).number; key = (get_or seats position x).key; session = session }))) position u)
TakenAt-from (Ok o) seats position u x session l h = λ before d e.
    let at : get_or (map seat_of seats) position d ≡ seat_of (get_or seats position x) = get_or-map seat_of seats position x d l in
    let took = h before (ap (λ s. s.session) (sym at) ∙ e) in
    map-set seat_of seats position (record { number = (get_or seats position x).number; key = (get_or seats position x).key; session = session })
    ∙ ap (λ t. set (map seat_of seats) position (record { number = (get_or seats position x).number; key = (get_or seats position x).key; session = t })) took
    ∙ ap (λ s. set (map seat_of seats) position (record { number = s.number; key = s.key; session = session_of (before ++ u ∷ []) })) (sym at)
TakenAt-from (Err e) seats position u x session l h = tt

-- the sessions stand for one unit more, where it was taken
pub HoldsUnits-taken : {T E : Type 0} (r : Result T E) (s₀ s₁ s₂ s₃ : List Seat) (n position : ℕ) (u : ReplayUnit) → SeatFor s₀ s₁ n u.peer position → s₃ ≡ s₂ → OnOk r (TakenAt s₁ s₂ position u)
    → OnOk r ((taken : List PeerUnit) → HoldsUnits s₀ taken → HoldsUnits s₃ (taken ++ record { number = n; unit = u } ∷ []))
HoldsUnits-taken (Ok o) s₀ s₁ s₂ s₃ n position u p e q = λ taken h. rw e (HoldsUnits-more s₀ s₁ s₂ taken n position u q h p)
HoldsUnits-taken (Err o) s₀ s₁ s₂ s₃ n position u p e q = tt
