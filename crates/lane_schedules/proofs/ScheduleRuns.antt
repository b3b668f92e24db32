-- Lanes on one thread, event by event.
use Rattle.std.proofs.Common.{◌≡◌, ◌≢◌, ℕ, ◌+◌, ◌-◌, ◌^◌, ◌<◌, ◌≤◌, min, true, false, eqb, if◌then◌else◌, List, [], ◌∷◌, ◌++◌, length, take, drop, get_or, set, Result, Ok, Err, OnOk, refl, sym, ap, ◌∙◌, subst, arith, length-append, length-set, get_or-set_same, get_or-set_other, below_more}
use Rattle.std.proofs.lemmas.List.{append-nil, map-append, get_or_append_left, get_or_push, length_push, take_more}
use Rattle.std.proofs.lemmas.Bool.{eqb-true, eq-eqb}
use Rattle.std.specs.List.{list_any, fold}
use Rattle.peer_units.specs.declared.unit.PeerKey.{PeerKey}
use Rattle.peer_units.specs.Plain.{Unit as ReplayUnit}
use Rattle.peer_tables.specs.Peers.{peer_eq, peers_of}
use Rattle.bgp_prefix.specs.declared.family.Family.{Ghosts as AddressGhosts}
use Rattle.bgp_prefix.specs.declared.map.PrefixMap.{Ghosts}
use Rattle.adj_rib.specs.declared.routes.RouteId.{RouteId}
use Rattle.unit_rings.specs.Plain.{PeerUnit}
use Rattle.lane_schedules.specs.declared.schedule.OneLane.{OneLane}
use Rattle.lane_deal.specs.Lanes.{number_of_peer, lane_of_unit}
use Rattle.peer_tables.specs.Numbers.{NumbersPeer}
use Rattle.lane_deal.specs.Numbers.{with_number, with_numbers}
use Rattle.lane_schedules.specs.Schedules.{LanesState, dealt, took, start}
use Rattle.lane_deal.specs.Shown.{SeatsHold}
use Rattle.lane_schedules.specs.ShownLanes.{LaneShows, LanesShow}
use Rattle.peer_tables.proofs.PeerPositions.{listed_now}
use Rattle.unit_rings.proofs.Lists.{all_push}
use Rattle.lane_deal.proofs.DealerLaws.{numbered_stay, AreListed, listed_more, peers_push}

-- ---- numbers

pub record AreGiven (units : List ReplayUnit) (keys : List PeerKey) (items : List PeerUnit) : Type 0 where
  pub keys_are : keys ≡ peers_of units
  pub items_are : items ≡ with_numbers keys units
  pub listed : AreListed keys units

pub given_none : AreGiven [] [] []
unfolding peers_of
given_none = record { keys_are = refl; items_are = refl; listed = tt }

pub given_more : (units : List ReplayUnit) (keys keys' : List PeerKey) (items : List PeerUnit) (u : ReplayUnit) (n : ℕ) → AreGiven units keys items → NumbersPeer keys keys' u.peer n → AreGiven (units ++ u ∷ []) keys' (items ++ record { number = n; unit = u } ∷ [])
given_more units keys keys' items u n p number =
    let extra = if list_any (peer_eq u.peer) keys then [] else u.peer ∷ [] in
    let grown : keys' ≡ peers_of (units ++ u ∷ []) = number.keys ∙ ap (λ l. l ++ (if list_any (peer_eq u.peer) l then [] else u.peer ∷ [])) p.keys_are ∙ sym (peers_push units u) in
    let still : with_numbers keys' units ≡ with_numbers keys units = ap (λ l. with_numbers l units) number.keys ∙ numbered_stay keys extra units p.listed in
    record {
      keys_are = grown;
      items_are =
          ap (λ l. l ++ record { number = n; unit = u } ∷ []) (p.items_are ∙ sym still) ∙ ap (λ m. with_numbers keys' units ++ record { number = m; unit = u } ∷ []) number.number_is
          ∙ sym (map-append (with_number keys') units (u ∷ []));
      listed =
          all_push (λ v. list_any (peer_eq v.peer) keys' ≡ true) units (u ∷ []) (subst (λ l. AreListed l units) (sym number.keys) (listed_more keys extra units p.listed))
          (listed_now keys keys' u.peer n number, tt);
    }

same_if : (f : ℕ → List ReplayUnit) (lane other : ℕ) → (if eqb lane other then f lane else f other) ≡ f other
same_if f lane other =
    elim (eqb lane other) as (λ b. eqb lane other ≡ b → (if b then f lane else f other) ≡ f other) [ true ↦ λ t. ap f (eqb-true lane other t) | false ↦ λ _. refl ] refl

module _ {M A : Type 0} {g : Ghosts M RouteId A} {a : AddressGhosts A} where
  -- ---- empty lanes

  pub record AreEmpty (lanes : List (OneLane M A g a)) : Type 0 where
    pub each : (lane : ℕ) (d : OneLane M A g a) → lane < length lanes → (all : List ReplayUnit) → LaneShows all (get_or lanes lane d) [] []

  pub empty_more : (lanes : List (OneLane M A g a)) (x : OneLane M A g a) → AreEmpty lanes → ((all : List ReplayUnit) → LaneShows all x [] []) → AreEmpty (lanes ++ x ∷ [])
  empty_more lanes x p q = record {
    each = λ lane d l.
        below_more (λ n. (all : List ReplayUnit) → LaneShows all (get_or (lanes ++ x ∷ []) n d) [] []) (length lanes)
        (λ n m all. rw (get_or_append_left lanes (x ∷ []) d n m) (p.each n d m all)) (λ all. rw (get_or_push lanes x d (length lanes) refl) (q all))
        lane (let n = length_push lanes x in omega arith);
  }

  pub empty_show : (lanes : List (OneLane M A g a)) → AreEmpty lanes → (all units : List ReplayUnit) → LanesShow all (with_numbers (peers_of all) units) lanes (start units)
  empty_show lanes p all units = record { rest = refl; each = λ lane d l. p.each lane d l all; past = λ lane l. (refl, refl) }

  -- ---- a unit is dealt

  pub shows_dealt : (lo : ℕ → ℕ) (all : List ReplayUnit) (q q' : List PeerUnit) (ls : List (OneLane M A g a)) (item : PeerUnit) (lane : ℕ) (x : OneLane M A g a) (s : LanesState) (us : List ReplayUnit) → s.undealt ≡ us → q ≡ item ∷ q' → lo item.number ≡ lane → lane < length ls
      → ((d : OneLane M A g a) → x.ring.items ≡ (get_or ls lane d).ring.items ++ item ∷ []) → ((d : OneLane M A g a) → x.seats ≡ (get_or ls lane d).seats) → ((d : OneLane M A g a) → x.took ≡ (get_or ls lane d).took)
      → LanesShow all q ls s → LanesShow all q' (set ls lane x) (dealt (lane_of_unit lo all) s us)
  shows_dealt lo all q q' ls item lane x s [] none e at l ring seats count p = absurd (let clash : item ∷ q' ≡ [] = sym e ∙ p.rest ∙ ap (with_numbers (peers_of all)) none in cc)
  shows_dealt lo all q q' ls item lane x s (u ∷ us) some e at l ring seats count p =
      let keys = peers_of all in
      let both : item ∷ q' ≡ with_number keys u ∷ with_numbers keys us = sym e ∙ p.rest ∙ ap (with_numbers keys) some in
      let first : item ≡ with_number keys u = cc in
      let later : q' ≡ with_numbers keys us = cc in
      let own = lo (number_of_peer all u.peer) in
      let here : own ≡ lane = ap (λ i. lo i.number) (sym first) ∙ at in
      record {
        rest = later;
        each = λ other d m.
            elim (eqb own other) as (λ b. eqb own other ≡ b → LaneShows all (get_or (set ls lane x) other d) (if b then s.ring own ++ u ∷ [] else s.ring other) (s.taken other)) [
              | true ↦ λ t.
                  let same : own ≡ other = eqb-true own other t in
                  let is : lane ≡ other = sym here ∙ same in
                  let old = p.each lane d l in
                  subst (λ y. LaneShows all y (s.ring own ++ u ∷ []) (s.taken other)) (sym (ap (λ n. get_or (set ls lane x) n d) (sym is) ∙ get_or-set_same ls lane x d l))
                  (subst (λ n. LaneShows all x (s.ring own ++ u ∷ []) (s.taken n)) is
                  (subst (λ n. LaneShows all x (s.ring n ++ u ∷ []) (s.taken lane)) (sym here) record {
                    ring = ring d ∙ ap (λ k. k ++ item ∷ []) old.ring ∙ ap (λ i. with_numbers keys (s.ring lane) ++ i ∷ []) first ∙ sym (map-append (with_number keys) (s.ring lane) (u ∷ []));
                    seats = subst (λ y. SeatsHold y (with_numbers keys (s.taken lane))) (sym (seats d)) old.seats;
                    took = count d ∙ old.took;
                  }))
              | false ↦ λ t.
                  let ne : other ≢ lane = λ same. (let clash : false ≡ true = sym t ∙ eq-eqb own other (here ∙ sym same) in cc) in
                  let inside : other < length ls = (let n = length-set ls lane x in omega arith) in
                  subst (λ y. LaneShows all y (s.ring other) (s.taken other)) (sym (get_or-set_other ls lane other x d ne)) (p.each other d inside)
            ] refl;
        past = λ other m.
            let beyond : length ls ≤ other = (let n = length-set ls lane x in omega arith) in
            elim (eqb own other) as (λ b. eqb own other ≡ b → ((if b then s.ring own ++ u ∷ [] else s.ring other) ≡ []) × (s.taken other ≡ [])) [
              | true ↦ λ t. (let same : own ≡ other = eqb-true own other t in absurd (omega arith))
              | false ↦ λ t. p.past other beyond
            ] refl;
      }

  -- ---- a unit is taken

  -- the first unit that waits in a lane's ring goes to its session
  pub shows_one : (all : List ReplayUnit) (lane lane' : OneLane M A g a) (item : PeerUnit) (rest : List PeerUnit) (waiting taken : List ReplayUnit) → lane.ring.items ≡ item ∷ rest → lane'.ring.items ≡ rest → lane'.took ≡ min (lane.took + 1) (2 ^ 64 - 1)
      → ((items : List PeerUnit) → SeatsHold lane.seats items → SeatsHold lane'.seats (items ++ item ∷ [])) → LaneShows all lane waiting taken → LaneShows all lane' (drop 1 waiting) (taken ++ take 1 waiting)
  shows_one all lane lane' item rest [] taken at ring count seats p = absurd (let clash : item ∷ rest ≡ [] = sym at ∙ p.ring in cc)
  shows_one all lane lane' item rest (u ∷ us) taken at ring count seats p =
      let both : item ∷ rest ≡ with_number (peers_of all) u ∷ with_numbers (peers_of all) us = sym at ∙ p.ring in
      let first : item ≡ with_number (peers_of all) u = cc in
      let others : rest ≡ with_numbers (peers_of all) us = cc in
      record {
        ring = ring ∙ others;
        seats = subst (SeatsHold lane'.seats) (ap (λ i. with_numbers (peers_of all) taken ++ i ∷ []) first ∙ sym (map-append (with_number (peers_of all)) taken (u ∷ []))) (seats (with_numbers (peers_of all) taken) p.seats);
        took = (let m = p.took in let n = length-append taken (u ∷ []) in omega arith);
      }

  -- a lane changed, and the others did not
  changed_lane : (all : List ReplayUnit) (q : List PeerUnit) (ls : List (OneLane M A g a)) (lane : ℕ) (x : OneLane M A g a) (s : LanesState) (waiting taken : List ReplayUnit) → lane < length ls → LaneShows all x waiting taken → LanesShow all q ls s
      → (other : ℕ) (d : OneLane M A g a) → other < length (set ls lane x) → LaneShows all (get_or (set ls lane x) other d) (if eqb lane other then waiting else s.ring other) (if eqb lane other then taken else s.taken other)
  changed_lane all q ls lane x s waiting taken l h p other d m =
      elim (eqb lane other) as (λ b. eqb lane other ≡ b → LaneShows all (get_or (set ls lane x) other d) (if b then waiting else s.ring other) (if b then taken else s.taken other)) [
        | true ↦ λ t. subst (λ y. LaneShows all y waiting taken) (sym (ap (λ n. get_or (set ls lane x) n d) (sym (eqb-true lane other t)) ∙ get_or-set_same ls lane x d l)) h
        | false ↦ λ t.
            let ne : other ≢ lane = λ same. (let clash : false ≡ true = sym t ∙ eq-eqb lane other (sym same) in cc) in
            let inside : other < length ls = (let n = length-set ls lane x in omega arith) in
            subst (λ y. LaneShows all y (s.ring other) (s.taken other)) (sym (get_or-set_other ls lane other x d ne)) (p.each other d inside)
      ] refl

  pub shows_took : (all : List ReplayUnit) (q : List PeerUnit) (ls : List (OneLane M A g a)) (lane : ℕ) (x : OneLane M A g a) (s : LanesState) (us : List ReplayUnit) → s.ring lane ≡ us → lane < length ls
      → LaneShows all x (drop 1 us) (s.taken lane ++ take 1 us) → LanesShow all q ls s → LanesShow all q (set ls lane x) (took lane s us)
  shows_took all q ls lane x s [] none l h p = record {
    rest = p.rest;
    each = λ other d m.
        let kept : LaneShows all x (s.ring lane) (s.taken lane) = subst (λ k. LaneShows all x k (s.taken lane)) (sym none) (subst (LaneShows all x []) (append-nil (s.taken lane)) h) in
        subst (λ k. LaneShows all (get_or (set ls lane x) other d) k (s.taken other)) (same_if s.ring lane other)
        (subst (LaneShows all (get_or (set ls lane x) other d) (if eqb lane other then s.ring lane else s.ring other)) (same_if s.taken lane other)
        (changed_lane all q ls lane x s (s.ring lane) (s.taken lane) l kept p other d m));
    past = λ other m. p.past other (let n = length-set ls lane x in omega arith);
  }
  shows_took all q ls lane x s (u ∷ us) some l h p = record {
    rest = p.rest;
    each = λ other d m. changed_lane all q ls lane x s us (s.taken lane ++ u ∷ []) l h p other d m;
    past = λ other m.
        let beyond : length ls ≤ other = (let n = length-set ls lane x in omega arith) in
        elim (eqb lane other) as (λ b. eqb lane other ≡ b → ((if b then us else s.ring other) ≡ []) × ((if b then s.taken lane ++ u ∷ [] else s.taken other) ≡ [])) [
          | true ↦ λ t. (let same : lane ≡ other = eqb-true lane other t in absurd (omega arith))
          | false ↦ λ t. p.past other beyond
        ] refl;
  }

  pub took_from : {T E : Type 0} (r : Result T E) (ls : List (OneLane M A g a)) (lane : ℕ) (e x : OneLane M A g a) → lane < length ls
      → OnOk r ((all waiting taken : List ReplayUnit) → LaneShows all (get_or ls lane e) waiting taken → LaneShows all x (drop 1 waiting) (taken ++ take 1 waiting))
      → OnOk r ((all : List ReplayUnit) (q : List PeerUnit) (s : LanesState) → LanesShow all q ls s → LanesShow all q (set ls lane x) (took lane s (s.ring lane)))
  took_from (Ok o) ls lane e x l h = λ all q s p. shows_took all q ls lane x s (s.ring lane) refl l (h all (s.ring lane) (s.taken lane) (p.each lane e l)) p
  took_from (Err o) ls lane e x l h = tt

-- ---- events in a row

fold-push : {A B : Type 0} (f : A → B → A) (xs : List B) (x : B) (a : A) → fold f a (xs ++ x ∷ []) ≡ f (fold f a xs) x
fold-push f [] x a = refl
fold-push f (y ∷ xs) x a = fold-push f xs x (f a y)

pub fold_next : {A B : Type 0} (f : A → B → A) (xs : List B) (i : ℕ) (d : B) (a : A) → i < length xs → fold f a (take (i + 1) xs) ≡ f (fold f a (take i xs)) (get_or xs i d)
fold_next f xs i d a l = ap (fold f a) (take_more xs i d l) ∙ fold-push f (take i xs) (get_or xs i d) a
