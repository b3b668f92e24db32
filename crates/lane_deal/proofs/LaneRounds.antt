-- What a round does to one lane, and to all.
use Rattle.std.proofs.Common.{◌≡◌, ℕ, zero, suc, ◌+◌, ◌<◌, ◌≤◌, cond, eqb, List, [], ◌∷◌, ◌++◌, refl, length, take, Option, Result, slice_index_or, sym, ap, ◌∙◌, subst, append_assoc, arith, length-append}
use Rattle.std.specs.List.{AllZip}
use Rattle.std.proofs.lemmas.List.Elements.{length_all_zip, AllZip-get_or}
use Rattle.unit_rings.specs.UnitRings.{ListConsumer, IsPair, sent, known_free, received, known_items, ring_capacity}
use Rattle.unit_rings.specs.Plain.{PeerUnit}
use Rattle.lane_deal.specs.Plain.{LaneSender, Worker}
use Rattle.lane_deal.specs.LaneSenders.{in_lane, room_of, Pushed, Dealt}
use Rattle.lane_deal.specs.LaneRounds.{Rounded, PlaysLanes}
use Rattle.lane_deal.specs.LaneWorkers.{Takes, Worked}
use Rattle.lane_deal.specs.LaneRings.{IsLane, IsReady, AreReady, LaneStands, LanesStand, Renewed, RenewedAll, Settled}
use Rattle.lane_deal.proofs.Deals.{in_lane-append, Dealt-none}
use Rattle.lane_deal.proofs.DealerLaws.{Deals-unblocked}
use Rattle.mrt_frame.specs.declared.error.ReplayError.{ReplayError}
use Rattle.mrt_body.specs.ToCome.{UnitsState}
use Rattle.lane_deal.specs.Dealers.{Dealer}
use Rattle.lane_deal.specs.DealerSteps.{DealsTo}
use Rattle.lane_deal.specs.declared.step.Step.{Step}
use Rattle.std.proofs.lemmas.List.{append-nil, nil_from_length}
use Rattle.std.proofs.Math.Seq.{take-append_seam}

module _ {S : Type 0} (stands_for : S → List PeerUnit → Type 0) (capacity : ℕ) where
  -- both ends still belong together once one half pushed and the other popped
  pub lane_stays : (f f₁ : LaneSender) (w w₁ : Worker S) (xs : List PeerUnit) → IsReady capacity f w → Pushed f f₁ xs → Worked stands_for w w₁ → IsLane capacity f₁ w₁
  lane_stays f f₁ w w₁ xs r p q =
      let a = p.ring in
      let b = q.took.ring in
      ((b.0.0 ∙ (r.0.0 ∙ sym a.0.0), b.0.1 ∙ (r.0.1 ∙ sym a.0.1), b.0.2 ∙ (r.0.2 ∙ sym a.0.2), b.0.3 ∙ (r.0.3 ∙ sym a.0.3)), a.1 ∙ r.1)

  -- what was taken in the round and what waits after it is what waited before it and what was pushed
  pub lane_order : (f f₁ f₂ : LaneSender) (w w₁ w₂ : Worker S) (xs : List PeerUnit) → IsReady capacity f w → Pushed f f₁ xs → (q : Worked stands_for w w₁) → Renewed capacity f₁ w₁ f₂ w₂ → q.items ++ sent f₂.producer ≡ sent f.producer ++ xs
  lane_order f f₁ f₂ w w₁ w₂ xs r p q n =
      let got : received w₁.consumer ≡ q.items = q.took.received ∙ ap (λ l. l ++ q.items) r.2 in
      ap (λ l. l ++ sent f₂.producer) (sym got) ∙ (n.fifo ∙ p.sent)

  pub lane_stands : (f f₁ f₂ : LaneSender) (w w₁ w₂ : Worker S) (xs dealt : List PeerUnit) → IsReady capacity f w → Pushed f f₁ xs → Worked stands_for w w₁ → Renewed capacity f₁ w₁ f₂ w₂ → LaneStands stands_for f w dealt → LaneStands stands_for f₂ w₂ (dealt ++ xs)
  lane_stands f f₁ f₂ w w₁ w₂ xs dealt r p q n h =
      record {
        taken = h.taken ++ q.items;
        sessions = (let P : S → Type 0 = λ s. stands_for s (h.taken ++ q.items) in subst P (sym n.sessions) (q.took.sessions h.taken h.sessions));
        whole =
            append_assoc h.taken q.items (sent f₂.producer)
            ∙ (ap (λ l. h.taken ++ l) (lane_order f f₁ f₂ w w₁ w₂ xs r p q n) ∙ (sym (append_assoc h.taken (sent f.producer) xs) ∙ ap (λ l. l ++ xs) h.whole));
        counted = (let a = n.taken in let b = q.took.counted in let m = h.counted in let k = length-append h.taken q.items in omega arith);
      }

  -- no more wait than were pushed in the round
  pub lane_taken : (f f₁ f₂ : LaneSender) (w w₁ w₂ : Worker S) (xs : List PeerUnit) → IsReady capacity f w → Pushed f f₁ xs → Worked stands_for w w₁ → Renewed capacity f₁ w₁ f₂ w₂ → length (sent f₂.producer) ≤ length xs
  lane_taken f f₁ f₂ w w₁ w₂ xs r p q n =
      let whole = ap length (lane_order f f₁ f₂ w w₁ w₂ xs r p q n) in
      let known = ap length q.known.1 in
      let same = ap length r.3 in
      omega (arith, length-append q.items (sent f₂.producer), length-append (sent f.producer) xs, length-append (known_items w.consumer) q.known.0)

  module _ (lane_of : ℕ → ℕ) (fs fs₁ : List LaneSender) (ws ws₁ : List (Worker S)) (items : List PeerUnit) (ready : AreReady capacity fs ws) (dealt : Dealt lane_of fs fs₁ items) (worked : AllZip (Worked stands_for) ws ws₁) where
    pub at_feed : (lane : ℕ) (d : LaneSender) → lane < length fs → Pushed (slice_index_or fs lane d) (slice_index_or fs₁ lane d) (in_lane lane_of lane items)
    at_feed lane d l = dealt.each lane d l

    pub at_worker : (lane : ℕ) (e : Worker S) → lane < length fs → Worked stands_for (slice_index_or ws lane e) (slice_index_or ws₁ lane e)
    at_worker lane e l = AllZip-get_or (Worked stands_for) ws ws₁ lane e e worked (let c = ready.0 in omega arith)

    pub lanes_stay : (lane : ℕ) (d : LaneSender) (e : Worker S) → lane < length fs₁ → IsLane capacity (slice_index_or fs₁ lane d) (slice_index_or ws₁ lane e)
    lanes_stay lane d e l =
        let l' : lane < length fs = (let c = dealt.lanes in omega arith) in
        lane_stays _ _ _ _ _ (ready.1 lane d e l') (at_feed lane d l') (at_worker lane e l')

    pub lanes_count : length ws₁ ≡ length fs₁
    lanes_count = let a = length_all_zip (Worked stands_for) ws ws₁ worked in let b = ready.0 in let c = dealt.lanes in omega arith

    module _ (fs₂ : List LaneSender) (ws₂ : List (Worker S)) (renewed : RenewedAll capacity fs₁ ws₁ fs₂ ws₂) where
      pub at_both : (lane : ℕ) (d : LaneSender) (e : Worker S) → lane < length fs → Renewed capacity (slice_index_or fs₁ lane d) (slice_index_or ws₁ lane e) (slice_index_or fs₂ lane d) (slice_index_or ws₂ lane e)
      at_both lane d e l = renewed.each lane d e (let c = dealt.lanes in omega arith)

      pub lanes_ready : AreReady capacity fs₂ ws₂
      lanes_ready = (
        (let a = lanes_count in let b = renewed.firsts_count in let c = renewed.seconds_count in omega arith),
        (λ lane d e l.
            let l' : lane < length fs = (let a = renewed.firsts_count in let c = dealt.lanes in omega arith) in
            let n = at_both lane d e l' in
            (n.pair, n.fits, n.received, n.known, n.room, n.free)),
      )

      pub lanes_stand : (all : List PeerUnit) → LanesStand stands_for lane_of fs ws all → LanesStand stands_for lane_of fs₂ ws₂ (all ++ items)
      lanes_stand all h lane d e l =
          let l' : lane < length fs = (let a = renewed.firsts_count in let c = dealt.lanes in omega arith) in
          rw (in_lane-append lane_of lane all items) (lane_stands _ _ _ _ _ _ _ _ (ready.1 lane d e l') (at_feed lane d l') (at_worker lane e l') (at_both lane d e l') (h lane d e l'))

      pub lanes_taken : Worker S → (lane : ℕ) (d : LaneSender) → lane < length fs → length (sent (slice_index_or fs₂ lane d).producer) ≤ length (in_lane lane_of lane items)
      lanes_taken e lane d l =
          lane_taken _ _ _ _ _ _ _ (ready.1 lane d e l) (at_feed lane d l) (at_worker lane e l) (at_both lane d e l)

      pub lanes_rounded : Rounded stands_for lane_of capacity fs ws fs₂ ws₂ items
      lanes_rounded = record { count = renewed.firsts_count ∙ dealt.lanes; ready = lanes_ready; stands = lanes_stand; taken = lanes_taken }

  pub Settled-from : (fs fs₂ : List LaneSender) (ws ws₁ ws₂ : List (Worker S)) → AreReady capacity fs ws → AllZip (Worked stands_for) ws ws₁ → RenewedAll capacity fs ws₁ fs₂ ws₂ → Settled stands_for capacity fs ws fs₂ ws₂
  Settled-from fs fs₂ ws ws₁ ws₂ ready worked renewed =
      let none : (f : ℕ → ℕ) → Dealt f fs fs [] = λ f. Dealt-none f fs in
      record {
        count = renewed.firsts_count;
        ready = lanes_ready (λ n. n) fs fs ws ws₁ [] ready (none (λ n. n)) worked fs₂ ws₂ renewed;
        stands =
            λ f dealt h.
            let P : List PeerUnit → Type 0 = LanesStand stands_for f fs₂ ws₂ in
            subst P (append-nil dealt) (lanes_stand f fs fs ws ws₁ [] ready (none f) worked fs₂ ws₂ renewed dealt h);
        empty =
            λ e lane d l.
            nil_from_length _ (let t = lanes_taken (λ n. n) fs fs ws ws₁ [] ready (none (λ n. n)) worked fs₂ ws₂ renewed e lane d l in omega arith);
      }

  -- ---- a single worker in the thread that deals

  -- all items go to the only lane
  pub in_only_lane : (lane_of : ℕ → ℕ) → ((number : ℕ) → lane_of number < 1) → (items : List PeerUnit) → in_lane lane_of 0 items ≡ items
  in_only_lane lane_of below [] = refl
  in_only_lane lane_of below (item ∷ items) =
      let zero_is : lane_of item.number ≡ 0 = (let b = below item.number in omega arith) in
      ap (λ n. cond (eqb n 0) (item ∷ in_lane lane_of 0 items) (in_lane lane_of 0 items)) zero_is ∙ ap (λ l. item ∷ l) (in_only_lane lane_of below items)

  -- what was dealt is taken, where nothing waited
  pub alone_stands : (f : LaneSender) (w w₁ : Worker S) (xs dealt : List PeerUnit) → sent f.producer ≡ [] → Takes stands_for w w₁ xs → LaneStands stands_for f w dealt → LaneStands stands_for f w₁ (dealt ++ xs)
  alone_stands f w w₁ xs dealt empty q h =
      record {
        taken = h.taken ++ xs;
        sessions = q.sessions h.taken h.sessions;
        whole =
            ap (λ l. (h.taken ++ xs) ++ l) empty ∙ (append-nil (h.taken ++ xs)
            ∙ ap (λ l. l ++ xs) (sym (append-nil h.taken) ∙ (ap (λ l. h.taken ++ l) (sym empty) ∙ h.whole)));
        counted = (let a = q.counted in let m = h.counted in let k = length-append h.taken xs in omega arith);
      }

  pub alone_ready : (capacity : ℕ) (f : LaneSender) (w w₁ : Worker S) → w₁.consumer ≡ w.consumer → IsReady capacity f w → IsReady capacity f w₁
  alone_ready capacity f w w₁ same r =
      let Q : ListConsumer → Type 0 = λ c. IsPair f.producer c × (ring_capacity f.producer ≡ capacity) × (received c ≡ []) × (known_items c ≡ sent f.producer) × (length (sent f.producer) ≤ capacity) × (known_free f.producer + length (sent f.producer) ≡ capacity) in
      subst Q (sym same) r

  -- a worker alone took what was dealt, once what waited had been taken
  pub alone_rounded : (lane_of : ℕ → ℕ) (fs fs₁ : List LaneSender) (ws ws₁ rest : List (Worker S)) (w w₁ : Worker S) (items : List PeerUnit) → length fs ≡ 1 → ((number : ℕ) → lane_of number < 1) → Settled stands_for capacity fs ws fs₁ ws₁ → ws₁ ≡ rest ++ w ∷ [] → Takes stands_for w w₁ items
      → Rounded stands_for lane_of capacity fs ws fs₁ (rest ++ w₁ ∷ []) items
  alone_rounded lane_of fs fs₁ ws ws₁ rest w w₁ items one below s is took =
      record { count = s.count; ready = (count, ready); stands = stands; taken = taken }
    where
      first : 0 < length fs₁
      first = let c = s.count in omega arith

      none : length rest ≡ 0
      none = let c = s.count in let r = s.ready.0 in let n = ap length is in let m = length-append rest (w ∷ []) in omega arith

      count : length (rest ++ w₁ ∷ []) ≡ length fs₁
      count = let c = s.count in let n = none in let m = length-append rest (w₁ ∷ []) in omega arith

      at : (e v : Worker S) → slice_index_or (rest ++ v ∷ []) 0 e ≡ v
      at e v = ap (λ l. slice_index_or (l ++ v ∷ []) 0 e) (nil_from_length rest none)

      takes : (e : Worker S) → Takes stands_for (slice_index_or ws₁ 0 e) (slice_index_or (rest ++ w₁ ∷ []) 0 e) items
      takes e =
          let P : Worker S → Type 0 = λ v. Takes stands_for v (slice_index_or (rest ++ w₁ ∷ []) 0 e) items in
          subst P (sym (ap (λ l. slice_index_or l 0 e) is ∙ at e w)) (subst (λ v. Takes stands_for w v items) (sym (at e w₁)) took)

      ready : (lane : ℕ) (d : LaneSender) (e : Worker S) → lane < length fs₁ → IsReady capacity (slice_index_or fs₁ lane d) (slice_index_or (rest ++ w₁ ∷ []) lane e)
      ready zero d e l = alone_ready capacity (slice_index_or fs₁ 0 d) (slice_index_or ws₁ 0 e) (slice_index_or (rest ++ w₁ ∷ []) 0 e) (takes e).ring (s.ready.1 0 d e first)
      ready (suc lane) d e l = absurd (let c = s.count in omega arith)

      stands : (dealt : List PeerUnit) → LanesStand stands_for lane_of fs ws dealt → LanesStand stands_for lane_of fs₁ (rest ++ w₁ ∷ []) (dealt ++ items)
      stands dealt h zero d e l =
          rw (in_lane-append lane_of 0 dealt items, in_only_lane lane_of below items)
          (alone_stands (slice_index_or fs₁ 0 d) (slice_index_or ws₁ 0 e) (slice_index_or (rest ++ w₁ ∷ []) 0 e) items (in_lane lane_of 0 dealt) (s.empty e 0 d (omega (arith, one))) (takes e) (s.stands lane_of dealt h 0 d e first))
      stands dealt h (suc lane) d e l = absurd (let c = s.count in omega arith)

      taken : Worker S → (lane : ℕ) (d : LaneSender) → lane < length fs → length (sent (slice_index_or fs₁ lane d).producer) ≤ length (in_lane lane_of lane items)
      taken e zero d l = (let empty = ap length (s.empty e 0 d l) in omega arith)
      taken e (suc lane) d l = absurd (omega arith)

  -- what a dealer did in the round, and that the worker alone took it
  pub alone_plays : {D : Type 0} (lane_of : ℕ → ℕ) (batch most : ℕ) (fs fs₁ : List LaneSender) (ws ws₁ rest : List (Worker S)) (w w₁ : Worker S) (old new : Dealer D) (u u' : UnitsState) (k k' : List (Option (List ℕ))) (result : Result Step ReplayError) → batch < most → length fs ≡ 1 → ((number : ℕ) → lane_of number < 1)
      → Settled stands_for capacity fs ws fs₁ ws₁ → ws₁ ≡ rest ++ w ∷ [] → DealsTo (Takes stands_for) lane_of batch (λ _. most) w w₁ old new u k u' k' result → PlaysLanes stands_for lane_of capacity batch fs ws fs₁ (rest ++ w₁ ∷ []) old new u k u' k' result
  unfolding Deals-unblocked
  alone_plays lane_of batch most fs fs₁ ws ws₁ rest w w₁ old new u u' k k' result few one below s is p =
      record { deals = Deals-unblocked lane_of (room_of fs) batch most old new u u' k k' result few p.deals; rounded = alone_rounded lane_of fs fs₁ ws ws₁ rest w w₁ _ one below s is p.received }

-- a round of as many lanes, said of the lists that were written back
pub PlaysLanes-as : {S D : Type 0} (stands_for : S → List PeerUnit → Type 0) (lane_of : ℕ → ℕ) (capacity batch : ℕ) (fs fs₁ fs₂ : List LaneSender) (ws ws₁ ws₂ : List (Worker S)) (old new : Dealer D) (u u' : UnitsState) (k k' : List (Option (List ℕ))) (result : Result Step ReplayError) → fs₂ ≡ fs₁ → ws₂ ≡ ws₁ → PlaysLanes stands_for lane_of capacity batch fs ws fs₁ ws₁ old new u k u' k' result → PlaysLanes stands_for lane_of capacity batch fs ws fs₂ ws₂ old new u k u' k' result
PlaysLanes-as {S} stands_for lane_of capacity batch fs fs₁ fs₂ ws ws₁ ws₂ old new u u' k k' result e f p =
    let P : List LaneSender → Type 0 = λ xs. PlaysLanes stands_for lane_of capacity batch fs ws xs ws₂ old new u k u' k' result in
    let Q : List (Worker S) → Type 0 = λ xs. PlaysLanes stands_for lane_of capacity batch fs ws fs₁ xs old new u k u' k' result in
    subst P (sym e) (subst Q (sym f) p)

-- a list that was written back whole
pub written : {X : Type 0} (n : ℕ) (xs ys : List X) → length xs ≡ n → take n (xs ++ ys) ≡ xs
written n xs ys e = ap (λ k. take k (xs ++ ys)) (sym e) ∙ take-append_seam xs ys
