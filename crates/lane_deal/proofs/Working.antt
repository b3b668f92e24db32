-- What a worker took, step by step.
use Rattle.std.proofs.Common.{◌≡◌, ◌+◌, ◌-◌, ◌^◌, ◌<◌, min, List, [], ◌∷◌, ◌++◌, length, refl, sym, ap, ◌∙◌, subst, append_assoc, arith, length-append}
use Rattle.std.proofs.lemmas.List.{append-nil}
use Rattle.peer_units.specs.Events.{event_in}
use Rattle.rtrb.specs.Ring.{SameConsumer, received as received_lists}
use Rattle.unit_rings.specs.Plain.{UnitList, PeerUnit}
use Rattle.lane_deal.specs.Plain.{Worker}
use Rattle.unit_rings.specs.UnitLists.{IsUnitList, units_of, units_of_lists}
use Rattle.unit_rings.specs.UnitRings.{received, known_items, known_lists}
use Rattle.unit_rings.proofs.UnitLists.{units_pushed}
use Rattle.unit_rings.specs.DecodedUnitLists.{AreDecoded, BatchState, head_of, no_batch}
use Rattle.unit_rings.proofs.Batches.{AreDecoded-none, AreDecoded-more}
use Rattle.lane_deal.specs.LaneWorkers.{Took, TookFront, TookSome, Takes, TakesAhead, Worked}

module _ {S : Type 0} (stands_for : S → List PeerUnit → Type 0) where
  pub Took-append : (a b c : Worker S) (xs ys : List PeerUnit) → Took stands_for a b xs → Took stands_for b c ys → Took stands_for a c (xs ++ ys)
  Took-append a b c xs ys p q =
      record {
        lane = q.lane ∙ p.lane;
        ring = ((q.ring.0.0 ∙ p.ring.0.0, q.ring.0.1 ∙ p.ring.0.1, q.ring.0.2 ∙ p.ring.0.2, q.ring.0.3 ∙ p.ring.0.3), q.ring.1 ∙ p.ring.1);
        received = q.received ∙ (ap (λ r. r ++ ys) p.received ∙ append_assoc (received a.consumer) xs ys);
        counted = (let m = p.counted in let n = q.counted in let k = length-append xs ys in omega arith);
        sessions = λ taken h. rw (← append_assoc) (q.sessions (taken ++ xs) (p.sessions taken h));
      }

  pub TookSome-more : (a b c : Worker S) → TookSome stands_for a b → TookSome stands_for b c → TookSome stands_for a c
  TookSome-more a b c p q =
      record { items = p.items ++ q.items; took = Took-append a b c p.items q.items p.took q.took }

  pub Worked-both : (a b c : Worker S) → Took stands_for a b (known_items a.consumer) → TookSome stands_for b c → Worked stands_for a c
  Worked-both a b c p q =
      record { items = known_items a.consumer ++ q.items; took = Took-append a b c (known_items a.consumer) q.items p q.took; known = (q.items, refl) }

  -- the units of the list that was popped, which were then taken
  pub TookFront-from : (a b c : Worker S) (list : UnitList) → b.lane ≡ a.lane → b.taken ≡ a.taken → b.sessions ≡ a.sessions → IsUnitList list → SameConsumer a.consumer b.consumer
      → received_lists b.consumer ≡ received_lists a.consumer ++ list ∷ [] → known_lists a.consumer ≡ list ∷ known_lists b.consumer → Takes stands_for b c (units_of list) → TookFront stands_for a c
  TookFront-from a b c list lane count same some ring got left q =
      record {
        items = units_of list;
        took = record {
          lane = q.lane ∙ lane;
          ring = subst (SameConsumer a.consumer) (sym q.ring) ring;
          received = ap received q.ring ∙ (ap units_of_lists got ∙ units_pushed (received_lists a.consumer) list);
          counted = q.counted ∙ ap (λ n. min (n + length (units_of list)) (2 ^ 64 - 1)) count;
          sessions = subst (λ s. (taken : List PeerUnit) → stands_for s taken → stands_for c.sessions (taken ++ units_of list)) same q.sessions;
        };
        some = some.0;
        left = ap units_of_lists left ∙ ap (λ k. units_of list ++ known_items k) (sym q.ring);
      }

  -- the first of the items that were known, and what is left of them
  pub record TookKnown (a b : Worker S) : Type 0 where
    pub items : List PeerUnit
    pub took : Took stands_for a b items
    pub left : known_items a.consumer ≡ items ++ known_items b.consumer

  pub TookKnown-more : (a b c : Worker S) → TookKnown a b → TookFront stands_for b c → TookKnown a c
  TookKnown-more a b c p q =
      record {
        items = p.items ++ q.items;
        took = Took-append a b c p.items q.items p.took q.took;
        left = p.left ∙ (ap (λ l. p.items ++ l) q.left ∙ sym (append_assoc p.items q.items (known_items c.consumer)));
      }

  pub Takes-more : (a b c : Worker S) (items : List PeerUnit) (item : PeerUnit) → Takes stands_for a b items → c.lane ≡ b.lane → c.consumer ≡ b.consumer → c.taken ≡ min (b.taken + 1) (2 ^ 64 - 1)
      → ((taken : List PeerUnit) → stands_for b.sessions taken → stands_for c.sessions (taken ++ item ∷ [])) → Takes stands_for a c (items ++ item ∷ [])
  Takes-more a b c items item p lane ring count h =
      record {
        lane = lane ∙ p.lane;
        ring = ring ∙ p.ring;
        counted = (let m = p.counted in let n = length-append items (item ∷ []) in omega (arith, count));
        sessions = λ taken g. rw (← append_assoc) (h (taken ++ items) (p.sessions taken g));
      }

  -- what was decoded ahead is taken
  pub TakesAhead-none : (w : Worker S) (batch : BatchState) → w.taken < 2 ^ 64 → batch ≡ no_batch → TakesAhead stands_for w w batch []
  TakesAhead-none w batch l e =
      record {
        taken = [];
        waiting = [];
        takes = record { lane = refl; ring = refl; counted = omega arith; sessions = λ taken g. rw append-nil g };
        decoded = subst (λ b. AreDecoded b []) (sym e) AreDecoded-none;
        whole = refl;
      }

  pub Takes-append : (a b c : Worker S) (xs ys : List PeerUnit) → Takes stands_for a b xs → Takes stands_for b c ys → Takes stands_for a c (xs ++ ys)
  Takes-append a b c xs ys p q =
      record {
        lane = q.lane ∙ p.lane;
        ring = q.ring ∙ p.ring;
        counted = (let m = p.counted in let n = q.counted in let k = length-append xs ys in omega arith);
        sessions = λ taken h. rw (← append_assoc) (q.sessions (taken ++ xs) (p.sessions taken h));
      }

  -- one more is decoded
  pub TakesAhead-more : (a b : Worker S) (batch batch' : BatchState) (items : List PeerUnit) (item : PeerUnit) → TakesAhead stands_for a b batch items → batch'.heads ≡ batch.heads ++ head_of item ∷ [] → batch'.events ≡ batch.events ++ event_in item.unit.payload ∷ [] → TakesAhead stands_for a b batch' (items ++ item ∷ [])
  TakesAhead-more a b batch batch' items item p heads events =
      record {
        taken = p.taken;
        waiting = p.waiting ++ item ∷ [];
        takes = p.takes;
        decoded = AreDecoded-more batch batch' p.waiting item p.decoded heads events;
        whole = ap (λ l. l ++ item ∷ []) p.whole ∙ append_assoc p.taken p.waiting (item ∷ []);
      }

  -- those that were decoded are taken
  pub TakesAhead-all : (a b c : Worker S) (batch : BatchState) (items : List PeerUnit) → TakesAhead stands_for a b batch items → ((waiting : List PeerUnit) → AreDecoded batch waiting → Takes stands_for b c waiting) → Takes stands_for a c items
  TakesAhead-all a b c batch items p took =
      subst (Takes stands_for a c) (sym p.whole) (Takes-append a b c p.taken p.waiting p.takes (took p.waiting p.decoded))

  -- nothing waits
  pub TakesAhead-from : (a b : Worker S) (batch : BatchState) (items : List PeerUnit) → Takes stands_for a b items → batch ≡ no_batch → TakesAhead stands_for a b batch items
  TakesAhead-from a b batch items p e =
      record { taken = items; waiting = []; takes = p; decoded = subst (λ b. AreDecoded b []) (sym e) AreDecoded-none; whole = sym (append-nil items) }
