-- The peers of a checkpoint's units are its peers, in their order, and each of these is left as it was.
use Rattle.std.proofs.Common.{◌≡◌, ℕ, zero, suc, ◌+◌, ◌<◌, Bool, true, false, cond, ◌&&◌, ◌||◌, eqb, List, [], ◌∷◌, ◌++◌, length, map, get_or, T, refl, sym, ap, subst, ◌∙◌, arith, append_assoc, append-nil}
use Rattle.std.specs.List.{flat_map, list_any, AllByRecursion, enumerate_from}
use Rattle.std.proofs.lemmas.List.Folds.{list_any-append}
use Rattle.std.proofs.lemmas.Bool.{ne_eqb, eq-eqb, eqb-true}
use Rattle.mrt_frame.specs.Positions.{flat_map_after}
use Rattle.std.specs.FinMap.Entries.{is_sorted}
use Rattle.bgp_prefix.specs.Prefixes.{IpPrefix}
use Rattle.bgp_prefix.specs.Keys.{RouteKey, key_cmp}
use Rattle.bgp_update.specs.declared.route.Route.{Route}
use Rattle.bgp_update.specs.declared.width.Width.TheVariants.{Four}
use Rattle.bgp_update.specs.ErrorRules.{is_handling}
use Rattle.bgp_update.specs.Families.{Rules, by_entry_width, route_rules}
use Rattle.peer_units.specs.declared.state_rule.StateRule.{StateRule}
use Rattle.peer_units.specs.declared.unit.PeerAddr.{PeerAddr}
use Rattle.peer_units.specs.declared.unit.PeerAddr.TheVariants.{V4, V6}
use Rattle.peer_units.specs.declared.unit.PeerKey.{PeerKey}
use Rattle.peer_units.specs.Plain.{Unit as ReplayUnit}
use Rattle.mrt_body.specs.declared.record_place.RecordAt.{RecordAt}
use Rattle.peer_units.specs.declared.unit.Payload.TheVariants.{State}
use Rattle.mrt_body.specs.Units.{no_peer, at_record, session_unit}
use Rattle.adj_rib.proofs.Positions.{after_both}
use Rattle.peer_tables.specs.Peers.{addr_eq, peer_eq, peers_of, units_of_peer}
use Rattle.mrt_writing.specs.RibRecords.{PrefixRoute, FitsPrefixRoute, units_of_entries}
use Rattle.mrt_writing.specs.Records.{written_size}
use Rattle.mrt_writing.specs.Dumps.{DumpRecord, update, record_of, FitsDumpRecord, units_of_dump}
use Rattle.mrt_writing.specs.Heads.{state_after}
use Rattle.table_dumps.specs.Dumped.{DumpsTable}
use Rattle.table_dumps.specs.Checkpoints.{DumpedPeer, others_in, PrefixPart, all_parts, Split, Splits, state_record, part_record, update_records, checkpoint_records, Tells, keys_of, Apart}
use Rattle.table_dumps.specs.Fitting.{HaveMandatory}
use Rattle.table_dumps.proofs.PeerUnits.{peer_units, units_both}
use Rattle.table_dumps.proofs.DumpLaws.{table_left, state_left}
use Rattle.table_dumps.specs.Dumped.{is_as}
use Rattle.adj_rib.specs.Steps.{is_up, is_established, steps_of}
use Rattle.adj_rib.specs.Tables.{table_of}
use Rattle.peer_units.specs.States.{stays_up}
use borrow.Author.Tests.{both_ways}

-- ---- equal peers

addr_itself : (a : PeerAddr) → addr_eq a a ≡ true
addr_itself (V4 a) = eq-eqb a a refl
addr_itself (V6 a) = eq-eqb a a refl

pub peer_itself : (p : PeerKey) → peer_eq p p ≡ true
peer_itself p = λ i. eq-eqb p.asn p.asn refl i && addr_itself p.addr i

eqb_swap : (a b : ℕ) → eqb a b ≡ eqb b a
eqb_swap a b = by_test (eqb a b) refl (eqb b a) refl
  where
    by_test : (x : Bool) → eqb a b ≡ x → (y : Bool) → eqb b a ≡ y → x ≡ y
    by_test true e true f = refl
    by_test false e false f = refl
    by_test true e false f = sym (eq-eqb b a (sym (eqb-true a b e))) ∙ f
    by_test false e true f = sym e ∙ eq-eqb a b (sym (eqb-true b a f))

addr_swap : (a b : PeerAddr) → addr_eq a b ≡ addr_eq b a
addr_swap (V4 a) (V4 b) = eqb_swap a b
addr_swap (V6 a) (V6 b) = eqb_swap a b
addr_swap (V4 a) (V6 b) = refl
addr_swap (V6 a) (V4 b) = refl

pub peer_swap : (p q : PeerKey) → peer_eq p q ≡ peer_eq q p
peer_swap p q = λ i. eqb_swap p.asn q.asn i && addr_swap p.addr q.addr i

eqb_suc : (a b : ℕ) → eqb (suc a) (suc b) ≡ eqb a b
eqb_suc a b = by_test (eqb a b) refl
  where
    by_test : (x : Bool) → eqb a b ≡ x → eqb (suc a) (suc b) ≡ x
    by_test true e = eq-eqb (suc a) (suc b) (ap suc (eqb-true a b e))
    by_test false e = ne_eqb (suc a) (suc b) (λ f. both_ways (eqb a b) e (eq-eqb a b (omega (arith, f))))

-- ---- peers apart

pick : (P : PeerKey → Type 0) (front : List DumpedPeer) (p : DumpedPeer) (back : List DumpedPeer) → AllByRecursion P (keys_of (front ++ p ∷ back)) → P p.key
pick P [] p back h = h.0
pick P (f ∷ front) p back h = pick P front p back h.1

at_index : (P : PeerKey → Type 0) (keys : List PeerKey) (j : ℕ) → j < length keys → AllByRecursion P keys → P (get_or keys j no_peer)
at_index P [] j lt h = absurd (omega (arith, lt))
at_index P (k ∷ keys) zero lt h = h.0
at_index P (k ∷ keys) (suc j) lt h = at_index P keys j (omega (arith, lt)) h.1

abbrev Others : PeerKey → List DumpedPeer → Type 0
Others q peers = AllByRecursion (λ (p : DumpedPeer). peer_eq p.key q ≡ false) peers

others_of : (q : PeerKey) (peers : List DumpedPeer) → AllByRecursion (λ (k : PeerKey). peer_eq k q ≡ false) (keys_of peers) → Others q peers
others_of q [] h = tt
others_of q (p ∷ peers) h = (h.0, others_of q peers h.1)

apart_front : (front : List DumpedPeer) (p : DumpedPeer) (back : List DumpedPeer) → Apart (keys_of (front ++ p ∷ back)) → Others p.key front
apart_front [] p back h = tt
apart_front (f ∷ front) p back h = (peer_swap f.key p.key ∙ pick (λ (k : PeerKey). peer_eq k f.key ≡ false) front p back h.0, apart_front front p back h.1)

apart_back : (front : List DumpedPeer) (p : DumpedPeer) (back : List DumpedPeer) → Apart (keys_of (front ++ p ∷ back)) → Others p.key back
apart_back [] p back h = others_of p.key back h.0
apart_back (f ∷ front) p back h = apart_back front p back h.1

tells : (front : List DumpedPeer) (p : DumpedPeer) (back : List DumpedPeer) → Apart (keys_of (front ++ p ∷ back)) → Tells (λ (k : PeerKey). peer_eq k p.key) (length front) (keys_of (front ++ p ∷ back))
tells [] p back h zero lt = peer_itself p.key
tells [] p back h (suc j) lt = at_index (λ (k : PeerKey). peer_eq k p.key ≡ false) (keys_of back) j (omega (arith, lt)) h.0 ∙ sym (ne_eqb (suc j) 0 (λ e. absurd (omega (arith, e))))
tells (f ∷ front) p back h zero lt = peer_swap f.key p.key ∙ pick (λ (k : PeerKey). peer_eq k f.key ≡ false) front p back h.0 ∙ sym (ne_eqb 0 (suc (length front)) (λ e. absurd (omega (arith, e))))
tells (f ∷ front) p back h (suc j) lt = tells front p back h.1 j (omega (arith, lt)) ∙ sym (eqb_suc j (length front))

-- ---- each peer

module _ (split : Split) (whole : Splits split) (rules : Rules) (rule : StateRule) (file offset seconds : ℕ) where
  abbrev units_for : List DumpedPeer → List ReplayUnit
  units_for peers = units_of_dump file offset rules rule seconds (keys_of peers) (checkpoint_records split rules.family peers)

  abbrev Fit : List DumpedPeer → Type 0
  Fit peers = AllByRecursion (FitsDumpRecord (route_rules rules) seconds (keys_of peers)) (checkpoint_records split rules.family peers)

  dumped : (front : List DumpedPeer) (p : DumpedPeer) (back : List DumpedPeer) → Apart (keys_of (front ++ p ∷ back)) → Fit (front ++ p ∷ back) → T (is_sorted key_cmp p.table) → (stays_up rule (state_after p.up) ≡ false → p.table ≡ []) → (is_handling rules.errors ≡ true → HaveMandatory rules.family p)
      → DumpsTable rules.family rule p.up p.table (units_of_peer (units_for (front ++ p ∷ back)) p.key)
  dumped front p back apart fit sorted down mandatory =
      peer_units rules rule file seconds (keys_of (front ++ p ∷ back)) (λ (k : PeerKey). peer_eq k p.key) split whole offset front p back (apart_front front p back apart) (peer_itself p.key) (apart_back front p back apart) (tells front p back apart) fit sorted down mandatory

  pub table_again : (front : List DumpedPeer) (p : DumpedPeer) (back : List DumpedPeer) → Apart (keys_of (front ++ p ∷ back)) → Fit (front ++ p ∷ back) → T (is_sorted key_cmp p.table) → (stays_up rule (state_after p.up) ≡ false → p.table ≡ []) → (is_handling rules.errors ≡ true → HaveMandatory rules.family p)
      → table_of (steps_of (units_of_peer (units_for (front ++ p ∷ back)) p.key)) ≡ p.table
  table_again front p back apart fit sorted down mandatory = table_left rules.family rule p.up p.table (units_of_peer (units_for (front ++ p ∷ back)) p.key) (dumped front p back apart fit sorted down mandatory)

  pub state_again : (front : List DumpedPeer) (p : DumpedPeer) (back : List DumpedPeer) → Apart (keys_of (front ++ p ∷ back)) → Fit (front ++ p ∷ back) → T (is_sorted key_cmp p.table) → (stays_up rule (state_after p.up) ≡ false → p.table ≡ []) → (is_handling rules.errors ≡ true → HaveMandatory rules.family p)
      → is_as rule (is_up (units_of_peer (units_for (front ++ p ∷ back)) p.key)) (is_established (units_of_peer (units_for (front ++ p ∷ back)) p.key)) ≡ p.up
  state_again front p back apart fit sorted down mandatory = state_left rules.family rule p.up p.table (units_of_peer (units_for (front ++ p ∷ back)) p.key) (dumped front p back apart fit sorted down mandatory)

-- ---- the peers in their order

abbrev pub newcomer : List ReplayUnit → ReplayUnit → List PeerKey
newcomer before u = cond (list_any (λ (x : ReplayUnit). peer_eq x.peer u.peer) before) [] (u.peer ∷ [])

abbrev pub has_been : List ReplayUnit → PeerKey → Bool
has_been before k = list_any (λ (x : ReplayUnit). peer_eq x.peer k) before

or_true_left : (a b : Bool) → a ≡ true → (a || b) ≡ true
or_true_left true b h = refl
or_true_left false b h = absurd cc

or_true_right : (a b : Bool) → b ≡ true → (a || b) ≡ true
or_true_right true b h = refl
or_true_right false b h = h

pub or_none : (a b : Bool) → a ≡ false → b ≡ false → (a || b) ≡ false
or_none true b h k = absurd cc
or_none false b h k = k

been_more : (before more : List ReplayUnit) (k : PeerKey) → has_been before k ≡ true → has_been (before ++ more) k ≡ true
been_more before more k h = list_any-append (λ (x : ReplayUnit). peer_eq x.peer k) before more ∙ or_true_left (has_been before k) (has_been more k) h

-- units of peers that have been there bring none
none_new : (before units : List ReplayUnit) → AllByRecursion (λ (u : ReplayUnit). has_been before u.peer ≡ true) units → flat_map_after newcomer before units ≡ []
none_new before [] h = refl
none_new before (u ∷ units) h =
    λ i. cond (h.0 i) [] (u.peer ∷ []) ++ none_new (before ++ u ∷ []) units (still_been units h.1) i
  where
    still_been : (us : List ReplayUnit) → AllByRecursion (λ (x : ReplayUnit). has_been before x.peer ≡ true) us → AllByRecursion (λ (x : ReplayUnit). has_been (before ++ u ∷ []) x.peer ≡ true) us
    still_been [] k = tt
    still_been (x ∷ us) k = (been_more before (u ∷ []) x.peer k.0, still_been us k.1)

all_both : {A : Type 0} (P : A → Type 0) (xs ys : List A) → AllByRecursion P xs → AllByRecursion P ys → AllByRecursion P (xs ++ ys)
all_both P [] ys h k = k
all_both P (x ∷ xs) ys h k = (h.0, all_both P xs ys h.1 k)

front_all : {A : Type 0} (P : A → Type 0) (xs ys : List A) → AllByRecursion P (xs ++ ys) → AllByRecursion P xs
front_all P [] ys h = tt
front_all P (x ∷ xs) ys h = (h.0, front_all P xs ys h.1)

back_all : {A : Type 0} (P : A → Type 0) (xs ys : List A) → AllByRecursion P (xs ++ ys) → AllByRecursion P ys
back_all P [] ys h = h
back_all P (x ∷ xs) ys h = back_all P xs ys h.1

module _ (rules : Rules) (rule : StateRule) (file seconds : ℕ) (keys : List PeerKey) where
  abbrev units_at : ℕ → List DumpRecord → List ReplayUnit
  units_at offset records = units_of_dump file offset rules rule seconds keys records

  -- of the state changes each is of a new peer
  states_new : (before : List ReplayUnit) (offset : ℕ) (peers : List DumpedPeer) → Apart (keys_of peers) → AllByRecursion (λ (k : PeerKey). has_been before k ≡ false) (keys_of peers) → flat_map_after newcomer before (units_at offset (map state_record peers)) ≡ keys_of peers
  states_new before offset [] apart fresh = refl
  states_new before offset (p ∷ peers) apart fresh =
      let at = at_record file offset seconds in
      let u = session_unit at 0 p.key (State 6 (state_after p.up) rule) in
      let next = offset + written_size (record_of rules.family seconds (state_record p)) in
      λ i. cond (fresh.0 i) [] (p.key ∷ []) ++ states_new (before ++ u ∷ []) next peers apart.1 (still_fresh u (keys_of peers) apart.0 fresh.1) i
    where
      still_fresh : (u : ReplayUnit) → (ks : List PeerKey) → AllByRecursion (λ (k : PeerKey). peer_eq k u.peer ≡ false) ks → AllByRecursion (λ (k : PeerKey). has_been before k ≡ false) ks → AllByRecursion (λ (k : PeerKey). has_been (before ++ u ∷ []) k ≡ false) ks
      still_fresh u [] a f = tt
      still_fresh u (k ∷ ks) a f =
          (list_any-append (λ (x : ReplayUnit). peer_eq x.peer k) before (u ∷ []) ∙ or_none (has_been before k) (has_been (u ∷ []) k) f.0 (or_none (peer_eq u.peer k) false (peer_swap u.peer k ∙ a.0) refl), still_fresh u ks a.1 f.1)

  states_been : (offset : ℕ) (peers : List DumpedPeer) (k : PeerKey) → list_any (λ (q : PeerKey). peer_eq q k) (keys_of peers) ≡ true → has_been (units_at offset (map state_record peers)) k ≡ true
  states_been offset [] k h = absurd cc
  states_been offset (p ∷ peers) k h = by_test (peer_eq p.key k) h (λ g. states_been (offset + written_size (record_of rules.family seconds (state_record p))) peers k g)
    where
      by_test : (b : Bool) → (b || list_any (λ (q : PeerKey). peer_eq q k) (keys_of peers)) ≡ true → (list_any (λ (q : PeerKey). peer_eq q k) (keys_of peers) ≡ true → has_been (units_at (offset + written_size (record_of rules.family seconds (state_record p))) (map state_record peers)) k ≡ true)
          → (b || has_been (units_at (offset + written_size (record_of rules.family seconds (state_record p))) (map state_record peers)) k) ≡ true
      by_test true g more = refl
      by_test false g more = more g

  -- the others are of listed peers
  abbrev pub Listed : ReplayUnit → Type 0
  Listed u = list_any (λ (q : PeerKey). peer_eq q u.peer) keys ≡ true

  entries_listed : (at : RecordAt) (prefix : IpPrefix) (place : ℕ) (add_path : Bool) (entries : List PrefixRoute) → AllByRecursion (FitsPrefixRoute (route_rules rules) add_path (length keys)) entries → AllByRecursion Listed (units_of_entries (by_entry_width Four rules) at keys prefix place entries)
  entries_listed at prefix place add_path [] h = tt
  entries_listed at prefix place add_path (e ∷ entries) h = (index_listed keys e.peer h.0.known, entries_listed at prefix (place + 1) add_path entries h.1)
    where
      index_listed : (ks : List PeerKey) (j : ℕ) → j < length ks → list_any (λ (q : PeerKey). peer_eq q (get_or ks j no_peer)) ks ≡ true
      index_listed [] j lt = absurd (omega (arith, lt))
      index_listed (k ∷ ks) zero lt = or_true_left (peer_eq k k) (list_any (λ (q : PeerKey). peer_eq q k) ks) (peer_itself k)
      index_listed (k ∷ ks) (suc j) lt = or_true_right (peer_eq k (get_or ks j no_peer)) (list_any (λ (q : PeerKey). peer_eq q (get_or ks j no_peer)) ks) (index_listed ks j (omega (arith, lt)))

  parts_listed : (offset first : ℕ) (parts : List PrefixPart) → AllByRecursion (FitsDumpRecord (route_rules rules) seconds keys) (map part_record (enumerate_from first parts)) → AllByRecursion Listed (units_at offset (map part_record (enumerate_from first parts)))
  parts_listed offset first [] h = tt
  parts_listed offset first (part ∷ parts) h =
      let next = offset + written_size (record_of rules.family seconds (part_record (first, part))) in
      all_both Listed (units_of_entries (by_entry_width Four rules) (at_record file offset seconds) keys part.prefix 1 part.entries) (units_at next (map part_record (enumerate_from (first + 1) parts)))
      (entries_listed (at_record file offset seconds) part.prefix 1 part.add_path part.entries h.0.0.each) (parts_listed next (first + 1) parts h.1)

  updates_listed : (offset : ℕ) (p : DumpedPeer) (es : List (RouteKey × Route)) → list_any (λ (q : PeerKey). peer_eq q p.key) keys ≡ true → AllByRecursion Listed (units_at offset (map (λ (e : RouteKey × Route). update p.key e.0 e.1) es))
  updates_listed offset p [] h = tt
  updates_listed offset p (e ∷ es) h = (h, updates_listed (offset + written_size (record_of rules.family seconds (update p.key e.0 e.1))) p es h)

  all_updates_listed : (offset : ℕ) (before : List PeerKey) (peers : List DumpedPeer) → keys ≡ before ++ keys_of peers → AllByRecursion Listed (units_at offset (flat_map (update_records rules.family) peers))
  all_updates_listed offset before [] e = tt
  all_updates_listed offset before (p ∷ peers) e =
      let both = units_both rules rule file seconds keys (λ (k : PeerKey). true) offset (update_records rules.family p) (flat_map (update_records rules.family) peers) in
      let own : list_any (λ (q : PeerKey). peer_eq q p.key) keys ≡ true =
      ap (list_any (λ (q : PeerKey). peer_eq q p.key)) e ∙ list_any-append (λ (q : PeerKey). peer_eq q p.key) before (p.key ∷ keys_of peers) ∙ or_true_right (list_any (λ (q : PeerKey). peer_eq q p.key) before) _ (or_true_left (peer_eq p.key p.key) (list_any (λ (q : PeerKey). peer_eq q p.key) (keys_of peers)) (peer_itself p.key)) in
      subst (AllByRecursion Listed) (sym both.1)
      (all_both Listed (units_at offset (update_records rules.family p)) (units_at both.0 (flat_map (update_records rules.family) peers)) (updates_listed offset p (others_in rules.family p) own)
      (all_updates_listed both.0 (before ++ p.key ∷ []) peers (e ∙ sym (append_assoc before (p.key ∷ []) (keys_of peers)))))

  listed_been : (offset : ℕ) (peers : List DumpedPeer) (units : List ReplayUnit) → keys ≡ keys_of peers → AllByRecursion Listed units → AllByRecursion (λ (u : ReplayUnit). has_been (units_at offset (map state_record peers)) u.peer ≡ true) units
  listed_been offset peers [] e h = tt
  listed_been offset peers (u ∷ units) e h = (states_been offset peers u.peer (sym (ap (list_any (λ (q : PeerKey). peer_eq q u.peer)) e) ∙ h.0), listed_been offset peers units e h.1)

  states_listed : (offset : ℕ) (before : List PeerKey) (peers : List DumpedPeer) → keys ≡ before ++ keys_of peers → AllByRecursion Listed (units_at offset (map state_record peers))
  states_listed offset before [] e = tt
  states_listed offset before (p ∷ peers) e = (
    ap (list_any (λ (q : PeerKey). peer_eq q p.key)) e ∙ list_any-append (λ (q : PeerKey). peer_eq q p.key) before (p.key ∷ keys_of peers) ∙ or_true_right (list_any (λ (q : PeerKey). peer_eq q p.key) before) _ (or_true_left (peer_eq p.key p.key) (list_any (λ (q : PeerKey). peer_eq q p.key) (keys_of peers)) (peer_itself p.key)),
    states_listed (offset + written_size (record_of rules.family seconds (state_record p))) (before ++ p.key ∷ []) peers (e ∙ sym (append_assoc before (p.key ∷ []) (keys_of peers))),
  )

  -- all units are of listed peers
  pub all_listed : (split : Split) (offset : ℕ) (peers : List DumpedPeer) → keys ≡ keys_of peers → AllByRecursion (FitsDumpRecord (route_rules rules) seconds keys) (checkpoint_records split rules.family peers)
      → AllByRecursion Listed (units_at offset (checkpoint_records split rules.family peers))
  all_listed split offset peers e fit =
      let parts = map part_record (enumerate_from 0 (all_parts split rules.family peers)) in
      let updates = flat_map (update_records rules.family) peers in
      let fit_behind = back_all (FitsDumpRecord (route_rules rules) seconds keys) (map state_record peers) (parts ++ updates) fit in
      let first = units_both rules rule file seconds keys (λ (k : PeerKey). true) offset (map state_record peers) (parts ++ updates) in
      let second = units_both rules rule file seconds keys (λ (k : PeerKey). true) first.0 parts updates in
      subst (AllByRecursion Listed) (sym first.1)
      (all_both Listed (units_at offset (map state_record peers)) (units_at first.0 (parts ++ updates)) (states_listed offset [] peers e)
      (subst (AllByRecursion Listed) (sym second.1)
      (all_both Listed (units_at first.0 parts) (units_at second.0 updates) (parts_listed first.0 0 (all_parts split rules.family peers) (front_all (FitsDumpRecord (route_rules rules) seconds keys) parts updates fit_behind)) (all_updates_listed second.0 [] peers e))))

  pub peers_again : (split : Split) (offset : ℕ) (peers : List DumpedPeer) → keys ≡ keys_of peers → Apart (keys_of peers) → AllByRecursion (FitsDumpRecord (route_rules rules) seconds keys) (checkpoint_records split rules.family peers)
      → peers_of (units_at offset (checkpoint_records split rules.family peers)) ≡ keys_of peers
  unfolding peers_of
  peers_again split offset peers e apart fit =
      let parts = map part_record (enumerate_from 0 (all_parts split rules.family peers)) in
      let updates = flat_map (update_records rules.family) peers in
      let fit_behind = back_all (FitsDumpRecord (route_rules rules) seconds keys) (map state_record peers) (parts ++ updates) fit in
      let first = units_both rules rule file seconds keys (λ (k : PeerKey). true) offset (map state_record peers) (parts ++ updates) in
      let second = units_both rules rule file seconds keys (λ (k : PeerKey). true) first.0 parts updates in
      let states = units_at offset (map state_record peers) in
      let listed : AllByRecursion Listed (units_at first.0 (parts ++ updates)) =
      subst (AllByRecursion Listed) (sym second.1)
      (all_both Listed (units_at first.0 parts) (units_at second.0 updates) (parts_listed first.0 0 (all_parts split rules.family peers) (front_all (FitsDumpRecord (route_rules rules) seconds keys) parts updates fit_behind)) (all_updates_listed second.0 [] peers e)) in
      ap (flat_map_after newcomer []) first.1
      ∙ after_both newcomer [] states (units_at first.0 (parts ++ updates))
      ∙ (λ i. states_new [] offset peers apart (all_fresh (keys_of peers)) i ++ none_new states (units_at first.0 (parts ++ updates)) (listed_been offset peers (units_at first.0 (parts ++ updates)) e listed) i)
      ∙ append-nil (keys_of peers)
    where
      all_fresh : (ks : List PeerKey) → AllByRecursion (λ (k : PeerKey). has_been [] k ≡ false) ks
      all_fresh [] = tt
      all_fresh (k ∷ ks) = (refl, all_fresh ks)
