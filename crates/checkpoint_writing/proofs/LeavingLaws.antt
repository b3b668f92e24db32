-- The entries of peers that are written, and the routes that are left out.
use Rattle.std.proofs.Common.{◌≡◌, ℕ, ◌≤◌, Bool, true, false, cond, not, List, [], ◌∷◌, ◌++◌, ◌+◌, ◌<◌, length, map, take, get_or, T, append_assoc, append-nil, refl, sym, ap, ◌∙◌}
use Rattle.std.specs.Prelude.{nat_le, ◌↔◌}
use Rattle.std.specs.Bool.{IsTrue}
use Rattle.std.specs.List.{filter, flat_map, AllByRecursion, enumerate_from}
use Rattle.std.specs.Ordering.{is_lt}
use Rattle.std.specs.FinMap.Entries.{is_sorted, below_all}
use Rattle.std.proofs.lemmas.Bool.{leb-true, le-leb}
use Rattle.std.proofs.lemmas.List.{map-append}
use Rattle.std.proofs.lemmas.List.Elements.{filter-append}
use borrow.Author.Tests.{both_ways}
use Rattle.bgp_prefix.specs.Keys.{RouteKey, key_cmp}
use Rattle.bgp_update.specs.declared.route.Route.{Route}
use Rattle.bgp_update.specs.Families.{FamilyOf}
use Rattle.peer_units.specs.declared.unit.PeerKey.{PeerKey}
use Rattle.peer_tables.specs.Tables.{Seat}
use Rattle.mrt_writing.specs.RouteAttributes.{entry_most}
use Rattle.mrt_writing.specs.RibRecords.{entry_field}
use Rattle.mrt_writing.specs.Updates.{update_field, update_most, update_of, message_body}
use Rattle.mrt_writing.specs.declared.record_kind.RecordKind.TheVariants.{Message}
use Rattle.mrt_writing.proofs.PartLaws.{update_parts}
use Rattle.checkpoint_writing.proofs.DumpLaws.{take_next}
use Rattle.mrt_writing.specs.Records.{WrittenRecord, record_bytes, records_bytes}
use Rattle.mrt_writing.specs.Dumps.{DumpRecord, update, has_identifier, record_of, index_record, of_kind}
use Rattle.peer_units.specs.declared.state_rule.StateRule.{StateRule}
use Rattle.std.proofs.lemmas.Grind.{flat_map-append}
use Rattle.table_dumps.specs.Checkpoints.{keys_of, entries_in, record_split, all_parts, state_record, part_record, update_records}
use Rattle.table_dumps.specs.Dumped.{is_entry}
use Rattle.checkpoint_writing.specs.Merging.{Entries, parts_among}
use Rattle.checkpoint_writing.specs.Dumping.{parts_bytes}
use Rattle.checkpoint_writing.specs.Leaving.{is_short, kept_entry, kept_entries, left_entry, AreListsShort, written_peer_of, written_peers, written_checkpoint, state_bytes, update_bytes_of, updates_bytes}
use Rattle.checkpoint_writing.proofs.StepLaws.{both_of, first_of, second_of, parts_merged}

pub test_is : (b : Bool) (n m : ℕ) → (IsTrue b ↔ (n ≤ m)) → b ≡ nat_le n m
test_is b n m h = by_tests b (nat_le n m) refl refl
  where
    by_tests : (x y : Bool) → b ≡ x → nat_le n m ≡ y → x ≡ y
    by_tests true true e f = refl
    by_tests false false e f = refl
    by_tests true false e f = absurd (both_ways (nat_le n m) f (le-leb n m (h.0 e)))
    by_tests false true e f = absurd (both_ways b e (h.1 (leb-true n m f)))

pub kept_flat : (family : FamilyOf) (es : Entries) → flat_map (kept_entry family) es ≡ kept_entries family es
kept_flat family [] = refl
kept_flat family (e ∷ es) =
    ap (λ (l : Entries). kept_entry family e ++ l) (kept_flat family es)
    ∙ sym (ap (filter (is_entry family)) (filter-append (is_short family) (e ∷ []) es) ∙ filter-append (is_entry family) (filter (is_short family) (e ∷ [])) (filter (is_short family) es))

pub left_flat : (family : FamilyOf) (key : PeerKey) (es : Entries) → flat_map (left_entry family key) es ≡ map (λ (x : RouteKey × Route). (key, x.0)) (filter (λ (x : RouteKey × Route). not (is_short family x)) es)
left_flat family key [] = refl
left_flat family key (e ∷ es) =
    ap (λ (l : List (PeerKey × RouteKey)). left_entry family key e ++ l) (left_flat family key es)
    ∙ sym (ap (map (λ (x : RouteKey × Route). (key, x.0))) (filter-append (λ (x : RouteKey × Route). not (is_short family x)) (e ∷ []) es)
    ∙ map-append (λ (x : RouteKey × Route). (key, x.0)) (filter (λ (x : RouteKey × Route). not (is_short family x)) (e ∷ [])) (filter (λ (x : RouteKey × Route). not (is_short family x)) es))

-- ---- in order

below_filtered : (p : RouteKey × Route → Bool) (k : RouteKey) (es : Entries) → T (below_all key_cmp k es) → T (below_all key_cmp k (filter p es))
below_filtered p k [] h = tt
below_filtered p k (e ∷ es) h = by_test (p e) (below_filtered p k es (second_of (is_lt (key_cmp k e.0)) (below_all key_cmp k es) h))
  where
    by_test : (b : Bool) → T (below_all key_cmp k (filter p es)) → T (below_all key_cmp k (cond b (e ∷ filter p es) (filter p es)))
    by_test true more = both_of (is_lt (key_cmp k e.0)) (below_all key_cmp k (filter p es)) (first_of (is_lt (key_cmp k e.0)) (below_all key_cmp k es) h) more
    by_test false more = more

filtered_sorted : (p : RouteKey × Route → Bool) (es : Entries) → T (is_sorted key_cmp es) → T (is_sorted key_cmp (filter p es))
filtered_sorted p [] h = tt
filtered_sorted p (e ∷ es) h = by_test (p e) (filtered_sorted p es (second_of (below_all key_cmp e.0 es) (is_sorted key_cmp es) h))
  where
    by_test : (b : Bool) → T (is_sorted key_cmp (filter p es)) → T (is_sorted key_cmp (cond b (e ∷ filter p es) (filter p es)))
    by_test true more = both_of (below_all key_cmp e.0 (filter p es)) (is_sorted key_cmp (filter p es)) (below_filtered p e.0 es (first_of (below_all key_cmp e.0 es) (is_sorted key_cmp es) h)) more
    by_test false more = more

pub kept_sorted : (family : FamilyOf) (es : Entries) → T (is_sorted key_cmp es) → T (is_sorted key_cmp (kept_entries family es))
kept_sorted family es h = filtered_sorted (is_entry family) (filter (is_short family) es) (filtered_sorted (is_short family) es h)

-- ---- short

entry_short : (family : FamilyOf) (e : RouteKey × Route) → is_entry family e ≡ true → is_short family e ≡ true → length (entry_field family e.1) ≤ entry_most
entry_short family e own short =
    leb-true (length (entry_field family e.1)) entry_most
    (ap (λ (b : Bool). cond b (nat_le (length (entry_field family e.1)) entry_most) (nat_le (length (update_field family (has_identifier e.0) e.0 e.1)) update_most)) (sym own) ∙ short)

abbrev AreAllShort : FamilyOf → Entries → Type 0
AreAllShort family es = AllByRecursion (λ (x : RouteKey × Route). length (entry_field family x.1) ≤ entry_most) es

kept_short : (family : FamilyOf) (es : Entries) → AreAllShort family (kept_entries family es)
kept_short family [] = tt
kept_short family (e ∷ es) = by_short (is_short family e) refl (kept_short family es)
  where
    by_entry : (b : Bool) → is_entry family e ≡ b → is_short family e ≡ true → AreAllShort family (kept_entries family es) → AreAllShort family (cond b (e ∷ kept_entries family es) (kept_entries family es))
    by_entry true own short more = (entry_short family e own short, more)
    by_entry false own short more = more

    by_short : (b : Bool) → is_short family e ≡ b → AreAllShort family (kept_entries family es) → AreAllShort family (filter (is_entry family) (cond b (e ∷ filter (is_short family) es) (filter (is_short family) es)))
    by_short true short more = by_entry (is_entry family e) refl short more
    by_short false short more = more

pub lists_short : {A : Type 0} (family : FamilyOf) (table : A → Entries) (seats : List A) → AreListsShort family (map (λ s. kept_entries family (table s)) seats)
lists_short family table [] = tt
lists_short family table (s ∷ seats) = (kept_short family (table s), lists_short family table seats)

-- ---- the whole checkpoint

module _ (rule : StateRule) (family : FamilyOf) (seconds : ℕ) where
  abbrev record_at : DumpRecord → WrittenRecord
  record_at r = record_of family seconds r

  own_updates : (key : PeerKey) (es : Entries) → records_bytes (map record_at (map (λ (e : RouteKey × Route). update key e.0 e.1) (filter (λ (e : RouteKey × Route). not (is_entry family e)) (filter (is_short family) es)))) ≡ flat_map (update_bytes_of family seconds key) es
  own_updates key [] = refl
  own_updates key (e ∷ es) =
      by_tests (is_entry family e) (nat_le (length (entry_field family e.1)) entry_most) (nat_le (length (update_field family (has_identifier e.0) e.0 e.1)) update_most) refl (own_updates key es)
    where
      by_tests : (own entry other : Bool) → is_entry family e ≡ own
          → records_bytes (map record_at (map (λ (x : RouteKey × Route). update key x.0 x.1) (filter (λ (x : RouteKey × Route). not (is_entry family x)) (filter (is_short family) es)))) ≡ flat_map (update_bytes_of family seconds key) es
          → records_bytes (map record_at (map (λ (x : RouteKey × Route). update key x.0 x.1) (filter (λ (x : RouteKey × Route). not (is_entry family x)) (cond (cond own entry other) (e ∷ filter (is_short family) es) (filter (is_short family) es)))))
          ≡ cond own [] (cond other (record_bytes (record_of family seconds (update key e.0 e.1))) []) ++ flat_map (update_bytes_of family seconds key) es
      by_tests own true other t more = by_own own other t more
        where
          by_own : (b c : Bool) → is_entry family e ≡ b
              → records_bytes (map record_at (map (λ (x : RouteKey × Route). update key x.0 x.1) (filter (λ (x : RouteKey × Route). not (is_entry family x)) (filter (is_short family) es)))) ≡ flat_map (update_bytes_of family seconds key) es
              → records_bytes (map record_at (map (λ (x : RouteKey × Route). update key x.0 x.1) (filter (λ (x : RouteKey × Route). not (is_entry family x)) (cond (cond b true c) (e ∷ filter (is_short family) es) (filter (is_short family) es)))))
              ≡ cond b [] (cond c (record_bytes (record_of family seconds (update key e.0 e.1))) []) ++ flat_map (update_bytes_of family seconds key) es
          by_own true c u k = ap (λ (b : Bool). records_bytes (map record_at (map (λ (x : RouteKey × Route). update key x.0 x.1) (cond (not b) (e ∷ filter (λ (x : RouteKey × Route). not (is_entry family x)) (filter (is_short family) es)) (filter (λ (x : RouteKey × Route). not (is_entry family x)) (filter (is_short family) es)))))) u ∙ k
          by_own false true u k = ap (λ (b : Bool). records_bytes (map record_at (map (λ (x : RouteKey × Route). update key x.0 x.1) (cond (not b) (e ∷ filter (λ (x : RouteKey × Route). not (is_entry family x)) (filter (is_short family) es)) (filter (λ (x : RouteKey × Route). not (is_entry family x)) (filter (is_short family) es)))))) u ∙ ap (λ (l : List ℕ). record_bytes (record_of family seconds (update key e.0 e.1)) ++ l) k
          by_own false false u k = k
      by_tests own false other t more = by_own own other t more
        where
          by_own : (b c : Bool) → is_entry family e ≡ b
              → records_bytes (map record_at (map (λ (x : RouteKey × Route). update key x.0 x.1) (filter (λ (x : RouteKey × Route). not (is_entry family x)) (filter (is_short family) es)))) ≡ flat_map (update_bytes_of family seconds key) es
              → records_bytes (map record_at (map (λ (x : RouteKey × Route). update key x.0 x.1) (filter (λ (x : RouteKey × Route). not (is_entry family x)) (cond (cond b false c) (e ∷ filter (is_short family) es) (filter (is_short family) es)))))
              ≡ cond b [] (cond c (record_bytes (record_of family seconds (update key e.0 e.1))) []) ++ flat_map (update_bytes_of family seconds key) es
          by_own true c u k = k
          by_own false true u k = ap (λ (b : Bool). records_bytes (map record_at (map (λ (x : RouteKey × Route). update key x.0 x.1) (cond (not b) (e ∷ filter (λ (x : RouteKey × Route). not (is_entry family x)) (filter (is_short family) es)) (filter (λ (x : RouteKey × Route). not (is_entry family x)) (filter (is_short family) es)))))) u ∙ ap (λ (l : List ℕ). record_bytes (record_of family seconds (update key e.0 e.1)) ++ l) k
          by_own false false u k = k

  module _ {A : Type 0} (of : A → Seat) where
    keys_are : (xs : List A) → keys_of (written_peers rule family (map of xs)) ≡ map (λ x. (of x).key) xs
    keys_are [] = refl
    keys_are (x ∷ xs) = ap (λ (l : List PeerKey). (of x).key ∷ l) (keys_are xs)

    states_are : (xs : List A) → records_bytes (map record_at (map state_record (written_peers rule family (map of xs)))) ≡ flat_map (λ x. state_bytes rule family seconds (of x)) xs
    states_are [] = refl
    states_are (x ∷ xs) = ap (λ (l : List ℕ). state_bytes rule family seconds (of x) ++ l) (states_are xs)

    lists_are : (xs : List A) → map (entries_in family) (written_peers rule family (map of xs)) ≡ map (λ x. kept_entries family (of x).session.table) xs
    lists_are [] = refl
    lists_are (x ∷ xs) = ap (λ (l : List Entries). kept_entries family (of x).session.table ∷ l) (lists_are xs)

    updates_are : (xs : List A) → records_bytes (map record_at (flat_map (update_records family) (written_peers rule family (map of xs)))) ≡ flat_map (λ x. updates_bytes family seconds (of x)) xs
    updates_are [] = refl
    updates_are (x ∷ xs) =
        let own = update_records family (written_peer_of rule family (of x)) in
        let others = flat_map (update_records family) (written_peers rule family (map of xs)) in
        ap records_bytes (map-append record_at own others)
        ∙ flat_map-append record_bytes (map record_at own) (map record_at others)
        ∙ (λ i. own_updates (of x).key (of x).session.table i ++ updates_are xs i)

    -- its index table, state changes, records of prefixes and UPDATEs, one after the other
    pub whole_is : (xs : List A) → record_bytes (index_record family seconds (map (λ x. (of x).key) xs)) ++ (flat_map (λ x. state_bytes rule family seconds (of x)) xs ++ (parts_bytes family seconds 0 (parts_among (record_split family) (map (λ x. kept_entries family (of x).session.table) xs)) ++ flat_map (λ x. updates_bytes family seconds (of x)) xs))
        ≡ written_checkpoint rule family seconds (map of xs)
    unfolding written_checkpoint
    whole_is xs =
        let peers = written_peers rule family (map of xs) in
        let states = map state_record peers in
        let parts = map part_record (enumerate_from 0 (all_parts (record_split family) family peers)) in
        let updates = flat_map (update_records family) peers in
        let merged : parts_among (record_split family) (map (λ x. kept_entries family (of x).session.table) xs) ≡ all_parts (record_split family) family peers =
        ap (parts_among (record_split family)) (sym (lists_are xs)) ∙ sym (parts_merged (record_split family) family peers) in
        (λ i. record_bytes (index_record family seconds (sym (keys_are xs) i)) ++ (sym (states_are xs) i ++ (parts_bytes family seconds 0 (merged i) ++ sym (updates_are xs) i)))
        ∙ ap (λ (l : List ℕ). record_bytes (index_record family seconds (keys_of peers)) ++ l)
        (ap (λ (l : List ℕ). records_bytes (map record_at states) ++ l) (sym (ap records_bytes (map-append record_at parts updates) ∙ flat_map-append record_bytes (map record_at parts) (map record_at updates)))
        ∙ sym (ap records_bytes (map-append record_at states (parts ++ updates)) ∙ flat_map-append record_bytes (map record_at states) (map record_at (parts ++ updates))))

-- ---- one piece more

pub map_next : {A B : Type 0} (xs : List A) (f : A → B) (i : ℕ) (e : A) → i < length xs → e ≡ get_or xs i e → map f (take (i + 1) xs) ≡ map f (take i xs) ++ f e ∷ []
map_next xs f i e within here = ap (map f) (take_next xs i e within here) ∙ map-append f (take i xs) (e ∷ [])

pub flat_next : {A B : Type 0} (xs : List A) (f : A → List B) (i : ℕ) (e : A) (start : List B) → i < length xs → e ≡ get_or xs i e → start ++ flat_map f (take (i + 1) xs) ≡ (start ++ flat_map f (take i xs)) ++ f e
flat_next xs f i e start within here =
    ap (λ l. start ++ l) (ap (flat_map f) (take_next xs i e within here) ∙ flat_map-append f (take i xs) (e ∷ []) ∙ ap (λ l. flat_map f (take i xs) ++ l) (append-nil (f e)))
    ∙ sym (append_assoc start (flat_map f (take i xs)) (f e))

pub update_is : (family : FamilyOf) (seconds : ℕ) (peer : PeerKey) (e : RouteKey × Route) (field : List ℕ) (fits : Bool) → is_entry family e ≡ false → (IsTrue fits ↔ (length (update_field family (has_identifier e.0) e.0 e.1) ≤ update_most)) → fits ≡ true
    → field ≡ update_field family (has_identifier e.0) e.0 e.1 → record_bytes (of_kind family seconds (Message (has_identifier e.0)) (message_body peer (update_of field))) ≡ update_bytes_of family seconds peer e
update_is family seconds peer e field fits other test short same =
    let whole = record_bytes (record_of family seconds (update peer e.0 e.1)) in
    let room : nat_le (length (update_field family (has_identifier e.0) e.0 e.1)) update_most ≡ true = sym (test_is fits (length (update_field family (has_identifier e.0) e.0 e.1)) update_most test) ∙ short in
    ap (λ (l : List ℕ). record_bytes (of_kind family seconds (Message (has_identifier e.0)) (message_body peer l))) (ap update_of same ∙ sym (update_parts family (has_identifier e.0) e.0 e.1))
    ∙ sym ((λ i. cond (other i) [] (cond (room i) whole [])))
