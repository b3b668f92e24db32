-- The units of a list, as units are added to it.
use Rattle.std.proofs.Common.{◌≡◌, ℕ, ◌<◌, ◌≤◌, List, [], ◌∷◌, ◌++◌, length, map, take, drop, refl, sym, ap, ◌∙◌, arith, length-append, length-drop, slice_index_or}
use Rattle.std.specs.List.{AllByRecursion}
use Rattle.std.specs.Prelude.{Result, Ok, Err, OnErr}
use Rattle.std.proofs.lemmas.List.{map-append, append-nil, drop-append-le, take-append-le, get_or-map, length-map}
use Rattle.std.proofs.Math.Seq.{drop-append_seam, take-append_seam}
use Rattle.bgp_prefix.specs.Prefixes.{IpPrefix}
use Rattle.bgp_update.specs.Families.{Rules}
use Rattle.bgp_update.specs.Decoded.{IsWithin, span_of}
use Rattle.bgp_update.specs.declared.decoded.Span.{Span}
use Rattle.peer_units.specs.declared.unit.Payload.{Payload as PayloadOf}
use Rattle.peer_units.specs.declared.unit.Payload.TheVariants.{State, Message, Entry, Clear}
use Rattle.peer_units.specs.HeldBytes.{BytesMeet, payload_of_held}
use Rattle.peer_units.specs.Payloads.{payload_bytes}
use Rattle.peer_units.specs.Plain.{Payload}
use Rattle.unit_rings.specs.declared.listed_unit.ListedRecord.{ListedRecord}
use Rattle.unit_rings.specs.Plain.{ListedUnit, UnitList, PeerUnit}
use Rattle.unit_rings.specs.declared.listed_unit.NumberedPeer.{NumberedPeer}
use Rattle.unit_rings.specs.ListedUnits.{AreKept, IsListed, IsListedAt, SOME_RECORD, SOME_PEER, unit_in, unit_with}
use Rattle.unit_rings.specs.UnitLists.{units_of}
use Rattle.unit_rings.proofs.Lists.{all_push}

-- a payload whose bytes are in the block of its list
abbrev pub ListedPayload : Type 0
ListedPayload = PayloadOf Span IpPrefix Rules

-- ---- records and peers

pub kept_alone : {A : Type 0} (xs : List A) → AreKept xs xs
kept_alone xs = (omega arith, λ d at l. refl)

-- ---- units

-- the unit at an index
pub unit_at : (list : UnitList) (at : ℕ) (u : ListedUnit) (d : PeerUnit) → at < length (units_of list) → u ≡ slice_index_or list.listed.items at u
    → slice_index_or (units_of list) at d ≡ unit_in list.records.items list.peers.items list.bytes.items u
unit_at list at u d within is =
    let shown = unit_in list.records.items list.peers.items list.bytes.items in
    let n = length-map list.listed.items shown in
    get_or-map shown list.listed.items at u d (omega (arith, within, n)) ∙ ap shown (sym is)

-- units stay as they are when records and peers are added
pub listed_kept : (r r' : List ListedRecord) (p p' : List NumberedPeer) (bytes : List ℕ) (listed : List ListedUnit) → AreKept r r' → AreKept p p'
    → AllByRecursion (λ u. IsListed (length r) (length p) (length bytes) u) listed → map (unit_in r' p' bytes) listed ≡ map (unit_in r p bytes) listed
listed_kept r r' p p' bytes [] kr kp all = refl
listed_kept r r' p p' bytes (u ∷ us) kr kp all =
    let own = payload_of_held (span_of bytes) u.payload in
    ap (λ x. unit_with x (slice_index_or p' u.peer SOME_PEER) u.entry own ∷ map (unit_in r' p' bytes) us) (kr.1 SOME_RECORD u.record all.0.0)
    ∙ (ap (λ x. unit_with (slice_index_or r u.record SOME_RECORD) x u.entry own ∷ map (unit_in r' p' bytes) us) (kp.1 SOME_PEER u.peer all.0.1.0)
    ∙ ap (λ l. unit_in r p bytes u ∷ l) (listed_kept r r' p p' bytes us kr kp all.1))

-- what is within is within more
meet_more : (n n' : ℕ) (payload : ListedPayload) → n ≤ n' → BytesMeet (IsWithin n) payload → BytesMeet (IsWithin n') payload
meet_more n n' (State from to rule) l m = tt
meet_more n n' (Message place width add_path rules) l m = omega (arith, l, m)
meet_more n n' (Entry rules key place) l m = omega (arith, l, m)
meet_more n n' Clear l m = tt

pub within_more : (r r' p p' n n' : ℕ) (listed : List ListedUnit) → r ≤ r' → p ≤ p' → n ≤ n' → AllByRecursion (λ u. IsListed r p n u) listed → AllByRecursion (λ u. IsListed r' p' n' u) listed
within_more r r' p p' n n' [] lr lp ln all = all
within_more r r' p p' n n' (u ∷ us) lr lp ln all =
    let a = all.0.0 in
    let b = all.0.1.0 in
    ((omega (arith, a, lr), (omega (arith, b, lp), meet_more n n' u.payload ln all.0.1.1)), within_more r r' p p' n n' us lr lp ln all.1)

-- bytes stay where they stand when others come behind them
stays : (bytes more : List ℕ) (place : Span) → IsWithin (length bytes) place → span_of (bytes ++ more) place ≡ span_of bytes place
stays bytes more place l =
    let n = length-drop place.start bytes in
    ap (take place.len) (drop-append-le place.start bytes more (omega arith)) ∙ take-append-le place.len (drop place.start bytes) more (omega arith)

payload_stays : (bytes more : List ℕ) (payload : ListedPayload) → BytesMeet (IsWithin (length bytes)) payload → payload_of_held (span_of (bytes ++ more)) payload ≡ payload_of_held (span_of bytes) payload
payload_stays bytes more (State from to rule) m = refl
payload_stays bytes more (Message place width add_path rules) m = ap (λ b. Message b width add_path rules) (stays bytes more place m)
payload_stays bytes more (Entry rules key place) m = ap (λ b. Entry rules key b) (stays bytes more place m)
payload_stays bytes more Clear m = refl

listed_stay : (r : List ListedRecord) (p : List NumberedPeer) (bytes more : List ℕ) (listed : List ListedUnit) → AllByRecursion (λ u. IsListed (length r) (length p) (length bytes) u) listed
    → map (unit_in r p (bytes ++ more)) listed ≡ map (unit_in r p bytes) listed
listed_stay r p bytes more [] all = refl
listed_stay r p bytes more (u ∷ us) all =
    ap (λ x. unit_with (slice_index_or r u.record SOME_RECORD) (slice_index_or p u.peer SOME_PEER) u.entry x ∷ map (unit_in r p (bytes ++ more)) us) (payload_stays bytes more u.payload all.0.1.1)
    ∙ ap (λ l. unit_in r p bytes u ∷ l) (listed_stay r p bytes more us all.1)

-- the last bytes are those of the unit that came last
pub own_bytes : (bytes more : List ℕ) (place : Span) → place.start ≡ length bytes → place.len ≡ length more → span_of (bytes ++ more) place ≡ more
own_bytes bytes more place is is_len =
    ap (λ n. take n (drop place.start (bytes ++ more))) is_len
    ∙ (ap (λ n. take (length more) (drop n (bytes ++ more))) is
    ∙ (ap (take (length more)) (drop-append_seam bytes more ∙ sym (append-nil more)) ∙ take-append_seam more []))

-- a payload whose bytes are at a place
pub placed_within : (size : ℕ) (place : Span) (payload : Payload) → IsWithin size place → BytesMeet (IsWithin size) (payload_of_held (λ _. place) payload)
placed_within size place (State from to rule) w = tt
placed_within size place (Message bytes width add_path rules) w = w
placed_within size place (Entry rules key attrs) w = w
placed_within size place Clear w = tt

pub placed_same : (block : List ℕ) (place : Span) (payload : Payload) → span_of block place ≡ payload_bytes payload → payload_of_held (span_of block) (payload_of_held (λ _. place) payload) ≡ payload
placed_same block place (State from to rule) e = refl
placed_same block place (Message bytes width add_path rules) e = ap (λ b. Message b width add_path rules) e
placed_same block place (Entry rules key attrs) e = ap (λ b. Entry rules key b) e
placed_same block place Clear e = refl

-- one more unit, of a record and a peer that are listed
pub listed_more : (r : List ListedRecord) (p : List NumberedPeer) (bytes more : List ℕ) (listed : List ListedUnit) (u : ListedUnit) (record_of : ListedRecord) (peer_of : NumberedPeer) (own : Payload)
    → AllByRecursion (λ u. IsListed (length r) (length p) (length bytes) u) listed → payload_of_held (span_of (bytes ++ more)) u.payload ≡ own → IsListedAt r u.record record_of → IsListedAt p u.peer peer_of
    → map (unit_in r p (bytes ++ more)) (listed ++ u ∷ []) ≡ map (unit_in r p bytes) listed ++ unit_with record_of peer_of u.entry own ∷ []
listed_more r p bytes more listed u record_of peer_of own all is_own at_record at_peer =
    map-append (unit_in r p (bytes ++ more)) listed (u ∷ [])
    ∙ (ap (λ l. l ++ unit_in r p (bytes ++ more) u ∷ []) (listed_stay r p bytes more listed all)
    ∙ (ap (λ x. map (unit_in r p bytes) listed ++ unit_with x (slice_index_or p u.peer SOME_PEER) u.entry (payload_of_held (span_of (bytes ++ more)) u.payload) ∷ []) (at_record.1 SOME_RECORD)
    ∙ (ap (λ x. map (unit_in r p bytes) listed ++ unit_with record_of x u.entry (payload_of_held (span_of (bytes ++ more)) u.payload) ∷ []) (at_peer.1 SOME_PEER)
    ∙ ap (λ x. map (unit_in r p bytes) listed ++ unit_with record_of peer_of u.entry x ∷ []) is_own)))

pub within_push : (r p : ℕ) (bytes more : List ℕ) (listed : List ListedUnit) (u : ListedUnit) → AllByRecursion (λ u. IsListed r p (length bytes) u) listed
    → BytesMeet (IsWithin (length (bytes ++ more))) u.payload → u.record < r → u.peer < p → AllByRecursion (λ u. IsListed r p (length (bytes ++ more)) u) (listed ++ u ∷ [])
within_push r p bytes more listed u all own lr lp =
    let n = length-append bytes more in
    all_push (λ u. IsListed r p (length (bytes ++ more)) u) listed (u ∷ [])
    (within_more r r p p (length bytes) (length (bytes ++ more)) listed (omega arith) (omega arith) (omega (arith, n)) all)
    ((lr, (lp, own)), tt)

-- what records and peers are added to a list changes none of its units
pub units_kept : (list : UnitList) (r' : List ListedRecord) (p' : List NumberedPeer) → AreKept list.records.items r' → AreKept list.peers.items p'
    → map (unit_in r' p' list.bytes.items) list.listed.items ≡ units_of list
units_kept list r' p' kr kp = listed_kept list.records.items r' list.peers.items p' list.bytes.items list.listed.items kr kp list.within

pub within_kept : (list : UnitList) (r' : List ListedRecord) (p' : List NumberedPeer) → AreKept list.records.items r' → AreKept list.peers.items p'
    → AllByRecursion (λ u. IsListed (length r') (length p') (length list.bytes.items) u) list.listed.items
within_kept list r' p' kr kp =
    within_more (length list.records.items) (length r') (length list.peers.items) (length p') (length list.bytes.items) (length list.bytes.items) list.listed.items kr.0 kp.0 (omega arith) list.within

-- what holds in any case holds after an error
pub after_error : {X Y Q : Type 0} (r : Result X Y) → Q → OnErr r Q
after_error (Ok x) q = tt
after_error (Err e) q = q
