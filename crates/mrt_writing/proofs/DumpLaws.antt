-- The records of a dump are read as its units.
use Rattle.std.proofs.Common.{◌≡◌, ℕ, ◌+◌, ◌*◌, ◌^◌, ◌<◌, ◌≤◌, Bool, true, false, cond, List, [], ◌∷◌, ◌++◌, length, map, Option, Some, None, Result, Ok, refl, sym, ap, ◌∙◌, arith, length-append}
use Rattle.std.specs.List.{AllByRecursion, filter, flat_map}
use Rattle.byteorder.specs.Endian.{big_bytes}
use Rattle.byteorder.specs.Numbers.{length-bytes_high_first}
use Rattle.mrt_frame.specs.declared.fault.Fault.{Fault}
use Rattle.mrt_frame.specs.Cuts.{cuts, file_limit}
use Rattle.bgp_update.specs.declared.width.Width.TheVariants.{Four}
use Rattle.bgp_update.specs.Families.{FamilyOf, RouteRules, Rules, by_entry_width, route_rules, ipv4, ipv6}
use Rattle.peer_units.specs.declared.rib_rule.RibRule.{RibRule}
use Rattle.peer_units.specs.declared.rib_rule.RibRule.TheVariants.{Add}
use Rattle.std.proofs.lemmas.List.Elements.{filter-append}
use Rattle.std.proofs.lemmas.List.{map-append}
use Rattle.peer_units.specs.declared.unit.PeerAddr.{PeerAddr}
use Rattle.peer_units.specs.declared.unit.PeerAddr.TheVariants.{V4, V6}
use Rattle.peer_units.specs.declared.unit.PeerKey.{PeerKey}
use Rattle.peer_units.specs.declared.unit.Payload.TheVariants.{Message}
use Rattle.peer_units.specs.declared.unit.Found.TheVariants as found
use Rattle.peer_units.specs.Plain.{Unit as ReplayUnit, Found}
use Rattle.peer_units.specs.Choices.{UnitSelection}
use Rattle.peer_units.specs.Selections.{is_selected}
use Rattle.mrt_body.specs.declared.record_place.RecordAt.{RecordAt}
use Rattle.mrt_body.specs.declared.body_kind.BodyKind.{BodyKind}
use Rattle.mrt_body.specs.declared.body_kind.BodyKind.TheVariants as content
use Rattle.mrt_body.specs.Indexes.{index_bytes, addr_bytes, peer_bytes}
use Rattle.mrt_body.specs.Bgp4mp.{session_bytes}
use Rattle.mrt_body.specs.RibRecords.{rib_bytes}
use Rattle.mrt_body.specs.RibDumps.{DumpsState, heard_of, dumps_with}
use Rattle.mrt_body.specs.Units.{units_in, session_unit, body_kind_of, message_unit, at_record, is_extended, found_at, found_from, found_in_file, index_after, dumps_after, clears_if, begins, if_read, index_with, clear_unit, dumps_behind, dumps_told, peers_named, is_index_content, units_or_none, selected_units, found_units}
use Rattle.mrt_body.proofs.SessionForms.{message_body-again}
use Rattle.mrt_body.proofs.IndexLaws.{found_in_file-is}
use Rattle.mrt_writing.specs.Heads.{written_index, written_peer, FitsPeerKey, written_session, zero_addr}
use Rattle.mrt_writing.specs.RibRecords.{written_rib}
use Rattle.mrt_writing.specs.Updates.{written_update, update_message, message_body}
use Rattle.bgp_update.specs.Updates.{update_bytes}
use Rattle.peer_units.specs.Events.{message_bytes, UPDATE}
use Rattle.mrt_writing.specs.Records.{WrittenRecord, FitsRecord, written_size, cut_of, cuts_of_records, records_bytes}
use Rattle.mrt_writing.specs.Kinds.{rib_subtype, message_subtype}
use Rattle.mrt_writing.specs.Dumps.{DumpRecord, state, rib, update, has_identifier, index_record, record_of, dump_records, FitsDumpRecord, HasRibKinds, FitsDump, rules_for, units_of_record, units_of_dump}
use Rattle.mrt_writing.proofs.BodyLaws.{rib_again, change_read, index_again, session_fits}
use Rattle.mrt_writing.proofs.RecordLaws.{records-cut}

-- ---- one record

-- what its kind makes of its body
abbrev read_record : UnitSelection → List PeerKey → RecordAt → List PeerKey → WrittenRecord → Result (List ReplayUnit) Fault
read_record selection known at peers r = units_in selection known at (is_extended r.kind) (Some peers) (body_kind_of selection.rules.family r.kind r.subtype) r.body

message_again : (rules : Rules) (at : RecordAt) (add_path : Bool) (p : PeerKey) (message : List ℕ) → FitsPeerKey p
    → message_unit rules at false Four add_path (message_body p message) ≡ Ok (session_unit at 0 p (Message message Four add_path (rules_for p rules)))
message_again rules at add_path p message h =
    message_body-again rules at false Four add_path (message_body p message) (session_unit at 0 p (Message message Four add_path (rules_for p rules))) (record {
      microseconds = 0;
      session = written_session p;
      message = message;
      fits_microseconds = refl;
      fits_session = session_fits p h;
      spelled = refl;
      said = refl;
    })

message_read : (selection : UnitSelection) (known : List PeerKey) (at : RecordAt) (peers : List PeerKey) (b : Bool) (p : PeerKey) (message : List ℕ) → FitsPeerKey p
    → units_in selection known at false (Some peers) (body_kind_of selection.rules.family 16 (message_subtype b)) (message_body p message) ≡ Ok (session_unit at 0 p (Message message Four b (rules_for p selection.rules)) ∷ [])
unfolding body_kind_of
message_read selection known at peers true p message h = rw (message_again selection.rules at true p message h) refl
message_read selection known at peers false p message h = rw (message_again selection.rules at false p message h) refl

pub record_again : (selection : UnitSelection) (known : List PeerKey) (file offset seconds : ℕ) (peers : List PeerKey) (r : DumpRecord) → HasRibKinds selection.rules.family → FitsDumpRecord (route_rules selection.rules) seconds peers r
    → read_record selection known (at_record file offset seconds) peers (record_of selection.rules.family seconds r) ≡ Ok (units_of_record selection.rules selection.states (at_record file offset seconds) peers r)
unfolding body_kind_of
record_again selection known file offset seconds peers (state p to) kinds h = change_read selection known (at_record file offset seconds) p 6 to h.0 (omega arith) h.1
record_again selection known file offset seconds peers (rib sequence add_path prefix entries) kinds h =
    ap (λ (k : BodyKind). units_in selection known (at_record file offset seconds) false (Some peers) k (rib_bytes add_path (written_rib selection.rules.family seconds sequence prefix entries))) (kinds.kinds add_path)
    ∙ rib_again (by_entry_width Four selection.rules) (at_record file offset seconds) add_path peers seconds sequence prefix entries h.0
record_again selection known file offset seconds peers (update p key r) kinds h =
    message_read selection known (at_record file offset seconds) peers (has_identifier key) p (update_message selection.rules.family (has_identifier key) key r) h.0

-- each has the time of the dump
seconds_are : (family : FamilyOf) (seconds : ℕ) (r : DumpRecord) → (record_of family seconds r).seconds ≡ seconds
seconds_are family seconds (state p to) = refl
seconds_are family seconds (rib sequence add_path prefix entries) = refl
seconds_are family seconds (update p key r) = refl

record_seconds : (selection : UnitSelection) (known : List PeerKey) (file offset seconds : ℕ) (peers : List PeerKey) (r : DumpRecord) → HasRibKinds selection.rules.family → FitsDumpRecord (route_rules selection.rules) seconds peers r
    → read_record selection known (at_record file offset (record_of selection.rules.family seconds r).seconds) peers (record_of selection.rules.family seconds r) ≡ Ok (units_of_record selection.rules selection.states (at_record file offset seconds) peers r)
record_seconds selection known file offset seconds peers r kinds h =
    ap (λ (n : ℕ). read_record selection known (at_record file offset n) peers (record_of selection.rules.family seconds r)) (seconds_are selection.rules.family seconds r) ∙ record_again selection known file offset seconds peers r kinds h

-- ---- all records

-- a record that gives no index
record_is_no_index : (family : FamilyOf) (seconds : ℕ) (index : Option (List PeerKey)) (offset : ℕ) (r : DumpRecord) → HasRibKinds family → index_after family index (cut_of offset (record_of family seconds r)) ≡ index
unfolding body_kind_of
record_is_no_index family seconds index offset (state p to) kinds = refl
record_is_no_index family seconds index offset (rib sequence add_path prefix entries) kinds =
    ap (λ (k : BodyKind). index_with index k (rib_bytes add_path (written_rib family seconds sequence prefix entries))) (kinds.kinds add_path)
record_is_no_index family seconds index offset (update p key r) kinds = by_form (has_identifier key) (message_body p (update_message family (has_identifier key) key r))
  where
    by_form : (b : Bool) (body : List ℕ) → index_with index (body_kind_of family 16 (message_subtype b)) body ≡ index
    by_form true body = refl
    by_form false body = refl

pub clears_none : (b : Bool) (at : RecordAt) (heard : List PeerKey) → heard ≡ [] → clears_if b at heard ≡ []
clears_none true at heard e = ap (map (clear_unit at)) e
clears_none false at heard e = refl

heard_none : (ribs : RibRule) (begun : Bool) (dumps : DumpsState) (units : List ReplayUnit) → ribs ≡ Add → dumps.heard ≡ [] → (dumps_with ribs begun dumps units).heard ≡ []
heard_none ribs begun dumps units add e = ap (λ (rule : RibRule). heard_of rule (cond begun [] dumps.heard) units) add ∙ by_begun begun
  where
    by_begun : (b : Bool) → cond b [] dumps.heard ≡ []
    by_begun true = refl
    by_begun false = e

pub behind_none : (selection : UnitSelection) (begun : Bool) (dumps : DumpsState) (k : BodyKind) (body : List ℕ) (read : Result (List ReplayUnit) Fault) → selection.ribs ≡ Add → dumps.heard ≡ [] → (dumps_behind selection begun dumps k body read).heard ≡ []
behind_none selection begun dumps k body read add e = by_kind (is_index_content k)
  where
    by_kind : (b : Bool) → (cond {A = DumpsState} b (record (dumps_told selection begun dumps (peers_named k body read) read) { begun = false }) (dumps_told selection begun dumps (peers_named k body read) read)).heard ≡ []
    by_kind true = heard_none selection.ribs begun dumps (units_or_none (selected_units selection read)) add e
    by_kind false = heard_none selection.ribs begun dumps (units_or_none (selected_units selection read)) add e

abbrev given : UnitSelection → List ReplayUnit → List Found
given selection units = map (λ (u : ReplayUnit). found.Unit u) (filter (is_selected selection) units)

given-append : (selection : UnitSelection) (xs ys : List ReplayUnit) → given selection xs ++ given selection ys ≡ given selection (xs ++ ys)
given-append selection xs ys = sym (ap (map (λ (u : ReplayUnit). found.Unit u)) (filter-append (is_selected selection) xs ys) ∙ map-append (λ (u : ReplayUnit). found.Unit u) (filter (is_selected selection) xs) (filter (is_selected selection) ys))

-- a whole record that is read gives its units
found_read : (file : ℕ) (selection : UnitSelection) (index : Option (List PeerKey)) (dumps : DumpsState) (offset : ℕ) (r : WrittenRecord) (units : List ReplayUnit) → dumps.heard ≡ []
    → units_in selection dumps.known (at_record file offset r.seconds) (is_extended r.kind) index (body_kind_of selection.rules.family r.kind r.subtype) r.body ≡ Ok units
    → found_at file selection index dumps (cut_of offset r) ≡ given selection units
unfolding found_at
found_read file selection index dumps offset r units e read =
    let at = at_record file offset r.seconds in
    let k = body_kind_of selection.rules.family r.kind r.subtype in
    λ i. map (λ (u : ReplayUnit). found.Unit u) (clears_none (begins selection at index dumps k r.body) at dumps.heard e i) ++ found_units selection at (read i)

dumps_read : (file : ℕ) (selection : UnitSelection) (index : Option (List PeerKey)) (dumps : DumpsState) (offset : ℕ) (r : WrittenRecord) → selection.ribs ≡ Add → dumps.heard ≡ [] → (dumps_after file selection index dumps (cut_of offset r)).heard ≡ []
dumps_read file selection index dumps offset r add e =
    let at = at_record file offset r.seconds in
    let k = body_kind_of selection.rules.family r.kind r.subtype in
    behind_none selection (begins selection at index dumps k r.body) dumps k r.body (units_in selection dumps.known at (is_extended r.kind) index k r.body) add e

found_records : (file : ℕ) (selection : UnitSelection) (seconds : ℕ) (peers : List PeerKey) (dumps : DumpsState) (offset : ℕ) (records : List DumpRecord) → selection.ribs ≡ Add → dumps.heard ≡ [] → HasRibKinds selection.rules.family
    → AllByRecursion (FitsDumpRecord (route_rules selection.rules) seconds peers) records
    → found_from file selection (Some peers) dumps (cuts_of_records offset (map (record_of selection.rules.family seconds) records)) ≡ given selection (units_of_dump file offset selection.rules selection.states seconds peers records)
found_records file selection seconds peers dumps offset [] add e kinds fit = refl
found_records file selection seconds peers dumps offset (r ∷ records) add e kinds fit =
    let w = record_of selection.rules.family seconds r in
    let behind = dumps_after file selection (Some peers) dumps (cut_of offset w) in
    let units = units_of_record selection.rules selection.states (at_record file offset seconds) peers r in
    let more = units_of_dump file (offset + written_size w) selection.rules selection.states seconds peers records in
    let first : found_at file selection (Some peers) dumps (cut_of offset w) ≡ given selection units =
    found_read file selection (Some peers) dumps offset w units e (record_seconds selection dumps.known file offset seconds peers r kinds fit.0) in
    let rest : found_from file selection (index_after selection.rules.family (Some peers) (cut_of offset w)) behind (cuts_of_records (offset + written_size w) (map (record_of selection.rules.family seconds) records)) ≡ given selection more =
    ap (λ (index : Option (List PeerKey)). found_from file selection index behind (cuts_of_records (offset + written_size w) (map (record_of selection.rules.family seconds) records))) (record_is_no_index selection.rules.family seconds (Some peers) offset r kinds)
    ∙ found_records file selection seconds peers behind (offset + written_size w) records add (dumps_read file selection (Some peers) dumps offset w add e) kinds fit.1 in
    (λ i. first i ++ rest i) ∙ given-append selection units more

-- ---- the index table, and the whole dump

index_said : (selection : UnitSelection) (seconds : ℕ) (peers : List PeerKey) (index : Option (List PeerKey)) (offset : ℕ) → length peers < 256 ^ 2 → AllByRecursion FitsPeerKey peers → index_after selection.rules.family index (cut_of offset (index_record selection.rules.family seconds peers)) ≡ Some peers
unfolding body_kind_of
index_said selection seconds peers index offset few h = ap if_read (index_again peers few h)

index_read : (selection : UnitSelection) (known : List PeerKey) (file offset seconds : ℕ) (peers : List PeerKey) (index : Option (List PeerKey)) → length peers < 256 ^ 2 → AllByRecursion FitsPeerKey peers
    → units_in selection known (at_record file offset seconds) false index (body_kind_of selection.rules.family 13 1) (index_bytes (written_index peers)) ≡ Ok []
unfolding body_kind_of
index_read selection known file offset seconds peers index few h = rw (index_again peers few h) refl

addr-short : (addr : PeerAddr) → length (addr_bytes addr) ≤ 16
addr-short (V4 a) = omega (arith, length-bytes_high_first 4 a)
addr-short (V6 a) = omega (arith, length-bytes_high_first 16 a)

peer-short : (p : PeerKey) → length (peer_bytes (written_peer p)) ≤ 25
peer-short p = by_addr p.addr p.asn
  where
    by_addr : (addr : PeerAddr) (asn : ℕ) → length (peer_bytes (written_peer (record { asn = asn; addr = addr }))) ≤ 25
    by_addr (V4 a) asn = omega (arith, length-append (big_bytes 4 a) (big_bytes 4 asn), length-bytes_high_first 4 a, length-bytes_high_first 4 asn, length-append (big_bytes 4 0) (big_bytes 4 a ++ big_bytes 4 asn), length-bytes_high_first 4 0)
    by_addr (V6 a) asn = omega (arith, length-append (big_bytes 16 a) (big_bytes 4 asn), length-bytes_high_first 16 a, length-bytes_high_first 4 asn, length-append (big_bytes 4 0) (big_bytes 16 a ++ big_bytes 4 asn), length-bytes_high_first 4 0)

peers-short : (peers : List PeerKey) → length (flat_map peer_bytes (map written_peer peers)) ≤ 25 * length peers
peers-short [] = omega arith
peers-short (p ∷ peers) = omega (arith, peer-short p, peers-short peers, length-append (peer_bytes (written_peer p)) (flat_map peer_bytes (map written_peer peers)))

index-short : (peers : List PeerKey) → length peers < 256 ^ 2 → length (index_bytes (written_index peers)) ≤ 16777216
index-short peers few =
    omega (arith, few, peers-short peers, length-append (big_bytes 2 (length (map written_peer peers))) (flat_map peer_bytes (map written_peer peers)), length-bytes_high_first 2 (length (map written_peer peers)))

session-short : (p : PeerKey) → length (session_bytes Four (written_session p)) ≤ 44
session-short p =
    omega (arith, addr-short p.addr, addr-short (zero_addr p.addr), length-append (addr_bytes p.addr) (addr_bytes (zero_addr p.addr)))

body-short : (p : PeerKey) (message : List ℕ) → length (message_body p message) ≤ 44 + length message
body-short p message = omega (arith, session-short p, length-append (session_bytes Four (written_session p)) message)

message-length : (kind : ℕ) (body : List ℕ) → length (message_bytes kind body) ≡ 19 + length body
message-length kind body = omega (arith, length-append (big_bytes 2 (19 + length body)) (kind ∷ body), length-bytes_high_first 2 (19 + length body))

update-short : (p : PeerKey) (body : List ℕ) → 19 + length body < 256 ^ 2 → length (message_body p (message_bytes UPDATE body)) ≤ 16777216
update-short p body short = omega (arith, body-short p (message_bytes UPDATE body), message-length UPDATE body, short)

record_fits : (rules : RouteRules) (seconds : ℕ) (peers : List PeerKey) (r : DumpRecord) → seconds < 256 ^ 4 → HasRibKinds rules.family → FitsDumpRecord rules seconds peers r → FitsRecord (record_of rules.family seconds r)
record_fits rules seconds peers (state p to) time kinds h = record {
  seconds = time;
  kind = omega arith;
  subtype = omega arith;
  body = omega (arith, session-short p, length-append (session_bytes Four (written_session p)) (big_bytes 2 6 ++ big_bytes 2 to));
}
record_fits rules seconds peers (rib sequence add_path prefix entries) time kinds h = record { seconds = time; kind = omega arith; subtype = kinds.fit add_path; body = h.1 }
record_fits rules seconds peers (update p key r) time kinds h = record {
  seconds = time;
  kind = omega arith;
  subtype = subtype-lt (has_identifier key);
  body = update-short p (update_bytes (written_update rules.family (has_identifier key) key r)) h.1.short;
}
  where
    subtype-lt : (b : Bool) → message_subtype b < 256 ^ 2
    subtype-lt true = omega arith
    subtype-lt false = omega arith

records_fit : (rules : RouteRules) (seconds : ℕ) (peers : List PeerKey) (records : List DumpRecord) → seconds < 256 ^ 4 → HasRibKinds rules.family → AllByRecursion (FitsDumpRecord rules seconds peers) records → AllByRecursion FitsRecord (map (record_of rules.family seconds) records)
records_fit rules seconds peers [] time kinds h = tt
records_fit rules seconds peers (r ∷ records) time kinds h = (record_fits rules seconds peers r time kinds h.0, records_fit rules seconds peers records time kinds h.1)

-- a dump that fits is read as its units
pub dump_found : (file : ℕ) (selection : UnitSelection) (seconds : ℕ) (peers : List PeerKey) (dumps : DumpsState) (records : List DumpRecord) → selection.ribs ≡ Add → dumps.heard ≡ [] → FitsDump (route_rules selection.rules) seconds peers records
    → length (records_bytes (dump_records selection.rules.family seconds peers records)) ≤ file_limit
    → found_in_file selection file dumps (records_bytes (dump_records selection.rules.family seconds peers records))
    ≡ given selection (units_of_dump file (written_size (index_record selection.rules.family seconds peers)) selection.rules selection.states seconds peers records)
dump_found file selection seconds peers dumps records add e h short =
    let head = index_record selection.rules.family seconds peers in
    let others = map (record_of selection.rules.family seconds) records in
    let bytes : List ℕ = records_bytes (head ∷ others) in
    let fit : AllByRecursion FitsRecord (head ∷ others) = (record { seconds = h.time; kind = omega arith; subtype = omega arith; body = index-short peers h.few }, records_fit (route_rules selection.rules) seconds peers records h.time h.kinds h.each) in
    let cut : cuts 0 bytes ≡ cut_of 0 head ∷ cuts_of_records (0 + written_size head) others = records-cut 0 (head ∷ others) fit (omega (arith, short)) in
    let behind = dumps_after file selection None dumps (cut_of 0 head) in
    let first : found_at file selection None dumps (cut_of 0 head) ≡ [] = found_read file selection None dumps 0 head [] e (index_read selection dumps.known file 0 seconds peers None h.few h.fit_peers) in
    let rest : found_from file selection (index_after selection.rules.family None (cut_of 0 head)) behind (cuts_of_records (0 + written_size head) others) ≡ given selection (units_of_dump file (0 + written_size head) selection.rules selection.states seconds peers records) =
    ap (λ (index : Option (List PeerKey)). found_from file selection index behind (cuts_of_records (0 + written_size head) others)) (index_said selection seconds peers None 0 h.few h.fit_peers)
    ∙ found_records file selection seconds peers behind (0 + written_size head) records add (dumps_read file selection None dumps 0 head add e) h.kinds h.each in
    let at : 0 + written_size head ≡ written_size head = omega arith in
    found_in_file-is selection file dumps bytes
    ∙ ap (found_from file selection None dumps) cut
    ∙ (λ i. first i ++ rest i)
    ∙ ap (λ (n : ℕ). given selection (units_of_dump file n selection.rules selection.states seconds peers records)) at

-- ---- the families

pub kinds_ipv4 : HasRibKinds ipv4
unfolding body_kind_of
kinds_ipv4 = record { kinds = λ b. elim b as (λ c. body_kind_of ipv4 13 (rib_subtype ipv4 c) ≡ content.Rib c) [ true ↦ refl | false ↦ refl ]; fit = λ b. elim b as (λ c. rib_subtype ipv4 c < 256 ^ 2) [ true ↦ omega arith | false ↦ omega arith ] }

pub kinds_ipv6 : HasRibKinds ipv6
unfolding body_kind_of
kinds_ipv6 = record { kinds = λ b. elim b as (λ c. body_kind_of ipv6 13 (rib_subtype ipv6 c) ≡ content.Rib c) [ true ↦ refl | false ↦ refl ]; fit = λ b. elim b as (λ c. rib_subtype ipv6 c < 256 ^ 2) [ true ↦ omega arith | false ↦ omega arith ] }
