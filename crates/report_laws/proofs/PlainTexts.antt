-- Texts of rows need no escape in JSON.
use Rattle.std.proofs.Common.{◌≡◌, ℕ, zero, suc, ◌+◌, ◌/◌, ◌%◌, ◌^◌, ◌<◌, ◌≤◌, Bool, true, false, not, ◌||◌, ◌&&◌, ◌==◌, List, [], ◌∷◌, ◌++◌, Option, Some, None, refl, ap, ◌∙◌, map, take, drop, arith}
use Rattle.std.specs.Prelude.{codes, decimal, nat_lt, slice_index, if◌then◌else◌}
use Rattle.std.specs.Fmt.{digit_glyph, digits, digits_onto}
use Rattle.std.proofs.Math.Nat.{mod-lt}
use Rattle.std.specs.List.{AllByRecursion, flat_map, join_with_byte, list_all}
use Rattle.std.specs.Net.Text.{longest_zero_run}
use Rattle.std.proofs.lemmas.Bool.{le-ltb, ltb-true, ltb-false, ne_eqb}
use Rattle.std.proofs.lemmas.List.Folds.{list_all-append}
use Rattle.byteorder.specs.Endian.{big_number}
use Rattle.ip_text.specs.declared.address_form.AddressForm.{AddressForm}
use Rattle.ip_text.specs.declared.address_form.AddressForm.TheVariants.{Full, Short}
use Rattle.ip_text.specs.AddressTexts.{address_text}
use Rattle.ip_text.specs.Digits.{decimal_glyph, digits_in, groups_of, ipv4_text}
use Rattle.ip_text.specs.Ipv6Texts.{groups_text, hexadecimal, ipv6_text}
use Rattle.bgp_prefix.specs.Prefixes.{IpPrefix}
use Rattle.bgp_prefix.specs.Keys.{RouteKey}
use Rattle.bgp_update.specs.Families.{FamilyOf}
use Rattle.bgp_update.specs.declared.kept_attribute.KeptAttribute.{KeptAttribute}
use Rattle.bgp_update.specs.declared.kept_attribute.KeptAttribute.TheVariants.{Communities, ExtendedCommunities, LargeCommunities, OriginatorId, ClusterList, OnlyToCustomer}
use Rattle.bgp_update.specs.declared.kept_attribute.AttributeSet.{AttributeSet}
use Rattle.bgp_update.specs.KeptAttributes.{KeptValue, all_kept, has, kept_code, value_kept}
use Rattle.bgp_update.specs.declared.path.SegmentKind.{SegmentKind}
use Rattle.bgp_update.specs.declared.path.SegmentKind.TheVariants.{AsSet, AsSequence, ConfedSequence, ConfedSet}
use Rattle.bgp_update.specs.declared.next_hop.NextHop.{NextHop}
use Rattle.bgp_update.specs.declared.next_hop.NextHop.TheVariants as next_hop
use Rattle.bgp_update.specs.declared.route.Origin.{Origin}
use Rattle.bgp_update.specs.declared.route.Origin.TheVariants.{Igp, Egp, Incomplete}
use Rattle.bgp_update.specs.declared.route.Aggregator.{Aggregator}
use Rattle.bgp_update.specs.declared.route.Route.{Route}
use Rattle.bgp_update.specs.Paths.{PathSegment}
use Rattle.mrt_frame.specs.declared.fault.Fault.{Fault}
use Rattle.mrt_frame.specs.declared.fault.Fault.TheVariants.{ShortHeader, ShortBody, BodyTooLong, ShortRecord, TrailingBytes, BadFamily, NoPeerIndex, BadPeerIndex, BadPrefix, BadMarker, BadLength, BadUpdate, ShortAttribute, BadAttribute, BadPath}
use Rattle.mrt_frame.specs.Faults.{fault_name}
use Rattle.adj_rib.specs.declared.outcome.What.{What}
use Rattle.adj_rib.specs.declared.outcome.What.TheVariants.{New, Changed, Same, Gone, Void, Lost}
use Rattle.peer_units.specs.declared.unit.PeerAddr.{PeerAddr}
use Rattle.peer_units.specs.declared.unit.PeerAddr.TheVariants.{V4, V6}
use Rattle.peer_units.specs.declared.unit.PeerKey.{PeerKey}
use Rattle.peer_units.specs.declared.unit.Damage.{Damage}
use Rattle.peer_tables.specs.declared.history.By.{By}
use Rattle.peer_tables.specs.declared.history.By.TheVariants.{Rib, Update, State}
use Rattle.peer_tables.specs.Histories.{RowState}
use Rattle.report_request.specs.Plain.{Layout}
use Rattle.rib_report.specs.declared.reports.churn.ChurnRow.{ChurnRow}
use Rattle.rib_report.specs.declared.reports.peers.PeerRow.{PeerRow}
use Rattle.rib_report.specs.Plain.{OriginRow, SeenRow, VisibilityRow}
use Rattle.rib_report.specs.Rows.{TableRow}
use Rattle.report_lines.specs.Cells.{Cell, quoted}
use Rattle.report_lines.specs.Fields.{field, numbers_text, time_text}
use Rattle.rib_report.specs.HistoryLines.{by_text, history_cells, what_text}
use Rattle.report_lines.specs.RouteLines.{listed_cells, addr_text, aggregator_text, identifier_text, key_text, kind_text, next_hop_text, origin_text, path_text, peer_text, prefix_text, route_cells}
use Rattle.report_lines.specs.JsonValues.{HasNoQuote, IsValue, NeedNoEscape, NeedsNoEscape, stands_in_quotes}
use Rattle.report_lines.specs.KeptTexts.{administrated_text, byte_digits, cell_if_asked, hexadecimal_text, kept_cell, kept_text, member_text, members_in_value, shown_member}
use Rattle.rib_report.specs.Lines.{churn_cells, entry_of, fault_cells, file_of, offset_of, origin_cells, peer_cells, row_cells, seen_cells, visibility_cells}
use Rattle.report_lines.proofs.ValueLaws.{both as both_true, neither, quoted_is_value}

-- ---- characters

stands : (c : ℕ) → 35 ≤ c → (c == 92) ≡ false → stands_in_quotes c ≡ true
stands c low other =
    ap (λ b. not (b || (c == 92 || nat_lt c 32))) (ne_eqb c 34 (λ e. omega (arith, e, low)))
    ∙ ap (λ b. not (b || nat_lt c 32)) other ∙ ap not (le-ltb c 32 (omega (arith, low)))

glyph_by : (d : ℕ) (b : Bool) → nat_lt d 10 ≡ b → stands_in_quotes (if b then 48 + d else 87 + d) ≡ true
glyph_by d true e = let low = ltb-true d 10 e in stands (48 + d) (omega arith) (ne_eqb (48 + d) 92 (λ e. omega (arith, e, low)))
glyph_by d false e = let high = ltb-false d 10 e in stands (87 + d) (omega arith) (ne_eqb (87 + d) 92 (λ e. omega (arith, e, high)))

glyph_stands : (d : ℕ) → stands_in_quotes (digit_glyph false d) ≡ true
glyph_stands d = glyph_by d (nat_lt d 10) refl

-- ---- lists

one_more : (c : ℕ) (text : List ℕ) → stands_in_quotes c ≡ true → NeedsNoEscape text → NeedsNoEscape (c ∷ text)
one_more c text e more = ap (λ b. b && list_all stands_in_quotes text) e ∙ more

both : (xs ys : List ℕ) → NeedsNoEscape xs → NeedsNoEscape ys → NeedsNoEscape (xs ++ ys)
both xs ys e f = list_all-append stands_in_quotes xs ys ∙ ap (λ b. b && list_all stands_in_quotes ys) e ∙ f

either : (b : Bool) (xs ys : List ℕ) → NeedsNoEscape xs → NeedsNoEscape ys → NeedsNoEscape (if b then xs else ys)
either true xs ys e f = e
either false xs ys e f = f

joined : (separator : ℕ) → stands_in_quotes separator ≡ true → (xs : List (List ℕ)) → AllByRecursion NeedsNoEscape xs → NeedsNoEscape (join_with_byte separator xs)
joined separator e [] all = refl
joined separator e (x ∷ []) all = all.0
joined separator e (x ∷ y ∷ xs) all =
    both x (separator ∷ join_with_byte separator (y ∷ xs)) all.0
    (one_more separator (join_with_byte separator (y ∷ xs)) e (joined separator e (y ∷ xs) all.1))

each : {X : Type 0} (f : X → List ℕ) → ((x : X) → NeedsNoEscape (f x)) → (xs : List X) → AllByRecursion NeedsNoEscape (map f xs)
each f e [] = cc
each f e (x ∷ xs) = (e x, each f e xs)

each_behind : {X : Type 0} (f : X → List ℕ) → ((x : X) → NeedsNoEscape (f x)) → (xs : List X) → NeedsNoEscape (flat_map f xs)
each_behind f e [] = refl
each_behind f e (x ∷ xs) = both (f x) (flat_map f xs) (e x) (each_behind f e xs)

if_any : {X : Type 0} (f : X → List ℕ) → ((x : X) → NeedsNoEscape (f x)) → (o : Option X) → NeedsNoEscape (field f o)
if_any f e None = refl
if_any f e (Some x) = e x

-- ---- numbers

onto : (k base n : ℕ) (acc : List ℕ) → NeedsNoEscape acc → NeedsNoEscape (digits_onto k base false n acc)
onto zero base n acc e = e
onto (suc k) base n acc e =
    let more = one_more (digit_glyph false (n % base)) acc (glyph_stands (n % base)) e in
    either (n / base == 0) (digit_glyph false (n % base) ∷ acc) (digits_onto k base false (n / base) (digit_glyph false (n % base) ∷ acc)) more
    (onto k base (n / base) (digit_glyph false (n % base) ∷ acc) more)

pub decimal_stands : (n : ℕ) → NeedsNoEscape (decimal n)
unfolding digits
decimal_stands n = onto 64 10 n [] refl

hexadecimal_stands : (n : ℕ) → NeedsNoEscape (hexadecimal n)
unfolding digits
hexadecimal_stands n = onto 64 16 n [] refl

within : (glyph : ℕ → ℕ) (base : ℕ) → ((n : ℕ) → stands_in_quotes (glyph (n % base)) ≡ true) → (count n : ℕ) → NeedsNoEscape (digits_in glyph base count n)
within glyph base e zero n = refl
within glyph base e (suc count) n = one_more (glyph (n / base ^ count % base)) (digits_in glyph base count n) (e (n / base ^ count)) (within glyph base e count n)

decimal_glyph_stands : (n : ℕ) → stands_in_quotes (decimal_glyph (n % 10)) ≡ true
decimal_glyph_stands n =
    let low : n % 10 < 10 = mod-lt n (omega arith) in
    stands (48 + n % 10) (omega arith) (ne_eqb (48 + n % 10) 92 (λ e. omega (arith, e, low)))

time_stands : (t : ℕ) → NeedsNoEscape (time_text t)
time_stands t =
    both (decimal (t / 1000000)) (46 ∷ digits_in decimal_glyph 10 6 (t % 1000000)) (decimal_stands (t / 1000000))
    (one_more 46 (digits_in decimal_glyph 10 6 (t % 1000000)) refl (within decimal_glyph 10 decimal_glyph_stands 6 (t % 1000000)))

numbers_stand : (separator : ℕ) → stands_in_quotes separator ≡ true → (numbers : List ℕ) → NeedsNoEscape (numbers_text separator numbers)
numbers_stand separator e numbers = joined separator e (map decimal numbers) (each decimal decimal_stands numbers)

-- two texts with a byte between them
pair : (separator : ℕ) → stands_in_quotes separator ≡ true → (xs ys : List ℕ) → NeedsNoEscape xs → NeedsNoEscape ys → NeedsNoEscape (xs ++ separator ∷ ys)
pair separator e xs ys one other = both xs (separator ∷ ys) one (one_more separator ys e other)

-- ---- addresses

ipv4_stands : (addr : ℕ) → NeedsNoEscape (ipv4_text addr)
ipv4_stands addr = joined 46 refl (map decimal (groups_of 256 4 addr)) (each decimal decimal_stands (groups_of 256 4 addr))

groups_stand : (groups : List ℕ) → NeedsNoEscape (groups_text groups)
groups_stand groups = joined 58 refl (map hexadecimal groups) (each hexadecimal hexadecimal_stands groups)

ipv6_stands : (form : AddressForm) (addr : ℕ) → NeedsNoEscape (ipv6_text form addr)
ipv6_stands Full addr =
    joined 58 refl (map (digits_in (digit_glyph false) 16 4) (groups_of 65536 8 addr))
    (each (digits_in (digit_glyph false) 16 4) (within (digit_glyph false) 16 (λ n. glyph_stands (n % 16)) 4) (groups_of 65536 8 addr))
ipv6_stands Short addr =
    let groups = groups_of 65536 8 addr in
    let run = longest_zero_run groups in
    let front = groups_text (take run.0 groups) in
    let back = groups_text (drop (run.0 + run.1) groups) in
    either (nat_lt 1 run.1) (front ++ codes "::" ++ back) (groups_text groups)
    (both (front ++ codes "::") back (both front (codes "::") (groups_stand (take run.0 groups)) refl) (groups_stand (drop (run.0 + run.1) groups)))
    (groups_stand groups)

address_stands : (family : FamilyOf) (form : AddressForm) (addr : ℕ) → NeedsNoEscape (address_text family form addr)
unfolding address_text
address_stands family form addr = either (family.width == 32) (ipv4_text (addr / 2 ^ 96)) (ipv6_text form addr) (ipv4_stands (addr / 2 ^ 96)) (ipv6_stands form addr)

pub addr_stands : (form : AddressForm) (addr : PeerAddr) → NeedsNoEscape (addr_text form addr)
addr_stands form (V4 addr) = ipv4_stands addr
addr_stands form (V6 addr) = ipv6_stands form addr

pub prefix_stands : (layout : Layout) (p : IpPrefix) → NeedsNoEscape (prefix_text layout p)
prefix_stands layout p =
    pair 47 refl (address_text layout.family layout.route_addresses p.addr) (decimal p.len) (address_stands layout.family layout.route_addresses p.addr) (decimal_stands p.len)

identifier_stands : (id : ℕ) → NeedsNoEscape (identifier_text id)
identifier_stands zero = refl
identifier_stands (suc id) = one_more 35 (decimal (suc id)) refl (decimal_stands (suc id))

key_stands : (layout : Layout) (k : RouteKey) → NeedsNoEscape (key_text layout k)
key_stands layout k = both (prefix_text layout k.prefix) (identifier_text k.id) (prefix_stands layout k.prefix) (identifier_stands k.id)

peer_stands : (layout : Layout) (peer : PeerKey) → NeedsNoEscape (peer_text layout peer)
peer_stands layout peer =
    pair 32 refl (decimal peer.asn) (addr_text layout.peer_addresses peer.addr) (decimal_stands peer.asn) (addr_stands layout.peer_addresses peer.addr)

-- ---- attributes

enclosed : (opening closing : ℕ) → stands_in_quotes opening ≡ true → stands_in_quotes closing ≡ true → (text : List ℕ) → NeedsNoEscape text → NeedsNoEscape (opening ∷ text ++ closing ∷ [])
enclosed opening closing e f text g = one_more opening (text ++ closing ∷ []) e (both text (closing ∷ []) g (one_more closing [] f refl))

kind_stands : (kind : SegmentKind) (numbers : List ℕ) → NeedsNoEscape (kind_text kind numbers)
kind_stands AsSequence numbers = numbers_stand 32 refl numbers
kind_stands AsSet numbers = enclosed 123 125 refl refl (numbers_text 44 numbers) (numbers_stand 44 refl numbers)
kind_stands ConfedSequence numbers = enclosed 40 41 refl refl (numbers_text 32 numbers) (numbers_stand 32 refl numbers)
kind_stands ConfedSet numbers = enclosed 91 93 refl refl (numbers_text 44 numbers) (numbers_stand 44 refl numbers)

path_stands : (path : List PathSegment) → NeedsNoEscape (path_text path)
path_stands path = joined 32 refl (map (λ s. kind_text s.kind s.numbers) path) (each (λ s. kind_text s.kind s.numbers) (λ s. kind_stands s.kind s.numbers) path)

hop_stands : (layout : Layout) (hop : NextHop) → NeedsNoEscape (next_hop_text layout hop)
hop_stands layout (next_hop.V4 addr) = ipv4_stands addr
hop_stands layout (next_hop.V6 addr) = ipv6_stands layout.route_addresses addr
hop_stands layout (next_hop.V6Pair global local) =
    pair 32 refl (ipv6_text layout.route_addresses global) (ipv6_text layout.route_addresses local)
    (ipv6_stands layout.route_addresses global) (ipv6_stands layout.route_addresses local)

origin_stands : (origin : Origin) → NeedsNoEscape (origin_text origin)
origin_stands Igp = refl
origin_stands Egp = refl
origin_stands Incomplete = refl

aggregator_stands : (a : Aggregator) → NeedsNoEscape (aggregator_text a)
aggregator_stands a = pair 32 refl (decimal a.asn) (ipv4_text a.addr) (decimal_stands a.asn) (ipv4_stands a.addr)

-- ---- further attributes

hexadecimal_bytes_stand : (m : List ℕ) → NeedsNoEscape (hexadecimal_text m)
hexadecimal_bytes_stand m =
    both (codes "0x") (flat_map byte_digits m) refl (each_behind byte_digits (λ b. one_more (digit_glyph false (b / 16)) (digit_glyph false (b % 16) ∷ []) (glyph_stands (b / 16)) (one_more (digit_glyph false (b % 16)) [] (glyph_stands (b % 16)) refl)) m)

administrated_stands : (name m : List ℕ) → NeedsNoEscape name → NeedsNoEscape (administrated_text name m)
administrated_stands name m e =
    let two = big_number 2 (drop 2 m) in
    let four = big_number 4 (drop 2 m) in
    let last = big_number 2 (drop 6 m) in
    let long = big_number 4 (drop 4 m) in
    either (slice_index m 0 == 0) _ _ (both name (decimal two ++ 58 ∷ decimal long) e (pair 58 refl (decimal two) (decimal long) (decimal_stands two) (decimal_stands long)))
    (either (slice_index m 0 == 1) _ _ (both name (ipv4_text four ++ 58 ∷ decimal last) e (pair 58 refl (ipv4_text four) (decimal last) (ipv4_stands four) (decimal_stands last)))
    (either (slice_index m 0 == 2) _ _ (both name (decimal four ++ 58 ∷ decimal last) e (pair 58 refl (decimal four) (decimal last) (decimal_stands four) (decimal_stands last)))
    (hexadecimal_bytes_stand m)))

pub member_stands : (a : KeptAttribute) (m : List ℕ) → NeedsNoEscape (member_text a m)
member_stands Communities m =
    pair 58 refl (decimal (big_number 2 m)) (decimal (big_number 2 (drop 2 m))) (decimal_stands (big_number 2 m)) (decimal_stands (big_number 2 (drop 2 m)))
member_stands ExtendedCommunities m =
    either (slice_index m 1 == 2) _ _ (administrated_stands (codes "rt:") m refl)
    (either (slice_index m 1 == 3) _ _ (administrated_stands (codes "ro:") m refl) (hexadecimal_bytes_stand m))
member_stands LargeCommunities m =
    let first = big_number 4 m in
    let middle = big_number 4 (drop 4 m) in
    let last = big_number 4 (drop 8 m) in
    pair 58 refl (decimal first ++ 58 ∷ decimal middle) (decimal last) (pair 58 refl (decimal first) (decimal middle) (decimal_stands first) (decimal_stands middle)) (decimal_stands last)
member_stands OriginatorId m = ipv4_stands (big_number 4 m)
member_stands ClusterList m = ipv4_stands (big_number 4 m)
member_stands OnlyToCustomer m = decimal_stands (big_number 4 m)

kept_stands : (a : KeptAttribute) (value : List ℕ) → NeedsNoEscape (kept_text false 32 a value)
kept_stands a value = joined 32 refl (map (shown_member false a) (members_in_value a value)) (each (shown_member false a) (member_stands a) (members_in_value a value))

-- ---- rows

cells_and : (cells more : List Cell) → NeedNoEscape cells → NeedNoEscape more → NeedNoEscape (cells ++ more)
cells_and [] more e f = f
cells_and (c ∷ cells) more e f = (e.0, cells_and cells more e.1 f)

asked_stands : (asked : AttributeSet) (kept : List KeptValue) (a : KeptAttribute) (b : Bool) → NeedNoEscape (if b then kept_cell kept a ∷ [] else [])
asked_stands asked kept a true = (if_any (kept_text false 32 a) (kept_stands a) (value_kept (kept_code a) kept), cc)
asked_stands asked kept a false = cc

each_asked : (asked : AttributeSet) (kept : List KeptValue) (attributes : List KeptAttribute) → NeedNoEscape (flat_map (cell_if_asked asked kept) attributes)
each_asked asked kept [] = cc
each_asked asked kept (a ∷ attributes) =
    cells_and (cell_if_asked asked kept a) (flat_map (cell_if_asked asked kept) attributes) (asked_stands asked kept a (has asked a)) (each_asked asked kept attributes)

atomic_stands : (b : Bool) → NeedsNoEscape (if b then codes "atomic" else codes "-")
atomic_stands b = either b (codes "atomic") (codes "-") refl refl

route_stands : (layout : Layout) (route : Route) → NeedNoEscape (route_cells layout route)
route_stands layout route =
    (if_any path_text path_stands route.path, (if_any (next_hop_text layout) (hop_stands layout) route.next_hop, (if_any origin_text origin_stands route.origin, (if_any decimal decimal_stands route.med, (if_any decimal decimal_stands route.local_pref, (atomic_stands route.atomic, (if_any aggregator_text aggregator_stands route.aggregator, each_asked layout.attributes route.kept all_kept)))))))

pub row_stands : (layout : Layout) (row : TableRow) → NeedNoEscape (row_cells layout row)
row_stands layout row = (peer_stands layout row.peer, (key_stands layout row.key, route_stands layout row.route))

what_stands : (what : What) → NeedsNoEscape (what_text what)
what_stands New = refl
what_stands Changed = refl
what_stands Same = refl
what_stands Gone = refl
what_stands Void = refl
what_stands Lost = refl

by_stands : (by : By) → NeedsNoEscape (by_text by)
by_stands Rib = refl
by_stands Update = refl
by_stands State = refl

listed_stands : (layout : Layout) (route : Option Route) → NeedNoEscape (listed_cells layout route)
listed_stands layout None =
    (refl, (refl, (refl, (refl, (refl, (refl, (refl, each_asked layout.attributes [] all_kept)))))))
listed_stands layout (Some route) = route_stands layout route

pub history_stands : (layout : Layout) (row : RowState) → NeedNoEscape (history_cells layout row)
history_stands layout row =
    (time_stands row.time, (peer_stands layout row.peer, (what_stands row.what, (by_stands row.by, (key_stands layout row.key, listed_stands layout row.route)))))

pub visibility_stands : (layout : Layout) (row : VisibilityRow) → NeedNoEscape (visibility_cells layout row)
visibility_stands layout row = (prefix_stands layout row.prefix, (decimal_stands row.peers, cc))

pub origins_stand : (layout : Layout) (row : OriginRow) → NeedNoEscape (origin_cells layout row)
origins_stand layout row = (prefix_stands layout row.prefix, (numbers_stand 32 refl row.origins, cc))

pub seen_stands : (layout : Layout) (row : SeenRow) → NeedNoEscape (seen_cells layout row)
seen_stands layout row = (prefix_stands layout row.prefix, (if_any decimal decimal_stands row.origin, (decimal_stands row.peers, cc)))

pub churn_stands : (layout : Layout) (row : ChurnRow) → NeedNoEscape (churn_cells layout row)
churn_stands layout row =
    (peer_stands layout row.peer, (decimal_stands row.churn.added, (decimal_stands row.churn.changed, (decimal_stands row.churn.same, (decimal_stands row.churn.gone, (decimal_stands row.churn.void, (decimal_stands row.churn.resets, (decimal_stands row.churn.idle, (decimal_stands row.churn.refused, (if_any time_text time_stands row.churn.first, (if_any time_text time_stands row.churn.last, cc)))))))))))

pub peers_stand : (layout : Layout) (row : PeerRow) → NeedNoEscape (peer_cells layout row)
peers_stand layout row =
    (peer_stands layout row.peer, (either row.is_established (codes "up") (codes "down") refl refl, (decimal_stands row.routes, (decimal_stands row.units, (if_any time_text time_stands row.first, (if_any time_text time_stands row.last, (if_any decimal decimal_stands (file_of row.place), (if_any decimal decimal_stands (offset_of row.place), (if_any decimal decimal_stands (entry_of row.place), cc)))))))))

fault_stands : (fault : Fault) → NeedsNoEscape (fault_name fault)
fault_stands ShortHeader = refl
fault_stands ShortBody = refl
fault_stands BodyTooLong = refl
fault_stands ShortRecord = refl
fault_stands TrailingBytes = refl
fault_stands BadFamily = refl
fault_stands NoPeerIndex = refl
fault_stands BadPeerIndex = refl
fault_stands BadPrefix = refl
fault_stands BadMarker = refl
fault_stands BadLength = refl
fault_stands BadUpdate = refl
fault_stands ShortAttribute = refl
fault_stands (BadAttribute code) =
    both (codes "BadAttribute") (codes "(" ++ decimal code ++ codes ")") refl
    (both (codes "(") (decimal code ++ codes ")") refl (both (decimal code) (codes ")") (decimal_stands code) refl))
fault_stands BadPath = refl

pub faults_stand : (layout : Layout) (d : Damage) → NeedNoEscape (fault_cells layout d)
faults_stand layout d =
    (decimal_stands (d.place.file + 1), (decimal_stands d.place.offset, (if_any decimal decimal_stands d.place.entry, (decimal_stands _, (fault_stands d.fault, cc)))))

-- ---- in quotes

no_quotes : (text : List ℕ) → NeedsNoEscape text → HasNoQuote text
no_quotes [] e = refl
no_quotes (c ∷ text) e =
    let parts = both_true (stands_in_quotes c) (list_all stands_in_quotes text) e in
    ap (λ b. not b && list_all (λ c. not (c == 34)) text) (neither (c == 34) _ parts.0).0 ∙ no_quotes text parts.1

pub no_escape_is_value : (text : List ℕ) → NeedsNoEscape text → IsValue (quoted text)
no_escape_is_value text e = quoted_is_value text (no_quotes text e)
