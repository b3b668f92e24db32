-- Tables that fit are written as records that fit.
use Rattle.std.proofs.Common.{◌≡◌, ℕ, ◌+◌, ◌^◌, ◌<◌, ◌≤◌, Bool, true, false, cond, not, ◌&&◌, ◌||◌, eqb, List, [], ◌∷◌, ◌++◌, length, map, Option, Some, None, refl, sym, ap, subst, ◌∙◌, arith, length-append}
use Rattle.std.specs.Prelude.{nat_lt, nat_le}
use Rattle.std.specs.Int.{div_ceil}
use Rattle.std.specs.List.{filter, flat_map, AllByRecursion, enumerate_from}
use Rattle.std.specs.declared.cmp.Ordering.{Ordering}
use Rattle.std.specs.declared.cmp.Ordering.TheVariants.{Less, Equal, Greater}
use Rattle.std.specs.FinMap.Entries.{put, by_order}
use Rattle.std.proofs.lemmas.Bool.{eqb-true, leb-true, ltb-true}
use Rattle.std.proofs.lemmas.List.{length-map, length-take}
use Rattle.byteorder.specs.Endian.{big_bytes}
use Rattle.byteorder.specs.Numbers.{length-bytes_high_first}
use Rattle.bgp_prefix.specs.Prefixes.{IpPrefix, IsIpPrefix, prefix_cmp, prefix_eq}
use Rattle.bgp_prefix.specs.Keys.{RouteKey}
use Rattle.bgp_prefix.specs.Ordered.{tabulated, in_order}
use Rattle.mrt_frame.specs.Cuts.{body_limit}
use Rattle.bgp_update.specs.declared.next_hop.NextHop.{NextHop}
use Rattle.bgp_update.specs.declared.next_hop.NextHop.TheVariants.{V4, V6, V6Pair}
use Rattle.bgp_update.specs.declared.route.Route.{Route}
use Rattle.bgp_update.specs.Families.{FamilyOf, RouteRules}
use Rattle.peer_units.specs.declared.unit.PeerKey.{PeerKey}
use Rattle.mrt_body.specs.RibRecords.{identifier_bytes, entry_bytes, rib_bytes, FitsIdentifier}
use Rattle.mrt_writing.specs.Heads.{FitsPeerKey, state_after}
use Rattle.mrt_writing.specs.Prefixes.{prefix_octets}
use Rattle.mrt_writing.specs.RouteAttributes.{HasEntryHop, FitsEntryRoute}
use Rattle.mrt_writing.specs.RibRecords.{PrefixRoute, entry_field, rib_head, written_entry, written_rib, FitsPrefixRoute}
use Rattle.mrt_writing.specs.Updates.{FitsUpdate}
use Rattle.mrt_writing.specs.Dumps.{DumpRecord, update, has_identifier, FitsDumpRecord, FitsDump}
use Rattle.mrt_writing.proofs.PartLaws.{rib_parts, update_len}
use Rattle.table_dumps.specs.Dumped.{is_entry, is_ipv4_hop}
use Rattle.table_dumps.specs.Checkpoints.{DumpedPeer, entries_in, others_in, prefixes_of, prefix_route, routes_at, have_identifiers, PrefixPart, parts_of, all_parts, closed, split_after, fits_record, record_split, state_record, part_record, update_records, checkpoint_records, keys_of}
use Rattle.table_dumps.specs.Fitting.{IsShort, FitsRoute, FitsPeer, FitsTables}

-- ---- lists

pub all_both : {A : Type 0} (P : A → Type 0) (xs ys : List A) → AllByRecursion P xs → AllByRecursion P ys → AllByRecursion P (xs ++ ys)
all_both P [] ys h k = k
all_both P (x ∷ xs) ys h k = (h.0, all_both P xs ys h.1 k)

all_map : {A B : Type 0} (f : A → B) (P : B → Type 0) (xs : List A) → AllByRecursion (λ x. P (f x)) xs → AllByRecursion P (map f xs)
all_map f P [] h = tt
all_map f P (x ∷ xs) h = (h.0, all_map f P xs h.1)

all_flat : {A B : Type 0} (f : A → List B) (P : B → Type 0) (xs : List A) → AllByRecursion (λ x. AllByRecursion P (f x)) xs → AllByRecursion P (flat_map f xs)
all_flat f P [] h = tt
all_flat f P (x ∷ xs) h = all_both P (f x) (flat_map f xs) h.0 (all_flat f P xs h.1)

all_where : {A : Type 0} (p : A → Bool) (P : A → Type 0) (xs : List A) → AllByRecursion P xs → AllByRecursion (λ x. P x × (p x ≡ true)) (filter p xs)
all_where p P [] h = tt
all_where p P (x ∷ xs) h = by_test (p x) refl (all_where p P xs h.1)
  where
    by_test : (b : Bool) → p x ≡ b → AllByRecursion (λ y. P y × (p y ≡ true)) (filter p xs) → AllByRecursion (λ y. P y × (p y ≡ true)) (cond b (x ∷ filter p xs) (filter p xs))
    by_test true t more = ((h.0, t), more)
    by_test false t more = more

all_so : {A : Type 0} (P Q : A → Type 0) (so : (x : A) → P x → Q x) (xs : List A) → AllByRecursion P xs → AllByRecursion Q xs
all_so P Q so [] h = tt
all_so P Q so (x ∷ xs) h = (so x h.0, all_so P Q so xs h.1)

-- ---- one route

entry_hop : (own : Bool) (hop : Option NextHop) → cond own (is_ipv4_hop hop) true ≡ true → HasEntryHop own hop
entry_hop false hop t = tt
entry_hop true None t = tt
entry_hop true (Some (V4 addr)) t = tt
entry_hop true (Some (V6 addr)) t = absurd cc
entry_hop true (Some (V6Pair addr link)) t = absurd cc

other_hop : (own : Bool) (hop : Option NextHop) → not (cond own (is_ipv4_hop hop) true) ≡ true → (h : NextHop) × (hop ≡ Some h)
other_hop false hop t = absurd cc
other_hop true None t = absurd cc
other_hop true (Some hop) t = (hop, refl)

identifier_fits : (id : ℕ) → id < 256 ^ 4 → FitsIdentifier (not (eqb id 0)) id
identifier_fits id h = by_test (eqb id 0) refl
  where
    by_test : (b : Bool) → eqb id 0 ≡ b → FitsIdentifier (not b) id
    by_test true e = eqb-true id 0 e
    by_test false e = h

not_true : (b : Bool) → not b ≡ true → b ≡ false
not_true true e = absurd cc
not_true false e = refl

entry_fits : (rules : RouteRules) (e : RouteKey × Route) → FitsRoute rules e → is_entry rules.family e ≡ true → FitsEntryRoute rules e.1
entry_fits rules e h t =
    let short : IsShort true rules.family e = subst (λ (b : Bool). IsShort b rules.family e) t h.short in
    record { packs = h.packs; hop = entry_hop rules.family.own_fields e.1.next_hop t; kept = h.kept; short = omega (arith, short) }

update_fits : (rules : RouteRules) (e : RouteKey × Route) → FitsRoute rules e → not (is_entry rules.family e) ≡ true → FitsUpdate rules (has_identifier e.0) e.0 e.1
update_fits rules e h t =
    let short : IsShort false rules.family e = subst (λ (b : Bool). IsShort b rules.family e) (not_true (is_entry rules.family e) t) h.short in
    let hop = other_hop rules.family.own_fields e.1.next_hop t in
    record {
      packs = h.packs;
      kept = h.kept;
      hop = hop.0;
      reached = hop.1;
      formed = h.formed;
      narrow = h.narrow;
      id = identifier_fits e.0.id h.id;
      short = omega (arith, short, update_len rules.family (has_identifier e.0) e.0 e.1);
    }

-- ---- the prefixes in order

abbrev Keyed : (IpPrefix → Type 0) → IpPrefix × Unit {0} → Type 0
Keyed P e = P e.0

put_keeps : (P : IpPrefix → Type 0) (k : IpPrefix) (es : List (IpPrefix × Unit {0})) → P k → AllByRecursion (Keyed P) es → AllByRecursion (Keyed P) (put prefix_cmp k tt es)
put_keeps P k [] own h = (own, tt)
put_keeps P k (e ∷ es) own h = by_place (prefix_cmp k e.0) (put_keeps P k es own h.1)
  where
    by_place : (r : Ordering) → AllByRecursion (Keyed P) (put prefix_cmp k tt es) → AllByRecursion (Keyed P) (by_order r ((k, tt) ∷ e ∷ es) ((e.0, tt) ∷ es) (e ∷ put prefix_cmp k tt es))
    by_place Less more = (own, h)
    by_place Equal more = h
    by_place Greater more = (h.0, more)

table_keeps : (P : IpPrefix → Type 0) (ps : List IpPrefix) → AllByRecursion P ps → AllByRecursion (Keyed P) (tabulated prefix_cmp (λ _. Some tt) ps)
table_keeps P [] h = tt
table_keeps P (p ∷ ps) h = put_keeps P p (tabulated prefix_cmp (λ _. Some tt) ps) h.0 (table_keeps P ps h.1)

order_keeps : (P : IpPrefix → Type 0) (ps : List IpPrefix) → AllByRecursion P ps → AllByRecursion P (in_order prefix_cmp ps)
order_keeps P ps h = all_map (λ (e : IpPrefix × Unit {0}). e.0) P (tabulated prefix_cmp (λ _. Some tt) ps) (table_keeps P ps h)

-- ---- sizes

-- the bytes of entries, whatever their time is
entries_size : (family : FamilyOf) (add_path : Bool) (originated : ℕ) (part : List PrefixRoute)
    → length (flat_map (λ e. entry_bytes add_path (written_entry family originated e)) part) ≡ length (flat_map (λ e. entry_bytes add_path (written_entry family 0 e)) part)
entries_size family add_path originated [] = refl
entries_size family add_path originated (e ∷ part) =
    let field = entry_field family e.route in
    let id = identifier_bytes add_path e.id in
    let back = id ++ (big_bytes 2 (length field) ++ field) in
    let here : List ℕ = flat_map (λ x. entry_bytes add_path (written_entry family originated x)) part in
    let there : List ℕ = flat_map (λ x. entry_bytes add_path (written_entry family 0 x)) part in
    omega (
      arith,
      entries_size family add_path originated part,
      length-append (big_bytes 2 e.peer ++ (big_bytes 4 originated ++ back)) here,
      length-append (big_bytes 2 e.peer ++ (big_bytes 4 0 ++ back)) there,
      length-append (big_bytes 2 e.peer) (big_bytes 4 originated ++ back),
      length-append (big_bytes 2 e.peer) (big_bytes 4 0 ++ back),
      length-append (big_bytes 4 originated) back,
      length-append (big_bytes 4 0) back,
      length-bytes_high_first 4 originated,
      length-bytes_high_first 4 0,
    )

head_size : (sequence count : ℕ) (prefix : IpPrefix) → length (rib_head sequence prefix count) ≡ 7 + length (prefix_octets prefix)
head_size sequence count prefix =
    omega (
      arith,
      length-append (big_bytes 4 sequence) ((prefix.len ∷ prefix_octets prefix) ++ big_bytes 2 count),
      length-append (prefix.len ∷ prefix_octets prefix) (big_bytes 2 count),
      length-bytes_high_first 4 sequence,
      length-bytes_high_first 2 count,
    )

-- nor of a record, whatever its number is
size_is : (family : FamilyOf) (add_path : Bool) (originated sequence : ℕ) (prefix : IpPrefix) (part : List PrefixRoute)
    → length (rib_bytes add_path (written_rib family originated sequence prefix part)) ≡ (7 + length (prefix_octets prefix)) + length (flat_map (λ e. entry_bytes add_path (written_entry family originated e)) part)
size_is family add_path originated sequence prefix part =
    let head = rib_head sequence prefix (length part) in
    let all : List ℕ = flat_map (λ e. entry_bytes add_path (written_entry family originated e)) part in
    ap length (rib_parts family add_path originated sequence prefix part) ∙ length-append head all ∙ ap (λ (n : ℕ). n + length all) (head_size sequence (length part) prefix)

same_size : (family : FamilyOf) (add_path : Bool) (originated sequence : ℕ) (prefix : IpPrefix) (part : List PrefixRoute)
    → length (rib_bytes add_path (written_rib family originated sequence prefix part)) ≡ length (rib_bytes add_path (written_rib family 0 0 prefix part))
same_size family add_path originated sequence prefix part =
    size_is family add_path originated sequence prefix part
    ∙ ap (λ (n : ℕ). (7 + length (prefix_octets prefix)) + n) (entries_size family add_path originated part)
    ∙ sym (size_is family add_path 0 0 prefix part)

octets_size : (prefix : IpPrefix) → length (prefix_octets prefix) ≤ 16
unfolding prefix_octets
octets_size prefix =
    let octets = big_bytes 16 prefix.addr in
    omega (arith, length-take (div_ceil prefix.len 8) octets, length-bytes_high_first 16 prefix.addr)

identifier_size : (add_path : Bool) (id : ℕ) → length (identifier_bytes add_path id) ≤ 4
identifier_size true id = omega (arith, length-bytes_high_first 4 id)
identifier_size false id = omega arith

entry_size : (family : FamilyOf) (add_path : Bool) (originated : ℕ) (e : PrefixRoute) → length (entry_field family e.route) < 256 ^ 2
    → length (entry_bytes add_path (written_entry family originated e)) < 12 + 256 ^ 2
entry_size family add_path originated e short =
    let field = entry_field family e.route in
    let id = identifier_bytes add_path e.id in
    omega (
      arith,
      short,
      identifier_size add_path e.id,
      length-append (big_bytes 2 e.peer) (big_bytes 4 originated ++ (id ++ (big_bytes 2 (length field) ++ field))),
      length-append (big_bytes 4 originated) (id ++ (big_bytes 2 (length field) ++ field)),
      length-append id (big_bytes 2 (length field) ++ field),
      length-append (big_bytes 2 (length field)) field,
      length-bytes_high_first 2 e.peer,
      length-bytes_high_first 4 originated,
      length-bytes_high_first 2 (length field),
    )

-- ---- parts of the entries of a prefix

-- a part is as long as a record may be
record IsShortPart (family : FamilyOf) (add_path : Bool) (prefix : IpPrefix) (part : List PrefixRoute) : Type 0 where
  count : length part < 256 ^ 2
  body : length (rib_bytes add_path (written_rib family 0 0 prefix part)) ≤ body_limit

none_short : (family : FamilyOf) (add_path : Bool) (prefix : IpPrefix) → IsShortPart family add_path prefix []
none_short family add_path prefix = record {
  count = omega arith;
  body = omega (arith, size_is family add_path 0 0 prefix [], octets_size prefix);
}

one_short : (family : FamilyOf) (add_path : Bool) (prefix : IpPrefix) (e : PrefixRoute) → length (entry_field family e.route) < 256 ^ 2 → IsShortPart family add_path prefix (e ∷ [])
one_short family add_path prefix e short = record {
  count = omega arith;
  body = omega (
    arith,
    size_is family add_path 0 0 prefix (e ∷ []),
    octets_size prefix,
    entry_size family add_path 0 e short,
    length-append (entry_bytes add_path (written_entry family 0 e)) [],
  );
}

pub both_true : (a b : Bool) → (a && b) ≡ true → (a ≡ true) × (b ≡ true)
both_true true b e = (refl, e)
both_true false b e = absurd cc

fits_short : (family : FamilyOf) (add_path : Bool) (prefix : IpPrefix) (part : List PrefixRoute) → fits_record family add_path prefix part ≡ true → IsShortPart family add_path prefix part
fits_short family add_path prefix part e =
    let size = length (rib_bytes add_path (written_rib family 0 0 prefix part)) in
    let both = both_true (nat_lt (length part) 65536) (nat_le size body_limit) e in
    record { count = ltb-true (length part) 65536 both.0; body = leb-true size body_limit both.1 }

module _ (family : FamilyOf) (add_path : Bool) (prefix : IpPrefix) (P : PrefixRoute → Type 0) (short : (e : PrefixRoute) → P e → length (entry_field family e.route) < 256 ^ 2) where
  abbrev Good : List PrefixRoute → Type 0
  Good part = IsShortPart family add_path prefix part × AllByRecursion P part

  closed_good : (part : List PrefixRoute) → Good part → AllByRecursion Good (closed part)
  closed_good [] h = tt
  closed_good (e ∷ part) h = (h, tt)

  -- each part is short, and has what the entries have
  split_good : (part entries : List PrefixRoute) → Good part → AllByRecursion P entries → AllByRecursion Good (split_after (fits_record family add_path prefix) part entries)
  split_good part [] h all = closed_good part h
  split_good part (e ∷ entries) h all =
      by_test (fits_record family add_path prefix (part ++ e ∷ [])) refl
      (λ t. split_good (part ++ e ∷ []) entries (fits_short family add_path prefix (part ++ e ∷ []) t, all_both P part (e ∷ []) h.1 (all.0, tt)) all.1)
      (split_good (e ∷ []) entries (one_short family add_path prefix e (short e all.0), (all.0, tt)) all.1)
    where
      by_test : (b : Bool) → fits_record family add_path prefix (part ++ e ∷ []) ≡ b
          → (fits_record family add_path prefix (part ++ e ∷ []) ≡ true → AllByRecursion Good (split_after (fits_record family add_path prefix) (part ++ e ∷ []) entries))
          → AllByRecursion Good (split_after (fits_record family add_path prefix) (e ∷ []) entries)
          → AllByRecursion Good (cond b (split_after (fits_record family add_path prefix) (part ++ e ∷ []) entries) (closed part ++ split_after (fits_record family add_path prefix) (e ∷ []) entries))
      by_test true t more next = more t
      by_test false t more next = all_both Good (closed part) (split_after (fits_record family add_path prefix) (e ∷ []) entries) (closed_good part h) next

-- ---- identifiers

none_has : (entries : List PrefixRoute) → have_identifiers entries ≡ false → AllByRecursion (λ e. e.id ≡ 0) entries
none_has [] h = tt
none_has (e ∷ entries) h = by_test (eqb e.id 0) refl h (none_has entries)
  where
    by_test : (b : Bool) → eqb e.id 0 ≡ b → (not b || have_identifiers entries) ≡ false → (have_identifiers entries ≡ false → AllByRecursion (λ x. x.id ≡ 0) entries) → AllByRecursion (λ x. x.id ≡ 0) (e ∷ entries)
    by_test true t f more = (eqb-true e.id 0 t, more f)
    by_test false t f more = absurd cc

identified : (entries : List PrefixRoute) → AllByRecursion (λ e. e.id < 256 ^ 4) entries → AllByRecursion (λ e. FitsIdentifier (have_identifiers entries) e.id) entries
identified entries h = by_test (have_identifiers entries) refl
  where
    by_test : (b : Bool) → have_identifiers entries ≡ b → AllByRecursion (λ e. FitsIdentifier b e.id) entries
    by_test true t = h
    by_test false t = none_has entries t

-- ---- all parts

module _ (rules : RouteRules) (total : ℕ) (few : total < 256 ^ 2) where
  -- what is known of an entry of any prefix
  abbrev Known : PrefixRoute → Type 0
  Known e = (e.peer < total) × (e.id < 256 ^ 4) × FitsEntryRoute rules e.route

  abbrev Fit : RouteKey × Route → Type 0
  Fit x = FitsRoute rules x × (is_entry rules.family x ≡ true)

  routes_known : (prefix : IpPrefix) (first : ℕ) (peers : List DumpedPeer) → first + length peers ≡ total → AllByRecursion (FitsPeer rules) peers → AllByRecursion Known (routes_at rules.family prefix first peers)
  routes_known prefix first [] e h = tt
  routes_known prefix first (p ∷ peers) e h =
      all_both Known (map (prefix_route first) (filter (λ x. prefix_eq prefix x.0.prefix) (entries_in rules.family p))) (routes_at rules.family prefix (first + 1) peers)
      (all_map (prefix_route first) Known (filter (λ x. prefix_eq prefix x.0.prefix) (entries_in rules.family p)) (own h.0.routes))
      (routes_known prefix (first + 1) peers (omega (arith, e)) h.1)
    where
      own : AllByRecursion (FitsRoute rules) p.table → AllByRecursion (λ x. Known (prefix_route first x)) (filter (λ x. prefix_eq prefix x.0.prefix) (entries_in rules.family p))
      own fit =
          all_so (λ x. Fit x × (prefix_eq prefix x.0.prefix ≡ true)) (λ x. Known (prefix_route first x)) (λ x k. (omega (arith, e), k.0.0.id, entry_fits rules x k.0.0 k.0.1)) (filter (λ x. prefix_eq prefix x.0.prefix) (entries_in rules.family p))
          (all_where (λ x. prefix_eq prefix x.0.prefix) Fit (entries_in rules.family p) (all_where (is_entry rules.family) (FitsRoute rules) p.table fit))

  -- an entry of a record with identifiers or without
  abbrev Numbered : Bool → PrefixRoute → Type 0
  Numbered add_path e = FitsPrefixRoute rules add_path total e

  all_numbered : (add_path : Bool) (entries : List PrefixRoute) → AllByRecursion Known entries → AllByRecursion (λ e. FitsIdentifier add_path e.id) entries → AllByRecursion (Numbered add_path) entries
  all_numbered add_path [] h i = tt
  all_numbered add_path (e ∷ entries) h i =
      let known = h.0.0 in
      (record { known = known; peer = omega (arith, known, few); id = i.0; route = h.0.2 }, all_numbered add_path entries h.1 i.1)

  abbrev IsOf : IpPrefix → Type 0
  IsOf prefix = IsIpPrefix prefix × (prefix.len ≤ rules.family.width)

  -- a record before it has its number
  abbrev FitsPart : PrefixPart → Type 0
  FitsPart part = IsOf part.prefix × IsShortPart rules.family part.add_path part.prefix part.entries × AllByRecursion (Numbered part.add_path) part.entries

  prefix_parts : (prefix : IpPrefix) (entries : List PrefixRoute) → IsOf prefix → AllByRecursion Known entries → AllByRecursion FitsPart (parts_of (record_split rules.family prefix) prefix entries)
  prefix_parts prefix entries of h =
      let add_path = have_identifiers entries in
      let numbered : AllByRecursion (Numbered add_path) entries = all_numbered add_path entries h (identified entries (all_so Known (λ e. e.id < 256 ^ 4) (λ e k. k.1) entries h)) in
      let good = split_good rules.family add_path prefix (Numbered add_path) (λ e k. k.route.short) [] entries (none_short rules.family add_path prefix, tt) numbered in
      all_map (λ part. record { add_path = add_path; prefix = prefix; entries = part }) FitsPart (record_split rules.family prefix entries)
      (all_so (Good rules.family add_path prefix (Numbered add_path) (λ e k. k.route.short)) (λ part. FitsPart (record { add_path = add_path; prefix = prefix; entries = part })) (λ part g. (of, g.0, g.1)) (record_split rules.family prefix entries) good)

  table_prefixes : (es : List (RouteKey × Route)) → AllByRecursion (FitsRoute rules) es → AllByRecursion IsOf (map (λ e. e.0.prefix) (filter (is_entry rules.family) es))
  table_prefixes es h =
      all_map (λ e. e.0.prefix) IsOf (filter (is_entry rules.family) es)
      (all_so (λ e. FitsRoute rules e × (is_entry rules.family e ≡ true)) (λ e. IsOf e.0.prefix) (λ e k. (k.0.formed, k.0.narrow)) (filter (is_entry rules.family) es) (all_where (is_entry rules.family) (FitsRoute rules) es h))

  prefixes_fit : (peers : List DumpedPeer) → AllByRecursion (FitsPeer rules) peers → AllByRecursion IsOf (prefixes_of rules.family peers)
  prefixes_fit peers h =
      order_keeps IsOf (flat_map (λ p. map (λ e. e.0.prefix) (entries_in rules.family p)) peers)
      (all_flat (λ p. map (λ e. e.0.prefix) (entries_in rules.family p)) IsOf peers (all_so (FitsPeer rules) (λ p. AllByRecursion IsOf (map (λ e. e.0.prefix) (entries_in rules.family p))) (λ p k. table_prefixes p.table k.routes) peers h))

  parts_fit : (peers : List DumpedPeer) → length peers ≡ total → AllByRecursion (FitsPeer rules) peers → AllByRecursion FitsPart (all_parts (record_split rules.family) rules.family peers)
  parts_fit peers e h =
      all_flat (λ prefix. parts_of (record_split rules.family prefix) prefix (routes_at rules.family prefix 0 peers)) FitsPart (prefixes_of rules.family peers)
      (all_so IsOf (λ prefix. AllByRecursion FitsPart (parts_of (record_split rules.family prefix) prefix (routes_at rules.family prefix 0 peers)))
      (λ prefix of. prefix_parts prefix (routes_at rules.family prefix 0 peers) of (routes_known prefix 0 peers (omega (arith, e)) h)) (prefixes_of rules.family peers) (prefixes_fit peers h))

-- ---- all records

module _ (rules : RouteRules) (seconds : ℕ) (time : seconds < 256 ^ 4) (keys : List PeerKey) (few : length keys < 256 ^ 2) where
  abbrev Fits : DumpRecord → Type 0
  Fits r = FitsDumpRecord rules seconds keys r

  part_fits : (number : ℕ) (part : PrefixPart) → number < 256 ^ 4 → FitsPart rules (length keys) few part → Fits (part_record (number, part))
  part_fits number part small h = (
    record { time = time; numbered = small; formed = h.0.0; short = h.0.1; count = h.1.count; each = h.2 },
    omega (arith, h.1.body, same_size rules.family part.add_path seconds number part.prefix part.entries),
  )

  numbered_fit : (first : ℕ) (parts : List PrefixPart) → first + length parts ≤ 256 ^ 4 → AllByRecursion (FitsPart rules (length keys) few) parts → AllByRecursion Fits (map part_record (enumerate_from first parts))
  numbered_fit first [] small h = tt
  numbered_fit first (part ∷ parts) small h = (part_fits first part (omega (arith, small)) h.0, numbered_fit (first + 1) parts (omega (arith, small)) h.1)

  after_fits : (up : Bool) → state_after up < 256 ^ 2
  after_fits true = omega arith
  after_fits false = omega arith

  states_fit : (peers : List DumpedPeer) → AllByRecursion (FitsPeer rules) peers → AllByRecursion Fits (map state_record peers)
  states_fit peers h = all_map state_record Fits peers (all_so (FitsPeer rules) (λ p. Fits (state_record p)) (λ p k. (k.key, after_fits p.up)) peers h)

  peer_updates : (p : DumpedPeer) → FitsPeer rules p → AllByRecursion Fits (update_records rules.family p)
  peer_updates p h =
      let others = others_in rules.family p in
      all_map (λ e. update p.key e.0 e.1) Fits others
      (all_so (λ e. FitsRoute rules e × (not (is_entry rules.family e) ≡ true)) (λ e. Fits (update p.key e.0 e.1)) (λ e k. (h.key, update_fits rules e k.0 k.1)) others
      (all_where (λ e. not (is_entry rules.family e)) (FitsRoute rules) p.table h.routes))

  updates_fit : (peers : List DumpedPeer) → AllByRecursion (FitsPeer rules) peers → AllByRecursion Fits (flat_map (update_records rules.family) peers)
  updates_fit peers h = all_flat (update_records rules.family) Fits peers (all_so (FitsPeer rules) (λ p. AllByRecursion Fits (update_records rules.family p)) peer_updates peers h)

  records_fit : (peers : List DumpedPeer) → length peers ≡ length keys → AllByRecursion (FitsPeer rules) peers → length (all_parts (record_split rules.family) rules.family peers) ≤ 256 ^ 4
      → AllByRecursion Fits (checkpoint_records (record_split rules.family) rules.family peers)
  records_fit peers e h small =
      let parts = all_parts (record_split rules.family) rules.family peers in
      all_both Fits (map state_record peers) (map part_record (enumerate_from 0 parts) ++ flat_map (update_records rules.family) peers) (states_fit peers h)
      (all_both Fits (map part_record (enumerate_from 0 parts)) (flat_map (update_records rules.family) peers) (numbered_fit 0 parts (omega (arith, small)) (parts_fit rules (length keys) few peers e h)) (updates_fit peers h))

pub dump_fits : (rules : RouteRules) (seconds : ℕ) (peers : List DumpedPeer) → seconds < 256 ^ 4 → FitsTables rules peers
    → FitsDump rules seconds (keys_of peers) (checkpoint_records (record_split rules.family) rules.family peers)
dump_fits rules seconds peers time h =
    let same : length (keys_of peers) ≡ length peers = length-map peers (λ p. p.key) in
    let few : length (keys_of peers) < 256 ^ 2 = omega (arith, same, h.few) in
    record {
      time = time;
      kinds = h.kinds;
      few = few;
      fit_peers = all_map (λ p. p.key) FitsPeerKey peers (all_so (FitsPeer rules) (λ p. FitsPeerKey p.key) (λ p k. k.key) peers h.each);
      each = records_fit rules seconds time (keys_of peers) few peers (sym same) h.each h.numbered;
    }
