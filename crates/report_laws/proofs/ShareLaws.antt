-- Reports of a share of the peers beside those of all.
use Rattle.std.proofs.Common.{◌≡◌, ℕ, ◌+◌, Bool, true, false, cond, List, [], ◌∷◌, ◌++◌, refl, sym, ap, ◌∙◌, map, arith}
use Rattle.std.specs.Prelude.{not}
use Rattle.std.specs.List.{flat_map, filter, count_by}
use Rattle.std.specs.Ordering.{is_lt}
use Rattle.std.proofs.lemmas.List.Elements.{filter-append}
use Rattle.std.proofs.lemmas.List.Sums.{sum_by-cons, sum_by-append}
use Rattle.bgp_prefix.specs.Keys.{RouteKey}
use Rattle.bgp_update.specs.declared.route.Route.{Route}
use Rattle.peer_units.specs.declared.unit.Damage.{Damage}
use Rattle.peer_units.specs.declared.unit.PeerKey.{PeerKey}
use Rattle.peer_tables.specs.Tables.{Seat, TablesState, all_faults}
use Rattle.rib_report.specs.Rows.{TableRow}
use Rattle.rib_report.specs.Reports.{entry_row, place_cmp, placed, in_place_order, fault_rows}
use Rattle.report_laws.specs.Parts.{share_of, rest_of}

-- ---- counts

-- of those that pass a test, some are in a share and the others are not
pub count_of_shares : {X : Type 0} (p is_in : X → Bool) (xs : List X) → count_by p (filter is_in xs) + count_by p (filter (λ x. not (is_in x)) xs) ≡ count_by p xs
count_of_shares p is_in [] = refl
count_of_shares p is_in (x ∷ xs) =
    let first = filter is_in xs in
    let others = filter (λ y. not (is_in y)) xs in
    let later = count_of_shares p is_in xs in
    let one = sum_by-cons (λ y. cond (p y) 1 0) in
    elim (is_in x) as (λ b. count_by p (cond b (x ∷ first) first) + count_by p (cond (not b) (x ∷ others) others) ≡ count_by p (x ∷ xs)) [
      | true ↦ omega (arith, one x first, one x xs, later)
      | false ↦ omega (arith, one x others, one x xs, later)
    ]

-- ---- rows of peers

-- rows that all pass a test, or all don't
rows_alike : {X Y : Type 0} (f : X → Y) (p : Y → Bool) (b : Bool) → ((x : X) → p (f x) ≡ b) → (xs : List X) → filter p (map f xs) ≡ cond b (map f xs) []
rows_alike f p true same [] = refl
rows_alike f p false same [] = refl
rows_alike f p true same (x ∷ xs) = ap (λ c. cond c (f x ∷ filter p (map f xs)) (filter p (map f xs))) (same x) ∙ ap (λ l. f x ∷ l) (rows_alike f p true same xs)
rows_alike f p false same (x ∷ xs) = ap (λ c. cond c (f x ∷ filter p (map f xs)) (filter p (map f xs))) (same x) ∙ rows_alike f p false same xs

-- the rows of one peer's entries are all in a share, or all out of it
pub entries_alike : (is_in : PeerKey → Bool) (peer : PeerKey) (entries : List (RouteKey × Route))
    → filter (λ (row : TableRow). is_in row.peer) (map (entry_row peer) entries) ≡ cond (is_in peer) (map (entry_row peer) entries) []
entries_alike is_in peer entries = rows_alike (entry_row peer) (λ (row : TableRow). is_in row.peer) (is_in peer) (λ e. refl) entries

-- what the seats of a share give is what their peers have of what all give
pub pieces_of_share : {Y : Type 0} (is_in : PeerKey → Bool) (g : Seat → List Y) (p : Y → Bool) → ((seat : Seat) → filter p (g seat) ≡ cond (is_in seat.key) (g seat) [])
    → (seats : List Seat) → flat_map g (filter (λ seat. is_in seat.key) seats) ≡ filter p (flat_map g seats)
pieces_of_share is_in g p own [] = refl
pieces_of_share is_in g p own (seat ∷ seats) =
    let later : List Seat = filter (λ s. is_in s.key) seats in
    elim (is_in seat.key) as (λ b. flat_map g (cond b (seat ∷ later) later) ≡ cond b (g seat) [] ++ flat_map g later) [ true ↦ refl | false ↦ refl ]
    ∙ ap (λ l. cond (is_in seat.key) (g seat) [] ++ l) (pieces_of_share is_in g p own seats)
    ∙ ap (λ l. l ++ filter p (flat_map g seats)) (sym (own seat))
    ∙ sym (filter-append p (g seat) (flat_map g seats))

-- ---- faults

abbrev one_if : (Damage → Bool) → Damage → ℕ
one_if q d = cond (q d) 1 0

count_of_pieces : (q : Damage → Bool) (g : Seat → List Damage) (is_in : Seat → Bool) (seats : List Seat)
    → count_by q (flat_map g (filter is_in seats)) + count_by q (flat_map g (filter (λ s. not (is_in s)) seats)) ≡ count_by q (flat_map g seats)
count_of_pieces q g is_in [] = refl
count_of_pieces q g is_in (seat ∷ seats) =
    let first : List Seat = filter is_in seats in
    let others : List Seat = filter (λ s. not (is_in s)) seats in
    let later = count_of_pieces q g is_in seats in
    let more = sum_by-append (one_if q) (g seat) in
    elim (is_in seat) as (λ b. count_by q (flat_map g (cond b (seat ∷ first) first)) + count_by q (flat_map g (cond (not b) (seat ∷ others) others)) ≡ count_by q (flat_map g (seat ∷ seats))) [
      | true ↦ omega (arith, more (flat_map g first), more (flat_map g seats), later)
      | false ↦ omega (arith, more (flat_map g others), more (flat_map g seats), later)
    ]

count_placed : (q : Damage → Bool) (d : Damage) (ds : List Damage) → count_by q (placed d ds) ≡ count_by q (d ∷ ds)
count_placed q d [] = refl
count_placed q d (e ∷ es) =
    let one = sum_by-cons (one_if q) in
    elim (is_lt (place_cmp e.place d.place)) as (λ b. count_by q (cond b (e ∷ placed d es) (d ∷ e ∷ es)) ≡ count_by q (d ∷ e ∷ es)) [
      | true ↦ omega (arith, one e (placed d es), count_placed q d es, one d es, one d (e ∷ es), one e es)
      | false ↦ refl
    ]

-- to put faults in order changes no count
count_in_order : (q : Damage → Bool) (ds : List Damage) → count_by q (in_place_order ds) ≡ count_by q ds
count_in_order q [] = refl
count_in_order q (d ∷ ds) =
    let one = sum_by-cons (one_if q) in
    omega (arith, count_placed q d (in_place_order ds), one d (in_place_order ds), one d ds, count_in_order q ds)

-- a peer's faults are in one share, and the refusals in both
pub count_of_faults : (q : Damage → Bool) (is_in : PeerKey → Bool) (tables : TablesState)
    → count_by q (fault_rows (share_of is_in tables)) + count_by q (fault_rows (rest_of is_in tables)) ≡ count_by q (fault_rows tables) + count_by q tables.refused
count_of_faults q is_in tables =
    let faults : Seat → List Damage = λ s. s.session.faults in
    let share : List Seat = filter (λ s. is_in s.key) tables.seats in
    let rest : List Seat = filter (λ s. not (is_in s.key)) tables.seats in
    let behind = sum_by-append (one_if q) tables.refused in
    omega (
      arith,
      count_in_order q (all_faults (share_of is_in tables)),
      count_in_order q (all_faults (rest_of is_in tables)),
      count_in_order q (all_faults tables),
      behind (flat_map faults share),
      behind (flat_map faults rest),
      behind (flat_map faults tables.seats),
      count_of_pieces q faults (λ s. is_in s.key) tables.seats,
    )
