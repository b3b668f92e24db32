-- Reports on tables that stand for units and refusals, over these alone.
use Rattle.std.proofs.Common.{◌≡◌, ℕ, ◌+◌, Bool, cond, List, [], ◌∷◌, ◌++◌, Option, refl, ap, ◌∙◌, subst, sym, map}
use Rattle.std.specs.List.{flat_map, filter, filter_map, count_by}
use Rattle.std.proofs.lemmas.List.Sums.{sum_by-cons}
use Rattle.bgp_prefix.specs.Prefixes.{IpPrefix, prefix_cmp}
use Rattle.bgp_prefix.specs.Ordered.{in_order}
use Rattle.peer_units.specs.declared.unit.Damage.{Damage}
use Rattle.peer_units.specs.declared.unit.PeerKey.{PeerKey}
use Rattle.peer_units.specs.Plain.{Unit as ReplayUnit}
use Rattle.adj_rib.specs.Sessions.{session_of}
use Rattle.adj_rib.specs.Arrived.{arrivals_of}
use Rattle.adj_rib.specs.Churns.{churn_of, damaged_of}
use Rattle.peer_tables.specs.Peers.{peers_of, units_of_peer}
use Rattle.peer_tables.specs.Tables.{Seat, TablesState, tables_of}
use Rattle.peer_tables.specs.Standing.{AreTablesOf}
use Rattle.rib_report.specs.declared.reports.churn.ChurnRow.{ChurnRow}
use Rattle.rib_report.specs.Reports.{entry_row, is_longest, origin_pair, grouped_origins, has_several, in_place_order, rows_of_seat, matches_of_seat, seat_prefixes, is_visible_at, seat_origins, prefix_origin_cmp, seat_prefix_origins, is_seen_at, peer_churn, peer_row}
use Rattle.report_laws.specs.UnitReports.{table_at, peer_at, prefixes_at, is_visible, prefix_origins_at, is_seen, HasReportsOf}
use Rattle.peer_tables.proofs.StandingLaws.{peer_seat, seats_from, AreTablesOf-only}

module _ (units : List ReplayUnit) where
  -- what each peer's seat gives, peer after peer, whatever the numbers
  pieces_of_peers : {Y : Type 0} (g : Seat → List Y) (f : PeerKey → List Y) → ((n : ℕ) (q : PeerKey) → g (peer_seat units (n, q)) ≡ f q)
      → (n : ℕ) (qs : List PeerKey) → flat_map g (seats_from units n qs) ≡ flat_map f qs
  pieces_of_peers g f same n [] = refl
  pieces_of_peers g f same n (q ∷ qs) = ap (λ l. l ++ flat_map g (seats_from units (n + 1) qs)) (same n q) ∙ ap (λ l. f q ++ l) (pieces_of_peers g f same (n + 1) qs)

  rows_of_peers : {Y : Type 0} (g : Seat → Y) (f : PeerKey → Y) → ((n : ℕ) (q : PeerKey) → g (peer_seat units (n, q)) ≡ f q)
      → (n : ℕ) (qs : List PeerKey) → map g (seats_from units n qs) ≡ map f qs
  rows_of_peers g f same n [] = refl
  rows_of_peers g f same n (q ∷ qs) = ap (λ y. y ∷ map g (seats_from units (n + 1) qs)) (same n q) ∙ ap (λ l. f q ∷ l) (rows_of_peers g f same (n + 1) qs)

  count_of_peers : (g : Seat → Bool) (f : PeerKey → Bool) → ((n : ℕ) (q : PeerKey) → g (peer_seat units (n, q)) ≡ f q)
      → (n : ℕ) (qs : List PeerKey) → count_by g (seats_from units n qs) ≡ count_by f qs
  count_of_peers g f same n [] = refl
  count_of_peers g f same n (q ∷ qs) =
      sum_by-cons (λ s. cond (g s) 1 0) (peer_seat units (n, q)) (seats_from units (n + 1) qs)
      ∙ ap (λ b. cond b 1 0 + count_by g (seats_from units (n + 1) qs)) (same n q) ∙ ap (λ m. cond (f q) 1 0 + m) (count_of_peers g f same (n + 1) qs)
      ∙ sym (sum_by-cons (λ p. cond (f p) 1 0) q qs)

  prefixes : flat_map seat_prefixes (seats_from units 0 (peers_of units)) ≡ flat_map (prefixes_at units) (peers_of units)
  unfolding session_of
  prefixes = pieces_of_peers seat_prefixes (prefixes_at units) (λ n q. refl) 0 (peers_of units)

  visible_at : (p : IpPrefix) → count_by (is_visible_at p) (seats_from units 0 (peers_of units)) ≡ count_by (is_visible units p) (peers_of units)
  unfolding session_of
  visible_at p = count_of_peers (is_visible_at p) (is_visible units p) (λ n q. refl) 0 (peers_of units)

  prefix_origins : flat_map seat_prefix_origins (seats_from units 0 (peers_of units)) ≡ flat_map (prefix_origins_at units) (peers_of units)
  unfolding session_of
  prefix_origins = pieces_of_peers seat_prefix_origins (prefix_origins_at units) (λ n q. refl) 0 (peers_of units)

  seen_at : (e : IpPrefix × Option ℕ) → count_by (is_seen_at e) (seats_from units 0 (peers_of units)) ≡ count_by (is_seen units e) (peers_of units)
  unfolding session_of
  seen_at e = count_of_peers (is_seen_at e) (is_seen units e) (λ n q. refl) 0 (peers_of units)

  churn_at : PeerKey → ChurnRow
  churn_at q = record { peer = q; churn = churn_of (units_of_peer units q) }

pub HasReportsOf-tables_of : (units : List ReplayUnit) (refused : List Damage) → HasReportsOf units refused (tables_of units refused)
unfolding tables_of session_of arrivals_of churn_at
HasReportsOf-tables_of units refused =
    let peers : List PeerKey = peers_of units in
    let shown : flat_map seat_prefixes (seats_from units 0 peers) ≡ flat_map (prefixes_at units) peers = prefixes units in
    let origins_shown : flat_map seat_prefix_origins (seats_from units 0 peers) ≡ flat_map (prefix_origins_at units) peers = prefix_origins units in
    record {
      routes = pieces_of_peers units rows_of_seat (λ q. map (entry_row q) (table_at units q)) (λ n q. refl) 0 peers;
      matches = λ addr. pieces_of_peers units (matches_of_seat addr) (λ q. map (entry_row q) (filter (is_longest addr (table_at units q)) (table_at units q))) (λ n q. refl) 0 peers;
      visibility = λ i. map (λ p. record { prefix = p; peers = visible_at units p i }) (in_order prefix_cmp (shown i));
      origins = ap (λ pairs. filter has_several (grouped_origins pairs)) (pieces_of_peers units seat_origins (λ q. filter_map origin_pair (table_at units q)) (λ n q. refl) 0 peers);
      seen = λ i. map (λ e. record { prefix = e.0; origin = e.1; peers = seen_at units e i }) (in_order prefix_origin_cmp (origins_shown i));
      churn = rows_of_peers units peer_churn (churn_at units) (λ n q. refl) 0 peers;
      peers = rows_of_peers units peer_row (peer_at units) (λ n q. refl) 0 peers;
      faults = ap (λ listed. in_place_order (refused ++ listed)) (pieces_of_peers units (λ s. s.session.faults) (λ q. damaged_of (units_of_peer units q)) (λ n q. refl) 0 peers);
    }

pub HasReportsOf-standing : (tables : TablesState) (units : List ReplayUnit) (refused : List Damage) → AreTablesOf tables units refused → HasReportsOf units refused tables
HasReportsOf-standing tables units refused h = subst (HasReportsOf units refused) (sym (AreTablesOf-only tables units refused h)) (HasReportsOf-tables_of units refused)

pub same_tables : (one other : TablesState) (units : List ReplayUnit) (refused : List Damage) → AreTablesOf one units refused → AreTablesOf other units refused → one ≡ other
same_tables one other units refused a b = AreTablesOf-only one units refused a ∙ sym (AreTablesOf-only other units refused b)
