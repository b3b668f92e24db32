-- What is written of the tables of units is the checkpoint of these units, if no route is left out.
use Rattle.std.proofs.Common.{◌≡◌, ℕ, ◌+◌, Bool, true, false, cond, not, List, [], ◌∷◌, ◌++◌, map, refl, ap}
use Rattle.std.specs.List.{filter, flat_map, enumerate_from}
use Rattle.bgp_prefix.specs.Keys.{RouteKey}
use Rattle.bgp_update.specs.declared.route.Route.{Route}
use Rattle.bgp_update.specs.Families.{FamilyOf}
use Rattle.peer_units.specs.declared.state_rule.StateRule.{StateRule}
use Rattle.peer_units.specs.declared.unit.Damage.{Damage}
use Rattle.peer_units.specs.declared.unit.PeerKey.{PeerKey}
use Rattle.peer_units.specs.Choices.{UnitSelection}
use Rattle.peer_units.specs.Plain.{Unit as ReplayUnit}
use Rattle.adj_rib.specs.Steps.{is_up, is_established, steps_of}
use Rattle.adj_rib.specs.Tables.{table_of}
use Rattle.adj_rib.specs.Sessions.{session_of}
use Rattle.peer_tables.specs.Peers.{peers_of, units_of_peer}
use Rattle.peer_tables.specs.Tables.{Seat, tables_of}
use Rattle.mrt_writing.specs.Records.{records_bytes}
use Rattle.mrt_writing.specs.Dumps.{dump_records}
use Rattle.table_dumps.specs.Dumped.{is_as}
use Rattle.table_dumps.specs.Checkpoints.{DumpedPeer, keys_of, record_split, checkpoint_records}
use Rattle.table_dumps.specs.Cutting.{dumped_peer, latest_second, checkpoint_bytes}
use Rattle.checkpoint_writing.specs.Merging.{Entries}
use Rattle.checkpoint_writing.specs.Leaving.{is_short, left_entries, written_peer_of, written_peers, written_checkpoint}

none_of_both : {A : Type 0} (xs ys : List A) → xs ++ ys ≡ [] → (xs ≡ []) × (ys ≡ [])
none_of_both [] ys h = (refl, h)
none_of_both (x ∷ xs) ys h = absurd cc

abbrev key_at : PeerKey → RouteKey × Route → PeerKey × RouteKey
key_at key x = (key, x.0)

all_short : (family : FamilyOf) (key : PeerKey) (es : Entries) → map (key_at key) (filter (λ (x : RouteKey × Route). not (is_short family x)) es) ≡ [] → filter (is_short family) es ≡ es
all_short family key [] h = refl
all_short family key (e ∷ es) h = by_test (is_short family e) h (λ k. all_short family key es k)
  where
    by_test : (b : Bool) → map (key_at key) (cond (not b) (e ∷ filter (λ (x : RouteKey × Route). not (is_short family x)) es) (filter (λ (x : RouteKey × Route). not (is_short family x)) es)) ≡ []
        → (map (key_at key) (filter (λ (x : RouteKey × Route). not (is_short family x)) es) ≡ [] → filter (is_short family) es ≡ es)
        → cond b (e ∷ filter (is_short family) es) (filter (is_short family) es) ≡ e ∷ es
    by_test true k more = ap (λ (l : Entries). e ∷ l) (more k)
    by_test false k more = absurd cc

module _ (rule : StateRule) (family : FamilyOf) (units : List ReplayUnit) where
  abbrev seat_at : ℕ × PeerKey → Seat
  seat_at e = record { number = e.0; key = e.1; session = session_of (units_of_peer units e.1) }

  peer_is : (n : ℕ) (q : PeerKey) → left_entries family (seat_at (n, q)) ≡ [] → written_peer_of rule family (seat_at (n, q)) ≡ dumped_peer rule units q
  unfolding session_of
  peer_is n q h =
      let own = units_of_peer units q in
      λ i. record { key = q; up = is_as rule (is_up own) (is_established own); table = all_short family q (table_of (steps_of own)) h i }

  peers_are : (n : ℕ) (keys : List PeerKey) → flat_map (left_entries family) (map seat_at (enumerate_from n keys)) ≡ [] → written_peers rule family (map seat_at (enumerate_from n keys)) ≡ map (dumped_peer rule units) keys
  peers_are n [] h = refl
  peers_are n (q ∷ keys) h =
      let both = none_of_both (left_entries family (seat_at (n, q))) (flat_map (left_entries family) (map seat_at (enumerate_from (n + 1) keys))) h in
      λ i. peer_is n q both.0 i ∷ peers_are (n + 1) keys both.1 i

pub written_is : (selection : UnitSelection) (units : List ReplayUnit) (refused : List Damage) → flat_map (left_entries selection.rules.family) (tables_of units refused).seats ≡ []
    → written_checkpoint selection.states selection.rules.family (latest_second units) (tables_of units refused).seats ≡ checkpoint_bytes selection units
unfolding written_checkpoint checkpoint_bytes tables_of
written_is selection units refused h =
    let family = selection.rules.family in
    ap (λ (peers : List DumpedPeer). records_bytes (dump_records family (latest_second units) (keys_of peers) (checkpoint_records (record_split family) family peers)))
    (peers_are selection.states family units 0 (peers_of units) h)
