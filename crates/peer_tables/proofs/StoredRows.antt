-- Rows stay what they are as routes are added to their block.
use Rattle.std.proofs.Common.{◌≡◌, ℕ, Some, List, [], ◌∷◌, map, refl, ap}
use Rattle.std.specs.List.{All}
use Rattle.std.proofs.lemmas.List.Elements.{All-head, All-tail, All-weaker}
use Rattle.bgp_prefix.specs.Prefixes.{IpPrefix}
use Rattle.bgp_update.specs.declared.route.Route.{Route}
use Rattle.adj_rib.specs.Routes.{StaysNamed}
use Rattle.peer_tables.specs.declared.history.StoredRow.{StoredRow}
use Rattle.peer_tables.specs.declared.history.StoredRow.TheVariants.{Routed, Routeless}
use Rattle.peer_tables.specs.Histories.{RowState}
use Rattle.peer_tables.specs.Watching.{IsStored, row_in}

module _ (before after : List ℕ) (stays : StaysNamed before after) where
  stored_still : (row : StoredRow IpPrefix) → IsStored before row → IsStored after row
  stored_still (Routed by what key route time peer) h = (stays route.at h).0
  stored_still (Routeless by what key time peer) h = tt

  same_row : (row : StoredRow IpPrefix) → IsStored before row → row_in after row ≡ row_in before row
  same_row (Routed by what key route time peer) h = ap (λ (r : Route). row_in_of r) (stays route.at h).1 where
    row_in_of : Route → RowState
    row_in_of r = record { time = time; peer = peer; by = by; what = what; key = key; route = Some r }
  same_row (Routeless by what key time peer) h = refl

  pub all_stored : (rows : List (StoredRow IpPrefix)) → All (IsStored before) rows → All (IsStored after) rows
  all_stored rows h = All-weaker (IsStored before) (IsStored after) stored_still rows h

  pub same_rows : (rows : List (StoredRow IpPrefix)) → All (IsStored before) rows → map (row_in after) rows ≡ map (row_in before) rows
  same_rows [] h = refl
  same_rows (row ∷ rows) h = λ i. same_row row (All-head (IsStored before) row rows h) i ∷ same_rows rows (All-tail (IsStored before) row rows h) i
