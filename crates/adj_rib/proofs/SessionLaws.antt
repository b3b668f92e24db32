-- A session is a watch on all keys that counts from the beginning, beside whether it is established and how many units
-- came.
use Rattle.std.proofs.Common.{◌≡◌, Bool, true, false, List, [], ◌∷◌, ◌++◌, None, refl, sym, ap, ◌∙◌}
use Rattle.std.specs.FinMap as finite
use Rattle.bgp_prefix.specs.Keys.{RouteKey}
use Rattle.bgp_update.specs.declared.route.Route.{Route}
use Rattle.peer_units.specs.Choices.{every_choice}
use Rattle.peer_units.specs.Plain.{Unit as ReplayUnit}
use Rattle.adj_rib.specs.declared.arrivals.Arrivals.{Arrivals}
use Rattle.adj_rib.specs.Plain.{Note}
use Rattle.adj_rib.specs.Steps.{is_established, steps_of}
use Rattle.adj_rib.specs.Tables.{table_of}
use Rattle.adj_rib.specs.Churns.{churn_of, damaged_of, outcomes_of, reading_of}
use Rattle.adj_rib.specs.Arrived.{arrivals_of, no_arrivals, arrived_by}
use Rattle.adj_rib.specs.Sessions.{SessionState, session_of}
use Rattle.adj_rib.specs.Applied.{RibState, START, established_after, no_churn}
use Rattle.adj_rib.specs.Selecting.{chooses, selected_entries}
use Rattle.adj_rib.specs.Histories.{WatchState, WatchesFor, watch_of}
use Rattle.adj_rib.specs.Noting.{followed_noting, taken_noting}
use Rattle.adj_rib.proofs.TableLaws.{entries-IsTable, IsTable_start}
use Rattle.adj_rib.proofs.Taking.{arrived-push, is_established-push}
use Rattle.adj_rib.proofs.WatchLaws.{seen_as, whole_stands}
use Rattle.adj_rib.proofs.WindowLaws.{churn_within-all}

-- where no prefix is named, every entry is selected
pub open_entries : (table : List (RouteKey × Route)) → selected_entries (chooses []) table ≡ table
open_entries [] = refl
open_entries (e ∷ table) = ap (λ (l : List (RouteKey × Route)). e ∷ l) (open_entries table)

abbrev pub session_with : RibState → Arrivals → Bool → SessionState
session_with k arrivals spent = record { up = k.up; established = k.established; table = finite.entries k.table; churn = k.churn; arrivals = arrivals; faults = k.faults; spent = spent }

as_watch : (units : List ReplayUnit) (k : RibState) (arrivals : Arrivals) (spent : Bool) → session_with k arrivals spent ≡ session_of units → WatchesFor None every_choice units (seen_as k k.churn)
unfolding session_of watch_of
as_watch units k arrivals spent h =
    let table = ap (λ (s : SessionState). s.table) h ∙ sym (open_entries (table_of (steps_of units))) in
    let churn = ap (λ (s : SessionState). s.churn) h ∙ sym (churn_within-all units) in
    λ i. record { up = (h i).up; table = table i; churn = churn i; faults = (h i).faults }

-- a session that stands for units stands for one more after it has taken it
module _ {K : Type 0} (keep : K → Note → K) (before : List ReplayUnit) (unit : ReplayUnit) (k now : RibState) (kept told : K) (e : (now, told) ≡ taken_noting keep (λ _. true) (k, kept) unit) where
  established_then : k.established ≡ is_established before → now.established ≡ is_established (before ++ unit ∷ [])
  unfolding taken_noting followed_noting
  established_then was = ap (λ (s : RibState × K). s.0.established) e ∙ ap (λ b. established_after b (reading_of unit)) was ∙ sym (is_established-push before unit)

  pub session_after : (arrivals came : Arrivals) (spent : Bool) → spent ≡ false → session_with k arrivals spent ≡ session_of before → came ≡ arrived_by unit arrivals → session_with now came spent ≡ session_of (before ++ unit ∷ [])
  unfolding session_of watch_of
  session_after arrivals came spent unspent h counted =
      let after = before ++ unit ∷ [] in
      let watch : WatchesFor None every_choice after (seen_as now now.churn) = whole_stands keep before unit k now kept told e (as_watch before k arrivals spent h) in
      let established = established_then (ap (λ (s : SessionState). s.established) h) in
      let table = ap (λ (w : WatchState). w.table) watch ∙ open_entries (table_of (steps_of after)) in
      let churn = ap (λ (w : WatchState). w.churn) watch ∙ churn_within-all after in
      let arrived = counted ∙ ap (λ (s : SessionState). arrived_by unit s.arrivals) h ∙ arrived-push before unit in
      λ i. record { up = (watch i).up; established = established i; table = table i; churn = churn i; arrivals = arrived i; faults = (watch i).faults; spent = unspent i }

pub session_at_start : session_with START no_arrivals false ≡ session_of []
unfolding session_of steps_of outcomes_of churn_of arrivals_of damaged_of
session_at_start = λ i. record { up = true; established = true; table = entries-IsTable [] finite.empty IsTable_start i; churn = no_churn; arrivals = no_arrivals; faults = []; spent = false }
