-- The report of a request on the records of files, and what a run counts.
use Rattle.std.specs.Prelude.{◌≡◌, ℕ, ◌+◌, ◌-◌, ◌*◌, ◌/◌, ◌≤◌, ◌||◌, not, is_some, Bool, List, [], Option, Some, None, length, if◌then◌else◌}
use Rattle.std.specs.List.{flat_map}
use Rattle.peer_units.specs.declared.unit.Damage.{Damage}
use Rattle.peer_units.specs.Plain.{Unit as ReplayUnit}
use Rattle.mrt_body.specs.Units.{units_of, refused_of, records_of, aside_of}
use Rattle.adj_rib.specs.Churns.{stopped}
use Rattle.peer_tables.specs.declared.history.Listed.{Listed}
use Rattle.peer_tables.specs.declared.history.Listed.TheVariants.{Nothing, Changes, All}
use Rattle.peer_tables.specs.declared.history.Listing.{Listing}
use Rattle.peer_tables.specs.Histories.{PeerWatch, RowState, history_rows, watches_of}
use Rattle.peer_tables.specs.Peers.{peers_of}
use Rattle.peer_tables.specs.Tables.{TablesState, tables_of, chosen_tables, all_routes}
use Rattle.rib_report.specs.Reports.{route_rows, match_rows, visibility_rows, origin_rows, seen_rows, churn_rows, watch_churns, peer_rows, fault_rows}
use Rattle.rib_report.specs.Lines.{route_line, visibility_line, origin_line, seen_line, churn_line, peer_line, fault_line}
use Rattle.rib_report.specs.HistoryLines.{history_line}
use Rattle.peer_units.specs.Choices.{Choices, UnitSelection, chooses_all, choices_of}
use Rattle.lane_deal.specs.declared.plan.Plan.{Plan}
use Rattle.report_request.specs.Plain.{Layout, Request}
use Rattle.report_request.specs.declared.request.Request.TheVariants as request
use Rattle.replay_summary.specs.declared.summary.Summary.{Summary}

-- from when on what happened is counted, if a second, prefixes or routes are named: otherwise the tables counted it
abbrev pub counting_of : Option ℕ → Choices → Option Listing
counting_of since choices =
    if is_some since || not (chooses_all choices) then Some (record { since = since; listed = Nothing }) else None

-- what a history lists: announcements of the route that was there only if they are asked for
abbrev pub listed_by : Bool → Listed
listed_by same = if same then All else Changes

-- which of the things that happened are asked for, if a history is asked for, or counts of a part of them
abbrev pub listing_of : Request → Choices → Option Listing
listing_of request.Tables choices = None
listing_of request.Visibility choices = None
listing_of request.Origins choices = None
listing_of request.Seen choices = None
listing_of (request.Churn since) choices = counting_of since choices
listing_of request.Peers choices = None
listing_of (request.Match addr) choices = None
listing_of request.Faults choices = None
listing_of (request.History since same) choices = Some (record { since = since; listed = listed_by same })

-- the lines of a request's rows on tables; a history is none of tables
abbrev pub lines_of : Request → Layout → TablesState → List ℕ
lines_of request.Tables layout tables = flat_map (route_line layout) (route_rows tables)
lines_of request.Visibility layout tables = flat_map (visibility_line layout) (visibility_rows tables)
lines_of request.Origins layout tables = flat_map (origin_line layout) (origin_rows tables)
lines_of request.Seen layout tables = flat_map (seen_line layout) (seen_rows tables)
lines_of (request.Churn since) layout tables = flat_map (churn_line layout) (churn_rows tables)
lines_of request.Peers layout tables = flat_map (peer_line layout) (peer_rows tables)
lines_of (request.Match addr) layout tables =
    flat_map (route_line layout) (match_rows tables addr)
lines_of request.Faults layout tables = flat_map (fault_line layout) (fault_rows tables)
lines_of (request.History since same) layout tables = []

-- the lines of the rows of what happened, or where none is listed those of the counts of watches
abbrev pub told_lines : Layout → Listed → List RowState → List PeerWatch → List ℕ
told_lines layout Nothing rows watches = flat_map (churn_line layout) (watch_churns watches)
told_lines layout Changes rows watches = flat_map (history_line layout) rows
told_lines layout All rows watches = flat_map (history_line layout) rows

-- the lines of what happened to chosen prefixes and their chosen routes, in the order of units, or of its counts, or of
-- the rows on the tables that the units leave
abbrev pub text_by : Option Listing → Request → Layout → Choices → List ReplayUnit → List Damage → List ℕ
text_by None request layout choices units refused = lines_of request layout (chosen_tables choices (tables_of units refused))
text_by (Some listing) request layout choices units refused =
    told_lines layout listing.listed (history_rows listing choices units) (watches_of listing.since choices units)

-- the text of a request, in a layout, about the chosen prefixes and routes of units, and about refusals
unfoldable pub text : Request → Layout → Choices → List ReplayUnit → List Damage → List ℕ
text request layout choices units refused = text_by (listing_of request choices) request layout choices units refused

-- the report on files, in a layout, of a selection: workers, ring, batch, looks and dealing have no part in it
unfoldable pub report : Request → Layout → UnitSelection → List (List ℕ) → List ℕ
report request layout selection files =
    text request layout (choices_of selection) (units_of selection files) (refused_of selection files)

-- all faults that are listed
abbrev pub listed_faults : UnitSelection → List (List ℕ) → List Damage
listed_faults selection files = fault_rows (tables_of (units_of selection files) (refused_of selection files))

-- A round that deals fills a ring, deals a batch or is the last one, and one more settles. Each deals at most a batch.
pub record AreRounds (plan : Plan) (s : Summary) : Type 0 where
  pub few : s.rounds ≤ 2 * s.units / plan.ring + s.units / plan.batch + 2
  pub two : 2 ≤ s.rounds
  pub enough : s.units ≤ (s.rounds - 1) * plan.batch

-- what happened is listed and counted without rounds
abbrev pub RoundsOf : Option Listing → Plan → Summary → Type 0
RoundsOf None plan s = AreRounds plan s
RoundsOf (Some listing) plan s = s.rounds ≡ 0

-- What a run over files counts.
pub record IsSummary (request : Request) (selection : UnitSelection) (plan : Plan) (files : List (List ℕ)) (s : Summary) : Type 0 where
  pub records : s.records ≡ records_of files
  pub units : s.units ≡ length (units_of selection files)
  pub aside : s.aside ≡ aside_of selection files
  pub damaged : s.damaged ≡ stopped (length (listed_faults selection files))
  pub peers : s.peers ≡ length (peers_of (units_of selection files))
  pub routes : s.routes
      ≡ stopped (length (all_routes (chosen_tables (choices_of selection)
      (tables_of (units_of selection files) (refused_of selection files)))))
  pub rounds : RoundsOf (listing_of request (choices_of selection)) plan s
