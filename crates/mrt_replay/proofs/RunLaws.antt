-- A run: its report, what it counts, and how it stops.
use Rattle.std.proofs.Common.{◌≡◌, ◌⊎◌, inl, inr, ℕ, ◌+◌, ◌-◌, ◌^◌, true, false, cond, min, List, [], ◌∷◌, ◌++◌, map, Option, None, Result, Ok, Err, refl, sym, ap, ◌∙◌, subst, arith, length, is_err, OnOk}
use Rattle.std.specs.List.{enumerate_from, flat_map}
use Rattle.std.specs.Io.KnownBytes.{Appends, Keeps}
use Rattle.std.specs.Ordering.{is_lt}
use Rattle.std.proofs.lemmas.Bool.{cases_lt}
use Rattle.std.proofs.lemmas.List.{length-map, take_all}
use Rattle.std.proofs.lemmas.List.FromFn.{length-enumerate_from}
use Rattle.mrt_frame.specs.Devices.{CountsFailure, HasFailed}
use Rattle.mrt_frame.specs.Writes.{WritesFront}
use Rattle.mrt_frame.specs.declared.error.ReplayError.{ReplayError}
use Rattle.mrt_frame.specs.declared.error.ReplayError.TheVariants as errors
use Rattle.peer_units.specs.Choices.{Choices, UnitSelection, choices_of}
use Rattle.peer_units.specs.declared.unit.Damage.{Damage}
use Rattle.peer_units.specs.Plain.{Unit as ReplayUnit}
use Rattle.mrt_body.specs.Units.{units_of, refused_of}
use Rattle.adj_rib.specs.Churns.{stopped}
use Rattle.peer_tables.specs.declared.history.Listing.{Listing}
use Rattle.peer_tables.specs.Peers.{peers_of}
use Rattle.peer_tables.specs.Tables.{Seat, TablesState, tables_of, chosen_seat, chosen_tables, all_faults, all_routes}
use Rattle.rib_report.specs.Reports.{place_cmp, placed, in_place_order}
use Rattle.report_request.specs.Plain.{Layout, Request}
use Rattle.mrt_replay.specs.Reports.{lines_of, listing_of, text_by, text, report, listed_faults}
use Rattle.std.proofs.KnownBytes.{Keeps-refl}
use Rattle.mrt_replay.specs.Premises.{AreHonest}
use Rattle.history_replay.specs.FilesTaken.{StopsReplay}
use Rattle.mrt_replay.specs.Headline.{RunState, IsStopped}

-- the tables of the chosen prefixes of files
abbrev of_files : UnitSelection → List (List ℕ) → TablesState
of_files selection files = tables_of (units_of selection files) (refused_of selection files)

-- the lines on tables that stand for the files are the report
pub lines_are_report : (request : Request) (layout : Layout) (selection : UnitSelection) (files : List (List ℕ)) (tables : TablesState) → listing_of request (choices_of selection) ≡ None → tables ≡ chosen_tables (choices_of selection) (tables_of (units_of selection files) (refused_of selection files)) → lines_of request layout tables ≡ report request layout selection files
unfolding report text
lines_are_report request layout selection files tables none stands =
    ap (lines_of request layout) stands ∙ sym (ap (λ (l : Option Listing). text_by l request layout (choices_of selection) (units_of selection files) (refused_of selection files)) none)

-- ---- counts

length_placed : (d : Damage) (ds : List Damage) → length (placed d ds) ≡ length ds + 1
length_placed d [] = refl
length_placed d (e ∷ ds) =
    elim (is_lt (place_cmp e.place d.place)) as (λ b. length (cond b (e ∷ placed d ds) (d ∷ e ∷ ds)) ≡ length (e ∷ ds) + 1) [
      | true ↦ let later = length_placed d ds in omega (arith, later)
      | false ↦ omega arith
    ]

pub length_in_order : (ds : List Damage) → length (in_place_order ds) ≡ length ds
length_in_order [] = refl
length_in_order (d ∷ ds) = let later = length_in_order ds in omega (arith, length_placed d (in_place_order ds), later)

same_faults : (choices : Choices) (seats : List Seat) → flat_map (λ s. s.session.faults) (map (chosen_seat choices) seats) ≡ flat_map (λ s. s.session.faults) seats
same_faults choices [] = refl
same_faults choices (s ∷ seats) = ap (λ l. s.session.faults ++ l) (same_faults choices seats)

pub damaged_counted : (selection : UnitSelection) (files : List (List ℕ)) (tables : TablesState) (n : ℕ) → tables ≡ chosen_tables (choices_of selection) (tables_of (units_of selection files) (refused_of selection files)) → n ≡ min (length (all_faults tables)) (2 ^ 64 - 1) → n ≡ stopped (length (listed_faults selection files))
damaged_counted selection files tables n stands count =
    count ∙ ap (λ t. stopped (length (all_faults t))) stands
    ∙ ap (λ l. stopped (length ((of_files selection files).refused ++ l))) (same_faults (choices_of selection) (of_files selection files).seats)
    ∙ ap stopped (sym (length_in_order (all_faults (tables_of (units_of selection files) (refused_of selection files)))))

pub routes_counted : (selection : UnitSelection) (files : List (List ℕ)) (tables : TablesState) (n : ℕ) → tables ≡ chosen_tables (choices_of selection) (tables_of (units_of selection files) (refused_of selection files)) → n ≡ min (length (all_routes tables)) (2 ^ 64 - 1) → n ≡ stopped (length (all_routes (chosen_tables (choices_of selection) (tables_of (units_of selection files) (refused_of selection files)))))
routes_counted selection files tables n stands count = count ∙ ap (λ t. stopped (length (all_routes t))) stands

pub peers_counted : (choices : Choices) (units : List ReplayUnit) (refused : List Damage) (tables : TablesState) (n : ℕ) → tables ≡ chosen_tables choices (tables_of units refused) → n ≡ length tables.seats → n ≡ length (peers_of units)
unfolding tables_of
peers_counted choices units refused tables n stands count = count ∙ ap (λ (t : TablesState). length t.seats) stands ∙ length-map (tables_of units refused).seats (chosen_seat choices) ∙ length-map (enumerate_from 0 (peers_of units)) _ ∙ length-enumerate_from 0 (peers_of units)

-- ---- writing that fails

risen : (a b : ℕ) → b ≡ min (a + 1) (2 ^ 64 - 1) → HasFailed a b
risen a b e = elim (cases_lt a (2 ^ 64 - 1)) [ inl h ↦ inl (omega (arith, e, h)) | inr h ↦ inr h ]

pub flush_failed : {T E : Type 0} (result : Result T E) (start before after : ℕ) → before ≡ start → is_err result ≡ true → CountsFailure before after result → HasFailed start after
flush_failed (Ok x) start before after same failed counted = let clash : false ≡ true = failed in absurd cc
flush_failed (Err e) start before after same failed counted = subst (λ n. HasFailed n after) same (risen before after counted)

-- a flush that doesn't fail leaves the writer flushed
pub flush_succeeded : {T E P : Type 0} (result : Result T E) → is_err result ≡ false → OnOk result P → P
flush_succeeded (Ok x) succeeded h = h
flush_succeeded (Err e) succeeded h = let clash : true ≡ false = succeeded in absurd cc

-- and raises no count
pub flush_unfailed : {T E : Type 0} (result : Result T E) (before after : ℕ) → is_err result ≡ false → CountsFailure before after result → after ≡ before
flush_unfailed (Ok x) before after succeeded counted = counted
flush_unfailed (Err e) before after succeeded counted = let clash : true ≡ false = succeeded in absurd cc

-- all of a text is a front of it
pub front_whole : (old new : Option (List ℕ)) (bytes : List ℕ) → Appends old new bytes → WritesFront old new bytes
front_whole old new bytes h = (length bytes, omega arith, subst (Appends old new) (sym (take_all (length bytes) bytes (omega arith))) h)

kept : (old new : Option (List ℕ)) → new ≡ old → Keeps old new
kept old new same = subst (Keeps old) (sym same) (Keeps-refl old)

-- the two errors of writing a report
pub stops_writing : (run : RunState) (e : ReplayError) → (e ≡ errors.Memory) ⊎ (e ≡ errors.Write)
    → (e ≡ errors.Memory → Keeps run.held run.held_after) → (e ≡ errors.Write → HasFailed run.writer run.writer_after)
    → ((files : List (List ℕ)) → AreHonest run.told files → e ≡ errors.Write → WritesFront run.held run.held_after (report run.request run.layout run.selection files)) → IsStopped run e
stops_writing run e (inl memory) keeps failed front = subst (IsStopped run) (sym memory) (keeps memory)
stops_writing run e (inr write) keeps failed front = subst (IsStopped run) (sym write) (failed write, λ files honest. front files honest write)

-- why a replay stops is why a run stops
pub stops_reading : (run : RunState) (e : ReplayError) → run.held_after ≡ run.held → StopsReplay run.plan.max_records run.told run.readers run.readers_after e → IsStopped run e
stops_reading run (errors.Read file) same s = (s.0, s.1, kept run.held run.held_after same)
stops_reading run errors.Write same s = absurd s
stops_reading run errors.Memory same s = kept run.held run.held_after same
stops_reading run errors.Records same s = (λ files honest within. let more = s files honest.readers_tell in omega (arith, more, within), kept run.held run.held_after same)
stops_reading run errors.Spent same s = s
