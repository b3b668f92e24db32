-- The last note of a key of a peer says which route the key has in the peer's table.
use Rattle.std.proofs.Common.{◌≡◌, ◌≢◌, ℕ, ◌&&◌, not, Bool, true, false, cond, List, [], ◌∷◌, ◌++◌, map, Option, Some, None, refl, sym, ◌∙◌, ap, append_assoc, append-nil}
use Rattle.std.specs.Prelude.{if◌then◌else◌, unwrap_or}
use Rattle.std.specs.List.{cons_option, filter, filter_map, last_or}
use Rattle.std.specs.FinMap.Entries.{find}
use Rattle.std.proofs.lemmas.List.Elements.{filter-append, filter_agree, filter_map-append}
use Rattle.bgp_prefix.specs.Keys.{RouteKey, key_cmp, key_eq}
use Rattle.bgp_prefix.proofs.KeySearches.{key_tied, same_key}
use Rattle.bgp_update.specs.declared.route.Route.{Route}
use Rattle.bgp_update.specs.Equality.{route_eq}
use Rattle.bgp_update.proofs.RouteEquality.{same_route}
use Rattle.mrt_frame.specs.Positions.{flat_map_after}
use Rattle.peer_units.specs.declared.unit.PeerKey.{PeerKey}
use Rattle.peer_units.specs.Plain.{PrefixChoice, Unit as ReplayUnit}
use Rattle.peer_units.specs.Choices.{UnitSelection}
use Rattle.mrt_body.specs.Units.{units_of}
use Rattle.adj_rib.specs.Plain.{Note}
use Rattle.adj_rib.specs.declared.outcome.What.TheVariants.{Changed, Same}
use Rattle.adj_rib.specs.Steps.{Step, break, clear, announce, withdraw, is_up, steps_of, unit_steps}
use Rattle.adj_rib.specs.Tables.{route_at, table_of}
use Rattle.adj_rib.specs.Selecting.{chooses}
use Rattle.adj_rib.specs.Histories.{announced_note, is_before, lost_note, noted_after, noted_behind, unit_notes, what_over, what_without, withdrawn_note}
use Rattle.adj_rib.proofs.After.{steps_of-push}
use Rattle.adj_rib.proofs.Positions.{after_both}
use Rattle.adj_rib.proofs.TableLaws.{find-table_of, last_or-append, route_at-push}
use Rattle.peer_tables.specs.declared.history.Listed.{Listed}
use Rattle.peer_tables.specs.declared.history.Listed.TheVariants.{Nothing, Changes, All}
use Rattle.peer_tables.specs.declared.history.Listing.{Listing}
use Rattle.peer_tables.specs.Histories.{RowState, history_of, history_of_own, history_rows, is_asked, is_change, is_listed, row_of}
use Rattle.peer_tables.specs.Peers.{peer_eq, units_of_peer}
use Rattle.peer_tables.proofs.HistoryLaws.{history_of-peer}
use Rattle.selection_laws.specs.Dumps.{table_of_peer}
use Rattle.selection_laws.specs.LastLines.{all_routes_of, noted_of, notes_at, route_by_last, row_note, staying}
use Rattle.selection_laws.specs.Wider.{of_all_prefixes}
use Rattle.selection_laws.proofs.Filters.{filter_twice}
use Rattle.selection_laws.proofs.SameRoutes.{and_swapped, same_found}

-- ---- what one step leaves

stays_announced : (old : Option Route) (r : Route) → staying (what_over old r) (Some r) ≡ Some r
stays_announced None r = refl
stays_announced (Some o) r = by (route_eq o r)
  where
    by : (b : Bool) → staying (if b then Same else Changed) (Some r) ≡ Some r
    by true = refl
    by false = refl

stays_withdrawn : (old : Option Route) → staying (what_without old) old ≡ None
stays_withdrawn None = refl
stays_withdrawn (Some o) = refl

withdrawal_changes : (old : Option Route) → is_change (what_without old) ≡ true
withdrawal_changes None = refl
withdrawal_changes (Some o) = refl

-- an announcement that changes nothing is of the route that was there
unchanged : (old : Option Route) (r : Route) → is_change (what_over old r) ≡ false → old ≡ Some r
unchanged None r e = absurd cc
unchanged (Some o) r e = by (route_eq o r) refl e
  where
    by : (b : Bool) → route_eq o r ≡ b → is_change (if b then Same else Changed) ≡ false → Some o ≡ Some r
    by true same e = ap Some (same_route o r same)
    by false same e = absurd cc

if_said : (b : Bool) (now : Option Route) (old : Option Route) → unwrap_or (cond b (Some now) None) old ≡ cond b now old
if_said true now old = refl
if_said false now old = refl

-- ---- the notes that are kept, at least those of changes

module _ (k : RouteKey) (kept : Note → Bool) (keeps : (note : Note) → key_eq k note.key ≡ true → is_change note.what ≡ true → kept note ≡ true) where
  abbrev said : List Note → List (Option Route)
  said notes = filter_map (noted_of k) notes

  -- behind further notes
  abbrev behind : Option (Option Route) → List Note → Option Route
  behind o notes = unwrap_or (last_or o (said notes)) None

  last_both : (notes more : List Note) → route_by_last (notes ++ more) k ≡ behind (last_or None (said notes)) more
  last_both notes more =
      ap (λ (l : List (Option Route)). unwrap_or (last_or None l) None) (filter_map-append (noted_of k) notes more)
      ∙ ap (λ (o : Option (Option Route)). unwrap_or o None) (last_or-append None (said notes) (said more))

  -- what isn't kept changes nothing
  unkept : (note : Note) → key_eq k note.key ≡ true → kept note ≡ false → is_change note.what ≡ false
  unkept note same none = by (is_change note.what) refl
    where
      by : (b : Bool) → is_change note.what ≡ b → b ≡ false
      by true e = absurd (let kept_too = sym (keeps note same e) ∙ none in cc)
      by false e = refl

  one_by : (has here : Bool) (notes : List Note) (note : Note) (old : Option Route) → kept note ≡ has → key_eq k note.key ≡ here → route_by_last notes k ≡ old →
      (kept note ≡ false → key_eq k note.key ≡ true → old ≡ staying note.what note.route) →
      behind (last_or None (said notes)) (cond has (note ∷ []) []) ≡ cond here (staying note.what note.route) old
  one_by true true notes note old has here e other = ap (λ (b : Bool). unwrap_or (last_or (last_or None (said notes)) (cons_option (cond b (Some (staying note.what note.route)) None) [])) None) here
  one_by true false notes note old has here e other = ap (λ (b : Bool). unwrap_or (last_or (last_or None (said notes)) (cons_option (cond b (Some (staying note.what note.route)) None) [])) None) here ∙ e
  one_by false true notes note old has here e other = e ∙ other has here
  one_by false false notes note old has here e other = e

  one_note : (notes : List Note) (note : Note) (old : Option Route) → route_by_last notes k ≡ old →
      (kept note ≡ false → key_eq k note.key ≡ true → old ≡ staying note.what note.route) →
      route_by_last (notes ++ filter kept (note ∷ [])) k ≡ cond (key_eq k note.key) (staying note.what note.route) old
  one_note notes note old e other =
      last_both notes (filter kept (note ∷ [])) ∙ one_by (kept note) (key_eq k note.key) notes note old refl refl e other

  -- a key without a route has none behind what is lost
  gone_by : (has here : Bool) (e : RouteKey × Route) (notes : List Note) (o : Option (Option Route)) → key_eq k e.0 ≡ here → unwrap_or o None ≡ None →
      ((p : Option (Option Route)) → unwrap_or p None ≡ None → behind p notes ≡ None) → behind o (cond has (lost_note e ∷ notes) notes) ≡ None
  gone_by true true e notes o here none rest = ap (λ (b : Bool). unwrap_or (last_or o (cons_option (cond b (Some None) None) (said notes))) None) here ∙ rest (Some None) refl
  gone_by true false e notes o here none rest = ap (λ (b : Bool). unwrap_or (last_or o (cons_option (cond b (Some None) None) (said notes))) None) here ∙ rest o none
  gone_by false here e notes o same none rest = rest o none

  gone : (es : List (RouteKey × Route)) (o : Option (Option Route)) → unwrap_or o None ≡ None → behind o (filter kept (map lost_note es)) ≡ None
  gone [] o none = none
  gone (e ∷ es) o none = gone_by (kept (lost_note e)) (key_eq k e.0) e (filter kept (map lost_note es)) o refl none (gone es)

  lost_by : (here : Bool) (e : RouteKey × Route) (es : List (RouteKey × Route)) (o : Option (Option Route)) → key_eq k e.0 ≡ here → unwrap_or o None ≡ cond here (Some e.1) (find key_cmp k es) →
      (unwrap_or o None ≡ find key_cmp k es → behind o (filter kept (map lost_note es)) ≡ None) → behind o (filter kept (map lost_note (e ∷ es))) ≡ None
  lost_by true e es o here had rest =
      let notes : List Note = filter kept (map lost_note es) in
      ap (λ (b : Bool). behind o (cond b (lost_note e ∷ notes) notes)) (keeps (lost_note e) here refl)
      ∙ ap (λ (b : Bool). unwrap_or (last_or o (cons_option (cond b (Some None) None) (said notes))) None) here
      ∙ gone es (Some None) refl
  lost_by false e es o here had rest = by (kept (lost_note e)) ∙ rest had
    where
      by : (has : Bool) → behind o (cond has (lost_note e ∷ filter kept (map lost_note es)) (filter kept (map lost_note es))) ≡ behind o (filter kept (map lost_note es))
      by true = ap (λ (b : Bool). unwrap_or (last_or o (cons_option (cond b (Some None) None) (said (filter kept (map lost_note es))))) None) here
      by false = refl

  -- and so has one that has a route, which is lost with all others
  lost : (es : List (RouteKey × Route)) (o : Option (Option Route)) → unwrap_or o None ≡ find key_cmp k es → behind o (filter kept (map lost_note es)) ≡ None
  lost [] o had = had
  lost (e ∷ es) o had =
      lost_by (key_eq k e.0) e es o refl (had ∙ ap (λ (b : Bool). cond b (Some e.1) (find key_cmp k es)) (key_tied k e.0)) (lost es o)

  all_lost : (steps : List Step) (notes : List Note) → route_at steps k ≡ route_by_last notes k → route_by_last (notes ++ filter kept (map lost_note (table_of steps))) k ≡ None
  all_lost steps notes same =
      last_both notes (filter kept (map lost_note (table_of steps)))
      ∙ lost (table_of steps) (last_or None (said notes)) (sym same ∙ sym (find-table_of steps k))

  -- ---- steps

  one_step : (steps : List Step) (notes : List Note) (step : Step) → route_at steps k ≡ route_by_last notes k → route_at (steps ++ step ∷ []) k ≡ route_by_last (notes ++ filter kept (noted_after steps step)) k
  one_step steps notes break same = route_at-push steps break k ∙ sym (all_lost steps notes same)
  one_step steps notes clear same = route_at-push steps clear k ∙ sym (all_lost steps notes same)
  one_step steps notes (announce q r) same =
      let note : Note = announced_note (route_at steps q) q r in
      let stays : staying note.what note.route ≡ Some r = stays_announced (route_at steps q) r in
      route_at-push steps (announce q r) k
      ∙ if_said (key_eq k q) (Some r) (route_at steps k)
      ∙ ap (λ (now : Option Route). cond (key_eq k q) now (route_at steps k)) (sym stays)
      ∙ sym (one_note notes note (route_at steps k) (sym same)
      (λ none here. ap (route_at steps) (same_key k q here) ∙ unchanged (route_at steps q) r (unkept note here none) ∙ sym stays))
  one_step steps notes (withdraw q) same =
      let note : Note = withdrawn_note (route_at steps q) q in
      let stays : staying note.what note.route ≡ None = stays_withdrawn (route_at steps q) in
      route_at-push steps (withdraw q) k
      ∙ if_said (key_eq k q) None (route_at steps k)
      ∙ ap (λ (now : Option Route). cond (key_eq k q) now (route_at steps k)) (sym stays)
      ∙ sym (one_note notes note (route_at steps k) (sym same)
      (λ none here. absurd (let clash = sym (withdrawal_changes (route_at steps q)) ∙ unkept note here none in cc)))

  all_steps : (steps : List Step) (notes : List Note) (more : List Step) → route_at steps k ≡ route_by_last notes k → route_at (steps ++ more) k ≡ route_by_last (notes ++ filter kept (noted_behind steps more)) k
  all_steps steps notes [] same =
      ap (λ (l : List Step). route_at l k) (append-nil steps) ∙ same ∙ ap (λ (l : List Note). route_by_last l k) (sym (append-nil notes))
  all_steps steps notes (step ∷ more) same =
      let first : List Note = filter kept (noted_after steps step) in
      let rest : List Note = filter kept (noted_behind (steps ++ step ∷ []) more) in
      ap (λ (l : List Step). route_at l k) (sym (append_assoc steps (step ∷ []) more))
      ∙ all_steps (steps ++ step ∷ []) (notes ++ first) more (one_step steps notes step same)
      ∙ ap (λ (l : List Note). route_by_last l k) (append_assoc notes first rest ∙ ap (λ (l : List Note). notes ++ l) (sym (filter-append kept (noted_after steps step) (noted_behind (steps ++ step ∷ []) more))))

  by_steps : (steps : List Step) → find key_cmp k (table_of steps) ≡ route_by_last (filter kept (noted_behind [] steps)) k
  by_steps steps = find-table_of steps k ∙ all_steps [] [] steps refl

-- ---- units

abbrev note_in : ReplayUnit × Note → Note
note_in e = e.1

abbrev own_rows : List ReplayUnit → ReplayUnit → List (ReplayUnit × Note)
own_rows before unit = map (λ note. (unit, note)) (unit_notes before unit)

notes_back : (unit : ReplayUnit) (notes : List Note) (rest : List (ReplayUnit × Note)) → map note_in (map (λ note. (unit, note)) notes ++ rest) ≡ notes ++ map note_in rest
notes_back unit [] rest = refl
notes_back unit (note ∷ notes) rest = ap (λ (l : List Note). note ∷ l) (notes_back unit notes rest)

notes_after : (before own : List ReplayUnit) → map note_in (flat_map_after own_rows before own) ≡ noted_behind (steps_of before) (flat_map_after (λ b u. unit_steps (is_up b) u) before own)
unfolding unit_notes
notes_after before [] = refl
notes_after before (u ∷ own) =
    let steps : List Step = unit_steps (is_up before) u in
    let more : List Step = flat_map_after (λ b v. unit_steps (is_up b) v) (before ++ u ∷ []) own in
    notes_back u (unit_notes before u) (flat_map_after own_rows (before ++ u ∷ []) own)
    ∙ ap (λ (l : List Note). noted_behind (steps_of before) steps ++ l)
    (notes_after (before ++ u ∷ []) own ∙ ap (λ (l : List Step). noted_behind l more) (steps_of-push before u))
    ∙ sym (after_both noted_after (steps_of before) steps more)

-- the notes of a peer's units are those of its steps
notes_of_own : (own : List ReplayUnit) → map note_in (history_of_own own) ≡ noted_behind [] (steps_of own)
unfolding history_of_own steps_of
notes_of_own own = notes_after [] own

all_kept : (notes : List Note) → filter (λ note. true) notes ≡ notes
all_kept [] = refl
all_kept (note ∷ notes) = ap (λ (l : List Note). note ∷ l) (all_kept notes)

pub last_of_own : (own : List ReplayUnit) (k : RouteKey) → find key_cmp k (table_of (steps_of own)) ≡ route_by_last (map note_in (history_of_own own)) k
last_of_own own k =
    by_steps k (λ note. true) (λ note here changes. refl) (steps_of own)
    ∙ ap (λ (l : List Note). route_by_last l k) (all_kept (noted_behind [] (steps_of own)) ∙ sym (notes_of_own own))

-- ---- rows

-- a note that doesn't tell which route the key had before
abbrev untold : Note → Note
untold note = record note { before = None }

-- says the same of each key
untold_said : (notes : List Note) (k : RouteKey) → filter_map (noted_of k) (map untold notes) ≡ filter_map (noted_of k) notes
untold_said [] k = refl
untold_said (note ∷ notes) k = ap (cons_option (noted_of k note)) (untold_said notes k)

untold_last : (notes : List Note) (k : RouteKey) → route_by_last (map untold notes) k ≡ route_by_last notes k
untold_last notes k = ap (λ (l : List (Option Route)). unwrap_or (last_or None l) None) (untold_said notes k)

module _ (listing : Listing) (prefixes : List PrefixChoice) (q : PeerKey) (every : listing.since ≡ None) (some : listing.listed ≢ Nothing) where
  abbrev kept : Note → Bool
  kept note = chooses prefixes note.key && is_asked listing.listed note.what

  abbrev is_here : ReplayUnit × Note → Bool
  is_here e = peer_eq e.0.peer q

  asked : (listed : Listed) → listed ≢ Nothing → (note : Note) → is_change note.what ≡ true → is_asked listed note.what ≡ true
  asked Nothing not_nothing note changes = absurd (not_nothing refl)
  asked Changes not_nothing note changes = changes
  asked All not_nothing note changes = refl

  keeps : (k : RouteKey) → chooses prefixes k ≡ true → (note : Note) → key_eq k note.key ≡ true → is_change note.what ≡ true → kept note ≡ true
  keeps k chosen note here changes =
      (λ i. chooses prefixes (sym (same_key k note.key here) i) && asked listing.listed some note changes i) ∙ ap (λ (b : Bool). b && true) chosen

  listed_kept : (e : ReplayUnit × Note) → is_listed listing (all_routes_of prefixes) e ≡ kept e.1
  listed_kept e = ap (λ (since : Option ℕ). not (is_before since e.0.time) && kept e.1) every

  row_first : (b : Bool) (e : ReplayUnit × Note) (h : List (ReplayUnit × Note)) (rows : List RowState) → map row_note rows ≡ map untold (map note_in h) →
      map row_note (cond b (row_of e ∷ rows) rows) ≡ map untold (map note_in (cond b (e ∷ h) h))
  row_first true e h rows same = ap (λ (l : List Note). untold e.1 ∷ l) same
  row_first false e h rows same = same

  notes_of_rows : (h : List (ReplayUnit × Note)) → notes_at q (map row_of h) ≡ map untold (map note_in (filter is_here h))
  notes_of_rows [] = refl
  notes_of_rows (e ∷ h) = row_first (is_here e) e (filter is_here h) (filter (λ (row : RowState). peer_eq row.peer q) (map row_of h)) (notes_of_rows h)

  note_first : (b : Bool) (e : ReplayUnit × Note) (h : List (ReplayUnit × Note)) → map note_in (cond b (e ∷ h) h) ≡ cond b (e.1 ∷ map note_in h) (map note_in h)
  note_first true e h = refl
  note_first false e h = refl

  kept_notes : (h : List (ReplayUnit × Note)) → map note_in (filter (λ e. kept e.1) h) ≡ filter kept (map note_in h)
  kept_notes [] = refl
  kept_notes (e ∷ h) = note_first (kept e.1) e (filter (λ f. kept f.1) h) ∙ ap (λ (l : List Note). cond (kept e.1) (e.1 ∷ l) l) (kept_notes h)

  -- the notes of the peer's rows are those of its own steps that are kept
  row_notes : (units : List ReplayUnit) → notes_at q (history_rows listing (all_routes_of prefixes) units) ≡ map untold (filter kept (noted_behind [] (steps_of (units_of_peer units q))))
  unfolding history_rows
  row_notes units =
      let h : List (ReplayUnit × Note) = history_of units in
      let listed : ReplayUnit × Note → Bool = λ e. kept e.1 in
      notes_of_rows (filter (is_listed listing (all_routes_of prefixes)) h)
      ∙ ap (λ (l : List (ReplayUnit × Note)). map untold (map note_in (filter is_here l))) (filter_agree (is_listed listing (all_routes_of prefixes)) listed listed_kept h)
      ∙ ap (λ (l : List (ReplayUnit × Note)). map untold (map note_in l))
      (filter_twice listed is_here h
      ∙ filter_agree (λ e. listed e && is_here e) (λ e. is_here e && listed e) (λ e. and_swapped (listed e) (is_here e)) h
      ∙ sym (filter_twice is_here listed h)
      ∙ ap (filter listed) (sym (history_of-peer q units)))
      ∙ ap (map untold) (kept_notes (history_of_own (units_of_peer units q)))
      ∙ ap (λ (l : List Note). map untold (filter kept l)) (notes_of_own (units_of_peer units q))

  pub last_of_rows : (units : List ReplayUnit) (k : RouteKey) → chooses prefixes k ≡ true → find key_cmp k (table_of_peer units q) ≡ route_by_last (notes_at q (history_rows listing (all_routes_of prefixes) units)) k
  last_of_rows units k chosen =
      by_steps k kept (keeps k chosen) (steps_of (units_of_peer units q))
      ∙ sym (untold_last (filter kept (noted_behind [] (steps_of (units_of_peer units q)))) k)
      ∙ ap (λ (l : List Note). route_by_last l k) (sym (row_notes units))

-- ---- files

pub last_of_files : (listing : Listing) (selection : UnitSelection) (files : List (List ℕ)) (q : PeerKey) (k : RouteKey) → listing.since ≡ None → listing.listed ≢ Nothing → chooses selection.prefixes k ≡ true →
    find key_cmp k (table_of_peer (units_of (of_all_prefixes selection) files) q) ≡ route_by_last (notes_at q (history_rows listing (all_routes_of selection.prefixes) (units_of selection files))) k
last_of_files listing selection files q k every some chosen =
    let here : Option Route = find key_cmp k (table_of_peer (units_of selection files) q) in
    let there : Option Route = find key_cmp k (table_of_peer (units_of (of_all_prefixes selection) files) q) in
    sym (ap (λ (b : Bool). cond b there None) chosen)
    ∙ sym (same_found selection q files k (chooses selection.prefixes k) refl)
    ∙ ap (λ (b : Bool). cond b here None) chosen
    ∙ last_of_rows listing selection.prefixes q every some (units_of selection files) k chosen
