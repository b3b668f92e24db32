-- The units of a table leave it.
use Rattle.std.proofs.Common.{◌≡◌, ℕ, Bool, true, false, cond, not, ◌&&◌, List, [], ◌∷◌, ◌++◌, map, Option, Some, None, Ok, T, refl, sym, ap, subst, ◌∙◌, append_assoc, append-nil}
use Rattle.std.specs.Prelude.{unwrap_or}
use Rattle.std.specs.List.{filter, filter_map, cons_option, last_or}
use Rattle.std.specs.Option.{option_or}
use Rattle.std.specs.Ordering.{is_lt, is_eq}
use Rattle.std.specs.declared.cmp.Ordering.{Ordering}
use Rattle.std.specs.declared.cmp.Ordering.TheVariants.{Less, Equal, Greater}
use Rattle.std.specs.FinMap.Entries.{find, is_sorted, below_all, same_entries}
use Rattle.mrt_frame.specs.Positions.{flat_map_after}
use Rattle.bgp_prefix.specs.Keys.{RouteKey, key_cmp, key_eq}
use Rattle.bgp_prefix.proofs.KeyLaws.{key_cmp_total, key_cmp_exact, or_none, tied_same}
use Rattle.bgp_prefix.proofs.KeySearches.{key_tied}
use Rattle.bgp_update.specs.declared.route.Route.{Route}
use Rattle.bgp_update.specs.Families.{FamilyOf}
use Rattle.peer_units.specs.declared.state_rule.StateRule.{StateRule}
use Rattle.peer_units.specs.declared.state_rule.StateRule.TheVariants.{Recorded, Established}
use Rattle.peer_units.specs.declared.meaning.Event.TheVariants as event
use Rattle.peer_units.specs.Plain.{Payload, Unit as ReplayUnit}
use Rattle.peer_units.specs.Events.{event_in}
use Rattle.peer_units.specs.States.{ESTABLISHED, stays_up, breaks}
use Rattle.adj_rib.specs.Applied.{up_after, established_after}
use Rattle.adj_rib.specs.Steps.{Step, break, announce, is_up, is_established, state_steps, reading_steps, unit_steps, steps_of}
use Rattle.adj_rib.specs.Tables.{said_of, route_at, table_of}
use Rattle.adj_rib.proofs.Taking.{is_up-push, is_established-push}
use Rattle.adj_rib.proofs.TableLaws.{last_or-append, find-table_of, is_sorted-table_of}
use Rattle.std.proofs.lemmas.List.Elements.{filter_map-append}
use Rattle.mrt_writing.specs.Heads.{state_after}
use Rattle.table_dumps.specs.Dumped.{is_entry, in_written_order, is_as, saying, Says, SayAll, DumpsTable}

abbrev Table : Type 0
Table = List (RouteKey × Route)

abbrev announced : RouteKey × Route → Step
announced e = announce e.0 e.1

-- ---- the steps of the units

saying_steps : (e : RouteKey × Route) (entry : Bool) → reading_steps true (saying e entry) ≡ announced e ∷ []
saying_steps e true = refl
saying_steps e false = refl

saying_up : (up : Bool) (e : RouteKey × Route) (entry : Bool) → up_after up (saying e entry) ≡ up
saying_up up e true = refl
saying_up up e false = refl

saying_established : (was : Bool) (e : RouteKey × Route) (entry : Bool) → established_after was (saying e entry) ≡ was
saying_established was e true = refl
saying_established was e false = refl

says_steps : (e : RouteKey × Route) (unit : ReplayUnit) → Says e unit → unit_steps true unit ≡ announced e ∷ []
unfolding unit_steps
says_steps e unit h = ap (reading_steps true) h.1 ∙ saying_steps e h.0

says_up : (before : List ReplayUnit) (e : RouteKey × Route) (unit : ReplayUnit) → Says e unit → is_up (before ++ unit ∷ []) ≡ is_up before
says_up before e unit h = is_up-push before unit ∙ ap (up_after (is_up before)) h.1 ∙ saying_up (is_up before) e h.0

says_established : (before : List ReplayUnit) (e : RouteKey × Route) (unit : ReplayUnit) → Says e unit → is_established (before ++ unit ∷ []) ≡ is_established before
says_established before e unit h = is_established-push before unit ∙ ap (established_after (is_established before)) h.1 ∙ saying_established (is_established before) e h.0

abbrev steps_after : List ReplayUnit → List ReplayUnit → List Step
steps_after before units = flat_map_after (λ b unit. unit_steps (is_up b) unit) before units

all_steps : (before units : List ReplayUnit) (es : Table) → is_up before ≡ true → SayAll es units → steps_after before units ≡ map announced es
all_steps before [] [] up h = refl
all_steps before [] (e ∷ es) up h = absurd h
all_steps before (u ∷ units) [] up h = absurd h
all_steps before (u ∷ units) (e ∷ es) up h =
    let first : unit_steps (is_up before) u ≡ announced e ∷ [] = ap (λ (b : Bool). unit_steps b u) up ∙ says_steps e u h.0 in
    let rest : steps_after (before ++ u ∷ []) units ≡ map announced es = all_steps (before ++ u ∷ []) units es (says_up before e u h.0 ∙ up) h.1 in
    λ i. first i ++ rest i

none_said : (before units : List ReplayUnit) → SayAll [] units → steps_after before units ≡ []
none_said before [] h = refl
none_said before (u ∷ units) h = absurd h

all_up : (before units : List ReplayUnit) (es : Table) → SayAll es units → is_up (before ++ units) ≡ is_up before
all_up before [] [] h = ap is_up (append-nil before)
all_up before [] (e ∷ es) h = absurd h
all_up before (u ∷ units) [] h = absurd h
all_up before (u ∷ units) (e ∷ es) h = ap is_up (sym (append_assoc before (u ∷ []) units)) ∙ all_up (before ++ u ∷ []) units es h.1 ∙ says_up before e u h.0

all_established : (before units : List ReplayUnit) (es : Table) → SayAll es units → is_established (before ++ units) ≡ is_established before
all_established before [] [] h = ap is_established (append-nil before)
all_established before [] (e ∷ es) h = absurd h
all_established before (u ∷ units) [] h = absurd h
all_established before (u ∷ units) (e ∷ es) h = ap is_established (sym (append_assoc before (u ∷ []) units)) ∙ all_established (before ++ u ∷ []) units es h.1 ∙ says_established before e u h.0

-- ---- what announcements leave

-- the last route of a key
abbrev last_found : RouteKey → Table → Option Route
last_found k [] = None
last_found k (e ∷ es) = option_or (last_found k es) (cond (key_eq k e.0) (Some e.1) None)

or_assoc : {A : Type 0} (a b c : Option A) → option_or a (option_or b c) ≡ option_or (option_or a b) c
or_assoc None b c = refl
or_assoc (Some a) b c = refl

last_announced : (k : RouteKey) (es : Table) (o : Option (Option Route)) → unwrap_or (last_or o (filter_map (said_of k) (map announced es))) None ≡ option_or (last_found k es) (unwrap_or o None)
last_announced k [] o = refl
last_announced k (e ∷ es) o = by_key (key_eq k e.0) (last_announced k es (Some (Some e.1))) (last_announced k es o)
  where
    by_key : (b : Bool) → unwrap_or (last_or (Some (Some e.1)) (filter_map (said_of k) (map announced es))) None ≡ option_or (last_found k es) (Some e.1)
        → unwrap_or (last_or o (filter_map (said_of k) (map announced es))) None ≡ option_or (last_found k es) (unwrap_or o None)
        → unwrap_or (last_or o (cons_option (cond b (Some (Some e.1)) None) (filter_map (said_of k) (map announced es)))) None ≡ option_or (option_or (last_found k es) (cond b (Some e.1) None)) (unwrap_or o None)
    by_key true here later = here ∙ or_assoc (last_found k es) (Some e.1) (unwrap_or o None)
    by_key false here later = later ∙ or_assoc (last_found k es) None (unwrap_or o None)

last_found-append : (k : RouteKey) (xs ys : Table) → last_found k (xs ++ ys) ≡ option_or (last_found k ys) (last_found k xs)
last_found-append k [] ys = sym (or_none (last_found k ys))
last_found-append k (x ∷ xs) ys =
    ap (λ (o : Option Route). option_or o (cond (key_eq k x.0) (Some x.1) None)) (last_found-append k xs ys) ∙ sym (or_assoc (last_found k ys) (last_found k xs) (cond (key_eq k x.0) (Some x.1) None))

-- ---- a sorted table in any two parts

first_of : (a b : Bool) → T (a && b) → T a
first_of true b h = tt
first_of false b h = h

second_of : (a b : Bool) → T (a && b) → T b
second_of true b h = h
second_of false b h = absurd h

lt_apart : (r : Ordering) → T (is_lt r) → is_eq r ≡ false
lt_apart Less h = refl
lt_apart Equal h = absurd h
lt_apart Greater h = absurd h

below_none : (k : RouteKey) (es : Table) → T (below_all key_cmp k es) → find key_cmp k es ≡ None
below_none k [] h = refl
below_none k (e ∷ es) h =
    ap (λ (b : Bool). cond b (Some e.1) (find key_cmp k es)) (lt_apart (key_cmp k e.0) (first_of (is_lt (key_cmp k e.0)) (below_all key_cmp k es) h))
    ∙ below_none k es (second_of (is_lt (key_cmp k e.0)) (below_all key_cmp k es) h)

module _ (p : RouteKey × Route → Bool) (k : RouteKey) where
  abbrev kept : Table → Option Route
  kept es = last_found k (filter p es)

  abbrev left : Table → Option Route
  left es = last_found k (filter (λ e. not (p e)) es)

  or_is_none : (a b : Option Route) → option_or a b ≡ None → (a ≡ None) × (b ≡ None)
  or_is_none None b e = (refl, e)
  or_is_none (Some a) b e = absurd cc

  -- what one more entry adds, where it is in this part
  with_entry : (b : Bool) (e : RouteKey × Route) (xs : Table) → last_found k (cond b (e ∷ xs) xs) ≡ option_or (last_found k xs) (cond b (cond (key_eq k e.0) (Some e.1) None) None)
  with_entry true e xs = refl
  with_entry false e xs = sym (or_none (last_found k xs))

  one_of : (b : Bool) (route : Route) → option_or (cond (not b) (Some route) None) (cond b (Some route) None) ≡ Some route
  one_of true route = refl
  one_of false route = refl

  none_of : (b : Bool) → cond {A = Option Route} b None None ≡ None
  none_of true = refl
  none_of false = refl

  found_none : (e : RouteKey × Route) (es : Table) → key_eq k e.0 ≡ true → T (below_all key_cmp e.0 es) → find key_cmp k es ≡ None
  found_none e es t h = below_none k es (subst (λ (q : RouteKey). T (below_all key_cmp q es)) (sym (tied_same k e.0 (key_tied k e.0 ∙ t))) h)

  both_parts : (b : Bool) (e : RouteKey × Route) (es : Table) → option_or (left (e ∷ es)) (kept (e ∷ es))
      ≡ option_or (option_or (left es) (cond (not (p e)) (cond (key_eq k e.0) (Some e.1) None) None)) (option_or (kept es) (cond (p e) (cond (key_eq k e.0) (Some e.1) None) None))
  both_parts b e es = λ i. option_or (with_entry (not (p e)) e (filter (λ (x : RouteKey × Route). not (p x)) es) i) (with_entry (p e) e (filter p es) i)

  pub parts_found : (es : Table) → T (is_sorted key_cmp es) → find key_cmp k es ≡ option_or (left es) (kept es)
  parts_found [] h = refl
  parts_found (e ∷ es) h = by_key (key_eq k e.0) refl (parts_found es (second_of (below_all key_cmp e.0 es) (is_sorted key_cmp es) h)) ∙ sym (both_parts true e es)
    where
      by_key : (b : Bool) → key_eq k e.0 ≡ b → find key_cmp k es ≡ option_or (left es) (kept es)
          → find key_cmp k (e ∷ es) ≡ option_or (option_or (left es) (cond (not (p e)) (cond (key_eq k e.0) (Some e.1) None) None)) (option_or (kept es) (cond (p e) (cond (key_eq k e.0) (Some e.1) None) None))
      by_key false t more =
          ap (λ (b : Bool). cond b (Some e.1) (find key_cmp k es)) (key_tied k e.0 ∙ t) ∙ more
          ∙ (λ i. option_or (sym (or_none (left es)) i) (sym (or_none (kept es)) i))
          ∙ (λ i. option_or (option_or (left es) (sym (none_of (not (p e))) i)) (option_or (kept es) (sym (none_of (p e)) i)))
          ∙ (λ i. option_or (option_or (left es) (cond (not (p e)) (cond (sym t i) (Some e.1) None) None)) (option_or (kept es) (cond (p e) (cond (sym t i) (Some e.1) None) None)))
      by_key true t more =
          let nothing = or_is_none (left es) (kept es) (sym more ∙ found_none e es t (first_of (below_all key_cmp e.0 es) (is_sorted key_cmp es) h)) in
          ap (λ (b : Bool). cond b (Some e.1) (find key_cmp k es)) (key_tied k e.0 ∙ t)
          ∙ sym (one_of (p e) e.1)
          ∙ (λ i. option_or (option_or (sym nothing.0 i) (cond (not (p e)) (Some e.1) None)) (option_or (sym nothing.1 i) (cond (p e) (Some e.1) None)))
          ∙ (λ i. option_or (option_or (left es) (cond (not (p e)) (cond (sym t i) (Some e.1) None) None)) (option_or (kept es) (cond (p e) (cond (sym t i) (Some e.1) None) None)))

written_found : (family : FamilyOf) (k : RouteKey) (es : Table) → T (is_sorted key_cmp es) → last_found k (in_written_order family es) ≡ find key_cmp k es
written_found family k es h =
    last_found-append k (filter (is_entry family) es) (filter (λ (e : RouteKey × Route). not (is_entry family e)) es) ∙ sym (parts_found (is_entry family) k es h)

-- ---- all of them

state_said : (rule : StateRule) (to : ℕ) (k : RouteKey) → unwrap_or (last_or None (filter_map (said_of k) (state_steps rule ESTABLISHED to))) None ≡ None
state_said rule to k = by_test (breaks rule ESTABLISHED to)
  where
    by_test : (b : Bool) → unwrap_or (last_or None (filter_map (said_of k) (cond b (break ∷ []) []))) None ≡ None
    by_test true = refl
    by_test false = refl

module _ (family : FamilyOf) (rule : StateRule) (up : Bool) (table : Table) (units : List ReplayUnit) (h : DumpsTable family rule up table units) where
  abbrev to : ℕ
  to = state_after up

  abbrev es : Table
  es = in_written_order family table

  state_is : unit_steps (is_up []) h.state ≡ state_steps rule ESTABLISHED to
  unfolding unit_steps event_in
  state_is = ap (λ (payload : Payload). reading_steps true (event_in payload)) h.says

  up_is : is_up (h.state ∷ []) ≡ stays_up rule to
  unfolding event_in
  up_is = is_up-push [] h.state ∙ ap (λ (payload : Payload). up_after true (event_in payload)) h.says

  others_are : (b : Bool) → stays_up rule to ≡ b → steps_after (h.state ∷ []) h.others ≡ map announced es
  others_are true t = all_steps (h.state ∷ []) h.others es (up_is ∙ t) h.each
  others_are false t =
      let nothing : es ≡ [] = ap (in_written_order family) (h.down t) in
      none_said (h.state ∷ []) h.others (subst (λ (xs : Table). SayAll xs h.others) nothing h.each) ∙ sym (ap (λ (xs : Table). map announced xs) nothing)

  steps_are : steps_of units ≡ state_steps rule ESTABLISHED to ++ map announced es
  unfolding steps_of
  steps_are = ap steps_of h.parts ∙ λ i. state_is i ++ others_are (stays_up rule to) refl i

  route_is : (k : RouteKey) → route_at (steps_of units) k ≡ find key_cmp k table
  route_is k =
      let pre : List Step = state_steps rule ESTABLISHED to in
      ap (λ (steps : List Step). route_at steps k) steps_are
      ∙ ap (λ (said : List (Option Route)). unwrap_or (last_or None said) None) (filter_map-append (said_of k) pre (map announced es))
      ∙ ap (λ (o : Option (Option Route)). unwrap_or o None) (last_or-append None (filter_map (said_of k) pre) (filter_map (said_of k) (map announced es)))
      ∙ last_announced k es (last_or None (filter_map (said_of k) pre))
      ∙ ap (λ (o : Option Route). option_or (last_found k es) o) (state_said rule to k)
      ∙ or_none (last_found k es)
      ∙ written_found family k table h.sorted

  pub table_left : table_of (steps_of units) ≡ table
  table_left =
      same_entries key_cmp key_cmp_total key_cmp_exact (table_of (steps_of units)) table (is_sorted-table_of (steps_of units)) h.sorted (λ k. find-table_of (steps_of units) k ∙ route_is k)

  last_up : is_up units ≡ stays_up rule to
  last_up = ap is_up h.parts ∙ all_up (h.state ∷ []) h.others es h.each ∙ up_is

  last_established : is_established units ≡ established_after true (Ok (event.State ESTABLISHED to rule))
  unfolding event_in
  last_established =
      ap is_established h.parts ∙ all_established (h.state ∷ []) h.others es h.each
      ∙ is_established-push [] h.state ∙ ap (λ (payload : Payload). established_after true (event_in payload)) h.says

by_rule : (rule : StateRule) (up : Bool) → is_as rule (stays_up rule (state_after up)) (established_after true (Ok (event.State ESTABLISHED (state_after up) rule))) ≡ up
by_rule Recorded true = refl
by_rule Recorded false = refl
by_rule Established true = refl
by_rule Established false = refl

pub state_left : (family : FamilyOf) (rule : StateRule) (up : Bool) (table : Table) (units : List ReplayUnit) → DumpsTable family rule up table units → is_as rule (is_up units) (is_established units) ≡ up
state_left family rule up table units h = (λ i. is_as rule (last_up family rule up table units h i) (last_established family rule up table units h i)) ∙ by_rule rule up
