-- The watches on all peers, one unit after the other.
use Rattle.std.proofs.Common.{◌≡◌, ℕ, zero, suc, ◌<◌, ◌||◌, ◌&&◌, not, if◌then◌else◌, Bool, true, false, cond, List, [], ◌∷◌, ◌++◌, map, set, get_or, length, Option, Some, None, refl, sym, ap, ◌∙◌, subst, append-nil, append_assoc, arith}
use Rattle.std.specs.Prelude.{slice_get}
use Rattle.std.specs.List.{filter, flat_map, fold, list_any}
use Rattle.std.proofs.Math.Bool.{or-true}
use Rattle.std.proofs.lemmas.List.{map-append}
use Rattle.std.proofs.lemmas.List.Concat.{flat_map-cons}
use Rattle.std.proofs.lemmas.List.Elements.{filter-append}
use Rattle.std.proofs.lemmas.List.Folds.{list_any-append}
use Rattle.mrt_frame.specs.Positions.{flat_map_after}
use Rattle.mrt_frame.proofs.PositionLaws.{flat_map_after-push}
use Rattle.peer_units.specs.Choices.{Choices}
use Rattle.peer_units.specs.declared.unit.PeerKey.{PeerKey}
use Rattle.peer_units.specs.Plain.{Unit as ReplayUnit}
use Rattle.adj_rib.specs.Plain.{Note}
use Rattle.adj_rib.specs.Histories.{WatchState, is_before, is_chosen_note, watch_of, unit_notes, chosen_notes}
use Rattle.peer_tables.specs.declared.history.Listing.{Listing}
use Rattle.peer_tables.specs.Peers.{peer_eq, peers_of, units_of_peer}
use Rattle.peer_tables.specs.declared.history.Listed.{Listed}
use Rattle.peer_tables.specs.declared.history.RowUnit.{RowUnit}
use Rattle.peer_tables.specs.Histories.{PeerWatch, RowState, by_of, history_of, history_rows, is_asked, is_listed, row_of, watches_of}
use Rattle.peer_tables.specs.Watching.{RowsState, asked_row, asked_rows, keep_row, keys_in, listed_rows, row_unit}
use Rattle.peer_tables.proofs.ShareLaws.{same_peer}
use Rattle.peer_tables.proofs.PeerPositions.{listed_at, other_peer, peer_itself, some_is}

-- ---- peers

-- a unit of the peer is among these
abbrev is_seen : List ReplayUnit → PeerKey → Bool
is_seen units q = list_any (λ u. peer_eq u.peer q) units

abbrev new_peer : List ReplayUnit → ReplayUnit → List PeerKey
new_peer before unit = if is_seen before unit.peer then [] else unit.peer ∷ []

-- the peers that appear first in the later units
abbrev new_peers : List ReplayUnit → List ReplayUnit → List PeerKey
new_peers before units = flat_map_after new_peer before units

seen-push : (before : List ReplayUnit) (x : ReplayUnit) (q : PeerKey) → is_seen (before ++ x ∷ []) q ≡ (is_seen before q || (peer_eq x.peer q || false))
seen-push before x q = list_any-append (λ u. peer_eq u.peer q) before (x ∷ [])

seen_now : (before : List ReplayUnit) (x : ReplayUnit) → is_seen (before ++ x ∷ []) x.peer ≡ true
seen_now before x = seen-push before x x.peer ∙ ap (λ b. is_seen before x.peer || (b || false)) (peer_itself x.peer) ∙ or-true (is_seen before x.peer)

-- the new peers are those of the later units that none of the earlier units has
listed_new_peers : (before xs : List ReplayUnit) (q : PeerKey) → list_any (peer_eq q) (new_peers before xs) ≡ (not (is_seen before q) && is_seen xs q)
listed_new_peers before [] q = elim (is_seen before q) as (λ b. false ≡ (not b && false)) [ true ↦ refl | false ↦ refl ]
listed_new_peers before (x ∷ xs) q =
    list_any-append (peer_eq q) (new_peer before x) (new_peers (before ++ x ∷ []) xs)
    ∙ ap (λ b. list_any (peer_eq q) (new_peer before x) || b) (listed_new_peers (before ++ x ∷ []) xs q ∙ ap (λ b. not b && is_seen xs q) (seen-push before x q))
    ∙ elim (peer_eq x.peer q) as (λ b. peer_eq x.peer q ≡ b → (list_any (peer_eq q) (new_peer before x) || (not (is_seen before q || (b || false)) && is_seen xs q)) ≡ (not (is_seen before q) && (b || is_seen xs q))) [
      | true ↦ λ same.
          ap (λ (p : PeerKey). list_any (peer_eq q) (if is_seen before p then [] else p ∷ []) || (not (is_seen before q || true) && is_seen xs q)) (same_peer x.peer q same)
          ∙ elim (is_seen before q) as (λ b. (list_any (peer_eq q) (if b then [] else q ∷ []) || (not (b || true) && is_seen xs q)) ≡ (not b && true)) [ true ↦ refl | false ↦ ap (λ b. (b || false) || false) (peer_itself q) ]
      | false ↦ λ apart.
          let none : list_any (peer_eq q) (new_peer before x) ≡ false = elim (is_seen before x.peer) as (λ b. list_any (peer_eq q) (if b then [] else x.peer ∷ []) ≡ false) [ true ↦ refl | false ↦ ap (λ b. b || false) (other_peer x.peer q apart) ] in
          ap (λ b. b || (not (is_seen before q || false) && is_seen xs q)) none
          ∙ elim (is_seen before q) as (λ b. (not (b || false) && is_seen xs q) ≡ (not b && is_seen xs q)) [ true ↦ refl | false ↦ refl ]
    ] refl

listed_is_seen : (units : List ReplayUnit) (q : PeerKey) → list_any (peer_eq q) (peers_of units) ≡ is_seen units q
unfolding peers_of
listed_is_seen = listed_new_peers []

peers_of-push : (units : List ReplayUnit) (u : ReplayUnit) → peers_of (units ++ u ∷ []) ≡ peers_of units ++ new_peer units u
unfolding peers_of
peers_of-push units u = flat_map_after-push new_peer [] units u

-- no peer stands there twice
abbrev Apart : List PeerKey → Type 0
Apart [] = Unit {0}
Apart (q ∷ qs) = (list_any (peer_eq q) qs ≡ false) × Apart qs

apart_from : (before xs : List ReplayUnit) → Apart (new_peers before xs)
apart_from before [] = tt
apart_from before (x ∷ xs) =
    let rest = apart_from (before ++ x ∷ []) xs in
    elim (is_seen before x.peer) as (λ b. Apart ((if b then [] else x.peer ∷ []) ++ new_peers (before ++ x ∷ []) xs)) [
      | true ↦ rest
      | false ↦ (listed_new_peers (before ++ x ∷ []) xs x.peer ∙ ap (λ b. not b && is_seen xs x.peer) (seen_now before x), rest)
    ]

peers_apart : (units : List ReplayUnit) → Apart (peers_of units)
unfolding peers_of
peers_apart units = apart_from [] units

-- ---- the peers that a list of watches is on

differs_at : (keys : List PeerKey) (n : ℕ) (p q : PeerKey) → list_any (peer_eq q) keys ≡ false → slice_get keys n ≡ Some p → peer_eq q p ≡ false
differs_at keys n p q none e =
    elim (peer_eq q p) as (λ b. peer_eq q p ≡ b → b ≡ false) [
      | true ↦ λ same. sym (listed_at keys n q (e ∙ ap (λ r. Some r) (sym (same_peer q p same)))) ∙ none
      | false ↦ λ _. refl
    ] refl

none_passes : {X : Type 0} (p : X → Bool) (xs : List X) → list_any p xs ≡ false → filter p xs ≡ []
none_passes p [] e = refl
none_passes p (x ∷ xs) e =
    elim (p x) as (λ b. (b || list_any p xs) ≡ false → cond b (x ∷ filter p xs) (filter p xs) ≡ []) [ true ↦ λ clash. absurd (cc) | false ↦ λ later. none_passes p xs later ] e

-- the keys of watches of which one changed and kept its key
pub keys_set : {X : Type 0} (see : X → PeerWatch) (xs : List X) (n : ℕ) (d y : X) → (see y).key ≡ (see (get_or xs n d)).key → keys_in (map see (set xs n y)) ≡ keys_in (map see xs)
keys_set see [] n d y e = refl
keys_set see (x ∷ xs) zero d y e = ap (λ (k : PeerKey). k ∷ keys_in (map see xs)) e
keys_set see (x ∷ xs) (suc n) d y e = ap (λ (l : List PeerKey). (see x).key ∷ l) (keys_set see xs n d y e)

-- those of watches behind which one more stands
pub keys_push : {X : Type 0} (see : X → PeerWatch) (xs : List X) (y : X) (q : PeerKey) → (see y).key ≡ q → keys_in (map see (xs ++ y ∷ [])) ≡ keys_in (map see xs) ++ q ∷ []
keys_push see [] y q e = ap (λ (k : PeerKey). k ∷ []) e
keys_push see (x ∷ xs) y q e = ap (λ (l : List PeerKey). (see x).key ∷ l) (keys_push see xs y q e)

-- ---- one unit more

module _ (since : Option ℕ) (choices : Choices) (before : List ReplayUnit) (u : ReplayUnit) where
  abbrev after : List ReplayUnit
  after = before ++ u ∷ []

  abbrev own : List ReplayUnit
  own = units_of_peer before u.peer

  abbrev watch_at : List ReplayUnit → PeerKey → PeerWatch
  watch_at units q = record { key = q; watch = watch_of since choices (units_of_peer units q) }

  units_after : (q : PeerKey) → units_of_peer after q ≡ units_of_peer before q ++ cond (peer_eq u.peer q) (u ∷ []) []
  units_after q = filter-append (λ (v : ReplayUnit). peer_eq v.peer q) before (u ∷ [])

  own_after : units_of_peer after u.peer ≡ own ++ u ∷ []
  own_after = units_after u.peer ∙ ap (λ b. own ++ cond b (u ∷ []) []) (peer_itself u.peer)

  other_after : (q : PeerKey) → peer_eq u.peer q ≡ false → units_of_peer after q ≡ units_of_peer before q
  other_after q h = units_after q ∙ ap (λ b. units_of_peer before q ++ cond b (u ∷ []) []) h ∙ append-nil (units_of_peer before q)

  own_watch : (w : WatchState) → w ≡ watch_of since choices (own ++ u ∷ []) → record { key = u.peer; watch = w } ≡ watch_at after u.peer
  own_watch w e = let is : w ≡ watch_of since choices (units_of_peer after u.peer) = e ∙ ap (watch_of since choices) (sym own_after) in λ i. record { key = u.peer; watch = is i }

  others : (qs : List PeerKey) → list_any (peer_eq u.peer) qs ≡ false → map (watch_at before) qs ≡ map (watch_at after) qs
  others [] e = refl
  others (q ∷ qs) e =
      elim (peer_eq u.peer q) as (λ b. peer_eq u.peer q ≡ b → (b || list_any (peer_eq u.peer) qs) ≡ false → map (watch_at before) (q ∷ qs) ≡ map (watch_at after) (q ∷ qs)) [
        | true ↦ λ _ clash. cc
        | false ↦ λ apart later.
            ap (λ (l : List ReplayUnit). record { key = q; watch = watch_of since choices l } ∷ map (watch_at before) qs) (sym (other_after q apart))
            ∙ ap (λ (l : List PeerWatch). watch_at after q ∷ l) (others qs later)
      ] refl e

  set_own : (qs : List PeerKey) (n : ℕ) → Apart qs → slice_get qs n ≡ Some u.peer → set (map (watch_at before) qs) n (watch_at after u.peer) ≡ map (watch_at after) qs
  set_own [] n apart at = cc
  set_own (q ∷ qs) zero apart at =
      let is : q ≡ u.peer = some_is q u.peer at in
      ap (λ (p : PeerKey). watch_at after p ∷ map (watch_at before) qs) (sym is)
      ∙ ap (λ (l : List PeerWatch). watch_at after q ∷ l) (others qs (subst (λ p. list_any (peer_eq p) qs ≡ false) is apart.0))
  set_own (q ∷ qs) (suc n) apart at =
      let other : peer_eq u.peer q ≡ false = other_peer q u.peer (differs_at qs n u.peer q apart.0 at) in
      ap (λ (l : List ReplayUnit). record { key = q; watch = watch_of since choices l } ∷ set (map (watch_at before) qs) n (watch_at after u.peer)) (sym (other_after q other))
      ∙ ap (λ (l : List PeerWatch). watch_at after q ∷ l) (set_own qs n apart.1 at)

  keys_of : (units : List ReplayUnit) (qs : List PeerKey) → keys_in (map (watch_at units) qs) ≡ qs
  keys_of units [] = refl
  keys_of units (q ∷ qs) = ap (λ (l : List PeerKey). q ∷ l) (keys_of units qs)

  module _ (watches : List PeerWatch) (are : watches ≡ watches_of since choices before) where
    keys_are : keys_in watches ≡ peers_of before
    unfolding watches_of
    keys_are = ap keys_in are ∙ keys_of before (peers_of before)

    -- the watch on the peer is there
    pub watch_there : (n : ℕ) (d : PeerWatch) → slice_get (keys_in watches) n ≡ Some u.peer → (get_or watches n d).watch ≡ watch_of since choices own
    unfolding watches_of
    watch_there n d at = ap (λ (l : List PeerWatch). (get_or l n d).watch) are ∙ found (peers_of before) n (ap (λ l. slice_get l n) (sym keys_are) ∙ at) where
      found : (qs : List PeerKey) (n : ℕ) → slice_get qs n ≡ Some u.peer → (get_or (map (watch_at before) qs) n d).watch ≡ watch_of since choices own
      found [] n e = cc
      found (q ∷ qs) zero e = ap (λ p. watch_of since choices (units_of_peer before p)) (some_is q u.peer e)
      found (q ∷ qs) (suc n) e = found qs n e

    pub known_stands : (n : ℕ) (w : WatchState) → slice_get (keys_in watches) n ≡ Some u.peer → w ≡ watch_of since choices (own ++ u ∷ []) → set watches n (record { key = u.peer; watch = w }) ≡ watches_of since choices after
    unfolding watches_of
    known_stands n w at e =
        let here : slice_get (peers_of before) n ≡ Some u.peer = ap (λ l. slice_get l n) (sym keys_are) ∙ at in
        let seen : is_seen before u.peer ≡ true = sym (listed_is_seen before u.peer) ∙ listed_at (peers_of before) n u.peer here in
        let peers : peers_of after ≡ peers_of before = peers_of-push before u ∙ ap (λ b. peers_of before ++ (if b then [] else u.peer ∷ [])) seen ∙ append-nil (peers_of before) in
        ap (λ (l : List PeerWatch). set l n (record { key = u.peer; watch = w })) are
        ∙ ap (set (map (watch_at before) (peers_of before)) n) (own_watch w e)
        ∙ set_own (peers_of before) n (peers_apart before) here
        ∙ ap (map (watch_at after)) (sym peers)

    unseen : list_any (peer_eq u.peer) (keys_in watches) ≡ false → is_seen before u.peer ≡ false
    unseen none = sym (listed_is_seen before u.peer) ∙ ap (list_any (peer_eq u.peer)) (sym keys_are) ∙ none

    -- a new watch is on no unit yet
    pub none_before : list_any (peer_eq u.peer) (keys_in watches) ≡ false → own ≡ []
    none_before none = none_passes (λ (v : ReplayUnit). peer_eq v.peer u.peer) before (unseen none)

    pub new_stands : (w : WatchState) → list_any (peer_eq u.peer) (keys_in watches) ≡ false → w ≡ watch_of since choices (own ++ u ∷ []) → watches ++ record { key = u.peer; watch = w } ∷ [] ≡ watches_of since choices after
    unfolding watches_of
    new_stands w none e =
        let peers : peers_of after ≡ peers_of before ++ u.peer ∷ [] = peers_of-push before u ∙ ap (λ b. peers_of before ++ (if b then [] else u.peer ∷ [])) (unseen none) in
        let absent : list_any (peer_eq u.peer) (peers_of before) ≡ false = ap (list_any (peer_eq u.peer)) (sym keys_are) ∙ none in
        ap (λ (l : List PeerWatch). l ++ record { key = u.peer; watch = w } ∷ []) (are ∙ others (peers_of before) absent)
        ∙ ap (λ (p : PeerWatch). map (watch_at after) (peers_of before) ++ p ∷ []) (own_watch w e)
        ∙ sym (map-append (watch_at after) (peers_of before) (u.peer ∷ []))
        ∙ ap (map (watch_at after)) (sym peers)

-- ---- rows

module _ (listing : Listing) (choices : Choices) (u : ReplayUnit) where
  abbrev each : Note → ReplayUnit × Note
  each note = (u, note)

  early_rows : (notes : List Note) → is_before listing.since u.time ≡ true → map row_of (filter (is_listed listing choices) (map each notes)) ≡ []
  early_rows [] e = refl
  early_rows (note ∷ notes) e =
      ap (λ b. map row_of (cond (not b && (is_chosen_note choices note && is_asked listing.listed note.what)) (each note ∷ filter (is_listed listing choices) (map each notes)) (filter (is_listed listing choices) (map each notes)))) e
      ∙ early_rows notes e

  chosen_rows : (notes : List Note) → is_before listing.since u.time ≡ false → map row_of (filter (is_listed listing choices) (map each notes)) ≡ asked_rows listing.listed u (chosen_notes choices notes)
  chosen_rows [] e = refl
  chosen_rows (note ∷ notes) e =
      let rest = filter (is_listed listing choices) (map each notes) in
      let more = chosen_rows notes e in
      ap (λ b. map row_of (cond (not b && (is_chosen_note choices note && is_asked listing.listed note.what)) (each note ∷ rest) rest)) e
      ∙ elim (is_chosen_note choices note) as (λ b. map row_of (cond (b && is_asked listing.listed note.what) (each note ∷ rest) rest) ≡ asked_rows listing.listed u (cond b (note ∷ chosen_notes choices notes) (chosen_notes choices notes))) [
        | true ↦ elim (is_asked listing.listed note.what) as (λ b. map row_of (cond b (each note ∷ rest) rest) ≡ map (λ n. row_of (each n)) (cond b (note ∷ filter (λ n. is_asked listing.listed n.what) (chosen_notes choices notes)) (filter (λ n. is_asked listing.listed n.what) (chosen_notes choices notes)))) [
          | true ↦ ap (λ (l : List RowState). row_of (each note) ∷ l) more
          | false ↦ more
        ]
        | false ↦ more
      ]

  unit_rows : (notes : List Note) → map row_of (filter (is_listed listing choices) (map each notes)) ≡ listed_rows listing u (chosen_notes choices notes)
  unit_rows notes =
      elim (is_before listing.since u.time) as (λ b. is_before listing.since u.time ≡ b → map row_of (filter (is_listed listing choices) (map each notes)) ≡ (if b then [] else asked_rows listing.listed u (chosen_notes choices notes))) [
        | true ↦ early_rows notes
        | false ↦ chosen_rows notes
      ] refl

-- rows with more notes
kept_rows : (unit : Option RowUnit) (rows : List RowState) (notes : List Note) → fold keep_row (record { listed = rows; unit = unit }) notes ≡ record { listed = rows ++ flat_map (asked_row unit) notes; unit = unit }
kept_rows unit rows [] = ap (λ (l : List RowState). record { listed = l; unit = unit }) (sym (append-nil rows))
kept_rows unit rows (note ∷ notes) =
    kept_rows unit (rows ++ asked_row unit note) notes
    ∙ ap (λ (l : List RowState). record { listed = l; unit = unit }) (append_assoc rows (asked_row unit note) (flat_map (asked_row unit) notes) ∙ ap (λ l. rows ++ l) (sym (flat_map-cons (asked_row unit) note notes)))

no_rows : (notes : List Note) → flat_map (asked_row None) notes ≡ []
no_rows [] = refl
no_rows (note ∷ notes) = flat_map-cons (asked_row None) note notes ∙ no_rows notes

rows_asked : (listed : Listed) (u : ReplayUnit) (notes : List Note) → flat_map (asked_row (Some (record { time = u.time; by = by_of u.payload; listed = listed; peer = u.peer }))) notes ≡ asked_rows listed u notes
rows_asked listed u [] = refl
rows_asked listed u (note ∷ notes) =
    flat_map-cons (asked_row (Some (record { time = u.time; by = by_of u.payload; listed = listed; peer = u.peer }))) note notes
    ∙ elim (is_asked listed note.what) as (λ b. (if b then row_of (u, note) ∷ [] else []) ++ flat_map (asked_row (Some (record { time = u.time; by = by_of u.payload; listed = listed; peer = u.peer }))) notes ≡ map (λ n. row_of (u, n)) (cond b (note ∷ filter (λ n. is_asked listed n.what) notes) (filter (λ n. is_asked listed n.what) notes))) [
      | true ↦ ap (λ (l : List RowState). row_of (u, note) ∷ l) (rows_asked listed u notes)
      | false ↦ rows_asked listed u notes
    ]

rows_of_unit : (listing : Listing) (u : ReplayUnit) (notes : List Note) → flat_map (asked_row (row_unit listing u)) notes ≡ listed_rows listing u notes
rows_of_unit listing u notes =
    elim (is_before listing.since u.time) as (λ b. flat_map (asked_row (if b then None else Some (record { time = u.time; by = by_of u.payload; listed = listing.listed; peer = u.peer }))) notes ≡ (if b then [] else asked_rows listing.listed u notes)) [
      | true ↦ no_rows notes
      | false ↦ rows_asked listing.listed u notes
    ]

-- the rows after a unit whose notes were kept as its rows
pub unit_kept : (listing : Listing) (u : ReplayUnit) (begun told : RowsState) (notes : List Note) → begun.unit ≡ row_unit listing u → told ≡ fold keep_row begun notes → told.listed ≡ begun.listed ++ listed_rows listing u notes
unit_kept listing u begun told notes unit kept =
    ap (λ (r : RowsState). r.listed) (kept ∙ kept_rows begun.unit begun.listed notes)
    ∙ ap (λ w. begun.listed ++ flat_map (asked_row w) notes) unit ∙ ap (λ l. begun.listed ++ l) (rows_of_unit listing u notes)

pub rows_after : (listing : Listing) (choices : Choices) (before : List ReplayUnit) (u : ReplayUnit) (rows told : List RowState) (notes : List Note) → notes ≡ chosen_notes choices (unit_notes (units_of_peer before u.peer) u) → told ≡ rows ++ listed_rows listing u notes → rows ≡ history_rows listing choices before
    → told ≡ history_rows listing choices (before ++ u ∷ [])
unfolding history_rows history_of
rows_after listing choices before u rows told notes are more so_far =
    let own = unit_notes (units_of_peer before u.peer) u in
    let now : List (ReplayUnit × Note) = map (λ note. (u, note)) own in
    more ∙ ap (λ n. rows ++ listed_rows listing u n) are
    ∙ ap (λ l. rows ++ l) (sym (unit_rows listing choices u own))
    ∙ ap (λ (l : List RowState). l ++ map row_of (filter (is_listed listing choices) now)) so_far
    ∙ sym (map-append row_of (filter (is_listed listing choices) (history_of before)) (filter (is_listed listing choices) now))
    ∙ ap (map row_of) (sym (filter-append (is_listed listing choices) (history_of before) now))
    ∙ ap (λ l. map row_of (filter (is_listed listing choices) l)) (sym (flat_map_after-push (λ (b : List ReplayUnit) (v : ReplayUnit). map (λ note. (v, note)) (unit_notes (units_of_peer b v.peer) v)) [] before u))

-- ---- positions

pub key_of : {W : Type 0} (see : W → PeerWatch) (ws : List W) (n : ℕ) (d : W) → n < length ws → slice_get (keys_in (map see ws)) n ≡ Some (see (get_or ws n d)).key
key_of see [] n d h = absurd (omega (arith, h))
key_of see (w ∷ ws) zero d h = refl
key_of see (w ∷ ws) (suc n) d h = key_of see ws n d (omega (arith, h))

-- a peer without a number has no watch
pub unlisted : (watches : List PeerWatch) (keys : List PeerKey) (q : PeerKey) → keys_in watches ≡ keys → list_any (peer_eq q) keys ≡ false → list_any (peer_eq q) (keys_in watches) ≡ false
unlisted watches keys q are new = ap (list_any (peer_eq q)) are ∙ new

-- a position at which a key is found is within the list
pub within_keys : (watches : List PeerWatch) (n : ℕ) (k : PeerKey) → slice_get (keys_in watches) n ≡ Some k → n < length watches
within_keys [] n k e = cc
within_keys (w ∷ watches) zero k e = omega arith
within_keys (w ∷ watches) (suc n) k e = let later = within_keys watches n k e in omega (arith, later)

pub key_there : (watches : List PeerWatch) (n : ℕ) (k : PeerKey) (d : PeerWatch) → slice_get (keys_in watches) n ≡ Some k → (get_or watches n d).key ≡ k
key_there [] n k d e = cc
key_there (w ∷ watches) zero k d e = some_is w.key k e
key_there (w ∷ watches) (suc n) k d e = key_there watches n k d e

-- no peer of no units has a watch
pub watches_none : (since : Option ℕ) (choices : Choices) → [] ≡ watches_of since choices []
unfolding watches_of peers_of
watches_none since choices = refl
