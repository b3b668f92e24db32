-- What a selection keeps of the entries of one record.
use Rattle.std.proofs.Common.{◌≡◌, ℕ, Bool, true, false, cond, ◌&&◌, List, [], ◌∷◌, length, map, drop, Option, Some, None, refl, sym, ap, ◌∙◌, arith}
use Rattle.std.specs.Prelude.{slice_index_or, if◌then◌else◌}
use Rattle.std.specs.List.{filter}
use Rattle.std.proofs.lemmas.List.Elements.{All-filter}
use Rattle.std.proofs.lemmas.List.Sums.{length-filter, count_by-le-length}
use Rattle.peer_units.specs.Choices.{UnitSelection, PeerShare, is_chosen, is_chosen_peer, is_in_share, has_no_peers, has_no_share}
use Rattle.peer_units.specs.declared.choice.PeerChoice.{PeerChoice}
use Rattle.mrt_body.specs.declared.rib.ListedEntry.{ListedEntry}
use Rattle.mrt_body.specs.Pending.{RibRecord}
use Rattle.peer_units.specs.declared.unit.PeerKey.{PeerKey}
use Rattle.peer_units.specs.Plain.{Unit as ReplayUnit}
use Rattle.mrt_body.specs.Units.{time_of, no_peer}
use Rattle.peer_units.specs.Selections.{is_past, is_selected, takes_each_peer, takes_peer, takes_record}
use Rattle.mrt_body.specs.Listed.{IsListed}
use Rattle.mrt_body.specs.Pending.{AreListed, listed_unit, units_left}

-- ---- what a filter keeps of what is made of items

module _ {X Y : Type 0} (p : Y → Bool) (f : X → Y) where
  kept_as : (test : X → Bool) → ((x : X) → p (f x) ≡ test x) → (xs : List X) → filter p (map f xs) ≡ map f (filter test xs)
  kept_as test same [] = refl
  kept_as test same (x ∷ xs) = rw (same x) (one (test x) (kept_as test same xs))
    where
      one : (b : Bool) → filter p (map f xs) ≡ map f (filter test xs) → cond b (f x ∷ filter p (map f xs)) (filter p (map f xs)) ≡ map f (cond b (x ∷ filter test xs) (filter test xs))
      one true h = ap (λ (ys : List Y). f x ∷ ys) h
      one false h = h

  all_kept : ((x : X) → p (f x) ≡ true) → (xs : List X) → filter p (map f xs) ≡ map f xs
  all_kept passes [] = refl
  all_kept passes (x ∷ xs) = rw (passes x) (ap (λ (ys : List Y). f x ∷ ys) (all_kept passes xs))

  none_kept : ((x : X) → p (f x) ≡ false) → (xs : List X) → filter p (map f xs) ≡ []
  none_kept fails [] = refl
  none_kept fails (x ∷ xs) = rw (fails x) (none_kept fails xs)

-- ---- the entries of a record, which have one time and one prefix

by_peer : (timely taken chosen : Bool) → (timely && chosen) ≡ true → (timely && (taken && chosen)) ≡ taken
by_peer true true true h = refl
by_peer true false true h = refl
by_peer true taken false h = absurd cc
by_peer false taken chosen h = absurd cc

by_none : (timely taken chosen : Bool) → (timely && chosen) ≡ false → (timely && (taken && chosen)) ≡ false
by_none true true chosen h = h
by_none true false chosen h = refl
by_none false taken chosen h = refl

pub each_taken : (choices : List PeerChoice) (share : Option PeerShare) (q : PeerKey) → (has_no_peers choices && has_no_share share) ≡ true → (is_chosen_peer choices q && is_in_share share q) ≡ true
each_taken [] None q h = refl
each_taken [] (Some share) q h = absurd cc
each_taken (choice ∷ choices) share q h = absurd cc

module _ (selection : UnitSelection) (peers : List PeerKey) (list : List ListedEntry) (r : RibRecord) (first : r.given ≡ 0) where
  abbrev entry_at : ListedEntry → ReplayUnit
  entry_at e = listed_unit r.rules r.at peers r.prefix r.body e

  abbrev taken : ListedEntry → Bool
  taken e = takes_peer selection (slice_index_or peers e.peer no_peer)

  abbrev timely : Bool
  timely = if is_past selection.until (time_of r.at 0) then false else true

  -- none was given, so that all are left
  all_left : (entries : List ListedEntry) → units_left peers entries r ≡ map entry_at entries
  all_left entries = ap (λ (n : ℕ). map entry_at (drop n entries)) first

  by_test : (e : ListedEntry) → takes_record selection (time_of r.at 0) r.prefix ≡ true → is_selected selection (entry_at e) ≡ taken e
  by_test e h = by_peer timely (taken e) (is_chosen selection.prefixes r.prefix) h

  pub some_selected : takes_record selection (time_of r.at 0) r.prefix ≡ true → units_left peers (filter taken list) r ≡ filter (is_selected selection) (units_left peers list r)
  some_selected h =
      all_left (filter taken list)
      ∙ sym (kept_as (is_selected selection) entry_at taken (λ e. by_test e h) list)
      ∙ ap (filter (is_selected selection)) (sym (all_left list))

  pub all_selected : takes_record selection (time_of r.at 0) r.prefix ≡ true → takes_each_peer selection ≡ true → units_left peers list r ≡ filter (is_selected selection) (units_left peers list r)
  all_selected h each =
      all_left list
      ∙ sym (all_kept (is_selected selection) entry_at (λ e. by_test e h ∙ each_taken selection.peers selection.share (slice_index_or peers e.peer no_peer) each) list)
      ∙ ap (filter (is_selected selection)) (sym (all_left list))

  pub none_selected : takes_record selection (time_of r.at 0) r.prefix ≡ false → units_left peers [] r ≡ filter (is_selected selection) (units_left peers list r)
  none_selected h =
      all_left []
      ∙ sym (none_kept (is_selected selection) entry_at (λ e. by_none timely (taken e) (is_chosen selection.prefixes r.prefix) h) list)
      ∙ ap (filter (is_selected selection)) (sym (all_left list))

  pub listed_kept : AreListed peers list r → AreListed peers (filter taken list) r
  listed_kept h =
      let few = h.few in
      record {
        given = omega (arith, first);
        few = omega (arith, few, length-filter taken list, count_by-le-length taken list);
        within = All-filter taken (IsListed (length peers) (length r.body)) list h.within;
      }
