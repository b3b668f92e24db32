-- A reading that carries the index in force gives what the nearest earlier index table gives.
use Rattle.std.proofs.Common.{◌≡◌, ℕ, Bool, true, false, cond, List, [], ◌∷◌, ◌++◌, Option, Some, None, refl, sym, ap, ◌∙◌, append-nil, append_assoc}
use Rattle.std.specs.List.{filter_map, cons_option, last_or}
use Rattle.std.specs.Option.{option_and_then}
use Rattle.std.proofs.lemmas.List.Elements.{filter_map-append}
use Rattle.mrt_frame.specs.declared.cut.Cut.{Cut}
use Rattle.mrt_frame.specs.declared.cut.Cut.TheVariants.{Whole, Broken}
use Rattle.mrt_frame.specs.Cuts.{cuts}
use Rattle.mrt_frame.specs.Positions.{flat_map_after}
use Rattle.bgp_update.specs.Families.{FamilyOf}
use Rattle.peer_units.specs.Plain.{Found}
use Rattle.peer_units.specs.Choices.{UnitSelection}
use Rattle.peer_units.specs.declared.unit.PeerKey.{PeerKey}
use Rattle.mrt_body.specs.RibDumps.{DumpsState}
use Rattle.mrt_body.specs.Units.{body_kind_of, is_index_content, index_of_body, index_body, index_before, index_after, dumps_after, dumps_behind_cuts, found_at, found_from, found_in_file}

last_or-append : {A : Type 0} (o : Option A) (xs ys : List A) → last_or o (xs ++ ys) ≡ last_or (last_or o xs) ys
last_or-append o [] ys = refl
last_or-append o (x ∷ xs) ys = last_or-append (Some x) xs ys

with_body : (b : Bool) (body : List ℕ) (o : Option (List ℕ)) → option_and_then index_of_body (last_or o (cons_option (cond b (Some body) None) [])) ≡ cond b (index_of_body body) (option_and_then index_of_body o)
with_body true body o = refl
with_body false body o = refl

index_of_cut : (family : FamilyOf) (cut : Cut) (o : Option (List ℕ)) → option_and_then index_of_body (last_or o (cons_option (index_body family cut) [])) ≡ index_after family (option_and_then index_of_body o) cut
index_of_cut family (Whole r) o = with_body (is_index_content (body_kind_of family r.kind r.subtype)) r.body o
index_of_cut family (Broken offset fault) o = refl

pub index_before-push : (family : FamilyOf) (earlier : List Cut) (cut : Cut) → index_before family (earlier ++ cut ∷ []) ≡ index_after family (index_before family earlier) cut
index_before-push family earlier cut =
    ap (λ (bodies : List (List ℕ)). option_and_then index_of_body (last_or None bodies)) (filter_map-append (index_body family) earlier (cut ∷ []))
    ∙ ap (option_and_then index_of_body) (last_or-append None (filter_map (index_body family) earlier) (cons_option (index_body family cut) []))
    ∙ index_of_cut family cut (last_or None (filter_map (index_body family) earlier))

-- the index in force after these cuts, from the one before them
abbrev index_behind : FamilyOf → Option (List PeerKey) → List Cut → Option (List PeerKey)
index_behind family index [] = index
index_behind family index (cut ∷ others) = index_behind family (index_after family index cut) others

index_before-behind : (family : FamilyOf) (earlier others : List Cut) → index_behind family (index_before family earlier) others ≡ index_before family (earlier ++ others)
index_before-behind family earlier [] = ap (index_before family) (sym (append-nil earlier))
index_before-behind family earlier (cut ∷ others) =
    ap (λ (index : Option (List PeerKey)). index_behind family index others) (sym (index_before-push family earlier cut))
    ∙ index_before-behind family (earlier ++ cut ∷ []) others
    ∙ ap (index_before family) (append_assoc earlier (cut ∷ []) others)

module _ (file : ℕ) (selection : UnitSelection) where
  abbrev dumps_from : Option (List PeerKey) → DumpsState → List Cut → DumpsState
  dumps_from index dumps earlier = dumps_behind_cuts file selection index dumps earlier

  dumps_from-push : (index : Option (List PeerKey)) (dumps : DumpsState) (earlier : List Cut) (cut : Cut) → dumps_from index dumps (earlier ++ cut ∷ []) ≡ dumps_after file selection (index_behind selection.rules.family index earlier) (dumps_from index dumps earlier) cut
  dumps_from-push index dumps [] cut = refl
  dumps_from-push index dumps (c ∷ earlier) cut = dumps_from-push (index_after selection.rules.family index c) (dumps_after file selection index dumps c) earlier cut

  dumps_before-push : (dumps : DumpsState) (earlier : List Cut) (cut : Cut) → dumps_from None dumps (earlier ++ cut ∷ []) ≡ dumps_after file selection (index_before selection.rules.family earlier) (dumps_from None dumps earlier) cut
  dumps_before-push dumps earlier cut =
      dumps_from-push None dumps earlier cut
      ∙ ap (λ (index : Option (List PeerKey)). dumps_after file selection index (dumps_from None dumps earlier) cut) (index_before-behind selection.rules.family [] earlier)

  pub found_from-is : (dumps : DumpsState) (earlier others : List Cut) → flat_map_after (λ before cut. found_at file selection (index_before selection.rules.family before) (dumps_from None dumps before) cut) earlier others ≡ found_from file selection (index_before selection.rules.family earlier) (dumps_from None dumps earlier) others
  found_from-is dumps earlier [] = refl
  found_from-is dumps earlier (cut ∷ others) =
      ap (λ (rest : List Found). found_at file selection (index_before selection.rules.family earlier) (dumps_from None dumps earlier) cut ++ rest)
      (found_from-is dumps (earlier ++ cut ∷ []) others
      ∙ (λ i. found_from file selection (index_before-push selection.rules.family earlier cut i) (dumps_before-push dumps earlier cut i) others))

-- a file's units and refusals, as a reading of it from its start goes on
pub found_in_file-is : (selection : UnitSelection) (file : ℕ) (dumps : DumpsState) (bytes : List ℕ) → found_in_file selection file dumps bytes ≡ found_from file selection None dumps (cuts 0 bytes)
found_in_file-is selection file dumps bytes = found_from-is file selection dumps [] (cuts 0 bytes)
