-- The list of a RIB record's entries, as a loop makes it and as it is given out.
use Rattle.std.proofs.Common.{◌≡◌, ℕ, ◌+◌, ◌-◌, ◌≤◌, Bool, List, [], ◌∷◌, ◌++◌, length, map, take, drop, Ok, refl, ap, subst, ◌∙◌, arith}
use Rattle.std.proofs.Math.Seq.{take-append_seam}
use Rattle.std.proofs.lemmas.List.{length-append, map-append}
use Rattle.mrt_body.specs.declared.rib.ListedEntry.{ListedEntry}
use Rattle.mrt_body.specs.RibRecords.{ReadEntry, read_entry_at}
use Rattle.mrt_body.specs.Listed.{AreNumbered, IsListed, read_listed}
use Rattle.mrt_body.proofs.Behind.{Behind, behind-le, behind-drop, behind_more}
use Rattle.bgp_update.proofs.Readings.{push}
use Rattle.mrt_body.proofs.EntryLaws.{entry_takes, written_entry}

-- a part of a body, so many bytes before its end
part_at : (body part after : List ℕ) → Behind body (part ++ after) → take (length part) (drop (length body - length after - length part) body) ≡ part
part_at body part after b =
    let place : length body - length after - length part ≡ length body - length (part ++ after) = omega (arith, length-append part after) in
    ap (λ (n : ℕ). take (length part) (drop n body)) place
    ∙ ap (take (length part)) (behind-drop body (part ++ after) b)
    ∙ take-append_seam part after

abbrev pub listed_of : ℕ → List ℕ → ReadEntry → List ℕ → ListedEntry
listed_of number body e after = record { start = length body - length after - length e.attributes; identifier = e.identifier; peer = e.peer; len = length e.attributes; number = number }

module _ (add_path : Bool) (peers : ℕ) (body : List ℕ) (rest : List ℕ) (e : ReadEntry) (after : List ℕ) (number : ℕ) where
  -- an entry that was read behind others
  pub record Lists : Type 0 where
    pub room : length e.attributes + length after ≤ length body
    pub long : length after + 8 ≤ length rest
    pub left : Behind body after
    pub says : read_listed body (listed_of number body e after) ≡ e
    pub within : IsListed peers (length body) (listed_of number body e after)

  pub lists : Behind body rest → read_entry_at add_path peers rest ≡ Ok (e, after) → Lists
  lists b read =
      let w = written_entry add_path peers rest e after read in
      let t = entry_takes add_path peers rest (w.0, after) w.1 in
      let attributes : w.0.attributes ≡ e.attributes = ap (λ (x : ReadEntry). x.attributes) w.2 in
      let peer : w.0.peer ≡ e.peer = ap (λ (x : ReadEntry). x.peer) w.2 in
      let known = t.known in
      let stands : Behind body (e.attributes ++ after) = behind_more body rest (e.attributes ++ after) b (subst (λ (l : List ℕ). Behind rest (l ++ after)) attributes t.behind) in
      let room = behind-le body (e.attributes ++ after) stands in
      record {
        room = omega (arith, room, length-append e.attributes after);
        long = t.long;
        left = behind_more body (e.attributes ++ after) after stands (record { front = e.attributes; parts = refl });
        says = ap (λ (l : List ℕ). record { peer = e.peer; identifier = e.identifier; attributes = l }) (part_at body e.attributes after stands);
        within = record { peer = omega (arith, peer, known); attributes = omega (arith, room, length-append e.attributes after) };
      }

-- one more is listed
pub listed_more : (body : List ℕ) (list : List ListedEntry) (l : ListedEntry) (e : ReadEntry) → read_listed body l ≡ e → map (read_listed body) (list ++ l ∷ []) ≡ push (map (read_listed body) list) e
listed_more body list l e says = map-append (read_listed body) list (l ∷ []) ∙ ap (λ (x : ReadEntry). map (read_listed body) list ++ x ∷ []) says

-- with the next number
pub numbered_more : (n : ℕ) (list : List ListedEntry) (l : ListedEntry) → l.number ≡ n + length list → AreNumbered n list → AreNumbered n (list ++ l ∷ [])
numbered_more n [] l number h = (number ∙ omega arith, tt)
numbered_more n (e ∷ list) l number h = (h.0, numbered_more (n + 1) list l (omega (arith, number)) h.1)
