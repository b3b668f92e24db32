-- Units that were decoded, one by one.
use Rattle.std.proofs.Common.{◌≡◌, ℕ, ◌<◌, List, [], ◌∷◌, ◌++◌, length, refl, sym, ap, ◌∙◌, arith, slice_index_or}
use Rattle.std.proofs.lemmas.List.{get_or-map, length-map, map-append}
use Rattle.peer_units.specs.Events.{event_in}
use Rattle.unit_rings.specs.Plain.{PeerUnit}
use Rattle.unit_rings.specs.DecodedUnitLists.{AreDecoded, BatchState, IsDecodedAt, head_of, no_batch}

pub AreDecoded-none : AreDecoded no_batch []
AreDecoded-none = record { heads = refl; events = refl }

pub AreDecoded-more : (before after : BatchState) (items : List PeerUnit) (item : PeerUnit) → AreDecoded before items → after.heads ≡ before.heads ++ head_of item ∷ [] → after.events ≡ before.events ++ event_in item.unit.payload ∷ [] → AreDecoded after (items ++ item ∷ [])
AreDecoded-more before after items item p heads events =
    record {
      heads = heads ∙ (ap (λ l. l ++ head_of item ∷ []) p.heads ∙ sym (map-append head_of items (item ∷ [])));
      events = events ∙ (ap (λ l. l ++ event_in item.unit.payload ∷ []) p.events ∙ sym (map-append (λ (i : PeerUnit). event_in i.unit.payload) items (item ∷ [])));
    }

pub decoded_count : (batch : BatchState) (items : List PeerUnit) → AreDecoded batch items → length batch.heads ≡ length items
decoded_count batch items p = ap length p.heads ∙ length-map items head_of

pub decoded_at : (batch : BatchState) (items : List PeerUnit) (at : ℕ) (d : PeerUnit) → AreDecoded batch items → at < length batch.heads → IsDecodedAt batch at (slice_index_or items at d)
decoded_at batch items at d p within =
    let l : at < length items = (let n = decoded_count batch items p in omega arith) in
    record {
      head = λ e. ap (λ hs. slice_index_or hs at e) p.heads ∙ get_or-map head_of items at d e l;
      event = λ e. ap (λ es. slice_index_or es at e) p.events ∙ get_or-map (λ (i : PeerUnit). event_in i.unit.payload) items at d e l;
    }
