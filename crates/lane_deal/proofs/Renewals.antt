-- The lanes are renewed one by one.
use Rattle.std.proofs.Common.{ℕ, ◌+◌, ◌<◌, List, [], ◌∷◌, ◌++◌, length, slice_index_or, ap, ◌∙◌, arith, below_more}
use Rattle.std.proofs.lemmas.List.{length_push, get_or_append_left, get_or_push}
use Rattle.unit_rings.specs.Plain.{PeerUnit}
use Rattle.lane_deal.specs.Plain.{LaneSender, Worker}
use Rattle.lane_deal.specs.LaneRings.{IsFresh, AreFresh}

module _ {S : Type 0} (stands_for : S → List PeerUnit → Type 0) (capacity : ℕ) where
  pub AreFresh-more : (k : ℕ) (fs : List LaneSender) (ws : List (Worker S)) (f : LaneSender) (w : Worker S) → AreFresh stands_for capacity k fs ws → IsFresh stands_for capacity f w → AreFresh stands_for capacity (k + 1) (fs ++ f ∷ []) (ws ++ w ∷ [])
  AreFresh-more k fs ws f w p q =
      record {
        senders_count = length_push fs f ∙ ap (λ n. n + 1) p.senders_count;
        workers_count = length_push ws w ∙ ap (λ n. n + 1) p.workers_count;
        each =
            λ lane d e.
            below_more
            (λ n. IsFresh stands_for capacity (slice_index_or (fs ++ f ∷ []) n d) (slice_index_or (ws ++ w ∷ []) n e))
            k
            (λ n m.
            let a : n < length fs = (let c = p.senders_count in omega arith) in
            let b : n < length ws = (let c = p.workers_count in omega arith) in
            rw (get_or_append_left fs (f ∷ []) d n a, get_or_append_left ws (w ∷ []) e n b) (p.each n d e m))
            (rw (get_or_push fs f d k p.senders_count, get_or_push ws w e k p.workers_count) q)
            lane;
      }
