-- Two lists whose items are changed in pairs, one pair after the other.
use Rattle.std.specs.Prelude.{◌≡◌, ℕ, ◌<◌, ◌≤◌, List, length, slice_index_or}

-- each pair below this position was changed so, and the others are as they were
pub record ChangedBelow {A B : Type 0} (Changed : A → A → B → B → Type 0) (count : ℕ) (firsts firsts' : List A)
    (seconds seconds' : List B) : Type 0 where
  pub firsts_count : length firsts' ≡ length firsts
  pub seconds_count : length seconds' ≡ length seconds
  pub each : (at : ℕ) (d : A) (e : B) → at < count →
      Changed (slice_index_or firsts at d) (slice_index_or firsts' at d) (slice_index_or seconds at e)
      (slice_index_or seconds' at e)
  pub firsts_rest : (at : ℕ) (d : A) → count ≤ at → slice_index_or firsts' at d ≡ slice_index_or firsts at d
  pub seconds_rest : (at : ℕ) (e : B) → count ≤ at → slice_index_or seconds' at e ≡ slice_index_or seconds at e
