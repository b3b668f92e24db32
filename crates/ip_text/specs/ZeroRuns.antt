-- Runs of zeros in a list of groups.
use Rattle.std.specs.Prelude.{◌≡◌, ℕ, ◌+◌, ◌≤◌, ◌==◌, List, drop, length, take, replicate, if◌then◌else◌}
use Rattle.std.specs.Net.Text.{longest_zero_run}
use Rattle.ip_text.specs.Digits.{groups_of}
use Rattle.ip_text.specs.declared.zero_run.ZeroRun.{ZeroRun}

-- so many zeros from this place on
pub record IsZeroRun (groups : List ℕ) (start len : ℕ) : Type 0 where
  pub within : start + len ≤ length groups
  pub zeros : take len (drop start groups) ≡ replicate len 0

-- it is the longest run of zeros, and the first of those
pub record IsFirstLongest (groups : List ℕ) (start len : ℕ) : Type 0 where
  pub run : IsZeroRun groups start len
  pub longest : (s n : ℕ) → IsZeroRun groups s n → n ≤ len
  pub first : (s n : ℕ) → IsZeroRun groups s n → n ≡ len → start ≤ s

-- the longest run of zeros among the eight bits of a number
pub record IsZeroRunOf (mask : ℕ) (run : ZeroRun) : Type 0 where
  pub start : (longest_zero_run (groups_of 2 8 mask)).0 ≡ run.start
  pub len : (longest_zero_run (groups_of 2 8 mask)).1 ≡ run.len
  pub within : run.start + run.len ≤ 8

-- 0 for 0, and 1 for any other
abbrev pub bit : ℕ → ℕ
bit g = if g == 0 then 0 else 1
