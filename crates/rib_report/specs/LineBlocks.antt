-- Blocks: lines of successive entries that a thread makes while another one writes.
use Rattle.std.specs.Prelude.{◌≡◌, ℕ, ◌≤◌, List, [], ◌∷◌, false, length}
use Rattle.std.specs.List.{All, between}
use Rattle.bgp_prefix.specs.Keys.{RouteKey}
use Rattle.bgp_update.specs.declared.route.Route.{Route}
use Rattle.report_lines.specs.Plain.{ShownPeer}
use Rattle.rib_report.specs.Listings.{reached_lines}
use Rattle.rib_report.specs.declared.reports.tables.line_block.LineBlock.{LineBlock}

-- the lines of the entries from one to before another
abbrev pub lines_between : ShownPeer → ℕ → ℕ → List (RouteKey × Route) → List ℕ
lines_between peer from to entries = reached_lines peer (between from to entries)

-- the first of its entries, and the first one after them
abbrev pub range_of : LineBlock → ℕ × ℕ
range_of p = (p.start, p.end)

-- their entries are among so many
abbrev pub AreRanges : ℕ → List LineBlock → Type 0
AreRanges count line_blocks = All (λ p. (p.start ≤ p.end) × (p.end ≤ count)) line_blocks

-- each range begins where the one before ends: all that is from one position to before another
abbrev pub AreSuccessive : ℕ → List (ℕ × ℕ) → ℕ → Type 0
AreSuccessive at [] end = at ≡ end
AreSuccessive at (r ∷ rs) end = (r.0 ≡ at) × AreSuccessive r.1 rs end

-- the text holds the lines of the first of its entries
pub record IsFilled (peer : ShownPeer) (entries : List (RouteKey × Route)) (p : LineBlock) : Type 0 where
  pub from : p.start ≤ p.done
  pub to : p.done ≤ p.end
  pub within : p.end ≤ length entries
  pub text : p.text.buffer ≡ record { waiting = lines_between peer p.start p.done entries; failed = false }
