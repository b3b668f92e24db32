use Rattle.std.proofs.Common.{◌≤◌, arith, ◌∙◌, length, take_all, subst}
use Rattle.std.specs.List.{All}
use Rattle.std.proofs.Math.Seq.{map-set_same}
use Rattle.std.proofs.lemmas.List.Elements.{All-get_or, All-set}
use Rattle.rib_report.specs.declared.reports.tables.line_block.LineBlock.{LineBlock}
use Rattle.rib_report.specs.LineBlocks.{IsFilled, range_of}
use Rattle.rib_report.proofs.LineBlockLists.{all_set}
use Rattle.rib_report.proofs.reports.tables.parallel.fill_each.Goals as goal

pub fill-requires : goal.fill-requires
fill-requires g c = All-get_or (λ (p : LineBlock). (p.start ≤ p.end) × (p.end ≤ length c.args.entries.now)) c.loop-at.line_blocks c.loop-at.at c.index-line_blocks-at.result (omega arith) c.loop-at.invariant.within

pub loop-at-preserved : goal.loop-at-preserved
loop-at-preserved g c =
    let filled = c.fill.ensures.filled in
    record {
      within = All-set (λ (p : LineBlock). (p.start ≤ p.end) × (p.end ≤ length c.args.entries.now)) c.loop-at.line_blocks c.loop-at.at c.fill.new.self (omega (arith, filled.from, filled.to), filled.within) c.loop-at.invariant.within;
      ranges = map-set_same range_of c.loop-at.line_blocks c.loop-at.at c.fill.new.self c.index-line_blocks-at.result c.fill.ensures.range ∙ c.loop-at.invariant.ranges;
      filled = all_set (IsFilled c.args.peer.now c.args.entries.now) c.loop-at.line_blocks c.loop-at.at c.fill.new.self (omega arith) c.loop-at.invariant.filled filled;
    }

pub returns-clause-filled : goal.returns-clause-filled
returns-clause-filled g c = subst (All (IsFilled c.args.peer.now c.args.entries.now)) (take_all c.loop-at.at c.loop-at.line_blocks (omega arith)) c.loop-at.invariant.filled
