use Rattle.std.proofs.Common.{◌∙◌, sym, arith, rules, ap, subst, map, length, take_all}
use Rattle.std.proofs.lemmas.Slice.{between_from_start}
use Rattle.std.specs.List.{All}
use Rattle.rib_report.specs.Lines.{route_line}
use Rattle.rib_report.specs.Reports.{entry_row}
use Rattle.rib_report.specs.Listings.{reached_lines}
use Rattle.report_lines.proofs.TextLaws.{Adds_as}
use Rattle.report_lines.proofs.JoinLaws.{Adds_failed}
use Rattle.rib_report.specs.LineBlocks.{AreRanges, AreSuccessive, IsFilled, range_of}
use Rattle.rib_report.proofs.LineBlockLists.{Adds_next, no_lines, written_back}
use Rattle.rib_report.proofs.reports.tables.parallel.put_by_line_blocks.Goals as goal

pub returns-then-has_failed : goal.returns-then-has_failed
returns-then-has_failed g c =
    let entries = c.args.entries.now in
    let start = c.loop-end.start in
    let so_far = Adds_next c.args.peer.now entries 0 0 start (omega arith) (omega arith) c.fill_and_put.ensures.put c.loop-end.invariant.written in
    Adds_failed (λ e. route_line c.args.peer.now.layout (entry_row c.args.peer.now.key e)) entries start
    (Adds_as (ap (reached_lines c.args.peer.now) (between_from_start entries start)) so_far) cc

pub loop-end-init : goal.loop-end-init
loop-end-init g c =
    let dealt = written_back c.args.writing.now.len c.args.writing.now.items c.deal_entries-end.new.line_blocks (search rules) (search rules) in
    let filled = written_back c.args.writing.now.len _ c.fill_and_put.new.filling (ap length dealt ∙ search rules) (search rules) in
    record {
      size = search rules;
      writing = search rules;
      filling = search rules;
      order = search rules;
      within = c.deal_entries-end.ensures.within;
      filled = subst (All (IsFilled c.args.peer.now c.args.entries.now)) (sym filled) c.fill_and_put.ensures.filled;
      successive = subst (λ l. AreSuccessive 0 (map range_of l) c.deal_entries-end.result) (sym filled)
          (subst (λ l. AreSuccessive 0 l c.deal_entries-end.result) (sym (c.fill_and_put.ensures.ranges ∙ ap (map range_of) (c.as_mut_slice-2.ensures.value ∙ dealt))) c.deal_entries-end.ensures.successive);
      written = no_lines c.args.peer.now c.args.entries.now 0;
    }

pub fill_and_put-requires-in-loop-end-clause-filled : goal.fill_and_put-requires-in-loop-end-clause-filled
fill_and_put-requires-in-loop-end-clause-filled g c κs within = subst (All (IsFilled c.args.peer.now c.args.entries.now)) (sym c.as_slice.ensures.value) c.loop-end.invariant.filled

pub fill_and_put-requires-in-loop-end-clause-next : goal.fill_and_put-requires-in-loop-end-clause-next
fill_and_put-requires-in-loop-end-clause-next g c κs within =
    let dealt = written_back c.loop-end.filling.len c.loop-end.filling.items c.deal_entries-next.new.line_blocks (search rules) (search rules) in
    subst (AreRanges (length c.args.entries.now)) (sym (c.as_mut_slice-in-loop-end-2.ensures.value ∙ dealt)) c.deal_entries-next.ensures.ranges

pub put_line_blocks-requires-clause-filled : goal.put_line_blocks-requires-clause-filled
put_line_blocks-requires-clause-filled g c = subst (All (IsFilled c.args.peer.now c.args.entries.now)) (sym c.as_slice-2.ensures.value) c.loop-end.invariant.filled

pub loop-end-preserved : goal.loop-end-preserved
loop-end-preserved g c =
    let round = c.fill_and_put-in-loop-end in
    let dealt = written_back c.loop-end.filling.len c.loop-end.filling.items c.deal_entries-next.new.line_blocks (search rules) (search rules) in
    let filled = written_back c.loop-end.filling.len _ round.new.filling (ap length dealt ∙ search rules) (search rules) in
    record {
      size = c.next_size-size.ensures;
      writing = search rules;
      filling = search rules;
      order = search rules;
      within = c.deal_entries-next.ensures.within;
      filled = rw c.swap.ensures.x_after (subst (All (IsFilled c.args.peer.now c.args.entries.now)) (sym filled) round.ensures.filled);
      successive = rw c.swap.ensures.x_after (subst (λ l. AreSuccessive c.loop-end.end (map range_of l) c.deal_entries-next.result) (sym filled)
          (subst (λ l. AreSuccessive c.loop-end.end l c.deal_entries-next.result) (sym (round.ensures.ranges ∙ ap (map range_of) (c.as_mut_slice-in-loop-end-2.ensures.value ∙ dealt))) c.deal_entries-next.ensures.successive));
      written = Adds_next c.args.peer.now c.args.entries.now 0 c.loop-end.start c.loop-end.end (omega arith) c.loop-end.invariant.order c.loop-end.invariant.written round.ensures.put;
    }

pub returns : goal.returns
returns g c =
    let entries = c.args.entries.now in
    let start = c.loop-end.start in
    let end = c.loop-end.end in
    let so_far = Adds_next c.args.peer.now entries 0 0 start (omega arith) (omega arith) c.fill_and_put.ensures.put c.loop-end.invariant.written in
    let last = Adds_next c.args.peer.now entries 0 start end (omega arith) c.loop-end.invariant.order so_far c.put_line_blocks.ensures in
    Adds_as (ap (reached_lines c.args.peer.now) (between_from_start entries end ∙ take_all end entries c.loop-end-test.false)) last
