use Rattle.std.proofs.Common.{◌≡◌, ◌+◌, [], Bool, List, ℕ, length, map, drop, sym, ap, ◌∙◌, subst, arith}
use Rattle.std.specs.List.{between}
use Rattle.mrt_writing.specs.RibRecords.{PrefixRoute}
use Rattle.table_dumps.specs.Checkpoints.{closed, split_after, fits_record}
use Rattle.checkpoint_writing.specs.Dumping.{Grows, GrowsTo, IsOpenPart, closed_by, next_part, part_of, parts_bytes}
use Rattle.checkpoint_writing.proofs.DumpLaws.{part_next, part_before, rest_next, left_step, count_step, grows_on, grows_end, grows_as, parts_end}
use Rattle.checkpoint_writing.proofs.prefix_records.PrefixRecords.put_prefix.Goals as goal

pub loop-at-preserved : goal.loop-at-preserved
loop-at-preserved g c =
    let family = g.F.Unicast.family in
    let l = c.loop-at in
    let routes = c.args.routes.now in
    let prefix = c.args.prefix.now in
    let add_path = c.have_identifiers-add_path.result in
    let seconds = c.args.self.now.seconds in
    let contents = g.W.Sink.contents in
    let fits = fits_record family add_path prefix in
    let f = c.in_ok-fits.fits in
    let e = c.index-routes-at.result in
    let start = c.part_start-from.result in
    let part = between l.from l.at routes in
    let new = c.put_route.new.self in
    let ens = c.in_ok-fits.ensures in
    let next = part_next routes f l.from l.at start e l.invariant.within c.loop-at-test.true c.index-routes-at.is c.part_start-from.ensures in
    let rest = rest_next routes l.at e c.loop-at-test.true c.index-routes-at.is in
    let later = drop (l.at + 1) routes in
    let come = parts_bytes family seconds l.self.sequence (map (part_of add_path prefix) (closed_by f part)) in
    let left = λ (p : List PrefixRoute). parts_bytes family seconds new.sequence (map (part_of add_path prefix) (split_after fits p later)) in
    let all = parts_bytes family seconds c.args.self.now.sequence (map (part_of add_path prefix) (split_after fits [] routes)) in
    let before =
    subst (GrowsTo (contents c.args.out.now) c.args.self.now.waiting.items (contents l.out) l.self.waiting.items all)
    (ap (λ (rs : List PrefixRoute). parts_bytes family seconds l.self.sequence (map (part_of add_path prefix) (split_after fits part rs))) rest
    ∙ left_step family seconds add_path prefix l.self.sequence new.sequence f part e later ens.fits ens.sequence)
    l.invariant.records in
    let grown =
    subst (λ (s : ℕ). Grows (contents l.out) l.self.waiting.items (contents c.put_route.new.out) new.waiting.items (parts_bytes family s l.self.sequence (map (part_of add_path prefix) (closed_by f part)))) l.invariant.seconds ens.records in
    let after = grows_on (contents c.args.out.now) (contents l.out) (contents c.put_route.new.out) c.args.self.now.waiting.items l.self.waiting.items new.waiting.items all come (left (next_part f part e)) before grown in
    let counted =
    count_step family seconds add_path prefix l.self.sequence new.sequence (c.args.self.now.sequence + length (split_after fits [] routes)) f part e later ens.fits ens.sequence
    (ap (λ (rs : List PrefixRoute). l.self.sequence + length (split_after fits part rs)) (sym rest) ∙ l.invariant.sequence) in
    record {
      within = part_before f l.from l.at start l.invariant.within c.part_start-from.ensures;
      seconds = ens.seconds ∙ l.invariant.seconds;
      begun = subst (λ (s : ℕ). IsOpenPart family add_path s (between start (l.at + 1) routes) new.entries.items) l.invariant.seconds (subst (λ (p : List PrefixRoute). IsOpenPart family add_path l.self.seconds p new.entries.items) (sym next) ens.begun);
      records = subst (λ (p : List PrefixRoute). GrowsTo (contents c.args.out.now) c.args.self.now.waiting.items (contents c.put_route.new.out) new.waiting.items all (left p)) (sym next) after;
      sequence = ap (λ (p : List PrefixRoute). new.sequence + length (split_after fits p later)) next ∙ counted;
    }

pub returns-clause-records : goal.returns-clause-records
returns-clause-records g c =
    let family = g.F.Unicast.family in
    let l = c.loop-at in
    let routes = c.args.routes.now in
    let prefix = c.args.prefix.now in
    let add_path = c.have_identifiers-add_path.result in
    let seconds = c.args.self.now.seconds in
    let contents = g.W.Sink.contents in
    let fits = fits_record family add_path prefix in
    let new = c.close.new.self in
    let last = parts_bytes family seconds l.self.sequence (map (part_of add_path prefix) (closed (between l.from (length routes) routes))) in
    let left = parts_bytes family seconds l.self.sequence (map (part_of add_path prefix) (split_after fits (between l.from l.at routes) (drop l.at routes))) in
    let all = parts_bytes family seconds c.args.self.now.sequence (map (part_of add_path prefix) (split_after fits [] routes)) in
    let at_end : l.at ≡ length routes = omega (arith, c.loop-at-test.false, l.auto.at-end) in
    let grown = subst (λ (s : ℕ). Grows (contents l.out) l.self.waiting.items (contents c.close.new.out) new.waiting.items (parts_bytes family s l.self.sequence (map (part_of add_path prefix) (closed (between l.from (length routes) routes))))) l.invariant.seconds c.in_ok-close.ensures.records in
    let rest = grows_as (contents l.out) (contents c.close.new.out) l.self.waiting.items new.waiting.items last left (sym (parts_end family seconds add_path prefix l.self.sequence l.from l.at routes at_end)) grown in
    let whole = grows_end (contents c.args.out.now) (contents l.out) (contents c.close.new.out) c.args.self.now.waiting.items l.self.waiting.items new.waiting.items all left l.invariant.records rest in
    subst (λ (b : Bool). Grows (contents c.args.out.now) c.args.self.now.waiting.items (contents c.close.new.out) new.waiting.items (parts_bytes family seconds c.args.self.now.sequence (map (part_of b prefix) (split_after (fits_record family b prefix) [] routes)))) c.have_identifiers-add_path.ensures whole
