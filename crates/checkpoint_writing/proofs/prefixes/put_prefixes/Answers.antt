use Rattle.std.proofs.Common.{◌≡◌, ◌<◌, [], ℕ, List, Option, sym, subst, ◌∙◌}
use Rattle.std.specs.Option.{IfSome, MatchOption}
use Rattle.bgp_prefix.specs.Prefixes.{IpPrefix}
use Rattle.mrt_writing.specs.RibRecords.{PrefixRoute}
use Rattle.table_dumps.specs.Checkpoints.{record_split, parts_of}
use Rattle.checkpoint_writing.specs.Merging.{TakesLeast, parts_among, prefixes_among, entries_count}
use Rattle.checkpoint_writing.specs.Dumping.{AreShort, Grows, GrowsTo, parts_bytes}
use Rattle.checkpoint_writing.specs.Leaving.{AreListsShort}
use Rattle.checkpoint_writing.proofs.DumpLaws.{grows_on, grows_end, grows_none, grows_as}
use Rattle.checkpoint_writing.proofs.PrefixesLaws.{among_short, without_short, prefix_step, none_step}
use Rattle.checkpoint_writing.proofs.prefixes.put_prefixes.Goals as goal

pub loop-routes-preserved : goal.loop-routes-preserved
loop-routes-preserved g c =
    let family = g.F.Unicast.family in
    let split = record_split family in
    let contents = g.W.Sink.contents in
    let before = c.args.records.now in
    let l = c.loop-routes in
    let p = c.in-Some.prefix in
    let old = l.merge.lists in
    let new = c.next.new.self.lists in
    let routes = c.as_slice.result.now in
    let records = c.put_prefix.new.self in
    let found = subst (λ (o : Option IpPrefix). IfSome o (TakesLeast old new c.next.new.routes.items)) c.in-Some.is c.in_ok-prefix.ensures.least in
    let taken = subst (λ (rs : List PrefixRoute). TakesLeast old new rs p) (sym c.as_slice.ensures.value) found in
    let all = parts_bytes family before.seconds before.sequence (parts_among split c.args.merge.now.lists) in
    let come = parts_bytes family before.seconds l.records.sequence (parts_of (split p) p routes) in
    let left = parts_bytes family before.seconds records.sequence (parts_among split new) in
    let so_far = subst (GrowsTo (contents c.args.out.now) before.waiting.items (contents l.out) l.records.waiting.items all) (prefix_step family before.seconds l.records.sequence records.sequence p old new routes taken c.in_ok-put_prefix.ensures.sequence) l.invariant.records in
    let grown = subst (λ (s : ℕ). Grows (contents l.out) l.records.waiting.items (contents c.put_prefix.new.out) records.waiting.items (parts_bytes family s l.records.sequence (parts_of (split p) p routes))) l.invariant.seconds c.in_ok-put_prefix.ensures.records in
    record {
      merge = c.in_ok-prefix.ensures.merge;
      short = subst (AreListsShort family) (sym taken.left) (without_short family p old l.invariant.short);
      seconds = c.put_prefix.ensures.seconds ∙ l.invariant.seconds;
      records = grows_on (contents c.args.out.now) (contents l.out) (contents c.put_prefix.new.out) before.waiting.items l.records.waiting.items records.waiting.items all come left so_far grown;
    }

pub returns-clause-records : goal.returns-clause-records
returns-clause-records g c =
    let family = g.F.Unicast.family in
    let contents = g.W.Sink.contents in
    let before = c.args.records.now in
    let l = c.loop-routes in
    let new = c.next.new.self.lists in
    let none = subst (λ (o : Option IpPrefix). MatchOption o (prefixes_among l.merge.lists ≡ []) (λ _. entries_count new < entries_count l.merge.lists)) c.in_default.is c.in_ok-prefix.ensures.none in
    let all = parts_bytes family before.seconds before.sequence (parts_among (record_split family) c.args.merge.now.lists) in
    let left = parts_bytes family before.seconds l.records.sequence (parts_among (record_split family) l.merge.lists) in
    grows_end (contents c.args.out.now) (contents l.out) (contents l.out) before.waiting.items l.records.waiting.items l.records.waiting.items all left l.invariant.records
    (grows_as (contents l.out) (contents l.out) l.records.waiting.items l.records.waiting.items [] left (sym (none_step family before.seconds l.records.sequence l.merge.lists none)) (grows_none (contents l.out) l.records.waiting.items))

pub put_prefix-requires : goal.put_prefix-requires
put_prefix-requires g c =
    let family = g.F.Unicast.family in
    let l = c.loop-routes in
    let found = subst (λ (o : Option IpPrefix). IfSome o (TakesLeast l.merge.lists c.next.new.self.lists c.next.new.routes.items)) c.in-Some.is c.in_ok-prefix.ensures.least in
    subst (AreShort family) (sym (c.as_slice.ensures.value ∙ found.routes_are)) (among_short family c.in-Some.prefix 0 l.merge.lists l.invariant.short)

pub loop-routes-smaller : goal.loop-routes-smaller
loop-routes-smaller g c =
    let l = c.loop-routes in
    subst (λ (o : Option IpPrefix). MatchOption o (prefixes_among l.merge.lists ≡ []) (λ _. entries_count c.next.new.self.lists < entries_count l.merge.lists)) c.in-Some.is c.in_ok-prefix.ensures.none
