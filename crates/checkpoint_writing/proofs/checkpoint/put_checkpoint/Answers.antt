use Rattle.std.proofs.Common.{◌≡◌, ◌++◌, map, sym, subst}
use Rattle.std.specs.List.{flat_map}
use Rattle.peer_tables.specs.Seats.{seat_of}
use Rattle.mrt_writing.specs.Records.{record_bytes}
use Rattle.mrt_writing.specs.Dumps.{index_record}
use Rattle.table_dumps.specs.Checkpoints.{record_split}
use Rattle.checkpoint_writing.specs.Merging.{parts_among}
use Rattle.checkpoint_writing.specs.Dumping.{parts_bytes}
use Rattle.checkpoint_writing.specs.Leaving.{AreListsShort, kept_entries, state_bytes, updates_bytes, written_checkpoint}
use Rattle.checkpoint_writing.proofs.DumpLaws.{grows_then, grows_as}
use Rattle.checkpoint_writing.proofs.LeavingLaws.{lists_short, whole_is}
use Rattle.checkpoint_writing.proofs.checkpoint.put_checkpoint.Goals as goal

pub put_prefixes-requires-clause-short : goal.put_prefixes-requires-clause-short
put_prefixes-requires-clause-short g c =
    let family = g.F.Unicast.family in
    subst (AreListsShort family) (sym c.in_ok-merge.ensures.lists) (lists_short family (λ s. (seat_of s).session.table) c.args.seats.now)

pub returns-clause-written : goal.returns-clause-written
returns-clause-written g c =
    let family = g.F.Unicast.family in
    let contents = g.W.Sink.contents in
    let split = record_split family in
    let before = c.args.records.now in
    let seconds = before.seconds in
    let seats = c.args.seats.now in
    let index = record_bytes (index_record family seconds (map (λ s. s.key) seats)) in
    let states = flat_map (λ s. state_bytes c.args.rule family seconds (seat_of s)) seats in
    let prefixes = parts_bytes family seconds 0 (parts_among split (map (λ s. kept_entries family (seat_of s).session.table) seats)) in
    let updates = flat_map (λ s. updates_bytes family seconds (seat_of s)) seats in
    let numbered : parts_bytes family seconds before.sequence (parts_among split c.in_ok-merge.merge.lists) ≡ prefixes =
    (λ i. parts_bytes family seconds (c.requires.first i) (parts_among split (c.in_ok-merge.ensures.lists i))) in
    let by_prefix = grows_as (contents c.put_states.new.out) (contents c.put_prefixes.new.out) c.put_states.new.waiting.items c.put_prefixes.new.records.waiting.items (parts_bytes family seconds before.sequence (parts_among split c.in_ok-merge.merge.lists)) prefixes numbered c.in_ok-put_prefixes.ensures.records in
    let behind = grows_then (contents c.put_states.new.out) (contents c.put_prefixes.new.out) (contents c.put_updates.new.out) c.put_states.new.waiting.items c.put_prefixes.new.records.waiting.items c.put_updates.new.waiting.items prefixes updates by_prefix c.in_ok-put_updates.ensures in
    let peers = grows_then (contents c.put_index.new.out) (contents c.put_states.new.out) (contents c.put_updates.new.out) c.put_index.new.waiting.items c.put_states.new.waiting.items c.put_updates.new.waiting.items states (prefixes ++ updates) c.in_ok-put_states.ensures behind in
    let all = grows_then (contents c.args.out.now) (contents c.put_index.new.out) (contents c.put_updates.new.out) before.waiting.items c.put_index.new.waiting.items c.put_updates.new.waiting.items index (states ++ (prefixes ++ updates)) c.in_ok-put_index.ensures peers in
    grows_as (contents c.args.out.now) (contents c.put_updates.new.out) before.waiting.items c.put_updates.new.waiting.items (index ++ (states ++ (prefixes ++ updates))) (written_checkpoint c.args.rule family seconds (map (λ s. seat_of s) seats))
    (whole_is c.args.rule family seconds (λ s. seat_of s) seats) all
