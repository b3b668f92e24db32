use Rattle.std.proofs.Common.{◌≡◌, ◌+◌, ◌-◌, List, [], length, map, drop, refl, arith}
use Rattle.std.proofs.lemmas.List.{length-drop}
use Rattle.std.proofs.lemmas.List.Elements.{All-nil, All-push}
use Rattle.mrt_body.specs.Listed.{IsListed, read_listed}
use Rattle.mrt_body.specs.Many.{many}
use Rattle.mrt_body.specs.RibRecords.{ReadEntry, read_entry_at}
use Rattle.mrt_body.proofs.Behind.{behind_front}
use Rattle.bgp_update.proofs.Readings.{push}
use Rattle.mrt_body.proofs.ManyLaws.{no_minus, starts, goes_on, fails}
use Rattle.mrt_body.proofs.ListLaws.{lists, listed_of, listed_more, numbered_more}
use Rattle.mrt_body.proofs.rib.list_entries.Goals as goal

pub loop-index-init : goal.loop-index-init
loop-index-init c =
    let all = many (read_entry_at c.args.add_path c.args.peers) c.args.count (drop c.args.start c.args.body.now) in
    let none : List ReadEntry = [] in
    let left : length c.behind-rest.result.now ≡ length c.args.body.now - c.args.start = rw c.behind-rest.ensures (length-drop c.args.start c.args.body.now) in
    record {
      left = rw c.behind-rest.ensures (behind_front c.args.start c.args.body.now);
      says = rw (c.behind-rest.ensures, c.in_ok-reserve_exact.ensures.items, c.clear.ensures.items) (rw no_minus (starts all none refl));
      within = rw (c.in_ok-reserve_exact.ensures.items, c.clear.ensures.items) (All-nil (IsListed c.args.peers (length c.args.body.now)));
      numbered = rw (c.in_ok-reserve_exact.ensures.items, c.clear.ensures.items) tt;
      listed = omega (arith, c.in_ok-reserve_exact.ensures.len, c.clear.ensures.len);
      bytes = omega (arith, left);
      room = omega (arith, left, c.from.ensures, c.min.ensures, c.clear.ensures.len, c.in_ok-reserve_exact.ensures.ok);
      capacity = omega (arith, left, c.from.ensures, c.min.ensures, c.clear.ensures.len, c.clear.ensures.capacity, c.in_ok-reserve_exact.ensures.capacity_exact);
    }

pub listed_entry-requires-clause-within : goal.listed_entry-requires-clause-within
listed_entry-requires-clause-within c =
    (lists c.args.add_path c.args.peers c.args.body.now c.loop-index.rest.now _ c.in-Ok.after.now 0 c.loop-index.invariant.left c.in-Ok.ensures.reads).room

pub push_reserved-requires : goal.push_reserved-requires
push_reserved-requires c =
    let long = (lists c.args.add_path c.args.peers c.args.body.now c.loop-index.rest.now _ c.in-Ok.after.now 0 c.loop-index.invariant.left c.in-Ok.ensures.reads).long in
    omega (arith, long, c.loop-index.invariant.listed, c.loop-index.invariant.bytes, c.loop-index.invariant.room)

pub loop-index-preserved : goal.loop-index-preserved
loop-index-preserved c =
    let read = read_entry_at c.args.add_path c.args.peers in
    let body = c.args.body.now in
    let list = c.loop-index.list.items in
    let e : ReadEntry = record { peer = c.in-Ok.entry.peer; identifier = c.in-Ok.entry.identifier; attributes = c.in-Ok.entry.attributes.now } in
    let number = c.loop-index.index + 1 in
    let listed = listed_of number body e c.in-Ok.after.now in
    let l = lists c.args.add_path c.args.peers body c.loop-index.rest.now e c.in-Ok.after.now number c.loop-index.invariant.left c.in-Ok.ensures.reads in
    record {
      left = l.left;
      says = rw (c.push_reserved.ensures.items, c.listed_entry.ensures) (rw (listed_more body list listed e l.says) (goes_on read push (map (read_listed body) list) c.args.count c.loop-index.index c.loop-index.rest.now e c.in-Ok.after.now (many read c.args.count (drop c.args.start body)) (omega arith) c.in-Ok.ensures.reads c.loop-index.invariant.says));
      within = rw (c.push_reserved.ensures.items, c.listed_entry.ensures) (All-push (IsListed c.args.peers (length body)) list listed c.loop-index.invariant.within l.within);
      numbered = rw (c.push_reserved.ensures.items, c.listed_entry.ensures) (numbered_more 1 list listed (omega (arith, c.loop-index.invariant.listed)) c.loop-index.invariant.numbered);
      listed = omega (arith, c.push_reserved.ensures.len, c.loop-index.invariant.listed);
      bytes = omega (arith, l.long, c.loop-index.invariant.bytes);
      room = omega (arith, c.push_reserved.ensures.capacity, c.loop-index.invariant.room);
      capacity = omega (arith, c.push_reserved.ensures.capacity, c.loop-index.invariant.capacity);
    }

pub returns-in-Err-clause-listed : goal.returns-in-Err-clause-listed
returns-in-Err-clause-listed c =
    let read = read_entry_at c.args.add_path c.args.peers in
    fails read push (map (read_listed c.args.body.now) c.loop-index.list.items) c.args.count c.loop-index.index c.loop-index.rest.now c.in-Err.fault (many read c.args.count (drop c.args.start c.args.body.now)) (omega arith) c.in-Err.ensures.reads c.loop-index.invariant.says
