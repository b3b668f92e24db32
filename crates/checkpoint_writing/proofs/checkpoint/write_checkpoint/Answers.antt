use Rattle.std.proofs.Common.{ℕ, [], List, length, map, arith, sym, ap, subst, ◌∙◌}
use Rattle.std.specs.List.{flat_map}
use Rattle.std.proofs.lemmas.List.{length-map}
use Rattle.std.proofs.lemmas.List.Folds.{flat_map-map}
use Rattle.peer_tables.specs.Seats.{seat_of}
use Rattle.peer_tables.specs.Tables.{Seat}
use Rattle.checkpoint_writing.specs.Dumping.{Grows}
use Rattle.checkpoint_writing.specs.Leaving.{left_entries, written_checkpoint}
use Rattle.checkpoint_writing.proofs.DumpLaws.{sent_all}
use Rattle.checkpoint_writing.proofs.checkpoint.write_checkpoint.Goals as goal

pub put_checkpoint-requires-clause-few : goal.put_checkpoint-requires-clause-few
put_checkpoint-requires-clause-few g c = omega (arith, c.requires, ap length c.seats.ensures, length-map c.seats.result.now seat_of)

pub returns-clause-written : goal.returns-clause-written
returns-clause-written g c =
    let family = g.F.Unicast.family in
    let contents = g.W.Sink.contents in
    let rule = c.args.rule in
    let first = c.new-records.result in
    let waiting = c.put_checkpoint.new.records.waiting.items in
    let grown =
    subst (λ (w : List ℕ). Grows (contents c.args.out.now) w (contents c.put_checkpoint.new.out) waiting (written_checkpoint rule family first.seconds (map (λ s. seat_of s) c.seats.result.now))) c.new-records.ensures.waiting c.in_ok-left.ensures.written in
    let timed =
    subst (λ (t : ℕ). Grows (contents c.args.out.now) [] (contents c.put_checkpoint.new.out) waiting (written_checkpoint rule family t (map (λ s. seat_of s) c.seats.result.now))) c.new-records.ensures.seconds grown in
    let whole =
    subst (λ (seats : List Seat). Grows (contents c.args.out.now) [] (contents c.put_checkpoint.new.out) waiting (written_checkpoint rule family c.args.seconds seats)) c.seats.ensures timed in
    sent_all (contents c.args.out.now) (contents c.put_checkpoint.new.out) (contents c.send.new.out) waiting (written_checkpoint rule family c.args.seconds c.args.tables.now.seats) whole c.in_ok-send.ensures.sent

pub returns-clause-left : goal.returns-clause-left
returns-clause-left g c =
    let family = g.F.Unicast.family in
    c.in_ok-left.ensures.left ∙ sym (flat_map-map (left_entries family) seat_of c.seats.result.now) ∙ ap (flat_map (left_entries family)) c.seats.ensures
