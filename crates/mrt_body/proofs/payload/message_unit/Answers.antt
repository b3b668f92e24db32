use Rattle.mrt_body.proofs.SessionLaws.{message_is, message-le}
use Rattle.mrt_body.proofs.payload.message_unit.Goals as goal

pub overflow_sub-start : goal.overflow_sub-start
overflow_sub-start g c = message-le c.args.is_extended c.args.width c.as_slice-bytes.result.now c.in_ok-microseconds.microseconds c.in_ok-microseconds.after.now (record { key = c.in_ok-peer.peer.key; external = c.in_ok-peer.peer.is_external }) c.in_ok-peer.rest.now c.in_ok-microseconds.ensures c.in_ok-peer.ensures

pub returns-clause-reads : goal.returns-clause-reads
returns-clause-reads g c =
    rw (c.place.ensures, c.time.ensures, c.new.ensures, c.of_peer-told.ensures, c.as_slice-bytes.ensures)
    (message_is c.args.rules c.args.at c.args.is_extended c.args.width c.args.add_path c.args.body c.in_ok-microseconds.microseconds c.in_ok-microseconds.after.now (record { key = c.in_ok-peer.peer.key; external = c.in_ok-peer.peer.is_external }) c.in_ok-peer.rest.now (rw c.as_slice-bytes.ensures at c.in_ok-microseconds.ensures) c.in_ok-peer.ensures)
