use Rattle.peer_units.proofs.interpret.whole_event.Goals as goal

pub returns-in-Message-clause-found : goal.returns-in-Message-clause-found
returns-in-Message-clause-found g c = rw c.in-Message.is (rw c.as_slice.ensures at c.message_event.ensures.found)

pub returns-in-Message-clause-only : goal.returns-in-Message-clause-only
returns-in-Message-clause-only g c = rw c.in-Message.is (rw c.as_slice.ensures at c.message_event.ensures.only)
