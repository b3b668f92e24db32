use Rattle.peer_units.proofs.EventLaws.{event_takes, event_again, one_event}
use Rattle.peer_units.proofs.laws.events_agree_with_their_payloads.Goals as goal

pub returns : goal.returns
returns c = record {
  events = λ payload e fine. (event_takes payload e fine, event_again payload e);
  one_event = one_event;
}
