use Rattle.bgp_update.proofs.SoundLaws.{route_kept, update_kept}
use Rattle.bgp_update.proofs.laws.handling_keeps_what_is_sound.Goals as goal

pub returns : goal.returns
returns c = record { updates = update_kept; routes = route_kept }
