-- Whose state a state change is, by the rule that is asked for, and which peers are known for that.
use Rattle.std.specs.Prelude.{ℕ, ◌==◌, ◌&&◌, ◌||◌, not, Bool, true, false, List, [], ◌∷◌, take, if◌then◌else◌}
use Rattle.std.specs.List.{filter, fold}
use Rattle.peer_units.specs.Choices.{UnitSelection, addr_eq}
use Rattle.peer_units.specs.declared.state_peers.StatePeers.{StatePeers}
use Rattle.peer_units.specs.declared.state_peers.StatePeers.TheVariants.{Recorded, Local, ByAs}
use Rattle.peer_units.specs.declared.unit.PeerAddr.{PeerAddr}
use Rattle.peer_units.specs.declared.unit.PeerAddr.TheVariants.{V4, V6}
use Rattle.peer_units.specs.declared.unit.PeerKey.{PeerKey}
use Rattle.mrt_body.specs.RibDumps.{hear, replaces}
use Rattle.mrt_body.specs.declared.known_peers.Meant.{Meant}
use Rattle.mrt_body.specs.declared.known_peers.Meant.TheVariants.{Address, As}
use Rattle.mrt_body.specs.declared.bgp4mp.SessionEnds.{SessionEnds}

-- 0.0.0.0 or ::
abbrev pub is_zero : PeerAddr → Bool
is_zero (V4 addr) = addr == 0
is_zero (V6 addr) = addr == 0

-- no local end is named: a dump of tables has such state changes
abbrev pub is_unnamed : PeerKey → Bool
is_unnamed local = (local.asn == 0) && is_zero local.addr

-- an AS number that names none: 0, or AS_TRANS (RFC 6793, section 9)
abbrev pub names_no_as : ℕ → Bool
names_no_as asn = (asn == 0) || (asn == 23456)

-- those of an address, or of an AS number
abbrev pub is_meant : Meant → PeerKey → Bool
is_meant (Address addr) q = addr_eq q.addr addr
is_meant (As asn) q = q.asn == asn

-- the known peers that pass a test: of more than 65,535 the first ones
abbrev pub known_where : (PeerKey → Bool) → List PeerKey → List PeerKey
known_where test known = take 65535 (filter test known)

abbrev pub told_locally : List PeerKey → PeerKey → List PeerKey
told_locally known local =
    if names_no_as local.asn then known_where (is_meant (Address local.addr)) known else local ∷ []

abbrev pub told_by_as : List PeerKey → PeerKey → List PeerKey
told_by_as known peer = if is_zero peer.addr then known_where (is_meant (As peer.asn)) known else peer ∷ []

-- the peers whose state a state change is, where these are known
abbrev pub told_peers : StatePeers → List PeerKey → SessionEnds → List PeerKey
told_peers Recorded known ends = ends.peer ∷ []
told_peers Local known ends = if is_unnamed ends.local then ends.peer ∷ [] else told_locally known ends.local
told_peers ByAs known ends = if is_unnamed ends.local then ends.peer ∷ [] else told_by_as known ends.peer

abbrev pub is_recorded_peer : StatePeers → Bool
is_recorded_peer Recorded = true
is_recorded_peer Local = false
is_recorded_peer ByAs = false

-- whether something is noted of the peers of units
abbrev pub follows_peers : UnitSelection → Bool
follows_peers selection = replaces selection.ribs || not (is_recorded_peer selection.state_peers)

-- the peers that are known behind a record that names these; none is followed where each state change is the recorded
-- peer's
abbrev pub known_with : StatePeers → List PeerKey → List PeerKey → List PeerKey
known_with Recorded known named = known
known_with Local known named = fold hear known named
known_with ByAs known named = fold hear known named
