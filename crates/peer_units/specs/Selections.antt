-- What a selection takes of the units that files give. Its criteria speak of units, and not of the bytes of records.
use Rattle.std.specs.Prelude.{ℕ, ◌/◌, ◌&&◌, ◌||◌, Bool, true, false, List, Option, Some, None, Result, Ok, Err, nat_lt, if◌then◌else◌}
use Rattle.std.specs.List.{list_any}
use Rattle.bgp_prefix.specs.Prefixes.{IpPrefix}
use Rattle.bgp_prefix.specs.Keys.{RouteKey}
use Rattle.mrt_frame.specs.declared.fault.Fault.{Fault}
use Rattle.peer_units.specs.Plain.{PrefixChoice}
use Rattle.peer_units.specs.Plain.{Event}
use Rattle.peer_units.specs.declared.meaning.Event.TheVariants as event
use Rattle.peer_units.specs.Plain.{Payload}
use Rattle.peer_units.specs.declared.unit.Payload.TheVariants.{State, Message, Entry, Clear}
use Rattle.peer_units.specs.Plain.{Unit as ReplayUnit}
use Rattle.peer_units.specs.declared.unit.PeerKey.{PeerKey}
use Rattle.peer_units.specs.Choices.{UnitSelection, is_open, is_chosen, is_chosen_peer, is_in_share, has_no_peers, has_no_share}
use Rattle.peer_units.specs.Events.{event_in}

-- ---- time

-- whether the whole second of a time is past this one
abbrev pub is_past : Option ℕ → ℕ → Bool
is_past None time = false
is_past (Some until) time = nat_lt until (time / 1000000)

-- whether the time of a unit is selected
abbrev pub is_in_time : UnitSelection → ReplayUnit → Bool
is_in_time selection unit = if is_past selection.until unit.time then false else true

-- ---- peers

-- whether a peer is chosen and in the share
abbrev pub takes_peer : UnitSelection → PeerKey → Bool
takes_peer selection q = is_chosen_peer selection.peers q && is_in_share selection.share q

-- neither peers nor a share are named
abbrev pub takes_each_peer : UnitSelection → Bool
takes_each_peer selection = has_no_peers selection.peers && has_no_share selection.share

-- ---- keys

-- whether one of these keys has a chosen prefix
abbrev pub has_chosen : List PrefixChoice → List RouteKey → Bool
has_chosen choices keys = list_any (λ key. is_chosen choices key.prefix) keys

-- whether an UPDATE speaks of a chosen prefix; a damaged one might, and a message of another type doesn't
abbrev pub speaks_of : List PrefixChoice → Result Event Fault → Bool
speaks_of choices (Ok (event.Change u)) =
    has_chosen choices u.withdrawn || (has_chosen choices u.announced || has_chosen choices u.reached)
speaks_of choices (Ok (event.State old new rule)) = true
speaks_of choices (Ok (event.Rib key route)) = true
speaks_of choices (Ok event.Other) = false
speaks_of choices (Ok event.Clear) = true
speaks_of choices (Ok (event.Handled fault update)) = true
speaks_of choices (Err fault) = true

-- Whether a payload can concern a chosen prefix. A state change or a clear concerns all of them, a RIB entry that of
-- its key, whatever its attributes are.
abbrev pub concerns : List PrefixChoice → Payload → Bool
concerns choices (State from to rule) = true
concerns choices (Message bytes width add_path rules) =
    is_open choices || speaks_of choices (event_in (Message bytes width add_path rules))
concerns choices (Entry rules key attrs) = is_chosen choices key.prefix
concerns choices Clear = true

-- ---- what is selected

-- whether a unit meets each criterion
abbrev pub is_selected : UnitSelection → ReplayUnit → Bool
is_selected selection unit =
    is_in_time selection unit && (takes_peer selection unit.peer && concerns selection.prefixes unit.payload)

-- whether the entries of a RIB record of this time and prefix are selected, those of the peers that are taken
abbrev pub takes_record : UnitSelection → ℕ → IpPrefix → Bool
takes_record selection time prefix =
    (if is_past selection.until time then false else true) && is_chosen selection.prefixes prefix
