-- Which RIB records begin a dump that replaces what came before it, and which tables it clears (own).
use Rattle.std.specs.Prelude.{ℕ, ◌&&◌, ◌||◌, Bool, true, false, not, List, [], if◌then◌else◌}
use Rattle.std.specs.List.{fold}
use Rattle.std.specs.BTreeSet.{insert_key}
use Rattle.std.specs.Ordering.{nat_cmp, ordering_then}
use Rattle.std.specs.declared.cmp.Ordering.{Ordering}
use Rattle.std.specs.declared.cmp.Ordering.TheVariants.{Less, Greater}
use Rattle.peer_units.specs.declared.rib_rule.RibRule.{RibRule}
use Rattle.peer_units.specs.declared.rib_rule.RibRule.TheVariants.{Add, Replace}
use Rattle.peer_units.specs.declared.unit.PeerAddr.{PeerAddr}
use Rattle.peer_units.specs.declared.unit.PeerAddr.TheVariants.{V4, V6}
use Rattle.peer_units.specs.declared.unit.PeerKey.{PeerKey}
use Rattle.peer_units.specs.Plain.{Unit as ReplayUnit}
use Rattle.peer_units.specs.Choices.{UnitSelection}
use Rattle.peer_units.specs.Selections.{is_past}

-- ---- peers in order

-- IPv4 addresses, then IPv6 addresses, each by number
abbrev pub addr_cmp : PeerAddr → PeerAddr → Ordering
addr_cmp (V4 a) (V4 b) = nat_cmp a b
addr_cmp (V4 a) (V6 b) = Less
addr_cmp (V6 a) (V4 b) = Greater
addr_cmp (V6 a) (V6 b) = nat_cmp a b

-- by AS number, and then by address
abbrev pub peer_cmp : PeerKey → PeerKey → Ordering
peer_cmp p q = ordering_then (nat_cmp p.asn q.asn) (addr_cmp p.addr q.addr)

-- these peers in order, and one more if it isn't among them
abbrev pub hear : List PeerKey → PeerKey → List PeerKey
hear peers peer = insert_key peer_cmp peers peer

-- ---- dumps

-- The peers of the units since the last dump that cleared the tables, in order, and whether a record of the index table
-- in force began a dump. And the known peers, in order: those that an index table has named or that a unit was of.
pub record DumpsState : Type 0 where
  pub heard : List PeerKey
  pub begun : Bool
  pub known : List PeerKey

abbrev pub no_dumps : DumpsState
no_dumps = record { heard = []; begun = false; known = [] }

abbrev pub replaces : RibRule → Bool
replaces Add = false
replaces Replace = true

-- a dump begins with the first RIB record behind an index table that isn't past the last second
abbrev pub may_begin : UnitSelection → Bool → ℕ → Bool
may_begin selection begun time = replaces selection.ribs && (not begun && not (is_past selection.until time))

-- the peers heard after these units
abbrev pub heard_of : RibRule → List PeerKey → List ReplayUnit → List PeerKey
heard_of Add heard units = heard
heard_of Replace heard units = fold (λ (peers : List PeerKey) (unit : ReplayUnit). hear peers unit.peer) heard units

-- the peers heard after units of these peers
abbrev pub heard_peers : RibRule → List PeerKey → List PeerKey → List PeerKey
heard_peers Add heard peers = heard
heard_peers Replace heard peers = fold hear heard peers

-- after a record that gives these units, and begins a dump or doesn't
abbrev pub dumps_with : RibRule → Bool → DumpsState → List ReplayUnit → DumpsState
dumps_with ribs begins dumps units = record {
  heard = heard_of ribs (if begins then [] else dumps.heard) units;
  begun = begins || dumps.begun;
  known = dumps.known;
}
