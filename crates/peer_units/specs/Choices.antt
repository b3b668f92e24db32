-- What a selection names: prefixes by how they stand to given ones, peers by their AS number and address or by a share.
use Rattle.std.specs.Prelude.{ℕ, ◌+◌, ◌*◌, ◌/◌, ◌%◌, ◌^◌, ◌<◌, ◌≤◌, ◌==◌, ◌&&◌, ◌||◌, Bool, true, false, Option, Some, None, List, [], ◌∷◌, nat_lt, nat_le, if◌then◌else◌}
use Rattle.std.specs.List.{list_any}
use Rattle.bgp_prefix.specs.Prefixes.{IpPrefix, prefix_eq, covers}
use Rattle.bgp_update.specs.Families.{Rules, ipv4, rules_of}
use Rattle.bgp_update.specs.KeptAttributes.{no_attributes}
use Rattle.route_choice.specs.Choices.{RouteChoice, every_route, names_nothing}
use Rattle.peer_units.specs.declared.choice.Reach.{Reach}
use Rattle.peer_units.specs.declared.choice.Reach.TheVariants.{Exact, Inside, Around}
use Rattle.peer_units.specs.Plain.{PrefixChoice}
use Rattle.peer_units.specs.declared.choice.PeerChoice.{PeerChoice}
use Rattle.peer_units.specs.declared.rib_rule.RibRule.{RibRule}
use Rattle.peer_units.specs.declared.rib_rule.RibRule.TheVariants.{Add}
use Rattle.peer_units.specs.declared.state_peers.StatePeers.{StatePeers}
use Rattle.peer_units.specs.declared.state_peers.StatePeers.TheVariants as peers
use Rattle.peer_units.specs.declared.state_rule.StateRule.{StateRule}
use Rattle.peer_units.specs.declared.state_rule.StateRule.TheVariants.{Recorded}
use Rattle.peer_units.specs.declared.table_dump_rule.TableDumpRule.{TableDumpRule}
use Rattle.peer_units.specs.declared.table_dump_rule.TableDumpRule.TheVariants.{Aside}
use Rattle.peer_units.specs.declared.unit.PeerAddr.{PeerAddr}
use Rattle.peer_units.specs.declared.unit.PeerAddr.TheVariants.{V4, V6}
use Rattle.peer_units.specs.declared.unit.PeerKey.{PeerKey}

-- one of so many shares of the peers, numbered from 0
pub record PeerShare : Type 0 where
  pub number : ℕ
  pub count : ℕ

-- what is asked for: up to this second, the prefixes and the peers that these take, or all where there are none, and
-- the peers of this share; by which rules state changes are taken, and whose they are; by which rules further RIB dumps
-- and TABLE_DUMP records are taken; by which messages and entries are read; and which routes of the tables are chosen in
-- the end
pub record UnitSelection : Type 0 where
  pub until : Option ℕ
  pub prefixes : List PrefixChoice
  pub peers : List PeerChoice
  pub share : Option PeerShare
  pub states : StateRule
  pub state_peers : StatePeers
  pub ribs : RibRule
  pub table_dumps : TableDumpRule
  pub rules : Rules
  pub routes : RouteChoice

-- what is chosen of tables: keys by their prefixes, and routes
pub record Choices : Type 0 where
  pub prefixes : List PrefixChoice
  pub routes : RouteChoice

-- where nothing is named
abbrev pub every_choice : Choices
every_choice = record { prefixes = []; routes = every_route }

-- what a selection chooses of tables
abbrev pub choices_of : UnitSelection → Choices
choices_of selection = record { prefixes = selection.prefixes; routes = selection.routes }

-- where nothing but the rules of reading is named
abbrev pub all_of : Rules → UnitSelection
all_of rules = record {
  until = None;
  prefixes = [];
  peers = [];
  share = None;
  states = Recorded;
  state_peers = peers.Recorded;
  ribs = Add;
  table_dumps = Aside;
  rules = rules;
  routes = every_route;
}

-- where nothing is named
abbrev pub all_units : UnitSelection
all_units = all_of (rules_of ipv4 no_attributes)

-- ---- prefixes

-- a prefix beside one that is named
abbrev pub stands_by : Reach → IpPrefix → IpPrefix → Bool
stands_by Exact named prefix = prefix_eq named prefix
stands_by Inside named prefix = covers named prefix
stands_by Around named prefix = covers prefix named

abbrev pub takes_prefix : PrefixChoice → IpPrefix → Bool
takes_prefix choice prefix = stands_by choice.reach choice.prefix prefix

-- nothing is named
abbrev pub is_open : List PrefixChoice → Bool
is_open [] = true
is_open (choice ∷ choices) = false

-- one of the choices takes the prefix, or there is none
abbrev pub is_chosen : List PrefixChoice → IpPrefix → Bool
is_chosen choices prefix = is_open choices || list_any (λ choice. takes_prefix choice prefix) choices

-- nothing is named
abbrev pub chooses_all : Choices → Bool
chooses_all choices = is_open choices.prefixes && names_nothing choices.routes

-- ---- peers

abbrev pub addr_eq : PeerAddr → PeerAddr → Bool
addr_eq (V4 a) (V4 b) = a == b
addr_eq (V4 a) (V6 b) = false
addr_eq (V6 a) (V4 b) = false
addr_eq (V6 a) (V6 b) = a == b

-- an address, where one is named
abbrev pub takes_addr : Option PeerAddr → PeerAddr → Bool
takes_addr None addr = true
takes_addr (Some named) addr = addr_eq named addr

-- its AS number, and its address where one is named
abbrev pub names_peer : PeerChoice → PeerKey → Bool
names_peer choice q = (choice.asn == q.asn) && takes_addr choice.addr q.addr

-- no peer is named
abbrev pub has_no_peers : List PeerChoice → Bool
has_no_peers [] = true
has_no_peers (choice ∷ choices) = false

-- one of the choices takes the peer, or there is none
abbrev pub is_chosen_peer : List PeerChoice → PeerKey → Bool
is_chosen_peer choices q = has_no_peers choices || list_any (λ choice. names_peer choice q) choices

-- ---- shares

-- the address as a number, of 32 or 128 bits
abbrev pub addr_number : PeerAddr → ℕ
addr_number (V4 a) = a
addr_number (V6 a) = a

-- a number of 16 bits, of the AS number and the address alone: a multiplicative hash
unfoldable pub peer_hash : PeerKey → ℕ
peer_hash q = (q.asn + addr_number q.addr) * 2654435761 % 2 ^ 32 / 65536

-- in which of so many shares a peer is
abbrev pub share_of : ℕ → PeerKey → ℕ
share_of count q = peer_hash q % count

-- a number below the count, and at most 65,536 shares
pub record IsShare (share : PeerShare) : Type 0 where
  pub below : share.number < share.count
  pub few : share.count ≤ 65536

-- the share of this number of so many, if there is one
abbrev pub share_from : ℕ → ℕ → Option PeerShare
share_from number count =
    if nat_lt number count && nat_le count 65536 then Some (record { number = number; count = count }) else None

-- the peers of a share
abbrev pub has_peer : PeerShare → PeerKey → Bool
has_peer share q = share_of share.count q == share.number

-- no share is named, or the peer is in it
abbrev pub is_in_share : Option PeerShare → PeerKey → Bool
is_in_share None q = true
is_in_share (Some share) q = has_peer share q

-- no share is named
abbrev pub has_no_share : Option PeerShare → Bool
has_no_share None = true
has_no_share (Some share) = false
