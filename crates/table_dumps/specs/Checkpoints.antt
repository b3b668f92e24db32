-- The records of a checkpoint: what the tables of peers are written as, by prefix.
use Rattle.std.specs.Prelude.{◌≡◌, ℕ, ◌+◌, ◌<◌, ◌==◌, not, Bool, List, [], ◌∷◌, ◌++◌, length, map, slice_index_or, false, ⊤, nat_lt, nat_le, ◌&&◌, if◌then◌else◌}
use Rattle.std.specs.List.{filter, flat_map, list_any, enumerate_from, AllByRecursion}
use Rattle.bgp_prefix.specs.Prefixes.{IpPrefix, prefix_cmp, prefix_eq}
use Rattle.bgp_prefix.specs.Keys.{RouteKey}
use Rattle.bgp_prefix.specs.Ordered.{in_order}
use Rattle.bgp_update.specs.declared.route.Route.{Route}
use Rattle.bgp_update.specs.Families.{FamilyOf}
use Rattle.peer_units.specs.declared.unit.PeerKey.{PeerKey}
use Rattle.peer_tables.specs.Peers.{peer_eq}
use Rattle.mrt_body.specs.Units.{no_peer}
use Rattle.mrt_frame.specs.Cuts.{body_limit}
use Rattle.mrt_body.specs.RibRecords.{rib_bytes}
use Rattle.mrt_writing.specs.Heads.{state_after}
use Rattle.mrt_writing.specs.RibRecords.{PrefixRoute, written_rib}
use Rattle.mrt_writing.specs.Dumps.{DumpRecord, state, rib, update}
use Rattle.table_dumps.specs.Dumped.{is_entry}

-- a peer, whether it counts as up, and its table
pub record DumpedPeer : Type 0 where
  pub key : PeerKey
  pub up : Bool
  pub table : List (RouteKey × Route)

-- the routes that are entries, and those that are UPDATEs
abbrev pub entries_in : FamilyOf → DumpedPeer → List (RouteKey × Route)
entries_in family p = filter (is_entry family) p.table

abbrev pub others_in : FamilyOf → DumpedPeer → List (RouteKey × Route)
others_in family p = filter (λ e. not (is_entry family e)) p.table

-- ---- by prefix

-- the prefixes of all entries, each once, in order
abbrev pub prefixes_of : FamilyOf → List DumpedPeer → List IpPrefix
prefixes_of family peers = in_order prefix_cmp (flat_map (λ p. map (λ e. e.0.prefix) (entries_in family p)) peers)

abbrev pub prefix_route : ℕ → RouteKey × Route → PrefixRoute
prefix_route number e = record { peer = number; id = e.0.id; route = e.1 }

-- the entries of a prefix, by peer, the first of which has this number
abbrev pub routes_at : FamilyOf → IpPrefix → ℕ → List DumpedPeer → List PrefixRoute
routes_at family prefix number [] = []
routes_at family prefix number (p ∷ peers) =
    map (prefix_route number) (filter (λ e. prefix_eq prefix e.0.prefix) (entries_in family p))
    ++ routes_at family prefix (number + 1) peers

-- identifiers are written for all entries of a prefix, or for none
abbrev pub have_identifiers : List PrefixRoute → Bool
have_identifiers entries = list_any (λ e. not (e.id == 0)) entries

-- a record before it has its number
pub record PrefixPart : Type 0 where
  pub add_path : Bool
  pub prefix : IpPrefix
  pub entries : List PrefixRoute

-- the entries of a prefix in as many parts as `split` makes of them
abbrev pub parts_of : (List PrefixRoute → List (List PrefixRoute)) → IpPrefix → List PrefixRoute → List PrefixPart
parts_of split prefix entries =
    map (λ part. record { add_path = have_identifiers entries; prefix = prefix; entries = part }) (split entries)

-- how the entries of a prefix are split
abbrev pub Split : Type 0
Split = IpPrefix → List PrefixRoute → List (List PrefixRoute)

abbrev pub all_parts : Split → FamilyOf → List DumpedPeer → List PrefixPart
all_parts split family peers =
    flat_map (λ prefix. parts_of (split prefix) prefix (routes_at family prefix 0 peers)) (prefixes_of family peers)

-- ---- parts

-- a part, unless it is empty
abbrev pub closed : List PrefixRoute → List (List PrefixRoute)
closed [] = []
closed (e ∷ part) = (e ∷ part) ∷ []

-- An open part takes one entry more as long as that fits, and then a next one is begun.
abbrev pub split_after : (List PrefixRoute → Bool) → List PrefixRoute → List PrefixRoute → List (List PrefixRoute)
split_after fits part [] = closed part
split_after fits part (e ∷ entries) =
    if fits (part ++ e ∷ []) then split_after fits (part ++ e ∷ []) entries else
    closed part ++ split_after fits (e ∷ []) entries

-- at most 65,535 entries, and a body of a size that is read
abbrev pub fits_record : FamilyOf → Bool → IpPrefix → List PrefixRoute → Bool
fits_record family add_path prefix part =
    nat_lt (length part) 65536 && nat_le (length (rib_bytes add_path (written_rib family 0 0 prefix part))) body_limit

abbrev pub record_split : FamilyOf → Split
record_split family prefix entries = split_after (fits_record family (have_identifiers entries) prefix) [] entries

-- ---- the records

abbrev pub state_record : DumpedPeer → DumpRecord
state_record p = state p.key (state_after p.up)

abbrev pub part_record : ℕ × PrefixPart → DumpRecord
part_record part = rib part.0 part.1.add_path part.1.prefix part.1.entries

abbrev pub update_records : FamilyOf → DumpedPeer → List DumpRecord
update_records family p = map (λ e. update p.key e.0 e.1) (others_in family p)

-- the state changes, the records of prefixes numbered from 0, and the UPDATEs, by peer
abbrev pub checkpoint_records : Split → FamilyOf → List DumpedPeer → List DumpRecord
checkpoint_records split family peers =
    map state_record peers
    ++ (map part_record (enumerate_from 0 (all_parts split family peers)) ++ flat_map (update_records family) peers)

-- ---- what the parts say of a peer

-- the parts of a list are the list
abbrev pub Splits : Split → Type 0
Splits split = (prefix : IpPrefix) (entries : List PrefixRoute) → flat_map (λ part. part) (split prefix entries) ≡ entries

-- the entries of the peer of this number
abbrev pub entries_of : ℕ → IpPrefix → List PrefixRoute → List (RouteKey × Route)
entries_of number prefix entries =
    map (λ e. (record { prefix = prefix; id = e.id }, e.route)) (filter (λ e. e.peer == number) entries)

abbrev pub entries_of_parts : ℕ → List PrefixPart → List (RouteKey × Route)
entries_of_parts number parts = flat_map (λ part. entries_of number part.prefix part.entries) parts

-- ---- peers apart

-- each is told from this peer by its number among them
abbrev pub Tells : (PeerKey → Bool) → ℕ → List PeerKey → Type 0
Tells test number keys = (j : ℕ) → j < length keys → test (slice_index_or keys j no_peer) ≡ (j == number)

abbrev pub keys_of : List DumpedPeer → List PeerKey
keys_of peers = map (λ p. p.key) peers

-- no peer stands there twice
abbrev pub Apart : List PeerKey → Type 0
Apart [] = ⊤
Apart (k ∷ keys) = AllByRecursion (λ q. peer_eq q k ≡ false) keys × Apart keys
