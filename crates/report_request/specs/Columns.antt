-- The columns of reports: their names in text, and the keys of their members in JSON.
use Rattle.std.specs.Prelude.{ℕ, List, [], ◌∷◌, codes}
use Rattle.bgp_update.specs.declared.kept_attribute.KeptAttribute.{KeptAttribute}
use Rattle.bgp_update.specs.declared.kept_attribute.KeptAttribute.TheVariants.{Communities, ExtendedCommunities, LargeCommunities, OriginatorId, ClusterList, OnlyToCustomer}
use Rattle.report_request.specs.declared.column.Key.{Key}
use Rattle.report_request.specs.declared.column.Key.TheVariants as key
use Rattle.report_request.specs.declared.column.Column.{Column}
use Rattle.report_request.specs.declared.column.Column.TheVariants as column
use Rattle.report_request.specs.declared.request.Request.{Request as RequestOf}
use Rattle.report_request.specs.declared.request.Request.TheVariants.{Tables, Visibility, Origins, Seen, Churn, Peers, Match, Faults, History}

-- ---- names

abbrev pub attribute_name : KeptAttribute → List ℕ
attribute_name Communities = codes "communities"
attribute_name ExtendedCommunities = codes "extended"
attribute_name LargeCommunities = codes "large"
attribute_name OriginatorId = codes "originator"
attribute_name ClusterList = codes "clusters"
attribute_name OnlyToCustomer = codes "otc"

abbrev pub key_name : Key → List ℕ
key_name key.Timestamp = codes "timestamp"
key_name key.PeerAsn = codes "peer_asn"
key_name key.PeerIp = codes "peer_ip"
key_name key.What = codes "what"
key_name key.By = codes "by"
key_name key.Prefix = codes "prefix"
key_name key.PathId = codes "path_id"
key_name key.AsPath = codes "as_path"
key_name key.OriginAsns = codes "origin_asns"
key_name key.NextHop = codes "next_hop"
key_name key.Origin = codes "origin"
key_name key.Med = codes "med"
key_name key.LocalPref = codes "local_pref"
key_name key.Atomic = codes "atomic"
key_name key.AggrAsn = codes "aggr_asn"
key_name key.AggrIp = codes "aggr_ip"
key_name (key.Kept attribute) = attribute_name attribute
key_name key.Peers = codes "peers"
key_name key.OriginAsn = codes "origin_asn"
key_name key.New = codes "new"
key_name key.Changed = codes "changed"
key_name key.Same = codes "same"
key_name key.Gone = codes "gone"
key_name key.Void = codes "void"
key_name key.Resets = codes "resets"
key_name key.Idle = codes "idle"
key_name key.Refused = codes "refused"
key_name key.First = codes "first"
key_name key.Last = codes "last"
key_name key.State = codes "state"
key_name key.Routes = codes "routes"
key_name key.Units = codes "units"
key_name key.File = codes "file"
key_name key.Offset = codes "offset"
key_name key.Entry = codes "entry"
key_name key.Number = codes "number"
key_name key.Fault = codes "fault"

abbrev pub column_name : Column → List ℕ
column_name column.Time = codes "time"
column_name column.Peer = codes "peer"
column_name column.RouteKey = codes "prefix"
column_name column.Path = codes "as_path"
column_name column.Aggregator = codes "aggregator"
column_name column.Origins = codes "origins"
column_name column.OriginAs = codes "origin"
column_name (column.Of k) = key_name k

-- the keys of its members
abbrev pub column_keys : Column → List Key
column_keys column.Time = key.Timestamp ∷ []
column_keys column.Peer = key.PeerAsn ∷ key.PeerIp ∷ []
column_keys column.RouteKey = key.Prefix ∷ key.PathId ∷ []
column_keys column.Path = key.AsPath ∷ key.OriginAsns ∷ []
column_keys column.Aggregator = key.AggrAsn ∷ key.AggrIp ∷ []
column_keys column.Origins = key.OriginAsns ∷ []
column_keys column.OriginAs = key.OriginAsn ∷ []
column_keys (column.Of k) = k ∷ []

-- ---- reports

abbrev pub of : Key → Column
of k = column.Of k

-- those of a route behind its path
abbrev pub attribute_columns : List Column
attribute_columns =
    of key.NextHop ∷ of key.Origin ∷ of key.Med ∷ of key.LocalPref ∷ of key.Atomic ∷ column.Aggregator ∷ []

-- those of a route: its key, its path, and its attributes
abbrev pub route_columns : List Column
route_columns = column.RouteKey ∷ column.Path ∷ attribute_columns

-- those that a report has in any case
abbrev pub columns_of : {A : Type 0} → RequestOf A → List Column
columns_of Tables = column.Peer ∷ route_columns
columns_of Visibility = of key.Prefix ∷ of key.Peers ∷ []
columns_of Origins = of key.Prefix ∷ column.Origins ∷ []
columns_of Seen = of key.Prefix ∷ column.OriginAs ∷ of key.Peers ∷ []
columns_of (Churn since) =
    column.Peer ∷ of key.New ∷ of key.Changed ∷ of key.Same ∷ of key.Gone ∷ of key.Void ∷ of key.Resets ∷ of key.Idle
    ∷ of key.Refused ∷ of key.First ∷ of key.Last ∷ []
columns_of Peers =
    column.Peer ∷ of key.State ∷ of key.Routes ∷ of key.Units ∷ of key.First ∷ of key.Last ∷ of key.File ∷ of key.Offset
    ∷ of key.Entry ∷ []
columns_of (Match addr) = column.Peer ∷ route_columns
columns_of Faults = of key.File ∷ of key.Offset ∷ of key.Entry ∷ of key.Number ∷ of key.Fault ∷ []
columns_of (History since same) = column.Time ∷ column.Peer ∷ of key.What ∷ of key.By ∷ route_columns
