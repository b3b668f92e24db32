-- A route as one list of bytes: two bytes of flags, the fields of a fixed width that are there, in a fixed order, the
-- path as segments with numbers of four bytes (RFC 6793, section 3), and the further attributes that it keeps.
use Rattle.std.specs.Prelude.{◌≡◌, ℕ, ◌+◌, ◌-◌, ◌*◌, ◌/◌, ◌%◌, ◌^◌, ◌<◌, Bool, true, false, List, [], ◌∷◌, ◌++◌, drop, take, length, slice_index, Option, Some, None, IfSome, IsTrue, is_some, ◌==◌, if◌then◌else◌}
use Rattle.std.specs.List.{AllByRecursion}
use Rattle.std.specs.Result.{result_unwrap_or}
use Rattle.byteorder.specs.Endian.{big_number, big_bytes}
use Rattle.bgp_update.specs.declared.next_hop.NextHop.{NextHop}
use Rattle.bgp_update.specs.declared.next_hop.NextHop.TheVariants.{V4, V6, V6Pair}
use Rattle.bgp_update.specs.declared.route.Origin.{Origin}
use Rattle.bgp_update.specs.declared.route.Origin.TheVariants.{Igp, Egp, Incomplete}
use Rattle.bgp_update.specs.declared.route.Aggregator.{Aggregator}
use Rattle.bgp_update.specs.declared.route.Route.{Route}
use Rattle.bgp_update.specs.declared.route_ref.Starts.{Starts}
use Rattle.bgp_update.specs.KeptAttributes.{KeptValue}
use Rattle.bgp_update.specs.KeptBytes.{FitsKept, kept_bytes, spelled_values}
use Rattle.bgp_update.specs.Paths.{PathSegment}
use Rattle.bgp_update.specs.Multiprotocol.{is_hop_len, next_hop_of, FitsHop, hop_bytes}
use Rattle.bgp_update.specs.Segments.{path_bytes, IsPath, path_in}
use Rattle.bgp_update.specs.Equality.{origin_number}

-- ---- which routes have such bytes: those whose numbers have their widths, and whose path can be written

pub record FitsAggregator (a : Aggregator) : Type 0 where
  pub asn : a.asn < 256 ^ 4
  pub addr : a.addr < 256 ^ 4

pub record HaveWidths (r : Route) : Type 0 where
  pub next_hop : IfSome r.next_hop FitsHop
  pub med : IfSome r.med (λ n. n < 256 ^ 4)
  pub local_pref : IfSome r.local_pref (λ n. n < 256 ^ 4)
  pub aggregator : IfSome r.aggregator FitsAggregator

-- the path can be written with numbers of four bytes
abbrev pub IsWritable : Option (List PathSegment) → Type 0
IsWritable path = IfSome path (IsPath 4)

pub record CanPack (r : Route) : Type 0 where
  pub fields : HaveWidths r
  pub path : IsWritable r.path
  pub kept : AllByRecursion FitsKept r.kept
  pub kept_len : length (kept_bytes r.kept) < 256 ^ 4

-- ---- the bytes of a route

abbrev pub flag : Bool → ℕ
flag true = 1
flag false = 0

abbrev pub origin_code : Option Origin → ℕ
origin_code None = 3
origin_code (Some origin) = origin_number origin

abbrev pub hop_code : Option NextHop → ℕ
hop_code None = 0
hop_code (Some (V4 a)) = 1
hop_code (Some (V6 a)) = 2
hop_code (Some (V6Pair a link)) = 3

abbrev pub field_flags : Route → ℕ
field_flags r =
    origin_code r.origin + 4 * flag r.atomic + 8 * hop_code r.next_hop + 32 * flag (is_some r.med)
    + 64 * flag (is_some r.local_pref)
    + 128 * flag (is_some r.aggregator)

abbrev pub packed_hop_bytes : Option NextHop → List ℕ
packed_hop_bytes None = []
packed_hop_bytes (Some hop) = hop_bytes hop

abbrev pub number_bytes : Option ℕ → List ℕ
number_bytes None = []
number_bytes (Some n) = big_bytes 4 n

abbrev pub aggregator_bytes : Option Aggregator → List ℕ
aggregator_bytes None = []
aggregator_bytes (Some a) = big_bytes 4 a.asn ++ big_bytes 4 a.addr

abbrev pub path_part : Option (List PathSegment) → List ℕ
path_part None = []
path_part (Some path) = path_bytes 4 path

-- whether any attribute is kept
abbrev pub keeps_any : List KeptValue → Bool
keeps_any [] = false
keeps_any (k ∷ ks) = true

-- the second byte: whether there is a path, and whether any attribute is kept
abbrev pub part_flags : Bool → Bool → ℕ
part_flags has_path has_kept = flag has_path + 2 * flag has_kept

-- the attributes that are kept, if there are any, and how many bytes they take
abbrev pub kept_part : List KeptValue → List ℕ
kept_part [] = []
kept_part (k ∷ ks) = kept_bytes (k ∷ ks) ++ big_bytes 4 (length (kept_bytes (k ∷ ks)))

unfoldable pub route_bytes : Route → List ℕ
route_bytes r =
    (field_flags r ∷ part_flags (is_some r.path) (keeps_any r.kept) ∷ [])
    ++ (packed_hop_bytes r.next_hop ++ (number_bytes r.med
    ++ (number_bytes r.local_pref ++ (aggregator_bytes r.aggregator ++ (path_part r.path ++ kept_part r.kept)))))

-- the bytes in front of the path
unfoldable pub front_bytes : Route → Bool → List ℕ
front_bytes r has_path =
    (((((field_flags r ∷ part_flags has_path (keeps_any r.kept) ∷ []) ++ packed_hop_bytes r.next_hop) ++ number_bytes r.med)
    ++ number_bytes r.local_pref) ++ aggregator_bytes r.aggregator)

-- the bytes of this route were added but for what it keeps
pub record WritesPath (before after : List ℕ) (route : Route) : Type 0 where
  pub bytes : after ≡ before ++ (front_bytes route (is_some route.path) ++ path_part route.path)
  pub widths : HaveWidths route

-- the bytes of this route were added, which can be packed
pub record WritesRoute (before after : List ℕ) (route : Route) : Type 0 where
  pub bytes : after ≡ before ++ route_bytes route
  pub packs : CanPack route

-- ---- the route of bytes

abbrev pub origin_bits : List ℕ → ℕ
origin_bits bytes = slice_index bytes 0 % 4

abbrev pub hop_bits : List ℕ → ℕ
hop_bits bytes = slice_index bytes 0 / 8 % 4

-- 1 where a flag is set; its weight is 4 for ATOMIC_AGGREGATE, 32 for MED, 64 for LOCAL_PREF, and 128 for AGGREGATOR
abbrev pub flag_bit : ℕ → List ℕ → ℕ
flag_bit weight bytes = slice_index bytes 0 / weight % 2

-- 1 where the flag of the second byte is set; its weight is 1 for the path, and 2 for attributes that are kept
abbrev pub part_bit : ℕ → List ℕ → ℕ
part_bit weight bytes = slice_index bytes 1 / weight % 2

abbrev pub hop_len : ℕ → ℕ
hop_len code = if code == 0 then 0 else (if code == 1 then 4 else (if code == 2 then 16 else 32))

-- where the parts behind the next hop begin, each where the one before it ends
unfoldable pub starts_in : List ℕ → Starts
starts_in bytes =
    let med : ℕ = 2 + hop_len (hop_bits bytes) in
    let local_pref : ℕ = med + 4 * flag_bit 32 bytes in
    let aggregator : ℕ = local_pref + 4 * flag_bit 64 bytes in
    record { med = med; local_pref = local_pref; aggregator = aggregator; path = aggregator + 8 * flag_bit 128 bytes }

abbrev pub origin_by : ℕ → Option Origin
origin_by code =
    if code == 0 then Some Igp else (if code == 1 then Some Egp else (if code == 2 then Some Incomplete else None))

abbrev pub hop_by : ℕ → List ℕ → Option NextHop
hop_by code bytes =
    if code == 0 then None else
    (if code == 1 then Some (V4 (big_number 4 bytes)) else
    (if code == 2 then Some (V6 (big_number 16 bytes)) else
    Some (V6Pair (big_number 16 bytes) (big_number 16 (drop 16 bytes)))))

abbrev pub number_by : ℕ → List ℕ → Option ℕ
number_by bit bytes = if bit == 1 then Some (big_number 4 bytes) else None

abbrev pub aggregator_by : ℕ → List ℕ → Option Aggregator
aggregator_by bit bytes =
    if bit == 1 then Some (record { asn = big_number 4 bytes; addr = big_number 4 (drop 4 bytes) }) else None

-- the segments that bytes spell; none where they spell no path
unfoldable pub spelled_path : List ℕ → List PathSegment
spelled_path bytes = result_unwrap_or (path_in 4 bytes) []

abbrev pub path_by : ℕ → List ℕ → Option (List PathSegment)
path_by bit bytes = if bit == 1 then Some (spelled_path bytes) else None

-- how many bytes the attributes that are kept take, as the last four bytes say
abbrev pub kept_len : List ℕ → ℕ
kept_len bytes = big_number 4 (drop (length bytes - 4) bytes)

-- where the path ends
unfoldable pub path_end : List ℕ → ℕ
path_end bytes = if part_bit 2 bytes == 1 then length bytes - 4 - kept_len bytes else length bytes

abbrev pub kept_by : ℕ → List ℕ → List KeptValue
kept_by bit bytes = if bit == 1 then spelled_values bytes else []

unfoldable pub unpacked : List ℕ → Route
unpacked bytes = record {
  next_hop = hop_by (hop_bits bytes) (drop 2 bytes);
  path = path_by (part_bit 1 bytes) (drop (starts_in bytes).path (take (path_end bytes) bytes));
  med = number_by (flag_bit 32 bytes) (drop (starts_in bytes).med bytes);
  local_pref = number_by (flag_bit 64 bytes) (drop (starts_in bytes).local_pref bytes);
  aggregator = aggregator_by (flag_bit 128 bytes) (drop (starts_in bytes).aggregator bytes);
  origin = origin_by (origin_bits bytes);
  atomic = flag_bit 4 bytes == 1;
  kept = kept_by (part_bit 2 bytes) (drop (path_end bytes) (take (length bytes - 4) bytes));
}

-- the bytes of the route that they spell
pub record IsPacked (bytes : List ℕ) : Type 0 where
  pub fits : CanPack (unpacked bytes)
  pub written : bytes ≡ route_bytes (unpacked bytes)

-- the bytes of the next hop that they spell
pub record IsWrittenHop (bytes : List ℕ) : Type 0 where
  pub len : IsTrue (is_hop_len (length bytes))
  pub fits : FitsHop (next_hop_of bytes)
  pub written : bytes ≡ packed_hop_bytes (Some (next_hop_of bytes))

-- the bytes of the path that they spell
pub record IsSpelled (bytes : List ℕ) : Type 0 where
  pub fits : IsPath 4 (spelled_path bytes)
  pub written : bytes ≡ path_bytes 4 (spelled_path bytes)
