-- What comes to a writer by way of bytes that wait, and the records of a prefix.
use Rattle.std.specs.Prelude.{◌≡◌, ℕ, ◌^◌, ◌<◌, ◌≤◌, Bool, List, [], ◌∷◌, ◌++◌, length, map, Option, if◌then◌else◌}
use Rattle.std.specs.List.{flat_map, AllByRecursion, enumerate_from}
use Rattle.std.specs.Io.KnownBytes.{Appends}
use Rattle.bgp_prefix.specs.Prefixes.{IpPrefix}
use Rattle.mrt_frame.specs.Cuts.{body_limit}
use Rattle.bgp_update.specs.Families.{FamilyOf}
use Rattle.mrt_body.specs.RibRecords.{entry_bytes}
use Rattle.mrt_writing.specs.RouteAttributes.{entry_most}
use Rattle.mrt_writing.specs.RibRecords.{PrefixRoute, entry_field, written_entry}
use Rattle.mrt_writing.specs.Records.{records_bytes}
use Rattle.mrt_writing.specs.Dumps.{record_of}
use Rattle.table_dumps.specs.Checkpoints.{PrefixPart, closed, part_record}

-- Bytes came behind those that waited for a writer, which got what was in front of those that wait now.
pub record Grows (old : Option (List ℕ)) (waited : List ℕ) (new : Option (List ℕ)) (waiting bytes : List ℕ) : Type 0 where
  pub sent : List ℕ
  pub written : Appends old new sent
  pub rest : waited ++ bytes ≡ sent ++ waiting

-- The same, where the bytes that were to come are not all there: these are left.
pub record GrowsTo (old : Option (List ℕ)) (waited : List ℕ) (new : Option (List ℕ)) (waiting bytes left : List ℕ) : Type 0 where
  pub sent : List ℕ
  pub written : Appends old new sent
  pub rest : waited ++ bytes ≡ sent ++ (waiting ++ left)

-- the records of these parts, the first of which has this number
abbrev pub parts_bytes : FamilyOf → ℕ → ℕ → List PrefixPart → List ℕ
parts_bytes family seconds number parts =
    records_bytes (map (record_of family seconds) (map part_record (enumerate_from number parts)))

abbrev pub part_of : Bool → IpPrefix → List PrefixRoute → PrefixPart
part_of add_path prefix entries = record { add_path = add_path; prefix = prefix; entries = entries }

-- the entries of routes of a prefix, one after the other
abbrev pub entries_bytes : FamilyOf → Bool → ℕ → List PrefixRoute → List ℕ
entries_bytes family add_path seconds routes = flat_map (λ e. entry_bytes add_path (written_entry family seconds e)) routes

-- These are the entries of a part that is as short as a record may be.
pub record IsOpenPart (family : FamilyOf) (add_path : Bool) (seconds : ℕ) (part : List PrefixRoute) (entries : List ℕ) : Type 0 where
  pub entries_are : entries ≡ entries_bytes family add_path seconds part
  pub few : length part < 256 ^ 2
  pub short : length entries ≤ body_limit

-- A part is complete where a route doesn't fit into it.
abbrev pub closed_by : Bool → List PrefixRoute → List (List PrefixRoute)
closed_by fits part = if fits then [] else closed part

-- and the route begins the next one
abbrev pub next_part : Bool → List PrefixRoute → PrefixRoute → List PrefixRoute
next_part fits part route = if fits then part ++ route ∷ [] else route ∷ []

-- each can be an entry
abbrev pub AreShort : FamilyOf → List PrefixRoute → Type 0
AreShort family routes = AllByRecursion (λ e. length (entry_field family e.route) ≤ entry_most) routes
