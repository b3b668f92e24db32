-- The units of a list, whose bytes stand in one block, and whose records and peers are listed once.
use Rattle.std.specs.Prelude.{◌≡◌, ℕ, ◌≤◌, ◌<◌, Option, List, length, slice_index_or}
use Rattle.bgp_update.specs.Decoded.{IsWithin, span_of}
use Rattle.peer_units.specs.declared.unit.Payload.{Payload}
use Rattle.peer_units.specs.declared.unit.PeerAddr.TheVariants.{V4}
use Rattle.peer_units.specs.HeldBytes.{BytesMeet, payload_of_held}
use Rattle.unit_rings.specs.declared.peer_unit.PeerUnit.{PeerUnit}
use Rattle.unit_rings.specs.declared.listed_unit.ListedRecord.{ListedRecord}
use Rattle.unit_rings.specs.declared.listed_unit.NumberedPeer.{NumberedPeer}
use Rattle.unit_rings.specs.declared.listed_unit.ListedUnit.{ListedUnit}

-- x is the item at this index
abbrev pub IsListedAt : {A : Type 0} → List A → ℕ → A → Type 0
IsListedAt {A} items at x = (at < length items) × ((d : A) → slice_index_or items at d ≡ x)

-- what is at an index stays there
abbrev pub AreKept : {A : Type 0} → List A → List A → Type 0
AreKept {A} before after = (length before ≤ length after) ×
    ((d : A) (at : ℕ) → at < length before → slice_index_or after at d ≡ slice_index_or before at d)

-- any record, and any peer
abbrev pub SOME_RECORD : ListedRecord
SOME_RECORD = record { file = 0; offset = 0; time = 0 }

abbrev pub SOME_PEER : NumberedPeer
SOME_PEER = record { number = 0; peer = record { asn = 0; addr = V4 0 } }

module _ {P K : Type 0} where
  -- its record, its peer and its bytes are some of so many
  abbrev pub IsListed : ℕ → ℕ → ℕ → ListedUnit P K → Type 0
  IsListed records peers size u = (u.record < records) × ((u.peer < peers) × BytesMeet (IsWithin size) u.payload)

  -- the unit of this record and peer
  abbrev pub unit_with : ListedRecord → NumberedPeer → Option ℕ → Payload (List ℕ) P K → PeerUnit (List ℕ) P K
  unit_with r p entry payload = record {
    number = p.number;
    unit = record {
      place = record { file = r.file; offset = r.offset; entry = entry };
      time = r.time;
      peer = p.peer;
      payload = payload;
    };
  }

  -- the unit, where these are the records, the peers and the bytes of its list
  abbrev pub unit_in : List ListedRecord → List NumberedPeer → List ℕ → ListedUnit P K → PeerUnit (List ℕ) P K
  unit_in records peers block u =
      unit_with (slice_index_or records u.record SOME_RECORD) (slice_index_or peers u.peer SOME_PEER) u.entry
      (payload_of_held (span_of block) u.payload)
