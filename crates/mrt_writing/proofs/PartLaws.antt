-- What is written one part after the other is the whole.
use Rattle.std.proofs.Common.{◌≡◌, ℕ, ◌+◌, ◌∷◌, Bool, List, [], ◌++◌, length, refl, sym, ap, ◌∙◌, arith, append_assoc, append-nil, length-append}
use Rattle.std.specs.List.{flat_map}
use Rattle.std.proofs.lemmas.List.{length-map}
use Rattle.std.proofs.lemmas.List.Folds.{flat_map-map}
use Rattle.byteorder.specs.Endian.{big_bytes}
use Rattle.bgp_prefix.specs.Prefixes.{IpPrefix}
use Rattle.bgp_prefix.specs.Keys.{RouteKey}
use Rattle.bgp_update.specs.declared.route.Route.{Route}
use Rattle.bgp_update.specs.Families.{FamilyOf}
use Rattle.bgp_update.specs.Updates.{update_bytes}
use Rattle.peer_units.specs.Events.{message_bytes, UPDATE}
use Rattle.peer_units.specs.declared.unit.PeerKey.{PeerKey}
use Rattle.mrt_body.specs.Indexes.{index_bytes, peer_bytes}
use Rattle.mrt_body.specs.RibRecords.{entry_bytes, rib_bytes}
use Rattle.mrt_writing.specs.Heads.{written_index, written_peer}
use Rattle.mrt_writing.specs.Prefixes.{prefix_octets}
use Rattle.mrt_writing.specs.Records.{WrittenRecord, record_head, record_bytes}
use Rattle.mrt_writing.specs.RibRecords.{PrefixRoute, rib_head, written_entry, written_rib}
use Rattle.mrt_writing.specs.Updates.{written_update, update_message, update_field, update_of}

pub record_parts : (r : WrittenRecord) → record_bytes r ≡ record_head r.seconds r.kind r.subtype (length r.body) ++ r.body
unfolding record_bytes
record_parts r = refl

-- an index table's head, the count of its peers, and these one after the other
pub index_written : (old new : List ℕ) (peers : List PeerKey) → new ≡ ((old ++ (0 ∷ 0 ∷ 0 ∷ 0 ∷ 0 ∷ 0 ∷ [])) ++ big_bytes 2 (length peers)) ++ flat_map (λ p. peer_bytes (written_peer p)) peers → new ≡ old ++ index_bytes (written_index peers)
index_written old new peers e =
    let front : List ℕ = 0 ∷ 0 ∷ 0 ∷ 0 ∷ 0 ∷ 0 ∷ [] in
    let all = flat_map (λ p. peer_bytes (written_peer p)) peers in
    e
    ∙ append_assoc (old ++ front) (big_bytes 2 (length peers)) all
    ∙ append_assoc old front (big_bytes 2 (length peers) ++ all)
    ∙ (λ i. old ++ (front ++ (big_bytes 2 (sym (length-map peers written_peer) i) ++ sym (flat_map-map peer_bytes written_peer peers) i)))

pub rib_parts : (family : FamilyOf) (add_path : Bool) (originated sequence : ℕ) (prefix : IpPrefix) (entries : List PrefixRoute)
    → rib_bytes add_path (written_rib family originated sequence prefix entries) ≡ rib_head sequence prefix (length entries) ++ flat_map (λ e. entry_bytes add_path (written_entry family originated e)) entries
rib_parts family add_path originated sequence prefix entries =
    (λ i. big_bytes 4 sequence ++ ((prefix.len ∷ prefix_octets prefix) ++ (big_bytes 2 (length-map entries (written_entry family originated) i) ++ flat_map-map (entry_bytes add_path) (written_entry family originated) entries i)))
    ∙ ap (λ (l : List ℕ). big_bytes 4 sequence ++ (prefix.len ∷ l)) (sym (append_assoc (prefix_octets prefix) (big_bytes 2 (length entries)) (flat_map (λ e. entry_bytes add_path (written_entry family originated e)) entries)))

pub update_parts : (family : FamilyOf) (add_path : Bool) (key : RouteKey) (r : Route) → update_message family add_path key r ≡ update_of (update_field family add_path key r)
unfolding update_bytes written_update
update_parts family add_path key r =
    let field = update_field family add_path key r in
    ap (λ (l : List ℕ). message_bytes UPDATE (big_bytes 2 0 ++ (big_bytes 2 (length field) ++ l))) (append-nil field)

pub update_len : (family : FamilyOf) (add_path : Bool) (key : RouteKey) (r : Route) → 19 + length (update_bytes (written_update family add_path key r)) ≡ 23 + length (update_field family add_path key r)
unfolding update_bytes written_update
update_len family add_path key r =
    let field = update_field family add_path key r in
    omega (arith, length-append field [])
