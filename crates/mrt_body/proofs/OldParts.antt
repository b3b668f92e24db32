-- What the fields of a TABLE_DUMP record leave, and the unit that they make.
use Rattle.std.proofs.Common.{◌≡◌, ℕ, ◌-◌, ◌≤◌, Bool, List, [], ◌++◌, length, drop, Ok, Err, refl, sym, ap, ◌∙◌, append-nil}
use Rattle.bgp_prefix.specs.Prefixes.{IpPrefix}
use Rattle.mrt_frame.specs.declared.fault.Fault.{Fault}
use Rattle.mrt_frame.specs.declared.fault.Fault.TheVariants.{ShortRecord}
use Rattle.mrt_frame.specs.Fields.{◌>>=◌, byte_at, bytes_at, number_at}
use Rattle.mrt_frame.proofs.Items.{bind_ok}
use Rattle.mrt_frame.proofs.FieldLaws.{bytes_at-takes}
use Rattle.bgp_update.specs.Keys.{octets_at}
use Rattle.bgp_update.specs.Families.{FamilyOf, Rules, by_entry_width}
use Rattle.bgp_update.specs.declared.width.Width.TheVariants.{Two}
use Rattle.bgp_update.proofs.Readings.{bind_assoc}
use Rattle.peer_units.specs.declared.unit.Payload.TheVariants.{Entry}
use Rattle.peer_units.specs.declared.unit.PeerKey.{PeerKey}
use Rattle.peer_units.specs.Plain.{Unit as ReplayUnit}
use Rattle.mrt_body.specs.declared.record_place.RecordAt.{RecordAt}
use Rattle.mrt_body.specs.Indexes.{addr_at}
use Rattle.mrt_body.specs.Many.{ended}
use Rattle.mrt_body.specs.OldEntries.{OldPrefix, OldPeer, address_len, is_ipv6_family, old_prefix_at, old_peer_at, old_attributes_in, old_entry_in, read_old_prefix_at, read_old_peer_at, prefix_with, peer_with, prefix_said, peer_said}
use Rattle.mrt_body.specs.Units.{session_unit, old_entry_unit}
use Rattle.mrt_body.proofs.Behind.{Behind, behind_more, behind-le, behind-drop, byte_behind, number_behind, ok_behind}
use Rattle.mrt_body.proofs.ManyLaws.{done, seen_ok}
use Rattle.mrt_body.proofs.SessionForms.{ended_is}
use Rattle.mrt_body.proofs.SessionLaws.{addr_behind}

bytes_behind : (fault : Fault) (n : ℕ) (bytes : List ℕ) (x : List ℕ × List ℕ) → bytes_at fault n bytes ≡ Ok x → Behind bytes x.1
bytes_behind fault n bytes x e = record { front = x.0; parts = (bytes_at-takes fault n bytes x e).0 }

-- ---- what is left behind the fields

prefix_behind : (family : FamilyOf) (bytes : List ℕ) (x : OldPrefix × List ℕ) → old_prefix_at family bytes ≡ Ok x → Behind bytes x.1
unfolding old_prefix_at
prefix_behind family bytes x e =
    let size = address_len (is_ipv6_family family) in
    let n = bind_ok (bytes_at ShortRecord 4 bytes) (λ numbers. bytes_at ShortRecord size numbers.1 >>= λ octets. byte_at ShortRecord octets.1 >>= λ len. octets_at family.width len.0 octets.0 >>= λ whole. Ok (prefix_with numbers.0 octets.0 len.0, len.1)) x e in
    let o = bind_ok (bytes_at ShortRecord size n.0.1) (λ octets. byte_at ShortRecord octets.1 >>= λ len. octets_at family.width len.0 octets.0 >>= λ whole. Ok (prefix_with n.0.0 octets.0 len.0, len.1)) x n.2 in
    let l = bind_ok (byte_at ShortRecord o.0.1) (λ len. octets_at family.width len.0 o.0.0 >>= λ whole. Ok (prefix_with n.0.0 o.0.0 len.0, len.1)) x o.2 in
    let w = bind_ok (octets_at family.width l.0.0 o.0.0) (λ whole. Ok (prefix_with n.0.0 o.0.0 l.0.0, l.0.1)) x l.2 in
    behind_more bytes n.0.1 x.1 (bytes_behind ShortRecord 4 bytes n.0 n.1) (behind_more n.0.1 o.0.1 x.1 (bytes_behind ShortRecord size n.0.1 o.0 o.1) (behind_more o.0.1 l.0.1 x.1 (byte_behind ShortRecord o.0.1 l.0 l.1) (ok_behind (prefix_with n.0.0 o.0.0 l.0.0) l.0.1 x w.2)))

peer_behind : (ipv6 : Bool) (bytes : List ℕ) (x : OldPeer × List ℕ) → old_peer_at ipv6 bytes ≡ Ok x → Behind bytes x.1
unfolding old_peer_at
peer_behind ipv6 bytes x e =
    let t = bind_ok (bytes_at ShortRecord 5 bytes) (λ times. addr_at ipv6 times.1 >>= λ addr. number_at ShortRecord 2 addr.1 >>= λ asn. Ok (peer_with times.0 addr.0 asn.0, asn.1)) x e in
    let a = bind_ok (addr_at ipv6 t.0.1) (λ addr. number_at ShortRecord 2 addr.1 >>= λ asn. Ok (peer_with t.0.0 addr.0 asn.0, asn.1)) x t.2 in
    let n = bind_ok (number_at ShortRecord 2 a.0.1) (λ asn. Ok (peer_with t.0.0 a.0.0 asn.0, asn.1)) x a.2 in
    behind_more bytes t.0.1 x.1 (bytes_behind ShortRecord 5 bytes t.0 t.1) (behind_more t.0.1 a.0.1 x.1 (addr_behind ipv6 t.0.1 a.0 a.1) (behind_more a.0.1 n.0.1 x.1 (number_behind ShortRecord 2 a.0.1 n.0 n.1) (ok_behind (peer_with t.0.0 a.0.0 n.0.0) n.0.1 x n.2)))

-- attributes are the end of their bytes
attributes_behind : (bytes attributes : List ℕ) → old_attributes_in bytes ≡ Ok attributes → Behind bytes attributes
unfolding old_attributes_in
attributes_behind bytes attributes e =
    let l = bind_ok (number_at ShortRecord 2 bytes) (λ len. bytes_at ShortRecord len.0 len.1 >>= λ a. ended a.0 a.1) attributes e in
    let a = bind_ok (bytes_at ShortRecord l.0.0 l.0.1) (λ a. ended a.0 a.1) attributes l.2 in
    let last = ended_is a.0.0 attributes a.0.1 a.2 in
    let all : l.0.1 ≡ attributes = (bytes_at-takes ShortRecord l.0.0 l.0.1 a.0 a.1).0 ∙ ap (λ (r : List ℕ). a.0.0 ++ r) last.0 ∙ append-nil a.0.0 ∙ last.1 in
    behind_more bytes l.0.1 attributes (number_behind ShortRecord 2 bytes l.0 l.1) (record { front = []; parts = all })

-- ---- the unit, by what is kept of the fields

abbrev unit_with : Rules → RecordAt → IpPrefix → PeerKey → List ℕ → ReplayUnit
unit_with rules at prefix peer attributes = session_unit at 0 peer (Entry (by_entry_width Two rules) (record { prefix = prefix; id = 0 }) attributes)

module _ (rules : Rules) (at : RecordAt) (body : List ℕ) where
  unit_parts : old_entry_unit rules at body
      ≡ (read_old_prefix_at rules.family body >>= λ prefix. read_old_peer_at (is_ipv6_family rules.family) prefix.1 >>= λ peer. old_attributes_in peer.1 >>= λ attributes. done (unit_with rules at prefix.0 peer.0 attributes))
  unfolding old_entry_unit old_entry_in read_old_prefix_at read_old_peer_at
  unit_parts = simp bind_assoc

  pub no_prefix : (fault : Fault) → read_old_prefix_at rules.family body ≡ Err fault → old_entry_unit rules at body ≡ Err fault
  no_prefix fault e = rw (unit_parts, e) refl

  module _ (prefix : IpPrefix) (after : List ℕ) (p : read_old_prefix_at rules.family body ≡ Ok (prefix, after)) where
    pub no_peer : (fault : Fault) → read_old_peer_at (is_ipv6_family rules.family) after ≡ Err fault → old_entry_unit rules at body ≡ Err fault
    no_peer fault e = rw (unit_parts, p, e) refl

    module _ (peer : PeerKey) (rest : List ℕ) (q : read_old_peer_at (is_ipv6_family rules.family) after ≡ Ok (peer, rest)) where
      pub no_attributes : (fault : Fault) → old_attributes_in rest ≡ Err fault → old_entry_unit rules at body ≡ Err fault
      no_attributes fault e = rw (unit_parts, p, q, e) refl

      module _ (attributes : List ℕ) (a : old_attributes_in rest ≡ Ok attributes) where
        behind : Behind body attributes
        unfolding read_old_prefix_at read_old_peer_at
        behind =
            let x = seen_ok prefix_said (old_prefix_at rules.family body) prefix after p in
            let y = seen_ok peer_said (old_peer_at (is_ipv6_family rules.family) after) peer rest q in
            behind_more body after attributes (prefix_behind rules.family body (x.0, after) x.1) (behind_more after rest attributes (peer_behind (is_ipv6_family rules.family) after (y.0, rest) y.1) (attributes_behind rest attributes a))

        pub attributes-le : length attributes ≤ length body
        attributes-le = behind-le body attributes behind

        pub unit_is : old_entry_unit rules at body ≡ Ok (unit_with rules at prefix peer (drop (length body - length attributes) body))
        unit_is = rw (unit_parts, p, q, a) (ap (λ (bytes : List ℕ). done (unit_with rules at prefix peer bytes)) (sym (behind-drop body attributes behind)))
