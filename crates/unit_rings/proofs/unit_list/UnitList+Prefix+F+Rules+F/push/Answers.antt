use Rattle.std.proofs.Common.{◌≡◌, [], ◌∷◌, ◌++◌, length, length-append, map, sym, ap, ◌∙◌, subst, arith}
use Rattle.std.specs.List.{AllByRecursion}
use Rattle.unit_rings.specs.declared.listed_unit.ListedRecord.{ListedRecord}
use Rattle.unit_rings.specs.Plain.{ListedUnit}
use Rattle.unit_rings.specs.declared.listed_unit.NumberedPeer.{NumberedPeer}
use Rattle.unit_rings.specs.ListedUnits.{IsListed, unit_in, unit_with}
use Rattle.unit_rings.specs.UnitLists.{units_of}
use Rattle.bgp_update.specs.Decoded.{IsWithin, span_of}
use Rattle.peer_units.specs.HeldBytes.{BytesMeet, payload_of_held}
use Rattle.unit_rings.proofs.ListedLaws.{after_error, kept_alone, listed_more, own_bytes, placed_same, placed_within, units_kept, within_kept, within_push}
use Rattle.unit_rings.proofs.unit_list.UnitList+Prefix+F+Rules+F.push.Goals as goal

pub returns-in_err-record-clause-failed : goal.returns-in_err-record-clause-failed
returns-in_err-record-clause-failed g c =
    let self = c.args.self.now in
    let r = c.index_of_record.new.records.items in
    after_error c.from_residual-in_err-record.result
    (ap (λ l. map (unit_in r self.peers.items self.bytes.items) l) c.in_ok-reserve.ensures.items
    ∙ units_kept self r self.peers.items c.in_err-record.ensures.kept (kept_alone self.peers.items))

pub invariant_of-self-in-Break-branch-3 : goal.invariant_of-self-in-Break-branch-3
invariant_of-self-in-Break-branch-3 g c =
    let self = c.args.self.now in
    let r = c.index_of_record.new.records.items in
    let p = c.index_of_peer.new.peers.items in
    record {
      within =
          subst (λ l. AllByRecursion (λ u. IsListed (length r) (length p) (length self.bytes.items) u) l) (sym c.in_ok-reserve.ensures.items)
          (within_kept self r p c.in_ok-record.ensures.kept c.in_err-peer.ensures.kept);
    }

pub returns-in_err-peer-clause-failed : goal.returns-in_err-peer-clause-failed
returns-in_err-peer-clause-failed g c =
    let self = c.args.self.now in
    let r = c.index_of_record.new.records.items in
    let p = c.index_of_peer.new.peers.items in
    after_error c.from_residual-in_err-peer.result
    (ap (λ l. map (unit_in r p self.bytes.items) l) c.in_ok-reserve.ensures.items
    ∙ units_kept self r p c.in_ok-record.ensures.kept c.in_err-peer.ensures.kept)

pub invariant_of-self-in-Break-branch-4 : goal.invariant_of-self-in-Break-branch-4
invariant_of-self-in-Break-branch-4 g c =
    let self = c.args.self.now in
    let r = c.index_of_record.new.records.items in
    let p = c.index_of_peer.new.peers.items in
    record {
      within =
          subst (λ l. AllByRecursion (λ u. IsListed (length r) (length p) (length self.bytes.items) u) l) (sym c.in_ok-reserve.ensures.items)
          (within_kept self r p c.in_ok-record.ensures.kept c.in_ok-peer.ensures.kept);
    }

pub returns-in_err-place-clause-failed : goal.returns-in_err-place-clause-failed
returns-in_err-place-clause-failed g c =
    let self = c.args.self.now in
    let r = c.index_of_record.new.records.items in
    let p = c.index_of_peer.new.peers.items in
    after_error c.from_residual-in_err-place.result
    (ap (λ l. map (unit_in r p self.bytes.items) l) c.in_ok-reserve.ensures.items
    ∙ units_kept self r p c.in_ok-record.ensures.kept c.in_ok-peer.ensures.kept)

pub invariant_of-self-in-Break-branch-5 : goal.invariant_of-self-in-Break-branch-5
invariant_of-self-in-Break-branch-5 g c =
    let self = c.args.self.now in
    let r = c.index_of_record.new.records.items in
    let p = c.index_of_peer.new.peers.items in
    record {
      within =
          subst (λ l. AllByRecursion (λ u. IsListed (length r) (length p) (length c.extend_from_slice.new.self.items) u) l) (sym c.in_ok-reserve.ensures.items)
          (subst (λ b. AllByRecursion (λ u. IsListed (length r) (length p) (length b) u) self.listed.items) (sym c.in_err-extend_from_slice.ensures.items)
          (within_kept self r p c.in_ok-record.ensures.kept c.in_ok-peer.ensures.kept));
    }

pub returns-in_err-extend_from_slice-clause-failed : goal.returns-in_err-extend_from_slice-clause-failed
returns-in_err-extend_from_slice-clause-failed g c =
    let self = c.args.self.now in
    let r = c.index_of_record.new.records.items in
    let p = c.index_of_peer.new.peers.items in
    after_error c.from_residual-in_err-extend_from_slice.result
    (ap (λ l. map (unit_in r p c.extend_from_slice.new.self.items) l) c.in_ok-reserve.ensures.items
    ∙ (ap (λ b. map (unit_in r p b) self.listed.items) c.in_err-extend_from_slice.ensures.items
    ∙ units_kept self r p c.in_ok-record.ensures.kept c.in_ok-peer.ensures.kept))

pub invariant_of-self-2 : goal.invariant_of-self-2
invariant_of-self-2 g c =
    let self = c.args.self.now in
    let unit = c.args.unit.now in
    let bytes = c.as_slice-bytes.result.now in
    let r = c.index_of_record.new.records.items in
    let p = c.index_of_peer.new.peers.items in
    let u : ListedUnit = record { payload = c.with_bytes.result; entry = unit.place.entry; «record» = c.in_ok-record.record; peer = c.in_ok-peer.peer } in
    let listed = c.push_reserved.ensures.items ∙ ap (λ l. l ++ u ∷ []) c.in_ok-reserve.ensures.items in
    let place = c.in_ok-place.ensures in
    let size = length (self.bytes.items ++ bytes) in
    let own = subst (λ x. BytesMeet (IsWithin size) x) (sym c.with_bytes.ensures) (placed_within size c.in_ok-place.place unit.payload (let e = place.1 in let s = c.saturating_add.ensures in let n = length-append self.bytes.items bytes in omega (arith, e, s, n))) in
    record {
      within =
          subst (λ l. AllByRecursion (λ u. IsListed (length r) (length p) (length c.extend_from_slice.new.self.items) u) l) (sym listed)
          (subst (λ b. AllByRecursion (λ u. IsListed (length r) (length p) (length b) u) (self.listed.items ++ u ∷ [])) (sym c.in_ok-extend_from_slice.ensures.items)
          (within_push (length r) (length p) self.bytes.items bytes self.listed.items u (within_kept self r p c.in_ok-record.ensures.kept c.in_ok-peer.ensures.kept) own c.in_ok-record.ensures.found.0 c.in_ok-peer.ensures.found.0));
    }

pub returns-clause-pushed : goal.returns-clause-pushed
returns-clause-pushed g c =
    let self = c.args.self.now in
    let unit = c.args.unit.now in
    let bytes = c.as_slice-bytes.result.now in
    let r = c.index_of_record.new.records.items in
    let p = c.index_of_peer.new.peers.items in
    let u : ListedUnit = record { payload = c.with_bytes.result; entry = unit.place.entry; «record» = c.in_ok-record.record; peer = c.in_ok-peer.peer } in
    let own_record : ListedRecord = record { file = unit.place.file; offset = unit.place.offset; time = unit.time } in
    let own_peer : NumberedPeer = record { number = c.args.number; peer = unit.peer } in
    let listed = c.push_reserved.ensures.items ∙ ap (λ l. l ++ u ∷ []) c.in_ok-reserve.ensures.items in
    let kept_records = c.in_ok-record.ensures.kept in
    let kept_peers = c.in_ok-peer.ensures.kept in
    let place = c.in_ok-place.ensures in
    let start : c.in_ok-place.place.start ≡ length self.bytes.items = (let s = place.0 in omega (arith, s)) in
    let len : c.in_ok-place.place.len ≡ length bytes = (let s = place.0 in let e = place.1 in let added = c.saturating_add.ensures in omega (arith, s, e, added)) in
    let own =
    ap (payload_of_held (span_of (self.bytes.items ++ bytes))) c.with_bytes.ensures
    ∙ placed_same (self.bytes.items ++ bytes) c.in_ok-place.place unit.payload (own_bytes self.bytes.items bytes c.in_ok-place.place start len ∙ c.as_slice-bytes.ensures) in
    ap (λ l. map (unit_in r p c.extend_from_slice.new.self.items) l) listed
    ∙ (ap (λ b. map (unit_in r p b) (self.listed.items ++ u ∷ [])) c.in_ok-extend_from_slice.ensures.items
    ∙ (listed_more r p self.bytes.items bytes self.listed.items u own_record own_peer unit.payload (within_kept self r p kept_records kept_peers) own c.in_ok-record.ensures.found c.in_ok-peer.ensures.found
    ∙ (ap (λ l. l ++ unit_with own_record own_peer unit.place.entry unit.payload ∷ []) (units_kept self r p kept_records kept_peers))))
