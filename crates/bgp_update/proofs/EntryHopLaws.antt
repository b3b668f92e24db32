-- A RIB entry's MP_REACH_NLRI is read as it is written, and what is read was written so.
use Rattle.std.proofs.Common.{◌≡◌, ℕ, ◌≤◌, Bool, true, false, ◌&&◌, cond, eqb, ltb, List, [], ◌∷◌, ◌++◌, length, slice_index, drop, Option, Some, None, Result, Ok, Err, refl, sym, ap, subst, ◌∙◌, append-nil, arith, inl, inr}
use Rattle.std.specs.Prelude.{IfSome}
use Rattle.std.proofs.lemmas.Bool.{eqb-true, ltb-false, le-ltb, and_parts, eq-eqb}
use Rattle.std.proofs.lemmas.List.{nil_from_length}
use borrow.Author.Tests.{both_ways}
use Rattle.std.specs.Result.{result_unwrap_or}
use Rattle.byteorder.specs.Endian.{big_number}
use Rattle.mrt_frame.specs.declared.fault.Fault.{Fault}
use Rattle.mrt_frame.specs.Fields.{◌>>=◌, byte_at}
use Rattle.mrt_frame.proofs.Items.{bind_ok, ok_is}
use Rattle.mrt_frame.proofs.FieldLaws.{IsBytes, IsBytes-drop, byte_at-takes, byte_at-again}
use Rattle.bgp_update.specs.declared.attribute_type.AttributeType.TheVariants.{MpReachNlri}
use Rattle.bgp_update.specs.declared.next_hop.NextHop.{NextHop}
use Rattle.bgp_update.specs.declared.next_hop.NextHop.TheVariants.{V4, V6, V6Pair}
use Rattle.bgp_update.specs.Families.{FamilyOf}
use Rattle.bgp_update.specs.AttributeTypes.{bad_attribute}
use Rattle.bgp_update.specs.Multiprotocol.{hop_bytes, hop_part, IsEntryHop, SaysEntryHop, is_unicast, hop_at, entry_hop_in, entry_hop}
use Rattle.bgp_update.specs.Attributes.{HoldsEntryHop}
use Rattle.bgp_update.proofs.MultiprotocolLaws.{test_ok, hop_takes, hop_part_again}

abbrev bad : Fault
bad = bad_attribute MpReachNlri

-- the whole attribute, and a next hop alone
abbrev whole : FamilyOf → List ℕ → Result (Option NextHop) Fault
whole family value =
    cond (ltb (length value) 3) (Err bad) (cond (is_unicast family value) (hop_at (drop 3 value) >>= λ hop. Ok (Some hop.0)) (Ok None))

abbrev alone : List ℕ → Result (Option NextHop) Fault
alone value = hop_at value >>= λ hop. cond (eqb (length hop.1) 0) (Ok (Some hop.0)) (Err bad)

-- behind a byte 0 the AFI is its second byte
second_is : (b : ℕ) (rest : List ℕ) → big_number 2 (0 ∷ b ∷ rest) ≡ b
second_is b rest = omega arith

parts_are : (tail : List ℕ) → 3 ≤ length (0 ∷ tail) → 0 ∷ tail ≡ 0 ∷ big_number 2 (0 ∷ tail) ∷ slice_index (0 ∷ tail) 2 ∷ drop 3 (0 ∷ tail)
parts_are [] long = absurd (omega (arith, long))
parts_are (b ∷ []) long = absurd (omega (arith, long))
parts_are (b ∷ c ∷ rest) long = ap (λ (n : ℕ). 0 ∷ n ∷ c ∷ rest) (sym (second_is b (c ∷ rest)))

whole_takes : (family : FamilyOf) (tail : List ℕ) (o : Option NextHop) → IsBytes (0 ∷ tail) → whole family (0 ∷ tail) ≡ Ok o → IsEntryHop family (0 ∷ tail) o
whole_takes family tail o fine e = by_tests (ltb (length (0 ∷ tail)) 3) (is_unicast family (0 ∷ tail)) refl refl e
  where
    by_tests : (short unicast : Bool) → ltb (length (0 ∷ tail)) 3 ≡ short → is_unicast family (0 ∷ tail) ≡ unicast
        → cond short (Err bad) (cond unicast (◌>>=◌ {B = Option NextHop} (hop_at (drop 3 (0 ∷ tail))) (λ hop. Ok (Some hop.0))) (Ok None)) ≡ Ok o → IsEntryHop family (0 ∷ tail) o
    by_tests true unicast s u h = absurd cc
    by_tests false false s u h =
        subst (IsEntryHop family (0 ∷ tail)) (ok_is None o h) (record {
          afi = big_number 2 (0 ∷ tail);
          safi = slice_index (0 ∷ tail) 2;
          others = drop 3 (0 ∷ tail);
          other = λ same. both_ways (is_unicast family (0 ∷ tail)) u (rw (same.0, same.1) (ap (λ (b : Bool). b && true) (eq-eqb family.afi family.afi refl)));
          spelled = parts_are tail (ltb-false _ _ s);
        })
    by_tests false true s u h =
        let r = bind_ok (hop_at (drop 3 (0 ∷ tail))) (λ hop. Ok (Some hop.0)) o h in
        let tests = and_parts (eqb (big_number 2 (0 ∷ tail)) family.afi) (eqb (slice_index (0 ∷ tail) 2) 1) u in
        let k = hop_takes (drop 3 (0 ∷ tail)) r.0 (IsBytes-drop 3 (0 ∷ tail) fine) r.1 in
        let spelled : 0 ∷ tail ≡ 0 ∷ family.afi ∷ 1 ∷ (hop_part r.0.0 ++ r.0.1) =
        parts_are tail (ltb-false _ _ s) ∙ ap (λ (n : ℕ). 0 ∷ n ∷ slice_index (0 ∷ tail) 2 ∷ drop 3 (0 ∷ tail)) (eqb-true (big_number 2 (0 ∷ tail)) family.afi tests.0) ∙ ap (λ (n : ℕ). 0 ∷ family.afi ∷ n ∷ drop 3 (0 ∷ tail)) (eqb-true (slice_index (0 ∷ tail) 2) 1 tests.1) ∙ ap (λ (t : List ℕ). 0 ∷ family.afi ∷ 1 ∷ t) k.parts in
        subst (IsEntryHop family (0 ∷ tail)) (ok_is (Some r.0.0) o r.2) (inr (record { rest = r.0.1; fits = k.fits; spelled = spelled }))

alone_takes : (family : FamilyOf) (value : List ℕ) (o : Option NextHop) → IsBytes value → alone value ≡ Ok o → IsEntryHop family value o
alone_takes family value o fine e =
    let r = bind_ok (hop_at value) (λ hop. cond (eqb (length hop.1) 0) (Ok (Some hop.0)) (Err bad)) o e in
    let test = test_ok (eqb (length r.0.1) 0) bad (Ok (Some r.0.0)) o r.2 in
    let k = hop_takes value r.0 fine r.1 in
    let none : r.0.1 ≡ [] = nil_from_length r.0.1 (eqb-true (length r.0.1) 0 test.0) in
    subst (IsEntryHop family value) (ok_is (Some r.0.0) o test.1) (inl (record { fits = k.fits; spelled = k.parts ∙ ap (λ (t : List ℕ). hop_part r.0.0 ++ t) none ∙ append-nil (hop_part r.0.0) }))

pub entry_hop_in-is : (family : FamilyOf) (value : List ℕ) (o : Option NextHop) → IsBytes value → entry_hop_in family value ≡ Ok o → IsEntryHop family value o
unfolding entry_hop_in
entry_hop_in-is family value o fine e =
    let first = bind_ok (byte_at bad value) (λ first. cond (eqb first.0 0) (whole family value) (alone value)) o e in
    let t = byte_at-takes bad value first.0 first.1 in
    by_first first.0.0 first.0.1 t.0 (eqb first.0.0 0) refl first.2
  where
    by_first : (n : ℕ) (tail : List ℕ) → value ≡ n ∷ tail → (b : Bool) → eqb n 0 ≡ b → cond b (whole family value) (alone value) ≡ Ok o → IsEntryHop family value o
    by_first n tail parts true zero' h =
        let v : value ≡ 0 ∷ tail = parts ∙ ap (λ (m : ℕ). m ∷ tail) (eqb-true n 0 zero') in
        subst (λ (bytes : List ℕ). IsEntryHop family bytes o) (sym v) (whole_takes family tail o (subst IsBytes v fine) (subst (λ (bytes : List ℕ). whole family bytes ≡ Ok o) v h))
    by_first n tail parts false other h = alone_takes family value o fine h

-- ---- the other way

not_empty : (hop : NextHop) → eqb (length (hop_bytes hop)) 0 ≡ false
not_empty (V4 addr) = refl
not_empty (V6 addr) = refl
not_empty (V6Pair addr link) = refl

other_again : (family : FamilyOf) (afi safi : ℕ) (others : List ℕ) → ((afi ≡ family.afi) × (safi ≡ 1) → ⊥) → is_unicast family (0 ∷ afi ∷ safi ∷ others) ≡ false
other_again family afi safi others other = by_test (is_unicast family (0 ∷ afi ∷ safi ∷ others)) refl
  where
    by_test : (b : Bool) → is_unicast family (0 ∷ afi ∷ safi ∷ others) ≡ b → b ≡ false
    by_test false e = refl
    by_test true e =
        let tests = and_parts (eqb (big_number 2 (0 ∷ afi ∷ safi ∷ others)) family.afi) (eqb safi 1) e in
        absurd (other (sym (second_is afi (safi ∷ others)) ∙ eqb-true (big_number 2 (0 ∷ afi ∷ safi ∷ others)) family.afi tests.0, eqb-true safi 1 tests.1))

own_here : (family : FamilyOf) (rest : List ℕ) → is_unicast family (0 ∷ family.afi ∷ 1 ∷ rest) ≡ true
own_here family rest = ap (λ (n : ℕ). eqb n family.afi && true) (second_is family.afi (1 ∷ rest)) ∙ ap (λ (b : Bool). b && true) (eq-eqb family.afi family.afi refl)

pub entry_hop_in-said : (family : FamilyOf) (value : List ℕ) (o : Option NextHop) → IsEntryHop family value o → entry_hop_in family value ≡ Ok o
unfolding entry_hop_in
entry_hop_in-said family value None h =
    ap (entry_hop_in family) h.spelled
    ∙ rw (byte_at-again bad 0 (h.afi ∷ h.safi ∷ h.others), le-ltb (length (0 ∷ h.afi ∷ h.safi ∷ h.others)) 3 (omega arith), other_again family h.afi h.safi h.others h.other) refl
entry_hop_in-said family value (Some hop) (inl h) =
    ap (entry_hop_in family) (h.spelled ∙ sym (append-nil (hop_part hop)))
    ∙ rw (byte_at-again bad (length (hop_bytes hop)) (hop_bytes hop ++ []), not_empty hop, hop_part_again hop [] h.fits) refl
entry_hop_in-said family value (Some hop) (inr h) =
    let tail : List ℕ = hop_part hop ++ h.rest in
    ap (entry_hop_in family) h.spelled
    ∙ rw (byte_at-again bad 0 (family.afi ∷ 1 ∷ tail), le-ltb (length (0 ∷ family.afi ∷ 1 ∷ tail)) 3 (omega arith), own_here family tail, hop_part_again hop h.rest h.fits) refl

-- ---- where it may not be there

pub entry_hop-is : (family : FamilyOf) (o : Option (List ℕ)) → IfSome o (HoldsEntryHop false family) → SaysEntryHop family o (entry_hop family o)
entry_hop-is family None h = refl
entry_hop-is family (Some value) h = subst (IsEntryHop family value) (sym (ap (λ (r : Result (Option NextHop) Fault). result_unwrap_or r None) (entry_hop_in-said family value h.0 h.1))) h.1

pub entry_hop-said : (family : FamilyOf) (o : Option (List ℕ)) (hop : Option NextHop) → SaysEntryHop family o hop → entry_hop family o ≡ hop
entry_hop-said family None hop h = sym h
entry_hop-said family (Some value) hop h = ap (λ (r : Result (Option NextHop) Fault). result_unwrap_or r None) (entry_hop_in-said family value hop h)
