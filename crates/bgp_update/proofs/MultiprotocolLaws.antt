-- MP_REACH_NLRI and MP_UNREACH_NLRI are read as they are written, and what is read was written so.
use Rattle.std.proofs.Common.{◌≡◌, ℕ, ◌^◌, ◌<◌, ◌≤◌, Bool, true, false, ◌&&◌, ◌||◌, cond, eqb, ltb, List, [], ◌∷◌, ◌++◌, length, slice_index, take, drop, Option, Some, None, Result, Ok, Err, refl, sym, ap, subst, ◌∙◌, append-nil, arith, inl, inr}
use Rattle.std.proofs.lemmas.Bool.{eqb-true, ltb-false, le-ltb, and_parts, eq-eqb}
use Rattle.std.proofs.lemmas.List.{take_all, drop_at, take-append-drop, length-drop}
use borrow.Author.Tests.{both_ways}
use Rattle.std.specs.Prelude.{option_map}
use Rattle.byteorder.specs.Endian.{big_number, big_bytes}
use Rattle.byteorder.specs.Numbers.{big_number-reads_back, length-bytes_high_first, big_from-lt}
use Rattle.mrt_frame.specs.declared.fault.Fault.{Fault}
use Rattle.mrt_frame.specs.Fields.{◌>>=◌, byte_at, bytes_at}
use Rattle.mrt_frame.proofs.Items.{bind_ok, ok_is}
use Rattle.mrt_frame.proofs.FieldLaws.{IsBytes, IsBytes-front, IsBytes-drop, big_bytes-number, bytes_at-takes, byte_at-takes, bytes_at-again, byte_at-again}
use Rattle.bgp_prefix.specs.Keys.{RouteKey}
use Rattle.bgp_update.specs.Families.{FamilyOf, form_of}
use Rattle.bgp_update.specs.declared.attribute_type.AttributeType.TheVariants.{MpReachNlri, MpUnreachNlri}
use Rattle.bgp_update.specs.declared.next_hop.NextHop.{NextHop}
use Rattle.bgp_update.specs.declared.next_hop.NextHop.TheVariants.{V4, V6, V6Pair}
use Rattle.bgp_update.specs.AttributeTypes.{bad_attribute}
use Rattle.bgp_update.specs.Keys.{WrittenKey, keys_bytes, with_keys}
use Rattle.bgp_update.specs.Multiprotocol.{family_bytes, hop_bytes, hop_part, FitsHop, IsOfAnotherFamily, IsReach, IsUnreach, SaysReach, SaysUnreach, is_unicast, is_hop_len, next_hop_of, hop_at, reach_at, reach_in, unreach_in, keys_beside, reached_in, unreached_in, reached_keys, unreached_keys}
use Rattle.bgp_update.proofs.KeyLaws.{keys_in-bytes, keys_in-is}

-- a test that passed
pub test_ok : {A : Type 0} (b : Bool) (fault : Fault) (r : Result A Fault) (y : A) → cond b r (Err fault) ≡ Ok y → (b ≡ true) × (r ≡ Ok y)
test_ok true fault r y e = (refl, e)
test_ok false fault r y e = absurd cc

-- ---- next hops

-- the bytes of a next hop are those it was read from
abbrev pub HopIs : List ℕ → NextHop → Type 0
HopIs octets hop = (octets ≡ hop_bytes hop) × FitsHop hop

read_back : (n : ℕ) (octets : List ℕ) → length octets ≡ n → IsBytes octets → octets ≡ big_bytes n (big_number n octets)
read_back n octets e fine = sym (big_bytes-number n octets (omega (arith, e)) fine ∙ take_all n octets (omega (arith, e)))

four_is : (octets : List ℕ) → length octets ≡ 4 → IsBytes octets → HopIs octets (V4 (big_number 4 octets))
four_is octets e fine = (read_back 4 octets e fine, big_from-lt 0 4 octets fine)

sixteen_is : (octets : List ℕ) → length octets ≡ 16 → IsBytes octets → HopIs octets (V6 (big_number 16 octets))
sixteen_is octets e fine = (read_back 16 octets e fine, big_from-lt 0 16 octets fine)

pair_is : (octets : List ℕ) → length octets ≡ 32 → IsBytes octets → HopIs octets (V6Pair (big_number 16 octets) (big_number 16 (drop 16 octets)))
pair_is octets e fine =
    let second = IsBytes-drop 16 octets fine in
    let front : big_bytes 16 (big_number 16 octets) ≡ take 16 octets = big_bytes-number 16 octets (omega (arith, e)) fine in
    let back : drop 16 octets ≡ big_bytes 16 (big_number 16 (drop 16 octets)) = read_back 16 (drop 16 octets) (omega (arith, e, length-drop 16 octets)) second in
    (sym (take-append-drop 16 octets) ∙ ap (λ (t : List ℕ). t ++ drop 16 octets) (sym front) ∙ ap (λ (t : List ℕ). big_bytes 16 (big_number 16 octets) ++ t) back, (big_from-lt 0 16 octets fine, big_from-lt 0 16 (drop 16 octets) second))

pub hop_is : (octets : List ℕ) → is_hop_len (length octets) ≡ true → IsBytes octets → HopIs octets (next_hop_of octets)
unfolding next_hop_of
hop_is octets known fine = by_len (eqb (length octets) 4) (eqb (length octets) 16) refl refl known
  where
    by_len : (four sixteen : Bool) → eqb (length octets) 4 ≡ four → eqb (length octets) 16 ≡ sixteen → (four || sixteen || eqb (length octets) 32) ≡ true
        → HopIs octets (cond four (V4 (big_number 4 octets)) (cond sixteen (V6 (big_number 16 octets)) (V6Pair (big_number 16 octets) (big_number 16 (drop 16 octets)))))
    by_len true sixteen e h known = four_is octets (eqb-true (length octets) 4 e) fine
    by_len false true e h known = sixteen_is octets (eqb-true (length octets) 16 h) fine
    by_len false false e h known = pair_is octets (eqb-true (length octets) 32 known) fine

reads : (n addr : ℕ) → addr < 256 ^ n → big_number n (big_bytes n addr) ≡ addr
reads n addr fits = ap (big_number n) (sym (append-nil (big_bytes n addr))) ∙ big_number-reads_back n addr [] fits

hop_again : (hop : NextHop) → FitsHop hop → (is_hop_len (length (hop_bytes hop)) ≡ true) × (next_hop_of (hop_bytes hop) ≡ hop)
unfolding next_hop_of
hop_again (V4 addr) fits = (refl, ap (λ (n : ℕ). V4 n) (reads 4 addr fits))
hop_again (V6 addr) fits = (refl, ap (λ (n : ℕ). V6 n) (reads 16 addr fits))
hop_again (V6Pair addr link) fits =
    let first : big_number 16 (big_bytes 16 addr ++ big_bytes 16 link) ≡ addr = big_number-reads_back 16 addr (big_bytes 16 link) fits.0 in
    let second : big_number 16 (drop 16 (big_bytes 16 addr ++ big_bytes 16 link)) ≡ link = ap (big_number 16) (drop_at (big_bytes 16 addr) (big_bytes 16 link) 16 (length-bytes_high_first 16 addr)) ∙ reads 16 link fits.1 in
    (refl, ap (λ (n : ℕ). V6Pair n (big_number 16 (drop 16 (big_bytes 16 addr ++ big_bytes 16 link)))) first ∙ ap (λ (n : ℕ). V6Pair addr n) second)

-- ---- families

family_is : (value : List ℕ) → 3 ≤ length value → IsBytes value → value ≡ family_bytes (big_number 2 value) (slice_index value 2) ++ drop 3 value
family_is [] long fine = absurd (omega (arith, long))
family_is (a ∷ []) long fine = absurd (omega (arith, long))
family_is (a ∷ b ∷ []) long fine = absurd (omega (arith, long))
family_is (a ∷ b ∷ c ∷ rest) long fine =
    ap (λ (t : List ℕ). (t ++ (c ∷ [])) ++ rest) (sym (big_bytes-number 2 (a ∷ b ∷ c ∷ rest) (omega arith) fine))

-- bytes for unicast routes of the family
is_own : (family : FamilyOf) (value : List ℕ) → 3 ≤ length value → IsBytes value → is_unicast family value ≡ true → value ≡ family_bytes family.afi 1 ++ drop 3 value
is_own family value long fine e =
    let tests = and_parts (eqb (big_number 2 value) family.afi) (eqb (slice_index value 2) 1) e in
    family_is value long fine ∙ ap (λ (afi : ℕ). family_bytes afi (slice_index value 2) ++ drop 3 value) (eqb-true (big_number 2 value) family.afi tests.0) ∙ ap (λ (safi : ℕ). family_bytes family.afi safi ++ drop 3 value) (eqb-true (slice_index value 2) 1 tests.1)

own_again : (family : FamilyOf) (rest : List ℕ) → is_unicast family (family_bytes family.afi 1 ++ rest) ≡ true
own_again family rest = ap (λ (n : ℕ). eqb n family.afi && true) (big_number-reads_back 2 family.afi (1 ∷ rest) family.afi_fits) ∙ ap (λ (b : Bool). b && true) (eq-eqb family.afi family.afi refl)

is_another : (family : FamilyOf) (value : List ℕ) → 3 ≤ length value → IsBytes value → is_unicast family value ≡ false → IsOfAnotherFamily family value
is_another family value long fine e =
    record {
      afi = big_number 2 value;
      safi = slice_index value 2;
      others = drop 3 value;
      fits = big_from-lt 0 2 value fine;
      other = λ same. both_ways (is_unicast family value) e (rw (same.0, same.1) (ap (λ (b : Bool). b && true) (eq-eqb family.afi family.afi refl)));
      spelled = family_is value long fine;
    }

another_again : (family : FamilyOf) (value : List ℕ) → IsOfAnotherFamily family value → (3 ≤ length value) × (is_unicast family value ≡ false)
another_again family value h =
    subst (λ (v : List ℕ). (3 ≤ length v) × (is_unicast family v ≡ false)) (sym h.spelled)
    (omega arith, by_test (is_unicast family (family_bytes h.afi h.safi ++ h.others)) refl)
  where
    afi_is : big_number 2 (family_bytes h.afi h.safi ++ h.others) ≡ h.afi
    afi_is = big_number-reads_back 2 h.afi (h.safi ∷ h.others) h.fits

    by_test : (b : Bool) → is_unicast family (family_bytes h.afi h.safi ++ h.others) ≡ b → b ≡ false
    by_test false e = refl
    by_test true e =
        let tests = and_parts (eqb (big_number 2 (family_bytes h.afi h.safi ++ h.others)) family.afi) (eqb h.safi 1) e in
        absurd (h.other (sym afi_is ∙ eqb-true _ family.afi tests.0, eqb-true h.safi 1 tests.1))

-- ---- next hops after their lengths

pub record TakesHop (bytes : List ℕ) (hop : NextHop) (rest : List ℕ) : Type 0 where
  pub fits : FitsHop hop
  pub parts : bytes ≡ hop_part hop ++ rest
  pub fine : IsBytes rest

pub hop_takes : (bytes : List ℕ) (x : NextHop × List ℕ) → IsBytes bytes → hop_at bytes ≡ Ok x → TakesHop bytes x.0 x.1
unfolding hop_at
hop_takes bytes x fine e =
    let fault : Fault = bad_attribute MpReachNlri in
    let a = bind_ok (byte_at fault bytes) (λ len. cond (is_hop_len len.0) (bytes_at fault len.0 len.1) (Err fault) >>= λ hop. Ok (next_hop_of hop.0, hop.1)) x e in
    let b = bind_ok (cond (is_hop_len a.0.0) (bytes_at fault a.0.0 a.0.1) (Err fault)) (λ hop. Ok (next_hop_of hop.0, hop.1)) x a.2 in
    let test = test_ok (is_hop_len a.0.0) fault (bytes_at fault a.0.0 a.0.1) b.0 b.1 in
    let ta = byte_at-takes fault bytes a.0 a.1 in
    let tb = bytes_at-takes fault a.0.0 a.0.1 b.0 test.1 in
    let known : is_hop_len (length b.0.0) ≡ true = ap is_hop_len tb.1 ∙ test.0 in
    let hop = hop_is b.0.0 known (IsBytes-front b.0.0 b.0.1 (subst IsBytes tb.0 (ta.1 fine))) in
    let parts : bytes ≡ hop_part (next_hop_of b.0.0) ++ b.0.1 =
    ta.0 ∙ ap (λ (t : List ℕ). a.0.0 ∷ t) tb.0 ∙ ap (λ (n : ℕ). n ∷ b.0.0 ++ b.0.1) (sym tb.1) ∙ ap (λ (os : List ℕ). length os ∷ os ++ b.0.1) hop.0 in
    subst (λ (y : NextHop × List ℕ). TakesHop bytes y.0 y.1) (ok_is (next_hop_of b.0.0, b.0.1) x b.2)
    (record { fits = hop.1; parts = parts; fine = tb.2 (ta.1 fine) })

pub hop_part_again : (hop : NextHop) (rest : List ℕ) → FitsHop hop → hop_at (hop_part hop ++ rest) ≡ Ok (hop, rest)
unfolding hop_at
hop_part_again hop rest fits =
    let fault : Fault = bad_attribute MpReachNlri in
    let known = hop_again hop fits in
    rw (byte_at-again fault (length (hop_bytes hop)) (hop_bytes hop ++ rest), known.0, bytes_at-again fault (length (hop_bytes hop)) (hop_bytes hop) rest refl, known.1) refl

-- ---- MP_REACH_NLRI

pub record TakesReach (bytes : List ℕ) (hop : NextHop) (rest : List ℕ) : Type 0 where
  pub reserved : ℕ
  pub fits : FitsHop hop
  pub parts : bytes ≡ hop_part hop ++ (reserved ∷ rest)
  pub fine : IsBytes rest

reach_takes : (bytes : List ℕ) (x : NextHop × List ℕ) → IsBytes bytes → reach_at bytes ≡ Ok x → TakesReach bytes x.0 x.1
unfolding reach_at
reach_takes bytes x fine e =
    let fault : Fault = bad_attribute MpReachNlri in
    let b = bind_ok (hop_at bytes) (λ hop. byte_at fault hop.1 >>= λ reserved. Ok (hop.0, reserved.1)) x e in
    let c = bind_ok (byte_at fault b.0.1) (λ reserved. Ok (b.0.0, reserved.1)) x b.2 in
    let tb = hop_takes bytes b.0 fine b.1 in
    let tc = byte_at-takes fault b.0.1 c.0 c.1 in
    subst (λ (y : NextHop × List ℕ). TakesReach bytes y.0 y.1) (ok_is (b.0.0, c.0.1) x c.2)
    (record { reserved = c.0.0; fits = tb.fits; parts = tb.parts ∙ ap (λ (t : List ℕ). hop_part b.0.0 ++ t) tc.0; fine = tc.1 tb.fine })

reach_again : (hop : NextHop) (reserved : ℕ) (rest : List ℕ) → FitsHop hop → reach_at (hop_part hop ++ (reserved ∷ rest)) ≡ Ok (hop, rest)
unfolding reach_at
reach_again hop reserved rest fits = rw (hop_part_again hop (reserved ∷ rest) fits, byte_at-again (bad_attribute MpReachNlri) reserved rest) refl

-- what is read of an MP_REACH_NLRI before its keys
abbrev ReachParts : FamilyOf → List ℕ → Option (NextHop × List ℕ) → Type 0
ReachParts family value None = IsOfAnotherFamily family value
ReachParts family value (Some reach) = TakesReach (drop 3 value) reach.0 reach.1 × (value ≡ family_bytes family.afi 1 ++ drop 3 value)

reach_parts : (family : FamilyOf) (value : List ℕ) (o : Option (NextHop × List ℕ)) → IsBytes value → reach_in family value ≡ Ok o → ReachParts family value o
unfolding reach_in
reach_parts family value o fine e = by_tests (ltb (length value) 3) (is_unicast family value) refl refl e
  where
    by_tests : (short unicast : Bool) → ltb (length value) 3 ≡ short → is_unicast family value ≡ unicast
        → cond short (Err (bad_attribute MpReachNlri)) (cond unicast (◌>>=◌ {B = Option (NextHop × List ℕ)} (reach_at (drop 3 value)) (λ reach. Ok (Some reach))) (Ok None)) ≡ Ok o → ReachParts family value o
    by_tests true unicast s u h = absurd cc
    by_tests false false s u h = subst (ReachParts family value) (ok_is None o h) (is_another family value (ltb-false _ _ s) fine u)
    by_tests false true s u h =
        let r = bind_ok (reach_at (drop 3 value)) (λ reach. Ok (Some reach)) o h in
        subst (ReachParts family value) (ok_is (Some r.0) o r.2) (reach_takes (drop 3 value) r.0 (IsBytes-drop 3 value fine) r.1, is_own family value (ltb-false _ _ s) fine u)

pub reached_in-is : (family : FamilyOf) (add_path : Bool) (value : List ℕ) (x : Option NextHop × List WrittenKey) → IsBytes value → reached_in family add_path value ≡ Ok x → IsReach family add_path value x.0 x.1
reached_in-is family add_path value x fine e =
    let a = bind_ok (reach_in family value) (λ reach. keys_beside (form_of family add_path) (option_map (λ (r : NextHop × List ℕ). r.1) reach) >>= λ keys. Ok (option_map (λ (r : NextHop × List ℕ). r.0) reach, keys)) x e in
    let b = bind_ok (keys_beside (form_of family add_path) (option_map (λ (r : NextHop × List ℕ). r.1) a.0)) (λ keys. Ok (option_map (λ (r : NextHop × List ℕ). r.0) a.0, keys)) x a.2 in
    subst (λ (y : Option NextHop × List WrittenKey). IsReach family add_path value y.0 y.1) (ok_is (option_map (λ (r : NextHop × List ℕ). r.0) a.0, b.0) x b.2) (by_parts a.0 b.0 (reach_parts family value a.0 fine a.1) b.1)
  where
    by_parts : (o : Option (NextHop × List ℕ)) (keys : List WrittenKey) → ReachParts family value o → keys_beside (form_of family add_path) (option_map (λ (r : NextHop × List ℕ). r.1) o) ≡ Ok keys → IsReach family add_path value (option_map (λ (r : NextHop × List ℕ). r.0) o) keys
    by_parts None keys parts k = (parts, sym (ok_is [] keys k))
    by_parts (Some reach) keys parts k =
        let law = keys_in-is (form_of family add_path) reach.1 keys parts.0.fine k in
        record {
          reserved = parts.0.reserved;
          fits = parts.0.fits;
          formed = law.1;
          spelled = parts.1 ∙ ap (λ (t : List ℕ). family_bytes family.afi 1 ++ t) parts.0.parts ∙ ap (λ (t : List ℕ). family_bytes family.afi 1 ++ (hop_part reach.0 ++ (parts.0.reserved ∷ t))) law.0;
        }

pub reached_in-bytes : (family : FamilyOf) (add_path : Bool) (value : List ℕ) (hop : Option NextHop) (keys : List WrittenKey) → IsReach family add_path value hop keys → reached_in family add_path value ≡ Ok (hop, keys)
unfolding reach_in
reached_in-bytes family add_path value None keys h =
    let f = another_again family value h.0 in
    rw (le-ltb (length value) 3 f.0, f.1, h.1) refl
reached_in-bytes family add_path value (Some hop) keys h =
    let tail : List ℕ = hop_part hop ++ (h.reserved ∷ keys_bytes keys) in
    let long : ltb (length (family_bytes family.afi 1 ++ tail)) 3 ≡ false = le-ltb _ _ (omega arith) in
    ap (reached_in family add_path) h.spelled ∙ rw (long, own_again family tail, reach_again hop h.reserved (keys_bytes keys) h.fits, keys_in-bytes (form_of family add_path) keys h.formed) refl

-- ---- MP_UNREACH_NLRI

abbrev UnreachParts : FamilyOf → List ℕ → Option (List ℕ) → Type 0
UnreachParts family value None = IsOfAnotherFamily family value
UnreachParts family value (Some field) = IsBytes field × (value ≡ family_bytes family.afi 1 ++ field)

unreach_parts : (family : FamilyOf) (value : List ℕ) (o : Option (List ℕ)) → IsBytes value → unreach_in family value ≡ Ok o → UnreachParts family value o
unfolding unreach_in
unreach_parts family value o fine e = by_tests (ltb (length value) 3) (is_unicast family value) refl refl e
  where
    by_tests : (short unicast : Bool) → ltb (length value) 3 ≡ short → is_unicast family value ≡ unicast → cond short (Err (bad_attribute MpUnreachNlri)) (cond unicast (Ok (Some (drop 3 value))) (Ok None)) ≡ Ok o → UnreachParts family value o
    by_tests true unicast s u h = absurd cc
    by_tests false false s u h = subst (UnreachParts family value) (ok_is None o h) (is_another family value (ltb-false _ _ s) fine u)
    by_tests false true s u h = subst (UnreachParts family value) (ok_is (Some (drop 3 value)) o h) (IsBytes-drop 3 value fine, is_own family value (ltb-false _ _ s) fine u)

pub unreached_in-is : (family : FamilyOf) (add_path : Bool) (value : List ℕ) (keys : List WrittenKey) → IsBytes value → unreached_in family add_path value ≡ Ok keys → IsUnreach family add_path value keys
unreached_in-is family add_path value keys fine e =
    let a = bind_ok (unreach_in family value) (λ field. keys_beside (form_of family add_path) field) keys e in
    by_parts a.0 (unreach_parts family value a.0 fine a.1) a.2
  where
    by_parts : (o : Option (List ℕ)) → UnreachParts family value o → keys_beside (form_of family add_path) o ≡ Ok keys → IsUnreach family add_path value keys
    by_parts None parts k = inr (parts, sym (ok_is [] keys k))
    by_parts (Some field) parts k =
        let law = keys_in-is (form_of family add_path) field keys parts.0 k in
        inl (record { formed = law.1; spelled = parts.1 ∙ ap (λ (t : List ℕ). family_bytes family.afi 1 ++ t) law.0 })

pub unreached_in-bytes : (family : FamilyOf) (add_path : Bool) (value : List ℕ) (keys : List WrittenKey) → IsUnreach family add_path value keys → unreached_in family add_path value ≡ Ok keys
unfolding unreach_in
unreached_in-bytes family add_path value keys (inr h) =
    let f = another_again family value h.0 in
    rw (le-ltb (length value) 3 f.0, f.1, h.1) refl
unreached_in-bytes family add_path value keys (inl h) =
    let long : ltb (length (family_bytes family.afi 1 ++ keys_bytes keys)) 3 ≡ false = le-ltb _ _ (omega arith) in
    ap (unreached_in family add_path) h.spelled ∙ rw (long, own_again family (keys_bytes keys), keys_in-bytes (form_of family add_path) keys h.formed) refl

-- ---- the same as keys of routes

pub reach_again_said : (family : FamilyOf) (add_path : Bool) (value : List ℕ) (hop : Option NextHop) (keys : List RouteKey) → SaysReach family add_path value hop keys → reached_keys family add_path (Some value) ≡ Ok (hop, keys)
unfolding reached_keys
reach_again_said family add_path value hop keys h = rw (reached_in-bytes family add_path value hop h.0 h.1) (ap (λ (ks : List RouteKey). Ok (hop, ks)) (sym h.2))

pub unreach_again_said : (family : FamilyOf) (add_path : Bool) (front : List RouteKey) (value : List ℕ) (keys : List RouteKey) → SaysUnreach family add_path value keys → with_keys front (unreached_keys family add_path (Some value)) ≡ Ok (front ++ keys)
unfolding unreached_keys
unreach_again_said family add_path front value keys h = rw (unreached_in-bytes family add_path value h.0 h.1) (ap (λ (ks : List RouteKey). Ok (front ++ ks)) (sym h.2))
