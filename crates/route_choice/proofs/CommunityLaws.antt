-- Members of a value that are tried in turn.
use Rattle.std.proofs.Common.{◌≡◌, ℕ, zero, suc, ◌-◌, ◌*◌, ◌/◌, ◌<◌, ◌≤◌, Bool, List, length, take, drop, ap, ◌∙◌, arith}
use Rattle.std.specs.Prelude.{◌||◌}
use Rattle.std.specs.List.{list_any}
use Rattle.std.proofs.lemmas.List.{length-drop, length-take}
use Rattle.bgp_update.specs.declared.kept_attribute.KeptAttribute.{KeptAttribute}
use Rattle.bgp_update.specs.declared.kept_attribute.KeptAttribute.TheVariants.{Communities, ExtendedCommunities, LargeCommunities, OriginatorId, ClusterList, OnlyToCustomer}
use Rattle.bgp_update.specs.KeptAttributes.{kept_form}
use Rattle.route_choice.specs.Communities.{members_in}

pub some_bytes : (a : KeptAttribute) → 0 < (kept_form a).size
some_bytes Communities = omega arith
some_bytes ExtendedCommunities = omega arith
some_bytes LargeCommunities = omega arith
some_bytes OriginatorId = omega arith
some_bytes ClusterList = omega arith
some_bytes OnlyToCustomer = omega arith

pub one_tried : (test : List ℕ → Bool) (left size : ℕ) (value : List ℕ) → 0 < left → list_any test (members_in left size value) ≡ (test (take size value) || list_any test (members_in (left - 1) size (drop size value)))
one_tried test zero size value pos = absurd (omega (arith, pos))
one_tried test (suc k) size value pos =
    let same : k ≡ suc k - 1 = omega arith in
    ap (λ (n : ℕ). test (take size value) || list_any test (members_in n size (drop size value))) same

-- there is room for a member, and for the others behind it
pub record HasRoom (left size : ℕ) (value : List ℕ) : Type 0 where
  pub member : size ≤ length value
  pub whole : length (take size value) ≡ size
  pub behind : (left - 1) * size ≤ length (drop size value)

pub room_of : (left size : ℕ) (value : List ℕ) → 0 < left → left * size ≤ length value → HasRoom left size value
room_of zero size value pos h = absurd (omega (arith, pos))
room_of (suc k) size value pos h =
    let member : size ≤ length value = omega (arith, h) in
    let same : suc k - 1 ≡ k = omega arith in
    record {
      member = member;
      whole = length-take size value ∙ omega (arith, member);
      behind = rw same (omega (arith, h, length-drop size value));
    }

pub all_fit : (len size : ℕ) → 0 < size → len / size * size ≤ len
all_fit len size pos = omega (arith, pos)
