-- Path attributes that a route keeps where they are asked for: a row each (RFC 1997; RFC 4360; RFC 8092; RFC 4456,
-- section 8; RFC 9234, section 5).
use Rattle.std.specs.Prelude.{◌≡◌, ℕ, ◌*◌, ◌/◌, ◌%◌, ◌<◌, Bool, true, false, not, ◌&&◌, List, [], ◌∷◌, length, Option, Some, None, ◌==◌, if◌then◌else◌}
use Rattle.std.specs.List.{flat_map}
use Rattle.bgp_update.specs.declared.kept_attribute.KeptAttribute.{KeptAttribute}
use Rattle.bgp_update.specs.declared.kept_attribute.KeptAttribute.TheVariants.{Communities, ExtendedCommunities, LargeCommunities, OriginatorId, ClusterList, OnlyToCustomer}
use Rattle.bgp_update.specs.declared.kept_attribute.KeptForm.{KeptForm}
use Rattle.bgp_update.specs.declared.kept_attribute.AttributeSet.{AttributeSet}

-- ---- the table

abbrev pub row : ℕ → ℕ → Bool → ℕ → KeptForm
row code size is_list bit = record { code = code; size = size; is_list = is_list; bit = bit }

-- the type code, the bytes of a member, whether there may be several members, and the weight of the bit in a set
abbrev pub kept_form : KeptAttribute → KeptForm
kept_form Communities = row 8 4 true 1
kept_form ExtendedCommunities = row 16 8 true 2
kept_form LargeCommunities = row 32 12 true 4
kept_form OriginatorId = row 9 4 false 8
kept_form ClusterList = row 10 4 true 16
kept_form OnlyToCustomer = row 35 4 false 32

abbrev pub kept_code : KeptAttribute → ℕ
kept_code a = (kept_form a).code

-- in the order of columns
abbrev pub all_kept : List KeptAttribute
all_kept = Communities ∷ ExtendedCommunities ∷ LargeCommunities ∷ OriginatorId ∷ ClusterList ∷ OnlyToCustomer ∷ []

-- its number in this order
abbrev pub kept_index : KeptAttribute → ℕ
kept_index Communities = 0
kept_index ExtendedCommunities = 1
kept_index LargeCommunities = 2
kept_index OriginatorId = 3
kept_index ClusterList = 4
kept_index OnlyToCustomer = 5

-- the attribute of a code; none where it is none of these
abbrev pub kept_of : ℕ → Option KeptAttribute
kept_of code =
    if code == kept_code Communities then Some Communities else
    (if code == kept_code ExtendedCommunities then Some ExtendedCommunities else
    (if code == kept_code LargeCommunities then Some LargeCommunities else
    (if code == kept_code OriginatorId then Some OriginatorId else
    (if code == kept_code ClusterList then Some ClusterList else
    (if code == kept_code OnlyToCustomer then Some OnlyToCustomer else None)))))

-- ---- values

-- one member, or any number of them but none
pub record IsKeptValue (a : KeptAttribute) (value : List ℕ) : Type 0 where
  pub members : ℕ
  pub some : 0 < members
  pub single : (kept_form a).is_list ≡ false → members ≡ 1
  pub len : length value ≡ members * (kept_form a).size

abbrev pub is_kept_value : KeptAttribute → List ℕ → Bool
is_kept_value a value =
    if (kept_form a).is_list then not (length value == 0) && (length value % (kept_form a).size == 0)
    else length value == (kept_form a).size

-- ---- sets

abbrev pub no_attributes : AttributeSet
no_attributes = record { bits = 0 }

abbrev pub has : AttributeSet → KeptAttribute → Bool
has set a = set.bits / (kept_form a).bit % 2 == 1

abbrev pub is_empty : AttributeSet → Bool
is_empty set = set.bits == 0

-- ---- what a route keeps

-- an attribute that is kept, by its type code, and its value
pub record KeptValue : Type 0 where
  pub code : ℕ
  pub value : List ℕ

-- the value of an attribute, if it is there
abbrev pub kept_item : KeptAttribute → Option (List ℕ) → List KeptValue
kept_item a None = []
kept_item a (Some value) = record { code = kept_code a; value = value } ∷ []

-- the values of the attributes that are asked for, in the order of columns; an attribute that isn't asked for gives none
abbrev pub asked_item : AttributeSet → (KeptAttribute → Option (List ℕ)) → KeptAttribute → List KeptValue
asked_item set value_at a = if has set a then kept_item a (value_at a) else []

abbrev pub kept_values : AttributeSet → (KeptAttribute → Option (List ℕ)) → List KeptValue
kept_values set value_at = flat_map (asked_item set value_at) all_kept

-- the value of an attribute among those that are kept
abbrev pub value_kept : ℕ → List KeptValue → Option (List ℕ)
value_kept code [] = None
value_kept code (k ∷ ks) = if k.code == code then Some k.value else value_kept code ks
