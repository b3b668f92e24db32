-- The test of equal routes is true exactly of equal routes.
use Rattle.std.proofs.Common.{◌≡◌, ℕ, Bool, true, false, cond, List, [], ◌∷◌, Option, Some, None, nat_eq, refl, sym, ap, ◌∙◌}
use Rattle.std.specs.Option.{option_eq}
use Rattle.std.proofs.lemmas.Bool.{eqb-true, eq-eqb, and_parts, and_from}
use Rattle.bgp_update.specs.declared.next_hop.NextHop.{NextHop}
use Rattle.bgp_update.specs.declared.next_hop.NextHop.TheVariants.{V4, V6, V6Pair}
use Rattle.bgp_update.specs.declared.path.SegmentKind.{SegmentKind}
use Rattle.bgp_update.specs.declared.path.SegmentKind.TheVariants.{AsSet, AsSequence, ConfedSequence, ConfedSet}
use Rattle.bgp_update.specs.declared.route.Origin.{Origin}
use Rattle.bgp_update.specs.declared.route.Origin.TheVariants.{Igp, Egp, Incomplete}
use Rattle.bgp_update.specs.declared.route.Aggregator.{Aggregator}
use Rattle.bgp_update.specs.declared.route.Route.{Route}
use Rattle.bgp_update.specs.Paths.{PathSegment}
use Rattle.bgp_update.specs.Segments.{kind_number}
use Rattle.bgp_update.specs.PathEquality.{list_eq, number_eq, segment_eq}
use Rattle.bgp_update.specs.Equality.{bool_eq, origin_number, aggregator_eq, hop_eq, kept_eq, route_eq}
use Rattle.bgp_update.specs.KeptAttributes.{KeptValue}

-- a test that is true exactly of equal values
pub record DecidesEquality {A : Type 0} (eq : A → A → Bool) : Type 0 where
  pub same : (x y : A) → eq x y ≡ true → x ≡ y
  pub itself : (x : A) → eq x x ≡ true

numbers_decide : DecidesEquality number_eq
numbers_decide = record { same = eqb-true; itself = λ x. eq-eqb x x refl }

same_bool : (x y : Bool) → bool_eq x y ≡ true → x ≡ y
same_bool true true h = refl
same_bool true false h = absurd cc
same_bool false true h = absurd cc
same_bool false false h = refl

bool_itself : (x : Bool) → bool_eq x x ≡ true
bool_itself true = refl
bool_itself false = refl

abbrev origin_of_number : ℕ → Origin
origin_of_number n = cond (nat_eq n 0) Igp (cond (nat_eq n 1) Egp Incomplete)

origin_back : (x : Origin) → origin_of_number (origin_number x) ≡ x
origin_back Igp = refl
origin_back Egp = refl
origin_back Incomplete = refl

abbrev origin_eq : Origin → Origin → Bool
origin_eq x y = nat_eq (origin_number x) (origin_number y)

origins_decide : DecidesEquality origin_eq
origins_decide = record {
  same = λ x y h. sym (origin_back x) ∙ ap origin_of_number (eqb-true (origin_number x) (origin_number y) h) ∙ origin_back y;
  itself = λ x. eq-eqb (origin_number x) (origin_number x) refl;
}

abbrev kind_of_number : ℕ → SegmentKind
kind_of_number n = cond (nat_eq n 1) AsSet (cond (nat_eq n 2) AsSequence (cond (nat_eq n 3) ConfedSequence ConfedSet))

kind_back : (x : SegmentKind) → kind_of_number (kind_number x) ≡ x
kind_back AsSet = refl
kind_back kind = refl

same_aggregator : (x y : Aggregator) → aggregator_eq x y ≡ true → x ≡ y
same_aggregator x y h =
    let parts = and_parts (nat_eq x.asn y.asn) (nat_eq x.addr y.addr) h in
    λ i. record { asn = eqb-true x.asn y.asn parts.0 i; addr = eqb-true x.addr y.addr parts.1 i }

aggregators_decide : DecidesEquality aggregator_eq
aggregators_decide = record { same = same_aggregator; itself = λ x. and_from (nat_eq x.asn x.asn) (nat_eq x.addr x.addr) (eq-eqb x.asn x.asn refl) (eq-eqb x.addr x.addr refl) }

same_hop : (x y : NextHop) → hop_eq x y ≡ true → x ≡ y
same_hop (V4 a) (V4 b) h = ap (λ n. V4 n) (eqb-true a b h)
same_hop (V6 a) (V6 b) h = ap (λ n. V6 n) (eqb-true a b h)
same_hop (V6Pair a link) (V6Pair b other) h =
    let parts = and_parts (nat_eq a b) (nat_eq link other) h in
    λ i. V6Pair (eqb-true a b parts.0 i) (eqb-true link other parts.1 i)
same_hop x y h = absurd cc

hop_itself : (x : NextHop) → hop_eq x x ≡ true
hop_itself (V4 a) = eq-eqb a a refl
hop_itself (V6 a) = eq-eqb a a refl
hop_itself (V6Pair a link) = and_from (nat_eq a a) (nat_eq link link) (eq-eqb a a refl) (eq-eqb link link refl)

hops_decide : DecidesEquality hop_eq
hops_decide = record { same = same_hop; itself = hop_itself }

module _ {A : Type 0} {eq : A → A → Bool} (t : DecidesEquality eq) where
  same_option : (x y : Option A) → option_eq eq x y ≡ true → x ≡ y
  same_option None None h = refl
  same_option None (Some y) h = absurd cc
  same_option (Some x) None h = absurd cc
  same_option (Some x) (Some y) h = ap (λ z. Some z) (t.same x y h)

  option_itself : (x : Option A) → option_eq eq x x ≡ true
  option_itself None = refl
  option_itself (Some x) = t.itself x

  same_list : (xs ys : List A) → list_eq eq xs ys ≡ true → xs ≡ ys
  same_list [] [] h = refl
  same_list [] (y ∷ ys) h = absurd cc
  same_list (x ∷ xs) [] h = absurd cc
  same_list (x ∷ xs) (y ∷ ys) h =
      let parts = and_parts (eq x y) (list_eq eq xs ys) h in
      λ i. t.same x y parts.0 i ∷ same_list xs ys parts.1 i

  list_itself : (xs : List A) → list_eq eq xs xs ≡ true
  list_itself [] = refl
  list_itself (x ∷ xs) = and_from (eq x x) (list_eq eq xs xs) (t.itself x) (list_itself xs)

  lists_decide : DecidesEquality (list_eq eq)
  lists_decide = record { same = same_list; itself = list_itself }

same_segment : (x y : PathSegment) → segment_eq x y ≡ true → x ≡ y
same_segment x y h =
    let parts = and_parts (nat_eq (kind_number x.kind) (kind_number y.kind)) (list_eq number_eq x.numbers y.numbers) h in
    let kinds : x.kind ≡ y.kind = sym (kind_back x.kind) ∙ ap kind_of_number (eqb-true (kind_number x.kind) (kind_number y.kind) parts.0) ∙ kind_back y.kind in
    let numbers : x.numbers ≡ y.numbers = same_list numbers_decide x.numbers y.numbers parts.1 in
    λ i. record { kind = kinds i; numbers = numbers i }

segments_decide : DecidesEquality segment_eq
segments_decide = record { same = same_segment; itself = λ x. and_from _ _ (eq-eqb (kind_number x.kind) (kind_number x.kind) refl) (list_itself numbers_decide x.numbers) }

paths_decide : DecidesEquality (list_eq segment_eq)
paths_decide = lists_decide segments_decide

same_value : (x y : KeptValue) → kept_eq x y ≡ true → x ≡ y
same_value x y h =
    let parts = and_parts (nat_eq x.code y.code) (list_eq number_eq x.value y.value) h in
    λ i. record { code = eqb-true x.code y.code parts.0 i; value = same_list numbers_decide x.value y.value parts.1 i }

values_decide : DecidesEquality kept_eq
values_decide = record { same = same_value; itself = λ x. and_from _ _ (eq-eqb x.code x.code refl) (list_itself numbers_decide x.value) }

kept_decide : DecidesEquality (list_eq kept_eq)
kept_decide = lists_decide values_decide

-- a test that is true exactly of equal values is any other one
by_equality : {A : Type 0} {eq : A → A → Bool} → DecidesEquality eq → (b : Bool) (x y : A) → (b ≡ true → x ≡ y) → (x ≡ y → b ≡ true) → b ≡ eq x y
by_equality {A} {eq} t true x y f g = sym (ap (eq x) (sym (f refl)) ∙ t.itself x)
by_equality {A} {eq} t false x y f g = elim (eq x y) as (λ c. eq x y ≡ c → false ≡ c) [
  | true ↦ λ e. g (t.same x y e)
  | false ↦ λ e. refl
] refl

pub decides_kept : (b : Bool) (x y : List KeptValue) → (b ≡ true → x ≡ y) → (x ≡ y → b ≡ true) → b ≡ list_eq kept_eq x y
decides_kept b x y f g = by_equality kept_decide b x y f g

pub same_route : (a b : Route) → route_eq a b ≡ true → a ≡ b
unfolding route_eq
same_route a b h =
    let kepts = and_parts _ (list_eq kept_eq a.kept b.kept) h in
    let paths = and_parts _ (option_eq (list_eq segment_eq) a.path b.path) kepts.0 in
    let aggregators = and_parts _ (option_eq aggregator_eq a.aggregator b.aggregator) paths.0 in
    let atomics = and_parts _ (bool_eq a.atomic b.atomic) aggregators.0 in
    let prefs = and_parts _ (option_eq number_eq a.local_pref b.local_pref) atomics.0 in
    let meds = and_parts _ (option_eq number_eq a.med b.med) prefs.0 in
    let origins = and_parts (option_eq origin_eq a.origin b.origin) (option_eq hop_eq a.next_hop b.next_hop) meds.0 in
    λ i. record {
      origin = same_option origins_decide a.origin b.origin origins.0 i;
      path = same_option paths_decide a.path b.path paths.1 i;
      next_hop = same_option hops_decide a.next_hop b.next_hop origins.1 i;
      med = same_option numbers_decide a.med b.med meds.1 i;
      local_pref = same_option numbers_decide a.local_pref b.local_pref prefs.1 i;
      atomic = same_bool a.atomic b.atomic atomics.1 i;
      aggregator = same_option aggregators_decide a.aggregator b.aggregator aggregators.1 i;
      kept = same_list values_decide a.kept b.kept kepts.1 i;
    }

pub route_itself : (a : Route) → route_eq a a ≡ true
unfolding route_eq
route_itself a =
    and_from _ _ (and_from _ _ (and_from _ _ (and_from _ _ (and_from _ _ (and_from _ _ (and_from _ _ (option_itself origins_decide a.origin) (option_itself hops_decide a.next_hop)) (option_itself numbers_decide a.med)) (option_itself numbers_decide a.local_pref)) (bool_itself a.atomic)) (option_itself aggregators_decide a.aggregator)) (option_itself paths_decide a.path)) (list_itself values_decide a.kept)

pub same_as_route : (a b : Route) → a ≡ b → route_eq a b ≡ true
same_as_route a b h = ap (route_eq a) (sym h) ∙ route_itself a

-- a test that is true exactly of equal routes is the test of all fields
pub decides_same : (b : Bool) (x y : Route) → (b ≡ true → x ≡ y) → (x ≡ y → b ≡ true) → b ≡ route_eq x y
decides_same b x y f g = by_equality {eq = route_eq} (record { same = same_route; itself = route_itself }) b x y f g
