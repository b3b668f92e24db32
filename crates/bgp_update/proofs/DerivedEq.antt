-- What the derived comparisons of fields compute.
use Rattle.std.proofs.Common.{◌≡◌, Option, Some, None, nat_eq, refl}
use Rattle.std.specs.Option.{option_eq}
use Rattle.bgp_update.specs.declared.next_hop.NextHop.{NextHop}
use Rattle.bgp_update.specs.declared.next_hop.NextHop.TheVariants.{V4, V6, V6Pair}
use Rattle.bgp_update.specs.declared.route.Origin.{Origin}
use Rattle.bgp_update.specs.declared.route.Origin.TheVariants.{Igp, Egp, Incomplete}
use Rattle.bgp_update.specs.declared.route.Aggregator.{Aggregator}
use Rattle.bgp_update.specs.contracts.next_hop.NextHopPartialEq.TheImpl as hop_impl
use Rattle.bgp_update.specs.contracts.route.OriginPartialEq.TheImpl as origin_impl
use Rattle.bgp_update.specs.contracts.route.AggregatorPartialEq.TheImpl as aggregator_impl
use Rattle.bgp_update.specs.Equality.{origin_number, aggregator_eq, hop_eq}

same_one : (a b : Origin) → origin_impl.eq-value.it a b ≡ nat_eq (origin_number a) (origin_number b)
same_one Igp Igp = refl
same_one Egp Igp = refl
same_one Incomplete Igp = refl
same_one a b = refl

pub same_origin : (a b : Option Origin) → option_eq origin_impl.eq-value.it a b ≡ option_eq (λ x y. nat_eq (origin_number x) (origin_number y)) a b
same_origin None None = refl
same_origin None (Some b) = refl
same_origin (Some a) None = refl
same_origin (Some a) (Some b) = same_one a b

pub same_aggregator : (a b : Option Aggregator) → option_eq aggregator_impl.eq-value.it a b ≡ option_eq aggregator_eq a b
same_aggregator None None = refl
same_aggregator None (Some b) = refl
same_aggregator (Some a) None = refl
same_aggregator (Some a) (Some b) = refl

same_next_hop : (a b : NextHop) → hop_impl.eq-value.it a b ≡ hop_eq a b
same_next_hop (V4 a) (V4 b) = refl
same_next_hop (V6 a) (V4 b) = refl
same_next_hop (V6Pair a link) (V4 b) = refl
same_next_hop a b = refl

pub same_hop : (a b : Option NextHop) → option_eq hop_impl.eq-value.it a b ≡ option_eq hop_eq a b
same_hop None None = refl
same_hop None (Some b) = refl
same_hop (Some a) None = refl
same_hop (Some a) (Some b) = same_next_hop a b
