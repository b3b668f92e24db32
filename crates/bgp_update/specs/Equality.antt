-- When two routes are equal (own): all fields are, paths segment by segment.
use Rattle.std.specs.Prelude.{ℕ, Bool, true, false, ◌&&◌, ◌==◌, cond}
use Rattle.std.specs.Option.{option_eq}
use Rattle.bgp_update.specs.declared.next_hop.NextHop.{NextHop}
use Rattle.bgp_update.specs.declared.next_hop.NextHop.TheVariants.{V4, V6, V6Pair}
use Rattle.bgp_update.specs.declared.route.Origin.{Origin}
use Rattle.bgp_update.specs.declared.route.Origin.TheVariants.{Igp, Egp, Incomplete}
use Rattle.bgp_update.specs.declared.route.Aggregator.{Aggregator}
use Rattle.bgp_update.specs.declared.route.Route.{Route}
use Rattle.bgp_update.specs.KeptAttributes.{KeptValue}
use Rattle.bgp_update.specs.PathEquality.{list_eq, number_eq, segment_eq}

abbrev pub bool_eq : Bool → Bool → Bool
bool_eq a b = cond a b (cond b false true)

abbrev pub origin_number : Origin → ℕ
origin_number Igp = 0
origin_number Egp = 1
origin_number Incomplete = 2

abbrev pub aggregator_eq : Aggregator → Aggregator → Bool
aggregator_eq a b = (a.asn == b.asn) && (a.addr == b.addr)

-- of one kind, and the same addresses
abbrev pub hop_eq : NextHop → NextHop → Bool
hop_eq (V4 a) (V4 b) = a == b
hop_eq (V6 a) (V6 b) = a == b
hop_eq (V6Pair a link) (V6Pair b other) = (a == b) && (link == other)
hop_eq a b = false

abbrev pub kept_eq : KeptValue → KeptValue → Bool
kept_eq a b = (a.code == b.code) && list_eq number_eq a.value b.value

unfoldable pub route_eq : Route → Route → Bool
route_eq a b = option_eq (λ x y. origin_number x == origin_number y) a.origin b.origin
    && option_eq hop_eq a.next_hop b.next_hop
    && option_eq number_eq a.med b.med
    && option_eq number_eq a.local_pref b.local_pref
    && bool_eq a.atomic b.atomic
    && option_eq aggregator_eq a.aggregator b.aggregator
    && option_eq (list_eq segment_eq) a.path b.path
    && list_eq kept_eq a.kept b.kept
