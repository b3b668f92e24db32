-- Choices of routes.
use Rattle.std.specs.Prelude.{ℕ, Bool, true, false, ◌&&◌, ◌==◌, List, [], ◌∷◌, Option}
use Rattle.std.specs.List.{list_any}
use Rattle.std.specs.Option.{option_and_then, option_eq}
use Rattle.bgp_update.specs.declared.kept_attribute.KeptAttribute.{KeptAttribute}
use Rattle.bgp_update.specs.declared.route.Route.{Route}
use Rattle.bgp_update.specs.Paths.{origin_as_of}
use Rattle.route_choice.specs.declared.community.CommunityPattern.{CommunityPattern}
use Rattle.route_choice.specs.declared.path_mask.PathStep.{PathStep}
use Rattle.route_choice.specs.Masks.{path_matches}
use Rattle.route_choice.specs.Communities.{has_community, asks_for}

-- the values of each kind that are named: origin ASes, and none for the routes that have none; masks of the AS path; and
-- patterns of communities
pub record RouteChoice : Type 0 where
  pub origins : List (Option ℕ)
  pub paths : List (List PathStep)
  pub communities : List CommunityPattern

-- where nothing is named
abbrev pub every_route : RouteChoice
every_route = record { origins = []; paths = []; communities = [] }

-- the same origin AS, or none at both
abbrev pub is_same_origin : Option ℕ → Option ℕ → Bool
is_same_origin a b = option_eq (λ m n. m == n) a b

-- the origin AS of a route, where it has one (RFC 6811, section 2)
abbrev pub origin_of : Route → Option ℕ
origin_of route = option_and_then origin_as_of route.path

-- one of these values passes; where no value is named, all is chosen
abbrev pub meets : {A : Type 0} → (A → Bool) → List A → Bool
meets passes [] = true
meets passes (x ∷ xs) = list_any passes (x ∷ xs)

-- its origin AS, its path and its communities are chosen
abbrev pub is_chosen_route : RouteChoice → Route → Bool
is_chosen_route choice route =
    meets (is_same_origin (origin_of route)) choice.origins
    && (meets (λ mask. path_matches mask route.path) choice.paths
    && meets (has_community route.kept) choice.communities)

-- ---- what it needs

abbrev pub is_unnamed : {A : Type 0} → List A → Bool
is_unnamed [] = true
is_unnamed (x ∷ xs) = false

-- no value is named
abbrev pub names_nothing : RouteChoice → Bool
names_nothing choice =
    is_unnamed choice.origins && (is_unnamed choice.paths && is_unnamed choice.communities)

-- a pattern is about members of this attribute
abbrev pub needs : RouteChoice → KeptAttribute → Bool
needs choice a = list_any (asks_for a) choice.communities
