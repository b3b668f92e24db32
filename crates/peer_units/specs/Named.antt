-- Prefixes that are named, in lists that are in order: what looking one up relies on.
use Rattle.std.specs.Prelude.{◌≡◌, ◌||◌, Bool, true, false, List, map}
use Rattle.std.specs.List.{All, AllPairs, filter, list_any}
use Rattle.std.specs.List.Sorted.{IsSorted}
use Rattle.bgp_prefix.specs.Prefixes.{IpPrefix, IsIpPrefix, prefix_cmp, prefix_eq, covers}
use Rattle.peer_units.specs.declared.choice.Reach.{Reach}
use Rattle.peer_units.specs.declared.choice.Reach.TheVariants.{Exact, Inside, Around}
use Rattle.peer_units.specs.Plain.{PrefixChoice}
use Rattle.peer_units.specs.Choices.{takes_prefix}

-- ---- which are named

abbrev pub same_reach : Reach → Reach → Bool
same_reach Exact Exact = true
same_reach Inside Inside = true
same_reach Around Around = true
same_reach a b = false

-- the prefixes that are named with this reach
abbrev pub named_as : Reach → List PrefixChoice → List IpPrefix
named_as reach choices = map (λ choice. choice.prefix) (filter (λ choice. same_reach choice.reach reach) choices)

-- ---- how a prefix stands to a list of them

-- it is one of these
abbrev pub is_named : List IpPrefix → IpPrefix → Bool
is_named names prefix = list_any (λ named. prefix_eq named prefix) names

-- one of these covers it
abbrev pub is_inside : List IpPrefix → IpPrefix → Bool
is_inside names prefix = list_any (λ named. covers named prefix) names

-- it covers one of these
abbrev pub is_around : List IpPrefix → IpPrefix → Bool
is_around names prefix = list_any (λ named. covers prefix named) names

-- ---- lists in order

-- prefixes in order, each with no bit past its length
pub record InOrder (names : List IpPrefix) : Type 0 where
  pub sorted : IsSorted prefix_cmp names
  pub known : All IsIpPrefix names

-- none covers one behind it
abbrev pub AreApart : List IpPrefix → Type 0
AreApart names = AllPairs (λ earlier later. covers earlier later ≡ false) names

-- what the three lists hold of the choices
pub record StandFor (choices : List PrefixChoice) (exact inside around : List IpPrefix) : Type 0 where
  pub exact_order : InOrder exact
  pub inside_order : InOrder inside
  pub inside_apart : AreApart inside
  pub around_order : InOrder around
  pub takes : (prefix : IpPrefix) → list_any (λ choice. takes_prefix choice prefix) choices
      ≡ (is_named exact prefix || (is_inside inside prefix || is_around around prefix))
