-- The dealer, with keys of either family. What it keeps is said in its own declaration, so it has a file of its own.
use Rattle.bgp_prefix.specs.Prefixes.{IpPrefix}
use Rattle.bgp_update.specs.Families.{Rules}
use Rattle.lane_deal.specs.declared.dealer.Dealer.{Dealer as DealerOf}

abbrev pub Dealer : Type 0 → Type 0
Dealer D = DealerOf D IpPrefix Rules
