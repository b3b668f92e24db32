-- The halves of lanes, with keys of either family.
use Rattle.bgp_prefix.specs.Prefixes.{IpPrefix}
use Rattle.bgp_update.specs.Families.{Rules}
use Rattle.lane_deal.specs.declared.lane_sender.LaneSender.{LaneSender as LaneSenderOf}
use Rattle.lane_deal.specs.declared.worker.Worker.{Worker as WorkerOf}

-- the dealing half of a lane
abbrev pub LaneSender : Type 0
LaneSender = LaneSenderOf IpPrefix Rules

-- the taking half of a lane
abbrev pub Worker : Type 0 → Type 0
Worker S = WorkerOf S IpPrefix Rules
