use Rattle.lane_deal.proofs.dealer.Dealer+D+Prefix+F+Rules+F.lanes_are_below.Goals as goal

pub returns : goal.returns
returns g c = λ n. g.met.D.Dealing.is_below c.args.self.now.dealing n c.args.workers c.requires
