use Rattle.std.proofs.Common.{rules}
use Rattle.adj_rib.specs.Noting.{followed_noting}
use Rattle.adj_rib.proofs.rib_in.RibIn.follow.Goals as goal

pub returns-in-State : goal.returns-in-State
unfolding followed_noting
returns-in-State g c = let changed = c.change_state.ensures (g.C.Chooses.is_chosen c.args.chosen.now) in search rules

pub returns-in-Clear : goal.returns-in-Clear
unfolding followed_noting
returns-in-Clear g c = let cleared = c.clear.ensures (g.C.Chooses.is_chosen c.args.chosen.now) in search rules
