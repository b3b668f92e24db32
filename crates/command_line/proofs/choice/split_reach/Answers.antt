use Rattle.command_line.proofs.Marks.{one_mark}
use Rattle.command_line.proofs.choice.split_reach.Goals as goal

pub returns-in-Some-reach_of-clause-only : goal.returns-in-Some-reach_of-clause-only
returns-in-Some-reach_of-clause-only c front reach ends written =
    one_mark c.args.text.now c.in-Some.front.now c.in-Some.mark.now c.in-Some-reach_of.reach c.in-Some.ensures.cases.0 c.in-Some-reach_of.ensures.some front reach ends written
