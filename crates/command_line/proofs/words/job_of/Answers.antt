use Rattle.std.proofs.Common.{rules}
use Rattle.command_line.proofs.words.job_of.Goals as goal

pub invariant_of-result-clause-workers_in : goal.invariant_of-result-clause-workers_in
invariant_of-result-clause-workers_in g c =
    let range = c.new.ensures in
    let cases = c.if-not-contains.ensures.cases in
    (search (rules, cases.0, range), search (rules, cases.1, range))
