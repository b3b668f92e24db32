use Rattle.std.proofs.Common.{◌≡◌, arith}
use Rattle.std.proofs.NetLemmas.Texts.{IsZeroRun-longest_zero_run}
use Rattle.ip_text.proofs.zero_run.find_run.Goals as goal

pub returns-clause-within : goal.returns-clause-within
returns-clause-within c =
    let done : c.loop-i.i ≡ 0 = omega arith in
    let within = (IsZeroRun-longest_zero_run c.args.groups.now).0 in
    let start = rw done at c.loop-i.invariant.start in
    let len = rw done at c.loop-i.invariant.len in
    omega (arith, within, start, len)
