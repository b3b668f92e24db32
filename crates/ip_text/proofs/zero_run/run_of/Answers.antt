use Rattle.std.proofs.Common.{sym, ap, ◌∙◌}
use Rattle.std.specs.Net.Text.{longest_zero_run}
use Rattle.ip_text.proofs.zero_run.run_of.Goals as goal

pub returns : goal.returns
returns c = record {
  start = ap (λ l. (longest_zero_run l).0) (sym c.bits_of-bits.ensures) ∙ c.find_run.ensures.run;
  len = ap (λ l. (longest_zero_run l).1) (sym c.bits_of-bits.ensures) ∙ c.find_run.ensures.len;
  within = c.find_run.ensures.within;
}
