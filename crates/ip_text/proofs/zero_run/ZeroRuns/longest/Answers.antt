use Rattle.std.proofs.Common.{◌≡◌, ℕ, length, sym, ap, ◌∙◌, arith}
use Rattle.std.proofs.NetLemmas.Arrays.{eight_items}
use Rattle.std.specs.Net.Text.{longest_zero_run}
use Rattle.ip_text.proofs.zero_run.ZeroRuns.longest.Goals as goal

pub returns-clause-start : goal.returns-clause-start
returns-clause-start c =
    let eight : length c.args.groups.now ≡ 8 = omega arith in
    let at = c.args.self.now.runs_of_masks c.mask_of-mask.result (omega arith) (record { start = 0; len = 0 }) in
    ap (λ l. (longest_zero_run l).0) (eight_items c.args.groups.now eight) ∙ ap (λ (r : ℕ × ℕ). r.0) (sym c.mask_of-mask.ensures) ∙ at.start

pub returns-clause-len : goal.returns-clause-len
returns-clause-len c =
    let eight : length c.args.groups.now ≡ 8 = omega arith in
    let at = c.args.self.now.runs_of_masks c.mask_of-mask.result (omega arith) (record { start = 0; len = 0 }) in
    ap (λ l. (longest_zero_run l).1) (eight_items c.args.groups.now eight) ∙ ap (λ (r : ℕ × ℕ). r.1) (sym c.mask_of-mask.ensures) ∙ at.len
