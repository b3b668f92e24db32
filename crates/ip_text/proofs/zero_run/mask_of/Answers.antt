use Rattle.std.proofs.Common.{◌≡◌, ℕ, ◌+◌, ◌*◌, ap, ◌∙◌}
use Rattle.ip_text.specs.Digits.{groups_of}
use Rattle.std.specs.Net.Text.{longest_zero_run}
use Rattle.ip_text.specs.ZeroRuns.{bit}
use Rattle.ip_text.proofs.MaskLaws.{run_of_mask}
use Rattle.ip_text.proofs.zero_run.mask_of.Goals as goal

pub returns : goal.returns
returns c =
    let total : c.bit_of.result * 128 + c.bit_of-2.result * 64 + c.bit_of-3.result * 32 + c.bit_of-4.result * 16 + c.bit_of-5.result * 8 + c.bit_of-6.result * 4 + c.bit_of-7.result * 2 + c.bit_of-8.result ≡ bit c.args.a * 128 + bit c.args.b * 64 + bit c.args.c * 32 + bit c.args.d * 16 + bit c.args.e * 8 + bit c.args.f * 4 + bit c.args.g * 2 + bit c.args.h = λ i. c.bit_of.ensures i * 128 + c.bit_of-2.ensures i * 64 + c.bit_of-3.ensures i * 32 + c.bit_of-4.ensures i * 16 + c.bit_of-5.ensures i * 8 + c.bit_of-6.ensures i * 4 + c.bit_of-7.ensures i * 2 + c.bit_of-8.ensures i in
    ap (λ (m : ℕ). longest_zero_run (groups_of 2 8 m)) total ∙ run_of_mask c.args.a c.args.b c.args.c c.args.d c.args.e c.args.f c.args.g c.args.h
