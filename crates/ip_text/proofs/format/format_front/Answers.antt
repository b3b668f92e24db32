use Rattle.std.proofs.Common.{◌≡◌, ◌∙◌, ◌++◌, ◌+◌, ◌-◌, ap, take, length, arith, rules}
use borrow.Rule.Slice.PartMut.{put_mid}
use Rattle.ip_text.proofs.FormatLaws.{take-front_put}
use Rattle.ip_text.proofs.format.format_front.Goals as goal

pub returns : goal.returns
returns c =
    let old = c.args.bytes.now in
    let written = c.copy_from_slice.new.self in
    let copied = c.copy_from_slice.ensures.after in
    let most = (c.args.at + length c.args.block.now) - c.args.at in
    let front = take-front_put c.args.at most c.args.count old written (omega arith) (omega (arith, ap length copied)) in
    let same : length (put_mid c.args.at most old written) ≡ length old = search rules in
    record {
      text = front ∙ ap (λ l. take c.args.at old ++ take c.args.count l) copied;
      room = omega arith;
      within = omega (arith, same);
      same = same;
    }
