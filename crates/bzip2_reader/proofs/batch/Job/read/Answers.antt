use Rattle.std.proofs.Common.{◌∙◌, ap, length, subst, sym}
use Rattle.bzip2_reader.specs.Fields.{bits_of}
use Rattle.bzip2_reader.specs.Texts.{IsText}
use Rattle.bzip2_reader.proofs.LaneLaws.{held, text_read, read_there}
use Rattle.bzip2_reader.proofs.batch.Job.read.Goals as goal

pub returns-in-Some : goal.returns-in-Some
returns-in-Some c =
    let links = c.args.self.now.links in
    let bits = bits_of c.args.bytes.now in
    let text = text_read c.args.bytes.now c.in-Some.start c.read_text.result c.read_text.new.links c.read_text.ensures.end c.read_text.ensures.block c.read_text.ensures.fault in
    read_there bits c.args.self.now.start c.in-Some.start c.read_text.result _ c.in-Some.is
    (subst (IsText bits c.in-Some.start c.read_text.result) (sym (held links.len c.read_text.new.links links.items (c.read_text.auto.links ∙ ap length c.as_mut_slice-in-Some.ensures.value) (sym links.ok.0))) text)
