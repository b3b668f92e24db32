use Rattle.std.proofs.Common.{◌≤◌, Option, None, length, refl, ap, ◌∙◌, subst, sym}
use Rattle.packed_io.specs.Devices.{head_bytes, place_remaining}
use Rattle.packed_io.specs.Endings.{Ending, KeepsEnding}
use Rattle.std.specs.Io.KnownBytes.{prepend_known}
use Rattle.packed_io.specs.Formats.{format_of}
use Rattle.packed_io.specs.Stages.{decoder_ending}
use Rattle.std.specs.Prelude.{box_value}
use Rattle.packed_io.proofs.EndingLaws.{ends_as, plain_ends}
use Rattle.packed_io.proofs.HeadLaws.{made_keeps, opens_packed, opens_plain}
use Rattle.packed_io.proofs.unpacked.Waiting.open.Goals as goal

pub returns-in-Plain : goal.returns-in-Plain
returns-in-Plain g c =
    let head = head_bytes c.args.self.now.head in
    let size = subst (λ l. length l ≤ 10) c.as_slice.ensures.bytes c.as_slice.ensures.size in
    let form = c.format_of-format.ensures ∙ ap format_of c.as_slice.ensures.bytes in
    let now = c.new.ensures ∙ ap (λ p. prepend_known head (place_remaining g.D.Read.remaining p)) c.take_out.ensures in
    record {
      opened = (tt, refl, opens_plain head _ _ _ size c.requires form c.in-Plain.is now);
      ending = subst (λ (x : Option Ending). KeepsEnding x None) (sym (plain_ends head (place_remaining g.D.Read.remaining c.args.self.now.place) _ size c.requires form c.in-Plain.is)) tt;
      kept = tt;
    }

pub returns-in_ok-decoder-in-Gzip : goal.returns-in_ok-decoder-in-Gzip
returns-in_ok-decoder-in-Gzip g c =
    let head = head_bytes c.args.self.now.head in
    let size = subst (λ l. length l ≤ 10) c.as_slice.ensures.bytes c.as_slice.ensures.size in
    let form = c.format_of-format.ensures ∙ ap format_of c.as_slice.ensures.bytes in
    record {
      opened = (tt, refl, opens_packed head _ _ _ size c.requires form (made_keeps g.D.Read.remaining _ _ _ c.in-Gzip.is c.in_ok-decoder-in-Gzip.ensures.made));
      ending = subst (λ (x : Option Ending). KeepsEnding x (decoder_ending g.D.Read.remaining (box_value c.in_ok-decoder-in-Gzip.decoder))) (sym (ends_as head (place_remaining g.D.Read.remaining c.args.self.now.place) _ size c.requires form)) c.in_ok-decoder-in-Gzip.ensures.ending;
      kept = tt;
    }
