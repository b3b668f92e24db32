use Rattle.std.proofs.Common.{◌≡◌, ◌++◌, List, ℕ, Option, ap, sym, subst, ◌∙◌}
use Rattle.std.specs.Io.KnownBytes.{prepend_known}
use Rattle.mrt_frame.specs.Devices.{counted_device}
use Rattle.gzip_reader.specs.Files.{unpacked}
use Rattle.gzip_reader.specs.Gives.{left}
use Rattle.gzip_reader.specs.Readers.{IsNew, gunzip_source}
use Rattle.packed_io.specs.Devices.{head_bytes, place_remaining}
use Rattle.packed_io.specs.Endings.{KeepsEnding, ending_in}
use Rattle.packed_io.specs.Stages.{IsMade, decoder_ending}
use Rattle.packed_io.specs.declared.decoder.Decoder.TheVariants.{Gzip}
use Rattle.packed_io.specs.declared.format.Format.{Format}
use Rattle.packed_io.specs.declared.format.Format.TheVariants as format
use Rattle.packed_io.proofs.EndingLaws.{gzip_ends}
use Rattle.packed_io.proofs.HeadLaws.{gzip_keeps}
use Rattle.packed_io.proofs.decoder.Decoder.over.Goals as goal

pub returns-in_ok-gunzip-in-Gzip : goal.returns-in_ok-gunzip-in-Gzip
returns-in_ok-gunzip-in-Gzip g c =
    let remaining = g.D.Read.remaining in
    let gunzip = c.over-gunzip.result in
    let head = head_bytes c.args.head.now in
    let left_now = place_remaining remaining (counted_device (gunzip_source gunzip)) in
    let new : IsNew gunzip (gunzip_source gunzip) c.as_slice.result.now =
    subst (λ s. IsNew gunzip s c.as_slice.result.now) (sym c.over-gunzip.ensures.source) (c.over-gunzip.ensures.same c.as_slice.result.now c.in_ok-gunzip-in-Gzip.ensures) in
    let device : left_now ≡ place_remaining remaining c.args.place.now =
    ap (place_remaining remaining) (ap counted_device c.over-gunzip.ensures.source ∙ c.new.ensures.device ∙ c.take_out.ensures) in
    let gives : (bytes : List ℕ) → left gunzip bytes ≡ unpacked (head ++ bytes) =
    λ bytes. c.gives_what_it_unpacks.ensures.ending c.as_slice.result.now bytes new ∙ ap (λ h. unpacked (h ++ bytes)) c.as_slice.ensures.bytes in
    let at : (P : Format → Option (List ℕ) → Type 0) → P format.Gzip (prepend_known head left_now) → P c.args.format (prepend_known head (place_remaining remaining c.args.place.now)) =
    λ P p. subst (λ (f : Format). P f (prepend_known head (place_remaining remaining c.args.place.now))) (sym c.in-Gzip.is) (subst (λ known. P format.Gzip (prepend_known head known)) device p) in
    record {
      made = at (λ f known. IsMade remaining f known (Gzip gunzip)) (gzip_keeps gunzip head left_now gives);
      ending = at (λ f known. KeepsEnding (ending_in f known) (decoder_ending remaining (Gzip gunzip))) (gzip_ends gunzip head left_now gives);
      kept = tt;
    }
