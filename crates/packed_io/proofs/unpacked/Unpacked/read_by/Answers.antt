use Rattle.std.proofs.Common.{◌≡◌, ◌∙◌, IsErr, Ok, subst, sym}
use Rattle.std.proofs.KnownBytes.{Keeps-refl}
use Rattle.std.specs.Io.KnownBytes.{Keeps}
use Rattle.packed_io.specs.Endings.{KeepsEnding}
use Rattle.packed_io.specs.Reading.{HasEnded, HasFailed, file_ending, unpacked_remaining}
use Rattle.packed_io.specs.Stages.{StageEnded, StageFailed, stage_ending}
use Rattle.packed_io.proofs.EndingLaws.{keeps_refl, keeps_trans}
use Rattle.packed_io.proofs.HeadLaws.{at_errors, kept_consumes, plain_consumes, same_told}
use Rattle.packed_io.proofs.unpacked.Unpacked.read_by.Goals as goal
use Rattle.packed_io.proofs.unpacked.Unpacked.read_by.Goals.{in-Waiting+in_ok-begin, in_default}

pub returns-in-Plain-clause-bytes : goal.returns-in-Plain-clause-bytes
returns-in-Plain-clause-bytes g c =
    let remaining = g.D.Read.remaining in
    let kept : Keeps (unpacked_remaining remaining c.args.self.now) (unpacked_remaining remaining c.match-self.self) = elim c.match-self.branch [
      | in-Waiting+in_ok-begin w ↦ subst (λ u. Keeps (unpacked_remaining remaining c.args.self.now) (unpacked_remaining remaining u)) (sym w.self-is) w.begin.ensures.kept
      | in_default w ↦ subst (λ u. Keeps (unpacked_remaining remaining c.args.self.now) (unpacked_remaining remaining u)) (sym w.self-is) (Keeps-refl (unpacked_remaining remaining c.args.self.now))
    ] in
    plain_consumes remaining c.args.self.now c.match-self.self c.in-Plain.blocks _ _ _ kept c.in-Plain.is c.read.ensures.bytes

pub returns-in-Plain-clause-ending : goal.returns-in-Plain-clause-ending
returns-in-Plain-clause-ending g c =
    let remaining = g.D.Read.remaining in
    let ends : KeepsEnding (file_ending remaining c.args.self.now) (file_ending remaining c.match-self.self) = elim c.match-self.branch [
      | in-Waiting+in_ok-begin w ↦ subst (λ u. KeepsEnding (file_ending remaining c.args.self.now) (file_ending remaining u)) (sym w.self-is) w.begin.ensures.ending
      | in_default w ↦ subst (λ u. KeepsEnding (file_ending remaining c.args.self.now) (file_ending remaining u)) (sym w.self-is) (keeps_refl (file_ending remaining c.args.self.now))
    ] in
    subst (λ stage. KeepsEnding (file_ending remaining c.args.self.now) (stage_ending remaining stage)) c.in-Plain.is ends

pub returns : goal.returns
returns g c =
    let remaining = g.D.Read.remaining in
    let ends : KeepsEnding (file_ending remaining c.args.self.now) (file_ending remaining c.match-self.self) = elim c.match-self.branch [
      | in-Waiting+in_ok-begin w ↦ subst (λ u. KeepsEnding (file_ending remaining c.args.self.now) (file_ending remaining u)) (sym w.self-is) w.begin.ensures.ending
      | in_default w ↦ subst (λ u. KeepsEnding (file_ending remaining c.args.self.now) (file_ending remaining u)) (sym w.self-is) (keeps_refl (file_ending remaining c.args.self.now))
    ] in
    let kept : Keeps (unpacked_remaining remaining c.args.self.now) (unpacked_remaining remaining c.match-self.self) = elim c.match-self.branch [
      | in-Waiting+in_ok-begin w ↦ subst (λ u. Keeps (unpacked_remaining remaining c.args.self.now) (unpacked_remaining remaining u)) (sym w.self-is) w.begin.ensures.kept
      | in_default w ↦ subst (λ u. Keeps (unpacked_remaining remaining c.args.self.now) (unpacked_remaining remaining u)) (sym w.self-is) (Keeps-refl (unpacked_remaining remaining c.args.self.now))
    ] in
    record {
      bound = c.read_packed.ensures.bound;
      bytes = kept_consumes _ _ _ _ _ kept c.read_packed.ensures.bytes;
      ending = keeps_trans _ _ _ ends c.read_packed.ensures.ending;
      fails = at_errors _ _ _ c.read_packed.ensures.fails;
      ends = λ at_end room _. c.read_packed.ensures.ends at_end room;
      stays_failed = λ failed. elim c.match-self.branch [
        | in-Waiting+in_ok-begin w ↦ absurd (subst (λ stage. StageFailed stage) w.in-Waiting.is failed)
        | in_default w ↦ subst (λ u. IsErr c.read_packed.result × (c.read_packed.new.self ≡ u)) (same_told c.match-self.self _ ∙ w.self-is) (c.read_packed.ensures.stays_failed (subst (λ u. HasFailed u) (sym w.self-is) failed))
      ];
      stays_ended = λ ended. elim c.match-self.branch [
        | in-Waiting+in_ok-begin w ↦ absurd (subst (λ stage. StageEnded stage) w.in-Waiting.is ended)
        | in_default w ↦ subst (λ u. (c.read_packed.result ≡ Ok 0) × (c.read_packed.new.self ≡ u)) (same_told c.match-self.self _ ∙ w.self-is) (c.read_packed.ensures.stays_ended (subst (λ u. HasEnded u) (sym w.self-is) ended))
      ];
    }
