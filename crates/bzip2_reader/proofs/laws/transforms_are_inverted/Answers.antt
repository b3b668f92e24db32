use Rattle.std.proofs.Common.{◌∙◌, ap}
use Rattle.std.specs.Prelude.{map}
use Rattle.std.proofs.lemmas.List.{length-map}
use Rattle.bzip2_reader.specs.Rotations.{last_byte}
use Rattle.bzip2_reader.specs.Transform.{row_after, text_from, text_of}
use Rattle.bzip2_reader.proofs.RotationLaws.{one_column, row_read, transform_of}
use Rattle.bzip2_reader.proofs.laws.transforms_are_inverted.Goals as goal

pub returns-clause-inverse : goal.returns-clause-inverse
returns-clause-inverse c = λ text column row small t.
    (let last = map last_byte t.rows in
    ap (λ l. text_of l row) t.last ∙ ap (text_from last (row_after last) row) (length-map t.rows last_byte) ∙ row_read text t.rows small t.sorted row t.inside ∙ t.itself)

pub returns-clause-exists : goal.returns-clause-exists
returns-clause-exists c = transform_of

pub returns-clause-one : goal.returns-clause-one
returns-clause-one c = one_column
