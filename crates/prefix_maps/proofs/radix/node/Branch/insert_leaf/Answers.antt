use Rattle.std.proofs.Common.{◌≡◌, [], ◌∷◌}
use Rattle.std.proofs.lemmas.Option.{IfSome_then}
use Rattle.prefix_maps.proofs.InsertLaws.{inserted_alone}
use Rattle.prefix_maps.proofs.radix.node.Branch.insert_leaf.Goals as goal

pub returns-clause-ok : goal.returns-clause-ok
returns-clause-ok g c =
    rw (c.set.ensures, c.requires.empty) (IfSome_then _ {P = λ value. c.in_ok-single.field-0 ≡ (c.args.key.now, value) ∷ []} c.in_ok-single.ensures.one (λ value is. rw is (inserted_alone c.args.key.now value c.requires.known)))
