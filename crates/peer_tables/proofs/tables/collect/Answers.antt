use Rattle.std.proofs.Common.{rules, ◌++◌, []}
use Rattle.std.proofs.lemmas.List.Sorted.{IsNonDecreasingBy-from_sort, answers_always}
use Rattle.std.specs.List.Sorted.{IsPermutation}
use Rattle.peer_tables.proofs.CollectLaws.{flat, collected}
use Rattle.peer_tables.proofs.SeatOrder.{collected_only}
use Rattle.peer_tables.proofs.tables.collect.Goals as goal

pub returns-clause-ok : goal.returns-clause-ok
returns-clause-ok g c =
    let lanes = c.args.gathered.lanes in
    let sorted = c.sort_unstable_by_key.new.self.items in
    let up = IsNonDecreasingBy-from_sort (λ s. s.number) sorted (c.sort_unstable_by_key.ensures.sorted (λ s. s.number) (answers_always _ _ _ (λ f a r h q. search rules))) in
    let gathered : IsPermutation (flat lanes ++ []) c.move_all.new.all.items = rw (← c.into_vec.ensures, ← c.in-Ok.ensures.items) c.move_all.ensures in
    collected (λ s. record { number = s.number; key = s.key; session = s.session }) lanes c.move_all.new.all.items sorted c.args.gathered.refused c.into_vec-2.result.items c.into_vec-2.ensures gathered c.sort_unstable_by_key.ensures.permutation up c.requires

pub returns-clause-only : goal.returns-clause-only
returns-clause-only g c = λ seats same up. collected_only _ seats c.args.gathered.refused _ (returns-clause-ok g c) same up
