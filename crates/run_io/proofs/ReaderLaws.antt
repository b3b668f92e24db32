-- What a reader gives of its block, and a reader at its end.
use Rattle.std.proofs.Common.{◌≡◌, ℕ, Bool, true, false, cond, List, [], ◌++◌, Option, Some, None, refl, sym, subst}
use Rattle.std.proofs.KnownBytes.{Keeps-refl, prepend_known-read}
use Rattle.std.specs.Io.KnownBytes.{Keeps, Consumes, IsAtEnd, prepend_known}
use Rattle.run_io.specs.declared.blocks.Stage.{Stage}
use Rattle.run_io.specs.declared.blocks.Stage.TheVariants.{Waiting, Reading, Ended}
use Rattle.run_io.specs.Readers.{StageBegun, stage_remaining}

-- a reading that has begun and doesn't go on has ended
pub at_end : {D : Type 0} (remaining : D → Option (List ℕ)) (stage : Stage D) → StageBegun stage → ((reader : _) → stage ≡ Reading reader → ⊥) → stage_remaining remaining stage ≡ Some []
at_end remaining (Waiting slot) begun others = absurd begun
at_end remaining (Reading reader) begun others = absurd (others reader refl)
at_end remaining Ended begun others = refl

pub nothing_left : (old now : Option (List ℕ)) → Keeps old now → now ≡ Some [] → Consumes old now [] × IsAtEnd now
nothing_left None now k e = (tt, subst IsAtEnd (sym e) refl)
nothing_left (Some x) now k e = subst (λ n. Consumes (Some x) n [] × IsAtEnd n) (sym e) (sym (subst (Keeps (Some x)) e k), refl)

-- what is given of a block is no longer among what it has left, if it has room for any
pub gives_held : (no_room : Bool) (known : Option (List ℕ)) (old given new : List ℕ) → old ≡ given ++ new → Consumes (cond no_room None (prepend_known old known)) (cond no_room None (prepend_known new known)) given
gives_held true known old given new e = tt
gives_held false known old given new e = (prepend_known-read _ known old new given ⊥ (Keeps-refl (prepend_known old known)) e (λ never. absurd never)).0
