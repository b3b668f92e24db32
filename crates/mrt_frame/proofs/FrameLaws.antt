-- Readings of one file join, and one to its end took all cuts.
use Rattle.std.proofs.Common.{◌≡◌, ℕ, List, [], ◌++◌, Option, Some, None, sym, ap, ◌∙◌, append_assoc, append-nil}
use Rattle.mrt_frame.specs.Cuts.{cuts}
use Rattle.mrt_frame.specs.declared.cut.Cut.{Cut}
use Rattle.mrt_frame.specs.declared.read_state.ReadState.TheVariants.{Ended}
use Rattle.mrt_frame.specs.Frames.{Position, start_of, to_come_in, to_come, TakesCuts}

pub TakesCuts-more : (a b c : Position) (old mid new : Option (List ℕ)) (taken more : List Cut) → TakesCuts a old b mid taken → TakesCuts b mid c new more → TakesCuts a old c new (taken ++ more)
TakesCuts-more a b c None mid new taken more p q = tt
TakesCuts-more a b c (Some x) None new taken more p q = absurd p
TakesCuts-more a b c (Some x) (Some y) None taken more p q = absurd q
TakesCuts-more a b c (Some x) (Some y) (Some z) taken more p q = p ∙ ap (λ l. taken ++ l) q ∙ sym (append_assoc taken more (to_come c z))

pub TakesCuts-all : (file : ℕ) (position : Position) (bytes : List ℕ) (new : Option (List ℕ)) (taken : List Cut) → TakesCuts (start_of file) (Some bytes) position new taken → position.state ≡ Ended
    → taken ≡ cuts 0 bytes
TakesCuts-all file position bytes None taken p e = absurd p
TakesCuts-all file position bytes (Some left) taken p e =
    let none : to_come position left ≡ [] = ap (λ state. to_come_in state position.offset left) e in
    sym (p ∙ ap (λ l. taken ++ l) none ∙ append-nil taken)
