-- Parts that are appended one after the other are appended as one.
use Rattle.std.proofs.Common.{◌≡◌, ℕ, List, ◌++◌, ap, ◌∙◌, append_assoc}

pub joined2 : (old a b first second : List ℕ) → first ≡ old ++ a → second ≡ first ++ b → second ≡ old ++ (a ++ b)
joined2 old a b first second e f = f ∙ ap (λ (l : List ℕ). l ++ b) e ∙ append_assoc old a b

pub joined3 : (old a b c first second third : List ℕ) → first ≡ old ++ a → second ≡ first ++ b → third ≡ second ++ c → third ≡ old ++ (a ++ (b ++ c))
joined3 old a b c first second third e f g = joined2 old a (b ++ c) first third e (joined2 first b c second third f g)

pub joined4 : (old a b c d first second third fourth : List ℕ) → first ≡ old ++ a → second ≡ first ++ b → third ≡ second ++ c → fourth ≡ third ++ d → fourth ≡ old ++ (a ++ (b ++ (c ++ d)))
joined4 old a b c d first second third fourth e f g h = joined2 old a (b ++ (c ++ d)) first fourth e (joined3 first b c d second third fourth f g h)
