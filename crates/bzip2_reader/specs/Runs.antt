-- The runs of a block's text: four equal bytes are followed by a byte that tells how many more of them there are.
use Rattle.std.specs.Prelude.{◌≡◌, ◌≤◌, ℕ, ◌+◌, ◌-◌, List, [], ◌∷◌, ◌++◌, length, drop, replicate, ◌==◌, if◌then◌else◌}
use Rattle.bzip2_reader.specs.declared.runs.Runs.{Runs}

-- what a text says behind so many equal bytes, of which this is the last
unfoldable pub written_from : ℕ → ℕ → List ℕ → List ℕ
written_from last same [] = []
written_from last same (b ∷ bs) =
    if same == 4 then replicate b last ++ written_from last 0 bs
    else b ∷ written_from b (if b == last then same + 1 else 1) bs

-- what a text says
unfoldable pub written : List ℕ → List ℕ
written text = written_from 0 0 text

-- what is still to be written
abbrev pub left : List ℕ → Runs → List ℕ
left text runs = replicate runs.owed runs.last ++ written_from runs.last runs.same (drop runs.at text)

-- a count that was come to was taken, if the text has it
abbrev pub IsSettled : List ℕ → Runs → Type 0
IsSettled text runs = (runs.same ≤ 4) × (runs.same ≡ 4 → length text ≤ runs.at)

-- how many bytes were written
abbrev pub count_written : List ℕ → Runs → ℕ
count_written text runs = length (written text) - length (left text runs)

-- what was written and what is left are what the text says
abbrev pub IsWithin : List ℕ → Runs → Type 0
IsWithin text runs = left text runs ≡ drop (count_written text runs) (written text)
