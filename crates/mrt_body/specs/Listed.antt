-- The list of a RIB record's entries: what each says, and where its attributes stand in the body.
use Rattle.std.specs.Prelude.{ℕ, ◌≡◌, ◌+◌, ◌<◌, ◌≤◌, List, [], ◌∷◌, take, drop, ⊤}
use Rattle.mrt_body.specs.declared.rib.ListedEntry.{ListedEntry}
use Rattle.mrt_body.specs.RibRecords.{ReadEntry}

-- what an entry says, where this is the body
abbrev pub read_listed : List ℕ → ListedEntry → ReadEntry
read_listed body e = record { peer = e.peer; identifier = e.identifier; attributes = take e.len (drop e.start body) }

-- its peer is one of so many, and its attributes stand in a body of this length
pub record IsListed (peers body : ℕ) (e : ListedEntry) : Type 0 where
  pub peer : e.peer < peers
  pub attributes : e.start + e.len ≤ body

-- their numbers go up by one, from this one on
abbrev pub AreNumbered : ℕ → List ListedEntry → Type 0
AreNumbered number [] = ⊤
AreNumbered number (e ∷ list) = (e.number ≡ number) × AreNumbered (number + 1) list
