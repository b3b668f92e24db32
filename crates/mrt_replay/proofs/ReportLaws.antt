-- The lines of rows.
use Rattle.std.proofs.Common.{◌≡◌, ℕ, List, [], ◌∷◌, ◌++◌, Option, Result, Ok, Err, OnOk, OnErr, refl, ap, ◌∙◌, subst, map}
use Rattle.std.specs.Io.KnownBytes.{Appends}
use Rattle.mrt_frame.specs.Writes.{WritesFront}
use Rattle.mrt_frame.specs.declared.error.ReplayError.{ReplayError}
use Rattle.mrt_frame.specs.declared.error.ReplayError.TheVariants as errors
use Rattle.std.specs.List.{flat_map}

flat_map_map : {R X A : Type 0} (line : X → List A) (row : R → X) (rows : List R) → flat_map (λ r. line (row r)) rows ≡ flat_map line (map row rows)
flat_map_map line row [] = refl
flat_map_map line row (r ∷ rows) = ap (λ l. line (row r) ++ l) (flat_map_map line row rows)

-- the lines of rows that show these
pub lines_are : {R X A : Type 0} (line : X → List A) (row : R → X) (given rows : List R) (all : List X) → given ≡ rows → map row rows ≡ all → flat_map (λ r. line (row r)) given ≡ flat_map line all
lines_are line row given rows all same shown = ap (flat_map (λ r. line (row r))) same ∙ flat_map_map line row rows ∙ ap (flat_map line) shown

-- a call wrote the same text
pub wrote_lines : {T E : Type 0} (result : Result T E) (old new : Option (List ℕ)) {one other : List ℕ} → one ≡ other → OnOk result (Appends old new one) → OnOk result (Appends old new other)
wrote_lines result old new same h = subst (λ l. OnOk result (Appends old new l)) same h

-- or a front of it, where it failed
pub wrote_front : (result : Result (Unit {0}) ReplayError) (old new : Option (List ℕ)) {one other : List ℕ} → one ≡ other → OnErr result (WritesFront old new one) → result ≡ Err errors.Write → WritesFront old new other
wrote_front (Ok x) old new same h e = absurd cc
wrote_front (Err error) old new same h e = subst (WritesFront old new) same h

-- what holds after each failure holds after this one
pub after_write : {Q : Type 0} (result : Result (Unit {0}) ReplayError) → OnErr result Q → result ≡ Err errors.Write → Q
after_write (Ok x) h e = absurd cc
after_write (Err error) h e = h
