use Rattle.std.proofs.Common.{List, ℕ, subst}
use Rattle.command_line.specs.Families.{SpellsIn}
use Rattle.command_line.proofs.Families.{no_address}
use Rattle.command_line.proofs.words.address_of.Goals as goal

pub returns-in_ok-from_str-in-None-clause-refusal :
    goal.returns-in_ok-from_str-in-None-clause-refusal
returns-in_ok-from_str-in-None-clause-refusal g c =
    rw (c.in_ok-from_str-in-None.ensures.ok, c.FAMILY.ensures)
    (no_address g.F.AddressText.FAMILY c.args.text.now
    (subst (λ (l : List ℕ). (bits : ℕ) → SpellsIn g.F.AddressText.FAMILY l bits → ⊥) c.as_bytes.ensures.value c.in-None.ensures.none))
