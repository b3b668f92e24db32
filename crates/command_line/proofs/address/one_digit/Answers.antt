use Rattle.std.proofs.Common.{◌≡◌, ℕ, ◌+◌, ◌<◌, ◌≤◌, ◌∷◌, [], Option, Some, None, IfSome, IfNone, arith}
use Rattle.command_line.specs.Addresses.{IsOctet, IsNoOctet}
use Rattle.command_line.proofs.Octets.{one_digit, is_one}
use Rattle.command_line.proofs.address.one_digit.Goals as goal

some_octet : (x : ℕ) (o : Option ℕ) → IfSome o (λ n. (x ≡ 48 + n) × (48 ≤ x) × (n < 10)) → IfSome o (IsOctet (x ∷ []))
some_octet x None h = tt
some_octet x (Some n) h = is_one x n h.0 h.2

no_octet : (x : ℕ) (o : Option ℕ) → IfNone o ((n : ℕ) → x ≡ 48 + n → 48 ≤ x → n < 10 → ⊥) → IfNone o (IsNoOctet (x ∷ []))
no_octet x None h = λ n octet. let d = one_digit x n octet in h n d.0 (omega arith) d.1
no_octet x (Some n) h = tt

pub returns-clause-some : goal.returns-clause-some
returns-clause-some c = some_octet c.args.ones c.digit.result c.digit.ensures.some

pub returns-clause-none : goal.returns-clause-none
returns-clause-none c = no_octet c.args.ones c.digit.result c.digit.ensures.none
