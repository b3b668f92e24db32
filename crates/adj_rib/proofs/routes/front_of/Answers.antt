use Rattle.std.proofs.Common.{◌≡◌, ℕ, ◌+◌, ◌-◌, true, false, List, take, drop, get_or, sym, ap, ◌∙◌, arith, rules}
use Rattle.std.proofs.lemmas.List.{take_rest}
use Rattle.byteorder.specs.Endian.{big_number}
use Rattle.adj_rib.specs.Routes.{is_long}
use Rattle.adj_rib.proofs.RouteBlocks.{front_by}
use Rattle.adj_rib.proofs.routes.front_of.Goals as goal

less_five : (n : ℕ) → (5 + n) - 5 ≡ n
less_five n = omega arith

pub returns-then-rest : goal.returns-then-rest
returns-then-rest c =
    let rest : List ℕ = c.args.rest.now in
    let long : is_long rest ≡ true = search rules in
    let e : c.read_u32-len.result ≡ big_number 4 (drop 1 rest) = c.read_u32-len.ensures ∙ ap (big_number 4) (take_rest rest 1) in
    let n : (5 + c.read_u32-len.result) - 5 ≡ big_number 4 (drop 1 rest) = less_five c.read_u32-len.result ∙ e in
    ap (λ (k : ℕ). take k (drop 5 rest)) n ∙ sym (front_by rest true long)

pub returns-else-rest : goal.returns-else-rest
returns-else-rest c =
    let rest : List ℕ = c.args.rest.now in
    let short : is_long rest ≡ false = search rules in
    let n : (1 + get_or rest 0 0) - 1 ≡ get_or rest 0 0 = omega arith in
    ap (λ (k : ℕ). take k (drop 1 rest)) n ∙ sym (front_by rest false short)
