use Rattle.std.proofs.Common.{◌∙◌, sym, arith}
use Rattle.prefix_maps.proofs.SplitLaws.{one_of, cover_of}
use Rattle.prefix_maps.proofs.flat.Flat.cover.Goals as goal

pub returns-in_err-first-clause-one : goal.returns-in_err-first-clause-one
returns-in_err-first-clause-one g c =
    let list = c.deref.ensures.value ∙ c.self.view_is in
    let none = rw list at c.in_err-first.ensures.item in
    rw c.from_residual.ensures (record { addr = 0; len = 0 }, λ k d lt. absurd (omega (arith, lt, none.3)))

pub returns-then-eq-clause-one : goal.returns-then-eq-clause-one
returns-then-eq-clause-one g c =
    let list = c.deref.ensures.value ∙ c.self.view_is in
    let list_2 = c.deref-2.ensures.value ∙ c.self.view_is in
    let first = rw list at c.in_ok-first.ensures.item in
    let last = rw list_2 at c.in_ok-last.ensures.item in
    one_of c.args.self.now (rw c.self.view_is at c.self.invariant.sorted) c.in_ok-first.field-0.now c.in_ok-last.field-0.now first.3.0 first.1 last.1 (sym c.eq.ensures ∙ c.if-eq.true)

pub returns-then-eq-clause-known : goal.returns-then-eq-clause-known
returns-then-eq-clause-known g c = rw c.self.view_is at c.self.invariant.known

pub returns-clause-cover : goal.returns-clause-cover
returns-clause-cover g c =
    let list = c.deref.ensures.value ∙ c.self.view_is in
    let list_2 = c.deref-2.ensures.value ∙ c.self.view_is in
    let first = rw list at c.in_ok-first.ensures.item in
    let last = rw list_2 at c.in_ok-last.ensures.item in
    let s = c.shared_len.ensures in
    rw c.shortened.ensures.prefix (cover_of c.args.self.now (rw c.self.view_is at c.self.invariant.sorted) c.in_ok-first.field-0.now c.in_ok-last.field-0.now first.3.0 first.1 last.1 c.shared_len.result (rw c.self.view_is at c.self.invariant.known) (sym c.eq.ensures ∙ c.if-eq.false) s.in_p s.in_q s.shared s.longest)

pub returns-clause-known : goal.returns-clause-known
returns-clause-known g c = rw c.self.view_is at c.self.invariant.known
