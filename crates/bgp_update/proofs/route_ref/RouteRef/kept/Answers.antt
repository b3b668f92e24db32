use Rattle.std.proofs.Common.{◌≡◌, ◌∙◌, sym, ap, subst, arith, List, ℕ}
use borrow.Author.Tests.{both_ways}
use Rattle.bgp_update.specs.declared.route.Route.{Route}
use Rattle.bgp_update.specs.KeptBytes.{AreKeptBytes, spelled_values}
use Rattle.bgp_update.specs.Packing.{part_bit}
use Rattle.bgp_update.proofs.Packings.{kept_slice, kept_there, none_kept, packed_ends, packed_long}
use Rattle.bgp_update.proofs.route_ref.RouteRef.kept.Goals as goal

pub keeps_any-requires : goal.keeps_any-requires
keeps_any-requires c = packed_long c.self.inside.bytes.now c.self.invariant

pub path_end-requires-clause-kept : goal.path_end-requires-clause-kept
path_end-requires-clause-kept c = (packed_ends c.self.inside.bytes.now c.self.invariant).room

pub kept_bytes-requires-clause-long : goal.kept_bytes-requires-clause-long
kept_bytes-requires-clause-long c = omega (arith, (packed_ends c.self.inside.bytes.now c.self.invariant).room (c.keeps_any.ensures.0 c.if-keeps_any.true))

pub kept_bytes-requires-clause-within : goal.kept_bytes-requires-clause-within
kept_bytes-requires-clause-within c = omega (arith, c.path_end.ensures, (packed_ends c.self.inside.bytes.now c.self.invariant).behind (c.keeps_any.ensures.0 c.if-keeps_any.true))

pub of_bytes-requires : goal.of_bytes-requires
of_bytes-requires c =
    let inside : List ℕ = c.self.inside.bytes.now in
    let bit : part_bit 2 inside ≡ 1 = c.keeps_any.ensures.0 c.if-keeps_any.true in
    subst AreKeptBytes (sym (c.kept_bytes.ensures ∙ kept_slice inside c.path_end.result c.self.invariant bit c.path_end.ensures)) ((packed_ends inside c.self.invariant).spelled bit)

pub returns-then-keeps_any : goal.returns-then-keeps_any
returns-then-keeps_any c =
    let inside : List ℕ = c.self.inside.bytes.now in
    let bit : part_bit 2 inside ≡ 1 = c.keeps_any.ensures.0 c.if-keeps_any.true in
    sym (ap (λ (r : Route). r.kept) c.self.view_is) ∙ kept_there inside c.self.invariant bit
    ∙ sym (c.of_bytes.ensures ∙ ap spelled_values (c.kept_bytes.ensures ∙ kept_slice inside c.path_end.result c.self.invariant bit c.path_end.ensures))

pub returns-else-keeps_any : goal.returns-else-keeps_any
returns-else-keeps_any c =
    sym (ap (λ (r : Route). r.kept) c.self.view_is) ∙ none_kept c.self.inside.bytes.now c.self.invariant (λ e. let yes' = c.keeps_any.ensures.1 e in absurd (both_ways c.keeps_any.result c.if-keeps_any.false yes'))
