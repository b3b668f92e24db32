use Rattle.std.proofs.Common.{◌≡◌, ◌++◌, ◌∙◌, ℕ, List, [], Option, Some, None, append_assoc, append-nil, ap, arith, subst, sym, take, true}
use Rattle.bzip2_reader.specs.declared.fault.Damage.{Damage}
use Rattle.bzip2_reader.specs.declared.phase.Phase.{Phase}
use Rattle.bzip2_reader.specs.declared.phase.Phase.TheVariants.{Ended}
use Rattle.bzip2_reader.specs.Coming.{Comes, still}
use Rattle.bzip2_reader.specs.Files.{Unpacked, after_part}
use Rattle.std.specs.Result.{is_ok}
use Rattle.bzip2_reader.specs.Reading.{device_of, to_come}
use Rattle.bzip2_reader.specs.StreamViews.{coming_of}
use Rattle.bzip2_tests.proofs.unpacking.read_all.Goals as goal

more : (xs ys : List ℕ) (a b c : Option Unpacked) → Comes xs a b → Comes ys b c → Comes (xs ++ ys) a c
more xs ys None b c e f = tt
more xs ys (Some u) None c e f = absurd e
more xs ys (Some u) (Some v) None e f = absurd f
more xs ys (Some u) (Some v) (Some w) e f = e ∙ ap (after_part xs) f ∙ ap (λ l. record { given = l; damage = w.damage }) (sym (append_assoc xs ys w.given))

whole : (xs : List ℕ) (u : Unpacked) (phase : Phase) (damage : Option Damage) (coming : Option Unpacked) → phase ≡ Ended → Comes xs (Some u) (still phase damage coming) → xs ≡ u.given
whole xs u phase damage coming ended comes = by coming (subst (λ (p : Phase). Comes xs (Some u) (still p damage coming)) ended comes)
  where
    by : (c : Option Unpacked) → Comes xs (Some u) (still Ended damage c) → xs ≡ u.given
    by None h = absurd h
    by (Some v) h = sym (append-nil xs) ∙ sym (ap (λ w. w.given) h)

pub returns-then-count-eq0 : goal.returns-then-count-eq0
returns-then-count-eq0 g c = λ u known.
    (let before = to_come (g.D.Source.remaining (device_of c.args.reader.now)) c.args.reader.now in
    let now = c.read_some.new.self in
    let next = to_come (g.D.Source.remaining (device_of now)) now in
    let none : take c.in-Ok.count c.read_some.new.buf ≡ [] = ap (λ n. take n c.read_some.new.buf) c.if-count-eq0.true in
    let last : Comes [] _ next = subst (λ (l : List ℕ). Comes l (to_come (g.D.Source.remaining (device_of c.loop.reader)) c.loop.reader) next) none c.in-Ok.ensures.comes in
    let all : Comes (c.loop.bytes.items ++ []) before next = more c.loop.bytes.items [] before _ next c.loop.invariant last in
    let ended = c.in-Ok.ensures.ends c.if-count-eq0.true (omega (arith, c.read_some.auto.buf)) in
    whole c.loop.bytes.items u now.ending.phase now.ending.damage (coming_of (g.D.Source.remaining (device_of now)) now.streams) ended.0
    (subst (λ (o : Option Unpacked). Comes c.loop.bytes.items o next) known (subst (λ (l : List ℕ). Comes l before next) (append-nil c.loop.bytes.items) all)))

pub loop-preserved : goal.loop-preserved
loop-preserved g c =
    let before = to_come (g.D.Source.remaining (device_of c.args.reader.now)) c.args.reader.now in
    let now = c.read_some.new.self in
    let next = to_come (g.D.Source.remaining (device_of now)) now in
    let some : is_ok c.extend_from_slice.result ≡ true = c.if-is_err.ensures.negation in
    let items : c.extend_from_slice.new.self.items ≡ c.loop.bytes.items ++ take c.in-Ok.count c.read_some.new.buf = rw some at c.extend_from_slice.ensures.items in
    subst (λ (l : List ℕ). Comes l before next) (sym items) (more c.loop.bytes.items (take c.in-Ok.count c.read_some.new.buf) before _ next c.loop.invariant c.in-Ok.ensures.comes)
