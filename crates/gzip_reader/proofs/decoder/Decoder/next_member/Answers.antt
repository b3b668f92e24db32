use Rattle.std.proofs.Common.{◌≡◌, ◌≢◌, ◌⊎◌, ℕ, ◌%◌, ◌^◌, ◌<◌, List, [], ◌++◌, length, take, Ok, refl, sym, ◌∙◌, ap, subst, arith}
use Rattle.std.proofs.lemmas.List.{length-append}
use Rattle.gzip_reader.specs.BitFields.{bits_of_number, number_at, number_of}
use Rattle.gzip_reader.specs.Bits.{bits_left, held, unread}
use Rattle.gzip_reader.specs.Files.{begins_member}
use Rattle.gzip_reader.specs.declared.bit_reader.BitReader.{BitReader}
use Rattle.gzip_reader.specs.declared.decoder.Decoder.{Decoder}
use Rattle.gzip_reader.specs.declared.decoder.Phase.TheVariants.{BetweenMembers}
use Rattle.gzip_reader.specs.declared.fault.Flaw.TheVariants.{Trailing}
use Rattle.gzip_reader.proofs.FieldLaws.{length_bits}
use Rattle.gzip_reader.proofs.HeaderLaws.{ends_here, header_flaw}
use Rattle.gzip_reader.proofs.OthersLaws.{come_end, come_member, come_others, come_zero, does_begin, does_not_begin, first_byte}
use Rattle.gzip_reader.proofs.decoder.Decoder.next_member.Goals as goal

same_held : (old new : BitReader) → unread new ≡ unread old → bits_left new ≡ bits_left old → held new ≡ held old
unfolding held
same_held old new number size = ap (bits_of_number (bits_left new)) number ∙ ap (λ (n : ℕ). bits_of_number n (unread old)) size

pub returns-then-count-eq0-clause-advances : goal.returns-then-count-eq0-clause-advances
unfolding held bits_of_number
returns-then-count-eq0-clause-advances c more whole none =
    let old : Decoder = c.args.self.now in
    let new : Decoder = record old { input = c.peek-next.new.self } in
    let same = c.peek-next.ensures.same in
    let size : bits_left old.input ≡ 0 = omega (arith, same.size, c.peek-next.ensures.all, c.if-count-eq0.true) in
    let last : more ≡ [] = ends_here old.input.is_at_end (bits_left old.input) 16 more none (λ e. omega (arith, c.has.ensures c.if-not-has.false e)) (omega arith) in
    come_end old new more (ap (λ (n : ℕ). bits_of_number n (unread old.input) ++ more) size ∙ last) refl

pub returns-in-Ok-clause-advances : goal.returns-in-Ok-clause-advances
returns-in-Ok-clause-advances c more whole none =
    let old : Decoder = c.args.self.now in
    let new : Decoder = record old { input = c.take.new.self } in
    let same = c.peek-next.ensures.same in
    let byte : c.in-Ok.field-0 ≡ 0 = omega (arith, c.in-Ok.ensures.number, same.number, c.peek-next.ensures.number, c.if-next-eq0.true) in
    come_zero old new more
    (ap (λ (l : List ℕ). number_at 8 (l ++ more)) (sym (same_held old.input c.peek-next.new.self same.number same.size))
    ∙ c.in-Ok.ensures.read more ∙ ap (λ (n : ℕ). Ok (n, held c.take.new.self ++ more)) byte) refl

-- no zero byte comes
some_byte : (p : BitReader) (n : ℕ) → n ≡ p.bits → (n % 256 ≡ 0 → ⊥) → p.bits % 2 ^ 8 ≡ 0 → ⊥
some_byte p n e some z = some (ap (λ (m : ℕ). m % 256) e ∙ z)

pub returns-then-is_member-clause-advances : goal.returns-then-is_member-clause-advances
unfolding held
returns-then-is_member-clause-advances c more whole none =
    let old : Decoder = c.args.self.now in
    let p : BitReader = c.peek-next.new.self in
    let new : Decoder = record old { input = p } in
    let same = c.peek-next.ensures.same in
    let is : bits_of_number (bits_left p) (unread p) ≡ bits_of_number (bits_left old.input) (unread old.input) = same_held old.input p same.number same.size in
    let whole_p : bits_left p % 8 ≡ 0 = omega (arith, whole, same.size) in
    let some : 0 < p.count = omega (arith, c.if-count-eq0.false) in
    let last : bits_left p < 16 → more ≡ [] = λ short. ends_here old.input.is_at_end (bits_left old.input) 16 more none (λ e. omega (arith, c.has.ensures c.if-not-has.false e)) (omega (arith, short, same.size)) in
    let byte = first_byte p more whole_p some c.peek-next.ensures.all last in
    let begins = does_begin p more whole_p some c.peek-next.ensures.all last (subst (λ (n : ℕ). (n % 2 ^ 16 ≡ 0x8b1f) ⊎ ((n ≡ 0x1f) × (p.count ≡ 8))) c.peek-next.ensures.bits (c.is_member.ensures.some c.if-is_member.true)) in
    let all : bits_of_number (bits_left p) (unread p) ++ more ≡ held old.input ++ more = ap (λ (l : List ℕ). l ++ more) is in
    come_member old new more is
    (omega (arith, ap length all, length-append (bits_of_number (bits_left p) (unread p)) more, length_bits (bits_left p) (unread p), some))
    (λ z. some_byte p c.peek-next.result c.peek-next.ensures.bits c.if-next-eq0.false (sym byte ∙ ap (λ (l : List ℕ). number_of (take 8 l)) all ∙ z))
    (ap begins_member (sym all) ∙ begins) refl

pub returns-clause-advances : goal.returns-clause-advances
unfolding held
returns-clause-advances c more whole none =
    let old : Decoder = c.args.self.now in
    let p : BitReader = c.peek-next.new.self in
    let new : Decoder = record old { input = p } in
    let same = c.peek-next.ensures.same in
    let is : bits_of_number (bits_left p) (unread p) ≡ bits_of_number (bits_left old.input) (unread old.input) = same_held old.input p same.number same.size in
    let whole_p : bits_left p % 8 ≡ 0 = omega (arith, whole, same.size) in
    let some : 0 < p.count = omega (arith, c.if-count-eq0.false) in
    let last : bits_left p < 16 → more ≡ [] = λ short. ends_here old.input.is_at_end (bits_left old.input) 16 more none (λ e. omega (arith, c.has.ensures c.if-not-has.false e)) (omega (arith, short, same.size)) in
    let byte = first_byte p more whole_p some c.peek-next.ensures.all last in
    let other = subst (λ (n : ℕ). (n % 2 ^ 16 ≢ 0x8b1f) × (n ≡ 0x1f → p.count ≢ 8)) c.peek-next.ensures.bits (c.is_member.ensures.other c.if-is_member.false) in
    let begins = does_not_begin p more whole_p some c.peek-next.ensures.all last other.0 other.1 in
    let all : bits_of_number (bits_left p) (unread p) ++ more ≡ held old.input ++ more = ap (λ (l : List ℕ). l ++ more) is in
    header_flaw old new BetweenMembers more Trailing refl
    (come_others old new more
    (omega (arith, ap length all, length-append (bits_of_number (bits_left p) (unread p)) more, length_bits (bits_left p) (unread p), some))
    (λ z. some_byte p c.peek-next.result c.peek-next.ensures.bits c.if-next-eq0.false (sym byte ∙ ap (λ (l : List ℕ). number_of (take 8 l)) all ∙ z))
    (ap begins_member (sym all) ∙ begins))
