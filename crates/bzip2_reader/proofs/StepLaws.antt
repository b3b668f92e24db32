-- A part of a file that is read in a window.
use Rattle.std.proofs.Common.{◌≡◌, ◌≢◌, ℕ, ◌+◌, ◌-◌, ◌*◌, ◌%◌, ◌<◌, ◌≤◌, ◌⊎◌, inl, inr, Bool, true, false, ◌&&◌, Ok, Err, Result, Option, Some, None, List, [], ◌∷◌, ◌++◌, append_assoc, append-nil, IfErr, length, length-append, length-drop, length-take-le, take, drop, refl, sym, ◌∙◌, ap, arith, subst, if◌then◌else◌, ◌==◌, bit_xor}
use Rattle.std.specs.Prelude.{nat_le}
use Rattle.std.specs.Int.{div_ceil, rotate_left, w32}
use Rattle.std.specs.Io.KnownBytes.{Keeps}
use Rattle.std.proofs.lemmas.Bool.{eq-eqb, le-leb, lt-leb, ne_eqb}
use Rattle.std.proofs.lemmas.List.{drop-append-le}
use Rattle.bzip2_reader.specs.declared.block.Text.{Text}
use Rattle.bzip2_reader.specs.declared.fault.BlockFault.{BlockFault}
use Rattle.bzip2_reader.specs.declared.fault.BlockFault.TheVariants.{BadChecksum, LongBlock, ShortBlock}
use Rattle.bzip2_reader.specs.declared.fault.Cause.{Cause}
use Rattle.bzip2_reader.specs.declared.fault.Cause.TheVariants.{Block, Device, EarlyEnd, Memory, NoStream, StreamChecksum}
use Rattle.bzip2_reader.specs.declared.window.Rest.{Rest}
use Rattle.bzip2_reader.specs.declared.window.Rest.TheVariants.{Failed, More, None as NoMore}
use Rattle.bzip2_reader.specs.Blocks.{Block as BlockRead, block_at}
use Rattle.bzip2_reader.specs.Checksums.{checksum_of}
use Rattle.bzip2_reader.specs.Coming.{Comes, EndsBy, GoesOn, IsWrong, Stops, coming}
use Rattle.bzip2_reader.specs.Endings.{is_failure}
use Rattle.bzip2_reader.specs.Fields.{Reading, ◌>>=◌, bits_of, byte_bits, demand, number, number_from}
use Rattle.bzip2_reader.specs.Files.{Between, Inside, IsMore, Part, Place, Unpacked, after_part, block_in, cause_of, end_in, head_at, head_byte, part_at, told, unpack}
use Rattle.bzip2_reader.specs.Runs.{written}
use Rattle.bzip2_reader.specs.Steady.{Grown}
use Rattle.bzip2_reader.specs.Stretches.{behind, has_failed, is_last, known_bits, known_whole}
use Rattle.bzip2_reader.specs.Texts.{IsBlock}
use Rattle.bzip2_reader.specs.Words.{AreBits}
use Rattle.bzip2_reader.proofs.FairBlocks.{fair_block}
use Rattle.bzip2_reader.proofs.FairLaws.{number_grown}
use Rattle.bzip2_reader.proofs.FieldLaws.{bits_later}
use Rattle.bzip2_reader.proofs.PartLaws.{unpack_end, unpack_fault, unpack_next}
use Rattle.bzip2_reader.proofs.WordLaws.{are_bits, bits_cons, bits_length, drop_more}

-- ---- with more bits behind, a part is the same

abbrev GrownBits : List ℕ → Result (ℕ × List ℕ) Cause → Result (ℕ × List ℕ) Cause → Type 0
GrownBits more (Ok x) r = r ≡ Ok (x.0, x.1 ++ more)
GrownBits more (Err cause) r = cause ≢ EarlyEnd → r ≡ Err cause

abbrev GrownPart : List ℕ → Result Part Cause → Result Part Cause → Type 0
GrownPart more (Ok part) r = r ≡ Ok (record { given = part.given; next = part.next; rest = part.rest ++ more })
GrownPart more (Err cause) r = cause ≢ EarlyEnd → r ≡ Err cause

told_grown : (more : List ℕ) (r s : Reading ℕ) → Grown more r s → GrownBits more (told r) (told s)
told_grown more (Ok x) s e = ap told e
told_grown more (Err fault) s e = λ other. ap told (e (λ h. other (ap cause_of h)))

number_told : (n : ℕ) (bits more : List ℕ) → GrownBits more (told (number n bits)) (told (number n (bits ++ more)))
number_told n bits more = told_grown more (number n bits) (number n (bits ++ more)) (number_grown 0 n bits more)

checked : (p : ℕ → Bool) (more : List ℕ) (r s : Result (ℕ × List ℕ) Cause) → GrownBits more r s →
    GrownBits more (r >>= λ byte. demand (p byte.0) NoStream >>= λ _. Ok byte) (s >>= λ byte. demand (p byte.0) NoStream >>= λ _. Ok byte)
checked p more (Ok x) s e = subst (λ (q : Result (ℕ × List ℕ) Cause). GrownBits more (demand (p x.0) NoStream >>= λ _. Ok x) (q >>= λ byte. demand (p byte.0) NoStream >>= λ _. Ok byte)) (sym e) (by (p x.0))
  where
    by : (b : Bool) → GrownBits more (demand b NoStream >>= λ _. Ok x) (demand b NoStream >>= λ _. Ok (x.0, x.1 ++ more))
    by true = refl
    by false = λ other. refl
checked p more (Err cause) s e = λ other. ap (λ q. q >>= λ byte. demand (p byte.0) NoStream >>= λ _. Ok byte) (e other)

byte_grown : (p : ℕ → Bool) (bits more : List ℕ) → GrownBits more (head_byte p bits) (head_byte p (bits ++ more))
byte_grown p bits more = checked p more (told (number 8 bits)) (told (number 8 (bits ++ more))) (number_told 8 bits more)

then_part : (more : List ℕ) (g : ℕ → List ℕ → Result Part Cause) (r s : Result (ℕ × List ℕ) Cause) → GrownBits more r s → ((n : ℕ) (rest : List ℕ) → GrownPart more (g n rest) (g n (rest ++ more))) →
    GrownPart more (r >>= λ x. g x.0 x.1) (s >>= λ x. g x.0 x.1)
then_part more g (Ok x) s e f = subst (λ (q : Result (ℕ × List ℕ) Cause). GrownPart more (g x.0 x.1) (q >>= λ y. g y.0 y.1)) (sym e) (f x.0 x.1)
then_part more g (Err cause) s e f = λ other. ap (λ q. q >>= λ x. g x.0 x.1) (e other)

abbrev level_part : ℕ → List ℕ → Result Part Cause
level_part level rest = Ok (record { given = []; next = Inside (100000 * (level - 0x30)) 0; rest = rest })

abbrev h_part : List ℕ → Result Part Cause
h_part rest = head_byte (λ n. nat_le 0x31 n && nat_le n 0x39) rest >>= λ level. level_part level.0 level.1

abbrev z_part : List ℕ → Result Part Cause
z_part rest = head_byte (λ n. n == 0x68) rest >>= λ h. h_part h.1

abbrev b_part : List ℕ → Result Part Cause
b_part rest = head_byte (λ n. n == 0x5A) rest >>= λ z. z_part z.1

head_is : (bits : List ℕ) → head_at bits ≡ (head_byte (λ n. n == 0x42) bits >>= λ b. b_part b.1)
unfolding head_at
head_is bits = refl

h_grown : (bits more : List ℕ) → GrownPart more (h_part bits) (h_part (bits ++ more))
h_grown bits more =
    then_part more level_part (head_byte (λ n. nat_le 0x31 n && nat_le n 0x39) bits) (head_byte (λ n. nat_le 0x31 n && nat_le n 0x39) (bits ++ more)) (byte_grown (λ n. nat_le 0x31 n && nat_le n 0x39) bits more)
    (λ n rest. refl)

z_grown : (bits more : List ℕ) → GrownPart more (z_part bits) (z_part (bits ++ more))
z_grown bits more = then_part more (λ n rest. h_part rest) (head_byte (λ n. n == 0x68) bits) (head_byte (λ n. n == 0x68) (bits ++ more)) (byte_grown (λ n. n == 0x68) bits more) (λ n rest. h_grown rest more)

b_grown : (bits more : List ℕ) → GrownPart more (b_part bits) (b_part (bits ++ more))
b_grown bits more = then_part more (λ n rest. z_part rest) (head_byte (λ n. n == 0x5A) bits) (head_byte (λ n. n == 0x5A) (bits ++ more)) (byte_grown (λ n. n == 0x5A) bits more) (λ n rest. z_grown rest more)

head_grown : (bits more : List ℕ) → GrownPart more (head_at bits) (head_at (bits ++ more))
head_grown bits more =
    subst (λ (r : Result Part Cause). GrownPart more r (head_at (bits ++ more))) (sym (head_is bits))
    (subst (λ (r : Result Part Cause). GrownPart more (head_byte (λ n. n == 0x42) bits >>= λ b. b_part b.1) r) (sym (head_is (bits ++ more)))
    (then_part more (λ n rest. b_part rest) (head_byte (λ n. n == 0x42) bits) (head_byte (λ n. n == 0x42) (bits ++ more)) (byte_grown (λ n. n == 0x42) bits more) (λ n rest. b_grown rest more)))

-- the end of a stream, where whole bytes stand behind
same_tail : (n m : ℕ) → m % 8 ≡ 0 → (n + m) % 8 ≡ n % 8
same_tail n m e = omega (arith, e)

tail_grown : (rest more : List ℕ) → length more % 8 ≡ 0 → drop (length (rest ++ more) % 8) (rest ++ more) ≡ drop (length rest % 8) rest ++ more
tail_grown rest more whole =
    let size : length (rest ++ more) % 8 ≡ length rest % 8 = ap (λ n. n % 8) (length-append rest more) ∙ same_tail (length rest) (length more) whole in
    ap (λ n. drop n (rest ++ more)) size ∙ drop-append-le (length rest % 8) rest more (omega arith)

abbrev named_part : ℕ → ℕ → List ℕ → Result Part Cause
named_part sum named rest = demand (named == sum) StreamChecksum >>= λ _. Ok (record { given = []; next = Between; rest = drop (length rest % 8) rest })

named_grown : (sum named : ℕ) (rest more : List ℕ) → length more % 8 ≡ 0 → GrownPart more (named_part sum named rest) (named_part sum named (rest ++ more))
named_grown sum named rest more whole = by (named == sum)
  where
    by : (b : Bool) → GrownPart more (demand b StreamChecksum >>= λ _. Ok (record { given = []; next = Between; rest = drop (length rest % 8) rest }))
        (demand b StreamChecksum >>= λ _. Ok (record { given = []; next = Between; rest = drop (length (rest ++ more) % 8) (rest ++ more) }))
    by true = ap (λ l. Ok (record { given = []; next = Between; rest = l })) (tail_grown rest more whole)
    by false = λ other. refl

end_is : (sum : ℕ) (bits : List ℕ) → end_in sum bits ≡ (told (number 32 bits) >>= λ named. named_part sum named.0 named.1)
unfolding end_in
end_is sum bits = refl

end_grown : (sum : ℕ) (bits more : List ℕ) → length more % 8 ≡ 0 → GrownPart more (end_in sum bits) (end_in sum (bits ++ more))
end_grown sum bits more whole =
    subst (λ (r : Result Part Cause). GrownPart more r (end_in sum (bits ++ more))) (sym (end_is sum bits))
    (subst (λ (r : Result Part Cause). GrownPart more (told (number 32 bits) >>= λ named. named_part sum named.0 named.1) r) (sym (end_is sum (bits ++ more)))
    (then_part more (named_part sum) (told (number 32 bits)) (told (number 32 (bits ++ more))) (number_told 32 bits more) (λ n rest. named_grown sum n rest more whole)))

-- a block
abbrev part_of : ℕ → ℕ → ℕ → List ℕ → List ℕ → Part
part_of most sum checksum text rest = record { given = written text; next = Inside most (bit_xor (rotate_left w32 sum 1) checksum); rest = rest }

abbrev text_part : ℕ → ℕ → BlockRead → List ℕ → Result Part Cause
text_part most sum block rest =
    demand (nat_le (length block.text) most) (Block LongBlock) >>= λ _. demand (checksum_of (written block.text) == block.checksum) (Block BadChecksum) >>= λ _.
    Ok (record { given = written block.text; next = Inside most (bit_xor (rotate_left w32 sum 1) block.checksum); rest = rest })

text_grown : (most sum : ℕ) (block : BlockRead) (rest more : List ℕ) → GrownPart more (text_part most sum block rest) (text_part most sum block (rest ++ more))
text_grown most sum block rest more = by (nat_le (length block.text) most) (checksum_of (written block.text) == block.checksum)
  where
    by : (a b : Bool) → GrownPart more (demand a (Block LongBlock) >>= λ _. demand b (Block BadChecksum) >>= λ _. Ok (part_of most sum block.checksum block.text rest)) (demand a (Block LongBlock) >>= λ _. demand b (Block BadChecksum) >>= λ _. Ok (part_of most sum block.checksum block.text (rest ++ more)))
    by true true = refl
    by true false = λ other. refl
    by false b = λ other. refl

abbrev on_block : ℕ → ℕ → Reading BlockRead → Result Part Cause
on_block most sum r = told r >>= λ block. text_part most sum block.0 block.1

pub block_is : (most sum : ℕ) (bits : List ℕ) → block_in most sum bits ≡ on_block most sum (block_at bits)
unfolding block_in
block_is most sum bits = refl

on_grown : (most sum : ℕ) (more : List ℕ) (r s : Reading BlockRead) → Grown more r s → GrownPart more (on_block most sum r) (on_block most sum s)
on_grown most sum more (Ok x) s e = subst (λ (q : Reading BlockRead). GrownPart more (text_part most sum x.0 x.1) (on_block most sum q)) (sym e) (text_grown most sum x.0 x.1 more)
on_grown most sum more (Err fault) s e = λ other. ap (on_block most sum) (e (λ h. other (ap cause_of h)))

block_grown : (most sum : ℕ) (bits more : List ℕ) → AreBits (bits ++ more) → GrownPart more (block_in most sum bits) (block_in most sum (bits ++ more))
block_grown most sum bits more are =
    subst (λ (r : Result Part Cause). GrownPart more r (block_in most sum (bits ++ more))) (sym (block_is most sum bits))
    (subst (λ (r : Result Part Cause). GrownPart more (on_block most sum (block_at bits)) r) (sym (block_is most sum (bits ++ more)))
    (on_grown most sum more (block_at bits) (block_at (bits ++ more)) (fair_block.steady bits more are)))

if_grown : (more : List ℕ) (b : Bool) (r s q t : Result Part Cause) → GrownPart more r s → GrownPart more q t → GrownPart more (if b then r else q) (if b then s else t)
if_grown more true r s q t h g = h
if_grown more false r s q t h g = g

-- behind the 48 bits
after_mark : (most sum : ℕ) (bits more : List ℕ) (r s : Result (ℕ × List ℕ) Cause) → AreBits (bits ++ more) → length more % 8 ≡ 0 → GrownBits more r s →
    GrownPart more (r >>= λ magic. if magic.0 == 0x177245385090 then end_in sum magic.1 else block_in most sum bits)
    (s >>= λ magic. if magic.0 == 0x177245385090 then end_in sum magic.1 else block_in most sum (bits ++ more))
after_mark most sum bits more (Ok x) s are whole e =
    subst (λ (q : Result (ℕ × List ℕ) Cause). GrownPart more (if x.0 == 0x177245385090 then end_in sum x.1 else block_in most sum bits)
    (q >>= λ magic. if magic.0 == 0x177245385090 then end_in sum magic.1 else block_in most sum (bits ++ more))) (sym e)
    (if_grown more (x.0 == 0x177245385090) (end_in sum x.1) (end_in sum (x.1 ++ more)) (block_in most sum bits) (block_in most sum (bits ++ more)) (end_grown sum x.1 more whole) (block_grown most sum bits more are))
after_mark most sum bits more (Err cause) s are whole e = λ other. ap (λ q. q >>= λ magic. if magic.0 == 0x177245385090 then end_in sum magic.1 else block_in most sum (bits ++ more)) (e other)

part_grown : (place : Place) (bits more : List ℕ) → AreBits (bits ++ more) → length more % 8 ≡ 0 → GrownPart more (part_at place bits) (part_at place (bits ++ more))
part_grown Between bits more are whole = head_grown bits more
part_grown (Inside most sum) bits more are whole = after_mark most sum bits more (told (number 48 bits)) (told (number 48 (bits ++ more))) are whole (number_told 48 bits more)

-- ---- a window, and what stands behind it

bits_join : (xs ys : List ℕ) → bits_of (xs ++ ys) ≡ bits_of xs ++ bits_of ys
unfolding bits_of
bits_join [] ys = refl
bits_join (x ∷ xs) ys = bits_cons x (xs ++ ys) ∙ ap (λ l. byte_bits x ++ l) (bits_join xs ys) ∙ sym (append_assoc (byte_bits x) (bits_of xs) (bits_of ys)) ∙ ap (λ l. l ++ bits_of ys) (sym (bits_cons x xs))

bits_from : (items more : List ℕ) (filled at : ℕ) → filled ≤ length items → at ≤ 8 * filled → drop at (bits_of (take filled items ++ more)) ≡ drop at (bits_of (take filled items)) ++ bits_of more
bits_from items more filled at fits within =
    ap (drop at) (bits_join (take filled items) more) ∙ drop-append-le at (bits_of (take filled items)) (bits_of more) (omega (arith, within, bits_length (take filled items), length-take-le filled items fits))

are_later : (bits : List ℕ) (at : ℕ) → AreBits bits → AreBits (drop at bits)
are_later bits at are = bits_later at bits are

whole_bytes : (more : List ℕ) → length (bits_of more) % 8 ≡ 0
whole_bytes more = omega (arith, bits_length more)

grown_here : (items more : List ℕ) (filled at : ℕ) (place : Place) → filled ≤ length items → at ≤ 8 * filled →
    GrownPart (bits_of more) (part_at place (drop at (bits_of (take filled items)))) (part_at place (drop at (bits_of (take filled items ++ more))))
grown_here items more filled at place fits within =
    let bits = drop at (bits_of (take filled items)) in
    let e : drop at (bits_of (take filled items ++ more)) ≡ bits ++ bits_of more = bits_from items more filled at fits within in
    subst (λ (l : List ℕ). GrownPart (bits_of more) (part_at place bits) (part_at place l)) (sym e)
    (part_grown place bits (bits_of more) (subst AreBits e (bits_later at (bits_of (take filled items ++ more)) (are_bits (take filled items ++ more)))) (whole_bytes more))

next_here : (items more : List ℕ) (filled at at2 : ℕ) (place place2 : Place) (given : List ℕ) → filled ≤ length items → at ≤ 8 * filled → at2 ≤ 8 * filled →
    part_at place (drop at (bits_of (take filled items))) ≡ Ok (record { given = given; next = place2; rest = drop at2 (bits_of (take filled items)) }) →
    unpack place (drop at (bits_of (take filled items ++ more))) ≡ after_part given (unpack place2 (drop at2 (bits_of (take filled items ++ more))))
next_here items more filled at at2 place place2 given fits within within2 e =
    let grown : part_at place (drop at (bits_of (take filled items ++ more))) ≡ Ok (record { given = given; next = place2; rest = drop at2 (bits_of (take filled items)) ++ bits_of more }) =
    subst (λ (r : Result Part Cause). GrownPart (bits_of more) r (part_at place (drop at (bits_of (take filled items ++ more))))) e (grown_here items more filled at place fits within) in
    unpack_next place (drop at (bits_of (take filled items ++ more))) (record { given = given; next = place2; rest = drop at2 (bits_of (take filled items)) ++ bits_of more }) grown
    ∙ ap (λ l. after_part given (unpack place2 l)) (sym (bits_from items more filled at2 fits within2))

pub part_taken : (items : List ℕ) (filled : ℕ) (rest : Rest) (left : Option (List ℕ)) (place place2 : Place) (at at2 : ℕ) (given : List ℕ) → filled ≤ length items → at ≤ 8 * filled → at2 ≤ 8 * filled →
    GoesOn (bits_of (take filled items)) place at place2 at2 given →
    Comes [] (coming [] place at (known_whole items filled rest left)) (coming given place2 at2 (known_whole items filled rest left))
part_taken items filled rest None place place2 at at2 given fits within within2 on = tt
part_taken items filled rest (Some xs) place place2 at at2 given fits within within2 (inl e) = next_here items (behind rest xs) filled at at2 place place2 given fits within within2 e
part_taken items filled rest (Some xs) place place2 at at2 given fits within within2 (inr e) =
    ap (λ p. unpack p (drop at (bits_of (take filled items ++ behind rest xs)))) (sym e.0) ∙ ap (λ n. unpack place2 (drop n (bits_of (take filled items ++ behind rest xs)))) (sym e.1)
    ∙ ap (λ l. after_part l (unpack place2 (drop at2 (bits_of (take filled items ++ behind rest xs))))) (sym e.2)

early : (cause : Cause) → head_at [] ≡ Err cause → cause ≡ EarlyEnd
unfolding head_at number_from
early cause e = cc

is_more : (place : Place) (bits : List ℕ) (cause : Cause) → part_at place bits ≡ Err cause → cause ≢ EarlyEnd → IsMore place bits
is_more Between [] cause e other = absurd (other (early cause e))
is_more Between (b ∷ bits) cause e other = tt
is_more (Inside most sum) bits cause e other = tt

pub part_wrong : (items : List ℕ) (filled : ℕ) (rest : Rest) (left : Option (List ℕ)) (place : Place) (at : ℕ) (cause : Cause) → filled ≤ length items → at ≤ 8 * filled → cause ≢ EarlyEnd →
    part_at place (drop at (bits_of (take filled items))) ≡ Err cause → EndsBy (Some cause) (coming [] place at (known_whole items filled rest left))
part_wrong items filled rest None place at cause fits within other e = tt
part_wrong items filled rest (Some xs) place at cause fits within other e =
    let more = behind rest xs in
    let bits = drop at (bits_of (take filled items ++ more)) in
    let grown : part_at place bits ≡ Err cause =
    subst (λ (r : Result Part Cause). GrownPart (bits_of more) r (part_at place bits)) e (grown_here items more filled at place fits within) other in
    unpack_fault place bits cause (is_more place bits cause grown other) grown

nothing_behind : (items : List ℕ) (filled : ℕ) (rest : Rest) (xs : List ℕ) → rest ≡ NoMore → take filled items ++ behind rest xs ≡ take filled items
nothing_behind items filled rest xs none = ap (λ r. take filled items ++ behind r xs) none ∙ append-nil (take filled items)

pub part_short : (items : List ℕ) (filled : ℕ) (rest : Rest) (left : Option (List ℕ)) (place : Place) (at : ℕ) (cause : Cause) → rest ≡ NoMore → IsMore place (drop at (bits_of (take filled items))) →
    part_at place (drop at (bits_of (take filled items))) ≡ Err cause → EndsBy (Some cause) (coming [] place at (known_whole items filled rest left))
part_short items filled rest None place at cause none more e = tt
part_short items filled rest (Some xs) place at cause none more e =
    ap (λ l. unpack place (drop at (bits_of l))) (nothing_behind items filled rest xs none) ∙ unpack_fault place (drop at (bits_of (take filled items))) cause more e

pub part_none : (items : List ℕ) (filled : ℕ) (rest : Rest) (left : Option (List ℕ)) (place : Place) (at : ℕ) → rest ≡ NoMore → place ≡ Between → drop at (bits_of (take filled items)) ≡ [] →
    EndsBy None (coming [] place at (known_whole items filled rest left))
part_none items filled rest None place at none between end = tt
part_none items filled rest (Some xs) place at none between end =
    ap (λ l. unpack place (drop at (bits_of l))) (nothing_behind items filled rest xs none) ∙ ap (unpack place) end ∙ ap (λ p. unpack p []) between ∙ unpack_end

-- ---- a block in a window

pub block_read_in : (most sum checksum : ℕ) (bits rest text : List ℕ) → block_at bits ≡ Ok (record { checksum = checksum; text = text }, rest) → length text ≤ most → checksum_of (written text) ≡ checksum →
    block_in most sum bits ≡ Ok (record { given = written text; next = Inside most (bit_xor (rotate_left w32 sum 1) checksum); rest = rest })
block_read_in most sum checksum bits rest text e fits same =
    block_is most sum bits ∙ ap (on_block most sum) e ∙ by (nat_le (length text) most) (checksum_of (written text) == checksum) (le-leb (length text) most fits) (eq-eqb (checksum_of (written text)) checksum same)
  where
    by : (a b : Bool) → a ≡ true → b ≡ true → (demand a (Block LongBlock) >>= λ _. demand b (Block BadChecksum) >>= λ _. Ok (part_of most sum checksum text rest)) ≡ Ok (part_of most sum checksum text rest)
    by true true f g = refl
    by true false f g = cc
    by false b f g = cc

pub block_long_in : (most sum checksum : ℕ) (bits rest text : List ℕ) → block_at bits ≡ Ok (record { checksum = checksum; text = text }, rest) → most < length text → block_in most sum bits ≡ Err (Block LongBlock)
block_long_in most sum checksum bits rest text e long =
    block_is most sum bits ∙ ap (on_block most sum) e ∙ by (nat_le (length text) most) (lt-leb (length text) most long)
  where
    by : (a : Bool) → a ≡ false → (demand a (Block LongBlock) >>= λ _. demand (checksum_of (written text) == checksum) (Block BadChecksum) >>= λ _.
        Ok (part_of most sum checksum text rest)) ≡ Err (Block LongBlock)
    by true f = cc
    by false f = refl

pub block_wrong_in : (most sum checksum : ℕ) (bits rest text : List ℕ) → block_at bits ≡ Ok (record { checksum = checksum; text = text }, rest) → length text ≤ most → checksum_of (written text) ≢ checksum →
    block_in most sum bits ≡ Err (Block BadChecksum)
block_wrong_in most sum checksum bits rest text e fits other =
    block_is most sum bits ∙ ap (on_block most sum) e ∙ by (nat_le (length text) most) (checksum_of (written text) == checksum) (le-leb (length text) most fits) (ne_eqb (checksum_of (written text)) checksum other)
  where
    by : (a b : Bool) → a ≡ true → b ≡ false → (demand a (Block LongBlock) >>= λ _. demand b (Block BadChecksum) >>= λ _. Ok (part_of most sum checksum text rest)) ≡ Err (Block BadChecksum)
    by true false f g = refl
    by true true f g = cc
    by false b f g = cc

pub block_fault_in : (most sum : ℕ) (bits : List ℕ) (fault : BlockFault) → block_at bits ≡ Err fault → block_in most sum bits ≡ Err (cause_of fault)
block_fault_in most sum bits fault e = block_is most sum bits ∙ ap (on_block most sum) e

pub block_as : (most sum checksum turned named : ℕ) (bits rest text left : List ℕ) → block_in most sum bits ≡ Ok (part_of most sum checksum text rest) → left ≡ written text → turned ≡ rotate_left w32 sum 1 → checksum ≡ named →
    block_in most sum bits ≡ Ok (record { given = left; next = Inside most (bit_xor turned named); rest = rest })
block_as most sum checksum turned named bits rest text left e all turn name =
    e ∙ ap (λ l. Ok (record { given = l; next = Inside most (bit_xor (rotate_left w32 sum 1) checksum); rest = rest })) (sym all)
    ∙ ap (λ n. Ok (record { given = left; next = Inside most (bit_xor n checksum); rest = rest })) (sym turn) ∙ ap (λ n. Ok (record { given = left; next = Inside most (bit_xor turned n); rest = rest })) name

-- ---- a window that was filled

pub kept_comes : (left : List ℕ) (place : Place) (at at2 : ℕ) (known known2 : Option (List ℕ)) → Keeps (known_bits at known) (known_bits at2 known2) → Comes [] (coming left place at known) (coming left place at2 known2)
kept_comes left place at at2 None known2 kept = tt
kept_comes left place at at2 (Some xs) None kept = absurd kept
kept_comes left place at at2 (Some xs) (Some ys) kept = ap (λ l. after_part left (unpack place l)) (sym kept)

pub no_more : (rest : Rest) → is_last rest ≡ true → has_failed rest ≡ false → rest ≡ NoMore
no_more NoMore last failed = refl
no_more More last failed = cc
no_more Failed last failed = cc

pub more_there : (place : Place) (bits : List ℕ) → 0 < length bits → IsMore place bits
more_there Between [] some = absurd (omega (arith, some))
more_there Between (b ∷ bits) some = tt
more_there (Inside most sum) bits some = tt

-- ---- the end of a stream

pub end_fault : (sum : ℕ) (bits : List ℕ) (cause : Cause) → told (number 32 bits) ≡ Err cause → end_in sum bits ≡ Err cause
end_fault sum bits cause e = end_is sum bits ∙ ap (λ r. r >>= λ named. named_part sum named.0 named.1) e

pub end_other : (sum named : ℕ) (bits rest : List ℕ) → told (number 32 bits) ≡ Ok (named, rest) → named ≢ sum → end_in sum bits ≡ Err StreamChecksum
end_other sum named bits rest e other =
    end_is sum bits ∙ ap (λ r. r >>= λ n. named_part sum n.0 n.1) e
    ∙ ap (λ b. demand b StreamChecksum >>= λ _. Ok (record { given = []; next = Between; rest = drop (length rest % 8) rest })) (ne_eqb named sum other)

up_to_byte : (n at : ℕ) → at ≤ 8 * n → at + (8 * n - at) % 8 ≡ div_ceil at 8 * 8
up_to_byte n at within = omega (arith, within)

pub end_named : (sum named : ℕ) (bits bytes : List ℕ) (at up : ℕ) → at ≤ 8 * length bytes → up ≡ div_ceil at 8 → told (number 32 bits) ≡ Ok (named, drop at (bits_of bytes)) → named ≡ sum →
    end_in sum bits ≡ Ok (record { given = []; next = Between; rest = drop (up * 8) (bits_of bytes) })
end_named sum named bits bytes at up within is e same =
    let rest = drop at (bits_of bytes) in
    let size : length rest ≡ 8 * length bytes - at = length-drop at (bits_of bytes) ∙ ap (λ n. n - at) (bits_length bytes) in
    let place : at + length rest % 8 ≡ up * 8 = ap (λ n. at + n % 8) size ∙ up_to_byte (length bytes) at within ∙ ap (λ n. n * 8) (sym is) in
    end_is sum bits ∙ ap (λ r. r >>= λ n. named_part sum n.0 n.1) e
    ∙ ap (λ b. demand b StreamChecksum >>= λ _. Ok (record { given = []; next = Between; rest = drop (length rest % 8) rest })) (eq-eqb named sum same)
    ∙ ap (λ l. Ok (record { given = []; next = Between; rest = l })) (drop_more at (length rest % 8) (bits_of bytes) ∙ ap (λ n. drop n (bits_of bytes)) place)

-- ---- a block that was decoded

pub block_long : (most sum at : ℕ) (bits raw : List ℕ) (r : Result Text BlockFault) (t : Text) → r ≡ Ok t → IsBlock bits at r raw → most < t.size → block_in most sum (drop at bits) ≡ Err (Block LongBlock)
block_long most sum at bits raw r t e is long =
    let block : IsBlock bits at (Ok t) raw = subst (λ (q : Result Text BlockFault). IsBlock bits at q raw) e is in
    block_long_in most sum t.checksum (drop at bits) (drop t.end bits) (take t.size raw) block.2 (omega (arith, long, length-take-le t.size raw block.0))

pub block_checked : (most sum at size : ℕ) (bits held raw : List ℕ) (r : Result Text BlockFault) (t : Text) → r ≡ Ok t → IsBlock bits at r held → length held ≡ size → (t.size ≤ size → raw ≡ take t.size held) → t.size ≤ most →
    checksum_of (written raw) ≢ t.checksum → block_in most sum (drop at bits) ≡ Err (Block BadChecksum)
block_checked most sum at size bits held raw r t e is long front few other =
    let block : IsBlock bits at (Ok t) held = subst (λ (q : Result Text BlockFault). IsBlock bits at q held) e is in
    let same : raw ≡ take t.size held = front (omega (arith, block.0, long)) in
    block_wrong_in most sum t.checksum (drop at bits) (drop t.end bits) (take t.size held) block.2 (omega (arith, few, length-take-le t.size held block.0)) (λ h. other (ap (λ l. checksum_of (written l)) same ∙ h))

pub taken_wrong : (cause : Cause) (part : Result Part Cause) (checksum : ℕ) (raw : List ℕ) → (cause ≡ Memory) ⊎ ((cause ≡ Block BadChecksum) × (checksum_of (written raw) ≢ checksum)) →
    (checksum_of (written raw) ≢ checksum → part ≡ Err (Block BadChecksum)) → IsWrong cause part
taken_wrong cause part checksum raw (inl memory) wrong = inl memory
taken_wrong cause part checksum raw (inr named) wrong = inr (wrong named.1 ∙ ap Err (sym named.0))

-- ---- what is wrong with a part is no failure

abbrev Fine : {A : Type 0} → Result A Cause → Type 0
Fine (Ok x) = Unit {0}
Fine (Err cause) = is_failure cause ≡ false

fine_then : {A B : Type 0} → (r : Result A Cause) (f : A → Result B Cause) → Fine r → ((x : A) → Fine (f x)) → Fine (r >>= f)
fine_then (Ok x) f h g = g x
fine_then (Err cause) f h g = h

fine_told : {A : Type 0} → (r : Result A BlockFault) → Fine (told r)
fine_told (Ok x) = tt
fine_told (Err ShortBlock) = refl
fine_told (Err fault) = refl

fine_demand : {A : Type 0} → (b : Bool) (cause : Cause) (r : Result A Cause) → is_failure cause ≡ false → Fine r → Fine (demand b cause >>= λ _. r)
fine_demand true cause r data_fault h = h
fine_demand false cause r data_fault h = data_fault

fine_byte : (p : ℕ → Bool) (bits : List ℕ) → Fine (head_byte p bits)
fine_byte p bits = fine_then (told (number 8 bits)) (λ byte. demand (p byte.0) NoStream >>= λ _. Ok byte) (fine_told (number 8 bits)) (λ byte. fine_demand (p byte.0) NoStream (Ok byte) refl tt)

fine_h : (bits : List ℕ) → Fine (h_part bits)
fine_h bits = fine_then (head_byte (λ n. nat_le 0x31 n && nat_le n 0x39) bits) (λ level. level_part level.0 level.1) (fine_byte (λ n. nat_le 0x31 n && nat_le n 0x39) bits) (λ level. tt)

fine_z : (bits : List ℕ) → Fine (z_part bits)
fine_z bits = fine_then (head_byte (λ n. n == 0x68) bits) (λ h. h_part h.1) (fine_byte (λ n. n == 0x68) bits) (λ h. fine_h h.1)

fine_b : (bits : List ℕ) → Fine (b_part bits)
fine_b bits = fine_then (head_byte (λ n. n == 0x5A) bits) (λ z. z_part z.1) (fine_byte (λ n. n == 0x5A) bits) (λ z. fine_z z.1)

fine_head : (bits : List ℕ) → Fine (head_at bits)
fine_head bits = subst Fine (sym (head_is bits)) (fine_then (head_byte (λ n. n == 0x42) bits) (λ b. b_part b.1) (fine_byte (λ n. n == 0x42) bits) (λ b. fine_b b.1))

fine_end : (sum : ℕ) (bits : List ℕ) → Fine (end_in sum bits)
fine_end sum bits =
    subst Fine (sym (end_is sum bits))
    (fine_then (told (number 32 bits)) (λ named. named_part sum named.0 named.1) (fine_told (number 32 bits))
    (λ named. fine_demand (named.0 == sum) StreamChecksum (Ok (record { given = []; next = Between; rest = drop (length named.1 % 8) named.1 })) refl tt))

fine_text : (most sum : ℕ) (block : BlockRead) (rest : List ℕ) → Fine (text_part most sum block rest)
fine_text most sum block rest =
    fine_demand (nat_le (length block.text) most) (Block LongBlock) (demand (checksum_of (written block.text) == block.checksum) (Block BadChecksum) >>= λ _. Ok (part_of most sum block.checksum block.text rest)) refl
    (fine_demand (checksum_of (written block.text) == block.checksum) (Block BadChecksum) (Ok (part_of most sum block.checksum block.text rest)) refl tt)

fine_block : (most sum : ℕ) (bits : List ℕ) → Fine (block_in most sum bits)
fine_block most sum bits =
    subst Fine (sym (block_is most sum bits)) (fine_then (told (block_at bits)) (λ block. text_part most sum block.0 block.1) (fine_told (block_at bits)) (λ block. fine_text most sum block.0 block.1))

fine_if : (b : Bool) (r q : Result Part Cause) → Fine r → Fine q → Fine (if b then r else q)
fine_if true r q h g = h
fine_if false r q h g = g

fine_part : (place : Place) (bits : List ℕ) → Fine (part_at place bits)
fine_part Between bits = fine_head bits
fine_part (Inside most sum) bits =
    fine_then (told (number 48 bits)) (λ magic. if magic.0 == 0x177245385090 then end_in sum magic.1 else block_in most sum bits) (fine_told (number 48 bits))
    (λ magic. fine_if (magic.0 == 0x177245385090) (end_in sum magic.1) (block_in most sum bits) (fine_end sum magic.1) (fine_block most sum bits))

pub no_failure : (place : Place) (bits : List ℕ) (cause : Cause) → part_at place bits ≡ Err cause → is_failure cause ≡ false
no_failure place bits cause e = subst Fine e (fine_part place bits)

-- ---- why nothing comes

pub comes_then : (a b c : Option Unpacked) → Comes [] a b → Comes [] b c → Comes [] a c
comes_then None b c e f = tt
comes_then (Some u) None c e f = absurd e
comes_then (Some u) (Some v) None e f = absurd f
comes_then (Some u) (Some v) (Some w) e f = e ∙ f

pub wrong_stops : (cause : Cause) (rest : Rest) (known : Option Unpacked) (place : Place) (bits : List ℕ) → cause ≢ EarlyEnd → IsWrong cause (part_at place bits) → (part_at place bits ≡ Err cause → EndsBy (Some cause) known) →
    Stops cause rest known
wrong_stops cause rest known place bits other (inl memory) ends = subst (λ (c : Cause). Stops c rest known) (sym memory) tt
wrong_stops Memory rest known place bits other (inr e) ends = tt
wrong_stops Device rest known place bits other (inr e) ends = absurd (apart (no_failure place bits Device e))
  where
    apart : true ≡ false → ⊥
    apart h = cc
wrong_stops EarlyEnd rest known place bits other (inr e) ends = absurd (other refl)
wrong_stops NoStream rest known place bits other (inr e) ends = ends e
wrong_stops (Block fault) rest known place bits other (inr e) ends = ends e
wrong_stops StreamChecksum rest known place bits other (inr e) ends = ends e

pub early_wrong : (cause : Cause) (part : Result Part Cause) → IsWrong cause part → cause ≡ EarlyEnd → part ≡ Err EarlyEnd
early_wrong cause part (inl memory) early = absurd (apart (sym memory ∙ early))
  where
    apart : Memory ≡ EarlyEnd → ⊥
    apart h = cc
early_wrong cause part (inr e) early = e ∙ ap Err early

pub if_err_by : (r : Result (Unit {0}) Cause) (P Q : Cause → Type 0) → IfErr r P → ((cause : Cause) → P cause → Q cause) → IfErr r Q
if_err_by (Ok x) P Q h f = tt
if_err_by (Err cause) P Q h f = f cause h
