-- The bytes from a window's first one on, as it is filled.
use Rattle.std.proofs.Common.{◌≡◌, ℕ, ◌+◌, ◌-◌, ◌*◌, ◌≤◌, Option, Some, None, List, ◌++◌, append_assoc, length, length-drop, length-take-le, take, take-add, drop, refl, sym, ◌∙◌, ap, arith, subst}
use Rattle.std.specs.List.{copy_within}
use Rattle.std.specs.Io.KnownBytes.{Consumes, Keeps}
use Rattle.std.proofs.lemmas.List.{drop-append-le, drop-take, take-append-le, take-take}
use Rattle.bzip2_reader.specs.declared.window.Rest.{Rest}
use Rattle.bzip2_reader.specs.declared.window.Rest.TheVariants.{More}
use Rattle.bzip2_reader.specs.Stretches.{behind, known_behind, known_bits, known_whole}
use Rattle.bzip2_reader.specs.Fields.{bits_of}
use Rattle.bzip2_reader.proofs.LaneLaws.{held}
use Rattle.bzip2_reader.proofs.WordLaws.{bits_behind, drop_more}

pub keeps_then : (a b c : Option (List ℕ)) → Keeps a b → Keeps b c → Keeps a c
keeps_then None b c e f = tt
keeps_then (Some x) None c e f = absurd e
keeps_then (Some x) (Some y) None e f = absurd f
keeps_then (Some x) (Some y) (Some z) e f = f ∙ e

pub keeps_as : (a b : Option (List ℕ)) → b ≡ a → Keeps a b
keeps_as None b e = tt
keeps_as (Some x) (Some y) e = some e
  where
    some : Some y ≡ Some x → y ≡ x
    some h = cc
keeps_as (Some x) None e = cc

-- what a read gave stands behind what was there
read_on : (block new : List ℕ) (filled count : ℕ) (known left : Option (List ℕ)) → take filled new ≡ take filled block → Consumes known left (take count (drop filled new)) →
    Keeps (known_whole block filled More known) (known_whole new (filled + count) More left)
read_on block new filled count None left front gave = tt
read_on block new filled count (Some xs) None front gave = gave
read_on block new filled count (Some xs) (Some ys) front gave =
    ap (λ l. l ++ ys) (take-add filled count new ∙ ap (λ l. l ++ take count (drop filled new)) front) ∙ append_assoc (take filled block) (take count (drop filled new)) ys
    ∙ ap (λ l. take filled block ++ l) (sym gave)

pub read_more : (rest : Rest) (block lent new : List ℕ) (size filled count : ℕ) (known left : Option (List ℕ)) → rest ≡ More → lent ≡ block → length new ≡ length lent → length block ≡ size →
    take filled new ≡ take filled lent → Consumes known left (take count (drop filled new)) →
    Keeps (known_whole block filled rest known) (known_whole (take size (new ++ drop (length new) block)) (filled + count) rest left)
read_more rest block lent new size filled count known left more value same long front gave =
    let e = held size new block (same ∙ ap length value) long in
    subst (λ (r : Rest). Keeps (known_whole block filled r known) (known_whole (take size (new ++ drop (length new) block)) (filled + count) r left)) (sym more)
    (subst (λ (l : List ℕ). Keeps (known_whole block filled More known) (known_whole l (filled + count) More left)) (sym e)
    (read_on block new filled count known left (front ∙ ap (take filled) value) gave))

pub dropped : (block block2 : List ℕ) (filled filled2 used : ℕ) (rest : Rest) (known : Option (List ℕ)) → used ≤ filled → filled ≤ length block → take filled2 block2 ≡ drop used (take filled block) →
    known_whole block2 filled2 rest known ≡ known_behind used (known_whole block filled rest known)
dropped block block2 filled filled2 used rest None h fits e = refl
dropped block block2 filled filled2 used rest (Some ys) h fits e =
    ap (λ l. Some (l ++ behind rest ys)) e ∙ ap (λ l. Some l) (sym (drop-append-le used (take filled block) (behind rest ys) (omega (arith, h, length-take-le filled block fits))))

-- the front of a list after its middle was moved there
pub moved_front : (xs : List ℕ) (used filled : ℕ) → used ≤ filled → filled ≤ length xs → take (filled - used) (copy_within xs used filled 0) ≡ drop used (take filled xs)
moved_front xs used filled h fits =
    let n = filled - used in
    let size : length (take n (drop used xs)) ≡ n = length-take-le n (drop used xs) (omega (arith, length-drop used xs, h, fits)) in
    let end : used + n ≡ filled = omega (arith, h) in
    take-append-le n (take n (drop used xs)) (drop (0 + n) xs) (omega (arith, size)) ∙ take-take n n (drop used xs) (omega arith) ∙ sym (drop-take used n xs) ∙ ap (λ k. drop used (take k xs)) end

-- the bits from one on, where whole bytes before it were dropped
pub refilled : (at used : ℕ) (known known2 : Option (List ℕ)) → used * 8 ≤ at → Keeps (known_behind used known) known2 → Keeps (known_bits at known) (known_bits (at - used * 8) known2)
refilled at used None known2 h kept = tt
refilled at used (Some xs) None h kept = absurd kept
refilled at used (Some xs) (Some ys) h kept =
    let e : 8 * used + (at - used * 8) ≡ at = omega (arith, h) in
    ap (λ l. drop (at - used * 8) (bits_of l)) kept ∙ ap (drop (at - used * 8)) (sym (bits_behind used xs)) ∙ drop_more (8 * used) (at - used * 8) (bits_of xs) ∙ ap (λ n. drop n (bits_of xs)) e
