-- A lane whose links were walked.
use Rattle.std.proofs.Common.{◌≡◌, ◌<◌, ◌≤◌, ◌++◌, ◌*◌, [], ◌∷◌, ℕ, zero, suc, List, Option, Some, Result, Ok, Err, append-nil, IfOk, IfErr, length, length-take-le, drop_of_length-le, get_or, take, drop, sym, ◌∙◌, ap, arith, subst, refl}
use Rattle.bzip2_reader.specs.declared.block.Text.{Text}
use Rattle.bzip2_reader.specs.declared.fault.BlockFault.{BlockFault}
use Rattle.bzip2_reader.specs.Blocks.{block_at}
use Rattle.bzip2_reader.specs.Fields.{bits_of}
use Rattle.bzip2_reader.specs.Links.{IsWalk}
use Rattle.bzip2_reader.specs.Texts.{IsBlock, IsText, first_link, text_size}
use Rattle.bzip2_reader.proofs.WordLaws.{bits_length}

front_of : (xs : List ℕ) (k n : ℕ) → k < n → get_or (take n xs) k 0 ≡ get_or xs k 0
front_of xs k zero less = absurd (omega (arith, less))
front_of [] k (suc n) less = refl
front_of (x ∷ xs) zero (suc n) less = refl
front_of (x ∷ xs) (suc k) (suc n) less = front_of xs k n (omega (arith, less))

block_walked : (bits : List ℕ) (at : ℕ) (text : Result Text BlockFault) (links raw : List ℕ) (size : ℕ) → IsText bits at text links → text_size (Some text) ≤ size → size ≤ length raw →
    IsWalk links (first_link (Some text)) (take size raw) → IsBlock bits at text raw
block_walked bits at (Ok t) links raw size is few fits walk =
    let whole : length (take size raw) ≡ size = length-take-le size raw fits in
    let part : length (take t.size raw) ≡ t.size = length-take-le t.size raw (omega (arith, fits, few)) in (
      omega (arith, fits, few),
      is.0,
      is.1 (take t.size raw) part (λ k less. front_of raw k t.size (omega (arith, part, less)) ∙ sym (front_of raw k size (omega (arith, part, less, few)))
          ∙ walk k (omega (arith, part, less, few, whole))),
    )
block_walked bits at (Err fault) links raw size is few fits walk = is

abbrev pub ReadAs : List ℕ → Option ℕ → Option (Result Text BlockFault) → List ℕ → Type 0
ReadAs bits start text links = (at : ℕ) (t : Result Text BlockFault) → start ≡ Some at → text ≡ Some t → IsText bits at t links

abbrev pub DecodedAs : List ℕ → Option ℕ → Option (Result Text BlockFault) → List ℕ → Type 0
DecodedAs bits start text raw = (at : ℕ) (t : Result Text BlockFault) → start ≡ Some at → text ≡ Some t → IsBlock bits at t raw

pub lane_walked : (bits : List ℕ) (start : Option ℕ) (text : Option (Result Text BlockFault)) (links raw : List ℕ) (size : ℕ) → ReadAs bits start text links →
    text_size text ≤ size → size ≤ length raw → IsWalk links (first_link text) (take size raw) → DecodedAs bits start text raw
lane_walked bits start text links raw size read few fits walk = λ at t begins has.
    block_walked bits at t links raw size (read at t begins has)
    (subst (λ (o : Option (Result Text BlockFault)). text_size o ≤ size) has few) fits
    (subst (λ (o : Option (Result Text BlockFault)). IsWalk links (first_link o) (take size raw)) has walk)

-- a walk of the same links from the same one
pub walk_as : (links links2 : List ℕ) (first first2 : ℕ) (raw : List ℕ) → links ≡ links2 → first ≡ first2 → IsWalk links first raw → IsWalk links2 first2 raw
walk_as links links2 first first2 raw e f walk = subst (λ (n : ℕ). IsWalk links2 n raw) f (subst (λ (l : List ℕ). IsWalk l first raw) e walk)

all_of : (n : ℕ) (xs : List ℕ) → length xs ≤ n → take n xs ≡ xs
all_of zero [] h = refl
all_of zero (x ∷ xs) h = absurd (omega (arith, h))
all_of (suc n) [] h = refl
all_of (suc n) (x ∷ xs) h = ap (λ l. x ∷ l) (all_of n xs (omega (arith, h)))

-- the items of a vector whose slice was lent whole
pub held : (n : ℕ) (new old : List ℕ) → length new ≡ length old → length old ≡ n → take n (new ++ drop (length new) old) ≡ new
held n new old same long =
    ap (λ l. take n (new ++ l)) (drop_of_length-le old (omega (arith, same))) ∙ ap (take n) (append-nil new) ∙ all_of n new (omega (arith, same, long))

pub lane_held : (bits : List ℕ) (start : Option ℕ) (text : Option (Result Text BlockFault)) (links lent new old : List ℕ) (n size : ℕ) → lent ≡ old → length new ≡ length lent → length old ≡ n →
    ReadAs bits start text links → text_size text ≤ size → size ≤ n → IsWalk links (first_link text) (take size new) → DecodedAs bits start text (take n (new ++ drop (length new) old))
lane_held bits start text links lent new old n size value same long read few fits walk =
    let equal : length new ≡ length old = same ∙ ap length value in
    subst (DecodedAs bits start text) (sym (held n new old equal long)) (lane_walked bits start text links new size read few (omega (arith, equal, long, fits)) walk)

-- a block that was decoded, and whose bytes were taken
pub block_taken : (bits : List ℕ) (at : ℕ) (r : Result Text BlockFault) (t : Text) (held raw text : List ℕ) (size checksum : ℕ) → r ≡ Ok t → IsBlock bits at r held → length held ≡ size →
    (t.size ≤ size → raw ≡ take t.size held) → text ≡ raw → checksum ≡ t.checksum →
    (length text ≡ t.size) × (t.end ≤ length bits) × (block_at (drop at bits) ≡ Ok (record { checksum = checksum; text = text }, drop t.end bits))
block_taken bits at r t held raw text size checksum e is long front same named =
    let block : IsBlock bits at (Ok t) held = subst (λ (q : Result Text BlockFault). IsBlock bits at q held) e is in
    let bytes : text ≡ take t.size held = same ∙ front (omega (arith, block.0, long)) in (
      ap length bytes ∙ length-take-le t.size held block.0,
      block.1,
      block.2 ∙ ap (λ n. Ok (record { checksum = n; text = take t.size held }, drop t.end bits)) (sym named) ∙ ap (λ l. Ok (record { checksum = checksum; text = l }, drop t.end bits)) (sym bytes),
    )

-- what was read at a place, with the end among the bits
pub text_read : (bytes : List ℕ) (at : ℕ) (r : Result Text BlockFault) (links : List ℕ) → IfOk r (λ t. t.end ≤ 8 * length bytes) →
    IfOk r (λ t. (raw : List ℕ) → length raw ≡ t.size → IsWalk links t.first raw → block_at (drop at (bits_of bytes)) ≡ Ok (record { checksum = t.checksum; text = raw }, drop t.end (bits_of bytes))) →
    IfErr r (λ e. block_at (drop at (bits_of bytes)) ≡ Err e) → IsText (bits_of bytes) at r links
text_read bytes at (Ok t) links end block fault = (omega (arith, end, bits_length bytes), block)
text_read bytes at (Err e) links end block fault = fault

pub read_there : (bits : List ℕ) (start : Option ℕ) (place : ℕ) (r : Result Text BlockFault) (links : List ℕ) → start ≡ Some place → IsText bits place r links → ReadAs bits start (Some r) links
read_there bits start place r links e is at text begins has =
    subst (λ (n : ℕ). IsText bits n text links) (some_is place at (sym e ∙ begins)) (subst (λ (t : Result Text BlockFault). IsText bits place t links) (some_is r text has) is)
  where
    some_is : {A : Type 0} → (x y : A) → Some x ≡ Some y → x ≡ y
    some_is x y h = cc
