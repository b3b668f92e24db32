-- What the first bytes of a file tell of all.
use Rattle.std.proofs.Common.{◌≡◌, ◌≤◌, ◌+◌, ◌⊎◌, inl, inr, ℕ, List, [], ◌++◌, Option, None, Some, Result, Ok, Err, refl, sym, ap, ◌∙◌, append_assoc, length, take, drop, subst, take-append-drop, arith, true, OnErr}
use Rattle.std.proofs.lemmas.Grind.{common_steps}
use Rattle.std.proofs.lemmas.List.{drop-drop}
use Rattle.std.proofs.Math.Bool.{Bool-set}
use lib.Seq.{take-append_seam}
use Rattle.std.specs.Io.KnownBytes.{Consumes, IsAtEnd, Keeps, ReadConsumes, prepend_known}
use Rattle.std.proofs.KnownBytes.{Keeps-refl, Keeps-trans, prepend_known-nil}
use Rattle.packed_io.specs.Formats.{format_of, told_in, told_of}
use Rattle.run_io.specs.Readers.{blocks_remaining}
use Rattle.run_io.specs.declared.blocks.Blocks.{Blocks}
use Rattle.packed_io.specs.Devices.{first_remaining}
use Rattle.packed_io.specs.Reading.{unpacked_remaining}
use Rattle.gzip_reader.specs.Files as gzip
use Rattle.gzip_reader.specs.Blocks
use Rattle.gzip_reader.specs.Gives.{left, left_known}
use Rattle.gzip_reader.specs.declared.gunzip.Gunzip.{Gunzip}
use Rattle.std.specs.Global.{Box}
use Rattle.std.specs.Prelude.{box_value}
use Rattle.packed_io.specs.declared.decoder.Decoder.{Decoder}
use Rattle.packed_io.specs.Stages.{IsMade, decoder_remaining, is_told, stage_remaining}
use Rattle.packed_io.specs.declared.head.HeadFirst.{HeadFirst}
use Rattle.packed_io.specs.declared.unpacked.Stage.TheVariants as stages
use Rattle.packed_io.specs.declared.unpacked.Unpacked.{Unpacked}
use Rattle.packed_io.specs.declared.format.Format.{Format}
use Rattle.packed_io.specs.declared.format.Format.TheVariants.{Plain, Gzip, Bzip2}

-- first bytes that were read are first of the known ones
pub added : (start a b : Option (List ℕ)) (head bytes new : List ℕ) → Keeps start (prepend_known head a) → Consumes a b bytes → new ≡ head ++ bytes → Keeps start (prepend_known new b)
added None a b head bytes new k c e = tt
added (Some x) None b head bytes new k c e = absurd k
added (Some x) (Some y) None head bytes new k c e = absurd c
added (Some x) (Some y) (Some z) head bytes new k c e = ap (λ l. l ++ z) e ∙ append_assoc head bytes z ∙ ap (λ l. head ++ l) (sym c) ∙ k

-- none were read
pub waits : (start a b : Option (List ℕ)) (head : List ℕ) → Keeps start (prepend_known head a) → Keeps a b → Keeps start (prepend_known head b)
waits None a b head k s = tt
waits (Some x) None b head k s = absurd k
waits (Some x) (Some y) None head k s = absurd s
waits (Some x) (Some y) (Some z) head k s = ap (λ l. head ++ l) s ∙ k

-- some of the first bytes were given
pub gave : (known : Option (List ℕ)) (left given now : List ℕ) → left ≡ given ++ now → Consumes (prepend_known left known) (prepend_known now known) given
gave None left given now e = tt
gave (Some x) left given now e = ap (λ l. l ++ x) e ∙ append_assoc given now x

-- after the first bytes come the device's
pub behind : {E : Type 0} (left : List ℕ) (a b : Option (List ℕ)) (result : Result ℕ E) (buffer : List ℕ) → left ≡ [] → ReadConsumes a b result buffer → ReadConsumes (prepend_known left a) (prepend_known left b) result buffer
behind left a b result buffer e h =
    let first = subst (λ (x : Option (List ℕ)). ReadConsumes x b result buffer) (sym (prepend_known-nil a)) h in
    let both = subst (λ (x : Option (List ℕ)). ReadConsumes (prepend_known [] a) x result buffer) (sym (prepend_known-nil b)) first in
    subst (λ (l : List ℕ). ReadConsumes (prepend_known l a) (prepend_known l b) result buffer) (sym e) both

front_whole : (head rest : List ℕ) → length head ≡ 10 → take 10 (head ++ rest) ≡ head
front_whole head rest e = subst (λ n. take n (head ++ rest) ≡ head) e (take-append_seam head rest)

front_all : (head rest : List ℕ) → length head ≤ 10 → rest ≡ [] → take 10 (head ++ rest) ≡ head
front_all head rest h e = grind (arith, common_steps)

pub front : (head rest : List ℕ) → length head ≤ 10 → (length head ≡ 10) ⊎ (rest ≡ []) → take 10 (head ++ rest) ≡ head
front head rest h (inl e) = front_whole head rest e
front head rest h (inr e) = front_all head rest h e

nothing_told : (form : Format) → told_in form None ≡ None
nothing_told Plain = refl
nothing_told Gzip = refl
nothing_told Bzip2 = refl

-- ten first bytes, or all of a shorter file, tell of all
told_whole : (head : List ℕ) (known : Option (List ℕ)) → length head ≤ 10 → (length head ≡ 10) ⊎ IsAtEnd known → told_of (prepend_known head known) ≡ told_in (format_of head) (prepend_known head known)
told_whole head None h w = sym (nothing_told (format_of head))
told_whole head (Some rest) h w = ap (λ l. told_in (format_of l) (Some (head ++ rest))) (front head rest h w)

told_as : (head : List ℕ) (known : Option (List ℕ)) (form : Format) → length head ≤ 10 → (length head ≡ 10) ⊎ IsAtEnd known → form ≡ format_of head → told_of (prepend_known head known) ≡ told_in form (prepend_known head known)
told_as head known form h w e = told_whole head known h w ∙ ap (λ f. told_in f (prepend_known head known)) (sym e)

-- a file that is read as it is gives all
pub opens_plain : (head : List ℕ) (known now : Option (List ℕ)) (form : Format) → length head ≤ 10 → (length head ≡ 10) ⊎ IsAtEnd known → form ≡ format_of head → form ≡ Plain → now ≡ prepend_known head known → Keeps (told_of (prepend_known head known)) now
opens_plain head known now form h w e p n =
    let told = told_as head known form h w e ∙ ap (λ f. told_in f (prepend_known head known)) p in
    subst (λ (x : Option (List ℕ)). Keeps x now) (sym told) (subst (λ (x : Option (List ℕ)). Keeps (prepend_known head known) x) (sym n) (Keeps-refl (prepend_known head known)))

-- so does what unpacks one that is packed
pub opens_packed : (head : List ℕ) (known now : Option (List ℕ)) (form : Format) → length head ≤ 10 → (length head ≡ 10) ⊎ IsAtEnd known → form ≡ format_of head → Keeps (told_in form (prepend_known head known)) now → Keeps (told_of (prepend_known head known)) now
opens_packed head known now form h w e kept = subst (λ (x : Option (List ℕ)). Keeps x now) (sym (told_as head known form h w e)) kept

pub made_keeps : {D : Type 0} (remaining : D → Option (List ℕ)) (form : Format) (known : Option (List ℕ)) (decoder : Decoder D) → (form ≡ Gzip) ⊎ (form ≡ Bzip2) → IsMade remaining form known decoder → Keeps (told_in form known) (decoder_remaining remaining decoder)
made_keeps remaining Gzip known decoder packed made = made
made_keeps remaining Bzip2 known decoder packed made = made
made_keeps remaining Plain known decoder (inl e) made = absurd cc
made_keeps remaining Plain known decoder (inr e) made = absurd cc

-- what unpacks a gzip file tells what it unpacks to
pub gzip_keeps : {S : Type 0} (gunzip : Gunzip S) (head : List ℕ) (known : Option (List ℕ)) → ((bytes : List ℕ) → left gunzip bytes ≡ gzip.unpacked (head ++ bytes)) → Keeps (told_in Gzip (prepend_known head known)) (left_known gunzip known)
gzip_keeps gunzip head None h = tt
gzip_keeps gunzip head (Some bytes) h = ap (λ (u : Blocks.Unpacked). u.bytes) (h bytes)

-- a read of what unpacks a file is one of the file
pub packed_consumes : {D : Type 0} (remaining : D → Option (List ℕ)) (u : Unpacked D) (form : Format) (decoder : Box (Decoder D)) (new : Decoder D) (bytes : List ℕ) → u.stage ≡ stages.Packed form decoder
    → Consumes (decoder_remaining remaining (box_value decoder)) (decoder_remaining remaining new) bytes → Consumes (unpacked_remaining remaining u) (decoder_remaining remaining new) bytes
packed_consumes remaining u form decoder new bytes is h = subst (λ (x : Option (List ℕ)). Consumes x (decoder_remaining remaining new) bytes) (sym (ap (stage_remaining remaining) is)) h

pub packed_keeps : {D : Type 0} (remaining : D → Option (List ℕ)) (u : Unpacked D) (form : Format) (decoder : Box (Decoder D)) (new : Decoder D) → u.stage ≡ stages.Packed form decoder
    → Keeps (decoder_remaining remaining (box_value decoder)) (decoder_remaining remaining new) → Keeps (unpacked_remaining remaining u) (decoder_remaining remaining new)
packed_keeps remaining u form decoder new is h = subst (λ (x : Option (List ℕ)). Keeps x (decoder_remaining remaining new)) (sym (ap (stage_remaining remaining) is)) h

-- some of the first bytes were given: which these are
pub split_front : (all rest taken : List ℕ) (given count : ℕ) → rest ≡ drop given all → taken ≡ take count rest → drop given all ≡ taken ++ drop (given + count) all
split_front all rest taken given count e t =
    sym (take-append-drop count (drop given all)) ∙ ap (λ l. l ++ drop count (drop given all)) (sym (t ∙ ap (take count) e)) ∙ ap (λ l. taken ++ l) (drop-drop count given all)

-- a read after what loses nothing
pub then_consumes : (a b c : Option (List ℕ)) (bytes : List ℕ) → Keeps a b → Consumes b c bytes → Consumes a c bytes
then_consumes None b c bytes k s = tt
then_consumes (Some x) None c bytes k s = absurd k
then_consumes (Some x) (Some y) None bytes k s = absurd s
then_consumes (Some x) (Some y) (Some z) bytes k s = sym k ∙ s

-- giving no bytes loses none
none_given : (a b : Option (List ℕ)) (n : ℕ) (buffer : List ℕ) → Consumes a b (take n buffer) → n ≡ 0 → Keeps a b
none_given None b n buffer h e = tt
none_given (Some x) None n buffer h e = absurd h
none_given (Some x) (Some y) n buffer h e = sym (h ∙ ap (λ m. take m buffer ++ y) e)

-- the same of a read's result
pub kept_consumes : {E : Type 0} (a b c : Option (List ℕ)) (result : Result ℕ E) (buffer : List ℕ) → Keeps a b → ReadConsumes b c result buffer → ReadConsumes a c result buffer
kept_consumes a b c (Ok n) buffer k h = (then_consumes a b c _ k h.0, h.1)
kept_consumes a b c (Err e) buffer k h = Keeps-trans a b c k h

-- the same after a giving of no bytes
pub none_consumes : {E : Type 0} (a b c : Option (List ℕ)) (n : ℕ) (none buffer : List ℕ) (result : Result ℕ E) → Consumes a b (take n none) → n ≡ 0 → ReadConsumes b c result buffer → ReadConsumes a c result buffer
none_consumes a b c n none buffer result h e = kept_consumes a b c result buffer (none_given a b n none h e)

-- a read of a file that is read as it is, after what loses nothing
pub plain_consumes : {D : Type 0} (remaining : D → Option (List ℕ)) (old now : Unpacked D) (blocks : Blocks (HeadFirst D)) (after : Option (List ℕ)) {E : Type 0} (result : Result ℕ E) (buffer : List ℕ) → Keeps (unpacked_remaining remaining old) (unpacked_remaining remaining now) → now.stage ≡ stages.Plain blocks → ReadConsumes (blocks_remaining (first_remaining remaining) blocks) after result buffer → ReadConsumes (unpacked_remaining remaining old) after result buffer
plain_consumes remaining old now blocks after result buffer k e h =
    kept_consumes _ _ after result buffer (subst (λ stage. Keeps (unpacked_remaining remaining old) (stage_remaining remaining stage)) e k) h

-- what holds at every error holds of some
pub at_errors : {E : Type 0} (A B : Type 0) (result : Result ℕ E) → OnErr result B → OnErr result (A → B)
at_errors A B (Ok n) h = tt
at_errors A B (Err e) h = λ _. h

-- a reader is told by what it holds: of its invariant there is one proof
pub same_told : {D : Type 0} (u : Unpacked D) (told : is_told u.stage ≡ true) → record { alloc = u.alloc; stage = u.stage; bytes = u.bytes; told = told } ≡ u
same_told u told = ap (λ t. record { alloc = u.alloc; stage = u.stage; bytes = u.bytes; told = t }) (Bool-set _ _ told u.told)
