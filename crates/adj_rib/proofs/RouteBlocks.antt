-- Routes in a block of bytes stay what they are when bytes are added at its end.
use Rattle.std.proofs.Common.{◌≡◌, ℕ, ◌+◌, ◌^◌, ◌<◌, ◌≤◌, Bool, true, false, cond, eqb, nat_lt, List, [], ◌∷◌, ◌++◌, length, get_or, take, drop, refl, sym, ap, subst, ◌∙◌, arith, append_assoc, length-append, length-drop}
use Rattle.std.proofs.lemmas.List.{take-append-le, drop-append-le, get_or_append_left}
use Rattle.std.proofs.lemmas.Bool.{ltb-true, ne_eqb}
use Rattle.std.proofs.Math.Seq.{drop-append_seam, take-length}
use Rattle.std.proofs.lemmas.List.Elements.{All-weaker}
use Rattle.std.specs.Prelude.{◌≢◌}
use Rattle.byteorder.specs.Endian.{big_number, big_bytes}
use Rattle.byteorder.specs.Numbers.{big_from-append, big_number-reads_back, length-bytes_high_first}
use Rattle.bgp_update.specs.Packing.{IsPacked, unpacked}
use Rattle.adj_rib.specs.declared.routes.IndexSlot.{IndexSlot}
use Rattle.bgp_update.specs.Decoded.{IsGrown}
use Rattle.adj_rib.specs.Routes.{is_long, head_len, body_len, front_of, head_of, IsFront, IsNamed, route_at, IsSlot, AreSlots}

-- the front, by whether its length is long
pub front_by : (rest : List ℕ) (b : Bool) → is_long rest ≡ b → front_of rest ≡ take (body_len b rest) (drop (head_len b) rest)
unfolding front_of
front_by rest b e = ap (λ (c : Bool). take (body_len c rest) (drop (head_len c) rest)) e

head_len-pos : (b : Bool) → 1 ≤ head_len b
head_len-pos true = omega arith
head_len-pos false = omega arith

body_len-append : (b : Bool) (rest more : List ℕ) → head_len b + body_len b rest ≤ length rest → body_len b (rest ++ more) ≡ body_len b rest
body_len-append true rest more h =
    ap (big_number 4) (drop-append-le 1 rest more (omega arith)) ∙ big_from-append 4 (drop 1 rest) more (omega (arith, length-drop 1 rest))
body_len-append false rest more h = get_or_append_left rest more 0 0 (omega arith)

is_long-append : (rest more : List ℕ) → 1 ≤ length rest → is_long (rest ++ more) ≡ is_long rest
is_long-append rest more h = ap (λ (n : ℕ). eqb n 255) (get_or_append_left rest more 0 0 (omega arith))

front_more : (b : Bool) (rest more : List ℕ) → head_len b + body_len b rest ≤ length rest → take (body_len b (rest ++ more)) (drop (head_len b) (rest ++ more)) ≡ take (body_len b rest) (drop (head_len b) rest)
front_more b rest more h =
    ap (λ (n : ℕ). take n (drop (head_len b) (rest ++ more))) (body_len-append b rest more h)
    ∙ ap (take (body_len b rest)) (drop-append-le (head_len b) rest more (omega arith))
    ∙ take-append-le (body_len b rest) (drop (head_len b) rest) more (omega (arith, length-drop (head_len b) rest))

-- the route at the front stays there
pub front-append : (rest more : List ℕ) → IsFront rest → front_of (rest ++ more) ≡ front_of rest
front-append rest more h =
    let some : 1 ≤ length rest = omega (arith, head_len-pos (is_long rest), h.room) in
    front_by (rest ++ more) (is_long rest) (is_long-append rest more some) ∙ front_more (is_long rest) rest more h.room ∙ sym (front_by rest (is_long rest) refl)

pub IsFront-append : (rest more : List ℕ) → IsFront rest → IsFront (rest ++ more)
IsFront-append rest more h =
    let some : 1 ≤ length rest = omega (arith, head_len-pos (is_long rest), h.room) in
    let same : body_len (is_long rest) (rest ++ more) ≡ body_len (is_long rest) rest = body_len-append (is_long rest) rest more h.room in
    let room : head_len (is_long rest) + body_len (is_long rest) (rest ++ more) ≤ length (rest ++ more) = omega (arith, same, length-append rest more, h.room) in
    record {
      room = subst (λ (b : Bool). head_len b + body_len b (rest ++ more) ≤ length (rest ++ more)) (sym (is_long-append rest more some)) room;
      packed = subst IsPacked (sym (front-append rest more h)) h.packed;
    }

-- a position with a route is in the block
named-lt : (bytes : List ℕ) (at : ℕ) → IsNamed bytes at → at < length bytes
named-lt bytes at h = omega (arith, head_len-pos (is_long (drop at bytes)), h.room, length-drop at bytes)

drop_more : (bytes more : List ℕ) (at : ℕ) → IsNamed bytes at → drop at (bytes ++ more) ≡ drop at bytes ++ more
drop_more bytes more at h = let lt : at < length bytes = named-lt bytes at h in drop-append-le at bytes more (omega arith)

pub IsNamed-append : (bytes more : List ℕ) (at : ℕ) → IsNamed bytes at → IsNamed (bytes ++ more) at
IsNamed-append bytes more at h = subst IsFront (sym (drop_more bytes more at h)) (IsFront-append (drop at bytes) more h)

pub route_at-append : (bytes more : List ℕ) (at : ℕ) → IsNamed bytes at → route_at (bytes ++ more) at ≡ route_at bytes at
unfolding route_at
route_at-append bytes more at h = ap unpacked (ap front_of (drop_more bytes more at h) ∙ front-append (drop at bytes) more h)

pub IsNamed-grown : (before after : List ℕ) (at : ℕ) → IsGrown before after → IsNamed before at → IsNamed after at
IsNamed-grown before after at g h = subst (λ (b : List ℕ). IsNamed b at) (sym g.parts) (IsNamed-append before g.more at h)

pub route_at-grown : (before after : List ℕ) (at : ℕ) → IsGrown before after → IsNamed before at → route_at after at ≡ route_at before at
route_at-grown before after at g h = ap (λ (b : List ℕ). route_at b at) g.parts ∙ route_at-append before g.more at h

pub AreSlots-grown : (before after : List ℕ) (slots : List IndexSlot) → IsGrown before after → AreSlots before slots → AreSlots after slots
AreSlots-grown before after slots g h = All-weaker (IsSlot before) (IsSlot after) (λ slot is some. IsNamed-grown before after slot.at g (is some)) slots h

-- ---- growth

pub grown_by : (before after more : List ℕ) → after ≡ before ++ more → IsGrown before after
grown_by before after more e = record { more = more; parts = e }

pub IsGrown-trans : (a b c : List ℕ) → IsGrown a b → IsGrown b c → IsGrown a c
IsGrown-trans a b c g h = record { more = g.more ++ h.more; parts = h.parts ∙ ap (λ (x : List ℕ). x ++ h.more) g.parts ∙ append_assoc a g.more h.more }

-- ---- a route that was written

made_front : (b : Bool) (rest route : List ℕ) → is_long rest ≡ b → head_len b + body_len b rest ≤ length rest → take (body_len b rest) (drop (head_len b) rest) ≡ route → IsPacked route → IsFront rest × (front_of rest ≡ route)
made_front b rest route e room is p =
    let front : front_of rest ≡ route = front_by rest b e ∙ is in
    (record { room = subst (λ (c : Bool). head_len c + body_len c rest ≤ length rest) (sym e) room; packed = subst IsPacked (sym front) p }, front)

all_taken : (n : ℕ) (route : List ℕ) → n ≡ length route → take n route ≡ route
all_taken n route e = ap (λ (k : ℕ). take k route) e ∙ take-length route

written_by : (b : Bool) (len : ℕ) (route : List ℕ) → nat_lt len 255 ≡ b → length route ≡ len → len < 2 ^ 32 → IsPacked route → IsFront ((cond b (len ∷ []) (255 ∷ big_bytes 4 len)) ++ route) × (front_of ((cond b (len ∷ []) (255 ∷ big_bytes 4 len)) ++ route) ≡ route)
written_by true len route e l fits p =
    let few : len < 255 = ltb-true len 255 e in
    let room : 1 + len ≤ length (len ∷ route) = omega arith in
    made_front false (len ∷ route) route (ne_eqb len 255 (λ same. omega arith)) room (all_taken len route (sym l)) p
written_by false len route e l fits p =
    let few : len < 256 ^ 4 = omega arith in
    let n : big_number 4 (big_bytes 4 len ++ route) ≡ len = big_number-reads_back 4 len route few in
    let room : 5 + big_number 4 (big_bytes 4 len ++ route) ≤ length (255 ∷ (big_bytes 4 len ++ route)) = omega (arith, n, length-append (big_bytes 4 len) route, length-bytes_high_first 4 len) in
    made_front true (255 ∷ (big_bytes 4 len ++ route)) route refl room (all_taken (big_number 4 (big_bytes 4 len ++ route)) route (n ∙ sym l)) p

-- its length and its bytes at the end of a block
pub written : (before after route : List ℕ) (at : ℕ) → at ≡ length before → after ≡ (before ++ head_of (length route)) ++ route → length route < 2 ^ 32 → IsPacked route → IsNamed after at × (route_at after at ≡ unpacked route)
unfolding route_at
written before after route at start e fits p =
    let w : IsFront (head_of (length route) ++ route) × (front_of (head_of (length route) ++ route) ≡ route) = written_by (nat_lt (length route) 255) (length route) route refl refl fits p in
    let there : drop at after ≡ head_of (length route) ++ route =
    ap (λ (k : ℕ). drop k after) start ∙ ap (drop (length before)) (e ∙ append_assoc before (head_of (length route)) route) ∙ drop-append_seam before (head_of (length route) ++ route) in
    (subst IsFront (sym there) w.0, ap unpacked (ap front_of there ∙ w.1))

-- what a slot that isn't empty names
pub slot_named : (bytes : List ℕ) (slots : List IndexSlot) (i : ℕ) (slot : IndexSlot) → AreSlots bytes slots → i < length slots → slot ≡ get_or slots i slot → slot.at ≢ 0 → IsNamed bytes slot.at
slot_named bytes slots i slot h lt e some = subst (λ (s : IndexSlot). IsSlot bytes s) (sym e) (h i slot lt) some
