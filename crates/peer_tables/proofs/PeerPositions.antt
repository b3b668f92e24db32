-- The positions of peers among different ones.
use Rattle.std.proofs.Common.{◌≡◌, ℕ, zero, suc, ◌+◌, ◌||◌, ◌&&◌, ◌==◌, ◌⊎◌, inl, inr, not, Bool, true, false, cond, if◌then◌else◌, List, [], ◌∷◌, ◌++◌, length, Option, Some, None, refl, sym, ap, ◌∙◌, subst, arith}
use Rattle.std.specs.Prelude.{slice_get, unwrap_or}
use Rattle.std.specs.List.{list_any, position_or_len, prefix_len}
use Rattle.std.proofs.lemmas.List.{append-nil}
use Rattle.std.proofs.lemmas.Bool.{eq-eqb, and_from}
use Rattle.std.proofs.Math.Bool.{or-true}
use Rattle.std.proofs.lemmas.List.Folds.{list_any-append}
use Rattle.peer_units.specs.declared.unit.PeerAddr.{PeerAddr}
use Rattle.peer_units.specs.declared.unit.PeerAddr.TheVariants.{V4, V6}
use Rattle.peer_units.specs.declared.unit.PeerKey.{PeerKey}
use Rattle.peer_units.specs.contracts.unit.PeerAddrPartialEq.TheImpl as addr_impl
use Rattle.peer_units.specs.contracts.unit.PeerKeyPartialEq.TheImpl as key_impl
use Rattle.peer_tables.specs.Peers.{peer_eq, addr_eq}
use Rattle.peer_tables.specs.Numbers.{AreApart, FindsIndexIn, NumbersPeer, number_in}
use Rattle.peer_tables.proofs.ShareLaws.{same_peer}

-- ---- equality of peers

addr_itself : (a : PeerAddr) → addr_eq a a ≡ true
addr_itself (V4 a) = eq-eqb a a refl
addr_itself (V6 a) = eq-eqb a a refl

pub peer_itself : (p : PeerKey) → peer_eq p p ≡ true
peer_itself p = and_from _ _ (eq-eqb p.asn p.asn refl) (addr_itself p.addr)

-- equal peers are equal to the same ones
pub other_peer : (p q : PeerKey) → peer_eq p q ≡ false → peer_eq q p ≡ false
other_peer p q e =
    elim (peer_eq q p) as (λ b. peer_eq q p ≡ b → b ≡ false) [
      | true ↦ λ same. let clash : false ≡ true = sym e ∙ subst (λ r. peer_eq p r ≡ true) (sym (same_peer q p same)) (peer_itself p) in cc
      | false ↦ λ apart. refl
    ] refl

-- ---- positions

pub first_position : {X : Type 0} (p : X → Bool) (xs ys : List X) → list_any p xs ≡ true → position_or_len p (xs ++ ys) ≡ position_or_len p xs
first_position p [] ys e = cc
first_position p (x ∷ xs) ys e =
    elim (p x) as (λ b. (b || list_any p xs) ≡ true → cond (not b) (1 + prefix_len (λ x. not (p x)) (xs ++ ys)) 0 ≡ cond (not b) (1 + prefix_len (λ x. not (p x)) xs) 0) [
      | true ↦ λ _. refl
      | false ↦ λ later. ap (λ n. 1 + n) (first_position p xs ys later)
    ] e

-- a peer that differs from these is behind them
pub place_behind : (ps : List PeerKey) (q : PeerKey) (rest : List PeerKey) → list_any (peer_eq q) ps ≡ false → position_or_len (peer_eq q) (ps ++ q ∷ rest) ≡ length ps
place_behind [] q rest e = ap (λ b. cond (not b) (1 + prefix_len (λ x. not (peer_eq q x)) rest) 0) (peer_itself q)
place_behind (p ∷ ps) q rest e =
    elim (peer_eq q p) as (λ b. (b || list_any (peer_eq q) ps) ≡ false → cond (not b) (1 + prefix_len (λ x. not (peer_eq q x)) (ps ++ q ∷ rest)) 0 ≡ length (p ∷ ps)) [
      | true ↦ λ clash. cc
      | false ↦ λ other. ap (λ n. 1 + n) (place_behind ps q rest other) ∙ omega arith
    ] e

pub some_is : {A : Type 0} (x y : A) → Some x ≡ Some y → x ≡ y
some_is x y e = ap (λ o. unwrap_or o x) e

-- an item of a list with one more
pub split_get : {X : Type 0} (xs : List X) (y : X) (i : ℕ) (x : X) → slice_get (xs ++ y ∷ []) i ≡ Some x → (slice_get xs i ≡ Some x) ⊎ ((i ≡ length xs) × (y ≡ x))
split_get [] y zero x e = inr (refl, some_is y x e)
split_get [] y (suc i) x e = cc
split_get (z ∷ xs) y zero x e = inl e
split_get (z ∷ xs) y (suc i) x e =
    elim (split_get xs y i x e) [ inl h ↦ inl h | inr h ↦ inr (let at = h.0 in omega arith, h.1) ]

-- a peer that stands somewhere is listed
pub listed_at : (keys : List PeerKey) (n : ℕ) (q : PeerKey) → slice_get keys n ≡ Some q → list_any (peer_eq q) keys ≡ true
listed_at [] n q e = cc
listed_at (k ∷ keys) zero q e = ap (λ b. b || list_any (peer_eq q) keys) (ap (peer_eq q) (some_is k q e) ∙ peer_itself q)
listed_at (k ∷ keys) (suc n) q e = ap (λ b. peer_eq q k || b) (listed_at keys n q e) ∙ or-true (peer_eq q k)

-- what passes somewhere stands at its first position
pub position_gets : {X : Type 0} (p : X → Bool) (xs : List X) → list_any p xs ≡ true → (x : X) × (slice_get xs (position_or_len p xs) ≡ Some x) × (p x ≡ true)
position_gets p [] e = absurd (cc)
position_gets p (x ∷ xs) e =
    elim (p x) as (λ b. p x ≡ b → (b || list_any p xs) ≡ true → (y : _) × (slice_get (x ∷ xs) (cond (not b) (1 + prefix_len (λ z. not (p z)) xs) 0) ≡ Some y) × (p y ≡ true)) [
      | true ↦ λ here _. (x, refl, here)
      | false ↦ λ _ later.
          let h = position_gets p xs later in (
            h.0,
            subst (λ n. slice_get (x ∷ xs) n ≡ Some h.0) {x = suc (prefix_len (λ z. not (p z)) xs)} {y = 1 + prefix_len (λ z. not (p z)) xs} (omega arith) h.1,
            h.2,
          )
    ] refl e

pub listed_gets : (keys : List PeerKey) (q : PeerKey) → list_any (peer_eq q) keys ≡ true → slice_get keys (number_in keys q) ≡ Some q
listed_gets keys q e =
    let h = position_gets (peer_eq q) keys e in
    h.1 ∙ ap (λ k. Some k) (sym (same_peer q h.0 h.2))

pub number_found : (keys : List PeerKey) (q : PeerKey) (n : ℕ) → AreApart keys → slice_get keys n ≡ Some q → NumbersPeer keys keys q n
number_found keys q n apart at =
    record {
      number_is = sym (apart n q at);
      keys = sym (append-nil keys) ∙ ap (λ b. keys ++ (if b then [] else q ∷ [])) (sym (listed_at keys n q at));
    }

pub number_new : (keys after : List PeerKey) (q : PeerKey) (n : ℕ) → list_any (peer_eq q) keys ≡ false → after ≡ keys ++ q ∷ [] → n ≡ length keys → NumbersPeer keys after q n
number_new keys after q n new e is =
    record {
      number_is = is ∙ sym (place_behind keys q [] new) ∙ ap (λ l. number_in l q) (sym e);
      keys = e ∙ ap (λ b. keys ++ (if b then [] else q ∷ [])) (sym new);
    }

apart_more : (keys : List PeerKey) (q : PeerKey) → AreApart keys → list_any (peer_eq q) keys ≡ false → AreApart (keys ++ q ∷ [])
apart_more keys q apart new n k at =
    elim (split_get keys q n k at) [
      | inl h ↦ first_position (peer_eq k) keys (q ∷ []) (listed_at keys n k h) ∙ apart n k h
      | inr h ↦ subst (λ p. position_or_len (peer_eq p) (keys ++ q ∷ []) ≡ n) h.1 (place_behind keys q [] new ∙ sym h.0)
    ]

pub apart_new : (keys after : List PeerKey) (q : PeerKey) → AreApart keys → list_any (peer_eq q) keys ≡ false → after ≡ keys ++ q ∷ [] → AreApart after
apart_new keys after q apart new e = subst AreApart (sym e) (apart_more keys q apart new)

-- ---- the numbers that are looked up

abbrev key_eq : PeerKey → PeerKey → Bool
key_eq = key_impl.eq-value.it

same_addrs : (a b : PeerAddr) → addr_impl.eq-value.it a b ≡ addr_eq a b
same_addrs (V4 a) (V4 b) = refl
same_addrs (V4 a) (V6 b) = refl
same_addrs (V6 a) (V4 b) = refl
same_addrs (V6 a) (V6 b) = refl

-- the derived comparison is that of the definitions
same_keys : (a b : PeerKey) → key_eq a b ≡ peer_eq a b
same_keys a b = ap (λ t. (a.asn == b.asn) && t) (same_addrs a.addr b.addr)

key_same : (a b : PeerKey) → key_eq a b ≡ true → a ≡ b
key_same a b e = same_peer a b (sym (same_keys a b) ∙ e)

key_itself : (a : PeerKey) → key_eq a a ≡ true
key_itself a = same_keys a a ∙ peer_itself a

get_last : {X : Type 0} (xs : List X) (x : X) → slice_get (xs ++ x ∷ []) (length xs) ≡ Some x
get_last [] x = refl
get_last (y ∷ xs) x = ap (slice_get (y ∷ (xs ++ x ∷ []))) {x = length (y ∷ xs)} {y = suc (length xs)} (omega arith) ∙ get_last xs x

get_front : {X : Type 0} (xs : List X) (x : X) (n : ℕ) (y : X) → slice_get xs n ≡ Some y → slice_get (xs ++ x ∷ []) n ≡ Some y
get_front [] x n y e = absurd cc
get_front (z ∷ xs) x zero y e = e
get_front (z ∷ xs) x (suc n) y e = get_front xs x n y e

-- a peer that is not found is not listed
pub none_listed : (find : PeerKey → Option ℕ) (keys : List PeerKey) (q : PeerKey) → FindsIndexIn find keys → find q ≡ None → list_any (peer_eq q) keys ≡ false
none_listed find keys q listed e =
    elim (list_any (peer_eq q) keys) as (λ b. list_any (peer_eq q) keys ≡ b → b ≡ false) [
      | true ↦ λ any. (let clash : None ≡ Some (number_in keys q) = sym e ∙ (listed q (number_in keys q)).1 (listed_gets keys q any) in absurd cc)
      | false ↦ λ _. refl
    ] refl

-- a peer that is not listed is not found
none_found : (find : PeerKey → Option ℕ) (keys : List PeerKey) (q : PeerKey) (o : Option ℕ) → FindsIndexIn find keys → list_any (peer_eq q) keys ≡ false → find q ≡ o → find q ≡ None
none_found find keys q None listed e is = is
none_found find keys q (Some n) listed e is = let clash : false ≡ true = sym e ∙ listed_at keys n q ((listed q n).0 is) in absurd cc

-- what is looked up, with one peer more
module _ (old new : PeerKey → Option ℕ) (keys : List PeerKey) (k : PeerKey) (listed : FindsIndexIn old keys) (absent : old k ≡ None)
    (updates : (q : PeerKey) → new q ≡ cond (key_eq k q) (Some (length keys)) (old q)) where
  listed_to : (p : PeerKey) (n : ℕ) → new p ≡ Some n → slice_get (keys ++ k ∷ []) n ≡ Some p
  listed_to p n e =
      elim (key_eq k p) as (λ b. key_eq k p ≡ b → cond b (Some (length keys)) (old p) ≡ Some n → slice_get (keys ++ k ∷ []) n ≡ Some p) [
        | true ↦ λ same is.
            let at : length keys ≡ n = some_is (length keys) n is in
            subst (λ m. slice_get (keys ++ k ∷ []) m ≡ Some p) at (get_last keys k ∙ ap (λ q. Some q) (key_same k p same))
        | false ↦ λ _ is. get_front keys k n p ((listed p n).0 is)
      ] refl (sym (updates p) ∙ e)

  listed_from : (p : PeerKey) (n : ℕ) → slice_get (keys ++ k ∷ []) n ≡ Some p → new p ≡ Some n
  listed_from p n e = elim (split_get keys k n p e) [
    | inl h ↦
        let was : old p ≡ Some n = (listed p n).1 h in
        elim (key_eq k p) as (λ b. key_eq k p ≡ b → new p ≡ Some n) [
          | true ↦ λ same.
              let clash : None ≡ Some n = sym absent ∙ ap old (key_same k p same) ∙ was in
              absurd cc
          | false ↦ λ apart. updates p ∙ ap (λ b. cond b (Some (length keys)) (old p)) apart ∙ was
        ] refl
    | inr h ↦
        updates p ∙ ap (λ b. cond b (Some (length keys)) (old p)) (ap (key_eq k) (sym h.1) ∙ key_itself k) ∙ ap (λ m. Some m) (sym h.0)
  ]

-- a new peer is listed behind the others
pub listed_new : (keys after : List PeerKey) (k : PeerKey) (n : ℕ) → n ≡ length keys → (old new : PeerKey → Option ℕ) → FindsIndexIn old keys → list_any (peer_eq k) keys ≡ false
    → ((q : PeerKey) → new q ≡ cond (key_eq k q) (Some n) (old q)) → after ≡ keys ++ k ∷ [] → FindsIndexIn new after
listed_new keys after k n is old new listed apart updates grown =
    let absent = none_found old keys k (old k) listed apart refl in
    let updated : (q : PeerKey) → new q ≡ cond (key_eq k q) (Some (length keys)) (old q) = λ q. updates q ∙ ap (λ m. cond (key_eq k q) (Some m) (old q)) is in
    subst (FindsIndexIn new) (sym grown) (λ p m. (listed_to old new keys k listed absent updated p m, listed_from old new keys k listed absent updated p m))

-- ---- peers with numbers

-- it is listed
pub listed_now : (keys keys' : List PeerKey) (q : PeerKey) (n : ℕ) → NumbersPeer keys keys' q n → list_any (peer_eq q) keys' ≡ true
listed_now keys keys' q n p =
    ap (list_any (peer_eq q)) p.keys
    ∙ elim (list_any (peer_eq q) keys) as (λ b. list_any (peer_eq q) keys ≡ b → list_any (peer_eq q) (keys ++ (if b then [] else q ∷ [])) ≡ true) [
      | true ↦ λ e. ap (list_any (peer_eq q)) (append-nil keys) ∙ e
      | false ↦ λ e. list_any-append (peer_eq q) keys (q ∷ []) ∙ ap (λ b. list_any (peer_eq q) keys || (b || false)) (peer_itself q) ∙ or-true (list_any (peer_eq q) keys)
    ] refl

-- a peer stands at its number
pub stands_at : (keys keys' : List PeerKey) (q : PeerKey) (n : ℕ) → NumbersPeer keys keys' q n → slice_get keys' n ≡ Some q
stands_at keys keys' q n p = ap (slice_get keys') p.number_is ∙ listed_gets keys' q (listed_now keys keys' q n p)

-- behind those that were there, if it is new
pub grown_by : (keys keys' : List PeerKey) (q : PeerKey) (n : ℕ) → NumbersPeer keys keys' q n → list_any (peer_eq q) keys ≡ false → keys' ≡ keys ++ q ∷ []
grown_by keys keys' q n p new = p.keys ∙ ap (λ b. keys ++ (if b then [] else q ∷ [])) new
