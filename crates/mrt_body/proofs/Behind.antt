-- What is left behind a reading is the end of what was read from.
use Rattle.std.proofs.Common.{◌≡◌, ℕ, ◌-◌, ◌≤◌, List, [], ◌∷◌, ◌++◌, length, take, drop, Ok, refl, sym, ap, subst, ◌∙◌, arith, append_assoc}
use Rattle.std.proofs.lemmas.List.{take-append-drop, length-append, drop_at}
use Rattle.mrt_frame.specs.declared.fault.Fault.{Fault}
use Rattle.mrt_frame.specs.Fields.{byte_at, number_at}
use Rattle.mrt_frame.proofs.Items.{ok_is}
use Rattle.mrt_frame.proofs.FieldLaws.{byte_at-takes, number_at-long}
use Rattle.mrt_body.proofs.ManyLaws.{done}

pub record Behind (bytes rest : List ℕ) : Type 0 where
  pub front : List ℕ
  pub parts : bytes ≡ front ++ rest

pub behind_all : (bytes : List ℕ) → Behind bytes bytes
behind_all bytes = record { front = []; parts = refl }

pub behind_more : (a b c : List ℕ) → Behind a b → Behind b c → Behind a c
behind_more a b c p q = record { front = p.front ++ q.front; parts = p.parts ∙ ap (λ (l : List ℕ). p.front ++ l) q.parts ∙ sym (append_assoc p.front q.front c) }

pub behind-le : (bytes rest : List ℕ) → Behind bytes rest → length rest ≤ length bytes
behind-le bytes rest p = omega (arith, ap length p.parts, length-append p.front rest)

-- it is found by its length
pub behind-drop : (bytes rest : List ℕ) → Behind bytes rest → drop (length bytes - length rest) bytes ≡ rest
behind-drop bytes rest p =
    let e : length bytes - length rest ≡ length p.front = omega (arith, ap length p.parts, length-append p.front rest) in
    ap (λ (n : ℕ). drop n bytes) e ∙ ap (drop (length p.front)) p.parts ∙ drop_at p.front rest (length p.front) refl

-- behind the first n bytes
pub behind_front : (n : ℕ) (bytes : List ℕ) → Behind bytes (drop n bytes)
behind_front n bytes = record { front = take n bytes; parts = sym (take-append-drop n bytes) }

pub number_behind : (fault : Fault) (n : ℕ) (bytes : List ℕ) (x : ℕ × List ℕ) → number_at fault n bytes ≡ Ok x → Behind bytes x.1
number_behind fault n bytes x e = subst (λ (l : List ℕ). Behind bytes l) (sym (number_at-long fault n bytes x e).1) (behind_front n bytes)

pub byte_behind : (fault : Fault) (bytes : List ℕ) (x : ℕ × List ℕ) → byte_at fault bytes ≡ Ok x → Behind bytes x.1
byte_behind fault bytes x e = record { front = x.0 ∷ []; parts = (byte_at-takes fault bytes x e).0 }

-- ---- readings one after the other

pub ok_behind : {B : Type 0} (b : B) (rest : List ℕ) (y : B × List ℕ) → done (b, rest) ≡ Ok y → Behind rest y.1
ok_behind {B} b rest y e = subst (λ (z : B × List ℕ). Behind rest z.1) (ok_is (b, rest) y e) (behind_all rest)
