-- Lists of entries as finite maps.
use Rattle.std.proofs.Common.{◌≡◌, List, Some, None, refl, sym, ap, ◌∙◌, Bool, true, false, not, cond}
use Rattle.std.specs.Cmp.{alike_right, eq_by_cmp_equiv}
use Rattle.std.specs.FinMap.Entries.{find-put, find-where_key, where_key}
use Rattle.std.specs.Ordering.{eq_by_cmp, is_eq}
use Rattle.std.specs.FinMap as finite
use Rattle.std.specs.FinMap.{get-from_entries, get-insert, get-remove, same_map, find, put}
use Rattle.bgp_prefix.specs.Keys.{key_cmp, Changes, RouteKey}
use Rattle.bgp_prefix.proofs.KeyLaws.{key_cmp_total, key_cmp_exact}

pub found : {V : Type 0} (es : List (RouteKey × V)) (key : RouteKey) → finite.get (finite.from_entries {R = key_cmp} es) key ≡ find key_cmp key es
found es key = get-from_entries key_cmp_total es key

pub inserted : {V : Type 0} (old new : List (RouteKey × V)) (key : RouteKey) (v : V) → Changes old new key (Some v) → finite.from_entries {R = key_cmp} new ≡ finite.insert (finite.from_entries old) key v
inserted old new key v is = same_map key_cmp_total key_cmp_exact _ _ (λ q. found new q ∙ is q ∙ ap (cond (eq_by_cmp key_cmp q key) (Some v)) (sym (found old q)) ∙ sym (get-insert key_cmp_total _ key v q))

pub removed : {V : Type 0} (old new : List (RouteKey × V)) (key : RouteKey) → Changes old new key None → finite.from_entries {R = key_cmp} new ≡ finite.remove (finite.from_entries old) key
removed old new key is = same_map key_cmp_total key_cmp_exact _ _ (λ q. found new q ∙ is q ∙ ap (cond (eq_by_cmp key_cmp q key) None) (sym (found old q)) ∙ sym (get-remove key_cmp_total _ key q))

turned : {A : Type 0} (b : Bool) (x y : A) → cond (not b) x y ≡ cond b y x
turned true x y = refl
turned false x y = refl

-- an entry put where its key belongs, and a key left out
pub Changes-put : {V : Type 0} (old new : List (RouteKey × V)) (key : RouteKey) (v : V) → new ≡ put key_cmp key v old → Changes old new key (Some v)
Changes-put old new key v is q = ap (find key_cmp q) is ∙ find-put key_cmp key_cmp_total q key v old

pub Changes-without : {V : Type 0} (old new : List (RouteKey × V)) (key : RouteKey) → new ≡ where_key key_cmp (λ x. not (eq_by_cmp key_cmp key x)) old → Changes old new key None
Changes-without old new key is q =
    ap (find key_cmp q) is
    ∙ find-where_key key_cmp (λ x. not (eq_by_cmp key_cmp key x)) q (λ x t. ap (λ r. not (is_eq r)) (sym (alike_right key_cmp_total q x key t))) old
    ∙ turned (eq_by_cmp key_cmp key q) _ _
    ∙ ap (λ b. cond b None (find key_cmp q old)) ((eq_by_cmp_equiv key_cmp_total).symm key q)
