-- A finite map from keys with each value mapped.
use Rattle.std.specs.Prelude.{List, map}
use Rattle.std.specs.FinMap as finite
use Rattle.bgp_prefix.specs.Keys.{key_cmp}
use Rattle.bgp_prefix.specs.Keys.{RouteKey}

abbrev pub mapped_entries : {A B : Type 0} → (A → B) → List (RouteKey × A) → List (RouteKey × B)
mapped_entries f es = map (λ e. (e.0, f e.1)) es

-- the same keys, with what f makes of their values
unfoldable pub map_values : {A B : Type 0} → (A → B) → finite.FinMap key_cmp A → finite.FinMap key_cmp B
map_values f m = finite.from_sorted (mapped_entries f (finite.entries m))

-- one more entry
abbrev pub put_entry : {A : Type 0} → finite.FinMap key_cmp A → RouteKey × A → finite.FinMap key_cmp A
put_entry m e = finite.insert m e.0 e.1
