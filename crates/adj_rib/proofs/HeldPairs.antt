-- The route of a key is r exactly where some step announces it with r and no later step speaks of it.
use Rattle.std.proofs.Common.{◌≡◌, ◌⊎◌, Bool, true, false, cond, List, [], ◌∷◌, Option, Some, None, refl, sym, ap, ◌∙◌, inl, inr}
use Rattle.std.specs.Prelude.{unwrap_or}
use Rattle.std.specs.List.{filter_map, cons_option, last_or, AllByRecursion}
use Rattle.std.proofs.lemmas.List.Elements.{filter_map-append}
use Rattle.bgp_prefix.specs.Keys.{key_eq}
use Rattle.bgp_prefix.specs.Keys.{RouteKey}
use Rattle.bgp_prefix.proofs.KeySearches.{same_key, key_itself}
use Rattle.bgp_update.specs.declared.route.Route.{Route}
use Rattle.adj_rib.specs.Steps.{Step, break, clear, announce, withdraw}
use Rattle.adj_rib.specs.Tables.{said_of, IsSilent, Holds, route_at}
use Rattle.adj_rib.proofs.TableLaws.{last_or-append}

module _ (p : RouteKey) (route : Route) where
  says_of_announce : (q : RouteKey) (r : Route) (b : Bool) → key_eq p q ≡ b → cond b (Some (Some r)) None ≡ Some (Some route) → announce q r ≡ announce p route
  says_of_announce q r true same e =
      let key : p ≡ q = same_key p q same in
      let value : r ≡ route = cc in
      λ i. announce (sym key i) (value i)
  says_of_announce q r false same e = absurd cc

  says_nothing : (b : Bool) → cond b (Some None) None ≡ Some (Some route) → ⊥
  says_nothing true e = cc
  says_nothing false e = cc

  says : (s : Step) → said_of p s ≡ Some (Some route) → s ≡ announce p route
  says break e = absurd cc
  says clear e = absurd cc
  says (withdraw q) e = absurd (says_nothing (key_eq p q) e)
  says (announce q r) e = says_of_announce q r (key_eq p q) refl e

  later : (s : Step) (steps : List Step) → Holds steps p route → Holds (s ∷ steps) p route
  later s steps h = record { before = s ∷ h.before; after = h.after; parts = ap (λ (t : List Step). s ∷ t) h.parts; silent = h.silent }

  found : (steps : List Step) (o : Option (Option Route)) → last_or o (filter_map (said_of p) steps) ≡ Some (Some route) → ((o ≡ Some (Some route)) × AllByRecursion (IsSilent p) steps) ⊎ Holds steps p route
  found [] o e = inl (e, tt)
  found (s ∷ steps) o e =
      elim (said_of p s) as (λ said. said_of p s ≡ said → last_or o (cons_option said (filter_map (said_of p) steps)) ≡ Some (Some route) → ((o ≡ Some (Some route)) × AllByRecursion (IsSilent p) (s ∷ steps)) ⊎ Holds (s ∷ steps) p route) [
        | None ↦ λ quiet f. elim (found steps o f) [
          | inl g ↦ inl (g.0, (quiet, g.1))
          | inr h ↦ inr (later s steps h)
        ]
        | Some x ↦ λ said f. elim (found steps (Some x) f) [
          | inl g ↦ inr (record { before = []; after = steps; parts = ap (λ (t : Step). t ∷ steps) (says s (said ∙ g.0)); silent = g.1 })
          | inr h ↦ inr (later s steps h)
        ]
      ] refl e

  said_is : (o : Option (Option Route)) → unwrap_or o None ≡ Some route → o ≡ Some (Some route)
  said_is None e = absurd cc
  said_is (Some x) e = ap (λ (y : Option Route). Some y) e

  -- a route that a key has is held
  pub Holds-from_route_at : (steps : List Step) → route_at steps p ≡ Some route → Holds steps p route
  Holds-from_route_at steps e =
      elim (found steps None (said_is (last_or None (filter_map (said_of p) steps)) e)) [
        | inl g ↦ let never : None ≡ Some (Some route) = g.0 in absurd cc
        | inr h ↦ h
      ]

  quiet : (steps : List Step) → AllByRecursion (IsSilent p) steps → filter_map (said_of p) steps ≡ []
  quiet [] h = refl
  quiet (s ∷ steps) h = ap (λ said. cons_option said (filter_map (said_of p) steps)) h.0 ∙ quiet steps h.1

  -- what is held is the route
  pub route_at-from_Holds : (steps : List Step) → Holds steps p route → route_at steps p ≡ Some route
  route_at-from_Holds steps h =
      ap (λ t. route_at t p) h.parts
      ∙ ap (λ said. unwrap_or (last_or None said) None) (filter_map-append (said_of p) h.before (announce p route ∷ h.after))
      ∙ ap (λ said. unwrap_or said None) (last_or-append None (filter_map (said_of p) h.before) (filter_map (said_of p) (announce p route ∷ h.after)))
      ∙ ap (λ b. unwrap_or (last_or (last_or None (filter_map (said_of p) h.before)) (cons_option (cond b (Some (Some route)) None) (filter_map (said_of p) h.after))) None) (key_itself p)
      ∙ ap (λ said. unwrap_or (last_or (last_or None (filter_map (said_of p) h.before)) (Some route ∷ said)) None) (quiet h.after h.silent)
