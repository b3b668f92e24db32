-- Units that are alike but for their places, and the peers of units that go on.
use Rattle.std.proofs.Common.{◌≡◌, ℕ, Bool, true, false, cond, ◌||◌, List, [], ◌∷◌, ◌++◌, map, Option, None, refl, sym, ap, ◌∙◌, append_assoc, append-nil}
use Rattle.std.specs.Prelude.{unwrap_or}
use Rattle.std.specs.List.{filter_map, cons_option, last_or, list_any, AllByRecursion}
use Rattle.std.proofs.lemmas.List.{map-append}
use Rattle.std.proofs.lemmas.List.Folds.{list_any-append}
use Rattle.mrt_frame.specs.Positions.{flat_map_after}
use Rattle.peer_units.specs.declared.state_rule.StateRule.{StateRule}
use Rattle.peer_units.specs.declared.unit.PeerKey.{PeerKey}
use Rattle.peer_units.specs.Plain.{Unit as ReplayUnit}
use Rattle.peer_units.specs.States.{up_by, established_by}
use Rattle.adj_rib.specs.Steps.{Step, state_says, is_up, is_established, unit_steps, steps_of}
use Rattle.adj_rib.specs.Tables.{table_of}
use Rattle.adj_rib.proofs.Positions.{after_both}
use Rattle.peer_tables.specs.Peers.{peer_eq, peers_of, units_of_peer}
use Rattle.peer_tables.proofs.ShareLaws.{same_peer}
use Rattle.table_dumps.specs.Checkpoints.{Apart}
use Rattle.table_dumps.specs.Resuming.{LeaveAlike, forget}
use Rattle.table_dumps.proofs.PeersLaws.{peer_swap, newcomer, has_been}

-- ---- beginnings that leave a peer alike

pub alike_other : (xs ys : List ReplayUnit) → LeaveAlike xs ys → LeaveAlike ys xs
alike_other xs ys h = record { up = sym h.up; established = sym h.established; table = sym h.table }

pub alike_both : (xs ys zs : List ReplayUnit) → LeaveAlike xs ys → LeaveAlike ys zs → LeaveAlike xs zs
alike_both xs ys zs h k = record { up = h.up ∙ k.up; established = h.established ∙ k.established; table = h.table ∙ k.table }

pub alike_same : (xs ys : List ReplayUnit) → xs ≡ ys → LeaveAlike xs ys
alike_same xs ys e = record { up = ap is_up e; established = ap is_established e; table = ap (λ (units : List ReplayUnit). table_of (steps_of units)) e }

-- ---- places

abbrev said : (StateRule → ℕ → ℕ → Option Bool) → List ReplayUnit → List Bool
said says units = filter_map (λ u. state_says says u.payload) units

said_forgotten : (says : StateRule → ℕ → ℕ → Option Bool) (units : List ReplayUnit) → said says (map forget units) ≡ said says units
said_forgotten says [] = refl
said_forgotten says (u ∷ units) = ap (λ (l : List Bool). cons_option (state_says says u.payload) l) (said_forgotten says units)

up_forgotten : (units : List ReplayUnit) → is_up (map forget units) ≡ is_up units
up_forgotten units = ap (λ (l : List Bool). unwrap_or (last_or None l) true) (said_forgotten up_by units)

established_forgotten : (units : List ReplayUnit) → is_established (map forget units) ≡ is_established units
established_forgotten units = ap (λ (l : List Bool). unwrap_or (last_or None l) true) (said_forgotten established_by units)

forget_more : (before : List ReplayUnit) (u : ReplayUnit) → map forget (before ++ u ∷ []) ≡ map forget before ++ forget u ∷ []
forget_more before u = map-append forget before (u ∷ [])

steps_forgotten : (before units : List ReplayUnit) → flat_map_after (λ b unit. unit_steps (is_up b) unit) (map forget before) (map forget units) ≡ flat_map_after (λ b unit. unit_steps (is_up b) unit) before units
unfolding unit_steps
steps_forgotten before [] = refl
steps_forgotten before (u ∷ units) =
    (λ i. unit_steps (up_forgotten before i) u ++ flat_map_after (λ b unit. unit_steps (is_up b) unit) (sym (forget_more before u) i) (map forget units))
    ∙ ap (λ (l : List Step). unit_steps (is_up before) u ++ l) (steps_forgotten (before ++ u ∷ []) units)

pub alike_forgotten : (units : List ReplayUnit) → LeaveAlike (map forget units) units
unfolding steps_of
alike_forgotten units = record {
  up = up_forgotten units;
  established = established_forgotten units;
  table = ap table_of (steps_forgotten [] units);
}

pub own_forgotten : (units : List ReplayUnit) (q : PeerKey) → units_of_peer (map forget units) q ≡ map forget (units_of_peer units q)
own_forgotten [] q = refl
own_forgotten (u ∷ units) q = by_test (peer_eq u.peer q) (own_forgotten units q)
  where
    by_test : (b : Bool) → units_of_peer (map forget units) q ≡ map forget (units_of_peer units q)
        → cond b (forget u ∷ units_of_peer (map forget units) q) (units_of_peer (map forget units) q) ≡ map forget (cond b (u ∷ units_of_peer units q) (units_of_peer units q))
    by_test true more = ap (λ (l : List ReplayUnit). forget u ∷ l) more
    by_test false more = more

been_forgotten : (units : List ReplayUnit) (k : PeerKey) → has_been (map forget units) k ≡ has_been units k
been_forgotten [] k = refl
been_forgotten (u ∷ units) k = ap (λ (b : Bool). peer_eq u.peer k || b) (been_forgotten units k)

peers_forgotten : (before units : List ReplayUnit) → flat_map_after newcomer (map forget before) (map forget units) ≡ flat_map_after newcomer before units
peers_forgotten before [] = refl
peers_forgotten before (u ∷ units) =
    (λ i. cond (been_forgotten before u.peer i) [] (u.peer ∷ []) ++ flat_map_after newcomer (sym (forget_more before u) i) (map forget units))
    ∙ ap (λ (l : List PeerKey). newcomer before u ++ l) (peers_forgotten (before ++ u ∷ []) units)

pub peers_but_places : (units : List ReplayUnit) → peers_of (map forget units) ≡ peers_of units
unfolding peers_of
peers_but_places units = peers_forgotten [] units

-- ---- peers that have been there

abbrev listed : List PeerKey → PeerKey → Bool
listed keys k = list_any (λ (q : PeerKey). peer_eq q k) keys

or_assoc : (a b c : Bool) → (a || (b || c)) ≡ ((a || b) || c)
or_assoc true b c = refl
or_assoc false b c = refl

or_false : (a : Bool) → (a || false) ≡ a
or_false true = refl
or_false false = refl

or_itself : (a b : Bool) → (b ≡ true → a ≡ true) → (a || b) ≡ a
or_itself true b h = refl
or_itself false true h = sym (h refl)
or_itself false false h = refl

been_or_new : (before units : List ReplayUnit) (k : PeerKey) → has_been (before ++ units) k ≡ (has_been before k || listed (flat_map_after newcomer before units) k)
been_or_new before [] k = ap (λ (us : List ReplayUnit). has_been us k) (append-nil before) ∙ sym (or_false (has_been before k))
been_or_new before (u ∷ units) k =
    let later = listed (flat_map_after newcomer (before ++ u ∷ []) units) k in
    ap (λ (us : List ReplayUnit). has_been us k) (sym (append_assoc before (u ∷ []) units))
    ∙ been_or_new (before ++ u ∷ []) units k
    ∙ ap (λ (b : Bool). b || later) (list_any-append (λ (x : ReplayUnit). peer_eq x.peer k) before (u ∷ []) ∙ ap (λ (b : Bool). has_been before k || b) (or_false (peer_eq u.peer k)))
    ∙ by_new (has_been before u.peer) refl
  where
    by_new : (b : Bool) → has_been before u.peer ≡ b
        → ((has_been before k || peer_eq u.peer k) || listed (flat_map_after newcomer (before ++ u ∷ []) units) k) ≡ (has_been before k || listed (cond b [] (u.peer ∷ []) ++ flat_map_after newcomer (before ++ u ∷ []) units) k)
    by_new false e = sym (or_assoc (has_been before k) (peer_eq u.peer k) (listed (flat_map_after newcomer (before ++ u ∷ []) units) k))
    by_new true e =
        ap (λ (b : Bool). b || listed (flat_map_after newcomer (before ++ u ∷ []) units) k)
        (or_itself (has_been before k) (peer_eq u.peer k) (λ t. ap (has_been before) (sym (same_peer u.peer k t)) ∙ e))

pub been_listed : (units : List ReplayUnit) (k : PeerKey) → has_been units k ≡ listed (peers_of units) k
unfolding peers_of
been_listed units k = been_or_new [] units k

been_both : (xs ys : List ReplayUnit) (u : ReplayUnit) (k : PeerKey) → has_been xs k ≡ has_been ys k → has_been (xs ++ u ∷ []) k ≡ has_been (ys ++ u ∷ []) k
been_both xs ys u k e =
    list_any-append (λ (x : ReplayUnit). peer_eq x.peer k) xs (u ∷ [])
    ∙ ap (λ (b : Bool). b || has_been (u ∷ []) k) e
    ∙ sym (list_any-append (λ (x : ReplayUnit). peer_eq x.peer k) ys (u ∷ []))

new_alike : (xs ys more : List ReplayUnit) → ((k : PeerKey) → has_been xs k ≡ has_been ys k) → flat_map_after newcomer xs more ≡ flat_map_after newcomer ys more
new_alike xs ys [] same = refl
new_alike xs ys (u ∷ more) same =
    λ i. cond (same u.peer i) [] (u.peer ∷ []) ++ new_alike (xs ++ u ∷ []) (ys ++ u ∷ []) more (λ k. been_both xs ys u k (same k)) i

-- units that go on bring the same peers behind beginnings of the same peers
pub peers_go_on : (xs ys more : List ReplayUnit) → peers_of xs ≡ peers_of ys → peers_of (xs ++ more) ≡ peers_of (ys ++ more)
unfolding peers_of
peers_go_on xs ys more e =
    after_both newcomer [] xs more
    ∙ (λ i. e i ++ new_alike xs ys more (λ k. been_listed xs k ∙ ap (λ (keys : List PeerKey). listed keys k) e ∙ sym (been_listed ys k)) i)
    ∙ sym (after_both newcomer [] ys more)

-- a peer that has no unit
pub none_own : (units : List ReplayUnit) (q : PeerKey) → has_been units q ≡ false → units_of_peer units q ≡ []
none_own [] q h = refl
none_own (u ∷ units) q h = by_test (peer_eq u.peer q) h (none_own units q)
  where
    by_test : (b : Bool) → (b || has_been units q) ≡ false → (has_been units q ≡ false → units_of_peer units q ≡ []) → cond b (u ∷ units_of_peer units q) (units_of_peer units q) ≡ []
    by_test true f more = absurd cc
    by_test false f more = more f

-- ---- no peer twice

or_parts : (a b : Bool) → (a || b) ≡ false → (a ≡ false) × (b ≡ false)
or_parts true b e = absurd cc
or_parts false b e = (refl, e)

new_apart : (before units : List ReplayUnit) → Apart (flat_map_after newcomer before units) × AllByRecursion (λ (k : PeerKey). has_been before k ≡ false) (flat_map_after newcomer before units)
new_apart before [] = (tt, tt)
new_apart before (u ∷ units) = by_new (has_been before u.peer) refl (new_apart (before ++ u ∷ []) units)
  where
    parts : (k : PeerKey) → has_been (before ++ u ∷ []) k ≡ false → (has_been before k ≡ false) × (peer_eq k u.peer ≡ false)
    parts k e =
        let both = or_parts (has_been before k) (has_been (u ∷ []) k) (sym (list_any-append (λ (x : ReplayUnit). peer_eq x.peer k) before (u ∷ [])) ∙ e) in
        (both.0, peer_swap k u.peer ∙ (or_parts (peer_eq u.peer k) false both.1).0)

    earlier : (ks : List PeerKey) → AllByRecursion (λ (k : PeerKey). has_been (before ++ u ∷ []) k ≡ false) ks → AllByRecursion (λ (k : PeerKey). has_been before k ≡ false) ks
    earlier [] h = tt
    earlier (k ∷ ks) h = ((parts k h.0).0, earlier ks h.1)

    others : (ks : List PeerKey) → AllByRecursion (λ (k : PeerKey). has_been (before ++ u ∷ []) k ≡ false) ks → AllByRecursion (λ (k : PeerKey). peer_eq k u.peer ≡ false) ks
    others [] h = tt
    others (k ∷ ks) h = ((parts k h.0).1, others ks h.1)

    by_new : (b : Bool) → has_been before u.peer ≡ b → Apart (flat_map_after newcomer (before ++ u ∷ []) units) × AllByRecursion (λ (k : PeerKey). has_been (before ++ u ∷ []) k ≡ false) (flat_map_after newcomer (before ++ u ∷ []) units)
        → Apart (cond b [] (u.peer ∷ []) ++ flat_map_after newcomer (before ++ u ∷ []) units) × AllByRecursion (λ (k : PeerKey). has_been before k ≡ false) (cond b [] (u.peer ∷ []) ++ flat_map_after newcomer (before ++ u ∷ []) units)
    by_new true e more = (more.0, earlier (flat_map_after newcomer (before ++ u ∷ []) units) more.1)
    by_new false e more = (
      (others (flat_map_after newcomer (before ++ u ∷ []) units) more.1, more.0),
      (e, earlier (flat_map_after newcomer (before ++ u ∷ []) units) more.1),
    )

pub peers_apart : (units : List ReplayUnit) → Apart (peers_of units)
unfolding peers_of
peers_apart units = (new_apart [] units).0
