-- What the dealer did, unit by unit.
use Rattle.std.proofs.Common.{◌≡◌, ℕ, ◌+◌, ◌-◌, ◌^◌, ◌≤◌, ◌<◌, ◌||◌, true, false, eqb, if◌then◌else◌, List, [], ◌∷◌, ◌++◌, length, map, take, drop, Option, Some, None, Ok, Err, refl, sym, ap, ◌∙◌, subst, append_assoc, arith, length-append}
use Rattle.std.specs.Prelude.{option_to_list, min, IfOk, IfSome, Result}
use Rattle.std.specs.Option.{is_some}
use Rattle.std.specs.List.{list_any, filter_map, AllByRecursion}
use Rattle.std.proofs.lemmas.List.{append-nil, length-map, map-append}
use Rattle.std.proofs.Math.Seq.{take-append_seam}
use Rattle.std.proofs.lemmas.List.Elements.{filter_map-append, filter-append}
use Rattle.std.proofs.lemmas.List.Sums.{length-filter, count_by-le-length}
use Rattle.std.proofs.lemmas.List.Folds.{list_any-append}
use Rattle.std.proofs.Math.Bool.{or-true}
use Rattle.mrt_frame.specs.declared.error.ReplayError.{ReplayError}
use Rattle.peer_units.specs.declared.unit.Damage.{Damage}
use Rattle.peer_units.specs.Plain.{Found, Unit as ReplayUnit}
use Rattle.peer_units.specs.declared.unit.Found.TheVariants as found
use Rattle.peer_units.specs.declared.unit.PeerKey.{PeerKey}
use Rattle.mrt_body.specs.Units.{unit_of, damage_of}
use Rattle.mrt_frame.specs.declared.read_state.ReadState.TheVariants as states
use Rattle.mrt_body.specs.ToCome.{UnitsState, GivesPending, as_found}
use Rattle.peer_tables.specs.Peers.{peer_eq, peers_of}
use Rattle.lane_deal.specs.Dealers.{Dealer}
use Rattle.unit_rings.specs.Plain.{PeerUnit}
use Rattle.lane_deal.specs.declared.step.Step.{Step}
use Rattle.lane_deal.specs.declared.step.Step.TheVariants.{Blocked, FullBatch, End}
use Rattle.lane_deal.specs.Asking.{TakesUnits, GivesAll, as_refused, Asked, AskedInVain}
use Rattle.lane_deal.specs.DealerSteps.{Handles, HandsOn, DealsUnit, DealsBlocked, DealsFront, IsFull, StopsDealing, Deals, DealsTo}
use Rattle.lane_deal.specs.LaneSenders.{in_lane}
use Rattle.lane_deal.specs.ToDeal.{to_deal}
use Rattle.peer_tables.specs.Numbers.{NumbersPeer, number_in}
use Rattle.lane_deal.specs.Numbers.{with_number, with_numbers}
use Rattle.lane_deal.proofs.Asking.{all_units, TakesUnits-none, TakesUnits-more, TakesUnits-pending, front_from_takes, front_more, behind_more}
use Rattle.lane_deal.proofs.Numbering.{unlisted}
use Rattle.peer_tables.proofs.PeerPositions.{listed_now, peer_itself, first_position}
use Rattle.unit_rings.proofs.Lists.{all_more, all_push}
use Rattle.lane_deal.proofs.Peers.{is_seen, new_peer, peers_of-append, listed_peer}

abbrev Known : Type 0
Known = List (Option (List ℕ))

-- ---- refusals

pub no_units : (listed : List Damage) → filter_map unit_of (as_refused listed) ≡ []
no_units [] = refl
no_units (d ∷ listed) = no_units listed

pub all_damage : (listed : List Damage) → filter_map damage_of (as_refused listed) ≡ listed
all_damage [] = refl
all_damage (d ∷ listed) = ap (λ l. d ∷ l) (all_damage listed)

-- ---- what was to be dealt

to_deal-more : (blocked_unit : Option ReplayUnit) (a b : List Found) → to_deal blocked_unit (a ++ b) ≡ to_deal blocked_unit a ++ b
to_deal-more blocked_unit a b = sym (append_assoc (map (λ u. found.Unit u) (option_to_list blocked_unit)) a b)

pub in_order : (k₀ k₁ : Option ReplayUnit) (g₁ g₂ d₁ d₂ : List Found) → to_deal k₀ g₁ ≡ d₁ ++ to_deal k₁ [] → to_deal k₁ g₂ ≡ d₂ → to_deal k₀ (g₁ ++ g₂) ≡ d₁ ++ d₂
in_order k₀ k₁ g₁ g₂ d₁ d₂ p q =
    to_deal-more k₀ g₁ g₂ ∙ ap (λ l. l ++ g₂) p ∙ append_assoc d₁ (to_deal k₁ []) g₂ ∙ ap (λ l. d₁ ++ l) (sym (to_deal-more k₁ [] g₂) ∙ q)

-- ---- numbers

pub listed_is_seen : (units : List ReplayUnit) (q : PeerKey) → list_any (peer_eq q) (peers_of units) ≡ is_seen units q
listed_is_seen units q =
    elim (is_seen units q) as (λ b. is_seen units q ≡ b → list_any (peer_eq q) (peers_of units) ≡ b) [ true ↦ λ e. listed_peer units q e | false ↦ λ e. unlisted units q e ] refl

-- the peers of one unit more
pub peers_push : (units : List ReplayUnit) (u : ReplayUnit) → peers_of (units ++ u ∷ []) ≡ peers_of units ++ (if list_any (peer_eq u.peer) (peers_of units) then [] else u.peer ∷ [])
peers_push units u =
    peers_of-append units (u ∷ []) ∙ ap (λ l. peers_of units ++ l) (append-nil (new_peer units u))
    ∙ ap (λ b. peers_of units ++ (if b then [] else u.peer ∷ [])) (sym (listed_is_seen units u.peer))

pub seen_last : (units : List ReplayUnit) (u : ReplayUnit) → is_seen (units ++ u ∷ []) u.peer ≡ true
seen_last units u = list_any-append (λ x. peer_eq x.peer u.peer) units (u ∷ []) ∙ ap (λ b. is_seen units u.peer || (b || false)) (peer_itself u.peer) ∙ or-true (is_seen units u.peer)

-- the peer of the next unit is numbered
pub keys_step : (before : List ReplayUnit) (blocked_unit : Option ReplayUnit) (given : List Found) (u : ReplayUnit) (keys keys' : List PeerKey) (n : ℕ) → keys ≡ peers_of (before ++ option_to_list blocked_unit)
    → to_deal blocked_unit given ≡ found.Unit u ∷ [] → NumbersPeer keys keys' u.peer n → keys' ≡ peers_of (before ++ u ∷ [])
keys_step before None given u keys keys' n h e p =
    let same : keys ≡ peers_of before = h ∙ ap peers_of (append-nil before) in
    p.keys ∙ ap (λ l. l ++ (if list_any (peer_eq u.peer) l then [] else u.peer ∷ [])) same ∙ sym (peers_push before u)
keys_step before (Some k) given u keys keys' n h e p =
    let is : k ≡ u = cc in
    let same : keys ≡ peers_of (before ++ u ∷ []) = h ∙ ap (λ v. peers_of (before ++ v ∷ [])) is in
    let seen : list_any (peer_eq u.peer) keys ≡ true = ap (list_any (peer_eq u.peer)) same ∙ listed_peer (before ++ u ∷ []) u.peer (seen_last before u) in
    p.keys ∙ ap (λ b. keys ++ (if b then [] else u.peer ∷ [])) seen ∙ append-nil keys ∙ same

abbrev pub AreListed : List PeerKey → List ReplayUnit → Type 0
AreListed keys units = AllByRecursion (λ u. list_any (peer_eq u.peer) keys ≡ true) units

pub listed_more : (keys more : List PeerKey) (units : List ReplayUnit) → AreListed keys units → AreListed (keys ++ more) units
listed_more keys more units h =
    all_more units (λ u e. list_any-append (peer_eq u.peer) keys more ∙ ap (λ b. b || list_any (peer_eq u.peer) more) e) h

-- numbers stay as more peers come
pub numbered_stay : (keys more : List PeerKey) (units : List ReplayUnit) → AreListed keys units → with_numbers (keys ++ more) units ≡ with_numbers keys units
numbered_stay keys more [] h = refl
numbered_stay keys more (u ∷ units) h =
    ap (λ n. record { number = n; unit = u } ∷ with_numbers (keys ++ more) units) (first_position (peer_eq u.peer) keys more h.0)
    ∙ ap (λ l. with_number keys u ∷ l) (numbered_stay keys more units h.1)

-- ---- the dealer's steps

-- as many units were dealt or blocked as came
pub passed_count : (blocked_unit : Option ReplayUnit) (given done : List ReplayUnit) → to_deal None (as_found given) ≡ as_found done ++ to_deal blocked_unit [] → length given ≡ length done + length (option_to_list blocked_unit)
passed_count blocked_unit given done e =
    let n : length (as_found given) ≡ length (as_found done ++ to_deal blocked_unit []) = ap length e in
    let a = length-map given (λ u. found.Unit u) in
    let b = length-append (as_found done) (to_deal blocked_unit []) in
    let c = length-map done (λ u. found.Unit u) in
    let d = length-append (map (λ u. found.Unit u) (option_to_list blocked_unit)) [] in
    let f = length-map (option_to_list blocked_unit) (λ u. found.Unit u) in
    omega (arith, n, a, b, c, d, f)

pub if_none : {A : Type 0} (P : A → Type 0) (o : Option A) → o ≡ None → IfSome o P
if_none P None e = tt
if_none P (Some x) e = absurd (cc)

pub is_none : {A : Type 0} (o : Option A) → false ≡ is_some o → o ≡ None
is_none None e = refl
is_none (Some x) e = absurd (cc)

pub where_some : {A : Type 0} {P : Type 0} (o : Option A) → true ≡ is_some o → IfSome o (λ _. P) → P
where_some None e p = absurd (cc)
where_some (Some x) e p = p

none_listed : {A : Type 0} (o : Option A) → length (option_to_list o) ≡ 0 → o ≡ None
none_listed None e = refl
none_listed (Some x) e = absurd (cc)

no_items : {A : Type 0} (xs : List A) → length xs ≡ 0 → xs ≡ []
no_items [] e = refl
no_items (x ∷ xs) e = absurd (cc)

if_some : {A : Type 0} {P : Type 0} (o : Option A) → P → IfSome o (λ _. P)
if_some None p = tt
if_some (Some x) p = p

module _ {D : Type 0} where
  -- nothing was dealt
  pub Handles-kept : (old new : Dealer D) → new.dealing ≡ old.dealing → new.peers ≡ old.peers → new.blocked_unit ≡ old.blocked_unit → new.refused ≡ old.refused → new.dealt ≡ old.dealt → old.dealt ≡ min (old.dealt + 0) (2 ^ 64 - 1) → Handles old new [] []
  Handles-kept old new dealing peers blocked_unit refused dealt bound =
      record {
        dealing = dealing;
        order = ap (λ o. to_deal o []) (sym blocked_unit);
        refused = ap (λ o. o.items) refused ∙ sym (append-nil old.refused.items);
        counted = dealt ∙ bound;
        listed = tt;
        more = [];
        peers = peers ∙ sym (append-nil old.peers);
        keys = λ before h. peers ∙ h ∙ ap (λ o. peers_of (before ++ option_to_list o)) (sym blocked_unit) ∙ ap (λ l. peers_of (l ++ option_to_list new.blocked_unit)) (sym (append-nil before));
      }

  -- one step after another
  pub Handles-more : (old mid new : Dealer D) (given more done later : List Found) → Handles old mid given done → Handles mid new more later → Handles old new (given ++ more) (done ++ later)
  Handles-more old mid new given more done later p q =
      let units : filter_map unit_of (done ++ later) ≡ filter_map unit_of done ++ filter_map unit_of later = filter_map-append unit_of done later in
      record {
        dealing = q.dealing ∙ p.dealing;
        order =
            in_order old.blocked_unit mid.blocked_unit given more done (later ++ to_deal new.blocked_unit []) p.order q.order
            ∙ sym (append_assoc done later (to_deal new.blocked_unit []));
        refused =
            q.refused ∙ ap (λ l. l ++ filter_map damage_of later) p.refused ∙ append_assoc old.refused.items (filter_map damage_of done) (filter_map damage_of later)
            ∙ ap (λ l. old.refused.items ++ l) (sym (filter_map-append damage_of done later));
        counted = (let n = ap length units ∙ length-append (filter_map unit_of done) (filter_map unit_of later) in let a = p.counted in let b = q.counted in omega arith);
        listed =
            subst (AreListed new.peers) (sym units)
            (all_push (λ u. list_any (peer_eq u.peer) new.peers ≡ true) (filter_map unit_of done) (filter_map unit_of later)
            (subst (λ l. AreListed l (filter_map unit_of done)) (sym q.peers) (listed_more mid.peers q.more (filter_map unit_of done) p.listed)) q.listed);
        more = p.more ++ q.more;
        peers = q.peers ∙ ap (λ l. l ++ q.more) p.peers ∙ append_assoc old.peers p.more q.more;
        keys = λ before h.
            q.keys (before ++ filter_map unit_of done) (p.keys before h)
            ∙ ap (λ l. peers_of (l ++ option_to_list new.blocked_unit)) (append_assoc before (filter_map unit_of done) (filter_map unit_of later) ∙ ap (λ l. before ++ l) (sym units));
      }

  -- refusals were listed
  pub Handles-listed : (old new : Dealer D) (listed : List Damage) → old.blocked_unit ≡ None → new.blocked_unit ≡ None → new.dealing ≡ old.dealing → new.peers ≡ old.peers → new.dealt ≡ old.dealt → old.dealt ≡ min (old.dealt + 0) (2 ^ 64 - 1) → new.refused.items ≡ old.refused.items ++ listed
      → Handles old new (as_refused listed) (as_refused listed)
  Handles-listed old new listed none none' dealing peers dealt bound refused =
      record {
        dealing = dealing;
        order = ap (λ o. to_deal o (as_refused listed)) none ∙ sym (append-nil (as_refused listed)) ∙ ap (λ o. as_refused listed ++ to_deal o []) (sym none');
        refused = refused ∙ ap (λ l. old.refused.items ++ l) (sym (all_damage listed));
        counted = dealt ∙ bound ∙ ap (λ l. min (old.dealt + length l) (2 ^ 64 - 1)) (sym (no_units listed));
        listed = subst (AreListed new.peers) (sym (no_units listed)) tt;
        more = [];
        peers = peers ∙ sym (append-nil old.peers);
        keys = λ before h.
            peers ∙ h ∙ ap (λ o. peers_of (before ++ option_to_list o)) (none ∙ sym none')
            ∙ ap (λ l. peers_of (l ++ option_to_list new.blocked_unit)) (sym (append-nil before) ∙ ap (λ l. before ++ l) (sym (no_units listed)));
      }

  module _ (old new : Dealer D) (given : List Found) (unit : ReplayUnit) (n : ℕ) (order : to_deal old.blocked_unit given ≡ found.Unit unit ∷ []) (number : NumbersPeer old.peers new.peers unit.peer n) (dealing : new.dealing ≡ old.dealing) (refused : new.refused ≡ old.refused) where
    -- the unit was dealt
    pub Handles-dealt : new.blocked_unit ≡ None → new.dealt ≡ min (old.dealt + 1) (2 ^ 64 - 1) → Handles old new given (found.Unit unit ∷ [])
    Handles-dealt none counted =
        record {
          dealing = dealing;
          order = order ∙ ap (λ o. found.Unit unit ∷ to_deal o []) (sym none);
          refused = ap (λ o. o.items) refused ∙ sym (append-nil old.refused.items);
          counted = counted;
          listed = (listed_now old.peers new.peers unit.peer n number, tt);
          more = if list_any (peer_eq unit.peer) old.peers then [] else unit.peer ∷ [];
          peers = number.keys;
          keys = λ before h.
              keys_step before old.blocked_unit given unit old.peers new.peers n h order number
              ∙ ap peers_of (sym (append-nil (before ++ unit ∷ []))) ∙ ap (λ o. peers_of ((before ++ unit ∷ []) ++ option_to_list o)) (sym none);
        }

    -- the unit is blocked
    pub Handles-blocked : new.blocked_unit ≡ Some unit → new.dealt ≡ old.dealt → old.dealt ≡ min (old.dealt + 0) (2 ^ 64 - 1) → Handles old new given []
    Handles-blocked blocked counted bound =
        record {
          dealing = dealing;
          order = order ∙ ap (λ o. to_deal o []) (sym blocked);
          refused = ap (λ o. o.items) refused ∙ sym (append-nil old.refused.items);
          counted = counted ∙ bound;
          listed = tt;
          more = if list_any (peer_eq unit.peer) old.peers then [] else unit.peer ∷ [];
          peers = number.keys;
          keys = λ before h.
              keys_step before old.blocked_unit given unit old.peers new.peers n h order number
              ∙ ap (λ l. peers_of (l ++ unit ∷ [])) (sym (append-nil before)) ∙ ap (λ o. peers_of ((before ++ []) ++ option_to_list o)) (sym blocked);
        }

  module _ {K : Type 0} (gets : K → K → List PeerUnit → Type 0) where
    pub HandsOn-none : (to : K) (d : Dealer D) → d.dealt ≡ min (d.dealt + 0) (2 ^ 64 - 1) → gets to to [] → HandsOn gets to to d d [] []
    HandsOn-none to d bound nothing = record { handles = Handles-kept d d refl refl refl refl refl bound; received = nothing }

    module _ (joined : (a b c : K) (xs ys : List PeerUnit) → gets a b xs → gets b c ys → gets a c (xs ++ ys)) (a b c : K) (old mid new : Dealer D) (given more done later : List Found) (p : HandsOn gets a b old mid given done) (q : HandsOn gets b c mid new more later) where
      -- the numbers of those that were dealt before stay
      pub items_more : with_numbers new.peers (filter_map unit_of (done ++ later)) ≡ with_numbers mid.peers (filter_map unit_of done) ++ with_numbers new.peers (filter_map unit_of later)
      items_more =
          ap (with_numbers new.peers) (filter_map-append unit_of done later)
          ∙ map-append (with_number new.peers) (filter_map unit_of done) (filter_map unit_of later)
          ∙ ap (λ l. l ++ with_numbers new.peers (filter_map unit_of later))
          (ap (λ l. with_numbers l (filter_map unit_of done)) q.handles.peers ∙ numbered_stay mid.peers q.handles.more (filter_map unit_of done) p.handles.listed)

      pub HandsOn-more : HandsOn gets a c old new (given ++ more) (done ++ later)
      HandsOn-more = record {
        handles = Handles-more old mid new given more done later p.handles q.handles;
        received = subst (gets a c) (sym items_more) (joined a b c _ _ p.received q.received);
      }

      -- the unit that is blocked has no room behind all that was dealt
      pub IsFull-more : (lane_of room room₀ : ℕ → ℕ) → IsFull lane_of room new (filter_map unit_of later) → ((n : ℕ) → room₀ (lane_of n) ≤ room (lane_of n) + length (in_lane lane_of (lane_of n) (with_numbers mid.peers (filter_map unit_of done)))) → IsFull lane_of room₀ new (filter_map unit_of (done ++ later))
      IsFull-more lane_of room room₀ full spent =
          let lane = lane_of (number_in new.peers full.unit.peer) in
          let before = with_numbers mid.peers (filter_map unit_of done) in
          let behind = with_numbers new.peers (filter_map unit_of later) in
          let both : length (in_lane lane_of lane (before ++ behind)) ≡ length (in_lane lane_of lane before) + length (in_lane lane_of lane behind) =
          ap length (filter-append (λ item. eqb (lane_of item.number) lane) before behind) ∙ length-append (in_lane lane_of lane before) (in_lane lane_of lane behind) in
          let most = spent (number_in new.peers full.unit.peer) in
          let some = full.full in
          record {
            unit = full.unit;
            blocked_unit = full.blocked_unit;
            full = subst (λ l. room₀ lane ≤ length (in_lane lane_of lane l)) (sym items_more) (omega (arith, both, most, some));
          }

    -- refusals were listed
    pub HandsOn-listed : (to : K) (old new : Dealer D) (listed : List Damage) → gets to to [] → Handles old new (as_refused listed) (as_refused listed) → HandsOn gets to to old new (as_refused listed) (as_refused listed)
    HandsOn-listed to old new listed nothing p = record { handles = p; received = subst (gets to to) (sym (ap (with_numbers new.peers) (no_units listed))) nothing }

    -- a unit was dealt or is blocked
    module _ (lane_of room : ℕ → ℕ) (to to' : K) (old mid : Dealer D) (given : List Found) (unit : ReplayUnit) (order : to_deal old.blocked_unit given ≡ found.Unit unit ∷ []) where
      pub HandsOn-dealt : (start : Dealer D) → DealsUnit gets lane_of room to to' start mid unit true → start.peers ≡ old.peers → start.dealing ≡ old.dealing → start.refused ≡ old.refused → start.dealt ≡ old.dealt → start.blocked_unit ≡ None → HandsOn gets to to' old mid given (found.Unit unit ∷ [])
      HandsOn-dealt start p peers dealing refused dealt none =
          record {
            handles = Handles-dealt old mid given unit p.number order (subst (λ l. NumbersPeer l mid.peers unit.peer p.number) peers p.numbers) (p.dealing ∙ dealing) (p.refused ∙ refused) (p.blocked_unit ∙ none) (p.counted ∙ ap (λ n. min (n + 1) (2 ^ 64 - 1)) dealt);
            received = subst (λ i. gets to to' (i ∷ [])) (ap (λ m. record { number = m; unit = unit }) p.numbers.number_is) p.received;
          }

      pub HandsOn-blocked : (start new : Dealer D) → DealsUnit gets lane_of room to to' start mid unit false → start.peers ≡ old.peers → start.dealing ≡ old.dealing → start.refused ≡ old.refused → start.dealt ≡ old.dealt → new.peers ≡ mid.peers → new.dealing ≡ mid.dealing → new.refused ≡ mid.refused → new.dealt ≡ mid.dealt → (back : ReplayUnit) → new.blocked_unit ≡ Some back → back ≡ unit → old.dealt ≡ min (old.dealt + 0) (2 ^ 64 - 1)
          → HandsOn gets to to' old new given []
      HandsOn-blocked start new p peers dealing refused dealt peers' dealing' refused' dealt' back blocked same bound =
          record {
            handles = Handles-blocked old new given unit p.number order (subst (λ l. NumbersPeer old.peers l unit.peer p.number) (sym peers') (subst (λ l. NumbersPeer l mid.peers unit.peer p.number) peers p.numbers)) (dealing' ∙ p.dealing ∙ dealing) (refused' ∙ p.refused ∙ refused) (blocked ∙ ap (λ v. Some v) same) (dealt' ∙ p.counted ∙ dealt) bound;
            received = p.received;
          }

      -- its lane has no room
      pub IsFull-blocked : (start new : Dealer D) → DealsUnit gets lane_of room to to' start mid unit false → new.peers ≡ mid.peers → (back : ReplayUnit) → new.blocked_unit ≡ Some back → back ≡ unit → IsFull lane_of room new []
      IsFull-blocked start new p peers' back blocked same =
          let none : room (lane_of (number_in mid.peers unit.peer)) ≡ 0 = ap (λ n. room (lane_of n)) (sym p.numbers.number_is) ∙ p.full refl in
          record {
            unit = unit;
            blocked_unit = blocked ∙ ap (λ v. Some v) same;
            full = subst (λ l. room (lane_of (number_in l unit.peer)) ≤ 0) (sym peers') (omega (arith, none));
          }

    -- so many of these units were dealt so far
    pub record Taken (to to' : K) (old new : Dealer D) (units rest : List ReplayUnit) (count : ℕ) : Type 0 where
      pub given : List ReplayUnit
      pub parts : units ≡ given ++ rest
      pub count_is : length given ≡ count
      pub hands : HandsOn gets to to' old new (as_found given) (as_found given)

    pub Taken-none : (to : K) (d : Dealer D) (units : List ReplayUnit) → d.dealt ≡ min (d.dealt + 0) (2 ^ 64 - 1) → gets to to [] → Taken to to d d units units 0
    Taken-none to d units bound nothing = record { given = []; parts = refl; count_is = refl; hands = HandsOn-none to d bound nothing }

    module _ (joined : (a b c : K) (xs ys : List PeerUnit) → gets a b xs → gets b c ys → gets a c (xs ++ ys)) (a b c : K) (old mid new : Dealer D) (units rest rest' : List ReplayUnit) (count : ℕ) (unit : ReplayUnit) (next : rest ≡ unit ∷ rest') (p : Taken a b old mid units rest count) where
      parts_more : units ≡ (p.given ++ unit ∷ []) ++ rest'
      parts_more = p.parts ∙ ap (λ l. p.given ++ l) next ∙ sym (append_assoc p.given (unit ∷ []) rest')

      found_more : as_found (p.given ++ unit ∷ []) ≡ as_found p.given ++ found.Unit unit ∷ []
      found_more = map-append (λ u. found.Unit u) p.given (unit ∷ [])

      count_more : length (p.given ++ unit ∷ []) ≡ count + 1
      count_more = length-append p.given (unit ∷ []) ∙ ap (λ n. n + 1) p.count_is

      -- one more was dealt
      pub Taken-more : HandsOn gets b c mid new (found.Unit unit ∷ []) (found.Unit unit ∷ []) → Taken a c old new units rest' (count + 1)
      Taken-more q = record {
        given = p.given ++ unit ∷ [];
        parts = parts_more;
        count_is = count_more;
        hands = subst (λ l. HandsOn gets a c old new l l) (sym found_more) (HandsOn-more joined a b c old mid new (as_found p.given) (found.Unit unit ∷ []) (as_found p.given) (found.Unit unit ∷ []) p.hands q);
      }

      -- the next is blocked
      pub DealsFront-blocked : (lane_of room room₀ : ℕ → ℕ) → HandsOn gets b c mid new (found.Unit unit ∷ []) [] → IsFull lane_of room new [] → ((n : ℕ) → room₀ (lane_of n) ≤ room (lane_of n) + length (in_lane lane_of (lane_of n) (with_numbers mid.peers (filter_map unit_of (as_found p.given))))) → DealsFront gets lane_of room₀ a c old new units (count + 1)
      DealsFront-blocked lane_of room room₀ q full spent = record {
        given = p.given ++ unit ∷ [];
        rest = rest';
        done = p.given;
        parts = parts_more;
        taken_is = count_more;
        hands = subst (λ l. HandsOn gets a c old new l (as_found p.given)) (sym found_more) (subst (HandsOn gets a c old new (as_found p.given ++ found.Unit unit ∷ [])) (append-nil (as_found p.given)) (HandsOn-more joined a b c old mid new (as_found p.given) (found.Unit unit ∷ []) (as_found p.given) [] p.hands q));
        full = if_some new.blocked_unit (subst (IsFull lane_of room₀ new) (ap (filter_map unit_of) (append-nil (as_found p.given)) ∙ all_units p.given) (IsFull-more joined a b c old mid new (as_found p.given) (found.Unit unit ∷ []) (as_found p.given) [] p.hands q lane_of room room₀ full spent));
      }

    -- so far, with what was dealt received
    pub record SoFar (to to' : K) (old new : Dealer D) (u : UnitsState) (k : Known) (u' : UnitsState) (k' : Known) (count : ℕ) : Type 0 where
      pub given : List Found
      pub done : List Found
      pub takes : TakesUnits u k u' k' given
      pub hands : HandsOn gets to to' old new given done
      pub count_is : length (filter_map unit_of done) ≡ count

    unfoldable pub SoFar-none : (to : K) (old : Dealer D) (u : UnitsState) (k : Known) → old.dealt ≡ min (old.dealt + 0) (2 ^ 64 - 1) → gets to to [] → SoFar to to old old u k u k 0
    SoFar-none to old u k bound nothing = record { given = []; done = []; takes = TakesUnits-none u k; hands = HandsOn-none to old bound nothing; count_is = refl }

    -- a batch is dealt
    pub DealsTo-full : (lane_of room : ℕ → ℕ) (batch : ℕ) (to to' : K) (old new : Dealer D) (u u' : UnitsState) (k k' : Known) (count : ℕ) → count ≡ batch → SoFar to to' old new u k u' k' count → DealsTo gets lane_of batch room to to' old new u k u' k' (Ok FullBatch)
    DealsTo-full lane_of room batch to to' old new u u' k k' count is s =
        record {
          deals = record {
            given = s.given;
            done = s.done;
            gives = front_from_takes u u' k k' s.given s.takes;
            takes = s.takes;
            handles = s.hands.handles;
            few = (let n = s.count_is in omega (arith, is));
            stops = s.count_is ∙ is;
            nothing_kept = tt;
            behind = tt;
          };
          received = s.hands.received;
        }

    -- a unit is blocked
    pub DealsTo-blocked : (lane_of room : ℕ → ℕ) (batch : ℕ) (to to' : K) (old new : Dealer D) (u u' : UnitsState) (k k' : Known) (count : ℕ) → count ≤ batch → (s : SoFar to to' old new u k u' k' count) → IsFull lane_of room new (filter_map unit_of s.done) → DealsTo gets lane_of batch room to to' old new u k u' k' (Ok Blocked)
    DealsTo-blocked lane_of room batch to to' old new u u' k k' count within s full =
        record {
          deals = record {
            given = s.given;
            done = s.done;
            gives = front_from_takes u u' k k' s.given s.takes;
            takes = s.takes;
            handles = s.hands.handles;
            few = (let n = s.count_is in omega (arith, within));
            stops = full;
            nothing_kept = tt;
            behind = tt;
          };
          received = s.hands.received;
        }

    module _ (joined : (a b c : K) (xs ys : List PeerUnit) → gets a b xs → gets b c ys → gets a c (xs ++ ys)) (to b : K) (old mid : Dealer D) (u u₁ : UnitsState) (k k₁ : Known) (count : ℕ) (s : SoFar to b old mid u k u₁ k₁ count) where
      -- the files were asked, and refusals listed
      unfoldable pub SoFar-listed : (new : Dealer D) (u₂ : UnitsState) (k₂ : Known) → gets b b [] → Asked mid.refused.items new.refused.items u₁ k₁ u₂ k₂ → mid.blocked_unit ≡ None → new.blocked_unit ≡ None → new.dealing ≡ mid.dealing → new.peers ≡ mid.peers → new.dealt ≡ mid.dealt → SoFar to b old new u k u₂ k₂ count
      SoFar-listed new u₂ k₂ nothing p none none' dealing peers dealt =
          let bound : mid.dealt ≡ min (mid.dealt + 0) (2 ^ 64 - 1) = (let c = s.hands.handles.counted in omega arith) in
          record {
            given = s.given ++ as_refused p.listed;
            done = s.done ++ as_refused p.listed;
            takes = TakesUnits-more u u₁ u₂ k k₁ k₂ s.given (as_refused p.listed) s.takes p.takes;
            hands = HandsOn-more joined to b b old mid new s.given (as_refused p.listed) s.done (as_refused p.listed) s.hands (HandsOn-listed b mid new p.listed nothing (Handles-listed mid new p.listed none none' dealing peers dealt bound p.refused));
            count_is = ap length (filter_map-append unit_of s.done (as_refused p.listed) ∙ ap (λ l. filter_map unit_of s.done ++ l) (no_units p.listed) ∙ append-nil (filter_map unit_of s.done)) ∙ s.count_is;
          }

      -- the blocked unit was dealt, or is blocked still
      unfoldable pub SoFar-blocked : (c : K) (new : Dealer D) (lane_of room : ℕ → ℕ) (dealt : ℕ) → DealsBlocked gets lane_of room b c mid new dealt → SoFar to c old new u k u₁ k₁ (count + dealt)
      SoFar-blocked c new lane_of room dealt p = record {
        given = s.given ++ [];
        done = s.done ++ as_found p.done;
        takes = subst (TakesUnits u k u₁ k₁) (sym (append-nil s.given)) s.takes;
        hands = HandsOn-more joined to b c old mid new s.given [] s.done (as_found p.done) s.hands p.hands;
        count_is = ap length (filter_map-append unit_of s.done (as_found p.done) ∙ ap (λ l. filter_map unit_of s.done ++ l) (all_units p.done)) ∙ length-append (filter_map unit_of s.done) p.done ∙ ap (λ n. n + length p.done) s.count_is ∙ ap (λ n. count + n) p.dealt_is;
      }

      -- the first of the units that are lent were dealt
      module _ (c : K) (new : Dealer D) (lane_of room : ℕ → ℕ) (units : List ReplayUnit) (taken : ℕ) (p : DealsFront gets lane_of room b c mid new units taken) where
        front_is : u₁.pending ≡ units ++ drop (length units) u₁.pending → take taken u₁.pending ≡ p.given
        front_is lent =
            ap (λ n. take n u₁.pending) (sym p.taken_is)
            ∙ ap (take (length p.given)) (lent ∙ ap (λ l. l ++ drop (length units) u₁.pending) p.parts ∙ append_assoc p.given p.rest (drop (length units) u₁.pending))
            ∙ take-append_seam p.given (p.rest ++ drop (length units) u₁.pending)

        pub SoFar-front : (u₂ : UnitsState) → u₁.pending ≡ units ++ drop (length units) u₁.pending → u₁.state ≡ states.Reading → GivesPending u₁ u₂ (take taken u₁.pending) → SoFar to c old new u k u₂ k₁ (count + length p.done)
        SoFar-front u₂ lent reading gives = record {
          given = s.given ++ as_found p.given;
          done = s.done ++ as_found p.done;
          takes = TakesUnits-more u u₁ u₂ k k₁ k₁ s.given (as_found p.given) s.takes (TakesUnits-pending u₁ u₂ k₁ p.given reading (subst (GivesPending u₁ u₂) (front_is lent) gives));
          hands = HandsOn-more joined to b c old mid new s.given (as_found p.given) s.done (as_found p.done) s.hands p.hands;
          count_is = ap length (filter_map-append unit_of s.done (as_found p.done) ∙ ap (λ l. filter_map unit_of s.done ++ l) (all_units p.done)) ∙ length-append (filter_map unit_of s.done) p.done ∙ ap (λ n. n + length p.done) s.count_is;
        }

        -- the files ended, and nothing was lent
        pub DealsTo-end : (room₀ : ℕ → ℕ) (batch : ℕ) → count ≤ batch → taken ≡ 0 → mid.blocked_unit ≡ None → GivesAll u k s.given → DealsTo gets lane_of batch room₀ to c old new u k u₁ k₁ (Ok End)
        DealsTo-end room₀ batch within nothing none all =
            let empty = no_items p.given (p.taken_is ∙ nothing) in
            let passed = passed_count new.blocked_unit p.given p.done (ap (λ o. to_deal o (as_found p.given)) (sym none) ∙ p.hands.handles.order) in
            let zero = p.taken_is in
            let no_unit : length (option_to_list new.blocked_unit) ≡ 0 = omega (arith, passed, zero, nothing) in
            let q = subst (λ l. HandsOn gets to c old new l (s.done ++ as_found p.done)) (ap (λ l. s.given ++ as_found l) empty ∙ append-nil s.given)
            (HandsOn-more joined to b c old mid new s.given (as_found p.given) s.done (as_found p.done) s.hands p.hands) in
            let dealt = ap length (filter_map-append unit_of s.done (as_found p.done) ∙ ap (λ l. filter_map unit_of s.done ++ l) (all_units p.done)) ∙ length-append (filter_map unit_of s.done) p.done in
            let before = s.count_is in
            record {
              deals = record {
                given = s.given;
                done = s.done ++ as_found p.done;
                gives = front_from_takes u u₁ k k₁ s.given s.takes;
                takes = s.takes;
                handles = q.handles;
                few = omega (arith, within, dealt, before, passed, zero, nothing);
                stops = (none_listed new.blocked_unit no_unit, all);
                nothing_kept = tt;
                behind = tt;
              };
              received = q.received;
            }

        -- the next unit is blocked
        pub DealsTo-full_lane : (u₂ : UnitsState) (room₀ : ℕ → ℕ) (batch : ℕ) → count + taken ≤ batch → mid.blocked_unit ≡ None → u₁.pending ≡ units ++ drop (length units) u₁.pending → u₁.state ≡ states.Reading → GivesPending u₁ u₂ (take taken u₁.pending) → true ≡ is_some new.blocked_unit → ((n : ℕ) → room₀ (lane_of n) ≤ room (lane_of n) + length (in_lane lane_of (lane_of n) (with_numbers mid.peers (filter_map unit_of s.done))))
            → DealsTo gets lane_of batch room₀ to c old new u k u₂ k₁ (Ok Blocked)
        unfolding SoFar-front
        DealsTo-full_lane u₂ room₀ batch within none lent reading gives some spent =
            let t = SoFar-front u₂ lent reading gives in
            let passed = passed_count new.blocked_unit p.given p.done (ap (λ o. to_deal o (as_found p.given)) (sym none) ∙ p.hands.handles.order) in
            let is = p.taken_is in
            let few : count + length p.done ≤ batch = omega (arith, within, passed, is) in
            let full = subst (IsFull lane_of room new) (sym (all_units p.done)) (where_some new.blocked_unit some p.full) in
            DealsTo-blocked lane_of room₀ batch to c old new u u₂ k k₁ (count + length p.done) few t (IsFull-more joined to b c old mid new s.given (as_found p.given) s.done (as_found p.done) s.hands p.hands lane_of room room₀ full spent)

        -- where none is blocked, as many were dealt as were taken
        pub all_dealt : mid.blocked_unit ≡ None → new.blocked_unit ≡ None → length p.done ≡ taken
        all_dealt none none' =
            let passed = passed_count new.blocked_unit p.given p.done (ap (λ o. to_deal o (as_found p.given)) (sym none) ∙ p.hands.handles.order) in
            let is = p.taken_is in
            let zero : length (option_to_list new.blocked_unit) ≡ 0 = ap (λ o. length (option_to_list o)) none' in
            omega (arith, passed, is, zero)

      -- a read failed
      pub DealsTo-failed : (new : Dealer D) (u₂ : UnitsState) (k₂ : Known) (lane_of room : ℕ → ℕ) (batch : ℕ) (error : ReplayError) → count ≤ batch → gets b b [] → AskedInVain mid.refused.items new.refused.items u₁ k₁ u₂ k₂ → mid.blocked_unit ≡ None → new.blocked_unit ≡ None → new.dealing ≡ mid.dealing → new.peers ≡ mid.peers → new.dealt ≡ mid.dealt → DealsTo gets lane_of batch room to b old new u k u₂ k₂ (Err error)
      DealsTo-failed new u₂ k₂ lane_of room batch error within nothing p none none' dealing peers dealt =
          let bound : mid.dealt ≡ min (mid.dealt + 0) (2 ^ 64 - 1) = (let c = s.hands.handles.counted in omega arith) in
          let q = HandsOn-more joined to b b old mid new s.given (as_refused p.listed) s.done (as_refused p.listed) s.hands (HandsOn-listed b mid new p.listed nothing (Handles-listed mid new p.listed none none' dealing peers dealt bound p.refused)) in
          let units = ap length (filter_map-append unit_of s.done (as_refused p.listed) ∙ ap (λ l. filter_map unit_of s.done ++ l) (no_units p.listed) ∙ append-nil (filter_map unit_of s.done)) ∙ s.count_is in
          record {
            deals = record {
              given = s.given ++ as_refused p.listed;
              done = s.done ++ as_refused p.listed;
              gives = front_more u u₁ k k₁ s.given (as_refused p.listed) s.takes p.gives;
              takes = tt;
              handles = q.handles;
              few = omega (arith, within, units);
              stops = tt;
              nothing_kept = none';
              behind = behind_more u u₁ u₂ k k₁ k₂ s.given (as_refused p.listed) s.takes p.behind;
            };
            received = q.received;
          }

  -- the same by equal lanes
  pub DealsFront-lanes : {K : Type 0} (received : (ℕ → ℕ) → K → K → List PeerUnit → Type 0) (way : D → ℕ → ℕ → ℕ) (d d' : D) (m m' : ℕ) → d ≡ d' → m ≡ m' → (room : ℕ → ℕ) (to to' : K) (old new : Dealer D) (units : List ReplayUnit) (taken : ℕ) → DealsFront (received (λ n. way d n m)) (λ n. way d n m) room to to' old new units taken
      → DealsFront (received (λ n. way d' n m')) (λ n. way d' n m') room to to' old new units taken
  DealsFront-lanes received way d d' m m' e f room to to' old new units taken p =
      subst (λ k. DealsFront (received (λ n. way d' n k)) (λ n. way d' n k) room to to' old new units taken) f (subst (λ y. DealsFront (received (λ n. way y n m)) (λ n. way y n m) room to to' old new units taken) e p)

  -- where there is room for more than a batch, whatever room there is
  unfoldable pub Deals-unblocked : (lane_of room : ℕ → ℕ) (batch most : ℕ) (old new : Dealer D) (u u' : UnitsState) (k k' : Known) (result : Result Step ReplayError) → batch < most → Deals lane_of batch (λ _. most) old new u k u' k' result → Deals lane_of batch room old new u k u' k' result
  Deals-unblocked lane_of room batch most old new u u' k k' result below p =
      record { given = p.given; done = p.done; gives = p.gives; takes = p.takes; handles = p.handles; few = p.few; stops = stops result p.stops; nothing_kept = p.nothing_kept; behind = p.behind }
    where
      stops : (r : Result Step ReplayError) → IfOk r (StopsDealing lane_of batch (λ _. most) new u k p.given (filter_map unit_of p.done)) → IfOk r (StopsDealing lane_of batch room new u k p.given (filter_map unit_of p.done))
      stops (Ok Blocked) h =
          let lane = lane_of (number_in new.peers h.unit.peer) in
          let dealt = with_numbers new.peers (filter_map unit_of p.done) in
          absurd (let f = h.full in let n = length-filter (λ item. eqb (lane_of item.number) lane) dealt in let c = count_by-le-length (λ item. eqb (lane_of item.number) lane) dealt in let m = length-map (filter_map unit_of p.done) (with_number new.peers) in let few = p.few in omega arith)
      stops (Ok FullBatch) h = h
      stops (Ok End) h = h
      stops (Err e) h = tt

  -- the same, told of what is received otherwise
  pub DealsTo-as : {K L : Type 0} (gets : K → K → List PeerUnit → Type 0) (gets' : L → L → List PeerUnit → Type 0) (lane_of room : ℕ → ℕ) (batch : ℕ) (to to' : K) (s s' : L) (old new : Dealer D) (u u' : UnitsState) (k k' : Known) (result : Result Step ReplayError) → ((items : List PeerUnit) → gets to to' items → gets' s s' items) → DealsTo gets lane_of batch room to to' old new u k u' k' result → DealsTo gets' lane_of batch room s s' old new u k u' k' result
  DealsTo-as gets gets' lane_of room batch to to' s s' old new u u' k k' result f p = record { deals = p.deals; received = f _ p.received }
