-- What the files gave, step by step.
use Rattle.std.proofs.Common.{◌≡◌, ℕ, List, [], ◌∷◌, ◌++◌, length, map, Option, Result, Ok, Err, refl, sym, ap, ◌∙◌, subst, append_assoc, length-append, arith, inl, inr}
use Rattle.std.specs.Prelude.{slice_index}
use Rattle.std.specs.List.{filter_map}
use Rattle.std.proofs.lemmas.List.Elements.{filter_map-append}
use Rattle.mrt_frame.specs.Devices.{HasFailed}
use Rattle.mrt_frame.specs.declared.error.ReplayError.{ReplayError}
use Rattle.mrt_frame.specs.declared.error.ReplayError.TheVariants as errors
use Rattle.mrt_frame.specs.declared.read_state.ReadState.TheVariants as states
use Rattle.mrt_body.specs.Units.{unit_of}
use Rattle.std.proofs.lemmas.List.{append-nil, map-append}
use Rattle.peer_units.specs.declared.unit.Damage.{Damage}
use Rattle.peer_units.specs.Plain.{Found, Unit as ReplayUnit}
use Rattle.peer_units.specs.declared.unit.Found.TheVariants as found
use Rattle.mrt_body.specs.ToCome.{UnitsState, GivesPending, KeepsPlan, GivesAllBefore, as_found, found_to_come, most_units_left}
use Rattle.mrt_body.proofs.FilesLaws.{gives_found}
use Rattle.mrt_body.specs.Readings.{Gives, Ends}
use Rattle.lane_deal.specs.Results.{IfAnswered}
use Rattle.lane_deal.specs.Asking.{TakesUnits, StopsReading, StopsBehind, as_refused, GivesFront, GivesAll, Asked, AskedInVain}

abbrev Known : Type 0
Known = List (Option (List ℕ))

pub all_units : (units : List ReplayUnit) → filter_map unit_of (as_found units) ≡ units
all_units [] = refl
all_units (u ∷ units) = ap (λ l. u ∷ l) (all_units units)

pub TakesUnits-none : (u : UnitsState) (k : Known) → TakesUnits u k u k []
TakesUnits-none u k = record {
  found = λ contents h. (contents, h, record { found = refl; records = refl; aside = refl });
  few = omega arith;
  plan = (refl, refl, refl);
  state = refl;
  idle = λ e. (refl, refl);
}

-- one step after another
pub TakesUnits-more : (a b c : UnitsState) (first second third : Known) (taken more : List Found) → TakesUnits a first b second taken → TakesUnits b second c third more → TakesUnits a first c third (taken ++ more)
TakesUnits-more a b c first second third taken more p q =
    record {
      found = λ contents h.
          let x = p.found contents h in
          let y = q.found x.0 x.1 in (
            y.0,
            y.1,
            record {
              found = x.2.found ∙ ap (λ (l : List Found). taken ++ l) y.2.found ∙ sym (append_assoc taken more (found_to_come c y.0));
              records = x.2.records ∙ y.2.records;
              aside = x.2.aside ∙ y.2.aside;
            },
          );
      few = (let n = ap length (filter_map-append unit_of taken more) ∙ length-append (filter_map unit_of taken) (filter_map unit_of more) in let x = p.few in let y = q.few in omega arith);
      plan = (q.plan.0 ∙ p.plan.0, q.plan.1 ∙ p.plan.1, q.plan.2 ∙ p.plan.2);
      state = q.state ∙ p.state;
      idle = λ e.
          let x = p.idle e in
          let y = q.idle (subst (λ (v : UnitsState). v.state ≡ states.Failed) (sym x.0) e) in (y.0 ∙ x.0, ap (λ l. l ++ more) x.1 ∙ y.1);
    }

-- what came of one call of the reading
pub TakesUnits-one : {R : Type 0} (remaining : R → Option (List ℕ)) (failures : R → ℕ) (u u' : UnitsState) (files files' : List R) (given : List Found) → Gives remaining failures u files u' files' given → KeepsPlan u u'
    → TakesUnits u (map remaining files) u' (map remaining files') given
TakesUnits-one remaining failures u u' files files' given gives plan = record {
  found = gives.found;
  few = gives.few;
  plan = plan;
  state = gives.state ∙ sym gives.reading;
  idle = λ failed. let reading = gives.reading in absurd (cc);
}

-- pending units were given
pub TakesUnits-pending : (u u' : UnitsState) (k : Known) (units : List ReplayUnit) → u.state ≡ states.Reading → GivesPending u u' units → TakesUnits u k u' k (as_found units)
TakesUnits-pending u u' k units reading gives = record {
  found = gives_found u u' k units gives;
  few = (let a = ap most_units_left gives.0 in let n = ap length gives.1 ∙ length-append units u'.pending in let m = ap length (all_units units) in omega arith);
  plan = (ap (λ (v : UnitsState). v.count) gives.0, ap (λ (v : UnitsState). v.max_records) gives.0, ap (λ (v : UnitsState). v.selection) gives.0);
  state = ap (λ (v : UnitsState). v.state) gives.0;
  idle = λ failed. absurd (cc);
}

-- ---- what stands before a failed read

-- one call of the reading whose read failed
pub behind_one : (u u' : UnitsState) (k k' : Known) (file : ℕ) → (u.state ≡ states.Reading → GivesAllBefore u k u' k' (errors.Read file)) → StopsBehind u k u' k' []
behind_one u u' k k' file before = record { going = before; failed = λ _. refl }

pub behind_more : (a b c : UnitsState) (first second third : Known) (given more : List Found) → TakesUnits a first b second given → StopsBehind b second c third more → StopsBehind a first c third (given ++ more)
behind_more a b c first second third given more p q =
    record {
      going = λ going contents h.
          let x = p.found contents h in
          let f = q.going (p.state ∙ going) x.0 x.1 in
          record {
            part = f.part;
            fault = f.fault;
            bytes = f.bytes;
            later = f.later;
            broken = f.broken;
            left = f.left;
            passes = record {
              found = x.2.found ∙ ap (λ (l : List Found). given ++ l) f.passes.found ∙ sym (append_assoc given more _);
              records = x.2.records ∙ f.passes.records;
              aside = x.2.aside ∙ f.passes.aside;
            };
          };
      failed = λ e.
          let x = p.idle e in
          let y = q.failed (subst (λ (v : UnitsState). v.state ≡ states.Failed) (sym x.0) e) in ap (λ l. l ++ more) x.1 ∙ y;
    }

pub front_from_takes : (a b : UnitsState) (k k' : Known) (given : List Found) → TakesUnits a k b k' given → GivesFront a k given
front_from_takes a b k k' given p contents h = let x = p.found contents h in (found_to_come b x.0, x.2.found)

pub front_more : (a b : UnitsState) (k k' : Known) (given more : List Found) → TakesUnits a k b k' given → GivesFront b k' more → GivesFront a k (given ++ more)
front_more a b k k' given more p q contents h =
    let x = p.found contents h in
    let y = q x.0 x.1 in (y.0, x.2.found ∙ ap (λ l. given ++ l) y.1 ∙ sym (append_assoc given more y.0))

pub all_more_given : (a b : UnitsState) (k k' : Known) (given more : List Found) → TakesUnits a k b k' given → GivesAll b k' more → GivesAll a k (given ++ more)
all_more_given a b k k' given more p q contents h =
    let x = p.found contents h in x.2.found ∙ ap (λ l. given ++ l) (q x.0 x.1)

-- these refusals were listed so far
pub record Listed (r r' : List Damage) (u : UnitsState) (k : Known) (u' : UnitsState) (k' : Known) : Type 0 where
  pub listed : List Damage
  pub refused : r' ≡ r ++ listed
  pub takes : TakesUnits u k u' k' (as_refused listed)

pub Listed-none : (refused : List Damage) (u : UnitsState) (k : Known) → Listed refused refused u k u k
Listed-none refused u k = record { listed = []; refused = sym (append-nil refused); takes = TakesUnits-none u k }

pub Listed-more : (r r' r'' : List Damage) (a b c : UnitsState) (k k' k'' : Known) (damage : Damage) → Listed r r' a k b k' → TakesUnits b k' c k'' (found.Refused damage ∷ []) → r'' ≡ r' ++ damage ∷ [] → Listed r r'' a k c k''
Listed-more r r' r'' a b c k k' k'' damage p q e =
    record {
      listed = p.listed ++ damage ∷ [];
      refused = e ∙ ap (λ l. l ++ damage ∷ []) p.refused ∙ append_assoc r p.listed (damage ∷ []);
      takes = subst (TakesUnits a k c k'') (sym (map-append (λ d. found.Refused d) p.listed (damage ∷ []))) (TakesUnits-more a b c k k' k'' (as_refused p.listed) (found.Refused damage ∷ []) p.takes q);
    }

-- the reading answered that nothing more is refused before a unit
pub Asked-from : {R : Type 0} (remaining : R → Option (List ℕ)) (failures : R → ℕ) (r r' : List Damage) (a b c : UnitsState) (start files files' : List R) → Listed r r' a (map remaining start) b (map remaining files) → Gives remaining failures b files c files' [] → KeepsPlan b c
    → (c.pending ≡ [] → Ends remaining b files c) → Asked r r' a (map remaining start) c (map remaining files')
Asked-from remaining failures r r' a b c start files files' p gives plan ends = record {
  listed = p.listed;
  refused = p.refused;
  takes = subst (TakesUnits a (map remaining start) c (map remaining files')) (append-nil (as_refused p.listed))
      (TakesUnits-more a b c (map remaining start) (map remaining files) (map remaining files') (as_refused p.listed) [] p.takes (TakesUnits-one remaining failures b c files files' [] gives plan));
  state = gives.state;
  ended = λ none contents h. all_more_given a b (map remaining start) (map remaining files) (as_refused p.listed) [] p.takes (ends none).nothing contents h ∙ append-nil (as_refused p.listed);
  at_end = λ none. (ends none).ended.1;
}

pub AskedInVain-from : (r r' : List Damage) (a b c : UnitsState) (k k' k'' : Known) (file : ℕ) → Listed r r' a k b k' → (b.state ≡ states.Reading → GivesAllBefore b k' c k'' (errors.Read file)) → AskedInVain r r' a k c k''
AskedInVain-from r r' a b c k k' k'' file p before =
    record {
      listed = p.listed;
      refused = p.refused;
      gives = front_from_takes a b k k' _ p.takes;
      behind = subst (StopsBehind a k c k'') (append-nil (as_refused p.listed)) (behind_more a b c k k' k'' (as_refused p.listed) [] p.takes (behind_one b c k' k'' file before));
    }

-- what follows from what holds of a call that answered
pub answered_as : {A : Type 0} (r : Result A ReplayError) (P Q : Type 0) → (P → Q) → IfAnswered r P → IfAnswered r Q
answered_as (Ok x) P Q f p = f p
answered_as (Err e) P Q f p = λ file is. f (p file is)
