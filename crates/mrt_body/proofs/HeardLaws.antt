-- How many peers are heard.
use Rattle.std.proofs.Common.{◌≡◌, ◌+◌, ◌≤◌, Bool, true, false, List, [], ◌∷◌, ◌++◌, length, ap, arith}
use Rattle.std.proofs.lemmas.List.{length-append, length-map}
use Rattle.std.specs.Prelude.{if◌then◌else◌}
use Rattle.std.specs.Ordering.{match_ordering}
use Rattle.std.specs.declared.cmp.Ordering.{Ordering}
use Rattle.std.specs.declared.cmp.Ordering.TheVariants.{Less, Equal, Greater}
use Rattle.mrt_body.specs.declared.record_place.RecordAt.{RecordAt}
use Rattle.peer_units.specs.declared.rib_rule.RibRule.{RibRule}
use Rattle.peer_units.specs.declared.rib_rule.RibRule.TheVariants.{Add, Replace}
use Rattle.peer_units.specs.declared.unit.PeerKey.{PeerKey}
use Rattle.peer_units.specs.Plain.{Unit as ReplayUnit}
use Rattle.mrt_body.specs.RibDumps.{DumpsState, peer_cmp, hear, heard_of, dumps_with}
use Rattle.mrt_body.specs.Units.{clear_unit, clears_if}

one_more : (o : Ordering) (peer q : PeerKey) (peers : List PeerKey) → length (hear peers peer) ≤ length peers + 1 → length (match_ordering o (peer ∷ q ∷ peers) (q ∷ peers) (q ∷ hear peers peer)) ≤ length (q ∷ peers) + 1
one_more Less peer q peers h = omega arith
one_more Equal peer q peers h = omega arith
one_more Greater peer q peers h = omega (arith, h)

length-hear : (peers : List PeerKey) (peer : PeerKey) → length (hear peers peer) ≤ length peers + 1
length-hear [] peer = omega arith
length-hear (q ∷ peers) peer = one_more (peer_cmp peer q) peer q peers (length-hear peers peer)

-- at most one more of each unit
pub few_heard : (ribs : RibRule) (heard : List PeerKey) (units : List ReplayUnit) → length (heard_of ribs heard units) ≤ length heard + length units
few_heard Add heard units = omega arith
few_heard Replace heard [] = omega arith
few_heard Replace heard (unit ∷ units) = omega (arith, few_heard Replace (hear heard unit.peer) units, length-hear heard unit.peer)

-- the clears of a dump that begins are as many as the peers that were heard, of which none is left
cleared : (begun : Bool) (at : RecordAt) (heard : List PeerKey) → length (clears_if begun at heard) + length (if begun then [] else heard) ≡ length heard
cleared true at heard = omega (arith, length-map heard (clear_unit at))
cleared false at heard = omega arith

-- behind a RIB record of few entries
pub few_behind : (ribs : RibRule) (begun : Bool) (at : RecordAt) (dumps behind : DumpsState) (entries waiting : List ReplayUnit)
    → waiting ≡ clears_if begun at dumps.heard → behind ≡ dumps_with ribs begun dumps entries → length entries ≤ 65535
    → (0 + length (waiting ++ entries)) + length behind.heard ≤ 131070 + length dumps.heard
few_behind ribs begun at dumps behind entries waiting w d few =
    omega (arith, few, length-append waiting entries, ap length w, ap (λ (x : DumpsState). length x.heard) d, few_heard ribs (if begun then [] else dumps.heard) entries, cleared begun at dumps.heard)
