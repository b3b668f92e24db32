-- Bodies that are written are read.
use Rattle.std.proofs.Common.{◌≡◌, ℕ, ◌+◌, ◌^◌, ◌<◌, Bool, false, List, [], ◌∷◌, length, map, Some, Ok, refl, ap, ◌∙◌, arith}
use Rattle.std.specs.List.{AllByRecursion}
use Rattle.std.proofs.lemmas.List.{length-map}
use Rattle.bgp_prefix.specs.Prefixes.{IpPrefix}
use Rattle.bgp_update.specs.declared.route.Route.{Route}
use Rattle.bgp_update.specs.declared.width.Width.TheVariants.{Four}
use Rattle.bgp_update.specs.Families.{RouteRules, Rules, by_entry_width, route_rules}
use Rattle.bgp_prefix.specs.Keys.{RouteKey}
use Rattle.peer_units.specs.Choices.{UnitSelection}
use Rattle.peer_units.specs.declared.state_peers.StatePeers.{StatePeers}
use Rattle.peer_units.specs.declared.state_peers.StatePeers.TheVariants.{Recorded, Local, ByAs}
use Rattle.peer_units.specs.declared.state_rule.StateRule.{StateRule}
use Rattle.peer_units.specs.declared.unit.PeerAddr.{PeerAddr}
use Rattle.peer_units.specs.declared.unit.PeerAddr.TheVariants.{V4, V6}
use Rattle.peer_units.specs.declared.unit.PeerKey.{PeerKey}
use Rattle.peer_units.specs.declared.unit.Payload.TheVariants.{State, Entry}
use Rattle.peer_units.specs.declared.meaning.Event.TheVariants as event
use Rattle.peer_units.specs.Plain.{Unit as ReplayUnit}
use Rattle.peer_units.specs.Events.{event_in}
use Rattle.mrt_body.specs.declared.record_place.RecordAt.{RecordAt}
use Rattle.mrt_body.specs.Indexes.{FitsAddr, FitsPeer, index_bytes, peer_of, peers_in}
use Rattle.mrt_body.specs.Bgp4mp.{FitsSession, change_with, session_ends, state_change_in}
use Rattle.mrt_body.specs.KnownPeers.{told_peers}
use Rattle.mrt_body.specs.RibRecords.{RibForm, FitsEntry, FitsRib, rib_bytes}
use Rattle.mrt_body.specs.Units.{rib_units_in, rib_units, entry_units, rib_unit, change_unit, state_units, states_unit, session_unit}
use Rattle.mrt_body.proofs.ManyLaws.{done}
use Rattle.mrt_body.proofs.RibForms.{rib_body-again}
use Rattle.mrt_body.proofs.PeerForms.{index_body-again}
use Rattle.mrt_body.proofs.SessionForms.{states_body-again}
use Rattle.mrt_writing.specs.RibRecords.{PrefixRoute, entry_field, written_entry, written_rib, FitsPrefixRoute, FitsPrefixRecord, units_of_entries}
use Rattle.mrt_writing.specs.RouteAttributes.{FitsEntryRoute}
use Rattle.mrt_writing.specs.Heads.{written_peer, written_index, FitsPeerKey, written_session, states_bytes}
use Rattle.mrt_writing.proofs.RouteLaws.{entry_again}
use Rattle.mrt_writing.proofs.PrefixLaws.{prefix_again, octets_are}

-- ---- RIB records

entries_fit : (rules : RouteRules) (add_path : Bool) (peers originated : ℕ) (entries : List PrefixRoute) → originated < 256 ^ 4 → AllByRecursion (FitsPrefixRoute rules add_path peers) entries
    → AllByRecursion (FitsEntry add_path peers) (map (written_entry rules.family originated) entries)
entries_fit rules add_path peers originated [] o h = tt
entries_fit rules add_path peers originated (e ∷ entries) o h =
    (record { known = h.0.known; peer = h.0.peer; originated = o; identifier = h.0.id; attributes = h.0.route.short }, entries_fit rules add_path peers originated entries o h.1)

units_are : (rules : Rules) (at : RecordAt) (peers : List PeerKey) (prefix : IpPrefix) (originated number : ℕ) (entries : List PrefixRoute)
    → entry_units rules at peers prefix number (map (written_entry rules.family originated) entries) ≡ units_of_entries rules at peers prefix number entries
units_are rules at peers prefix originated number [] = refl
units_are rules at peers prefix originated number (e ∷ entries) =
    ap (λ (units : List ReplayUnit). rib_unit rules at peers number e.peer (record { prefix = prefix; id = e.id }) (entry_field rules.family e.route) ∷ units) (units_are rules at peers prefix originated (number + 1) entries)

pub rib_again : (rules : Rules) (at : RecordAt) (add_path : Bool) (peers : List PeerKey) (originated sequence : ℕ) (prefix : IpPrefix) (entries : List PrefixRoute)
    → FitsPrefixRecord (route_rules rules) add_path (length peers) originated sequence prefix entries
    → rib_units_in rules at add_path (Some peers) (rib_bytes add_path (written_rib rules.family originated sequence prefix entries)) ≡ Ok (units_of_entries rules at peers prefix 1 entries)
rib_again rules at add_path peers originated sequence prefix entries h =
    let form : RibForm = written_rib rules.family originated sequence prefix entries in
    let fits : FitsRib rules.family add_path (length peers) form = record {
      sequence = h.numbered;
      short = h.short;
      octets = octets_are prefix h.formed.short;
      count = omega (arith, h.count, length-map entries (written_entry rules.family originated));
      entries = entries_fit (route_rules rules) add_path (length peers) originated entries h.time h.each;
    } in
    rib_body-again rules at add_path (Some peers) (rib_bytes add_path form) (rib_units rules at (Some peers) form) (record { form = form; fits = fits; spelled = refl; said = refl })
    ∙ ap (λ (units : List ReplayUnit). Ok units)
    (ap (λ (p : IpPrefix). entry_units rules at peers p 1 form.entries) (prefix_again prefix h.formed) ∙ units_are rules at peers prefix originated 1 entries)

pub event_again : (rules : Rules) (key : RouteKey) (route : Route) → FitsEntryRoute (route_rules rules) route → event_in (Entry (by_entry_width Four rules) key (entry_field rules.family route)) ≡ Ok (event.Rib key route)
unfolding event_in
event_again rules key route h = rw (entry_again (route_rules rules) route h) refl

-- ---- index tables

peer_fits : (p : PeerKey) → FitsPeerKey p → FitsPeer (written_peer p)
peer_fits p h = by_addr p.addr p.asn h.addr h.asn
  where
    by_addr : (addr : PeerAddr) (asn : ℕ) → FitsAddr addr → asn < 256 ^ 4 → FitsPeer (written_peer (record { asn = asn; addr = addr }))
    by_addr (V4 a) asn fits small = record { flags = omega arith; id = omega arith; family = refl; addr = fits; asn = small }
    by_addr (V6 a) asn fits small = record { flags = omega arith; id = omega arith; family = refl; addr = fits; asn = small }

peers_fit : (peers : List PeerKey) → AllByRecursion FitsPeerKey peers → AllByRecursion FitsPeer (map written_peer peers)
peers_fit [] h = tt
peers_fit (p ∷ peers) h = (peer_fits p h.0, peers_fit peers h.1)

peers_are : (peers : List PeerKey) → peers ≡ map peer_of (map written_peer peers)
peers_are [] = refl
peers_are (p ∷ peers) = ap (λ (others : List PeerKey). p ∷ others) (peers_are peers)

pub index_again : (peers : List PeerKey) → length peers < 256 ^ 2 → AllByRecursion FitsPeerKey peers → peers_in (index_bytes (written_index peers)) ≡ Ok peers
index_again peers few h =
    index_body-again (index_bytes (written_index peers)) peers (record {
      form = written_index peers;
      fits = record { collector = omega arith; view = omega arith; count = omega (arith, few, length-map peers written_peer); peers = peers_fit peers h };
      spelled = refl;
      said = peers_are peers;
    })

-- ---- state changes

pub session_fits : (p : PeerKey) → FitsPeerKey p → FitsSession Four (written_session p)
session_fits p h = by_addr p.addr p.asn h.addr h.asn
  where
    by_addr : (addr : PeerAddr) (asn : ℕ) → FitsAddr addr → asn < 256 ^ 4 → FitsSession Four (written_session (record { asn = asn; addr = addr }))
    by_addr (V4 a) asn fits small = record { peer_as = small; local_as = omega arith; interface = omega arith; family = refl; peer_addr = fits; local_addr = omega arith }
    by_addr (V6 a) asn fits small = record { peer_as = small; local_as = omega arith; interface = omega arith; family = refl; peer_addr = fits; local_addr = omega arith }

change_again : (p : PeerKey) (from to : ℕ) → FitsPeerKey p → from < 256 ^ 2 → to < 256 ^ 2
    → state_change_in false Four (states_bytes p from to) ≡ Ok (change_with 0 (session_ends (written_session p)) (from, to))
change_again p from to h f t =
    states_body-again false Four (states_bytes p from to) (change_with 0 (session_ends (written_session p)) (from, to)) (record {
      microseconds = 0;
      session = written_session p;
      from = from;
      to = to;
      fits_microseconds = refl;
      fits_session = session_fits p h;
      fits_from = f;
      fits_to = t;
      spelled = refl;
      said = refl;
    })

pub states_again : (rule : StateRule) (at : RecordAt) (p : PeerKey) (from to : ℕ) → FitsPeerKey p → from < 256 ^ 2 → to < 256 ^ 2
    → states_unit rule at false Four (states_bytes p from to) ≡ Ok (session_unit at 0 p (State from to rule))
unfolding states_unit
states_again rule at p from to h f t = rw (change_again p from to h f t) refl

-- no local end is named, so that it is the recorded peer's by each rule
told_again : (rule : StatePeers) (known : List PeerKey) (p : PeerKey) → told_peers rule known (session_ends (written_session p)) ≡ p ∷ []
told_again rule known p = by_addr rule p.addr p.asn
  where
    by_addr : (rule : StatePeers) (addr : PeerAddr) (asn : ℕ) → told_peers rule known (session_ends (written_session (record { asn = asn; addr = addr }))) ≡ record { asn = asn; addr = addr } ∷ []
    by_addr Recorded addr asn = refl
    by_addr Local (V4 a) asn = refl
    by_addr Local (V6 a) asn = refl
    by_addr ByAs (V4 a) asn = refl
    by_addr ByAs (V6 a) asn = refl

pub change_read : (selection : UnitSelection) (known : List PeerKey) (at : RecordAt) (p : PeerKey) (from to : ℕ) → FitsPeerKey p → from < 256 ^ 2 → to < 256 ^ 2
    → state_units selection known at false Four (states_bytes p from to) ≡ Ok (session_unit at 0 p (State from to selection.states) ∷ [])
change_read selection known at p from to h f t =
    rw (change_again p from to h f t) (ap (λ (peers : List PeerKey). done (map (change_unit selection.states at (change_with 0 (session_ends (written_session p)) (from, to))) peers)) (told_again selection.state_peers known p))
