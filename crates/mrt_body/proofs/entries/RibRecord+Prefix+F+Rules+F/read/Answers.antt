use Rattle.std.proofs.Common.{◌≡◌, sym, ap}
use Rattle.bgp_update.specs.Families.{RouteRules}
use Rattle.mrt_body.proofs.EntryLaws.{all_units, all_listed, no_units, units_fail_early, rest-le}
use Rattle.mrt_body.proofs.entries.RibRecord+Prefix+F+Rules+F.read.Goals as goal

pub overflow_sub-start : goal.overflow_sub-start
overflow_sub-start g c =
    let family : g.F.Unicast.family ≡ c.args.rules.family = sym (ap (λ (r : RouteRules). r.family) c.kept-kept.ensures) in
    rest-le c.args.rules c.args.at c.args.peers.now c.args.add_path c.as_slice-bytes.result.now c.in-Ok.head.prefix c.in-Ok.head.count c.in-Ok.rest.now (rw family at c.in-Ok.ensures.reads)

pub returns-in-Ok-list_entries-clause-units : goal.returns-in-Ok-list_entries-clause-units
returns-in-Ok-list_entries-clause-units g c =
    let family : g.F.Unicast.family ≡ c.args.rules.family = sym (ap (λ (r : RouteRules). r.family) c.kept-kept.ensures) in
    all_units c.args.rules c.args.at c.args.peers.now c.args.add_path c.args.body c.in-Ok.head.prefix c.in-Ok.head.count c.in-Ok.rest.now c.list_entries.new.list.items (rw (c.as_slice-bytes.ensures, family) at c.in-Ok.ensures.reads) (rw c.as_slice-bytes.ensures at c.in-Ok-list_entries.ensures.listed) c.in-Ok-list_entries.ensures.numbered

pub returns-in-Ok-list_entries-clause-listed : goal.returns-in-Ok-list_entries-clause-listed
returns-in-Ok-list_entries-clause-listed g c =
    all_listed c.args.rules c.args.at c.args.peers.now c.args.add_path c.args.body c.in-Ok.head.prefix c.in-Ok.head.count c.in-Ok.rest.now c.list_entries.new.list.items c.in-Ok.ensures.few (rw c.as_slice-bytes.ensures at c.in-Ok-list_entries.ensures.listed) (rw c.as_slice-bytes.ensures at c.in-Ok-list_entries.ensures.within)

pub returns-in-Err-list_entries-clause-units : goal.returns-in-Err-list_entries-clause-units
returns-in-Err-list_entries-clause-units g c =
    let family : g.F.Unicast.family ≡ c.args.rules.family = sym (ap (λ (r : RouteRules). r.family) c.kept-kept.ensures) in
    no_units c.args.rules c.args.at c.args.peers.now c.args.add_path c.args.body c.in-Ok.head.prefix c.in-Ok.head.count c.in-Ok.rest.now c.in-Err-list_entries.error (rw (c.as_slice-bytes.ensures, family) at c.in-Ok.ensures.reads) (rw c.as_slice-bytes.ensures at c.in-Err-list_entries.ensures.listed)

pub returns-in-Err-clause-units : goal.returns-in-Err-clause-units
returns-in-Err-clause-units g c =
    let family : g.F.Unicast.family ≡ c.args.rules.family = sym (ap (λ (r : RouteRules). r.family) c.kept-kept.ensures) in
    units_fail_early c.args.rules c.args.at c.args.peers.now c.args.add_path c.args.body c.in-Err.fault (rw (c.as_slice-bytes.ensures, family) at c.in-Err.ensures.reads)
