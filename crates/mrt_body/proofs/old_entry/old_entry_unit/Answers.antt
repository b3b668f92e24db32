use Rattle.std.proofs.Common.{◌≡◌, sym, ap}
use Rattle.bgp_update.specs.Families.{RouteRules}
use Rattle.mrt_body.proofs.OldParts.{no_prefix, no_peer, no_attributes, attributes-le, unit_is}
use Rattle.mrt_body.proofs.old_entry.old_entry_unit.Goals as goal

pub returns-in-Err-clause-reads : goal.returns-in-Err-clause-reads
returns-in-Err-clause-reads g c =
    let family : g.F.Unicast.family ≡ c.args.rules.family = sym (ap (λ (r : RouteRules). r.family) c.kept-kept.ensures) in
    no_prefix c.args.rules c.args.at c.args.body c.in-Err.fault (rw (c.as_slice-bytes.ensures, family) at c.in-Err.ensures)

pub returns-in-Err-old_peer_at-clause-reads : goal.returns-in-Err-old_peer_at-clause-reads
returns-in-Err-old_peer_at-clause-reads g c =
    let family : g.F.Unicast.family ≡ c.args.rules.family = sym (ap (λ (r : RouteRules). r.family) c.kept-kept.ensures) in
    no_peer c.args.rules c.args.at c.args.body c.in-Ok.read.0 c.in-Ok.read.1.now (rw (c.as_slice-bytes.ensures, family) at c.in-Ok.ensures)
    c.in-Err-old_peer_at.fault (rw (c.is_ipv6_family.ensures, family) at c.in-Err-old_peer_at.ensures)

pub returns-in-Err-old_attributes_in-clause-reads : goal.returns-in-Err-old_attributes_in-clause-reads
returns-in-Err-old_attributes_in-clause-reads g c =
    let family : g.F.Unicast.family ≡ c.args.rules.family = sym (ap (λ (r : RouteRules). r.family) c.kept-kept.ensures) in
    no_attributes c.args.rules c.args.at c.args.body c.in-Ok.read.0 c.in-Ok.read.1.now (rw (c.as_slice-bytes.ensures, family) at c.in-Ok.ensures)
    c.in-Ok-old_peer_at.read.0 c.in-Ok-old_peer_at.read.1.now (rw (c.is_ipv6_family.ensures, family) at c.in-Ok-old_peer_at.ensures)
    c.in-Err-old_attributes_in.fault c.in-Err-old_attributes_in.ensures

pub overflow_sub-start : goal.overflow_sub-start
overflow_sub-start g c =
    let family : g.F.Unicast.family ≡ c.args.rules.family = sym (ap (λ (r : RouteRules). r.family) c.kept-kept.ensures) in
    attributes-le c.args.rules c.args.at c.as_slice-bytes.result.now c.in-Ok.read.0 c.in-Ok.read.1.now (rw family at c.in-Ok.ensures)
    c.in-Ok-old_peer_at.read.0 c.in-Ok-old_peer_at.read.1.now (rw (c.is_ipv6_family.ensures, family) at c.in-Ok-old_peer_at.ensures)
    c.in-Ok-old_attributes_in.attributes.now c.in-Ok-old_attributes_in.ensures

pub returns-clause-reads : goal.returns-clause-reads
returns-clause-reads g c =
    let family : g.F.Unicast.family ≡ c.args.rules.family = sym (ap (λ (r : RouteRules). r.family) c.kept-kept.ensures) in
    rw (c.place.ensures, c.time.ensures, c.with_entry_width.ensures, c.new.ensures, c.as_slice-bytes.ensures)
    (unit_is c.args.rules c.args.at c.args.body c.in-Ok.read.0 c.in-Ok.read.1.now (rw (c.as_slice-bytes.ensures, family) at c.in-Ok.ensures)
    c.in-Ok-old_peer_at.read.0 c.in-Ok-old_peer_at.read.1.now (rw (c.is_ipv6_family.ensures, family) at c.in-Ok-old_peer_at.ensures)
    c.in-Ok-old_attributes_in.attributes.now c.in-Ok-old_attributes_in.ensures)
