use Rattle.std.proofs.Common.{rules, ◌≡◌, sym, Some, None, true, false}
use Rattle.std.proofs.lemmas.List.{append-nil}
use Rattle.bgp_update.specs.declared.attribute_type.AttributeType.TheVariants.{AsPath}
use Rattle.bgp_update.specs.Values.{kept_value}
use Rattle.bgp_update.proofs.PackedReadings.{four_route}
use Rattle.bgp_update.proofs.packing.push_four.Goals as goal

pub returns-in_ok-extend_from_slice-in-Some : goal.returns-in_ok-extend_from_slice-in-Some
returns-in_ok-extend_from_slice-in-Some c =
    let path : Some c.in-Some.path.now ≡ kept_value c.args.first.now AsPath = search rules in
    let there : c.is_some.result ≡ true = search rules in
    let front = c.in_ok-push_front.ensures in
    four_route c.args.first.now c.args.kept.now c.args.hop.now (Some c.in-Some.path.now) c.is_some.result c.args.out.now.items c.push_front.new.out.items c.extend_from_slice.new.self.items
    c.requires front.widths path there front.bytes c.in_ok-extend_from_slice-in-Some.ensures.items

pub returns-in-None : goal.returns-in-None
returns-in-None c =
    let path : None ≡ kept_value c.args.first.now AsPath = search rules in
    let none : c.is_some.result ≡ false = search rules in
    let front = c.in_ok-push_front.ensures in
    four_route c.args.first.now c.args.kept.now c.args.hop.now None c.is_some.result c.args.out.now.items c.push_front.new.out.items c.push_front.new.out.items
    c.requires front.widths path none front.bytes (sym (append-nil c.push_front.new.out.items))
