use Rattle.std.proofs.Common.{◌≡◌, ◌++◌, cond, [], ap, ◌∙◌}
use Rattle.mrt_body.specs.RibRecords.{entry_bytes}
use Rattle.mrt_writing.specs.RibRecords.{entry_field}
use Rattle.checkpoint_writing.specs.declared.prefix_records.PrefixRecords.{PrefixRecords}
use Rattle.checkpoint_writing.proofs.DumpLaws.{open_next}
use Rattle.checkpoint_writing.proofs.prefix_records.PrefixRecords.put_route.Goals as goal

pub returns-clause-begun : goal.returns-clause-begun
returns-clause-begun g c =
    let family = g.F.Unicast.family in
    let before = c.args.self.now in
    let route = c.args.route.now in
    let f = c.in_ok-fits.fits in
    let mid = c.make_room.new.self in
    let encoded = c.encode.ensures.others in
    let seconds : mid.seconds ≡ before.seconds = c.make_room.ensures.seconds ∙ ap (λ (s : PrefixRecords). s.seconds) encoded in
    let attributes : mid.attributes.items ≡ entry_field family route.route = c.make_room.ensures.attributes ∙ c.in_ok-encode.ensures.attributes in
    let entries : mid.entries.items ≡ cond f before.entries.items [] = c.in_ok-fits.ensures.entries ∙ ap (λ (s : PrefixRecords). cond f s.entries.items []) encoded in
    open_next family c.args.add_path before.seconds c.args.prefix.now f c.args.part.now route before.entries.items mid.entries.items c.push_entry.new.self.entries.items c.requires.begun c.in_ok-fits.ensures.fits c.requires.short entries
    (c.in_ok-push_entry.ensures.entry ∙ λ i. mid.entries.items ++ entry_bytes c.args.add_path (record { peer = route.peer; originated = seconds i; identifier = route.id; attributes = attributes i }))
