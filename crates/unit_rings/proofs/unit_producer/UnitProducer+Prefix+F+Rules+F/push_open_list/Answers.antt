use Rattle.std.proofs.Common.{◌≡◌, ◌+◌, length, arith}
use Rattle.std.proofs.lemmas.Result.{on_ok_weaker}
use Rattle.unit_rings.specs.UnitLists.{units_of}
use Rattle.unit_rings.specs.UnitRings.{known_free}
use Rattle.unit_rings.proofs.unit_producer.UnitProducer+Prefix+F+Rules+F.push_open_list.Goals as goal

-- as many more units may wait as before
pub returns-clause-free : goal.returns-clause-free
returns-clause-free g c =
    let list = c.take_open_list-list.result in
    let more = c.take_open_list-list.ensures.free in
    let same : known_free c.take_open_list-list.new.self ≡ known_free c.push_list.new.self + length (units_of list) → known_free c.push_list.new.self ≡ known_free c.args.self.now = λ fewer. omega arith in
    on_ok_weaker c.push_list.result same c.push_list.ensures.free
