use Rattle.std.proofs.Common.{◌∙◌, sym}
use Rattle.prefix_maps.proofs.ListedLaws.{entries_now-map}
use Rattle.prefix_maps.proofs.flat.Flat.entries.Goals as goal

pub returns-clause-entries : goal.returns-clause-entries
returns-clause-entries g c = sym (entries_now-map c.append_to.new.all.items) ∙ rw c.in_ok-all.ensures.items at c.append_to.ensures.entries
