use Rattle.std.proofs.Common.{[]}
use Rattle.selection_laws.proofs.ChosenPrefixes.{prefixes_kept}
use Rattle.selection_laws.proofs.Narrowed.{refusals_same}
use Rattle.selection_laws.proofs.laws.chosen_prefixes_are_of_all.Goals as goal

pub returns : goal.returns
returns c = record {
  units = λ selection files added. prefixes_kept selection added files;
  refused = λ selection files. refusals_same selection selection.peers selection.share [] files;
}
