use Rattle.std.proofs.Common.{[], None}
use Rattle.selection_laws.proofs.ChosenPeers.{peers_kept}
use Rattle.selection_laws.proofs.Narrowed.{refusals_same}
use Rattle.selection_laws.proofs.laws.chosen_peers_are_of_all.Goals as goal

pub returns : goal.returns
returns c = record {
  units = peers_kept;
  refused = λ selection files. refusals_same selection [] None selection.prefixes files;
}
