use Rattle.bzip2_reader.proofs.FairBlocks.{block_takes, fair_block}
use Rattle.bzip2_reader.proofs.laws.blocks_stand_alone.Goals as goal

pub returns : goal.returns
returns c = record {
  steady = fair_block.steady;
  takes = block_takes;
}
