-- What jobs have read and decoded.
use Rattle.std.specs.Prelude.{◌≡◌, ℕ, List, Result, Some}
use Rattle.bzip2_reader.specs.declared.batch.Job.{Job}
use Rattle.bzip2_reader.specs.declared.block.Text.{Text}
use Rattle.bzip2_reader.specs.declared.fault.BlockFault.{BlockFault}
use Rattle.bzip2_reader.specs.Texts.{IsBlock, IsText}

-- what was read at the job's place is what the bits from there on say, if its links are walked
abbrev pub IsRead : List ℕ → Job → Type 0
IsRead bits job = (at : ℕ) (text : Result Text BlockFault) → job.start ≡ Some at → job.text ≡ Some text → IsText bits at text job.links.items

-- what was decoded at the job's place is what the bits from there on say
abbrev pub HasRun : List ℕ → Job → Type 0
HasRun bits job = (at : ℕ) (text : Result Text BlockFault) → job.start ≡ Some at → job.text ≡ Some text → IsBlock bits at text job.raw.items
