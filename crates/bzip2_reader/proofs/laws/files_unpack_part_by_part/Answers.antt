use Rattle.bzip2_reader.proofs.PartLaws.{unpack_end, unpack_fault, unpack_next}
use Rattle.bzip2_reader.proofs.laws.files_unpack_part_by_part.Goals as goal

pub returns : goal.returns
returns c = record {
  next = unpack_next;
  fault = unpack_fault;
  end = unpack_end;
}
