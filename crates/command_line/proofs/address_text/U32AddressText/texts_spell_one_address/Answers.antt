use Rattle.command_line.proofs.Plain.{one_bits, plain_bits}
use Rattle.command_line.proofs.address_text.U32AddressText.texts_spell_one_address.Goals as goal

pub returns-clause-one : goal.returns-clause-one
returns-clause-one c = one_bits

pub returns-clause-plain : goal.returns-clause-plain
returns-clause-plain c = plain_bits
