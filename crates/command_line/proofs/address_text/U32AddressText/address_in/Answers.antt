use Rattle.command_line.proofs.Plain.{no_bits}
use Rattle.command_line.proofs.address_text.U32AddressText.address_in.Goals as goal

pub returns-clause-none : goal.returns-clause-none
returns-clause-none c = no_bits c.address_in.result c.args.text.now c.address_in.ensures.none
