use Rattle.ip_text.proofs.SpellingLaws.{one_number}
use Rattle.command_line.proofs.Plain.{plain_ipv6}
use Rattle.command_line.proofs.address_text.Ipv6AddressText.texts_spell_one_address.Goals as goal

pub returns-clause-one : goal.returns-clause-one
returns-clause-one c = one_number

pub returns-clause-plain : goal.returns-clause-plain
returns-clause-plain c = plain_ipv6
