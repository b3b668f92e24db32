use Rattle.ip_text.proofs.SpellingLaws.{one_number}
use Rattle.ip_text.proofs.spelled.one_address_to_a_text.Goals as goal

pub returns : goal.returns
returns c = one_number
