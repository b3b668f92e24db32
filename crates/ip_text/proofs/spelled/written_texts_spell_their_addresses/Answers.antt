use Rattle.ip_text.proofs.WrittenLaws.{IsIpv6Text-short_ipv6_text}
use Rattle.ip_text.proofs.spelled.written_texts_spell_their_addresses.Goals as goal

pub returns : goal.returns
returns c = IsIpv6Text-short_ipv6_text
