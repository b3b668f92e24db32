use Rattle.std.proofs.Common.{◌≡◌, true, false, eqb, ap, sym, ◌∙◌}
use Rattle.std.specs.List.{list_any}
use Rattle.std.specs.Net.Addr.{ipv6_segments}
use Rattle.ip_text.specs.Spellings.{number_of_groups}
use Rattle.ip_text.proofs.SpellingLaws.{spelled_have_none, none_from_test, test_from_none, colon_hex, spelled_from}
use Rattle.command_line.proofs.ipv6.ipv6_in.Goals as goal

-- a point stands in no text of the two forms
pub returns-then-contains-clause-none : goal.returns-then-contains-clause-none
returns-then-contains-clause-none c =
    let text = c.args.text.now in
    let test : c.contains.result ≡ list_any (λ byte. eqb byte 46) text = c.contains.ensures.value in
    let found : c.contains.result ≡ true = c.if-contains.true in
    λ number h.
    let none : list_any (λ byte. eqb byte 46) text ≡ false = test_from_none text (spelled_have_none text h.groups h.spelled) in
    let both : true ≡ false = sym found ∙ test ∙ none in
    cc

pub returns-in-Ok-clause-some : goal.returns-in-Ok-clause-some
returns-in-Ok-clause-some c =
    let text = c.args.text.now in
    let test : c.contains.result ≡ list_any (λ byte. eqb byte 46) text = c.contains.ensures.value in
    let none : c.contains.result ≡ false = c.if-contains.false in
    record {
      groups = ipv6_segments c.in-Ok.addr;
      spelled = spelled_from text (ipv6_segments c.in-Ok.addr) (none_from_test text (sym test ∙ none)) c.in-Ok.ensures;
      value = c.new.ensures ∙ c.number_of.ensures ∙ ap (number_of_groups 65536) c.segments.ensures;
    }

pub returns-in-Err-clause-none : goal.returns-in-Err-clause-none
returns-in-Err-clause-none c = λ number h. c.in-Err.ensures (record { segments = h.groups }) (colon_hex c.args.text.now h.groups h.spelled)
