use Rattle.std.proofs.Common.{◌∙◌, arith}
use Rattle.std.proofs.lemmas.List.{get_or_default}
use Rattle.chunked_map.proofs.ChunkedMapLaws.{first_in, some_in}
use Rattle.chunked_map.proofs.level.Level.first.Goals as goal

pub index-requires : goal.index-requires
index-requires g c = omega (arith, some_in c.args.self.now.firsts.items _ c.requires.nodes c.requires.some)

pub returns : goal.returns
returns g c =
    first_in _ _ _ c.requires.nodes c.requires.some
    (λ d. c.index.ensures ∙ get_or_default c.args.self.now.firsts.items 0 c.index.result.now d (some_in _ _ c.requires.nodes c.requires.some))
