use Rattle.std.proofs.Common.{sym}
use Rattle.route_choice.proofs.PieceLaws.{not_matched}
use Rattle.route_choice.proofs.matching.matches.Goals as goal

pub returns-in-Short : goal.returns-in-Short
returns-in-Short c = sym (not_matched c.args.mask.now c.args.path c.end_of_piece.new.path c.end_of_piece.result c.end_of_piece.ensures c.in-Short.is)
