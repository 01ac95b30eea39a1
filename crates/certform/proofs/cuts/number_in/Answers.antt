use Rattle.std.proofs.Common.{sym, ◌∙◌}
use Rattle.certform.proofs.Loops.{number_found, number_missing}
use Rattle.certform.proofs.cuts.number_in.Goals as goal

pub returns-in-Some : goal.returns-in-Some
returns-in-Some c = number_found c.args.cut c.args.cuts.now.keys c.in-Some.index (sym c.get_index_of.ensures.index ∙ c.in-Some.is)

pub returns-in-None : goal.returns-in-None
returns-in-None c = let n = number_missing c.args.cut c.args.cuts.now.keys (sym c.get_index_of.ensures.index ∙ c.in-None.is) in cc
