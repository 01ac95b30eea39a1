use Rattle.std.proofs.Common.{sym, ◌∙◌}
use Rattle.tapeboss.proofs.ReadLemmas.{from_one}
use Rattle.tapeboss.proofs.content.next_cut_dual.Goals as goal

pub returns-in-Some-clause-number : goal.returns-in-Some-clause-number
returns-in-Some-clause-number c = (from_one c.args.so_far.now c.in-Some.dual.0 (sym c.may_follow.ensures ∙ c.if-may_follow.true), c.if-dual-listed.true)
