use Rattle.std.proofs.Common.{◌∙◌, sym}
use Rattle.tsplex.proofs.TextLemmas.{from_word_own}
use Rattle.tsplex.proofs.text.behind_spaces.Goals as goal

pub returns-then-not-is_blank-clause-rest : goal.returns-then-not-is_blank-clause-rest
returns-then-not-is_blank-clause-rest c = sym (from_word_own _ _ _ c.in-Some.ensures.cases.0 c.if-byte-eq10.false (cc)) ∙ c.loop-byte.invariant.from
