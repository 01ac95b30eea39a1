use Rattle.std.proofs.Common.{sym, ◌∙◌, arith}
use Rattle.std.proofs.lemmas.Bool.{false≢true}
use Rattle.cutform.specs.Cut.{cities_of_each}
use Rattle.sepcomb.proofs.CombLemmas.{comb_or_none, few_make_none}
use Rattle.sepcomb.proofs.comb_of.Goals as goal

pub returns-then-not-is_large-clause-comb : goal.returns-then-not-is_large-clause-comb
returns-then-not-is_large-clause-comb c = λ cut is. absurd (false≢true (sym c.if-not-is_large.true ∙ c.is_large.ensures.1 is.size))

pub returns-clause-comb : goal.returns-clause-comb
returns-clause-comb c =
    comb_or_none c.args.x.now c.args.handle.now c.deref.result.now c.in_ok-pairs.pairs.items (cities_of_each c.in_ok-teeth.teeth.items) c.in_ok-cut.cut
    c.in_ok-pairs.ensures c.deref.ensures.value c.in_ok-teeth.ensures (c.is_large.ensures.0 c.if-not-is_large.false) c.in_ok-cut.ensures.comb

pub returns-then-len-lt3-clause-comb : goal.returns-then-len-lt3-clause-comb
returns-then-len-lt3-clause-comb c = λ cut is.
    few_make_none c.args.x.now c.args.handle.now c.in_ok-pairs.pairs.items cut c.in_ok-pairs.ensures (let l = c.len.ensures in let t = c.if-len-lt3.true in grind arith) is
