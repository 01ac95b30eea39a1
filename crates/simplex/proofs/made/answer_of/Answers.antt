use Rattle.std.proofs.Common.{◌≡◌, pos, ap, sym, ◌∙◌, to_z, arith}
use Rattle.std.specs.Int.{w128}
use Rattle.std.proofs.lemmas.Int.{ints}
use Rattle.simplex.proofs.AnswerLemmas.{whole, solved_is, rough_is, not_good}
use Rattle.simplex.proofs.made.answer_of.Goals as goal

pub returns-then-judged : goal.returns-then-judged
returns-then-judged c =
    let vector = c.in_ok-duals.ensures ∙ c.deref-2.ensures.value in
    let same = vector ∙ whole c.judge.new.ys c.in_ok-ys.ys.items c.in_ok-ys.ys.len c.in_ok-ys.ys.ok.0 (c.in_ok-judged.ensures.duals.all ∙ sym c.in_ok-ys.ensures.all) in (
      solved_is c.args.n c.args.rows.now c.args.cols.now c.in_ok-x.x c.in_ok-entries_of.field-0.items c.deref.result.now c.judge.new.ys c.in_ok-duals.duals.items _
          c.in_ok-x.ensures c.in_ok-entries_of.ensures.pairs (c.deref.ensures.value ∙ c.in_ok-xs.ensures) c.in_ok-judged.ensures.duals same
          (c.in_ok-judged.ensures.good.0 c.if-judged.true) (omega (arith, ints, c.in_ok-judged.ensures.gap)),
      vector,
    )

pub returns : goal.returns
returns c =
    let vector = c.in_ok-duals.ensures ∙ c.deref-2.ensures.value in
    let same = vector ∙ whole c.judge.new.ys c.in_ok-ys.ys.items c.in_ok-ys.ys.len c.in_ok-ys.ys.ok.0 (c.in_ok-judged.ensures.duals.all ∙ sym c.in_ok-ys.ensures.all) in
    let fits : to_z w128 c.in_ok-judged.judged.fault ≡ pos c.in_ok-judged.judged.fault = omega (arith, ints, c.in_ok-judged.ensures.small) in (
      rough_is c.args.n c.args.rows.now c.args.cols.now c.in_ok-x.x c.in_ok-entries_of.field-0.items c.deref.result.now c.judge.new.ys c.in_ok-duals.duals.items _ _
          c.in_ok-x.ensures c.in_ok-entries_of.ensures.pairs (c.deref.ensures.value ∙ c.in_ok-xs.ensures) c.in_ok-judged.ensures.duals same
          (not_good _ _ c.in_ok-judged.ensures.good c.if-judged.false) (c.in_ok-judged.ensures.rests c.if-judged.false) (fits ∙ ap pos c.in_ok-judged.ensures.fault) (omega (arith, ints, c.in_ok-judged.ensures.gap)),
      vector,
    )
