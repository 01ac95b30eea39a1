use Rattle.std.proofs.Common.{◌≡◌, ◌+◌, ◌-◌, ◌*◌, ◌^◌, sym, ap, ◌∙◌, arith}
use Rattle.tsplex.specs.Number.{sized}
use Rattle.tsplex.proofs.WholeLemmas.{judged_nothing, judged_fraction, judged_far, judged_whole, capped_below, capped_far, capped_near}
use Rattle.tsplex.proofs.number.judged.Goals as goal

pub returns-then-kept-eq0-clause-same : goal.returns-then-kept-eq0-clause-same
returns-then-kept-eq0-clause-same c = λ v q k p. sym (judged_nothing c.args.most _ _ (record { negative = c.args.negative; digits = v; up = q.0; down = q.1 + c.args.places }) k (omega arith))

pub returns-then-up-down-clause-same : goal.returns-then-up-down-clause-same
returns-then-up-down-clause-same c = λ v q k p. sym (judged_fraction c.args.most _ _ (record { negative = c.args.negative; digits = v; up = q.0; down = q.1 + c.args.places }) k (omega arith) (capped_below c.args.kept.zeros c.args.places _ _ q p (omega arith) (omega arith) (omega arith)))

pub returns-then-zeros-ge10-clause-same : goal.returns-then-zeros-ge10-clause-same
returns-then-zeros-ge10-clause-same c = λ v q k p. sym (judged_far c.args.most _ _ (record { negative = c.args.negative; digits = v; up = q.0; down = q.1 + c.args.places }) (omega arith) k (omega arith) (capped_far c.args.kept.zeros c.args.places _ _ q p (omega arith) (omega arith) (omega arith)))

pub returns-clause-same : goal.returns-clause-same
returns-clause-same c = λ v q k p.
    let same = capped_near c.args.kept.zeros c.args.places _ _ q p (omega arith) (omega arith) (omega arith) (omega arith) in
    let zeros : c.from.result + c.from-2.result - (c.from-3.result + c.from-4.result) ≡ c.args.kept.zeros + q.0 - (q.1 + c.args.places) = omega (arith, same.0, same.1) in
    c.with_zeros.ensures.same k.front k.capped ∙ ap (λ n. sized c.args.negative c.args.most (k.front * 10 ^ n)) zeros ∙ sym (judged_whole c.args.most _ _ (record { negative = c.args.negative; digits = v; up = q.0; down = q.1 + c.args.places }) k (omega (arith, same.0, same.1)))
