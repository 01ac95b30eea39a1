use Rattle.std.proofs.Common.{◌≢◌, ◌+◌, length, sym, ◌∙◌, arith}
use Rattle.std.specs.Str.Parse.{digits_value}
use Rattle.tsplex.specs.Number.{before_point, from_point, behind_point, token_digits}
use Rattle.tsplex.specs.Digits.{Keeps}
use Rattle.tsplex.proofs.NumberLemmas.{nothing_kept, token_value, number_some, number_no_power, number_no_digit, whole_some, whole_none}
use Rattle.tsplex.proofs.number.whole.Goals as goal

pub returns-then-before-all-eq0-clause-same : goal.returns-then-before-all-eq0-clause-same
returns-then-before-all-eq0-clause-same c =
    let token = c.args.token.now in
    let before = rw c.unsigned.ensures.rest at c.digits-before.ensures in
    let all = rw before.rest at c.fraction-all.ensures in
    sym (whole_none token c.args.most (number_no_digit token (omega (arith, before.count, all.count))))

pub returns-in-Some-clause-same : goal.returns-in-Some-clause-same
returns-in-Some-clause-same c =
    let token = c.args.token.now in
    let before = rw c.unsigned.ensures.rest at c.digits-before.ensures in
    let all = rw before.rest at c.fraction-all.ensures in
    let read = rw all.rest at c.in-Some.ensures.some in
    let kept : Keeps c.fraction-all.result.kept.front c.fraction-all.result.kept.zeros (digits_value 10 (token_digits token)) = rw (← token_value token) (all.keeps (digits_value 10 (before_point token)) (before.keeps 0 nothing_kept)) in
    let some : length (before_point token) + length (behind_point (from_point token)) ≢ 0 = λ e. omega (arith, before.count, all.count) in
    c.judged.ensures.same (digits_value 10 (token_digits token)) read.0 kept read.2
    ∙ rw (c.begins.ensures.same, all.count) (sym (whole_some token c.args.most _ (number_some token read.0 some read.1)))

pub returns-in-None-clause-same : goal.returns-in-None-clause-same
returns-in-None-clause-same c =
    let token = c.args.token.now in
    let before = rw c.unsigned.ensures.rest at c.digits-before.ensures in
    let all = rw before.rest at c.fraction-all.ensures in
    let none = rw all.rest at c.in-None.ensures.none in
    let some : length (before_point token) + length (behind_point (from_point token)) ≢ 0 = λ e. omega (arith, before.count, all.count) in
    sym (whole_none token c.args.most (number_no_power token some none))
