use Rattle.std.proofs.Common.{◌≡◌, ◌∙◌, ◌<◌, true, length, sym, ap, subst, arith}
use Rattle.std.specs.Str.Parse.{digits_value, digits_value_after}
use Rattle.certline.specs.Spelling.{digits, behind_digits, first_is, EndsWord}
use Rattle.certline.proofs.Numbers.{is_word, number_said, end_digits, behind_none}
use Rattle.certline.proofs.digits.number.Goals as goal
use Rattle.certline.proofs.digits.number.Goals.{else-run-gt1-via-then-run-gt1+else-begins, else-run-gt1-via-else-run-gt1}

pub returns-then-run-eq0-clause-none : goal.returns-then-run-eq0-clause-none
returns-then-run-eq0-clause-none c n rest h =
    let w = is_word c.args.bytes.now n rest h in
    let count = c.digits_of-run.ensures.count in
    let none = ap length (c.digits_of-run.ensures.all w.small) in
    let some = w.some in
    omega (arith, c.if-run-eq0.true, count, some)

pub returns-then-begins-clause-none : goal.returns-then-begins-clause-none
returns-then-begins-clause-none c n rest h =
    let w = is_word c.args.bytes.now n rest h in
    let count = c.digits_of-run.ensures.count in
    w.lead (omega (arith, c.if-run-gt1.true, count)) (sym c.begins.ensures.same ∙ c.if-begins.true)

pub returns-then-not-ends_word-clause-none : goal.returns-then-not-ends_word-clause-none
returns-then-not-ends_word-clause-none c n rest h =
    let w = is_word c.args.bytes.now n rest h in
    let run = c.digits_of-run in
    let same = sym (behind_none run.result.rest.now (run.ensures.all w.small)) ∙ run.ensures.behind in
    c.ends_word.ensures.no (λ yes. let no = c.if-not-ends_word.true in cc) (subst EndsWord (sym same) w.ends)

pub returns-clause-some : goal.returns-clause-some
returns-clause-some c =
    let bytes = c.args.bytes.now in
    let run = c.digits_of-run in
    let count = run.ensures.count in
    let ends = c.ends_word.ensures.yes c.if-not-ends_word.false in
    let none = end_digits run.result.rest.now ends in
    let left = ap length none in
    let value : run.result.value ≡ digits_value 10 (digits bytes) = sym (ap (digits_value_after 10 run.result.value) none) ∙ run.ensures.value in
    let behind : run.result.rest.now ≡ behind_digits bytes = sym (behind_none run.result.rest.now none) ∙ run.ensures.behind in
    let lead : 1 < length (digits bytes) → first_is 48 bytes ≡ true → ⊥ = λ long zero. elim c.else-run-gt1.branch [
      | else-run-gt1-via-then-run-gt1+else-begins w ↦ let no = w.if-begins.false in let same = w.begins.ensures.same in cc
      | else-run-gt1-via-else-run-gt1 w ↦ omega (arith, w.if-run-gt1.false, count, left, long)
    ] in
    number_said bytes run.result.rest.now run.result.value (record {
      some = omega (arith, c.if-run-eq0.false, count, left);
      small = let small = run.ensures.small in omega arith;
      lead = lead;
      ends = subst EndsWord behind ends;
    }) value behind
