use Rattle.std.proofs.Common.{◌≡◌, ◌∙◌, length, sym, arith}
use Rattle.tsplex.proofs.TextLemmas.{no_length, none_left, empty_text}
use Rattle.tsplex.proofs.text.Lexer.token.Goals as goal

pub returns-then-len-eq0-clause-none : goal.returns-then-len-eq0-clause-none
returns-then-len-eq0-clause-none c =
    let none : length c.behind_spaces-line.result.1.now ≡ 0 = no_length _ _ (omega arith) c.behind_spaces-line.ensures.front in
    let back : length c.split_at.result.1.now ≡ 0 = omega arith in
    (sym c.behind_spaces-line.ensures.same ∙ none_left _ _ none, none_left _ _ back, empty_text _ back)
