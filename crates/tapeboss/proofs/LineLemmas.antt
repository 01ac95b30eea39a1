-- What stands behind a line.
use Rattle.std.proofs.Common.{◌≡◌, ℕ, ◌-◌, List, length, take, drop, Some, sym, ap, ◌∙◌, arith, length-drop}
use Rattle.std.proofs.lemmas.List.{take_all, drop-drop}
use Rattle.tapeboss.specs.Lines.{line_end, behind_at, other_lines}

pub behind_line : (text tail : List ℕ) (k : ℕ) → tail ≡ drop k text → line_end text ≡ Some k → take (length tail - 1) (drop 1 tail) ≡ other_lines text
behind_line text tail k e at =
    let less : length (drop 1 tail) ≡ length tail - 1 = length-drop 1 tail in
    take_all (length tail - 1) (drop 1 tail) (omega (arith, less))
    ∙ (ap (drop 1) e ∙ (drop-drop 1 k text ∙ sym (ap (behind_at text) at)))
