-- Laws of texts.
use Rattle.std.specs.Prelude.{◌≡◌, ◌≤◌, ℕ, ◌⊎◌, List, [], ◌∷◌, ◌++◌, map, length}
use Rattle.tspdef.specs.Instances.{Instance}
use Rattle.tsplex.specs.Text.{tokens, words, word_on}
use Rattle.tspinst.specs.Headers.{Token, name_of, value_of, line_keyword, line_value, first_word}
use Rattle.tspinst.specs.Plain.{IsLine}
use Rattle.tspinst.specs.Texts.{InstanceText, BadInstanceText, lines, nothing_said}

-- Bytes are the text of exactly one instance, or have exactly one first refusal.
pub record TextsAreJudged : Type 0 where
  pub either : (bytes : List ℕ) → ((i : Instance) × InstanceText bytes i) ⊎ ((number : ℕ) × (line : ℕ) × (extras : List ℕ) × BadInstanceText bytes number line extras)
  pub one_instance : (bytes : List ℕ) (i j : Instance) → InstanceText bytes i → InstanceText bytes j → i ≡ j
  pub one_refusal : (bytes : List ℕ) (number number' line line' : ℕ) (extras extras' : List ℕ) → BadInstanceText bytes number line extras → BadInstanceText bytes number' line' extras' → (number ≡ number') × (line ≡ line') × (extras ≡ extras')
  pub never_both : (bytes : List ℕ) (i : Instance) (number line : ℕ) (extras : List ℕ) → InstanceText bytes i → ¬ BadInstanceText bytes number line extras

-- No line is left out: a text has no more lines with words than words, and more of them change nothing.
abbrev pub AllLinesAreRead : Type 0
AllLinesAreRead = (bytes : List ℕ) (m : ℕ) → length (tokens bytes) ≤ m → lines m nothing_said (tokens bytes) ≡ lines (length (tokens bytes)) nothing_said (tokens bytes)

-- A header that is said by words is the line's: the keyword, and the first word of the value. The line's words come
-- first, and behind them words of other lines.
abbrev pub HeadersAreLines : Type 0
HeadersAreLines = (k : ℕ) (line first : List ℕ) (more : List (List ℕ)) (ts : List Token) → IsLine line → words line ≡ first ∷ more → word_on k ts ≡ []
    → (name_of first ≡ line_keyword line) × (value_of k first (map (λ w. (k, w)) more ++ ts) ≡ first_word (line_value line))
