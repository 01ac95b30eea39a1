-- Digits at the front of bytes, and the number that a token spells.
use Rattle.std.proofs.Common.{◌≡◌, ◌≢◌, ℕ, ◌+◌, ◌*◌, ◌-◌, ◌<◌, true, false, eqb, List, [], ◌∷◌, ◌++◌, length, Some, None, Err, refl, sym, ap, ◌∙◌, arith, one-add, length-append}
use Rattle.std.specs.Char.{is_ascii_digit, digit_value}
use Rattle.std.specs.Str.Parse.{digits_value, digits_value_after}
use Rattle.std.proofs.lemmas.Bool.{ne_eqb}
use Rattle.std.proofs.lemmas.Bool.Decides.{nat_tests}
use Rattle.tsplex.specs.declared.number.NumberFault.TheVariants.{NotANumber}
use Rattle.tsplex.specs.Number.{Number, minus, digits, behind_digits, first_is, before_point, from_point, behind_point, from_power, token_digits, power, number, whole_of, whole_number}
use Rattle.tsplex.specs.Digits.{Keeps}

pub empty : {A : Type 0} (bs : List A) → length bs ≡ 0 → bs ≡ []
empty [] e = refl
empty (b ∷ bs) e = absurd (omega arith)

-- ---- digits at the front

pub digits_step : (b : ℕ) (bs : List ℕ) → is_ascii_digit b ≡ true → digits (b ∷ bs) ≡ b ∷ digits bs
digits_step b bs e = rw (e, one-add) refl

pub behind_step : (b : ℕ) (bs : List ℕ) → is_ascii_digit b ≡ true → behind_digits (b ∷ bs) ≡ behind_digits bs
behind_step b bs e = rw (e, one-add) refl

pub digits_stop : (b : ℕ) (bs : List ℕ) → is_ascii_digit b ≡ false → digits (b ∷ bs) ≡ []
digits_stop b bs e = rw e refl

pub behind_stop : (b : ℕ) (bs : List ℕ) → is_ascii_digit b ≡ false → behind_digits (b ∷ bs) ≡ b ∷ bs
behind_stop b bs e = rw e refl

pub digit_is : (b : ℕ) → is_ascii_digit b ≡ true → digit_value b ≡ b - 48
digit_is b e = grind (arith, nat_tests)

pub digit_below : (b : ℕ) → is_ascii_digit b ≡ true → b - 48 < 10
digit_below b e = grind (arith, nat_tests)

pub value_step : (v b : ℕ) (bs : List ℕ) → is_ascii_digit b ≡ true → digits_value_after 10 v (digits (b ∷ bs)) ≡ digits_value_after 10 (v * 10 + (b - 48)) (digits bs)
value_step v b bs e = ap (digits_value_after 10 v) (digits_step b bs e) ∙ ap (λ d. digits_value_after 10 (v * 10 + d) (digits bs)) (digit_is b e)

-- ---- the number of a token

value_append : (v : ℕ) (a b : List ℕ) → digits_value_after 10 v (a ++ b) ≡ digits_value_after 10 (digits_value_after 10 v a) b
value_append v [] b = refl
value_append v (c ∷ cs) b = value_append (v * 10 + digit_value c) cs b

-- the digits before the point and those behind it, one after the other
pub token_value : (token : List ℕ) → digits_value_after 10 (digits_value 10 (before_point token)) (behind_point (from_point token)) ≡ digits_value 10 (token_digits token)
token_value token = sym (value_append 0 (before_point token) (behind_point (from_point token)))

pub nothing_kept : Keeps 0 0 0
nothing_kept = record { front = 0; value = refl; capped = refl; last = λ e. refl }

digit_count : (token : List ℕ) → length (token_digits token) ≡ length (before_point token) + length (behind_point (from_point token))
digit_count token = length-append (before_point token) (behind_point (from_point token))

some_digit : (token : List ℕ) → length (before_point token) + length (behind_point (from_point token)) ≢ 0 → eqb (length (token_digits token)) 0 ≡ false
some_digit token some = ne_eqb _ _ (λ e. some (sym (digit_count token) ∙ e))

pub number_some : (token : List ℕ) (q : ℕ × ℕ) → length (before_point token) + length (behind_point (from_point token)) ≢ 0 → power (from_power (from_point token)) ≡ Some q → number token ≡ Some (record { negative = first_is minus token; digits = digits_value 10 (token_digits token); up = q.0; down = q.1 + length (behind_point (from_point token)) })
unfolding number
number_some token q some e = rw (some_digit token some, e) refl

pub number_no_power : (token : List ℕ) → length (before_point token) + length (behind_point (from_point token)) ≢ 0 → power (from_power (from_point token)) ≡ None → number token ≡ None
unfolding number
number_no_power token some e = rw (some_digit token some, e) refl

pub number_no_digit : (token : List ℕ) → length (before_point token) + length (behind_point (from_point token)) ≡ 0 → number token ≡ None
unfolding number
number_no_digit token e = rw (digit_count token ∙ e) refl

pub whole_some : (token : List ℕ) (most : ℕ) (x : Number) → number token ≡ Some x → whole_of token most ≡ whole_number most x
unfolding whole_of
whole_some token most x e = rw e refl

pub whole_none : (token : List ℕ) (most : ℕ) → number token ≡ None → whole_of token most ≡ Err NotANumber
unfolding whole_of
whole_none token most e = rw e refl
