-- Decimal numbers, alone and in lines.
use Rattle.std.proofs.Common.{◌≡◌, ◌≢◌, ℕ, ◌^◌, ◌<◌, ◌≤◌, true, false, eqb, leb, List, [], ◌∷◌, length, decimal, Some, Ok, ℤ, pos, negsuc, nat_abs, Bool, suc, refl, ap, ◌∙◌, arith, append-nil}
use Rattle.std.specs.Char.{digit_value, is_ascii_digit}
use Rattle.std.specs.Fmt.{signed_decimal}
use Rattle.std.specs.Str.Parse.{AllDigits, digits_value}
use Rattle.std.proofs.lemmas.Fmt.{decimal_is_IsNumeral}
use Rattle.std.proofs.lemmas.Bool.{ne_eqb}
use Rattle.std.proofs.lemmas.Bool.Decides.{nat_tests}
use Rattle.tsplex.specs.Number.{Number, minus, digits, behind_digits, before_point, from_point, behind_point, from_power, token_digits, behind_sign, first_is, power, number, sized, signed_size, whole_of}
use Rattle.tsplex.proofs.WholeLemmas.{whole_size}
use Rattle.tsplex.proofs.NumberLemmas.{digits_step, behind_step, number_some, whole_some}

is_digit : (c : ℕ) → digit_value c < 10 → is_ascii_digit c ≡ true
is_digit c h = grind (arith, nat_tests)

no_sign : (c : ℕ) → digit_value c < 10 → (c ≢ 45) × (c ≢ 43)
no_sign c h = (λ e. grind (arith, nat_tests), λ e. grind (arith, nat_tests))

-- digits alone
pub digits_whole : (ds : List ℕ) → AllDigits 10 ds → digits ds ≡ ds
digits_whole [] h = refl
digits_whole (c ∷ cs) h = digits_step c cs (is_digit c h.0) ∙ ap (λ (xs : List ℕ). c ∷ xs) (digits_whole cs h.1)

pub nothing_behind : (ds : List ℕ) → AllDigits 10 ds → behind_digits ds ≡ []
nothing_behind [] h = refl
nothing_behind (c ∷ cs) h = behind_step c cs (is_digit c h.0) ∙ nothing_behind cs h.1

unsigned : (ds : List ℕ) → 0 < length ds → AllDigits 10 ds → (behind_sign ds ≡ ds) × (first_is minus ds ≡ false)
unfolding behind_sign
unsigned [] l h = absurd (omega arith)
unsigned (c ∷ cs) l h =
    let a : eqb c 45 ≡ false = ne_eqb c 45 (no_sign c h.0).0 in
    let b : eqb c 43 ≡ false = ne_eqb c 43 (no_sign c h.0).1 in
    (rw (a, b) refl, a)

behind_minus : (ds : List ℕ) → behind_sign (45 ∷ ds) ≡ ds
unfolding behind_sign
behind_minus ds = refl

no_power : power [] ≡ Some (0, 0)
unfolding power
no_power = refl

size_fits : (negative : Bool) (n most : ℕ) → n ≤ most → sized negative most n ≡ Ok (signed_size negative n)
size_fits negative n most l = let e : leb n most ≡ true = grind (arith, nat_tests) in rw e refl

-- digits behind a sign, or alone, are their value
plain_token : (token ds : List ℕ) (negative : Bool) (n most : ℕ) → behind_sign token ≡ ds → first_is minus token ≡ negative → 0 < length ds → AllDigits 10 ds → digits_value 10 ds ≡ n → n ≤ most → whole_of token most ≡ Ok (signed_size negative n)
plain_token token ds negative n most behind sign some h e l =
    let before : before_point token ≡ ds = ap digits behind ∙ digits_whole ds h in
    let rest : from_point token ≡ [] = ap behind_digits behind ∙ nothing_behind ds h in
    let more : behind_point (from_point token) ≡ [] = ap behind_point rest in
    let end : from_power (from_point token) ≡ [] = ap from_power rest in
    let all : token_digits token ≡ ds = rw more (append-nil (before_point token) ∙ before) in
    let x : Number = record { negative = negative; digits = n; up = 0; down = 0 } in
    let is : number token ≡ Some x =
    number_some token (0, 0) (λ z. omega (arith, ap length before)) (ap power end ∙ no_power)
    ∙ rw (all, more, e, sign) refl
    in
    whole_some token most x is ∙ whole_size most x n refl ∙ size_fits negative n most l

pub plain_number : (n most : ℕ) → n ≤ most → most < 2 ^ 32 → whole_of (decimal n) most ≡ Ok (pos n)
plain_number n most l small =
    let d = decimal_is_IsNumeral n (omega arith) in
    let u = unsigned (decimal n) d.0.0 d.0.1 in
    plain_token (decimal n) (decimal n) false n most u.0 u.1 d.0.0 d.0.1 d.1 l

pub plain_signed : (z : ℤ) (most : ℕ) → nat_abs z ≤ most → most < 2 ^ 32 → whole_of (signed_decimal z) most ≡ Ok z
plain_signed (pos n) most l small = plain_number n most l small
plain_signed (negsuc n) most l small =
    let d = decimal_is_IsNumeral (suc n) (omega arith) in
    plain_token (45 ∷ decimal (suc n)) (decimal (suc n)) true (suc n) most (behind_minus (decimal (suc n))) refl d.0.0 d.0.1 d.1 l
