-- A rounded quotient is one number.
use Rattle.std.specs.Prelude.{Option}
use Rattle.std.proofs.Common.{ℕ, zero, suc, ◌+◌, ◌-◌, ◌*◌, ℤ, pos, negsuc, neg_ℤ, ◌+ℤ◌, ◌-ℤ◌, ◌*ℤ◌, ◌≤ℤ◌, ◌<ℤ◌, ◌≡◌, refl, ap, sym, subst, Some, None, IfNone, ◌∙◌, arith}
use Rattle.std.proofs.lemmas.Int.{ints, by_lt_z}
use Rattle.std.proofs.Math.IntN.{suc_ℤ, suc_ℤ-*ℤ}
use Rattle.fixnum.specs.Rounded.{IsFloor, IsCeiling, InSize}

after : (z : ℤ) → suc_ℤ z ≡ z +ℤ pos 1
after (pos a) = omega (arith, ints)
after (negsuc zero) = refl
after (negsuc (suc a)) = omega (arith, ints)

next : (p : ℤ) (k : ℕ) → p +ℤ pos (suc k) ≡ suc_ℤ (p +ℤ pos k)
next p k = let e = after (p +ℤ pos k) in omega (arith, ints)

steps : (p : ℤ) (k d : ℕ) → (p +ℤ pos k) *ℤ pos d ≡ p *ℤ pos d +ℤ pos (k * d)
steps p zero d =
    let same : p +ℤ pos zero ≡ p = omega (arith, ints) in
    let product = ap (λ (z : ℤ). z *ℤ pos d) same in
    omega (arith, ints)
steps p (suc k) d =
    let product = ap (λ (z : ℤ). z *ℤ pos d) (next p k) ∙ suc_ℤ-*ℤ (p +ℤ pos k) (pos d) in
    let fewer = steps p k d in
    omega (arith, ints)

apart : (p q : ℤ) → p <ℤ q → (k : ℕ) × (q ≡ p +ℤ pos (suc k))
apart (pos a) (pos b) less = (b - suc a, omega (arith, ints))
apart (negsuc a) (pos b) less = (a + b, omega (arith, ints))
apart (negsuc a) (negsuc b) less = (a - suc b, omega (arith, ints))
apart (pos a) (negsuc b) less = absurd (omega (arith, ints))

-- a smaller number, times d, is smaller by d at least
gap_of : (p q : ℤ) (d : ℕ) → p <ℤ q → (p *ℤ pos d +ℤ pos d) ≤ℤ (q *ℤ pos d)
gap_of p q d less =
    let far = apart p q less in
    let product = ap (λ (z : ℤ). z *ℤ pos d) far.1 ∙ steps p (suc far.0) d in
    omega (arith, ints)

floor_by : (n p q : ℤ) (d : ℕ) → ((p *ℤ pos d) ≤ℤ n) × (n <ℤ (p *ℤ pos d +ℤ pos d)) → ((q *ℤ pos d) ≤ℤ n) × (n <ℤ (q *ℤ pos d +ℤ pos d)) → p ≡ q
floor_by n p q d is_p is_q =
    by_lt_z p q (λ (less : p <ℤ q). let far = gap_of p q d less in absurd (omega (arith, ints)))
    (λ (more : q ≤ℤ p). by_lt_z q p (λ (less : q <ℤ p). let far = gap_of q p d less in absurd (omega (arith, ints))) (λ (other : p ≤ℤ q). omega (arith, ints)))

ceiling_by : (n p q : ℤ) (d : ℕ) → ((p *ℤ pos d -ℤ pos d) <ℤ n) × (n ≤ℤ (p *ℤ pos d)) → ((q *ℤ pos d -ℤ pos d) <ℤ n) × (n ≤ℤ (q *ℤ pos d)) → p ≡ q
ceiling_by n p q d is_p is_q =
    by_lt_z p q (λ (less : p <ℤ q). let far = gap_of p q d less in absurd (omega (arith, ints)))
    (λ (more : q ≤ℤ p). by_lt_z q p (λ (less : q <ℤ p). let far = gap_of q p d less in absurd (omega (arith, ints))) (λ (other : p ≤ℤ q). omega (arith, ints)))

pub one_floor : (n d p q : ℤ) → IsFloor n d p → IsFloor n d q → p ≡ q
one_floor n (pos d) p q is_p is_q = floor_by n p q d is_p is_q
one_floor n (negsuc d) p q is_p is_q = floor_by (neg_ℤ n) p q (d + 1) is_p is_q

pub one_ceiling : (n d p q : ℤ) → IsCeiling n d p → IsCeiling n d q → p ≡ q
one_ceiling n (pos d) p q is_p is_q = ceiling_by n p q d is_p is_q
one_ceiling n (negsuc d) p q is_p is_q = ceiling_by (neg_ℤ n) p q (d + 1) is_p is_q

-- where the rounded quotient, read as it is passed on, is out of size, none is in size
pub floor_out : {T : Type 0} (r : Option T) (n d m e p s : ℤ) → m ≡ n → e ≡ d → s ≡ p → IsFloor m e p → IfNone r (¬ InSize s) → IfNone r ((q : ℤ) → IsFloor n d q → ¬ InSize q)
floor_out (Some x) n d m e p s same_n same_d same_p is_p out = tt
floor_out None n d m e p s same_n same_d same_p is_p out = λ q is_q within.
    let is : IsFloor n d p = subst (λ (z : ℤ). IsFloor z d p) same_n (subst (λ (z : ℤ). IsFloor m z p) same_d is_p) in
    out (subst InSize (one_floor n d q p is_q is ∙ sym same_p) within)

pub ceiling_out : {T : Type 0} (r : Option T) (n d m e p s : ℤ) → m ≡ n → e ≡ d → s ≡ p → IsCeiling m e p → IfNone r (¬ InSize s) → IfNone r ((q : ℤ) → IsCeiling n d q → ¬ InSize q)
ceiling_out (Some x) n d m e p s same_n same_d same_p is_p out = tt
ceiling_out None n d m e p s same_n same_d same_p is_p out = λ q is_q within.
    let is : IsCeiling n d p = subst (λ (z : ℤ). IsCeiling z d p) same_n (subst (λ (z : ℤ). IsCeiling m z p) same_d is_p) in
    out (subst InSize (one_ceiling n d q p is_q is ∙ sym same_p) within)
