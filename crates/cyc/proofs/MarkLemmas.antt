-- Marks, bit by bit.
use Rattle.std.proofs.Common.{◌≡◌, ℕ, ◌*◌, ◌/◌, ◌%◌, ◌^◌, ◌<◌, true, false, eqb, ◌||◌, List, length, get_or, set, replicate, w64, refl, sym, ap, ◌∙◌, arith, ⊎_elim, subst}
use Rattle.std.specs.Prelude.{bit_or}
use Rattle.std.proofs.lemmas.Bool.{cases_eq, cases_lt, eq-eqb, ne_eqb, or_left}
use Rattle.std.proofs.lemmas.List.{get_or-set_same, get_or-set_other, get_or-replicate, get_or_past, length-replicate}
use Rattle.std.proofs.lemmas.Nat.Bits.{bit_at-zero, bit_at_set_same, bit_at_set_other}
use Rattle.cyc.specs.Marks.{is_marked}

zeros : ℕ → List ℕ
zeros n = replicate n 0

zeros_are_zero : (n k : ℕ) → get_or (zeros n) k 0 ≡ 0
unfolding zeros
zeros_are_zero n k = ⊎_elim
    (λ lt. get_or-replicate n k 0 0 lt)
    (λ ge. get_or_past (zeros n) k 0 (let l : length (zeros n) ≡ n = length-replicate n 0 in omega arith))
    (cases_lt k n)

-- no city is marked in zeros
pub unmarked : (n city : ℕ) → is_marked (replicate n 0) city ≡ false
unfolding zeros
unmarked n city = rw (zeros_are_zero n (city / 64), bit_at-zero (city % 64)) refl

-- the number with one more bit
abbrev with_bit : ℕ → ℕ → ℕ
with_bit bits k = bit_or bits (1 * 2 ^ k % 2 ^ 64)

-- the city itself is marked, whatever was
marked_same : (marks : List ℕ) (city : ℕ) → city / 64 < length marks → is_marked (set marks (city / 64) (with_bit (get_or marks (city / 64) 0) (city % 64))) city ≡ true
marked_same marks city within =
    rw (get_or-set_same marks (city / 64) (with_bit (get_or marks (city / 64) 0) (city % 64)) 0 within, bit_at_set_same w64 (get_or marks (city / 64) 0) (city % 64) (omega arith)) refl

-- another city is marked where it was
marked_other : (marks : List ℕ) (city other : ℕ) → city / 64 < length marks → (city ≡ other → ⊥)
    → is_marked (set marks (city / 64) (with_bit (get_or marks (city / 64) 0) (city % 64))) other ≡ is_marked marks other
marked_other marks city other within ne = ⊎_elim
    (λ same.
    let differ : other % 64 ≡ city % 64 → ⊥ = λ e. ne (omega arith) in
    rw (
      same,
      get_or-set_same marks (city / 64) (with_bit (get_or marks (city / 64) 0) (city % 64)) 0 within,
      bit_at_set_other w64 (get_or marks (city / 64) 0) (city % 64) (omega arith) (other % 64) differ,
    ) refl)
    (λ apart. rw (get_or-set_other marks (city / 64) (other / 64) (with_bit (get_or marks (city / 64) 0) (city % 64)) 0 apart) refl)
    (cases_eq (other / 64) (city / 64))

-- a mark is set at its city alone
pub marked_more : (marks : List ℕ) (city other : ℕ) → city / 64 < length marks
    → is_marked (set marks (city / 64) (with_bit (get_or marks (city / 64) 0) (city % 64))) other ≡ eqb city other || is_marked marks other
marked_more marks city other within = ⊎_elim
    (λ same.
    let bits = with_bit (get_or marks (city / 64) 0) (city % 64) in
    subst
    (λ k. is_marked (set marks (city / 64) bits) k ≡ eqb city k || is_marked marks k)
    same
    (marked_same marks city within ∙ sym (or_left (eqb city city) (is_marked marks city) (eq-eqb city city refl))))
    (λ apart. marked_other marks city other within apart ∙ ap (λ b. b || is_marked marks other) (sym (ne_eqb city other apart)))
    (cases_eq city other)
