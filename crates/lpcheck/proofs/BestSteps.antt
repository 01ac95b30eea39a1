-- Steps of the search for the best step.
use Rattle.std.proofs.Common.{◌≡◌, ◌⊎◌, ℕ, ◌+◌, ◌<◌, ◌≤◌, ◌^◌, ℤ, pos, ◌+ℤ◌, ◌-ℤ◌, ◌≤ℤ◌, Bool, true, false, List, inl, inr, sym, ap, subst, ◌∙◌, arith, ⊎_elim}
use Rattle.std.proofs.lemmas.Int.{ints}
use Rattle.std.proofs.lemmas.Bool.{cases_lt}
use Rattle.lpcheck.specs.Rests.{IsDual, IsStep}
use Rattle.lpcheck.specs.Steps.{IsMove, step_gain, IsFound}
use Rattle.lpcheck.specs.declared.row.Sense.{Sense}
use Rattle.lpcheck.specs.declared.piece.Piece.{Piece}
use Rattle.lpcheck.specs.declared.step.Best.{Best}

pub found_more : (sense : Sense) (rhs : ℕ) (ps : List Piece) (y : ℤ) (old new : Best) → (pos 1024 ≤ℤ old.gain → IsFound sense rhs ps y old.next old.gain)
    → (new ≡ old) ⊎ IsFound sense rhs ps y new.next new.gain → pos 1024 ≤ℤ new.gain → IsFound sense rhs ps y new.next new.gain
found_more sense rhs ps y old new before (inl same) large =
    subst (λ (b : Best). IsFound sense rhs ps y b.next b.gain) (sym same) (before (subst (λ (b : Best). pos 1024 ≤ℤ b.gain) same large))
found_more sense rhs ps y old new before (inr found) large = found

-- no step of a power below this gains more
abbrev pub NoneBelow : Sense → ℕ → List Piece → ℤ → ℕ → ℤ → Type 0
NoneBelow sense rhs ps y power most = (k : ℕ) (z : ℤ) → 10 ≤ k → k < power → IsStep y k z → IsDual sense z → step_gain sense rhs ps y z ≤ℤ most

pub none_more : (sense : Sense) (rhs : ℕ) (ps : List Piece) (y : ℤ) (power : ℕ) (most middle more : ℤ) → NoneBelow sense rhs ps y power most → most ≤ℤ middle → middle ≤ℤ more
    → ((z : ℤ) → IsMove true y power z → IsDual sense z → step_gain sense rhs ps y z ≤ℤ middle) → ((z : ℤ) → IsMove false y power z → IsDual sense z → step_gain sense rhs ps y z ≤ℤ more)
    → NoneBelow sense rhs ps y (power + 1) more
none_more sense rhs ps y power most middle more before larger largest up down k z least below taken dual = ⊎_elim
    (λ (lower : k < power). let old = before k z least lower taken dual in omega (arith, ints))
    (λ (not_lower : power ≤ k).
    let same : k ≡ power = omega arith in
    let here : IsStep y power z = subst (λ (n : ℕ). IsStep y n z) same taken in
    ⊎_elim
    (λ (rises : z ≡ y +ℤ pos (2 ^ power)). let old = up z rises dual in omega (arith, ints))
    (λ (falls : z ≡ y -ℤ pos (2 ^ power)). down z falls dual)
    here)
    (cases_lt k power)

same_move : (up : Bool) (y : ℤ) (k : ℕ) (z w : ℤ) → IsMove up y k z → IsMove up y k w → z ≡ w
same_move true y k z w is other = is ∙ sym other
same_move false y k z w is other = is ∙ sym other

pub seen_more : (sense : Sense) (rhs : ℕ) (ps : List Piece) (y : ℤ) (power : ℕ) (up : Bool) (next y-bits next-bits g most : ℤ) → y-bits ≡ y → next-bits ≡ next → IsMove up y power next
    → g ≡ step_gain sense rhs ps y-bits next-bits → g ≤ℤ most → (z : ℤ) → IsMove up y power z → IsDual sense z → step_gain sense rhs ps y z ≤ℤ most
seen_more sense rhs ps y power up next y-bits next-bits g most same_y same_next is gains within z move dual =
    let same : next-bits ≡ z = same_next ∙ same_move up y power next z is move in
    let found : g ≡ step_gain sense rhs ps y z = gains ∙ ap (λ (n : ℤ). step_gain sense rhs ps n next-bits) same_y ∙ ap (λ (n : ℤ). step_gain sense rhs ps y n) same in
    omega (arith, ints)

pub no_move : (sense : Sense) (rhs : ℕ) (ps : List Piece) (y : ℤ) (power : ℕ) (up : Bool) (next most : ℤ) → IsMove up y power next → (IsDual sense next → ⊥)
    → (z : ℤ) → IsMove up y power z → IsDual sense z → step_gain sense rhs ps y z ≤ℤ most
no_move sense rhs ps y power up next most is barred z move dual = absurd (barred (subst (IsDual sense) (same_move up y power z next move is) dual))

pub rises_is : (up : Bool) (y : ℤ) (k : ℕ) (z : ℤ) → up ≡ true → z ≡ y +ℤ pos (2 ^ k) → IsMove up y k z
rises_is up y k z is moved = subst (λ (b : Bool). IsMove b y k z) (sym is) moved

pub falls_is : (up : Bool) (y : ℤ) (k : ℕ) (z : ℤ) → up ≡ false → z ≡ y -ℤ pos (2 ^ k) → IsMove up y k z
falls_is up y k z is moved = subst (λ (b : Bool). IsMove b y k z) (sym is) moved
