-- Rows of pairs, read at a city.
use Rattle.std.proofs.Common.{◌≡◌, ℕ, zero, suc, ◌<◌, Bool, List, [], ◌∷◌, length, get_or, sum_by, refl, sym, ap, ◌∙◌, arith}
use Rattle.cutpool.specs.declared.nears.Near.{Near}
use Rattle.cutpool.specs.Nears.{left_by, row_weight}

-- a read in range does not look at its default
default_free : {X : Type 0} (xs : List X) (i : ℕ) (d e : X) → i < length xs → get_or xs i d ≡ get_or xs i e
default_free [] i d e h = absurd (omega arith)
default_free (x ∷ xs) zero d e h = refl
default_free (x ∷ xs) (suc i) d e h = default_free xs i d e (omega arith)

-- what the row of a city adds up to
pub row_read : (rows : List (List Near)) (c : ℕ) (row : List Near) (p : ℕ → Bool) → c < length rows → row ≡ get_or rows c row → row_weight rows c p ≡ sum_by (left_by p) row
row_read rows c row p h is = ap (sum_by (left_by p)) (default_free rows c [] row h ∙ sym is)
