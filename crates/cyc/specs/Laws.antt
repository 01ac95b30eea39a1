-- Laws of values on pairs.
use Rattle.std.specs.Prelude.{◌≡◌, ℕ, ◌*◌, List, pos, sum_by}
use Rattle.tspdef.specs.Sums.{sum_pairs}
use Rattle.cyc.specs.declared.frac.Entry.{Entry}
use Rattle.cyc.specs.Frac.{value_of, AreEntries}

-- A sum over all pairs, of their values times weights that do not depend on the order of the two cities, is that over the entries alone.
abbrev pub SumsGoByEntries : Type 0
SumsGoByEntries = (n : ℕ) (es : List Entry) (weight : ℕ → ℕ → ℕ) → AreEntries n es → ((u v : ℕ) → weight u v ≡ weight v u)
    → sum_pairs (λ u v. pos (value_of es u v * weight u v)) n ≡ pos (sum_by (λ e. e.x * weight e.u e.v) es)
