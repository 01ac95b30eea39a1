-- The line that tells how far a search is.
use Rattle.std.specs.Prelude.{ℕ, zero, suc, ◌-◌, ◌*◌, ◌/◌, ◌%◌, min, Bool, true, false, List, ◌++◌, Option, Some, None, ℤ, pos, negsuc, decimal, codes}
use Rattle.progress.specs.declared.how.How.{How}
use Rattle.progress.specs.declared.how.How.TheVariants.{Silent, InPlace, Lines}

-- how a program tells it: on a terminal in one place; elsewhere in lines, but only where it was asked for
abbrev pub how_of : Bool → Bool → How
how_of true asked = InPlace
how_of false true = Lines
how_of false false = Silent

-- the length that a key stands for: no less than 0, and no more than the best tour's
abbrev pub length_of_key : ℕ → ℤ → ℕ
length_of_key best (pos k) = min k best
length_of_key best (negsuc k) = 0

-- by how many hundredths of a percent of the best length a bound misses it; a length 0 is not missed
abbrev pub hundredths_missed : ℕ → ℕ → ℕ
hundredths_missed zero bound = 0
hundredths_missed (suc k) bound = (suc k - bound) * 10000 / suc k

-- hundredths of a percent, with two places behind the point
abbrev pub percent : ℕ → List ℕ
percent h = codes ", gap " ++ decimal (h / 100) ++ codes "." ++ decimal (h / 10 % 10) ++ decimal (h % 10) ++ codes " %"

-- what is told of a bound
abbrev pub estimate_text : ℕ → List ℕ
estimate_text bound = codes ", estimated bound " ++ decimal bound

-- the seconds so far
abbrev pub seconds_text : ℕ → List ℕ
seconds_text seconds = decimal seconds ++ codes " s: "

-- the nodes settled and open
abbrev pub nodes_text : ℕ → ℕ → List ℕ
nodes_text settled free = codes "settled " ++ decimal settled ++ codes ", open " ++ decimal free

-- the best length
abbrev pub best_text : ℕ → List ℕ
best_text best = codes ", best " ++ decimal best

-- the seconds, the nodes and the best length
abbrev pub standing_text : ℕ → ℕ → ℕ → ℕ → List ℕ
standing_text seconds settled free best = (seconds_text seconds ++ nodes_text settled free) ++ best_text best

-- the line, with what is told of the bound where there is one
abbrev pub line_text : ℕ → ℕ → ℕ → ℕ → Option ℕ → List ℕ
line_text seconds settled free best None = standing_text seconds settled free best
line_text seconds settled free best (Some bound) = standing_text seconds settled free best ++ estimate_text bound ++ percent (hundredths_missed best bound)
