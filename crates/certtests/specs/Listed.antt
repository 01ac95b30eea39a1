-- Cuts as a proof text lists them.
use Rattle.std.specs.Prelude.{ℕ, ◌+◌, List, map}
use Rattle.tspdef.specs.Cuts.{Cut, subtour, comb, odd}
use Rattle.certdef.specs.Proofs.{Listed, subtour_cut, comb_cut, odd_cut}

-- cities from 1, of cities from 0
abbrev pub to_one : List ℕ → List ℕ
to_one s = map (λ c. c + 1) s

-- a pair of cities from 1, of one of cities from 0
abbrev pub pair_to_one : (ℕ × ℕ) → (ℕ × ℕ)
pair_to_one p = (p.0 + 1, p.1 + 1)

-- a cut by its sets and pairs of cities from 1
abbrev pub listed : Cut → Listed
listed (subtour n s) = subtour_cut (to_one s)
listed (comb n h ts) = comb_cut (to_one h) (map to_one ts)
listed (odd n h ps) = odd_cut (to_one h) (map pair_to_one ps)
