-- What a kind, a list of sets and a list of pairs stand for.
use Rattle.std.specs.Prelude.{◌≡◌, ℕ, ◌≤◌, List, [], ◌∷◌, map}
use Rattle.cyc.specs.CitySet.{Members}
use Rattle.tspdef.specs.Cuts.{Cut, subtour, comb, odd, IsCut}
use Rattle.cutform.specs.declared.cut.Kind.{Kind}
use Rattle.cutform.specs.declared.cut.Kind.TheVariants.{Subtour, Comb, Odd}

-- the cities of each of the sets
abbrev pub cities_of_each : List Members → List (List ℕ)
cities_of_each sets = map (λ s. s.cities) sets

-- of which kind a cut is
abbrev pub kind_of : Cut → Kind
kind_of (subtour n set) = Subtour
kind_of (comb n handle teeth) = Comb
kind_of (odd n handle pairs) = Odd

-- the sets of a cut other than its pairs
abbrev pub wide_sets : Cut → List (List ℕ)
wide_sets (subtour n set) = set ∷ []
wide_sets (comb n handle teeth) = handle ∷ teeth
wide_sets (odd n handle pairs) = handle ∷ []

-- the pairs of a cut, which only an odd cut has
abbrev pub pairs_of : Cut → List (ℕ × ℕ)
pairs_of (subtour n set) = []
pairs_of (comb n handle teeth) = []
pairs_of (odd n handle pairs) = pairs

-- the cut of n cities of a kind, with these sets, the handle of a comb or of an odd cut first, and with these pairs
abbrev pub cut_of : Kind → ℕ → List (List ℕ) → List (ℕ × ℕ) → Cut
cut_of Subtour n [] ps = subtour n []
cut_of Subtour n (s ∷ ss) ps = subtour n s
cut_of Comb n [] ps = comb n [] []
cut_of Comb n (s ∷ ss) ps = comb n s ss
cut_of Odd n [] ps = odd n [] ps
cut_of Odd n (s ∷ ss) ps = odd n s ps

-- a kind, sets and pairs make a cut of n cities, 3 to 2,000, that has those sets and pairs and no other
pub record MakeCut (kind : Kind) (n : ℕ) (sets : List (List ℕ)) (pairs : List (ℕ × ℕ)) : Type 0 where
  pub many : 3 ≤ n
  pub few : n ≤ 2000
  pub is_cut : IsCut n (cut_of kind n sets pairs)
  pub whole : wide_sets (cut_of kind n sets pairs) ≡ sets
  pub all : pairs_of (cut_of kind n sets pairs) ≡ pairs
