-- What flows into a growing set of stops have found.
use Rattle.std.specs.Prelude.{◌≡◌, ℕ, ◌<◌, ◌≤◌, Bool, true, false, cond, nat_lt, List, [], ◌∷◌, ◌++◌, length}
use Rattle.std.specs.List.{All}
use Rattle.tspdef.specs.Sets.{has, IsSet, IsProper}
use Rattle.cyc.specs.CitySet.{Members}
use Rattle.cyc.specs.Frac.{Values}
use Rattle.maxflow.specs.declared.LeastSide.{LeastSide}
use Rattle.maxflow.specs.Crossings.{crossing}
use Rattle.maxflow.specs.Flows.{is_stop}
use Rattle.sepsub.specs.declared.growth.Found.{Found}

-- a set of some cities, not of city 0
pub record IsAway (n : ℕ) (s : Members) : Type 0 where
  pub cities : s.n ≡ n
  pub set : IsSet n s.cities
  pub away : has s.cities 0 ≡ false
  pub member : ℕ
  pub holds : has s.cities member ≡ true

-- a proper set that is crossed by less than 2^21 - 2^10
pub record IsLight (w : Values) (s : Members) : Type 0 where
  pub cities : s.n ≡ w.n
  pub proper : IsProper w.n s.cities
  pub light : crossing w.entries (has s.cities) < 2096128

-- the sets, and a side that is crossed by so little
abbrev pub with_light : List Members → LeastSide → List Members
with_light sets f = cond (nat_lt f.value 2096128) (sets ++ f.side ∷ []) sets

-- no set without city 0 that holds one of these cities is crossed by less
abbrev pub IsLeastWith : Values → (ℕ → Bool) → ℕ → Type 0
IsLeastWith w done value = (p : ℕ → Bool) (k : ℕ) → k < w.n → done k ≡ true → p 0 ≡ false → p k ≡ true → value ≤ crossing w.entries p

-- the best side so far, and light ones, of which there are some where the best is light
pub record IsFoundWith (w : Values) (done : ℕ → Bool) (f : Found) : Type 0 where
  pub side : IsAway w.n f.best.side
  pub crossed : crossing w.entries (has f.best.side.cities) ≡ f.best.value
  pub least : IsLeastWith w done f.best.value
  pub sets : All (IsLight w) f.sets.items
  pub some : f.best.value < 2096128 → 0 < length f.sets.items

-- with these stops
abbrev pub IsFound : Values → List Bool → Found → Type 0
IsFound w stops f = IsFoundWith w (is_stop stops) f

-- with all cities
abbrev pub IsFoundOfAll : Values → Found → Type 0
IsFoundOfAll w f = IsFoundWith w (λ k. true) f
