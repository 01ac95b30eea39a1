-- The entries of a tournament: each but the places is the one that comes first of the two below it.
use Rattle.std.specs.Prelude.{◌≡◌, ◌≢◌, ℕ, ◌+◌, ◌*◌, ◌<◌, ◌≤◌, ◌^◌, ◌⊎◌, List, Option, Some, None, length}
use Rattle.tournament.specs.Places.{Places, entry_at, ComesFirst}
use Rattle.tournament.specs.declared.Candidate.{Candidate}
use Rattle.tournament.specs.declared.Tournament.TheInside.{Inside}

-- whoever is there comes before nobody; a candidate before another by key and number
abbrev pub Beats : Option Candidate → Option Candidate → Type 0
Beats a None = Unit {0}
Beats None (Some y) = ⊥
Beats (Some x) (Some y) = ComesFirst x.key x.number y.key y.number

-- the first of two
pub record IsFirstOf (a b r : Option Candidate) : Type 0 where
  pub one : (r ≡ a) ⊎ (r ≡ b)
  pub before_left : Beats r a
  pub before_right : Beats r b

abbrev pub IsMadeAt : List (Option Candidate) → ℕ → Type 0
IsMadeAt entries i = IsFirstOf (entry_at entries (2 * i)) (entry_at entries (2 * i + 1)) (entry_at entries i)

-- each entry from 1 on, up to the places, but that at h, is the first of the two below it
abbrev pub AreMadeBut : List (Option Candidate) → ℕ → ℕ → Type 0
AreMadeBut entries size h = (i : ℕ) → 1 ≤ i → i < size → i ≢ h → IsMadeAt entries i

-- who is there has this number
abbrev pub IsNumbered : Option Candidate → ℕ → Type 0
IsNumbered None k = Unit {0}
IsNumbered (Some c) k = c.number ≡ k

-- a candidate stands at the place of its number
abbrev pub AreAtHome : List (Option Candidate) → ℕ → Type 0
AreAtHome entries size = (k : ℕ) (c : Candidate) → k < size → entry_at entries (size + k) ≡ Some c → c.number ≡ k

pub record IsTournament (entries : List (Option Candidate)) (size : ℕ) : Type 0 where
  pub long : length entries ≡ 2 * size
  pub few : size < 2 ^ 31
  pub made : AreMadeBut entries size 0
  pub at_home : AreAtHome entries size

abbrev pub places_of : Inside → Places
places_of t = record { size = t.size; entries = t.entries.items }

abbrev pub IsWellKept : Inside → Type 0
IsWellKept t = IsTournament t.entries.items t.size
