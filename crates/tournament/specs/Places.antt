-- What contracts see of a tournament: its entries, of which those from its size on are the places of the numbers.
use Rattle.std.specs.Prelude.{◌≡◌, ℕ, ◌+◌, ◌≤◌, ◌⊎◌, List, Option, Some, None, ℤ, ◌<ℤ◌, slice_index_or}
use Rattle.tournament.specs.declared.Candidate.{Candidate}

pub record Places : Type 0 where
  pub size : ℕ
  pub entries : List (Option Candidate)

abbrev pub entry_at : List (Option Candidate) → ℕ → Option Candidate
entry_at entries i = slice_index_or entries i None

abbrev pub key_in : Option Candidate → Option ℤ
key_in (Some c) = Some c.key
key_in None = None

-- the key with which a number takes part; None where it does not
abbrev pub key_of : Places → ℕ → Option ℤ
key_of p k = key_in (entry_at p.entries (p.size + k))

-- a number with its key comes no later than another: by the key, then by the number
abbrev pub ComesFirst : ℤ → ℕ → ℤ → ℕ → Type 0
ComesFirst x k y j = (x <ℤ y) ⊎ ((x ≡ y) × (k ≤ j))

-- the number that takes part and comes before all others that do
pub record IsLeast (p : Places) (k : ℕ) : Type 0 where
  pub key : ℤ
  pub takes_part : key_of p k ≡ Some key
  pub first : (j : ℕ) (y : ℤ) → key_of p j ≡ Some y → ComesFirst key k y j

-- no number takes part
abbrev pub NoneTakesPart : Places → Type 0
NoneTakesPart p = (k : ℕ) → key_of p k ≡ None
