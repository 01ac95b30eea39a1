-- What both traits say of their content and their faults.
use Rattle.std.specs.Prelude.{ℕ, ◌+◌, ◌-◌, ◌^◌, min, ◌≤◌, Option, Some, None}

-- neither tells, or both do and what they tell is so related
abbrev pub BothTell : {T : Type 0} → (T → T → Type 0) → Option T → Option T → Type 0
BothTell R None None = Unit {0}
BothTell R None (Some u) = ⊥
BothTell R (Some t) None = ⊥
BothTell R (Some t) (Some u) = R t u

-- where it is told it is so
abbrev pub WhereTold : {T : Type 0} → (T → Type 0) → Option T → Type 0
WhereTold P None = Unit {0}
WhereTold P (Some t) = P t

-- a count of faults never falls, and where the call failed it rose, or stands at the last value of its type
pub record Cause (failed : Type 0) (before after : ℕ) : Type 0 where
  pub later : before ≤ after
  pub rose : failed → min (before + 1) (2 ^ 64 - 1) ≤ after
