-- Faults, and what is told.
use Rattle.std.specs.Prelude.{ℕ, ◌+◌, ◌-◌, ◌^◌, ◌<◌, min, Option, Some, None}

-- a count of faults did not rise, and does not stand at its type's last value
abbrev pub IsCalm : ℕ → ℕ → Type 0
IsCalm before after = after < min (before + 1) (2 ^ 64 - 1)

-- it is told, and so
abbrev pub IsTold : {T : Type 0} → (T → Type 0) → Option T → Type 0
IsTold P None = ⊥
IsTold P (Some t) = P t
