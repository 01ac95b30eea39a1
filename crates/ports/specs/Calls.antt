-- Which calls in memory fail, and how calls and faults are counted.
use Rattle.std.specs.Prelude.{ℕ, ◌+◌, ◌-◌, ◌^◌, ◌==◌, ◌||◌, min, Bool, List, if◌then◌else◌}
use Rattle.std.specs.List.{list_any}

-- the next call fails: there is no room for a call, or its number is in the list
abbrev pub is_bad : ℕ → ℕ → List ℕ → Bool
is_bad room made bad = room == 0 || list_any (λ number. number == made + 1) bad

-- the calls that were made, with one more if there is room for one
abbrev pub one_more : ℕ → ℕ → ℕ
one_more room made = made + min 1 room

-- a count of faults after a call; at its type's last value it stays
abbrev pub faults_after : Bool → ℕ → ℕ
faults_after failed faults = if failed then min (faults + 1) (2 ^ 64 - 1) else faults
