-- What functions did, unless memory ran out.
use Rattle.std.specs.Prelude.{◌≡◌, ℕ, List, [], Option, Some, None, Result, Ok, Err}
use Rattle.tspdef.specs.Instances.{Instance}
use Rattle.tspinst.specs.Texts.{Said}
use Rattle.tspinst.specs.declared.reading.State.{State}
use Rattle.tspinst.specs.Fixings.{Collected, all_fixed}
use Rattle.tspinst.specs.declared.refusals.FixError.{FixError}
use Rattle.tspinst.specs.declared.refusals.FixError.TheVariants as fix_errors
use Rattle.tspinst.specs.declared.refusals.Refusal.{Refusal}
use Rattle.tspinst.specs.declared.refusals.ReadError.{ReadError}
use Rattle.tspinst.specs.declared.refusals.ReadError.TheVariants.{NoMemory, Failed, Refused}

-- What a function returned and left behind is what reading gives.
abbrev pub Tells : {A B : Type 0} → Result B ReadError → A → Result A Refusal → Type 0
Tells {A} (Ok u) x read = ◌≡◌ {A = Result A Refusal} read (Ok x)
Tells (Err NoMemory) x read = Unit {0}
Tells (Err Failed) x read = ⊥
Tells {A} (Err (Refused e)) x read = ◌≡◌ {A = Result A Refusal} read (Err e)

-- What a function returned, seen by view, and left behind is what reading gives.
abbrev pub Answers : {A B C : Type 0} → (B → A) → Result B ReadError → C → Result (A × C) Refusal → Type 0
Answers {A} {B} {C} view (Ok u) ts read = ◌≡◌ {A = Result (A × C) Refusal} read (Ok (view u, ts))
Answers view (Err NoMemory) ts read = Unit {0}
Answers view (Err Failed) ts read = ⊥
Answers {A} {B} {C} view (Err (Refused e)) ts read = ◌≡◌ {A = Result (A × C) Refusal} read (Err e)

-- What a function returned is what the text says, or its first refusal.
abbrev pub IsRead : Result Instance ReadError → Result Instance Refusal → Type 0
IsRead (Ok i) read = read ≡ Ok i
IsRead (Err NoMemory) read = Unit {0}
IsRead (Err Failed) read = ⊥
IsRead (Err (Refused e)) read = read ≡ Err e

-- the pairs that were read, none where there was no section
abbrev pub pairs_read : Option Collected → List (ℕ × ℕ)
pairs_read None = []
pairs_read (Some f) = f.pairs

-- what a state says, without where it lies in memory
abbrev pub said_of : State → Said
said_of s = record { seen = s.seen; dimension = s.dimension; weight_type = s.weight_type; format = s.format; instance = s.instance; fixed = pairs_read s.fixing }

-- The pairs that came together are all that were given, or the first that may not be fixed is told.
abbrev pub AreFixed : ℕ → List (ℕ × ℕ) → Result Collected FixError → Type 0
AreFixed n pairs (Ok f) = all_fixed n [] 0 pairs ≡ Ok f.pairs
AreFixed n pairs (Err fix_errors.NoMemory) = Unit {0}
AreFixed n pairs (Err (fix_errors.BadFixed place k)) = all_fixed n [] 0 pairs ≡ Err (place, k)

-- The instance fixes all pairs that were given, and no other; or the first pair that may not be fixed is told.
abbrev pub IsFixedBy : ℕ → List (ℕ × ℕ) → Result Instance FixError → Type 0
IsFixedBy n pairs (Ok i) = all_fixed n [] 0 pairs ≡ Ok i.fixed
IsFixedBy n pairs (Err fix_errors.NoMemory) = Unit {0}
IsFixedBy n pairs (Err (fix_errors.BadFixed place k)) = all_fixed n [] 0 pairs ≡ Err (place, k)
