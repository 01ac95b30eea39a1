use Rattle.std.proofs.Common.{◌≡◌, ℕ, zero, suc, ◌+◌, ◌<◌, List, [], ◌∷◌, Result, Ok, Err, refl, arith}
use Rattle.tspinst.specs.declared.refusals.Refusal.{Refusal}
use Rattle.tspinst.specs.Headers.{Token}
use Rattle.tspinst.specs.declared.refusals.ReadError.{ReadError}
use Rattle.tspinst.specs.declared.refusals.ReadError.TheVariants.{NoMemory, Failed, Refused}
use Rattle.tspinst.specs.Views.{Tells, IsRead}
use Rattle.tspinst.specs.Texts.{Said, line, lines, end_of}
use Rattle.tspdef.specs.Instances.{Instance}

pub lines_none : (m : ℕ) (s : Said) (ts : List Token) → ts ≡ [] → lines m s ts ≡ end_of s
unfolding lines
lines_none zero s ts e = refl
lines_none (suc m) s ts e = rw e refl

pub lines_zero : (m : ℕ) (s : Said) (ts : List Token) → m ≡ 0 → lines m s ts ≡ end_of s
unfolding lines
lines_zero m s ts e = rw e refl

pub lines_step : (m k : ℕ) (s : Said) (ts rest : List Token) (t : Token) (x : Said × List Token) → m ≡ k + 1 → ts ≡ t ∷ rest → line s t.0 t.1 rest ≡ Ok x → lines m s ts ≡ lines k x.0 x.1
unfolding lines
lines_step zero k s ts rest t x l e h = absurd (omega arith)
lines_step (suc m) k s ts rest t x l e h = let same : m ≡ k = omega arith in rw (e, h, same) refl

pub lines_stop : (m : ℕ) (s : Said) (ts rest : List Token) (t : Token) (r : Refusal) → 0 < m → ts ≡ t ∷ rest → line s t.0 t.1 rest ≡ Err r → lines m s ts ≡ Err r
unfolding lines
lines_stop zero s ts rest t r l e h = absurd (omega arith)
lines_stop (suc m) s ts rest t r l e h = rw (e, h) refl

-- where a line is not read, neither is the text
pub stopped : (e : ReadError) (x : Said × List Token) (read : Result (Said × List Token) Refusal) (all : Result Instance Refusal) → Tells {B = Unit {0}} (Err e) x read → ((r : Refusal) → read ≡ Err r → all ≡ Err r) → IsRead (Err e) all
stopped NoMemory x read all h f = tt
stopped Failed x read all h f = h
stopped (Refused r) x read all h f = f r h

pub ruleset line_steps = (lines_none, lines_zero, lines_stop)
