-- Words that are passed over, and points read one after the other.
use Rattle.std.proofs.Common.{◌≡◌, ℕ, zero, suc, ◌+◌, ◌<◌, List, [], ◌∷◌, Option, Ok, Err, refl, arith}
use Rattle.tspinst.specs.declared.refusals.Refusal.{Refusal}
use Rattle.tspinst.specs.declared.refusals.Refusal.TheVariants.{Truncated}
use Rattle.tspinst.specs.Headers.{Token}
use Rattle.tspinst.specs.Tables.{Point}
use Rattle.tspinst.specs.Sections.{passed, point_read, points_from}

pub passed_none : (m : ℕ) (ts : List Token) → 0 < m → ts ≡ [] → passed m ts ≡ Err Truncated
unfolding passed
passed_none zero ts l e = absurd (omega arith)
passed_none (suc m) ts l e = rw e refl

pub passed_some : (m k : ℕ) (ts rest : List Token) (t : Token) → m ≡ k + 1 → ts ≡ t ∷ rest → passed m ts ≡ passed k rest
unfolding passed
passed_some zero k ts rest t l e = absurd (omega arith)
passed_some (suc m) k ts rest t l e = let same : m ≡ k = omega arith in rw (e, same) refl

pub passed_all : (m : ℕ) (ts : List Token) → m ≡ 0 → passed m ts ≡ Ok ts
unfolding passed
passed_all m ts e = rw e refl

pub ruleset passing = (passed_none, passed_some, passed_all)

module _ (n : ℕ) where
  pub points_step : (m k : ℕ) (points : List (Option Point)) (ts : List Token) (x : List (Option Point) × List Token) → m ≡ k + 1 → point_read n points ts ≡ Ok x → points_from n m points ts ≡ points_from n k x.0 x.1
  unfolding points_from
  points_step zero k points ts x l e = absurd (omega arith)
  points_step (suc m) k points ts x l e = let same : m ≡ k = omega arith in rw (e, same) refl

  pub points_stop : (m : ℕ) (points : List (Option Point)) (ts : List Token) (r : Refusal) → 0 < m → point_read n points ts ≡ Err r → points_from n m points ts ≡ Err r
  unfolding points_from
  points_stop zero points ts r l e = absurd (omega arith)
  points_stop (suc m) points ts r l e = rw e refl

  pub points_done : (m : ℕ) (points : List (Option Point)) (ts : List Token) → m ≡ 0 → points_from n m points ts ≡ Ok (points, ts)
  unfolding points_from
  points_done m points ts e = rw e refl

pub ruleset point_steps = (points_step, points_stop, points_done)
