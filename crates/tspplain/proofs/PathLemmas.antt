use Rattle.std.proofs.Common.{◌≡◌, ℕ, cond, List, [], ◌∷◌, ◌++◌, refl, ap, append-nil}
use Rattle.tspdef.specs.Paths as p
use Rattle.tspdef.specs.Paths.{branches, fixed_conditions}
use Rattle.tspplain.specs.declared.values.Condition.{Condition}
use Rattle.tspplain.specs.declared.values.Condition.TheVariants as conditions
use Rattle.tspplain.specs.Values.{condition_of, path_of, is_fixed_condition}

pub branches_of : (c : p.Condition) (cs : List p.Condition) → branches (c ∷ cs) ≡ cond (is_fixed_condition c) (branches cs) (c ∷ branches cs)
branches_of (p.fixed u v) cs = refl
branches_of (p.absent u v) cs = refl
branches_of (p.present u v) cs = refl
branches_of (p.two s) cs = refl
branches_of (p.four s) cs = refl

-- one fixed pair more
pub fixed_next : (path : List Condition) (q : ℕ × ℕ) (qs : List (ℕ × ℕ))
    → path_of (path ++ conditions.Fixed q.0 q.1 ∷ []) ++ fixed_conditions qs ≡ path_of path ++ fixed_conditions (q ∷ qs)
fixed_next [] q qs = refl
fixed_next (c ∷ cs) q qs = ap (λ ds. condition_of c ∷ ds) (fixed_next cs q qs)

pub none_fixed : (path : List Condition) → path_of path ++ fixed_conditions [] ≡ path_of path
none_fixed path = append-nil (path_of path)
