-- The condition at a depth.
use Rattle.std.proofs.Common.{◌≡◌, ℕ, zero, suc, ◌+◌, ◌-◌, ◌<◌, ◌≤◌, true, false, List, [], ◌∷◌, ◌++◌, length, get_or, take, drop, Option, Some, None, Bor, refl, sym, ap, ◌∙◌, arith}
use Rattle.std.specs.Prelude.{slice_get, nat_lt}
use Rattle.std.specs.Option.{is_some, option_map, IfSome}
use Rattle.std.proofs.lemmas.Bool.{ltb-true, ltb-false}
use Rattle.std.proofs.lemmas.Option.{slice_get-map, slice_get-get_or, slice_get_past}
use Rattle.std.proofs.lemmas.List.{length-map}
use Rattle.tspdef.specs.Paths.{Condition, fixed, absent, present, two, four, branches, ContinuesPath, IsPath, condition_at}
use Rattle.tspdef.proofs.RootLemmas.{branches_join}
use Rattle.branchx.specs.declared.cond.Cond.{Cond}
use Rattle.branchx.specs.Cond.{condition_of, conditions_of, is_fixed}
use Rattle.branchx.proofs.PathLemmas.{conditions-more}

-- what a place of a list of conditions gives
pub condition_got : (conds : List Cond) (k : ℕ) (o : Option (Bor Cond)) → is_some o ≡ nat_lt k (length conds) → IfSome o (λ x. x.now ≡ get_or conds k x.now)
    → option_map (λ x. condition_of x.now) o ≡ slice_get (conditions_of conds) k
condition_got conds k None e h =
    let past = ltb-false k (length conds) (sym e) in
    let long = length-map conds condition_of in
    sym (slice_get_past (conditions_of conds) k (omega arith))
condition_got conds k (Some x) e h =
    let within = ltb-true k (length conds) (sym e) in
    sym (slice_get-map condition_of conds k ∙ (ap (option_map condition_of) (slice_get-get_or conds k x.now within) ∙ ap (λ y. Some (condition_of y)) (sym h)))

-- depths count from 1 behind the fixed pairs
pub condition_at_place : (path : List Condition) (d k : ℕ) → 1 ≤ d → k ≡ d - 1 → condition_at path d ≡ slice_get (branches path) k
condition_at_place path zero k h e = absurd (omega arith)
condition_at_place path (suc d) k h e = let same : d ≡ k = omega arith in ap (λ j. slice_get (branches path) j) same

-- ---- the fixed pairs in front

not_empty : {X : Type 0} (xs ys : List X) → (xs ≡ [] → ⊥) → xs ++ ys ≡ [] → ⊥
not_empty [] ys some e = some refl
not_empty (x ∷ xs) ys some e = cc

one_more : {X : Type 0} (xs : List X) (y : X) → xs ++ y ∷ [] ≡ [] → ⊥
one_more [] y e = cc
one_more (x ∷ xs) y e = cc

-- behind a condition that is no fixed pair there is none
no_more_fixed : (n : ℕ) (path cs : List Condition) → ContinuesPath n path cs → (branches path ≡ [] → ⊥) → branches cs ≡ cs
no_more_fixed n path [] h some = refl
no_more_fixed n path (fixed u v ∷ cs) h some = absurd (some h.0.1)
no_more_fixed n path (absent u v ∷ cs) h some = ap (λ ds. absent u v ∷ ds) (no_more_fixed n (path ++ absent u v ∷ []) cs h.1 (λ e. not_empty (branches path) (absent u v ∷ []) some (sym (branches_join path (absent u v ∷ [])) ∙ e)))
no_more_fixed n path (present u v ∷ cs) h some = ap (λ ds. present u v ∷ ds) (no_more_fixed n (path ++ present u v ∷ []) cs h.1 (λ e. not_empty (branches path) (present u v ∷ []) some (sym (branches_join path (present u v ∷ [])) ∙ e)))
no_more_fixed n path (two s ∷ cs) h some = ap (λ ds. two s ∷ ds) (no_more_fixed n (path ++ two s ∷ []) cs h.1 (λ e. not_empty (branches path) (two s ∷ []) some (sym (branches_join path (two s ∷ [])) ∙ e)))
no_more_fixed n path (four s ∷ cs) h some = ap (λ ds. four s ∷ ds) (no_more_fixed n (path ++ four s ∷ []) cs h.1 (λ e. not_empty (branches path) (four s ∷ []) some (sym (branches_join path (four s ∷ [])) ∙ e)))

from_first : (n : ℕ) (path : List Condition) (c : Condition) (cs : List Condition) → ContinuesPath n (path ++ c ∷ []) cs → is_fixed c ≡ false → c ∷ cs ≡ branches (c ∷ cs)
from_first n path (fixed u v) cs h e = cc
from_first n path (absent u v) cs h e = ap (λ ds. absent u v ∷ ds) (sym (no_more_fixed n (path ++ absent u v ∷ []) cs h (λ f. one_more (branches path) (absent u v) (sym (branches_join path (absent u v ∷ [])) ∙ f))))
from_first n path (present u v) cs h e = ap (λ ds. present u v ∷ ds) (sym (no_more_fixed n (path ++ present u v ∷ []) cs h (λ f. one_more (branches path) (present u v) (sym (branches_join path (present u v ∷ [])) ∙ f))))
from_first n path (two s) cs h e = ap (λ ds. two s ∷ ds) (sym (no_more_fixed n (path ++ two s ∷ []) cs h (λ f. one_more (branches path) (two s) (sym (branches_join path (two s ∷ [])) ∙ f))))
from_first n path (four s) cs h e = ap (λ ds. four s ∷ ds) (sym (no_more_fixed n (path ++ four s ∷ []) cs h (λ f. one_more (branches path) (four s) (sym (branches_join path (four s ∷ [])) ∙ f))))

-- a first condition that leaves no branch is a fixed pair
fixed_first : (c : Condition) (ds cs : List Condition) → branches (c ∷ ds) ≡ [] → (branches ds ≡ []) × (branches (c ∷ cs) ≡ branches cs)
fixed_first (fixed u v) ds cs e = (e, refl)
fixed_first (absent u v) ds cs e = cc
fixed_first (present u v) ds cs e = cc
fixed_first (two s) ds cs e = cc
fixed_first (four s) ds cs e = cc

behind_from : (n : ℕ) (path : List Condition) (xs : List Cond) (i : ℕ) (x : Cond) → ContinuesPath n path (conditions_of xs) → i < length xs → x ≡ get_or xs i x → branches (conditions_of (take i xs)) ≡ [] → is_fixed (condition_of x) ≡ false
    → conditions_of (drop i xs) ≡ branches (conditions_of xs)
behind_from n path [] i x h l e none f = absurd (omega arith)
behind_from n path (y ∷ ys) zero x h l e none f = from_first n path (condition_of y) (conditions_of ys) h.1 (ap (λ z. is_fixed (condition_of z)) (sym e) ∙ f)
behind_from n path (y ∷ ys) (suc i) x h l e none f =
    let p = fixed_first (condition_of y) (conditions_of (take i ys)) (conditions_of ys) none in
    behind_from n (path ++ condition_of y ∷ []) ys i x h.1 (omega arith) e p.0 f ∙ sym p.1

-- the conditions from the first one that is no fixed pair
pub behind_fixed_pairs : (n : ℕ) (xs : List Cond) (i : ℕ) (x : Cond) → IsPath n (conditions_of xs) → i < length xs → x ≡ get_or xs i x → branches (conditions_of (take i xs)) ≡ [] → is_fixed (condition_of x) ≡ false
    → conditions_of (drop i xs) ≡ branches (conditions_of xs)
behind_fixed_pairs n xs i x h l e none f = behind_from n [] xs i x h l e none f

is_fixed-branches : (c : Condition) → is_fixed c ≡ true → branches (c ∷ []) ≡ []
is_fixed-branches (fixed u v) e = refl
is_fixed-branches (absent u v) e = cc
is_fixed-branches (present u v) e = cc
is_fixed-branches (two s) e = cc
is_fixed-branches (four s) e = cc

-- one fixed pair more in front
pub fixed_more : (xs : List Cond) (i : ℕ) (x : Cond) → i < length xs → x ≡ get_or xs i x → branches (conditions_of (take i xs)) ≡ [] → is_fixed (condition_of x) ≡ true → branches (conditions_of (take (i + 1) xs)) ≡ []
fixed_more xs i x l e none f =
    ap branches (conditions-more xs i x l e)
    ∙ (branches_join (conditions_of (take i xs)) (condition_of x ∷ [])
    ∙ (ap (λ ds. ds ++ branches (condition_of x ∷ [])) none ∙ is_fixed-branches (condition_of x) f))
