-- Paths: what their conditions are, and how they grow.
use Rattle.std.proofs.Common.{◌≡◌, ℕ, ◌+◌, ◌<◌, ◌≤◌, Bool, true, false, ◌||◌, List, [], ◌∷◌, ◌++◌, length, take, get_or, refl, sym, ap, subst, ◌∙◌, Some, None, arith, zero, suc, ◌-◌, slice_get}
use Rattle.std.specs.Prelude.{Option, IfSome}
use Rattle.std.specs.Option.{option_to_list}
use Rattle.std.specs.List.{All, AllByRecursion}
use Rattle.std.proofs.lemmas.List.{get_or-map, length-map, append_assoc, map-append, take_more}
use Rattle.std.proofs.lemmas.List.Elements.{All-map, All-from_recursion, recursion_from_All}
use Rattle.tspdef.specs.Tours.{joins}
use Rattle.tspdef.specs.Paths.{Condition, fixed, absent, present, two, four, is_absent, is_present, is_decided, IsPair, MayFollow, ContinuesPath, IsPath, branches}
use Rattle.branchx.specs.declared.cond.Cond.{Cond}
use Rattle.branchx.specs.Cond.{condition_of, conditions_of, is_fixed, pair_of, decides}
use Rattle.branchx.specs.Path.{ends_in_fixed}
use Rattle.tspdef.proofs.RootLemmas.{branches_join}

or_false : (b : Bool) → (b || false) ≡ b
or_false true = refl
or_false false = refl

or_assoc : (a b c : Bool) → (a || (b || c)) ≡ ((a || b) || c)
or_assoc true b c = refl
or_assoc false b c = refl

or_swap : (a b c : Bool) → (a || (b || c)) ≡ (b || (a || c))
or_swap true true c = refl
or_swap true false c = refl
or_swap false b c = refl

-- a pair is decided by the first condition or by the others
pub is_decided-cons : (c : Condition) (cs : List Condition) (u v : ℕ) → is_decided (c ∷ cs) u v ≡ (decides c u v || is_decided cs u v)
is_decided-cons (fixed a b) cs u v = or_swap (is_absent cs u v) (joins u v (a, b)) (is_present cs u v)
is_decided-cons (absent a b) cs u v = sym (or_assoc (joins u v (a, b)) (is_absent cs u v) (is_present cs u v))
is_decided-cons (present a b) cs u v = or_swap (is_absent cs u v) (joins u v (a, b)) (is_present cs u v)
is_decided-cons (two s) cs u v = refl
is_decided-cons (four s) cs u v = refl

-- or by the others or the last
pub is_decided-push : (cs : List Condition) (c : Condition) (u v : ℕ) → is_decided (cs ++ c ∷ []) u v ≡ (is_decided cs u v || decides c u v)
is_decided-push [] c u v = is_decided-cons c [] u v ∙ or_false (decides c u v)
is_decided-push (d ∷ ds) c u v =
    is_decided-cons d (ds ++ c ∷ []) u v
    ∙ (ap (λ b. decides d u v || b) (is_decided-push ds c u v)
    ∙ (or_assoc (decides d u v) (is_decided ds u v) (decides c u v)
    ∙ ap (λ b. b || decides c u v) (sym (is_decided-cons d ds u v))))

-- a path may go on after all of it as after its front
pub continues-push : (n : ℕ) (path cs : List Condition) (c : Condition) → ContinuesPath n path cs → MayFollow n (path ++ cs) c → ContinuesPath n path (cs ++ c ∷ [])
continues-push n path [] c h m = (subst (λ p. MayFollow n p c) (append-nil path) m, tt) where
  append-nil : (xs : List Condition) → xs ++ [] ≡ xs
  append-nil [] = refl
  append-nil (x ∷ xs) = ap (λ ys. x ∷ ys) (append-nil xs)
continues-push n path (d ∷ ds) c h m =
    (h.0, continues-push n (path ++ d ∷ []) ds c h.1 (subst (λ p. MayFollow n p c) (sym (append_assoc path (d ∷ []) ds)) m))

pub continues-front : (n : ℕ) (path cs ds : List Condition) → ContinuesPath n path (cs ++ ds) → ContinuesPath n path cs
continues-front n path [] ds h = tt
continues-front n path (c ∷ cs) ds h = (h.0, continues-front n (path ++ c ∷ []) cs ds h.1)

pub is_path-push : (n : ℕ) (xs : List Cond) (x : Cond) → IsPath n (conditions_of xs) → MayFollow n (conditions_of xs) (condition_of x) → IsPath n (conditions_of (xs ++ x ∷ []))
is_path-push n xs x h m =
    subst (IsPath n) (sym (map-append condition_of xs (x ∷ []))) (continues-push n [] (conditions_of xs) (condition_of x) h m)

pub is_path-front : (n : ℕ) (xs ys : List Cond) → IsPath n (conditions_of (xs ++ ys)) → IsPath n (conditions_of xs)
is_path-front n xs ys h = continues-front n [] (conditions_of xs) (conditions_of ys) (subst (IsPath n) (map-append condition_of xs ys) h)

-- a condition on a pair is on two different cities, the lower one first
abbrev pub HasPair : ℕ → Condition → Type 0
HasPair n (fixed u v) = IsPair n u v
HasPair n (absent u v) = IsPair n u v
HasPair n (present u v) = IsPair n u v
HasPair n (two s) = Unit {0}
HasPair n (four s) = Unit {0}

pair-of_next : (n : ℕ) (path : List Condition) (c : Condition) → MayFollow n path c → HasPair n c
pair-of_next n path (fixed u v) m = m.0.0
pair-of_next n path (absent u v) m = m.0
pair-of_next n path (present u v) m = m.0
pair-of_next n path (two s) m = tt
pair-of_next n path (four s) m = tt

each-pair : (n : ℕ) (path cs : List Condition) → ContinuesPath n path cs → AllByRecursion (HasPair n) cs
each-pair n path [] h = tt
each-pair n path (c ∷ cs) h = (pair-of_next n path c h.0, each-pair n (path ++ c ∷ []) cs h.1)

same_pair : (p q : ℕ × ℕ) → Some p ≡ Some q → (p.0 ≡ q.0) × (p.1 ≡ q.1)
same_pair p q e =
    let same : p ≡ q = cc in
    (ap (λ (r : ℕ × ℕ). r.0) same, ap (λ (r : ℕ × ℕ). r.1) same)

pub pair_of-is : (n : ℕ) (c : Condition) (u v : ℕ) → HasPair n c → pair_of c ≡ Some (u, v) → IsPair n u v
pair_of-is n (fixed a b) u v h e = let at = same_pair (a, b) (u, v) e in subst (λ x. IsPair n x v) at.0 (subst (λ y. IsPair n a y) at.1 h)
pair_of-is n (absent a b) u v h e = let at = same_pair (a, b) (u, v) e in subst (λ x. IsPair n x v) at.0 (subst (λ y. IsPair n a y) at.1 h)
pair_of-is n (present a b) u v h e = let at = same_pair (a, b) (u, v) e in subst (λ x. IsPair n x v) at.0 (subst (λ y. IsPair n a y) at.1 h)
pair_of-is n (two s) u v h e = cc
pair_of-is n (four s) u v h e = cc

pub decides-pair : (c : Condition) (a b u v : ℕ) → pair_of c ≡ Some (a, b) → decides c u v ≡ joins u v (a, b)
decides-pair (fixed x y) a b u v e = let at = same_pair (x, y) (a, b) e in ap (λ z. joins u v (z, y)) at.0 ∙ ap (λ z. joins u v (a, z)) at.1
decides-pair (absent x y) a b u v e = let at = same_pair (x, y) (a, b) e in ap (λ z. joins u v (z, y)) at.0 ∙ ap (λ z. joins u v (a, z)) at.1
decides-pair (present x y) a b u v e = let at = same_pair (x, y) (a, b) e in ap (λ z. joins u v (z, y)) at.0 ∙ ap (λ z. joins u v (a, z)) at.1
decides-pair (two s) a b u v e = cc
decides-pair (four s) a b u v e = cc

pub decides-none : (c : Condition) (u v : ℕ) → ((p : ℕ × ℕ) → pair_of c ≡ Some p → ⊥) → decides c u v ≡ false
decides-none (fixed x y) u v none = absurd (none (x, y) refl)
decides-none (absent x y) u v none = absurd (none (x, y) refl)
decides-none (present x y) u v none = absurd (none (x, y) refl)
decides-none (two s) u v none = refl
decides-none (four s) u v none = refl

-- what holds of each condition, by places in the code's list
pub each-from_all : (P : Condition → Type 0) (xs : List Cond) → All (λ x. P (condition_of x)) xs → AllByRecursion P (conditions_of xs)
each-from_all P xs h = recursion_from_All P (conditions_of xs) (All-map P condition_of xs h)

pub at-from_each : (P : Condition → Type 0) (xs : List Cond) (k : ℕ) (x : Cond) → k < length xs → x ≡ get_or xs k x → AllByRecursion P (conditions_of xs) → P (condition_of x)
at-from_each P xs k x h is each =
    let all = All-from_recursion P (conditions_of xs) each k (condition_of x) (subst (λ m. k < m) (sym (length-map xs condition_of)) h) in
    subst P (get_or-map condition_of xs k x (condition_of x) h ∙ ap condition_of (sym is)) all

pub pair-at : (n : ℕ) (xs : List Cond) (k : ℕ) (x : Cond) → k < length xs → x ≡ get_or xs k x → IsPath n (conditions_of xs) → HasPair n (condition_of x)
pair-at n xs k x h is path = at-from_each (HasPair n) xs k x h is (each-pair n [] (conditions_of xs) path)

-- the conditions up to the next one
pub conditions-more : (xs : List Cond) (i : ℕ) (x : Cond) → i < length xs → x ≡ get_or xs i x → conditions_of (take (i + 1) xs) ≡ conditions_of (take i xs) ++ condition_of x ∷ []
conditions-more xs i x h e =
    ap conditions_of (take_more xs i x h ∙ ap (λ y. take i xs ++ y ∷ []) (sym e)) ∙ map-append condition_of (take i xs) (x ∷ [])

-- ---- the fixed pairs in front

ends_fixed : (n : ℕ) (path cs : List Condition) → ContinuesPath n path cs → ends_in_fixed cs ≡ true → branches (path ++ cs) ≡ []
ends_fixed n path [] h e = absurd cc
ends_fixed n path (fixed u v ∷ []) h e = branches_join path (fixed u v ∷ []) ∙ ap (λ ds. ds ++ []) h.0.1
ends_fixed n path (absent u v ∷ []) h e = absurd cc
ends_fixed n path (present u v ∷ []) h e = absurd cc
ends_fixed n path (two s ∷ []) h e = absurd cc
ends_fixed n path (four s ∷ []) h e = absurd cc
ends_fixed n path (c ∷ d ∷ ds) h e = subst (λ (p : List Condition). branches p ≡ []) (append_assoc path (c ∷ []) (d ∷ ds)) (ends_fixed n (path ++ c ∷ []) (d ∷ ds) h.1 e)

-- a path whose last condition is a fixed pair is fixed pairs alone
pub only_fixed : (n : ℕ) (cs : List Condition) → IsPath n cs → ends_in_fixed cs ≡ true → branches cs ≡ []
only_fixed n cs h e = ends_fixed n [] cs h e

-- a path whose last condition is none has one behind the fixed pairs
pub some_branch : (cs : List Condition) → ends_in_fixed cs ≡ false → 0 < length cs → 0 < length (branches cs)
some_branch [] e h = h
some_branch (fixed u v ∷ []) e h = absurd cc
some_branch (absent u v ∷ []) e h = omega arith
some_branch (present u v ∷ []) e h = omega arith
some_branch (two s ∷ []) e h = omega arith
some_branch (four s ∷ []) e h = omega arith
some_branch (fixed u v ∷ d ∷ ds) e h = some_branch (d ∷ ds) e (omega arith)
some_branch (absent u v ∷ d ∷ ds) e h = omega arith
some_branch (present u v ∷ d ∷ ds) e h = omega arith
some_branch (two s ∷ d ∷ ds) e h = omega arith
some_branch (four s ∷ d ∷ ds) e h = omega arith

pub branches_few : (cs : List Condition) → length (branches cs) ≤ length cs
branches_few [] = omega arith
branches_few (fixed u v ∷ cs) = let h = branches_few cs in omega arith
branches_few (absent u v ∷ cs) = let h = branches_few cs in omega arith
branches_few (present u v ∷ cs) = let h = branches_few cs in omega arith
branches_few (two s ∷ cs) = let h = branches_few cs in omega arith
branches_few (four s ∷ cs) = let h = branches_few cs in omega arith

pub ends_in_fixed-push : (cs : List Condition) (c : Condition) → ends_in_fixed (cs ++ c ∷ []) ≡ is_fixed c
ends_in_fixed-push [] c = refl
ends_in_fixed-push (d ∷ []) c = refl
ends_in_fixed-push (d ∷ e ∷ es) c = ends_in_fixed-push (e ∷ es) c

last_at : (xs : List Cond) (k : ℕ) (x : Cond) → k + 1 ≡ length xs → slice_get xs k ≡ Some x → ends_in_fixed (conditions_of xs) ≡ is_fixed (condition_of x)
last_at [] k x h e = absurd (omega arith)
last_at (y ∷ []) zero x h e = let same : y ≡ x = cc in ap (λ z. is_fixed (condition_of z)) same
last_at (y ∷ []) (suc k) x h e = absurd (omega arith)
last_at (y ∷ z ∷ zs) zero x h e = absurd (omega arith)
last_at (y ∷ z ∷ zs) (suc k) x h e = last_at (z ∷ zs) k x (omega arith) e

pub last_is : (xs : List Cond) (x : Cond) → slice_get xs (length xs - 1) ≡ Some x → ends_in_fixed (conditions_of xs) ≡ is_fixed (condition_of x)
last_is [] x e = absurd cc
last_is (y ∷ ys) x e = last_at (y ∷ ys) (length (y ∷ ys) - 1) x (omega arith) e

pub popped : (r : Option Cond) (front xs : List Cond) → xs ≡ front ++ option_to_list r → ends_in_fixed (conditions_of xs) ≡ false → IfSome r (λ x. is_fixed (condition_of x) ≡ false)
popped None front xs e h = tt
popped (Some x) front xs e h =
    sym (ends_in_fixed-push (conditions_of front) (condition_of x))
    ∙ (ap ends_in_fixed (sym (map-append condition_of front (x ∷ [])))
    ∙ (ap (λ (ys : List Cond). ends_in_fixed (conditions_of ys)) (sym e) ∙ h))
