use Rattle.std.proofs.Common.{◌≡◌, ℕ, zero, suc, ◌+◌, ◌-◌, ◌<◌, ◌≤◌, true, false, Some, length-append, refl, List, [], ◌∷◌, ◌++◌, length, map, take, drop, get_or, sym, ◌∙◌, ap, subst, arith, ⊎_elim}
use Rattle.std.specs.Prelude.{slice_get}
use Rattle.std.proofs.lemmas.Bool.{cases_lt}
use Rattle.std.proofs.lemmas.List.{take_all, take-take, take-map, map_more, length-take-le, take-append-drop, take-append-le, drop_more}
use Rattle.tspdef.specs.Paths.{Condition, fixed, absent, present, two, four, ContinuesPath, IsPath, branches, condition_at}
use Rattle.tspdef.proofs.RootLemmas.{branches_join}
use Rattle.branchx.specs.declared.cond.Cond.{Cond}
use Rattle.branchx.specs.Cond.{condition_of, conditions_of, is_fixed}
use Rattle.branchx.proofs.PathLemmas.{branches_few}
use Rattle.pricer.proofs.DecidedLemmas.{path_front}
use Rattle.pricer.specs.Trails.{IsFront, fixed_in_front, HasProperSet}

continues_part : (n : ℕ) (path xs ys : List Condition) → ContinuesPath n path (xs ++ ys) → ContinuesPath n path xs
continues_part n path [] ys h = tt
continues_part n path (x ∷ xs) ys h = (h.0, continues_part n (path ++ x ∷ []) xs ys h.1)

-- the first conditions of a path are one
pub path_take : (n k : ℕ) (path : List Condition) → IsPath n path → IsPath n (take k path)
path_take n k path h = continues_part n [] (take k path) (drop k path) (subst (λ (p : List Condition). IsPath n p) (sym (take-append-drop k path)) h)

proper_in : (n : ℕ) (path more : List Condition) (k : ℕ) → ContinuesPath n path more → HasProperSet n (slice_get (branches more) k)
proper_in n path [] k h = tt
proper_in n path (fixed a b ∷ more) k h = proper_in n (path ++ fixed a b ∷ []) more k h.1
proper_in n path (absent a b ∷ more) zero h = tt
proper_in n path (present a b ∷ more) zero h = tt
proper_in n path (two s ∷ more) zero h = h.0
proper_in n path (four s ∷ more) zero h = h.0
proper_in n path (absent a b ∷ more) (suc k) h = proper_in n (path ++ absent a b ∷ []) more k h.1
proper_in n path (present a b ∷ more) (suc k) h = proper_in n (path ++ present a b ∷ []) more k h.1
proper_in n path (two s ∷ more) (suc k) h = proper_in n (path ++ two s ∷ []) more k h.1
proper_in n path (four s ∷ more) (suc k) h = proper_in n (path ++ four s ∷ []) more k h.1

-- the sets of a path are proper
pub proper_at : (n : ℕ) (path : List Condition) (d : ℕ) → IsPath n path → HasProperSet n (condition_at path d)
proper_at n path zero h = tt
proper_at n path (suc k) h = proper_in n [] path k h

pub whole_front : (path : List Condition) → IsFront path path
whole_front path = sym (take_all (length path) path (omega arith))

-- a front of a front is one
pub take_front : (k : ℕ) (front path : List Condition) → IsFront front path → IsFront (take k front) path
take_front k front path h = ⊎_elim
    (λ l. let e : length (take k front) ≡ k = length-take-le k front (omega arith) in
    ap (take k) h ∙ take-take k (length front) path (omega arith) ∙ ap (λ m. take m path) (sym e))
    (λ l. let e = take_all k front l in subst (λ (p : List Condition). IsFront p path) (sym e) h)
    (cases_lt k (length front))

-- the last of the first conditions
pub take_last : {A : Type 0} (f : A → Condition) (xs : List A) (d i : ℕ) (x : A) → i + 1 ≡ d → i < length xs → x ≡ get_or xs i x → take d (map f xs) ≡ take i (map f xs) ++ f x ∷ []
take_last {A} f xs d i x e h is =
    ap (λ k. take k (map f xs)) (sym e) ∙ take-map f (i + 1) xs ∙ map_more f xs i x h
    ∙ ap (λ (c : A). map f (take i xs) ++ f c ∷ []) (sym is) ∙ ap (λ (p : List Condition). p ++ f x ∷ []) (sym (take-map f i xs))

-- ---- fronts

pub front_trans : (a b path : List Condition) → IsFront a b → IsFront b path → IsFront a path
front_trans a b path h k = subst (λ (p : List Condition). IsFront p path) (sym h) (take_front (length a) b path k)

take_before : (before more : List Condition) → take (length before) (before ++ more) ≡ before
take_before before more = take-append-le (length before) before more (omega arith) ∙ take_all (length before) before (omega arith)

-- what comes before the last condition is a front
pub front_before : (here before path : List Condition) (c : Condition) → here ≡ before ++ c ∷ [] → IsFront here path → IsFront before path
front_before here before path c e h =
    let cut : take (length before) here ≡ before = ap (take (length before)) e ∙ take_before before (c ∷ []) in
    subst (λ (p : List Condition). IsFront p path) cut (take_front (length before) here path h)

-- ---- depths: the conditions behind the fixed pairs

-- without the last condition the first ones behind the fixed pairs are the same
pub depth_before : (here before : List Condition) (c : Condition) (d : ℕ) → here ≡ before ++ c ∷ [] → d < length (branches here) → take d (branches before) ≡ take d (branches here)
depth_before here before c d e h =
    let both : branches here ≡ branches before ++ branches (c ∷ []) = ap branches e ∙ branches_join before (c ∷ []) in
    let long : length (branches here) ≡ length (branches before) + length (branches (c ∷ [])) = ap length both ∙ length-append (branches before) (branches (c ∷ [])) in
    let one : length (branches (c ∷ [])) ≤ 1 = branches_few (c ∷ []) in
    sym (ap (take d) both ∙ take-append-le d (branches before) (branches (c ∷ [])) (omega (arith, long, one, h)))

-- a front that is deep enough has the first conditions behind the fixed pairs
pub depth_front : (near path : List Condition) (d : ℕ) → IsFront near path → d ≤ length (branches near) → take d (branches near) ≡ take d (branches path)
depth_front near path d h l =
    let parts : near ++ drop (length near) path ≡ path = ap (λ (p : List Condition). p ++ drop (length near) path) h ∙ take-append-drop (length near) path in
    let both : branches path ≡ branches near ++ branches (drop (length near) path) = ap branches (sym parts) ∙ branches_join near (drop (length near) path) in
    sym (ap (take d) both ∙ take-append-le d (branches near) (branches (drop (length near) path)) l)

get_take : (xs : List Condition) (k : ℕ) → slice_get (take (suc k) xs) k ≡ slice_get xs k
get_take [] k = refl
get_take (x ∷ xs) zero = refl
get_take (x ∷ xs) (suc k) = get_take xs k

-- the condition at a depth is that of a front which ends there
pub at_front : (there path : List Condition) (d : ℕ) → branches there ≡ take d (branches path) → condition_at there d ≡ condition_at path d
at_front there path zero e = refl
at_front there path (suc k) e = ap (λ (xs : List Condition). slice_get xs k) e ∙ get_take (branches path) k

get_last : (xs : List Condition) (c : Condition) (d : ℕ) → length xs ≡ d → slice_get (xs ++ c ∷ []) d ≡ Some c
get_last [] c zero h = refl
get_last [] c (suc d) h = absurd (omega arith)
get_last (x ∷ xs) c zero h = absurd (omega arith)
get_last (x ∷ xs) c (suc d) h = get_last xs c d (omega arith)

last_branch : (before : List Condition) (c : Condition) (d : ℕ) → branches (before ++ c ∷ []) ≡ branches before ++ c ∷ [] → length (branches (before ++ c ∷ [])) ≡ suc d → slice_get (branches (before ++ c ∷ [])) d ≡ Some c
last_branch before c d e h =
    let long : length (branches (before ++ c ∷ [])) ≡ length (branches before) + 1 = ap length e ∙ length-append (branches before) (c ∷ []) in
    ap (λ (xs : List Condition). slice_get xs d) e ∙ get_last (branches before) c d (omega (arith, long, h))

-- the last condition of a path that has a depth is the one at that depth
last_is_deep : (n : ℕ) (before : List Condition) (c : Condition) (d : ℕ) → IsPath n (before ++ c ∷ []) → length (branches (before ++ c ∷ [])) ≡ suc d → slice_get (branches (before ++ c ∷ [])) d ≡ Some c
last_is_deep n before (fixed a b) d is h =
    let none : branches before ≡ [] = (path_front n before (fixed a b) is).1.1 in
    let all : branches (before ++ fixed a b ∷ []) ≡ [] = branches_join before (fixed a b ∷ []) ∙ ap (λ (xs : List Condition). xs ++ []) none in
    let long : length (branches (before ++ fixed a b ∷ [])) ≡ 0 = ap length all in
    absurd (omega (arith, long, h))
last_is_deep n before (absent a b) d is h = last_branch before (absent a b) d (branches_join before (absent a b ∷ [])) h
last_is_deep n before (present a b) d is h = last_branch before (present a b) d (branches_join before (present a b ∷ [])) h
last_is_deep n before (two s) d is h = last_branch before (two s) d (branches_join before (two s ∷ [])) h
last_is_deep n before (four s) d is h = last_branch before (four s) d (branches_join before (four s ∷ [])) h

pub last_at_depth : (n : ℕ) (path before : List Condition) (c : Condition) (d : ℕ) → IsPath n path → path ≡ before ++ c ∷ [] → 0 < d → length (branches path) ≡ d → Some c ≡ condition_at path d
last_at_depth n path before c zero is e h l = absurd (omega arith)
last_at_depth n path before c (suc d) is e h l =
    sym (ap (λ (p : List Condition). slice_get (branches p) d) e
    ∙ last_is_deep n before c d (subst (λ (p : List Condition). IsPath n p) e is) (ap (λ (p : List Condition). length (branches p)) (sym e) ∙ l))

-- ---- how many fixed pairs come first

some_more : (path : List Condition) (c : Condition) → 0 < length (branches path) → 0 < length (branches (path ++ c ∷ []))
some_more path c some =
    let more : length (branches (path ++ c ∷ [])) ≡ length (branches path) + length (branches (c ∷ [])) = ap length (branches_join path (c ∷ [])) ∙ length-append (branches path) (branches (c ∷ [])) in
    omega (arith, more, some)

-- behind another condition there is no fixed pair
none_behind : (n : ℕ) (path cs : List Condition) → ContinuesPath n path cs → 0 < length (branches path) → branches cs ≡ cs
none_behind n path [] h some = refl
none_behind n path (fixed a b ∷ cs) h some = let none : length (branches path) ≡ 0 = ap length h.0.1 in absurd (omega (arith, none, some))
none_behind n path (absent a b ∷ cs) h some = ap (λ ds. absent a b ∷ ds) (none_behind n (path ++ absent a b ∷ []) cs h.1 (some_more path (absent a b) some))
none_behind n path (present a b ∷ cs) h some = ap (λ ds. present a b ∷ ds) (none_behind n (path ++ present a b ∷ []) cs h.1 (some_more path (present a b) some))
none_behind n path (two s ∷ cs) h some = ap (λ ds. two s ∷ ds) (none_behind n (path ++ two s ∷ []) cs h.1 (some_more path (two s) some))
none_behind n path (four s ∷ cs) h some = ap (λ ds. four s ∷ ds) (none_behind n (path ++ four s ∷ []) cs h.1 (some_more path (four s) some))

-- so the first k of them are so many depths
depth_behind : (n : ℕ) (path : List Condition) (c : Condition) (cs : List Condition) (k : ℕ) → ContinuesPath n (path ++ c ∷ []) cs → branches (c ∷ []) ≡ c ∷ [] → k ≤ length cs → length (branches (take k cs)) ≡ k
depth_behind n path c cs k h one l =
    let part = continues_part n (path ++ c ∷ []) (take k cs) (drop k cs) (subst (λ (p : List Condition). ContinuesPath n (path ++ c ∷ []) p) (sym (take-append-drop k cs)) h) in
    let more : length (branches (path ++ c ∷ [])) ≡ length (branches path) + length (branches (c ∷ [])) = ap length (branches_join path (c ∷ [])) ∙ length-append (branches path) (branches (c ∷ [])) in
    let here : length (branches (c ∷ [])) ≡ 1 = ap length one in
    ap length (none_behind n (path ++ c ∷ []) (take k cs) part (omega (arith, more, here))) ∙ length-take-le k cs l

depths_in : (n : ℕ) (path cs : List Condition) (k : ℕ) → ContinuesPath n path cs → k ≤ length cs → length (branches (take k cs)) ≡ k - fixed_in_front cs
depths_in n path [] zero h l = refl
depths_in n path [] (suc k) h l = absurd (omega arith)
depths_in n path (fixed a b ∷ cs) zero h l = omega arith
depths_in n path (absent a b ∷ cs) zero h l = refl
depths_in n path (present a b ∷ cs) zero h l = refl
depths_in n path (two s ∷ cs) zero h l = refl
depths_in n path (four s ∷ cs) zero h l = refl
depths_in n path (fixed a b ∷ cs) (suc k) h l = let ih = depths_in n (path ++ fixed a b ∷ []) cs k h.1 (omega arith) in omega (arith, ih)
depths_in n path (absent a b ∷ cs) (suc k) h l = let e = depth_behind n path (absent a b) cs k h.1 refl (omega arith) in omega (arith, e)
depths_in n path (present a b ∷ cs) (suc k) h l = let e = depth_behind n path (present a b) cs k h.1 refl (omega arith) in omega (arith, e)
depths_in n path (two s ∷ cs) (suc k) h l = let e = depth_behind n path (two s) cs k h.1 refl (omega arith) in omega (arith, e)
depths_in n path (four s ∷ cs) (suc k) h l = let e = depth_behind n path (four s) cs k h.1 refl (omega arith) in omega (arith, e)

-- how deep the first conditions of a path are
pub depths_of_fronts : (n : ℕ) (path : List Condition) (k : ℕ) → IsPath n path → k ≤ length path → length (branches (take k path)) ≡ k - fixed_in_front path
depths_of_fronts n path k h l = depths_in n [] path k h l

pub one_more_fixed : (c : Condition) (cs : List Condition) → is_fixed c ≡ true → fixed_in_front (c ∷ cs) ≡ fixed_in_front cs + 1
one_more_fixed (fixed a b) cs h = omega arith
one_more_fixed (absent a b) cs h = absurd cc
one_more_fixed (present a b) cs h = absurd cc
one_more_fixed (two s) cs h = absurd cc
one_more_fixed (four s) cs h = absurd cc

pub no_more_fixed : (c : Condition) (cs : List Condition) → is_fixed c ≡ false → fixed_in_front (c ∷ cs) ≡ 0
no_more_fixed (fixed a b) cs h = absurd cc
no_more_fixed (absent a b) cs h = refl
no_more_fixed (present a b) cs h = refl
no_more_fixed (two s) cs h = refl
no_more_fixed (four s) cs h = refl

-- where another condition comes next, those before it are all
pub front_done : (xs : List Cond) (i count total : ℕ) (x : Cond) → i < length xs → x ≡ get_or xs i x → is_fixed (condition_of x) ≡ false
    → count + fixed_in_front (conditions_of (drop i xs)) ≡ total → count ≡ total
front_done xs i count total x h is other left =
    let rest : fixed_in_front (conditions_of (drop i xs)) ≡ fixed_in_front (condition_of x ∷ conditions_of (drop (i + 1) xs)) =
    ap (λ (ys : List Cond). fixed_in_front (conditions_of ys)) (drop_more xs i x h ∙ ap (λ y. y ∷ drop (i + 1) xs) (sym is)) in
    let none = rest ∙ no_more_fixed (condition_of x) (conditions_of (drop (i + 1) xs)) other in
    omega (arith, none, left)

-- a fixed pair that comes next is one more
pub front_more : (xs : List Cond) (i count total : ℕ) (x : Cond) → i < length xs → x ≡ get_or xs i x → is_fixed (condition_of x) ≡ true
    → count + fixed_in_front (conditions_of (drop i xs)) ≡ total → (count + 1) + fixed_in_front (conditions_of (drop (i + 1) xs)) ≡ total
front_more xs i count total x h is same left =
    let rest : fixed_in_front (conditions_of (drop i xs)) ≡ fixed_in_front (condition_of x ∷ conditions_of (drop (i + 1) xs)) =
    ap (λ (ys : List Cond). fixed_in_front (conditions_of ys)) (drop_more xs i x h ∙ ap (λ y. y ∷ drop (i + 1) xs) (sym is)) in
    let one = rest ∙ one_more_fixed (condition_of x) (conditions_of (drop (i + 1) xs)) same in
    omega (arith, one, left)
