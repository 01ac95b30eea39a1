-- Pairs of groups.
use Rattle.std.proofs.Common.{◌≡◌, ℕ, suc, ◌+◌, ◌<◌, ◌≤◌, Bool, true, false, cond, List, [], ◌∷◌, ◌++◌, length, take, get_or, refl, ◌∙◌, ap, arith}
use Rattle.std.proofs.Math.Seq.{take-suc}
use Rattle.std.proofs.lemmas.List.Sums.{sum_by-cons, sum_by-append}
use Rattle.cyc.specs.declared.frac.Entry.{Entry}
use Rattle.maxflow.specs.Crossings.{crossing_at, crossing}

-- one entry more
crossing_push : (es : List Entry) (e : Entry) (p : ℕ → Bool) → crossing (es ++ e ∷ []) p ≡ crossing es p + crossing_at p e
crossing_push es e p =
    let a : crossing (es ++ e ∷ []) p ≡ crossing es p + crossing (e ∷ []) p = sum_by-append (crossing_at p) es (e ∷ []) in
    let b : crossing (e ∷ []) p ≡ crossing_at p e + crossing [] p = sum_by-cons (crossing_at p) e [] in
    let z : crossing [] p ≡ 0 = refl in
    omega (arith, a, b, z)

pub crossing_take : (es : List Entry) (i : ℕ) (d : Entry) (p : ℕ → Bool) → i < length es → crossing (take (i + 1) es) p ≡ crossing (take i es) p + crossing_at p (get_or es i d)
crossing_take es i d p h =
    let one : i + 1 ≡ suc i = omega arith in
    ap (λ j. crossing (take j es) p) one ∙ ap (λ v. crossing v p) (take-suc es i d h) ∙ crossing_push (take i es) (get_or es i d) p

-- the pair of an entry's groups
pub pair_kept : (es pairs : List Entry) (i : ℕ) (d pair : Entry) (f : ℕ → ℕ) (p : ℕ → Bool) → i < length es → pair.u ≡ f (get_or es i d).u → pair.v ≡ f (get_or es i d).v → pair.x ≡ (get_or es i d).x
    → crossing pairs p ≡ crossing (take i es) (λ k. p (f k)) → crossing (pairs ++ pair ∷ []) p ≡ crossing (take (i + 1) es) (λ k. p (f k))
pair_kept es pairs i d pair f p h u v x before =
    let e = get_or es i d in
    let a = crossing_push pairs pair p in
    let b = crossing_take es i d (λ k. p (f k)) h in
    let c : crossing_at p pair ≡ crossing_at (λ k. p (f k)) e =
    ap (λ s. cond (p s) (cond (p pair.v) 0 pair.x) (cond (p pair.v) pair.x 0)) u
    ∙ ap (λ s. cond (p (f e.u)) (cond (p s) 0 pair.x) (cond (p s) pair.x 0)) v
    ∙ ap (λ s. cond (p (f e.u)) (cond (p (f e.v)) 0 s) (cond (p (f e.v)) s 0)) x in
    omega (arith, a, b, c, before)

nothing_case : (b c : Bool) → cond {A = ℕ} b (cond c 0 0) (cond c 0 0) ≡ 0
nothing_case true true = refl
nothing_case true false = refl
nothing_case false true = refl
nothing_case false false = refl

same_case : (b : Bool) (x : ℕ) → cond b (cond b 0 x) (cond b x 0) ≡ 0
same_case true x = refl
same_case false x = refl

-- an entry of no value crosses nothing
pub pair_of_nothing : (es : List Entry) (i : ℕ) (d : Entry) (q : ℕ → Bool) → i < length es → (get_or es i d).x ≤ 0 → crossing (take i es) q ≡ crossing (take (i + 1) es) q
pair_of_nothing es i d q h none =
    let e = get_or es i d in
    let b = crossing_take es i d q h in
    let zero : e.x ≡ 0 = omega (arith, none) in
    let c : crossing_at q e ≡ 0 = ap (λ s. cond (q e.u) (cond (q e.v) 0 s) (cond (q e.v) s 0)) zero ∙ nothing_case (q e.u) (q e.v) in
    omega (arith, b, c)

-- nor does one within a group
pub pair_within : (es : List Entry) (i : ℕ) (d : Entry) (f : ℕ → ℕ) (p : ℕ → Bool) → i < length es → f (get_or es i d).u ≡ f (get_or es i d).v → crossing (take i es) (λ k. p (f k)) ≡ crossing (take (i + 1) es) (λ k. p (f k))
pair_within es i d f p h same =
    let e = get_or es i d in
    let b = crossing_take es i d (λ k. p (f k)) h in
    let c : crossing_at (λ k. p (f k)) e ≡ 0 = ap (λ s. cond (p s) (cond (p (f e.v)) 0 e.x) (cond (p (f e.v)) e.x 0)) same ∙ same_case (p (f e.v)) e.x in
    omega (arith, b, c)
