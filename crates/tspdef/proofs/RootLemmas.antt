use Rattle.std.proofs.Common.{◌≡◌, ℕ, ◌<◌, false, List, [], ◌∷◌, ◌++◌, refl, ◌∙◌, ap, subst, arith, inl, inr, ⊎_elim}
use Rattle.std.specs.List.{AllByRecursion}
use Rattle.std.proofs.lemmas.Bool.Decides.{nat_tests}
use Rattle.tspdef.specs.Tours.{joins}
use Rattle.tspdef.specs.Fixed.{IsPairBefore, PairsRise, AreRisingPairs}
use Rattle.tspdef.specs.Paths.{Condition, fixed, absent, present, two, four, is_absent, is_present, is_decided, ContinuesPath, branches, fixed_conditions}
use Rattle.tspdef.specs.Laws.{RootsArePaths, ToursObeyRoots}
use Rattle.tspdef.proofs.Covering.{root_obeyed}

-- ---- the conditions behind the fixed pairs

pub branches_join : (path more : List Condition) → branches (path ++ more) ≡ branches path ++ branches more
branches_join [] more = refl
branches_join (fixed u v ∷ cs) more = branches_join cs more
branches_join (absent u v ∷ cs) more = ap (λ ds. absent u v ∷ ds) (branches_join cs more)
branches_join (present u v ∷ cs) more = ap (λ ds. present u v ∷ ds) (branches_join cs more)
branches_join (two s ∷ cs) more = ap (λ ds. two s ∷ ds) (branches_join cs more)
branches_join (four s ∷ cs) more = ap (λ ds. four s ∷ ds) (branches_join cs more)

pub no_branches : (pairs : List (ℕ × ℕ)) → branches (fixed_conditions pairs) ≡ []
no_branches [] = refl
no_branches (p ∷ ps) = no_branches ps

-- ---- fixed pairs are undecided, each by those before it

no_absent : (pairs : List (ℕ × ℕ)) (u v : ℕ) → is_absent (fixed_conditions pairs) u v ≡ false
no_absent [] u v = refl
no_absent (p ∷ ps) u v = no_absent ps u v

-- the pairs come before the pair
abbrev AllBefore : ℕ × ℕ → List (ℕ × ℕ) → Type 0
AllBefore q pairs = AllByRecursion (λ p. (p.0 < p.1) × IsPairBefore p q) pairs

apart : (a b u v : ℕ) → a < b → u < v → IsPairBefore (a, b) (u, v) → joins u v (a, b) ≡ false
apart a b u v h k before = ⊎_elim (λ l. grind (arith, nat_tests)) (λ e. let x = e.0 in let y = e.1 in grind (arith, nat_tests)) before

none_present : (pairs : List (ℕ × ℕ)) (u v : ℕ) → u < v → AllBefore (u, v) pairs → is_present (fixed_conditions pairs) u v ≡ false
none_present [] u v k all = refl
none_present (p ∷ ps) u v k all =
    let j = apart p.0 p.1 u v all.0.0 k all.0.1 in
    let r = none_present ps u v k all.1 in cc

undecided : (pairs : List (ℕ × ℕ)) (u v : ℕ) → u < v → AllBefore (u, v) pairs → is_decided (fixed_conditions pairs) u v ≡ false
undecided pairs u v k all = let x = no_absent pairs u v in let y = none_present pairs u v k all in cc

later : (p q r : ℕ × ℕ) → IsPairBefore p q → IsPairBefore q r → IsPairBefore p r
later p q r a b = ⊎_elim
    (λ l. ⊎_elim (λ m. inl (omega arith)) (λ m. let x = m.0 in inl (omega arith)) b)
    (λ l. let y = l.0 in let z = l.1 in ⊎_elim (λ m. inl (omega arith)) (λ m. let x = m.0 in let w = m.1 in inr (omega arith, omega arith)) b) a

all_later : (q r : ℕ × ℕ) (pairs : List (ℕ × ℕ)) → IsPairBefore q r → AllBefore q pairs → AllBefore r pairs
all_later q r [] h all = tt
all_later q r (p ∷ ps) h all = ((all.0.0, later p q r all.0.1 h), all_later q r ps h all.1)

all_joined : (q : ℕ × ℕ) (ps qs : List (ℕ × ℕ)) → AllBefore q ps → AllBefore q qs → AllBefore q (ps ++ qs)
all_joined q [] qs a b = b
all_joined q (p ∷ ps) qs a b = (a.0, all_joined q ps qs a.1 b)

fixed_join : (ps qs : List (ℕ × ℕ)) → fixed_conditions (ps ++ qs) ≡ fixed_conditions ps ++ fixed_conditions qs
fixed_join [] qs = refl
fixed_join (p ∷ ps) qs = ap (λ cs. fixed p.0 p.1 ∷ cs) (fixed_join ps qs)

continues : (n : ℕ) (before : List (ℕ × ℕ)) (q : ℕ × ℕ) (qs : List (ℕ × ℕ)) → AllBefore q before → (q.0 < q.1) × (q.1 < n)
    → AllByRecursion (λ p. (p.0 < p.1) × (p.1 < n)) qs → PairsRise q qs → ContinuesPath n (fixed_conditions before) (fixed_conditions (q ∷ qs))
continues n before q [] all here rest rise = ((((here.0, here.1), undecided before q.0 q.1 here.0 all), no_branches before), tt)
continues n before q (r ∷ rs) all here rest rise = (
  (((here.0, here.1), undecided before q.0 q.1 here.0 all), no_branches before),
  subst (λ cs. ContinuesPath n cs (fixed_conditions (r ∷ rs))) (fixed_join before (q ∷ []))
      (continues n (before ++ q ∷ []) r rs (all_joined r before (q ∷ []) (all_later q r before rise.0 all) ((here.0, rise.0), tt)) rest.0 rest.1 rise.1),
)

continues_all : (n : ℕ) (pairs : List (ℕ × ℕ)) → AllByRecursion (λ p. (p.0 < p.1) × (p.1 < n)) pairs → AreRisingPairs pairs → ContinuesPath n [] (fixed_conditions pairs)
continues_all n [] below rise = tt
continues_all n (p ∷ ps) below rise = continues n [] p ps tt below.0 below.1 rise

pub roots_are_paths : RootsArePaths
roots_are_paths n pairs below rise = record {
  is_path = continues_all n pairs below rise;
  behind = λ path. branches_join (fixed_conditions pairs) path ∙ ap (λ cs. cs ++ branches path) (no_branches pairs);
}

pub tours_obey_roots : ToursObeyRoots
tours_obey_roots i tour is = root_obeyed i tour is
