-- Sets that fit, and their crossing weights.
use Rattle.std.proofs.Common.{◌≡◌, ℕ, ◌+◌, ◌^◌, ◌<◌, ◌≤◌, Bool, true, false, not, cond, List, [], ◌∷◌, length, take, drop, get_or, refl, sym, ap, subst, ◌∙◌, arith, inl, inr, ◌-◌}
use Rattle.std.specs.List.{AllByRecursion}
use Rattle.std.proofs.lemmas.List.{take_more, drop_more}
use Rattle.std.proofs.lemmas.List.Sums.{sum_by-append, sum_by-cons}
use Rattle.tspdef.specs.Sets.{IsProper}
use Rattle.std.proofs.lemmas.List.Elements.{All-from_recursion}
use Rattle.tspdef.specs.Bounds.{scale}
use Rattle.tspdef.specs.Paths.{Condition}
use Rattle.cyc.specs.CitySet.{Members}
use Rattle.cyc.specs.declared.frac.Entry.{Entry}
use Rattle.cyc.specs.Frac.{Values, AreEntries, IsEntry}
use Rattle.cyc.proofs.EntryLemmas.{entries_take}
use Rattle.maxflow.specs.Crossings.{crossing_at, crossing}
use Rattle.maxflow.proofs.CrossingLemmas.{crossing_small}
use Rattle.fracgraph.specs.Components.{IsComponent}
use Rattle.branchx.specs.declared.branch.Branch.TheVariants.{Edge, Clique}
use Rattle.branchx.specs.declared.nearest.Open.{Open}
use Rattle.branchx.specs.Branch.{IsSplit}
use Rattle.branchx.specs.Choice.{IsFit, IsFirstFit, DoNoneFit, AreMiddle, IsNearest, IsChoice}
use Rattle.branchx.specs.Table.{IsTableOf, IsNearestBefore}
use Rattle.branchx.proofs.BestLemmas.{nearest_is}

-- one entry more
pub crossing_more : (es : List Entry) (i : ℕ) (d : Entry) (p : ℕ → Bool) → i < length es → crossing (take (i + 1) es) p ≡ crossing (take i es) p + crossing_at p (get_or es i d)
crossing_more es i d p h =
    let both = sum_by-append (crossing_at p) (take i es) (get_or es i d ∷ []) in
    let one : crossing (get_or es i d ∷ []) p ≡ crossing_at p (get_or es i d) + crossing [] p = sum_by-cons (crossing_at p) (get_or es i d) [] in
    let nothing : crossing [] p ≡ 0 = refl in
    ap (λ fs. crossing fs p) (take_more es i d h) ∙ omega (arith, both, one, nothing)

crossed_case : (a b : Bool) (x : ℕ) → (a ≡ b → ⊥) → cond a (cond b 0 x) (cond b x 0) ≡ x
crossed_case true true x ne = absurd (ne refl)
crossed_case true false x ne = refl
crossed_case false true x ne = refl
crossed_case false false x ne = absurd (ne refl)

uncrossed_case : (a b : Bool) (x : ℕ) → a ≡ b → cond a (cond b 0 x) (cond b x 0) ≡ 0
uncrossed_case true true x e = refl
uncrossed_case true false x e = absurd cc
uncrossed_case false true x e = absurd cc
uncrossed_case false false x e = refl

pub crossing_added : (es : List Entry) (i : ℕ) (d : Entry) (p : ℕ → Bool) → i < length es → (p (get_or es i d).u ≡ p (get_or es i d).v → ⊥) → crossing (take (i + 1) es) p ≡ crossing (take i es) p + (get_or es i d).x
crossing_added es i d p h ne = crossing_more es i d p h ∙ ap (λ k. crossing (take i es) p + k) (crossed_case (p (get_or es i d).u) (p (get_or es i d).v) (get_or es i d).x ne)

pub crossing_kept : (es : List Entry) (i : ℕ) (d : Entry) (p : ℕ → Bool) → i < length es → p (get_or es i d).u ≡ p (get_or es i d).v → crossing (take (i + 1) es) p ≡ crossing (take i es) p
crossing_kept es i d p h e =
    let more = crossing_more es i d p h in
    let none : crossing_at p (get_or es i d) ≡ 0 = uncrossed_case (p (get_or es i d).u) (p (get_or es i d).v) (get_or es i d).x e in
    omega (arith, more, none)

pub crossing_fits : (n : ℕ) (es : List Entry) (i : ℕ) (p : ℕ → Bool) → n ≤ 2000 → AreEntries n es → crossing (take i es) p < 2 ^ 53
crossing_fits n es i p few a = crossing_small n (take i es) p few (entries_take n i es a)

-- the first that fits is one of the sets
pub fit_among : (x : Values) (path : List Condition) (sets : List Members) (s : Members) (P : Members → Type 0) → IsFirstFit x path sets s → AllByRecursion P sets → IsFit x path s × P s
fit_among x path [] s P f a = absurd f
fit_among x path (t ∷ ts) s P (inl f) a = (subst (IsFit x path) (sym f.1) f.0, subst P (sym f.1) a.0)
fit_among x path (t ∷ ts) s P (inr f) a = fit_among x path ts s P f.1 a.1

-- a component that fits is proper
pub fit_is_proper : (x : Values) (path : List Condition) (low high : ℕ) (s : Members) → IsFit x path s → IsComponent x low high s → IsProper x.n s.cities
fit_is_proper x path low high s f c = record {
  set = c.set;
  some = let a = f.some in omega arith;
  not_all = let a = f.others in omega arith;
}

-- ---- sets one by one

pub fits_here : (x : Values) (path : List Condition) (sets : List Members) (i : ℕ) (s : Members) → i < length sets → s ≡ get_or sets i s → IsFit x path s → IsFirstFit x path (drop i sets) s
fits_here x path sets i s h is fit =
    subst (λ ts. IsFirstFit x path ts s) (sym (drop_more sets i s h ∙ ap (λ t. t ∷ drop (i + 1) sets) (sym is))) (inl (fit, refl))

pub fits_later : (x : Values) (path : List Condition) (sets : List Members) (i : ℕ) (s t : Members) → i < length sets → s ≡ get_or sets i s → (IsFit x path s → ⊥) → IsFirstFit x path (drop (i + 1) sets) t → IsFirstFit x path (drop i sets) t
fits_later x path sets i s t h is not fit =
    subst (λ ts. IsFirstFit x path ts t) (sym (drop_more sets i s h ∙ ap (λ w. w ∷ drop (i + 1) sets) (sym is))) (inr (not, fit))

pub none_later : (x : Values) (path : List Condition) (sets : List Members) (i : ℕ) (s : Members) → i < length sets → s ≡ get_or sets i s → (IsFit x path s → ⊥) → DoNoneFit x path (drop (i + 1) sets) → DoNoneFit x path (drop i sets)
none_later x path sets i s h is not none =
    subst (DoNoneFit x path) (sym (drop_more sets i s h ∙ ap (λ w. w ∷ drop (i + 1) sets) (sym is))) (not, none)

-- ---- splits

pub set_splits : (x : Values) (path : List Condition) (n : ℕ) (read sets : List Members) (s : Members) → x.n ≡ n → read ≡ sets → AreMiddle x sets → IsFirstFit x path read s → IsSplit n path (Clique s)
set_splits x path n read sets s e same are first =
    let is = fit_among x path sets s (IsComponent x (2 ^ 10) (scale - 2 ^ 10)) (subst (λ ts. IsFirstFit x path ts s) same first) are.each in
    subst (λ k. IsSplit k path (Clique s)) e (fit_is_proper x path (2 ^ 10) (scale - 2 ^ 10) s is.0 is.1, is.0.new)

pub set_is_choice : (x : Values) (path : List Condition) (read sets : List Members) (s : Members) → read ≡ sets → AreMiddle x sets → IsFirstFit x path read s → IsChoice x path (Clique s)
set_is_choice x path read sets s same are first = (sets, (are, subst (λ ts. IsFirstFit x path ts s) same first))

pub pair_is_nearest : (x : Values) (path : List Condition) (m : ℕ) (read table : List Bool) (o : Open) → m ≡ x.n → read ≡ table → IsTableOf m path table → IsNearestBefore x read x.n 0 o → IsNearest x path o.u o.v
pair_is_nearest x path m read table o d same is near =
    nearest_is x path table o (subst (λ k. IsTableOf k path table) d is) (subst (λ t. IsNearestBefore x t x.n 0 o) same near)

pub pair_splits : (x : Values) (path : List Condition) (n : ℕ) (o : Open) → x.n ≡ n → IsNearest x path o.u o.v → IsSplit n path (Edge o.u o.v)
pair_splits x path n o e near = subst (λ k. IsSplit k path (Edge o.u o.v)) e (near.pair, near.free)

pub pair_is_choice : (x : Values) (path : List Condition) (read sets : List Members) (o : Open) → read ≡ sets → AreMiddle x sets → DoNoneFit x path read → IsNearest x path o.u o.v → IsChoice x path (Edge o.u o.v)
pair_is_choice x path read sets o same are none near = ((sets, (are, subst (DoNoneFit x path) same none)), near)

pub entry_small : (n : ℕ) (es : List Entry) (i : ℕ) (d : Entry) → AreEntries n es → i < length es → (get_or es i d).x ≤ 2 ^ 30
entry_small n es i d a h = (All-from_recursion (IsEntry n) es a.each i d h).small
