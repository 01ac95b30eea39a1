-- What is fixed are exactly the pairs that were given.
use Rattle.std.proofs.Common.{◌≡◌, ℕ, ◌+◌, ◌⊎◌, inl, inr, min, max, Bool, true, false, cond, ltb, ◌==◌, ◌||◌, ◌&&◌, List, [], ◌∷◌, Result, Ok, Err, refl, sym, ap, ◌∙◌, arith}
use Rattle.std.proofs.lemmas.Bool.Decides.{eqb_tells, nat_tests}
use Rattle.tspdef.specs.Tours.{has_step, joins}
use Rattle.tspdef.specs.Fixed.{pairs_at}
use Rattle.tspinst.specs.declared.refusals.PairFault.{PairFault}
use Rattle.tspinst.specs.declared.refusals.PairFault.TheVariants.{Loop, Third, Cycle, NoCity}
use Rattle.tspinst.specs.Fixings.{pair_of, with_pair, are_joined, leaves_out, fixed_with, fixed_if, placed, all_fixed}
use Rattle.tspinst.proofs.PairLemmas.{has_step_with}
use Rattle.tspinst.proofs.KeepLemmas.{either_order, step_turned}

abbrev Pairs : Type 0
Pairs = List (ℕ × ℕ)

abbrev Judged : Type 0
Judged = Result (List (ℕ × ℕ)) PairFault

abbrev IsOkThere : Judged → Pairs → Type 0
IsOkThere r more = ◌≡◌ {A = Result (List (ℕ × ℕ)) PairFault} r (Ok more)

kept : Judged → Pairs → Pairs
kept (Ok ps) other = ps
kept (Err f) other = other

is_kept : Judged → Bool
is_kept (Ok ps) = true
is_kept (Err f) = false

same_kept : (pairs more : Pairs) → IsOkThere (Ok pairs) more → more ≡ pairs
unfolding kept
same_kept pairs more e = sym (ap (λ r. kept r []) e)

never : (f : PairFault) (more : Pairs) → IsOkThere (Err f) more → ⊥
unfolding is_kept
never f more e = let no : false ≡ true = ap is_kept e in cc

-- what a pair more is: there already, or put among the others
one_of : (pairs after more : Pairs) (same there full closed : Bool) → IsOkThere (cond same (Err Loop) (cond there (Ok pairs) (cond full (Err Third) (cond closed (Err Cycle) (Ok after))))) more
    → ((there ≡ true) × (more ≡ pairs)) ⊎ (more ≡ after)
one_of pairs after more true there full closed e = absurd (never Loop more e)
one_of pairs after more false true full closed e = inl (refl, same_kept pairs more e)
one_of pairs after more false false true closed e = absurd (never Third more e)
one_of pairs after more false false false true e = absurd (never Cycle more e)
one_of pairs after more false false false false e = inr (same_kept after more e)

turned : (p q r s : Bool) → ((s && r) || (q && p)) ≡ ((p && q) || (r && s))
turned true true true true = refl
turned true true true false = refl
turned true true false true = refl
turned true true false false = refl
turned true false true true = refl
turned true false true false = refl
turned true false false true = refl
turned true false false false = refl
turned false true true true = refl
turned false true true false = refl
turned false true false true = refl
turned false true false false = refl
turned false false true true = refl
turned false false true false = refl
turned false false false true = refl
turned false false false false = refl

joins_lower : (a b u v : ℕ) → joins u v (pair_of a b) ≡ joins u v (a, b)
joins_lower a b u v = elim (either_order a b) [
  | inl o ↦ rw (o.0, o.1) refl
  | inr o ↦ rw (o.0, o.1) (turned (a == u) (b == v) (a == v) (b == u))
]

joined_case : (a b u v : ℕ) → joins u v (a, b) ≡ true → ((a ≡ u) × (b ≡ v)) ⊎ ((a ≡ v) × (b ≡ u))
joined_case a b u v e = grind (arith, nat_tests)

-- a pair that is there already joins nothing new
there_case : (pairs : Pairs) (a b u v : ℕ) (j : Bool) → joins u v (a, b) ≡ j → has_step pairs a b ≡ true → has_step pairs u v ≡ (j || has_step pairs u v)
there_case pairs a b u v false e h = refl
there_case pairs a b u v true e h = elim (joined_case a b u v e) [
  | inl o ↦ rw (← o.0, ← o.1) h
  | inr o ↦ rw (← o.0, ← o.1) (step_turned pairs b a ∙ h)
]

with_case : (pairs more : Pairs) (a b u v : ℕ) → ((has_step pairs a b ≡ true) × (more ≡ pairs)) ⊎ (more ≡ with_pair (pair_of a b) pairs) → has_step more u v ≡ (joins u v (a, b) || has_step pairs u v)
with_case pairs more a b u v (inl o) = rw o.1 (there_case pairs a b u v (joins u v (a, b)) refl o.0)
with_case pairs more a b u v (inr o) = rw o (has_step_with (pair_of a b) pairs u v ∙ rw (joins_lower a b u v) refl)

fixed_exact : (n : ℕ) (pairs more : Pairs) (a b u v : ℕ) → IsOkThere (fixed_with n pairs a b) more → has_step more u v ≡ (joins u v (a, b) || has_step pairs u v)
unfolding fixed_with
fixed_exact n pairs more a b u v e =
    with_case pairs more a b u v (one_of pairs (with_pair (pair_of a b) pairs) more (a == b) (has_step pairs a b) (ltb 1 (pairs_at pairs a) || ltb 1 (pairs_at pairs b)) (are_joined pairs a b && leaves_out pairs a n) e)

any_exact : (n : ℕ) (pairs more : Pairs) (p : ℕ × ℕ) (u v : ℕ) (city : Bool) → IsOkThere (cond city (fixed_with n pairs p.0 p.1) (Err NoCity)) more → has_step more u v ≡ (joins u v p || has_step pairs u v)
any_exact n pairs more p u v true e = fixed_exact n pairs more p.0 p.1 u v e
any_exact n pairs more p u v false e = absurd (never NoCity more e)

in_turn : (a b c : Bool) → ((a || b) || c) ≡ (b || (a || c))
in_turn true true c = refl
in_turn true false c = refl
in_turn false true c = refl
in_turn false false c = refl

abbrev Fixed : Type 0
Fixed = Result (List (ℕ × ℕ)) (ℕ × PairFault)

all_kept : Fixed → Pairs
all_kept (Ok ps) = ps
all_kept (Err f) = []

all_are_kept : Fixed → Bool
all_are_kept (Ok ps) = true
all_are_kept (Err f) = false

placed_case : (k : ℕ) (r : Judged) (onward : Pairs → Fixed) (all : Pairs) → ◌≡◌ {A = Result (List (ℕ × ℕ)) (ℕ × PairFault)} (placed k r onward) (Ok all) → (more : Pairs) × (IsOkThere r more) × (◌≡◌ {A = Result (List (ℕ × ℕ)) (ℕ × PairFault)} (onward more) (Ok all))
unfolding all_are_kept
placed_case k (Ok more) onward all e = (more, refl, e)
placed_case k (Err f) onward all e = absurd (let no : false ≡ true = ap all_are_kept e in cc)

none_more : (b : Bool) → b ≡ (b || false)
none_more true = refl
none_more false = refl

-- what all pairs in turn join
pub all_exact : (n : ℕ) (pairs all ps : List (ℕ × ℕ)) (k u v : ℕ) → all_fixed n pairs k ps ≡ Ok all → has_step all u v ≡ (has_step pairs u v || has_step ps u v)
unfolding all_fixed all_kept
all_exact n pairs all [] k u v e = let same : pairs ≡ all = ap all_kept e in rw (← same) (none_more (has_step pairs u v))
all_exact n pairs all (p ∷ ps) k u v e =
    let h = placed_case k (fixed_if n pairs p) (λ more. all_fixed n more (k + 1) ps) all e in
    all_exact n h.0 all ps (k + 1) u v h.2
    ∙ rw (any_exact n pairs h.0 p u v (ltb p.0 n && ltb p.1 n) h.1) (in_turn (joins u v p) (has_step pairs u v) (has_step ps u v))
