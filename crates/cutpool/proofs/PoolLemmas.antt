-- Cuts of a pool: found, missing, distinct.
use Rattle.std.proofs.Common.{◌≡◌, ◌≢◌, ℕ, ◌<◌, zero, suc, Bool, true, false, List, [], ◌∷◌, length, get_or, Some, slice_get, sym, ap, ◌∙◌, arith}
use Rattle.std.proofs.lemmas.Bool.{false≢true, or_parts}
use Rattle.std.proofs.lemmas.Option.{slice_get-get_or}
use Rattle.std.proofs.lemmas.List.Quantifiers.{position-Some}
use Rattle.std.proofs.lemmas.Map.Keys.{IsDistinct-head, IsDistinct-tail}
use Rattle.std.specs.List.{AllByRecursion, Contains, list_any, position, IsDistinct}
use Rattle.std.specs.Ordering.{eq_by_cmp}
use Rattle.tspdef.specs.Cuts.{Cut, cut_cmp}
use Rattle.cutform.specs.Order.{same_cuts, same_cuts_tie}
use Rattle.cutpool.specs.Pool.{AreDistinctCuts}

abbrev pub is_same : Cut → Cut → Bool
is_same = eq_by_cmp cut_cmp

-- the number that is found is that of an equal cut
pub found_is : (cut : Cut) (cuts : List Cut) (k : ℕ) → position (is_same cut) cuts ≡ Some k → (k < length cuts) × (slice_get cuts k ≡ Some cut)
found_is cut cuts k e =
    let p = position-Some (is_same cut) cuts k cut e in
    (p.0, slice_get-get_or cuts k cut p.0 ∙ ap (λ c. Some c) (sym (same_cuts cut (get_or cuts k cut) p.1)))

at_none : (cut : Cut) (cuts : List Cut) (k : ℕ) → list_any (is_same cut) cuts ≡ false → k < length cuts → get_or cuts k cut ≡ cut → ⊥
at_none cut [] k e h is = absurd (omega arith)
at_none cut (c ∷ cs) zero e h is = let p = or_parts (is_same cut c) (list_any (is_same cut) cs) e in false≢true (sym p.0 ∙ same_cuts_tie cut c (sym is))
at_none cut (c ∷ cs) (suc k) e h is = let p = or_parts (is_same cut c) (list_any (is_same cut) cs) e in at_none cut cs k p.1 (omega arith) is

-- a cut that no test finds is not there
pub missing_is : (cut : Cut) (cuts : List Cut) → list_any (is_same cut) cuts ≡ false → ¬ Contains cuts cut
missing_is cut cuts e (k, h, is) = at_none cut cuts k e h is

different : (a b : Cut) → is_same a b ≡ false → a ≢ b
different a b e h = false≢true (sym e ∙ same_cuts_tie a b h)

each_different : (a : Cut) (cs : List Cut) → AllByRecursion (λ b. is_same a b ≡ false) cs → AllByRecursion (λ b. a ≢ b) cs
each_different a [] h = tt
each_different a (c ∷ cs) h = (different a c h.0, each_different a cs h.1)

-- keys that are distinct by their test are distinct
pub distinct_are : (cs : List Cut) → IsDistinct is_same cs → AreDistinctCuts cs
distinct_are [] h = tt
distinct_are (c ∷ cs) h = (each_different c cs (IsDistinct-head is_same c cs h), distinct_are cs (IsDistinct-tail is_same c cs h))
