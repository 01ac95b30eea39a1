-- Walks of linked cities, and the values that link them.
use Rattle.std.proofs.Common.{◌≡◌, ℕ, ◌<◌, ◌+◌, true, false, cond, eqb, ◌&&◌, List, [], ◌∷◌, ◌++◌, length, take, drop, get_or, refl, sym, ap, subst, ◌∙◌, arith, ⊎_elim}
use Rattle.std.proofs.lemmas.Bool.{cases_Bool, cond-true, cond-false}
use Rattle.std.proofs.lemmas.Bool.Decides.{nat_tests}
use Rattle.std.proofs.lemmas.List.{take-append-drop, drop_more}
use Rattle.tspdef.specs.Tours.{joins}
use Rattle.tspdef.proofs.Steps.{joins_is}
use Rattle.cyc.specs.declared.frac.Entry.{Entry}
use Rattle.cyc.specs.Frac.{Values, value_of, is_listed}
use Rattle.cyc.proofs.ListLemmas.{or_comm}
use Rattle.fracgraph.specs.Components.{IsLinked, IsWalk, Joined}

joins_turned : (u v a b : ℕ) → joins v u (a, b) ≡ joins u v (a, b)
joins_turned u v a b = or_comm (eqb a v && eqb b u) (eqb a u && eqb b v)

joins_self : (u v : ℕ) → joins u v (u, v) ≡ true
joins_self u v = grind (arith, nat_tests)

value_turned : (es : List Entry) (u v : ℕ) → value_of es v u ≡ value_of es u v
value_turned [] u v = refl
value_turned (e ∷ es) u v = rw (joins_turned u v e.u e.v, value_turned es u v) refl

-- the value of a pair in lists one after the other
value_append : (es fs : List Entry) (u v : ℕ) → value_of (es ++ fs) u v ≡ cond (is_listed es u v) (value_of es u v) (value_of fs u v)
value_append [] fs u v = refl
value_append (e ∷ es) fs u v = ⊎_elim
    (λ t. rw t refl)
    (λ n. rw n (value_append es fs u v))
    (cases_Bool (joins u v (e.u, e.v)))

-- the pair of an entry that no entry before it has is of its value
pub value_here : (es : List Entry) (i : ℕ) (e : Entry) → i < length es → e ≡ get_or es i e → is_listed (take i es) e.u e.v ≡ false → value_of es e.u e.v ≡ e.x
value_here es i e h is none =
    ap (λ fs. value_of fs e.u e.v) (sym (take-append-drop i es))
    ∙ (value_append (take i es) (drop i es) e.u e.v
    ∙ (cond-false _ _ _ none
    ∙ (ap (λ fs. value_of fs e.u e.v) (drop_more es i e h ∙ ap (λ f. f ∷ drop (i + 1) es) (sym is))
    ∙ cond-true _ _ _ (joins_self e.u e.v))))

-- what holds of the linked pairs of some entries, and of one entry more, holds of those of all of them
pub linked_more : (n low high : ℕ) (es : List Entry) (e : Entry) (f : ℕ → ℕ)
    → ((u v : ℕ) → u < n → v < n → low < value_of es u v → value_of es u v < high → f u ≡ f v)
    → (low < e.x → e.x < high → f e.u ≡ f e.v)
    → (u v : ℕ) → u < n → v < n → low < value_of (es ++ e ∷ []) u v → value_of (es ++ e ∷ []) u v < high → f u ≡ f v
linked_more n low high es e f old one u v a b l h =
    let all = value_append es (e ∷ []) u v in
    let low' = subst (λ k. low < k) all l in
    let high' = subst (λ k. k < high) all h in
    ⊎_elim
    (λ t. let is = cond-true (is_listed es u v) (value_of es u v) (value_of (e ∷ []) u v) t in old u v a b (subst (λ k. low < k) is low') (subst (λ k. k < high) is high'))
    (λ f'. let is = cond-false (is_listed es u v) (value_of es u v) (value_of (e ∷ []) u v) f' in
    let low'' = subst (λ k. low < k) is low' in
    let high'' = subst (λ k. k < high) is high' in
    ⊎_elim
    (λ j. let here = cond-true (joins u v (e.u, e.v)) e.x 0 j in
    let same = one (subst (λ k. low < k) here low'') (subst (λ k. k < high) here high'') in
    ⊎_elim
    (λ p. sym (ap f p.0) ∙ (same ∙ ap f p.1))
    (λ p. sym (ap f p.1) ∙ (sym same ∙ ap f p.0))
    (joins_is e.u e.v u v j))
    (λ j. let none = cond-false (joins u v (e.u, e.v)) e.x 0 j in let zero' = subst (λ k. low < k) none low'' in absurd (omega arith))
    (cases_Bool (joins u v (e.u, e.v))))
    (cases_Bool (is_listed es u v))

linked_turned : (x : Values) (low high u v : ℕ) → IsLinked x low high u v → IsLinked x low high v u
linked_turned x low high u v h = record {
  u_below = h.v_below;
  v_below = h.u_below;
  apart = λ e. h.apart (sym e);
  above = subst (λ k. low < k) (sym (value_turned x.entries u v)) h.above;
  below = subst (λ k. k < high) (sym (value_turned x.entries u v)) h.below;
}

walk_then : (x : Values) (low high u v w : ℕ) (cs ds : List ℕ) → IsWalk x low high u cs v → IsWalk x low high v ds w → IsWalk x low high u (cs ++ ds) w
walk_then x low high u v w [] ds a b = subst (λ k. IsWalk x low high k ds w) (sym a) b
walk_then x low high u v w (c ∷ cs) ds a b = (a.0, walk_then x low high c v w cs ds a.1 b)

pub joined_then : (x : Values) (low high u v w : ℕ) → Joined x low high u v → Joined x low high v w → Joined x low high u w
joined_then x low high u v w a b = (a.0 ++ b.0, walk_then x low high u v w a.0 b.0 a.1 b.1)

pub joined_link : (x : Values) (low high u v : ℕ) → IsLinked x low high u v → Joined x low high u v
joined_link x low high u v h = (v ∷ [], (h, refl))

pub joined_back : (x : Values) (low high u v : ℕ) → IsLinked x low high u v → Joined x low high v u
joined_back x low high u v h = joined_link x low high v u (linked_turned x low high u v h)
