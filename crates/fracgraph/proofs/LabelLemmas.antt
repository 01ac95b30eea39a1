-- Labels of linked cities: what a merge of two labels leaves.
use Rattle.std.proofs.Common.{◌≡◌, ℕ, ◌<◌, ◌≤◌, ◌+◌, min, max, false, eqb, ◌⊎◌, List, [], ◌∷◌, ◌++◌, length, take, get_or, refl, sym, ap, subst, ◌∙◌, arith, ⊎_elim}
use Rattle.std.proofs.lemmas.Bool.{cases_eq, cases_lt, cond-true, cond-false, eq-eqb, ne_eqb}
use Rattle.std.proofs.lemmas.Bool.Decides.{nat_tests}
use Rattle.std.proofs.lemmas.List.{take_more}
use Rattle.cyc.specs.declared.frac.Entry.{Entry}
use Rattle.cyc.specs.Frac.{Values, AreEntries, IsEntry, is_listed}
use Rattle.cyc.proofs.EntryLemmas.{entries_take, entries_last}
use Rattle.fracgraph.specs.Components.{IsLinked, Joined}
use Rattle.fracgraph.specs.Labels.{IsLabelling, relabelled, merged}
use Rattle.fracgraph.proofs.WalkLemmas.{value_here, linked_more, joined_then, joined_link, joined_back}

ends_same : (from to : ℕ) → relabelled from to from ≡ relabelled from to to
ends_same from to = grind (arith, nat_tests)

-- which cities have one label once two labels are one
split_label : (x y from to : ℕ) → relabelled from to x ≡ relabelled from to y → (x ≡ y) ⊎ (((x ≡ from) × (y ≡ to)) ⊎ ((x ≡ to) × (y ≡ from)))
split_label x y from to e = grind (arith, nat_tests)

no_more : (from to label c : ℕ) → to ≤ from → label ≤ c → relabelled from to label ≤ c
no_more from to label c h l = grind (arith, nat_tests)

to_stays : (from to : ℕ) → relabelled from to to ≡ to
to_stays from to = grind (arith, nat_tests)

root_kept : (f : ℕ → ℕ) (from to label : ℕ) → f to ≡ to → f label ≡ label → relabelled from to (f (relabelled from to label)) ≡ relabelled from to label
root_kept f from to label a b = ⊎_elim
    (λ e. let is : relabelled from to label ≡ to = cond-true (eqb label from) to label (eq-eqb label from e) in
    subst (λ k. relabelled from to (f k) ≡ k) (sym is) (ap (relabelled from to) a ∙ to_stays from to))
    (λ ne. let is : relabelled from to label ≡ label = cond-false (eqb label from) to label (ne_eqb label from ne) in
    subst (λ k. relabelled from to (f k) ≡ k) (sym is) (ap (relabelled from to) b ∙ is))
    (cases_eq label from)

-- one label in place of another of a city that is joined to one of its own
replaced : (x : Values) (low high : ℕ) (es : List Entry) (f g : ℕ → ℕ) (a b : ℕ) → a < x.n → b < x.n
    → f b ≤ f a → Joined x low high a b → Joined x low high b a
    → ((c : ℕ) → c < x.n → g c ≡ relabelled (f a) (f b) (f c))
    → IsLabelling x low high es f → IsLabelling x low high es g × (g a ≡ g b)
replaced x low high es f g a b ah bh order ab ba each is =
    let from = f a in
    let to = f b in (
      record {
        least = λ c h. subst (λ k. k ≤ c) (sym (each c h)) (no_more from to (f c) c order (is.least c h));
        root = λ c h.
            let small = no_more from to (f c) c order (is.least c h) in
            ap g (each c h) ∙ (each (relabelled from to (f c)) (omega arith)
            ∙ (root_kept f from to (f c) (is.root b bh) (is.root c h) ∙ sym (each c h)));
        joined = λ u v uh vh e. ⊎_elim
            (λ same. is.joined u v uh vh same)
            (λ other. ⊎_elim
            (λ p. joined_then x low high u a v (is.joined u a uh ah p.0) (joined_then x low high a b v ab (is.joined b v bh vh (sym p.1))))
            (λ p. joined_then x low high u b v (is.joined u b uh bh p.0) (joined_then x low high b a v ba (is.joined a v ah vh (sym p.1))))
            other)
            (split_label (f u) (f v) from to (sym (each u uh) ∙ (e ∙ each v vh)));
        linked = λ u v uh vh l h. each u uh ∙ (ap (relabelled from to) (is.linked u v uh vh l h) ∙ sym (each v vh));
      },
      each a ah ∙ (ends_same from to ∙ sym (each b bh)),
    )

-- the labels of two linked cities made one
labels_merged : (x : Values) (low high : ℕ) (es : List Entry) (f g : ℕ → ℕ) (u v : ℕ) → IsLinked x low high u v
    → ((c : ℕ) → c < x.n → g c ≡ merged (f u) (f v) (f c))
    → IsLabelling x low high es f → IsLabelling x low high es g × (g u ≡ g v)
labels_merged x low high es f g u v link each is =
    let a = f u in
    let b = f v in
    let go = joined_link x low high u v link in
    let back = joined_back x low high u v link in
    ⊎_elim
    (λ l. let most : max a b ≡ b = omega arith in
    let least : min a b ≡ a = omega arith in
    let r = replaced x low high es f g v u link.v_below link.u_below (omega arith) back go
    (λ c h. each c h ∙ (ap (λ k. relabelled k (min a b) (f c)) most ∙ ap (λ k. relabelled b k (f c)) least)) is in
    (r.0, sym r.1))
    (λ l. let most : max a b ≡ a = omega arith in
    let least : min a b ≡ b = omega arith in
    replaced x low high es f g u v link.u_below link.v_below l go back
    (λ c h. each c h ∙ (ap (λ k. relabelled k (min a b) (f c)) most ∙ ap (λ k. relabelled a k (f c)) least)) is)
    (cases_lt a b)

more_is : (es : List Entry) (i : ℕ) (e : Entry) → i < length es → e ≡ get_or es i e → take (i + 1) es ≡ take i es ++ e ∷ []
more_is es i e h is = take_more es i e h ∙ ap (λ f. take i es ++ f ∷ []) (sym is)

-- an entry in its place
entry_is : (n : ℕ) (es : List Entry) (i : ℕ) (e : Entry) → AreEntries n es → i < length es → e ≡ get_or es i e → IsEntry n e × (is_listed (take i es) e.u e.v ≡ false)
entry_is n es i e a h is = entries_last n (take i es) e (subst (AreEntries n) (more_is es i e h is) (entries_take n (i + 1) es a))

pub entry_pair : (n : ℕ) (es : List Entry) (i : ℕ) (e : Entry) → AreEntries n es → i < length es → e ≡ get_or es i e → (e.u < n) × (e.v < n)
entry_pair n es i e a h is = let p = entry_is n es i e a h is in (p.0.u_below, p.0.v_below)

-- an entry that links two cities
pub labels_linked : (x : Values) (low high i : ℕ) (e : Entry) (f g : ℕ → ℕ) → AreEntries x.n x.entries → i < length x.entries → e ≡ get_or x.entries i e
    → low < e.x → e.x < high
    → ((c : ℕ) → c < x.n → g c ≡ merged (f e.u) (f e.v) (f c))
    → IsLabelling x low high (take i x.entries) f → IsLabelling x low high (take (i + 1) x.entries) g
labels_linked x low high i e f g entries h is l m each old =
    let p = entry_is x.n x.entries i e entries h is in
    let value = value_here x.entries i e h is p.1 in
    let link : IsLinked x low high e.u e.v = record {
      u_below = p.0.u_below;
      v_below = p.0.v_below;
      apart = p.0.apart;
      above = subst (λ k. low < k) (sym value) l;
      below = subst (λ k. k < high) (sym value) m;
    } in
    let r = labels_merged x low high (take i x.entries) f g e.u e.v link each old in
    subst (λ es. IsLabelling x low high es g) (sym (more_is x.entries i e h is)) (record {
      least = r.0.least;
      root = r.0.root;
      joined = r.0.joined;
      linked = linked_more x.n low high (take i x.entries) e g r.0.linked (λ a b. r.1);
    })

-- an entry that links none
pub labels_kept : (x : Values) (low high i : ℕ) (e : Entry) (f : ℕ → ℕ) → i < length x.entries → e ≡ get_or x.entries i e
    → (low < e.x → e.x < high → ⊥) → IsLabelling x low high (take i x.entries) f → IsLabelling x low high (take (i + 1) x.entries) f
labels_kept x low high i e f h is not_between old =
    subst (λ es. IsLabelling x low high es f) (sym (more_is x.entries i e h is)) (record {
      least = old.least;
      root = old.root;
      joined = old.joined;
      linked = linked_more x.n low high (take i x.entries) e f old.linked (λ a b. absurd (not_between a b));
    })

-- the same labels by another function
pub labelling_same : (x : Values) (low high : ℕ) (es : List Entry) (f g : ℕ → ℕ) → ((c : ℕ) → c < x.n → g c ≡ f c) → IsLabelling x low high es f → IsLabelling x low high es g
labelling_same x low high es f g same is = record {
  least = λ c h. subst (λ k. k ≤ c) (sym (same c h)) (is.least c h);
  root = λ c h. let l = is.least c h in ap g (same c h) ∙ (same (f c) (omega arith) ∙ (is.root c h ∙ sym (same c h)));
  joined = λ u v uh vh e. is.joined u v uh vh (sym (same u uh) ∙ (e ∙ same v vh));
  linked = λ u v uh vh l h. same u uh ∙ (is.linked u v uh vh l h ∙ sym (same v vh));
}

-- each city as its own label
pub labelling_own : (x : Values) (low high : ℕ) (f : ℕ → ℕ) → ((c : ℕ) → c < x.n → f c ≡ c) → IsLabelling x low high [] f
labelling_own x low high f own = record {
  least = λ c h. let e = own c h in omega arith;
  root = λ c h. ap f (own c h);
  joined = λ u v uh vh e. subst (λ w. Joined x low high u w) (sym (own u uh) ∙ (e ∙ own v vh)) ([], refl);
  linked = λ u v uh vh l h. absurd (no_value l);
}
  where
    no_value : {low : ℕ} → low < 0 → ⊥
    no_value l = omega arith
