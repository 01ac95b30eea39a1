-- Roots of trees in which no city's parent is above it.
use Rattle.std.proofs.Common.{◌≡◌, ℕ, zero, suc, ◌<◌, ◌≤◌, ◌+◌, min, max, eqb, List, [], ◌∷◌, ◌++◌, length, set, refl, sym, ap, ◌∙◌, arith, ⊎_elim}
use Rattle.std.specs.Prelude.{slice_index, slice_index_or}
use Rattle.std.proofs.lemmas.Bool.{cases_eq, cases_lt, cond-true, cond-false, eq-eqb, ne_eqb}
use Rattle.std.proofs.lemmas.List.{get_or-set_same, get_or-set_other, get_or_past, get_or_append_left}
use Rattle.std.proofs.lemmas.Grind.{get_or_default_zero}
use Rattle.std.proofs.Math.Seq.{get_or-append_seam}
use Rattle.fracgraph.specs.Labels.{ParentsFall, root_within, root_of, relabelled, merged}

-- a step up
step_root : (k : ℕ) (ps : List ℕ) (c : ℕ) → slice_index ps c ≡ c → root_within k ps c ≡ c
step_root zero ps c e = refl
step_root (suc k) ps c e = cond-true (eqb (slice_index ps c) c) c _ (eq-eqb (slice_index ps c) c e)

step_on : (k : ℕ) (ps : List ℕ) (c : ℕ) → (slice_index ps c ≡ c → ⊥) → root_within (suc k) ps c ≡ root_within k ps (slice_index ps c)
step_on k ps c ne = cond-false (eqb (slice_index ps c) c) c _ (ne_eqb (slice_index ps c) c ne)

-- as many steps as the city's number are enough
pub enough : (k j : ℕ) (ps : List ℕ) (c : ℕ) → ParentsFall ps → c < length ps → c ≤ k → c ≤ j → root_within k ps c ≡ root_within j ps c
enough zero j ps c fall below h l = let f = fall c below in sym (step_root j ps c (omega arith))
enough (suc k) zero ps c fall below h l = let f = fall c below in step_root (suc k) ps c (omega arith)
enough (suc k) (suc j) ps c fall below h l = ⊎_elim
    (λ e. step_root (suc k) ps c e ∙ sym (step_root (suc j) ps c e))
    (λ ne. let f = fall c below in
    step_on k ps c ne ∙ (enough k j ps (slice_index ps c) fall (omega arith) (omega arith) (omega arith) ∙ sym (step_on j ps c ne)))
    (cases_eq (slice_index ps c) c)

-- the root of a city that is not one is its parent's
pub root_above : (ps : List ℕ) (c : ℕ) → ParentsFall ps → c < length ps → (slice_index ps c ≡ c → ⊥) → root_of ps c ≡ root_of ps (slice_index ps c)
root_above ps c fall below ne =
    let f = fall c below in
    enough c (c + 1) ps c fall below (omega arith) (omega arith)
    ∙ (ap (λ k. root_within k ps c) (one c)
    ∙ (step_on c ps c ne ∙ enough c (slice_index ps c) ps (slice_index ps c) fall (omega arith) (omega arith) (omega arith)))
  where
    one : (k : ℕ) → k + 1 ≡ suc k
    one k = omega arith

pub root_own : (ps : List ℕ) (c : ℕ) → slice_index ps c ≡ c → root_of ps c ≡ c
root_own ps c e = step_root c ps c e

-- one root put under a lesser one
module _ (ps : List ℕ) (a b : ℕ) (fall : ParentsFall ps) (order : a < b) (within : b < length ps) (a_own : slice_index ps a ≡ a) (b_own : slice_index ps b ≡ b) where
  abbrev new : List ℕ
  new = set ps b a

  at_b : slice_index new b ≡ a
  at_b = get_or-set_same ps b a 0 within

  at_other : (c : ℕ) → (c ≡ b → ⊥) → slice_index new c ≡ slice_index ps c
  at_other c ne = get_or-set_other ps b c a 0 ne

  under_own : (k c : ℕ) → (c ≡ b → ⊥) → slice_index ps c ≡ c → root_within k new c ≡ relabelled b a (root_within k ps c)
  under_own k c ne own = step_root k new c (at_other c ne ∙ own) ∙ sym (ap (relabelled b a) (step_root k ps c own) ∙ cond-false (eqb c b) a c (ne_eqb c b ne))

  under_root : (k c : ℕ) → c ≡ b → root_within (suc k) new c ≡ relabelled b a (root_within (suc k) ps c)
  under_root k c e =
      let up : slice_index new c ≡ a = ap (slice_index new) e ∙ at_b in
      let still : slice_index new a ≡ a = at_other a (λ s. omega arith) ∙ a_own in
      let was : root_within (suc k) ps c ≡ b = ap (root_within (suc k) ps) e ∙ step_root (suc k) ps b b_own in
      step_on k new c (λ s. omega arith)
      ∙ (ap (root_within k new) up
      ∙ (step_root k new a still
      ∙ sym (ap (relabelled b a) was ∙ cond-true (eqb b b) a b (eq-eqb b b refl))))

  under_within : (k c : ℕ) → c < length ps → c ≤ k → root_within k new c ≡ relabelled b a (root_within k ps c)
  under_within zero c below h = let f = fall c below in under_own zero c (λ s. omega arith) (omega arith)
  under_within (suc k) c below h = ⊎_elim
      (λ (e : c ≡ b). under_root k c e)
      (λ (ne : c ≡ b → ⊥). ⊎_elim
      (λ (own : slice_index ps c ≡ c). under_own (suc k) c ne own)
      (λ (up : slice_index ps c ≡ c → ⊥).
      let f = fall c below in
      let same = at_other c ne in
      step_on k new c (λ s. up (sym same ∙ s))
      ∙ (ap (root_within k new) same
      ∙ (under_within k (slice_index ps c) (omega arith) (omega arith)
      ∙ ap (relabelled b a) (sym (step_on k ps c up)))))
      (cases_eq (slice_index ps c) c))
      (cases_eq c b)

  pub under_roots : (c : ℕ) → c < length ps → root_of new c ≡ relabelled b a (root_of ps c)
  under_roots c below = under_within c c below (omega arith)

  pub under_fall : (c : ℕ) → c < length ps → slice_index new c ≤ c
  under_fall c below = ⊎_elim
      (λ (e : c ≡ b). let up = ap (slice_index new) e ∙ at_b in omega arith)
      (λ (ne : c ≡ b → ⊥). let same = at_other c ne in let f = fall c below in omega arith)
      (cases_eq c b)

-- one city put right under its root
module _ (ps : List ℕ) (k m : ℕ) (fall : ParentsFall ps) (within : k < length ps) (is : m ≡ root_of ps k) (least : m ≤ k) (m_own : slice_index ps m ≡ m) where
  abbrev shorter : List ℕ
  shorter = set ps k m

  at_k : slice_index shorter k ≡ m
  at_k = get_or-set_same ps k m 0 within

  at_apart : (c : ℕ) → (c ≡ k → ⊥) → slice_index shorter c ≡ slice_index ps c
  at_apart c ne = get_or-set_other ps k c m 0 ne

  short_here : (j c : ℕ) → c ≡ k → c ≤ suc j → root_within (suc j) shorter c ≡ root_within (suc j) ps c
  short_here j c e h =
      let was : root_within (suc j) ps c ≡ m = ap (root_within (suc j) ps) e ∙ (enough (suc j) k ps k fall within (omega arith) (omega arith) ∙ sym is) in
      let up : slice_index shorter c ≡ m = ap (slice_index shorter) e ∙ at_k in
      ⊎_elim
      (λ (own : m ≡ k). step_root (suc j) shorter c (up ∙ (own ∙ sym e)) ∙ (e ∙ (sym own ∙ sym was)))
      (λ (other : m ≡ k → ⊥).
      let still : slice_index shorter m ≡ m = at_apart m other ∙ m_own in
      step_on j shorter c (λ s. other (sym up ∙ (s ∙ e)))
      ∙ (ap (root_within j shorter) up
      ∙ (step_root j shorter m still ∙ sym was)))
      (cases_eq m k)

  short_within : (j c : ℕ) → c < length ps → c ≤ j → root_within j shorter c ≡ root_within j ps c
  short_within zero c below h = refl
  short_within (suc j) c below h = ⊎_elim
      (λ (e : c ≡ k). short_here j c e h)
      (λ (ne : c ≡ k → ⊥). let same = at_apart c ne in ⊎_elim
      (λ (own : slice_index ps c ≡ c). step_root (suc j) shorter c (same ∙ own) ∙ sym (step_root (suc j) ps c own))
      (λ (up : slice_index ps c ≡ c → ⊥).
      let f = fall c below in
      step_on j shorter c (λ s. up (sym same ∙ s))
      ∙ (ap (root_within j shorter) same
      ∙ (short_within j (slice_index ps c) (omega arith) (omega arith)
      ∙ sym (step_on j ps c up))))
      (cases_eq (slice_index ps c) c))
      (cases_eq c k)

  pub short_roots : (c : ℕ) → c < length ps → root_of shorter c ≡ root_of ps c
  short_roots c below = short_within c c below (omega arith)

  pub short_fall : (c : ℕ) → c < length ps → slice_index shorter c ≤ c
  short_fall c below = ⊎_elim
      (λ (e : c ≡ k). let up = ap (slice_index shorter) e ∙ at_k in omega arith)
      (λ (ne : c ≡ k → ⊥). let same = at_apart c ne in let f = fall c below in omega arith)
      (cases_eq c k)

  pub short_own : (c : ℕ) → slice_index ps c ≡ c → slice_index shorter c ≡ c
  short_own c own = ⊎_elim
      (λ (e : c ≡ k). let here : slice_index ps k ≡ k = ap (slice_index ps) (sym e) ∙ (own ∙ e) in
      ap (slice_index shorter) e ∙ (at_k ∙ (is ∙ (root_own ps k here ∙ sym e))))
      (λ (ne : c ≡ k → ⊥). at_apart c ne ∙ own)
      (cases_eq c k)

-- two roots made one
pub merged_roots : (ps : List ℕ) (a b : ℕ) → ParentsFall ps → (a ≡ b → ⊥) → a < length ps → b < length ps → slice_index ps a ≡ a → slice_index ps b ≡ b
    → (c : ℕ) → c < length ps → root_of (set ps (max a b) (min a b)) c ≡ merged a b (root_of ps c)
merged_roots ps a b fall ne ah bh a_own b_own c below = ⊎_elim
    (λ (l : a < b).
    let most : max a b ≡ b = omega arith in
    let least : min a b ≡ a = omega arith in
    rw (most, least) (under_roots ps a b fall l bh a_own b_own c below))
    (λ (l : b ≤ a).
    let most : max a b ≡ a = omega arith in
    let least : min a b ≡ b = omega arith in
    rw (most, least) (under_roots ps b a fall (omega arith) ah b_own a_own c below))
    (cases_lt a b)

-- the root of the next city, by the labels of those before it
pub label_more : (ps labels : List ℕ) (i label : ℕ) → ParentsFall ps → i < length ps → length labels ≡ i → ((c : ℕ) → c < i → slice_index labels c ≡ root_of ps c)
    → label ≡ slice_index_or labels (slice_index ps i) (slice_index ps i) → label ≡ root_of ps i
label_more ps labels i label fall below long each is = ⊎_elim
    (λ (own : slice_index ps i ≡ i).
    is ∙ (get_or_past labels (slice_index ps i) (slice_index ps i) (omega arith) ∙ (own ∙ sym (root_own ps i own))))
    (λ (up : slice_index ps i ≡ i → ⊥).
    let f = fall i below in
    let before : slice_index ps i < i = omega arith in
    is ∙ (get_or_default_zero labels (slice_index ps i) (slice_index ps i) (omega arith) ∙ (each (slice_index ps i) before ∙ sym (root_above ps i fall below up))))
    (cases_eq (slice_index ps i) i)

-- one label more
pub pushed_each : (ps labels : List ℕ) (i label : ℕ) → length labels ≡ i → ((c : ℕ) → c < i → slice_index labels c ≡ root_of ps c) → label ≡ root_of ps i
    → (c : ℕ) → c < i + 1 → slice_index (labels ++ label ∷ []) c ≡ root_of ps c
pushed_each ps labels i label long each is c h = ⊎_elim
    (λ (l : c < i). get_or_append_left labels (label ∷ []) 0 c (omega arith) ∙ each c l)
    (λ (l : i ≤ c).
    let here : c ≡ length labels = omega arith in
    ap (slice_index (labels ++ label ∷ [])) here ∙ (get_or-append_seam labels label [] 0 ∙ (is ∙ ap (root_of ps) (sym (here ∙ long)))))
    (cases_lt c i)
