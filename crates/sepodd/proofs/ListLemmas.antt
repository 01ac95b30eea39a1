-- Groups that are kept, and two of them, one after the other.
use Rattle.std.proofs.Common.{◌≡◌, ℕ, ◌+◌, ◌<◌, ◌≤◌, Bool, true, false, eqb, ◌||◌, List, [], ◌∷◌, ◌++◌, length, refl, sym, ap, ◌∙◌, arith, ⊎_elim, ◌⊎◌, inl, inr}
use Rattle.std.proofs.lemmas.Bool.{eqb-true, eq-eqb, or_left, or_right, false≢true}
use Rattle.std.proofs.lemmas.List.{length-append}
use Rattle.tspdef.specs.Sets.{has}
use Rattle.cyc.proofs.ListLemmas.{has-push}
use Rattle.sepodd.specs.Folding.{differ}
use Rattle.sepodd.specs.Sides.{is_marked}

either : (a b : Bool) → (a || b) ≡ true → (a ≡ true) ⊎ (b ≡ true)
either true b h = inl refl
either false b h = inr h

-- of the groups some are kept, and the rest is to come
pub record AreKeptSoFar (groups those rest : List ℕ) (marks : List Bool) (marked : Bool) : Type 0 where
  pub kept : (g : ℕ) → has groups g ≡ true → differ (is_marked marks g) marked ≡ false → (has those g ≡ true) ⊎ (has rest g ≡ true)
  pub known : (g : ℕ) → has those g ≡ true → has groups g ≡ true
  pub within : (g : ℕ) → has rest g ≡ true → has groups g ≡ true
  pub count : length those + length rest ≤ length groups
  pub fewer : (g : ℕ) → has groups g ≡ true → differ (is_marked marks g) marked ≡ true → (has rest g ≡ true) ⊎ (length those + length rest < length groups)

pub kept_none : (groups : List ℕ) (marks : List Bool) (marked : Bool) → AreKeptSoFar groups [] groups marks marked
kept_none groups marks marked = record {
  kept = λ g h d. inr h;
  known = λ g h. absurd (false≢true h);
  within = λ g h. h;
  count = omega arith;
  fewer = λ g h d. inl h;
}

pub kept_push : (groups those more : List ℕ) (marks : List Bool) (marked : Bool) (g : ℕ) → AreKeptSoFar groups those (g ∷ more) marks marked → differ (is_marked marks g) marked ≡ false
    → AreKeptSoFar groups (those ++ g ∷ []) more marks marked
kept_push groups those more marks marked g old same =
    let len : length (those ++ g ∷ []) ≡ length those + 1 = length-append those (g ∷ []) in
    let n = old.count in
    record {
      kept = λ h a d. ⊎_elim
          (λ (t : has those h ≡ true). inl (has-push those g h ∙ or_right (eqb g h) (has those h) t))
          (λ (t : (eqb g h || has more h) ≡ true). ⊎_elim
          (λ (e : eqb g h ≡ true). inl (has-push those g h ∙ or_left (eqb g h) (has those h) e))
          (λ (m : has more h ≡ true). inr m)
          (either (eqb g h) (has more h) t))
          (old.kept h a d);
      known = λ h t. ⊎_elim
          (λ (e : eqb g h ≡ true). old.within h (or_left (eqb g h) (has more h) e))
          (λ (m : has those h ≡ true). old.known h m)
          (either (eqb g h) (has those h) (sym (has-push those g h) ∙ t));
      within = λ h t. old.within h (or_right (eqb g h) (has more h) t);
      count = omega (arith, len, n);
      fewer = λ h a d. ⊎_elim
          (λ (t : (eqb g h || has more h) ≡ true). ⊎_elim
          (λ (e : eqb g h ≡ true). absurd (false≢true (sym same ∙ ap (λ i. differ (is_marked marks i) marked) (eqb-true g h e) ∙ d)))
          (λ (m : has more h ≡ true). inl m)
          (either (eqb g h) (has more h) t))
          (λ (l : length those + length (g ∷ more) < length groups). inr (omega (arith, len, l)))
          (old.fewer h a d);
    }

pub kept_skip : (groups those more : List ℕ) (marks : List Bool) (marked : Bool) (g : ℕ) → AreKeptSoFar groups those (g ∷ more) marks marked → differ (is_marked marks g) marked ≡ true
    → AreKeptSoFar groups those more marks marked
kept_skip groups those more marks marked g old other =
    let n = old.count in
    record {
      kept = λ h a d. ⊎_elim
          (λ (t : has those h ≡ true). inl t)
          (λ (t : (eqb g h || has more h) ≡ true). ⊎_elim
          (λ (e : eqb g h ≡ true). absurd (false≢true (sym d ∙ ap (λ i. differ (is_marked marks i) marked) (sym (eqb-true g h e)) ∙ other)))
          (λ (m : has more h ≡ true). inr m)
          (either (eqb g h) (has more h) t))
          (old.kept h a d);
      known = old.known;
      within = λ h t. old.within h (or_right (eqb g h) (has more h) t);
      count = omega (arith, n);
      fewer = λ h a d. inr (omega (arith, n));
    }

-- all groups that were seen are the first, and the rest is to come
pub record AreOneSoFar (groups rest : List ℕ) (first : ℕ) : Type 0 where
  pub first_in : has groups first ≡ true
  pub within : (g : ℕ) → has rest g ≡ true → has groups g ≡ true
  pub others : (g : ℕ) → has groups g ≡ true → (g ≡ first) ⊎ (has rest g ≡ true)

pub one_first : (first : ℕ) (rest : List ℕ) → AreOneSoFar (first ∷ rest) rest first
one_first first rest = record {
  first_in = or_left (eqb first first) (has rest first) (eq-eqb first first refl);
  within = λ g h. or_right (eqb first g) (has rest g) h;
  others = λ g h. ⊎_elim (λ (e : eqb first g ≡ true). inl (sym (eqb-true first g e))) (λ (m : has rest g ≡ true). inr m) (either (eqb first g) (has rest g) h);
}

pub one_more : (groups more : List ℕ) (first g : ℕ) → AreOneSoFar groups (g ∷ more) first → g ≡ first → AreOneSoFar groups more first
one_more groups more first g old e = record {
  first_in = old.first_in;
  within = λ h t. old.within h (or_right (eqb g h) (has more h) t);
  others = λ h t. ⊎_elim
      (λ (z : h ≡ first). inl z)
      (λ (z : (eqb g h || has more h) ≡ true). ⊎_elim (λ (y : eqb g h ≡ true). inl (sym (eqb-true g h y) ∙ e)) (λ (m : has more h ≡ true). inr m) (either (eqb g h) (has more h) z))
      (old.others h t);
}

pub head_in : (groups more : List ℕ) (first g : ℕ) → AreOneSoFar groups (g ∷ more) first → has groups g ≡ true
head_in groups more first g old = old.within g (or_left (eqb g g) (has more g) (eq-eqb g g refl))

pub all_one : (groups : List ℕ) (first g h : ℕ) → AreOneSoFar groups [] first → has groups g ≡ true → has groups h ≡ true → g ≡ h
all_one groups first g h old a b = ⊎_elim
    (λ (x : g ≡ first). ⊎_elim (λ (y : h ≡ first). x ∙ sym y) (λ y. absurd (false≢true y)) (old.others h b))
    (λ x. absurd (false≢true x))
    (old.others g a)
