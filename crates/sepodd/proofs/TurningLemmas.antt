-- The least side that a pair crosses, found from one of its ends.
use Rattle.std.proofs.Common.{◌≡◌, ℕ, ◌+◌, ◌≤◌, Bool, true, false, not, List, [], ◌∷◌, pos, refl, sym, ap, ◌∙◌, subst, arith, ⊎_elim}
use Rattle.std.specs.List.{AllByRecursion}
use Rattle.std.proofs.lemmas.Bool.{cases_Bool, cases_eq, false≢true}
use Rattle.cyc.specs.declared.frac.Entry.{Entry}
use Rattle.cyc.specs.Frac.{Values, AreEntries}
use Rattle.std.proofs.lemmas.Int.{ints}
use Rattle.maxflow.proofs.CrossingLemmas.{weight_by_entries}
use Rattle.maxflow.specs.Crossings.{crossing_weight, crossing}
use Rattle.maxflow.specs.Flows.{is_stop, LacksStops, IsBelowAll}
use Rattle.sepodd.specs.Folding.{differ, folded_entries, folded_crossing, turning}
use Rattle.sepodd.specs.Sides.{IsBest, IsBelowTurned, IsKnown}
use Rattle.sepodd.specs.declared.sides.Best.{Best}
use Rattle.sepodd.proofs.SubmodularLemmas.{crossing_not, folded_are_entries}

not_true : (a : Bool) → a ≡ true → not a ≡ false
not_true true h = refl
not_true false h = absurd (false≢true h)

not_false : (a : Bool) → a ≡ false → not a ≡ true
not_false true h = absurd (false≢true (sym h))
not_false false h = refl

differ_left : (a b : Bool) → differ a b ≡ true → a ≡ true → b ≡ false
differ_left true true h e = absurd (false≢true h)
differ_left true false h e = refl
differ_left false b h e = absurd (false≢true e)

differ_right : (a b : Bool) → differ a b ≡ true → a ≡ false → b ≡ true
differ_right true b h e = absurd (false≢true (sym e))
differ_right false b h e = h

module _ (x w : Values) (weights : (p : ℕ → Bool) → crossing w.entries p ≡ folded_crossing x.entries p) (e : Entry) (stops : List Bool) (others : (k : ℕ) → (k ≡ e.v → ⊥) → is_stop stops k ≡ false) where
  lacks : (p : ℕ → Bool) → p e.v ≡ false → LacksStops w.n stops p
  lacks p l k h stop = ⊎_elim
      (λ (q : k ≡ e.v). ap p q ∙ l)
      (λ (ne : k ≡ e.v → ⊥). absurd (false≢true (sym (others k ne) ∙ stop)))
      (cases_eq k e.v)

  -- of all sets that the pair crosses, from what holds of those with its first end
  pub turned_below : (value weight : ℕ) → IsBelowAll w e.u stops value → weight ≤ value + turning e.x → IsBelowTurned x e weight
  turned_below value weight below l p c = ⊎_elim
      (λ (t : p e.u ≡ true).
      let z = below p t (lacks p (differ_left (p e.u) (p e.v) c t)) in
      let y = weights p in
      omega (arith, z, y, l))
      (λ (f : p e.u ≡ false).
      let z = below (λ k. not (p k)) (not_false (p e.u) f) (lacks (λ k. not (p k)) (not_true (p e.v) (differ_right (p e.u) (p e.v) c f))) in
      let y = weights (λ k. not (p k)) in
      let n : folded_crossing x.entries (λ k. not (p k)) ≡ folded_crossing x.entries p = crossing_not (folded_entries x.entries) p in
      omega (arith, z, y, n, l))
      (cases_Bool (p e.u))

-- what costs as much to turn over as the best does is of no use
pub turned_dear : (x : Values) (e : Entry) (weight : ℕ) → weight ≤ turning e.x → IsBelowTurned x e weight
turned_dear x e weight l p c = omega (arith, l)

-- a lesser weight is below too
pub turned_less : (x : Values) (es : List Entry) (old new : ℕ) → new ≤ old → AllByRecursion (λ e. IsBelowTurned x e old) es → AllByRecursion (λ e. IsBelowTurned x e new) es
turned_less x [] old new l a = tt
turned_less x (e ∷ es) old new l a = (λ p c. let z = a.0 p c in omega (arith, z, l), turned_less x es old new l a.1)

-- the network's crossing weights are those of the folded entries
pub network_weight : (x folded w : Values) → folded.n ≡ x.n → folded.entries ≡ folded_entries x.entries → AreEntries x.n x.entries
    → ((p : ℕ → Bool) → crossing_weight folded p ≡ pos (crossing w.entries p)) → (p : ℕ → Bool) → crossing w.entries p ≡ folded_crossing x.entries p
network_weight x folded w size entries all weights p =
    let a = weights p in
    let b = weight_by_entries folded p (subst (λ n. AreEntries n folded.entries) (sym size) (subst (λ es. AreEntries x.n es) (sym entries) (folded_are_entries x.n x.entries all))) in
    let c : crossing folded.entries p ≡ folded_crossing x.entries p = ap (λ es. crossing es p) entries in
    omega (arith, ints, a, b, c)

-- what was found of the entries so far, where the rest is to come
pub record AreTurnedSoFar (x : Values) (entries rest : List Entry) (start : ℕ) (b : Best) : Type 0 where
  pub best : IsBest x b
  pub no_more : b.weight ≤ start
  pub known : AllByRecursion (IsKnown x) rest
  pub least : (w : ℕ) → w ≤ b.weight → AllByRecursion (λ e. IsBelowTurned x e w) rest → AllByRecursion (λ e. IsBelowTurned x e w) entries

pub turned_next : (x : Values) (entries more : List Entry) (e : Entry) (start : ℕ) (old new : Best) → AreTurnedSoFar x entries (e ∷ more) start old → IsBest x new → new.weight ≤ old.weight
    → IsBelowTurned x e new.weight → AreTurnedSoFar x entries more start new
turned_next x entries more e start old new far best less below =
    let n = far.no_more in
    record {
      best = best;
      no_more = omega (arith, n, less);
      known = far.known.1;
      least = λ w l a. far.least w (omega (arith, l, less)) ((λ p c. let z = below p c in omega (arith, z, l)), a);
    }

pub turned_start : (x : Values) (entries : List Entry) (b : Best) → IsBest x b → AllByRecursion (IsKnown x) entries → AreTurnedSoFar x entries entries b.weight b
turned_start x entries b best known = record { best = best; no_more = omega arith; known = known; least = λ w l a. a }

pub turned_end : (x : Values) (entries : List Entry) (start : ℕ) (b : Best) → AreTurnedSoFar x entries [] start b → AllByRecursion (λ e. IsBelowTurned x e b.weight) entries
turned_end x entries start b far = far.least b.weight (omega arith) tt
