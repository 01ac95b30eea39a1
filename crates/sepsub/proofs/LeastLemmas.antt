-- The least set and the light ones, in the end.
use Rattle.std.proofs.Common.{◌≡◌, ℕ, ◌<◌, Bool, true, false, not, List, pos, refl, sym, ◌∙◌, ap, subst, arith, ⊎_elim}
use Rattle.std.specs.Prelude.{◌≤ℤ◌}
use Rattle.std.specs.List.{All}
use Rattle.std.proofs.lemmas.Int.{ints}
use Rattle.std.proofs.lemmas.Bool.{cases_Bool}
use Rattle.std.proofs.lemmas.List.Elements.{All-weaker}
use Rattle.tspdef.specs.Sets.{has, IsSet, IsProper}
use Rattle.tspdef.proofs.CrossingLemmas.{within_rising}
use Rattle.cyc.specs.CitySet.{Members}
use Rattle.cyc.specs.Frac.{Values}
use Rattle.maxflow.specs.Crossings.{crossing_weight, crossing}
use Rattle.sepsub.specs.declared.LeastSet.{LeastSet}
use Rattle.sepsub.specs.declared.growth.Found.{Found}
use Rattle.sepsub.specs.Growth.{IsLight, IsFoundOfAll}
use Rattle.sepsub.specs.LeastSets.{IsLeastSet, IsViolated}
use Rattle.sepsub.proofs.SetLemmas.{first_in, lacking, proper_from}
use Rattle.sepsub.proofs.WeightLemmas.{weight_turned}

module _ (x w : Values) (cities : w.n ≡ x.n) (weights : (p : ℕ → Bool) → crossing_weight x p ≡ pos (crossing w.entries p)) where
  at_least_none : (p : ℕ → Bool) → pos 0 ≤ℤ crossing_weight x p
  at_least_none p = let e = weights p in omega (arith, ints, e)

  -- a set that is crossed by nothing is a least one
  pub home_is_least : (l : LeastSet) → l.weight ≡ 0 → l.set.n ≡ w.n → IsProper w.n l.set.cities → has l.set.cities 0 ≡ true → crossing w.entries (has l.set.cities) ≡ 0 → IsLeastSet x l
  home_is_least l zero size proper holds none = record {
    cities = size ∙ cities;
    proper = subst (λ n. IsProper n l.set.cities) cities proper;
    home = holds;
    crossed = weights (has l.set.cities) ∙ ap pos (none ∙ sym zero);
    least = λ other p. subst (λ v. pos v ≤ℤ crossing_weight x (has other)) (sym zero) (at_least_none (has other));
  }

  pub turned_is_least : (f : Found) (l : LeastSet) → 0 < w.n → IsFoundOfAll w f → l.weight ≡ f.best.value → l.set.n ≡ f.best.side.n → IsSet f.best.side.n l.set.cities
      → ((k : ℕ) → k < f.best.side.n → has l.set.cities k ≡ not (has f.best.side.cities k)) → IsLeastSet x l
  turned_is_least f l some found value size set turned =
      let n = found.side.cities ∙ cities in
      let opposite : (k : ℕ) → k < x.n → has l.set.cities k ≡ not (has f.best.side.cities k) = λ k h. turned k (omega arith) in
      let home : has l.set.cities 0 ≡ true = opposite 0 (omega arith) ∙ ap not found.side.away in
      let i = found.side.member in
      let inside : i < x.n = within_rising 0 f.best.side.cities x.n i (subst (λ m. IsSet m f.best.side.cities) cities found.side.set) found.side.holds in
      record {
        cities = size ∙ n;
        proper = proper_from x.n 0 i l.set.cities (subst (λ m. IsSet m l.set.cities) n set) home inside (opposite i inside ∙ ap not found.side.holds);
        home = home;
        crossed = weight_turned x (has f.best.side.cities) (has l.set.cities) opposite ∙ weights (has f.best.side.cities) ∙ ap pos (found.crossed ∙ sym value);
        least = λ other p.
            let m = first_in other p.some in
            let y = lacking x.n 0 other p.set (let a = p.not_all in omega arith) in
            let m_in = within_rising 0 other x.n m.0 p.set m.1 in
            ⊎_elim
            (λ (t : has other 0 ≡ true).
            let away = found.least (λ k. not (has other k)) y.0 (let b = y.1.1.0 in omega arith) refl (ap not t) (ap not y.1.1.1) in
            let e = weights (λ k. not (has other k)) in
            let o = weight_turned x (has other) (λ k. not (has other k)) (λ k h. refl) in
            omega (arith, ints, away, e, o, value))
            (λ (t : has other 0 ≡ false).
            let away = found.least (has other) m.0 (omega arith) refl t m.1 in
            let e = weights (has other) in
            omega (arith, ints, away, e, value))
            (cases_Bool (has other 0));
      }

  light_is_violated : (s : Members) → IsLight w s → IsViolated x s
  light_is_violated s l = record {
    cities = l.cities ∙ cities;
    proper = subst (λ n. IsProper n s.cities) cities l.proper;
    light = let e = weights (has s.cities) in let h = l.light in omega (arith, ints, e, h);
  }

  pub all_violated : (sets : List Members) → All (IsLight w) sets → All (IsViolated x) sets
  all_violated sets a = All-weaker (IsLight w) (IsViolated x) light_is_violated sets a
