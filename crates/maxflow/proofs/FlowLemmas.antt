-- What a flow that can go no further has found.
use Rattle.std.proofs.Common.{◌≡◌, ℕ, ◌+◌, ◌<◌, ◌≤◌, Bool, true, false, List, pos, sym, ◌∙◌, ap, subst, arith, ⊎_elim}
use Rattle.std.proofs.lemmas.Bool.{cases_eq}
use Rattle.std.proofs.lemmas.Int.{ints}
use Rattle.tspdef.specs.Sets.{has, IsSet}
use Rattle.cyc.specs.Frac.{Values}
use Rattle.maxflow.specs.declared.residual.Edge.{Edge}
use Rattle.maxflow.specs.declared.LeastSide.{LeastSide}
use Rattle.maxflow.specs.Crossings.{crossing_weight, crossing}
use Rattle.maxflow.specs.Edges.{room}
use Rattle.maxflow.specs.Flows.{is_stop, LacksStops, IsLeastFlow, IsLeastSide}
use Rattle.maxflow.proofs.CrossingLemmas.{crossing_same}

pub no_more : (value whole left : ℕ) → value + left ≡ whole → value ≤ whole
no_more value whole left e = omega arith

none_left : (value whole left : ℕ) → value + left ≡ whole → left ≡ 0 → whole ≡ value
none_left value whole left e z = omega arith

-- The equation of all sets, and no room out of what was met: that set is crossed by what was sent, the least.
pub ends_least : (x : Values) (edges : List Edge) (s : ℕ) (stops : List Bool) (met : ℕ → Bool) (f : LeastSide)
    → ((p : ℕ → Bool) → p s ≡ true → LacksStops x.n stops p → f.value + room edges p ≡ crossing x.entries p)
    → met s ≡ true → LacksStops x.n stops met → room edges met ≡ 0 → f.side.n ≡ x.n → IsSet x.n f.side.cities → ((k : ℕ) → has f.side.cities k ≡ met k)
    → IsLeastFlow x s stops f
ends_least x edges s stops met f balance holds lacks none cities set same = record {
  cities = cities;
  set = set;
  holds = same s ∙ holds;
  lacks = λ k h t. same k ∙ lacks k h t;
  crossed = crossing_same x.entries (has f.side.cities) met same ∙ none_left f.value (crossing x.entries met) (room edges met) (balance met holds lacks) none;
  least = λ p h l. no_more f.value (crossing x.entries p) (room edges p) (balance p h l);
}

-- where one city alone is a stop the side parts it from the start
pub parts_from : (x w : Values) (s t : ℕ) (stops : List Bool) (f : LeastSide) → w.n ≡ x.n → ((p : ℕ → Bool) → crossing_weight x p ≡ pos (crossing w.entries p))
    → t < x.n → is_stop stops t ≡ true → ((k : ℕ) → (k ≡ t → ⊥) → is_stop stops k ≡ false) → IsLeastFlow w s stops f → IsLeastSide x s t f
parts_from x w s t stops f cities weights inside here others l = record {
  cities = l.cities ∙ cities;
  set = subst (λ n. IsSet n f.side.cities) cities l.set;
  holds = l.holds;
  lacks = l.lacks t (omega arith) here;
  crossed = weights (has f.side.cities) ∙ ap pos l.crossed;
  least = λ other o a b.
      let h = l.least (has other) a (λ k hk st. ⊎_elim
      (λ (e : k ≡ t). subst (λ v. has other v ≡ false) (sym e) b)
      (λ (ne : k ≡ t → ⊥). let z = others k ne in absurd cc)
      (cases_eq k t)) in
      let e = weights (has other) in
      omega (arith, ints, h, e);
}
