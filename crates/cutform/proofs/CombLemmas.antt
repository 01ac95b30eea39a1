-- Combs by the tests that they pass, and what follows for the fields of a cut.
use Rattle.std.proofs.Common.{◌≡◌, ℕ, ◌≤◌, List, [], ◌∷◌, refl, sym, subst, arith}
use Rattle.std.specs.List.{AllByRecursion}
use Rattle.tspdef.specs.Sets.{IsSet, IsProper, AreDisjoint}
use Rattle.tspdef.specs.Cuts.{Cut, subtour, comb, odd, cities_of, IsTooth, IsComb, IsOdd, IsCut, HoldsOf}
use Rattle.tspdef.specs.Instances.{Instance, IsTourOf}
use Rattle.tspdef.proofs.Duality.{tours_meet_cuts}
use Rattle.cutform.specs.declared.cut.Kind.{Kind}
use Rattle.cutform.specs.Cut.{cut_of, MakeCut}
use Rattle.cutform.proofs.PartLemmas.{fields}
use Rattle.cutform.specs.Combs.{AreProper, AreOddMany, EachLeaves, EachEnters}

-- the tests together make a comb
each_tooth : (n : ℕ) (h : List ℕ) (ts : List (List ℕ)) → AllByRecursion (IsSet n) ts → EachLeaves h ts → EachEnters h ts → AllByRecursion (IsTooth n h) ts
each_tooth n h [] a b c = tt
each_tooth n h (t ∷ ts) a b c = (record { set = a.0; inside = c.0; outside = b.0 }, each_tooth n h ts a.1 b.1 c.1)

pub comb_from_parts : (n : ℕ) (h : List ℕ) (ts : List (List ℕ)) → AreProper n h ts → AreOddMany ts → AreDisjoint ts → EachLeaves h ts → EachEnters h ts → IsComb n h ts
comb_from_parts n h ts p o d l e = record {
  proper = p.proper;
  odd = o.odd;
  many = o.many;
  each_tooth = each_tooth n h ts p.sets l e;
  disjoint = d;
}

own_cut : (n : ℕ) (c : Cut) → IsCut n c → IsCut (cities_of c) c
own_cut n (subtour m s) is = (refl, subst (λ k. IsProper k s) (sym is.0) is.1)
own_cut n (comb m h ts) is = (refl, subst (λ k. IsComb k h ts) (sym is.0) is.1)
own_cut n (odd m h ps) is = (refl, subst (λ k. IsOdd k h ps) (sym is.0) is.1)

-- every tour meets what the fields make
pub made-met : (kind : Kind) (n : ℕ) (sets : List (List ℕ)) (pairs : List (ℕ × ℕ)) (c : Cut) → MakeCut kind n sets pairs → cut_of kind n sets pairs ≡ c
    → (i : Instance) (tour : List ℕ) → i.n ≡ cities_of c → IsTourOf i tour → HoldsOf c tour
made-met kind n sets pairs c made e i tour same is =
    let f = fields kind n sets pairs c made e in
    let many : 3 ≤ i.n = let a = f.size in let b = f.many in omega arith in
    tours_meet_cuts i tour c many is (subst (λ k. IsCut k c) (sym same) (own_cut n c f.is_cut))
