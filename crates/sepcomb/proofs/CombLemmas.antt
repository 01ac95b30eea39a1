-- The comb of a handle, or none, and lists of combs that grow.
use Rattle.std.proofs.Common.{◌≡◌, ℕ, ◌<◌, ◌≤◌, List, [], ◌∷◌, ◌++◌, length, Option, Some, None, refl, sym, ap, subst, ◌∙◌, arith}
use Rattle.std.specs.Prelude.{MatchOption}
use Rattle.tspdef.specs.Cuts.{Cut}
use Rattle.cyc.specs.CitySet.{Members}
use Rattle.cyc.specs.declared.frac.Entry.{Entry}
use Rattle.cyc.specs.Frac.{Values}
use Rattle.sepblos.specs.Violated.{IsViolatedComb}
use Rattle.sepcomb.specs.Pairs.{pairs_of}
use Rattle.sepcomb.specs.Growth.{ends_of, grown}
use Rattle.sepcomb.specs.Combs.{IsCombOf}
use Rattle.sepcomb.proofs.PathLemmas.{teeth_many}

teeth_same : (x : Values) (h : List ℕ) (ps qs : List Entry) (ts : List (List ℕ)) → qs ≡ pairs_of x.entries h → ps ≡ qs → ts ≡ grown x h (ends_of ps) ps
    → ts ≡ grown x h (ends_of (pairs_of x.entries h)) (pairs_of x.entries h)
teeth_same x h ps qs ts are same is = is ∙ ap (λ es. grown x h (ends_of es) es) (same ∙ are)

pub comb_or_none : (x : Values) (h : Members) (ps qs : List Entry) (ts : List (List ℕ)) (o : Option Cut) → qs ≡ pairs_of x.entries h.cities → ps ≡ qs → ts ≡ grown x h.cities (ends_of ps) ps → 3 ≤ length h.cities
    → MatchOption o ((c : Cut) → IsViolatedComb x h.cities ts c → ⊥) (IsViolatedComb x h.cities ts) → MatchOption o ((c : Cut) → IsCombOf x h c → ⊥) (IsCombOf x h)
comb_or_none x h ps qs ts None are same is large none = λ c b.
    none c (subst (λ ss. IsViolatedComb x h.cities ss c) (sym (teeth_same x h.cities ps qs ts are same is)) b.comb)
comb_or_none x h ps qs ts (Some c) are same is large v = record {
  size = large;
  comb = subst (λ ss. IsViolatedComb x h.cities ss c) (teeth_same x h.cities ps qs ts are same is) v;
}

-- fewer than three pairs make none
pub few_make_none : (x : Values) (h : Members) (ps : List Entry) (c : Cut) → ps ≡ pairs_of x.entries h.cities → length ps < 3 → IsCombOf x h c → ⊥
few_make_none x h ps c are few is =
    let many = is.comb.whole.many in
    let same = teeth_many x h.cities (ends_of (pairs_of x.entries h.cities)) (pairs_of x.entries h.cities) in
    let size = ap (λ (es : List Entry). length es) are in
    omega arith

pub append_more : (cuts others more : List Cut) (c : Cut) → cuts ≡ others ++ more → cuts ++ c ∷ [] ≡ others ++ (more ++ c ∷ [])
append_more cuts others more c e = ap (λ ds. ds ++ c ∷ []) e ∙ assoc others more (c ∷ [])
  where
    assoc : (xs ys zs : List Cut) → (xs ++ ys) ++ zs ≡ xs ++ (ys ++ zs)
    assoc [] ys zs = refl
    assoc (x ∷ xs) ys zs = ap (λ es. x ∷ es) (assoc xs ys zs)
