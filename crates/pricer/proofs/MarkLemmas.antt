-- A city that no set with a dual holds shares no dual.
use Rattle.std.proofs.Common.{◌≡◌, ℕ, ◌+◌, ◌*◌, Bool, false, cond, ◌||◌, List, [], ◌∷◌, ◌++◌, map, sym, ap, ◌∙◌, arith}
use Rattle.std.specs.Prelude.{pos, ◌+ℤ◌, Some, Option}
use Rattle.std.proofs.lemmas.Int.{ints}
use Rattle.std.proofs.lemmas.Bool.{cond-false, or_parts}
use Rattle.cyc.specs.CitySet.{Members}
use Rattle.tspdef.specs.Sets.{has}
use Rattle.tspdef.specs.Cuts.{Cut, sets_of, pair_set}
use Rattle.tspdef.specs.Paths.{Condition, condition_at, two, four}
use Rattle.tspdef.specs.Bounds.{cut_rows, condition_row, condition_rows}
use Rattle.cutform.specs.Cut.{cities_of_each, wide_sets, pairs_of}
use Rattle.cutform.proofs.PartLemmas.{parts_of_sets}
use Rattle.pricer.specs.Marks.{is_marked, AreMarkedUnless}
use Rattle.pricer.specs.Prices.{holders, held}
use Rattle.pricer.proofs.SpreadLemmas.{held_last, held_two, held_four}

-- nothing is marked, and what is said of a city is true
pub marks_same : (marks : List Bool) (P : ℕ → Type 0) → ((v : ℕ) → P v) → AreMarkedUnless marks marks P
marks_same marks P p = λ v e. (e, p v)

-- marks that have the cities of a set too
pub marks_set : (new old : List Bool) (s : List ℕ) → ((c : ℕ) → is_marked new c ≡ (is_marked old c || has s c)) → AreMarkedUnless new old (λ v. has s v ≡ false)
marks_set new old s m = λ v e. or_parts (is_marked old v) (has s v) (sym (m v) ∙ e)

-- one step after others
pub marks_then : (new mid old : List Bool) (P Q R : ℕ → Type 0) → AreMarkedUnless mid old P → AreMarkedUnless new mid Q → ((v : ℕ) → P v → Q v → R v) → AreMarkedUnless new old R
marks_then new mid old P Q R a b f = λ v e. let q = b v e in let p = a v q.0 in (p.0, f v p.1 q.1)

-- a set that does not have the city
pub holders-skip : (v c : ℕ) (s : List ℕ) (ss : List (List ℕ)) → has s v ≡ false → holders (Some v) (s ∷ ss) c ≡ holders (Some v) ss c
holders-skip v c s ss h = let z : ◌≡◌ {A = ℕ} (cond (has s v) (cond (has s c) 1 0) 0) 0 = cond-false _ _ _ h in omega arith

holders-append : (h : Option ℕ) (a b : List (List ℕ)) (c : ℕ) → holders h (a ++ b) c ≡ holders h a c + holders h b c
holders-append h [] b c = omega arith
holders-append h (s ∷ ss) b c = let ih = holders-append h ss b c in omega arith

pub sets_next : (v c : ℕ) (set : Members) (rest more : List Members) → rest ≡ set ∷ more → has set.cities v ≡ false → holders (Some v) (cities_of_each rest) c ≡ holders (Some v) (cities_of_each more) c
sets_next v c set rest more e h = ap (λ (ss : List Members). holders (Some v) (cities_of_each ss) c) e ∙ holders-skip v c set.cities (cities_of_each more) h

pub pairs_next : (v c : ℕ) (pair : ℕ × ℕ) (rest more : List (ℕ × ℕ)) → rest ≡ pair ∷ more → has (pair_set pair) v ≡ false → holders (Some v) (map pair_set rest) c ≡ holders (Some v) (map pair_set more) c
pairs_next v c pair rest more e h = ap (λ (ps : List (ℕ × ℕ)). holders (Some v) (map pair_set ps) c) e ∙ holders-skip v c (pair_set pair) (map pair_set more) h

-- a cut with no set that has the city
pub cut_unheld : (cut : Cut) (v c y : ℕ) → holders (Some v) (wide_sets cut) c ≡ 0 → holders (Some v) (map pair_set (pairs_of cut)) c ≡ 0 → held (Some v) (cut_rows ((cut, y) ∷ [])) c ≡ pos 0
cut_unheld cut v c y a b =
    let all = ap (λ ss. holders (Some v) ss c) (parts_of_sets cut) ∙ holders-append (Some v) (wide_sets cut) (map pair_set (pairs_of cut)) c in
    let none : holders (Some v) (sets_of cut) c ≡ 0 = omega arith in
    ap (λ k. pos 0 +ℤ pos (y * k)) none ∙ omega (arith, ints)

pub cuts_next : (v c : ℕ) (q : Cut × ℕ) (rest more : List (Cut × ℕ)) → rest ≡ q ∷ more → held (Some v) (cut_rows (q ∷ [])) c ≡ pos 0 → held (Some v) (cut_rows rest) c ≡ held (Some v) (cut_rows more) c
cuts_next v c q rest more e none =
    let same = ap (λ (qs : List (Cut × ℕ)). held (Some v) (cut_rows qs) c) e in
    omega (arith, ints)

pub two_unheld : (s : List ℕ) (v c y : ℕ) → has s v ≡ false → held (Some v) (condition_row (Some (two s)) y ∷ []) c ≡ pos 0
two_unheld s v c y h = held_two s y (Some v) c ∙ cond-false (has s v) _ (pos 0) h

pub four_unheld : (s : List ℕ) (v c y : ℕ) → has s v ≡ false → held (Some v) (condition_row (Some (four s)) y ∷ []) c ≡ pos 0
four_unheld s v c y h = held_four s y (Some v) c ∙ cond-false (has s v) _ (pos 0) h

pub cliques_next : (path : List Condition) (o : Option Condition) (rest more : List (ℕ × ℕ)) (q : ℕ × ℕ) (v c : ℕ) → rest ≡ more ++ q ∷ [] → o ≡ condition_at path q.0
    → held (Some v) (condition_row o q.1 ∷ []) c ≡ pos 0 → held (Some v) (condition_rows path rest) c ≡ held (Some v) (condition_rows path more) c
cliques_next path o rest more q v c e is none =
    let same = ap (λ (qs : List (ℕ × ℕ)). held (Some v) (condition_rows path qs) c) e in
    let last = held_last (Some v) path more q c in
    let one = rw is at none in
    omega (arith, ints)
