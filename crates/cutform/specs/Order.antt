-- The order of cuts is total, its ties are equal cuts, and equal cuts are hashed alike.
use Rattle.std.specs.Prelude.{◌≡◌, ℕ, List, [], ◌∷◌, ◌++◌, map, true, refl, IsTrue}
use Rattle.std.proofs.Common.{sym, ◌∙◌, ap, subst, arith}
use Rattle.std.proofs.lemmas.Bool.{false≢true}
use Rattle.std.proofs.lemmas.Bool.Decides.{nat_tests}
use Rattle.std.specs.declared.cmp.Ordering.{Ordering}
use Rattle.std.specs.declared.cmp.Ordering.TheVariants.{Less, Equal, Greater}
use Rattle.std.specs.Ordering.{nat_cmp, ordering_then, ordering_reverse, on, then_cmp, eq_by_cmp, as_partial_cmp, is_eq}
use Rattle.std.specs.Cmp.{IsTotalOrder, IsEquivalence, IsPartialOrder, partial_order_from_total}
use Rattle.std.specs.Cmp.Lexicographic.{slice_cmp}
use Rattle.std.proofs.lemmas.Cmp.{nat_cmp_total, on_total, then_total, lists_total, eq_by_cmp_equiv}
use Rattle.std.specs.Hash as fed
use Rattle.tspdef.specs.Cuts.{Cut, subtour, comb, odd, cities_of, sets_of, pair_set, cut_cmp}
use Rattle.cutform.specs.declared.cut.Kind.{Kind}
use Rattle.cutform.specs.declared.cut.Kind.TheVariants.{Subtour, Comb, Odd}
use Rattle.cutform.specs.Cut.{kind_of, wide_sets, pairs_of}

-- the kinds in their order
abbrev pub rank : Kind → ℕ
rank Subtour = 0
rank Comb = 1
rank Odd = 2

abbrev pub rank_of : Cut → ℕ
rank_of c = rank (kind_of c)

-- the order of pairs: by their first cities, then by the others
abbrev pub pair_cmp : ℕ × ℕ → ℕ × ℕ → Ordering
pair_cmp p q = ordering_then (nat_cmp p.0 q.0) (nat_cmp p.1 q.1)

-- what hashing a pair writes: its two cities
abbrev pub pair_input : ℕ × ℕ → List (List ℕ)
pair_input p = fed.u32 p.0 ++ fed.u32 p.1

-- what hashing a cut writes: its kind, its sets, its pairs, its number of cities
abbrev pub hash_input_of : Cut → List (List ℕ)
hash_input_of c = fed.u8 (rank_of c) ++ fed.slice (fed.slice fed.u32) (wide_sets c) ++ fed.slice pair_input (pairs_of c) ++ fed.u32 (cities_of c)

-- by kind, then by the lists of sets, then by the number of cities
abbrev by_parts : Cut → Cut → Ordering
by_parts = then_cmp (on rank_of nat_cmp) (then_cmp (on sets_of (slice_cmp (slice_cmp nat_cmp))) (on cities_of nat_cmp))

then-Equal : (o : Ordering) → ordering_then o Equal ≡ o
then-Equal Less = refl
then-Equal Equal = refl
then-Equal Greater = refl

cut_cmp-parts : (a b : Cut) → cut_cmp a b ≡ by_parts a b
cut_cmp-parts (subtour n s) (subtour m t) = rw then-Equal refl
cut_cmp-parts (subtour n s) (comb m h ts) = refl
cut_cmp-parts (comb n h ts) (subtour m s) = refl
cut_cmp-parts (comb n h ts) (comb m h' ts') = refl
cut_cmp-parts (subtour n s) (odd m h ps) = refl
cut_cmp-parts (odd n h ps) (subtour m s) = refl
cut_cmp-parts (comb n h ts) (odd m h' ps) = refl
cut_cmp-parts (odd n h ps) (comb m h' ts) = refl
cut_cmp-parts (odd n h ps) (odd m h' ps') = refl

same_total : {K : Type 0} {R S : K → K → Ordering} → ((x y : K) → R x y ≡ S x y) → IsTotalOrder S → IsTotalOrder R
same_total e o = record {
  antisymm = λ x y. e x y ∙ (o.antisymm x y ∙ sym (ap ordering_reverse (e y x)));
  trans = λ x y z p q. e x z ∙ o.trans x y z (sym (e x y) ∙ p) (sym (e y z) ∙ q);
  congr = λ x y z p. e x z ∙ (o.congr x y z (sym (e x y) ∙ p) ∙ sym (e y z));
}

pub ordered_cuts : IsTotalOrder cut_cmp
ordered_cuts = same_total cut_cmp-parts (then_total (on_total rank_of nat_cmp_total) (then_total (on_total sets_of (lists_total (lists_total nat_cmp_total))) (on_total cities_of nat_cmp_total)))

pub equal_cuts : IsEquivalence (eq_by_cmp cut_cmp)
equal_cuts = eq_by_cmp_equiv ordered_cuts

pub partly_ordered_cuts : IsPartialOrder (eq_by_cmp cut_cmp) (as_partial_cmp cut_cmp)
partly_ordered_cuts = partial_order_from_total ordered_cuts

-- lists of numbers, and lists of those, that compare as equal are equal
numbers-Equal : (x y : ℕ) → nat_cmp x y ≡ Equal → x ≡ y
numbers-Equal x y e = grind (arith, nat_tests)

then_parts : (a b : Ordering) → ordering_then a b ≡ Equal → (a ≡ Equal) × (b ≡ Equal)
then_parts Less b e = cc
then_parts Equal b e = (refl, e)
then_parts Greater b e = cc

lists-Equal : {X : Type 0} (R : X → X → Ordering) → ((x y : X) → R x y ≡ Equal → x ≡ y) → (xs ys : List X) → slice_cmp R xs ys ≡ Equal → xs ≡ ys
lists-Equal R d [] [] e = refl
lists-Equal R d [] (y ∷ ys) e = cc
lists-Equal R d (x ∷ xs) [] e = cc
lists-Equal R d (x ∷ xs) (y ∷ ys) e =
    let p = then_parts (R x y) (slice_cmp R xs ys) e in
    let head = d x y p.0 in
    let tail = lists-Equal R d xs ys p.1 in
    cc

-- pairs are told by their sets
same_pairs : (ps qs : List (ℕ × ℕ)) → map pair_set ps ≡ map pair_set qs → ps ≡ qs
same_pairs [] [] e = refl
same_pairs [] (q ∷ qs) e = cc
same_pairs (p ∷ ps) [] e = cc
same_pairs ((a, b) ∷ ps) ((c, d) ∷ qs) e =
    let tail : map pair_set ps ≡ map pair_set qs = cc in
    let ih = same_pairs ps qs tail in
    let first : a ≡ c = cc in
    let second : b ≡ d = cc in
    cc

pub cuts-Equal : (a b : Cut) → cut_cmp a b ≡ Equal → a ≡ b
cuts-Equal (subtour n s) (subtour m t) e =
    let p = then_parts (slice_cmp nat_cmp s t) (nat_cmp n m) e in
    let sets = lists-Equal nat_cmp numbers-Equal s t p.0 in
    let size = numbers-Equal n m p.1 in
    cc
cuts-Equal (subtour n s) (comb m h ts) e = cc
cuts-Equal (comb n h ts) (subtour m s) e = cc
cuts-Equal (comb n h ts) (comb m h' ts') e =
    let p = then_parts (slice_cmp (slice_cmp nat_cmp) (h ∷ ts) (h' ∷ ts')) (nat_cmp n m) e in
    let sets : h ∷ ts ≡ h' ∷ ts' = lists-Equal (slice_cmp nat_cmp) (lists-Equal nat_cmp numbers-Equal) (h ∷ ts) (h' ∷ ts') p.0 in
    let size = numbers-Equal n m p.1 in
    cc
cuts-Equal (subtour n s) (odd m h ps) e = cc
cuts-Equal (odd n h ps) (subtour m s) e = cc
cuts-Equal (comb n h ts) (odd m h' ps) e = cc
cuts-Equal (odd n h ps) (comb m h' ts) e = cc
cuts-Equal (odd n h ps) (odd m h' ps') e =
    let p = then_parts (slice_cmp (slice_cmp nat_cmp) (h ∷ map pair_set ps) (h' ∷ map pair_set ps')) (nat_cmp n m) e in
    let sets : h ∷ map pair_set ps ≡ h' ∷ map pair_set ps' = lists-Equal (slice_cmp nat_cmp) (lists-Equal nat_cmp numbers-Equal) (h ∷ map pair_set ps) (h' ∷ map pair_set ps') p.0 in
    let tail : map pair_set ps ≡ map pair_set ps' = cc in
    let pairs = same_pairs ps ps' tail in
    let size = numbers-Equal n m p.1 in
    cc

is_eq-true : (o : Ordering) → is_eq o ≡ true → o ≡ Equal
is_eq-true Less e = absurd (false≢true e)
is_eq-true Equal e = refl
is_eq-true Greater e = absurd (false≢true e)

pub same_cuts : (a b : Cut) → eq_by_cmp cut_cmp a b ≡ true → a ≡ b
same_cuts a b e = cuts-Equal a b (is_eq-true (cut_cmp a b) e)

pub same_cuts_tie : (a b : Cut) → a ≡ b → eq_by_cmp cut_cmp a b ≡ true
same_cuts_tie a b e = subst (λ x. eq_by_cmp cut_cmp a x ≡ true) e (equal_cuts.refl a)

pub equal_cuts_alike : (a b : Cut) → IsTrue (eq_by_cmp cut_cmp a b) → hash_input_of a ≡ hash_input_of b
equal_cuts_alike a b e = ap hash_input_of (same_cuts a b e)
