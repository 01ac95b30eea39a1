-- Lists of sets, compared set by set.
use Rattle.std.proofs.Common.{◌≡◌, ℕ, ◌-◌, ◌≤◌, true, false, List, [], ◌∷◌, length, map, min, drop, refl, sym, ap, ◌∙◌, arith, ◌⊎◌, inl, inr}
use Rattle.std.specs.declared.cmp.Ordering.{Ordering}
use Rattle.std.specs.declared.cmp.Ordering.TheVariants.{Less, Equal, Greater}
use Rattle.std.specs.Ordering.{nat_cmp, ordering_then, is_ne}
use Rattle.std.specs.Cmp.Lexicographic.{slice_cmp}
use Rattle.std.proofs.lemmas.Bool.Decides.{nat_tests}
use Rattle.std.proofs.lemmas.List.{length-drop}
use Rattle.cyc.specs.CitySet.{Members}
use Rattle.tspdef.specs.Cuts.{Cut, subtour, comb, odd, cities_of, pair_set, cut_cmp}
use Rattle.cutform.specs.declared.cut.Kind.{Kind}
use Rattle.cutform.specs.Cut.{cities_of_each, wide_sets, pairs_of, cut_of, MakeCut}
use Rattle.cutform.specs.Order.{rank, rank_of, pair_cmp}
use Rattle.cutform.proofs.PartLemmas.{AreFields, fields}

-- where one of the lists has ended, the longer one is greater
ends : (a b : List Members) → (length a ≡ 0) ⊎ (length b ≡ 0) → nat_cmp (length a) (length b) ≡ slice_cmp (slice_cmp nat_cmp) (cities_of_each a) (cities_of_each b)
ends [] [] h = grind (arith, nat_tests)
ends [] (y ∷ b) h = grind (arith, nat_tests)
ends (x ∷ a) [] h = grind (arith, nat_tests)
ends (x ∷ a) (y ∷ b) (inl h) = absurd (omega arith)
ends (x ∷ a) (y ∷ b) (inr h) = absurd (omega arith)

less : (m n i : ℕ) → i ≤ m → i ≤ n → nat_cmp m n ≡ nat_cmp (m - i) (n - i)
less m n i h k = grind (arith, nat_tests)

pub compared-ends : (a b : List Members) (i : ℕ) → i ≤ min (length a) (length b) → min (length a) (length b) ≤ i → nat_cmp (length a) (length b) ≡ slice_cmp (slice_cmp nat_cmp) (cities_of_each (drop i a)) (cities_of_each (drop i b))
compared-ends a b i h k =
    let p = length-drop i a in
    let q = length-drop i b in
    let one : (length (drop i a) ≡ 0) ⊎ (length (drop i b) ≡ 0) = grind arith in
    less (length a) (length b) i (omega arith) (omega arith)
    ∙ (ap (λ m. nat_cmp m (length b - i)) (sym p) ∙ (ap (λ n. nat_cmp (length (drop i a)) n) (sym q) ∙ ends (drop i a) (drop i b) one))

then_Equal : (o : Ordering) → ordering_then o Equal ≡ o
then_Equal Less = refl
then_Equal Equal = refl
then_Equal Greater = refl

-- the comparison of all that is told of two cuts: their kinds, their sets, their pairs, their numbers of cities
abbrev pub told_cmp : ℕ → ℕ → List (List ℕ) → List (List ℕ) → List (ℕ × ℕ) → List (ℕ × ℕ) → ℕ → ℕ → Ordering
told_cmp r r' ss ss' ps ps' n n' =
    ordering_then (nat_cmp r r') (ordering_then (ordering_then (slice_cmp (slice_cmp nat_cmp) ss ss') (slice_cmp (slice_cmp nat_cmp) (map pair_set ps) (map pair_set ps'))) (nat_cmp n n'))

by_told : (a b : Cut) → cut_cmp a b ≡ told_cmp (rank_of a) (rank_of b) (wide_sets a) (wide_sets b) (pairs_of a) (pairs_of b) (cities_of a) (cities_of b)
by_told (subtour n s) (subtour m t) = ap (λ o. ordering_then o (nat_cmp n m)) (sym (then_Equal _ ∙ then_Equal (slice_cmp nat_cmp s t)))
by_told (subtour n s) (comb m h ts) = refl
by_told (subtour n s) (odd m h ps) = refl
by_told (comb n h ts) (subtour m s) = refl
by_told (comb n h ts) (comb m h' ts') = ap (λ o. ordering_then o (nat_cmp n m)) (sym (then_Equal (slice_cmp (slice_cmp nat_cmp) (h ∷ ts) (h' ∷ ts'))))
by_told (comb n h ts) (odd m h' ps) = refl
by_told (odd n h ps) (subtour m s) = refl
by_told (odd n h ps) (comb m h' ts) = refl
by_told (odd n h ps) (odd m h' ps') =
    ap (λ o. ordering_then (ordering_then o (slice_cmp (slice_cmp nat_cmp) (map pair_set ps) (map pair_set ps'))) (nat_cmp n m)) (sym (then_Equal (slice_cmp nat_cmp h h')))

-- cuts are compared by their fields
pub compared : (k l : Kind) (n m : ℕ) (s t : List (List ℕ)) (p q : List (ℕ × ℕ)) (a b : Cut) → AreFields k n s p a → AreFields l m t q b
    → cut_cmp a b ≡ told_cmp (rank k) (rank l) s t p q n m
compared k l n m s t p q a b f g =
    by_told a b
    ∙ (λ i. told_cmp (rank (f.kind i)) (rank (g.kind i)) (f.sets i) (g.sets i) (f.pairs i) (g.pairs i) (f.size i) (g.size i))

-- pairs compared city by city are compared as sets of two
pub pairs_as_sets : (ps qs : List (ℕ × ℕ)) → slice_cmp pair_cmp ps qs ≡ slice_cmp (slice_cmp nat_cmp) (map pair_set ps) (map pair_set qs)
pairs_as_sets [] [] = refl
pairs_as_sets [] (q ∷ qs) = refl
pairs_as_sets (p ∷ ps) [] = refl
pairs_as_sets (p ∷ ps) (q ∷ qs) =
    (λ i. ordering_then (pair_cmp p q) (pairs_as_sets ps qs i))
    ∙ ap (λ o. ordering_then (ordering_then (nat_cmp p.0 q.0) o) (slice_cmp (slice_cmp nat_cmp) (map pair_set ps) (map pair_set qs))) (sym (then_Equal (nat_cmp p.1 q.1)))

-- what comes first decides, unless it is a tie
then_ne : (o x : Ordering) → is_ne o ≡ true → ordering_then o x ≡ o
then_ne Less x e = refl
then_ne Equal x e = cc
then_ne Greater x e = refl

then_tie : (o x : Ordering) → is_ne o ≡ false → ordering_then o x ≡ x
then_tie Less x e = cc
then_tie Equal x e = refl
then_tie Greater x e = cc

-- the comparison of two cuts by their fields, kinds first
module _ (k l : Kind) (n m : ℕ) (s t : List (List ℕ)) (p q : List (ℕ × ℕ)) (a b : Cut) (f : MakeCut k n s p) (g : MakeCut l m t q) (here : cut_of k n s p ≡ a) (there : cut_of l m t q ≡ b) where
  pub compared_kinds : (o : Ordering) → o ≡ nat_cmp (rank k) (rank l) → is_ne o ≡ true → o ≡ cut_cmp a b
  compared_kinds o e ne =
      let told = compared k l n m s t p q a b (fields k n s p a f here) (fields l m t q b g there) in
      sym (then_ne o _ ne) ∙ (ap (λ x. ordering_then x (ordering_then (ordering_then (slice_cmp (slice_cmp nat_cmp) s t) (slice_cmp (slice_cmp nat_cmp) (map pair_set p) (map pair_set q))) (nat_cmp n m))) e ∙ sym told)

  pub compared_alike : (o x : Ordering) → o ≡ nat_cmp (rank k) (rank l) → is_ne o ≡ false
      → x ≡ ordering_then (ordering_then (slice_cmp (slice_cmp nat_cmp) s t) (slice_cmp (slice_cmp nat_cmp) (map pair_set p) (map pair_set q))) (nat_cmp n m) → x ≡ cut_cmp a b
  compared_alike o x e tie is =
      let told = compared k l n m s t p q a b (fields k n s p a f here) (fields l m t q b g there) in
      is ∙ (sym (then_tie o _ tie) ∙ (ap (λ y. ordering_then y (ordering_then (ordering_then (slice_cmp (slice_cmp nat_cmp) s t) (slice_cmp (slice_cmp nat_cmp) (map pair_set p) (map pair_set q))) (nat_cmp n m))) e ∙ sym told))
