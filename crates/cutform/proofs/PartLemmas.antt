-- The sets of a cut are those other than its pairs, and then its pairs; what the fields of a cut say of it.
use Rattle.std.proofs.Common.{◌≡◌, ◌≢◌, ℕ, ◌+◌, ◌≤◌, List, [], ◌∷◌, ◌++◌, length, map, refl, ap, ◌∙◌, subst, arith}
use Rattle.tspdef.specs.Cuts.{Cut, subtour, comb, odd, cities_of, sets_of, pair_set, coefficient, IsCut}
use Rattle.tspdef.proofs.SmallCuts.{cuts_are_small}
use Rattle.cutform.specs.declared.cut.Kind.{Kind}
use Rattle.cutform.specs.declared.cut.Kind.TheVariants.{Subtour, Comb, Odd}
use Rattle.cutform.specs.Cut.{kind_of, wide_sets, pairs_of, cut_of, MakeCut}

nil_behind : (ss : List (List ℕ)) → ss ≡ ss ++ []
nil_behind [] = refl
nil_behind (s ∷ ss) = ap (λ ts. s ∷ ts) (nil_behind ss)

pub parts_of_sets : (c : Cut) → sets_of c ≡ wide_sets c ++ map pair_set (pairs_of c)
parts_of_sets (subtour n s) = refl
parts_of_sets (comb n h ts) = nil_behind (h ∷ ts)
parts_of_sets (odd n h ps) = refl

pub coefficient-append : (a b : List (List ℕ)) (u v : ℕ) → coefficient (a ++ b) u v ≡ coefficient a u v + coefficient b u v
coefficient-append [] b u v = omega arith
coefficient-append (s ∷ ss) b u v = let ih = coefficient-append ss b u v in omega arith

pub coefficient_parts : (c : Cut) (u v : ℕ) → coefficient (sets_of c) u v ≡ coefficient (wide_sets c) u v + coefficient (map pair_set (pairs_of c)) u v
coefficient_parts c u v = ap (λ ss. coefficient ss u v) (parts_of_sets c) ∙ coefficient-append (wide_sets c) (map pair_set (pairs_of c)) u v

-- a pair of cities crosses few sets of a cut
pub coefficient_few : (n : ℕ) (c : Cut) (u v : ℕ) → n ≤ 2000 → IsCut n c → coefficient (sets_of c) u v ≤ 3999
coefficient_few n (subtour m s) u v few is = let most = (cuts_are_small n (subtour m s) is).crossed u v in omega arith
coefficient_few n (comb m h ts) u v few is = let most = (cuts_are_small n (comb m h ts) is).crossed u v in omega arith
coefficient_few n (odd m h ps) u v few is = let most = (cuts_are_small n (odd m h ps) is).crossed u v in omega arith

pub coefficient_three : (n : ℕ) (c : Cut) (u v : ℕ) → IsCut n c → kind_of c ≢ Odd → coefficient (sets_of c) u v ≤ 3
coefficient_three n (subtour m s) u v is not_odd = let most = (cuts_are_small n (subtour m s) is).crossed u v in omega arith
coefficient_three n (comb m h ts) u v is not_odd = (cuts_are_small n (comb m h ts) is).crossed u v
coefficient_three n (odd m h ps) u v is not_odd = absurd (not_odd refl)

-- how many sets and pairs a cut has at most
pub wide_few : (n : ℕ) (c : Cut) → n ≤ 2000 → IsCut n c → length (wide_sets c) ≤ 2001
wide_few n (subtour m s) few is = omega arith
wide_few n (comb m h ts) few is = let small = cuts_are_small n (comb m h ts) is in let right = small.right in omega arith
wide_few n (odd m h ps) few is = omega arith

pub pairs_few : (n : ℕ) (c : Cut) → IsCut n c → length (pairs_of c) ≤ 4095
pairs_few n (subtour m s) is = omega arith
pairs_few n (comb m h ts) is = omega arith
pairs_few n (odd m h ps) is = is.1.few

-- what the fields of a cut say of it
pub record AreFields (k : Kind) (n : ℕ) (ss : List (List ℕ)) (ps : List (ℕ × ℕ)) (c : Cut) : Type 0 where
  pub kind : kind_of c ≡ k
  pub size : cities_of c ≡ n
  pub sets : wide_sets c ≡ ss
  pub pairs : pairs_of c ≡ ps
  pub is_cut : IsCut n c
  pub many : 3 ≤ n
  pub few : n ≤ 2000

kind_is : (kind : Kind) (n : ℕ) (sets : List (List ℕ)) (pairs : List (ℕ × ℕ)) → kind_of (cut_of kind n sets pairs) ≡ kind
kind_is Subtour n [] ps = refl
kind_is Subtour n (s ∷ ss) ps = refl
kind_is Comb n [] ps = refl
kind_is Comb n (s ∷ ss) ps = refl
kind_is Odd n [] ps = refl
kind_is Odd n (s ∷ ss) ps = refl

size_is : (kind : Kind) (n : ℕ) (sets : List (List ℕ)) (pairs : List (ℕ × ℕ)) → cities_of (cut_of kind n sets pairs) ≡ n
size_is Subtour n [] ps = refl
size_is Subtour n (s ∷ ss) ps = refl
size_is Comb n [] ps = refl
size_is Comb n (s ∷ ss) ps = refl
size_is Odd n [] ps = refl
size_is Odd n (s ∷ ss) ps = refl

pub fields : (kind : Kind) (n : ℕ) (sets : List (List ℕ)) (pairs : List (ℕ × ℕ)) (c : Cut) → MakeCut kind n sets pairs → cut_of kind n sets pairs ≡ c → AreFields kind n sets pairs c
fields kind n sets pairs c made e = subst (λ d. AreFields kind n sets pairs d) e (record {
  kind = kind_is kind n sets pairs;
  size = size_is kind n sets pairs;
  sets = made.whole;
  pairs = made.all;
  is_cut = made.is_cut;
  many = made.many;
  few = made.few;
})

-- what the fields say of coefficients and sizes
module _ (k : Kind) (n : ℕ) (ss : List (List ℕ)) (ps : List (ℕ × ℕ)) (c : Cut) (made : MakeCut k n ss ps) (is : cut_of k n ss ps ≡ c) where
  pub fields_coefficient : (u v : ℕ) → coefficient (sets_of c) u v ≡ coefficient ss u v + coefficient (map pair_set ps) u v
  fields_coefficient u v =
      let f = fields k n ss ps c made is in
      coefficient_parts c u v ∙ (λ i. coefficient (f.sets i) u v + coefficient (map pair_set (f.pairs i)) u v)

  pub fields_crossed : (u v : ℕ) → coefficient ss u v + coefficient (map pair_set ps) u v ≤ 3999
  fields_crossed u v =
      let f = fields k n ss ps c made is in
      let e = fields_coefficient u v in
      let few = coefficient_few n c u v f.few f.is_cut in
      omega arith

  pub fields_wide : length ss ≤ 2001
  fields_wide = let f = fields k n ss ps c made is in subst (λ xs. length xs ≤ 2001) f.sets (wide_few n c f.few f.is_cut)

  pub fields_pairs : length ps ≤ 4095
  fields_pairs = let f = fields k n ss ps c made is in subst (λ xs. length xs ≤ 4095) f.pairs (pairs_few n c f.is_cut)
