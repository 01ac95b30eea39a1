use Rattle.std.proofs.Common.{◌≡◌, ℕ, ◌+◌, ◌*◌, ◌^◌, ◌≤◌, List, [], ◌∷◌, length, map, ap, arith, Some}
use Rattle.std.specs.Prelude.{ℤ, pos, ◌+ℤ◌, Option}
use Rattle.std.proofs.lemmas.Int.{ints}
use Rattle.std.proofs.lemmas.List.{length-map, length-append}
use Rattle.std.proofs.Math.Nat.{mul-le-mul_left}
use Rattle.tspdef.specs.Cuts.{Cut, sets_of, pair_set}
use Rattle.tspdef.specs.Paths.{Condition}
use Rattle.tspdef.specs.Closings.{Closing}
use Rattle.tspdef.specs.Bounds.{cut_rows, condition_rows}
use Rattle.cyc.specs.CitySet.{Members}
use Rattle.cutform.specs.Cut.{cities_of_each, wide_sets, pairs_of}
use Rattle.cutform.proofs.PartLemmas.{parts_of_sets}
use Rattle.pricer.specs.Sizes.{IsWithin}
use Rattle.pricer.specs.Prices.{held, laid, shared_by}
use Rattle.pricer.specs.Weights.{weight, IsLight}
use Rattle.pricer.proofs.SizeLemmas.{within_zero, within_more}
use Rattle.pricer.proofs.SpreadLemmas.{laid_size, held_cut, number_size}

-- the sets of a cut are those that it keeps as sets, and its pairs
pub sets_counted : (cut : Cut) → length (sets_of cut) ≡ length (wide_sets cut) + length (pairs_of cut)
sets_counted cut =
    let parts = ap (length {A = List ℕ}) (parts_of_sets cut) in
    let both = length-append (wide_sets cut) (map pair_set (pairs_of cut)) in
    let each = length-map (pairs_of cut) pair_set in
    omega arith

pub kept_counted : (cut : Cut) (ss : List Members) → cities_of_each ss ≡ wide_sets cut → length ss ≡ length (wide_sets cut)
kept_counted cut ss e =
    let same = ap (length {A = List ℕ}) e in
    let each = length-map ss (λ s. s.cities) in
    omega arith

-- a number on sets that weighs little
pub part_light : (y m k : ℕ) → m ≤ k → y * (1 + k) ≤ 2 ^ 46 → y * m ≤ 2 ^ 46
part_light y m k l h = let most = mul-le-mul_left y l in omega arith

pub dual_light : (y k : ℕ) → y * (1 + k) ≤ 2 ^ 46 → y ≤ 2 ^ 46
dual_light y k h = omega arith

pos_size : (y : ℕ) → IsWithin y (pos y)
pos_size y = record { low = omega (arith, ints); high = omega (arith, ints) }

laid_light : (y : ℕ) (h : Option ℕ) (ss : List (List ℕ)) (c : ℕ) → y * length ss ≤ 2 ^ 46 → IsWithin (2 ^ 46) (laid (pos y) h ss c)
laid_light y h ss c l = within_more _ (2 ^ 46) _ l (laid_size y (pos y) h ss c (pos_size y))

-- a number while it is being laid on sets
pub sets_light : (x a : ℤ) (y : ℕ) (h : Option ℕ) (all rest : List (List ℕ)) (c : ℕ) → y * length all ≤ 2 ^ 46 → length rest ≤ length all → IsWithin (2 ^ 49) a
    → x +ℤ laid (pos y) h rest c ≡ a +ℤ laid (pos y) h all c → IsWithin (2 ^ 50) x
sets_light x a y h all rest c light less size e =
    let fewer = mul-le-mul_left y less in
    let l = laid_light y h rest c (omega arith) in
    let r = laid_light y h all c light in
    within_more _ (2 ^ 50) x (omega arith) (number_size (2 ^ 49) (2 ^ 46) x a _ _ e l r size)

pub between_light : (x a : ℤ) (y : ℕ) (h : Option ℕ) (ss : List (List ℕ)) (c : ℕ) → y * length ss ≤ 2 ^ 46 → IsWithin (2 ^ 48) a
    → x ≡ a +ℤ laid (pos y) h ss c → IsWithin (2 ^ 49) x
between_light x a y h ss c light size e =
    let l = laid_light y h ss c light in
    record { low = omega (arith, ints); high = omega (arith, ints) }

-- no sum is more than the weight
pub held_weight : (qs : List (Cut × ℕ)) (h : Option ℕ) (c : ℕ) → IsWithin (weight qs) (held h (cut_rows qs) c)
held_weight [] h c = within_zero 0
held_weight (q ∷ qs) h c =
    let ih = held_weight qs h c in
    let one = laid_size q.1 (pos q.1) h (sets_of q.0) c (pos_size q.1) in
    let same = held_cut q.0 q.1 h c in
    record { low = omega (arith, ints); high = omega (arith, ints) }

held_light : (qs : List (Cut × ℕ)) (h : Option ℕ) (c : ℕ) → weight qs ≤ 2 ^ 46 → IsWithin (2 ^ 46) (held h (cut_rows qs) c)
held_light qs h c l = within_more _ (2 ^ 46) _ l (held_weight qs h c)

pub cuts_light : (x a : ℤ) (h : Option ℕ) (all rest : List (Cut × ℕ)) (c : ℕ) → weight all ≤ 2 ^ 46 → weight rest ≤ 2 ^ 46 → IsWithin (2 ^ 47) a
    → x +ℤ held h (cut_rows rest) c ≡ a +ℤ held h (cut_rows all) c → IsWithin (2 ^ 48) x
cuts_light x a h all rest c whole left size e =
    within_more _ (2 ^ 48) x (omega arith) (number_size (2 ^ 47) (2 ^ 46) x a _ _ e (held_light rest h c left) (held_light all h c whole) size)

-- what two cities share in a closing with light duals
pub shared_light : (path : List Condition) (c : Closing) (v k : ℕ) → IsLight c → shared_by path c v k ≡ held (Some v) (cut_rows c.cuts) k
shared_light path c v k is =
    let none = ap (λ (qs : List (ℕ × ℕ)). held (Some v) (condition_rows path qs) k) is.bare in
    omega (arith, ints)

pub shared_light_size : (path : List Condition) (c : Closing) (v k : ℕ) → IsLight c → IsWithin (2 ^ 46) (shared_by path c v k)
shared_light_size path c v k is = rw (shared_light path c v k is) (held_light c.cuts (Some v) k is.small)
