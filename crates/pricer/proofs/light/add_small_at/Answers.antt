use Rattle.std.proofs.Common.{◌≡◌, ◌<◌, ◌^◌, ◌+◌, Bool, true, false, ℕ, length, cond, pos, ◌+ℤ◌, get_or, take, ⊎_elim, arith, sym, subst, ◌∙◌, ap, ◌||◌, eqb, refl, List}
use mir.Syntax.{w64}
use mir.Val.{to_z, of_z}
use Rattle.std.specs.Prelude.{slice_set, ℤ}
use Rattle.std.proofs.lemmas.Int.{ints}
use Rattle.std.proofs.lemmas.Bool.{cases_eq, eq-eqb, ne_eqb, cond-false, cond-true}
use Rattle.std.proofs.lemmas.List.{get_or-set_same, get_or-set_other}
use Rattle.tspdef.specs.Sets.{has, RisesFrom}
use Rattle.pricer.specs.Sizes.{IsWithin}
use Rattle.pricer.specs.Prices.{at}
use Rattle.pricer.proofs.SizeLemmas.{read64}
use Rattle.pricer.proofs.SetLemmas.{has_more, rises_at, rises_apart}
use Rattle.pricer.proofs.light.add_small_at.Goals as goal

-- the city at a place is one of the numbers'
city_in : (n k : ℕ) (cities : List ℕ) (i : ℕ) → n ≡ k → RisesFrom k 0 cities → i < length cities → get_or cities i 0 < n
city_in n k cities i e r h = let p = rises_at k 0 cities i 0 r h in omega arith

or-false : (x : Bool) → x || false ≡ x
or-false true = refl
or-false false = refl

-- one more city
step : (old new : List ℤ) (cities : List ℕ) (i : ℕ) (y x : ℤ) → RisesFrom (length old) 0 cities → i < length cities → length new ≡ length old
    → ((c : ℕ) → at new c ≡ at old c +ℤ cond (has (take i cities) c) y (pos 0)) → x ≡ at new (get_or cities i 0) +ℤ y
    → (c : ℕ) → at (slice_set new (get_or cities i 0) x) c ≡ at old c +ℤ cond (has (take (i + 1) cities) c) y (pos 0)
step old new cities i y x r h len so_far e c =
    let k = get_or cities i 0 in
    let more = has_more cities i 0 c h in
    ⊎_elim
    (λ here.
    let inside : c < length new = let p = rises_at (length old) 0 cities i 0 r h in omega arith in
    let same : at (slice_set new k x) c ≡ x = subst (λ j. at (slice_set new j x) c ≡ x) here (get_or-set_same new c x (pos 0) inside) in
    let apart : has (take i cities) c ≡ false = subst (λ j. has (take i cities) j ≡ false) (sym here) (rises_apart (length old) 0 cities i 0 r h) in
    let now : has (take (i + 1) cities) c ≡ true = more ∙ ap (λ b. b || eqb k c) apart ∙ eq-eqb k c (sym here) in
    let before : at new c ≡ at old c = so_far c ∙ ap (λ (z : ℤ). at old c +ℤ z) (cond-false _ _ _ apart) ∙ omega (arith, ints) in
    let there : at new k ≡ at new c = ap (at new) (sym here) in
    let last : cond (has (take (i + 1) cities) c) y (pos 0) ≡ y = cond-true _ _ _ now in
    omega (arith, ints))
    (λ other.
    let same : at (slice_set new k x) c ≡ at new c = get_or-set_other new k c x (pos 0) other in
    let now : has (take (i + 1) cities) c ≡ has (take i cities) c = more ∙ ap (λ b. has (take i cities) c || b) (ne_eqb k c (λ q. other (sym q))) ∙ or-false (has (take i cities) c) in
    same ∙ so_far c ∙ ap (λ b. at old c +ℤ cond b y (pos 0)) (sym now))
    (cases_eq c k)

-- the same of the bits of the numbers
bits_step : (old new : List ℤ) (cities : List ℕ) (i : ℕ) (y : ℤ) → RisesFrom (length old) 0 cities → i < length cities → length new ≡ length old
    → ((c : ℕ) → IsWithin (2 ^ 50) (at old c)) → IsWithin (2 ^ 50) y
    → ((c : ℕ) → at new c ≡ at old c +ℤ cond (has (take i cities) c) (to_z w64 (of_z w64 y)) (pos 0))
    → (c : ℕ) → at (slice_set new (get_or cities i 0) (to_z w64 (of_z w64 (to_z w64 (of_z w64 (get_or new (get_or cities i 0) (pos 0))) +ℤ to_z w64 (of_z w64 y))))) c ≡ at old c +ℤ cond (has (take (i + 1) cities) c) (to_z w64 (of_z w64 y)) (pos 0)
bits_step old new cities i y r h len sizes size so_far =
    let k = get_or cities i 0 in
    let read = read64 (2 ^ 50) y (omega arith) size in
    let apart = rises_apart (length old) 0 cities i 0 r h in
    let same : at new k ≡ at old k = so_far k ∙ ap (λ (z : ℤ). at old k +ℤ z) (cond-false _ _ _ apart) ∙ omega (arith, ints) in
    let before = sizes k in
    let small : IsWithin (2 ^ 50) (at new k) = record { low = omega (arith, ints); high = omega (arith, ints) } in
    let number = read64 (2 ^ 50) (at new k) (omega arith) small in
    let sum : IsWithin (2 ^ 51) (to_z w64 (of_z w64 (at new k)) +ℤ to_z w64 (of_z w64 y)) = record { low = omega (arith, ints); high = omega (arith, ints) } in
    step old new cities i (to_z w64 (of_z w64 y)) _ r h len so_far (read64 (2 ^ 51) _ (omega arith) sum ∙ ap (λ (z : ℤ). z +ℤ to_z w64 (of_z w64 y)) number)

pub slice_copy_out-numbers : goal.slice_copy_out-numbers
slice_copy_out-numbers c = city_in _ _ c.args.cities.now c.loop-city.city-index c.loop-city.auto.numbers c.requires.rising (omega arith)

pub bounds-numbers-city : goal.bounds-numbers-city
bounds-numbers-city c = city_in _ _ c.args.cities.now c.loop-city.city-index c.loop-city.auto.numbers c.requires.rising (omega arith)

pub loop-city-preserved : goal.loop-city-preserved
loop-city-preserved c = bits_step c.args.numbers.now c.loop-city.numbers c.args.cities.now c.loop-city.city-index c.args.y c.requires.rising (omega arith) c.loop-city.auto.numbers c.requires.numbers c.requires.y c.loop-city.invariant
