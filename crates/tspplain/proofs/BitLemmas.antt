-- Sets as bits: one city more, and which pairs a set parts.
use Rattle.std.proofs.Common.{refl, ◌-◌, ◌/◌, ◌≡◌, ℕ, ◌+◌, ◌%◌, ◌*◌, ◌^◌, ◌<◌, ◌≤◌, min, max, Bool, true, false, not, cond, eqb, ◌||◌, ◌&&◌, w32, sym, ap, ◌∙◌, arith, ◌⊎◌, inl, inr, ⊎_elim, subst}
use Rattle.std.specs.Prelude.{nat_lt, ◌↔◌, bit_and, bit_or, bit_xor, ◌==◌}
use Rattle.std.specs.Int.{bit_at, trailing_zeros}
use Rattle.std.specs.Int.Bits.{and_zero_r}
use Rattle.std.proofs.lemmas.Bool.{cases_eq, cases_lt, eq-eqb, ne_eqb, eqb-true, and_from, and_parts}
use Rattle.std.proofs.lemmas.Bool.Decides.{nat_tests}
use Rattle.std.proofs.lemmas.Nat.{pow_pos, pow-add, and_le_r, xor_lt}
use Rattle.std.proofs.Math.Nat.{div-lt_iff_lt-mul}
use Rattle.std.proofs.lemmas.Nat.Bits.{bit_at-zero, bit_at-lt, bit_at_or, bit_at_and, bit_at_xor, bit_at-trailing_zeros, bit_at-pow_same, bit_at-pow_other, bit_at_ones, bit_at_above, and_pow, same_from_bits}
use Rattle.tspplain.specs.Bits.{bit_of, in_bits, has_part, HasPart}
use Rattle.tspplain.specs.Crossings.{crosses_bits}

pub bit_of_within : (city : ℕ) → city < 32 → bit_of city ≡ 2 ^ city
bit_of_within city h = grind (arith, nat_tests)

pub bit_of_past : (city : ℕ) → 32 ≤ city → bit_of city ≡ 0
bit_of_past city h = grind (arith, nat_tests)

one_bit : (set city : ℕ) → (bit_at set city ≡ 0) ⊎ (bit_at set city ≡ 1)
one_bit set city = ⊎_elim
    (λ none. inl none)
    (λ some. inr (let l = bit_at-lt set city in omega arith))
    (cases_eq (bit_at set city) 0)

max_none : (k : ℕ) → max k 0 ≡ k
max_none k = omega arith

none_max : (k : ℕ) → max 0 k ≡ k
none_max k = omega arith

or_none : (a : ℕ) → bit_or a 0 ≡ a
or_none a = same_from_bits (bit_or a 0) a (λ i. bit_at_or a 0 i ∙ ap (max (bit_at a i)) (bit_at-zero i) ∙ max_none (bit_at a i))

none_or : (a : ℕ) → bit_or 0 a ≡ a
none_or a = same_from_bits (bit_or 0 a) a (λ i. bit_at_or 0 a i ∙ ap (λ k. max k (bit_at a i)) (bit_at-zero i) ∙ none_max (bit_at a i))

times_none : (a : ℕ) → a * 0 ≡ 0
times_none a = omega arith

-- a set's bit of a city, in its place
pub and_bit : (set city : ℕ) → bit_and set (bit_of city) ≡ bit_at set city * bit_of city
and_bit set city = ⊎_elim
    (λ within. rw (bit_of_within city within) (and_pow set city))
    (λ past. rw (bit_of_past city past) (and_zero_r set ∙ sym (times_none (bit_at set city))))
    (cases_lt city 32)

min_of_max : (s a b : ℕ) → min s (max a b) ≡ max (min s a) (min s b)
min_of_max s a b = omega arith

and_or : (s a b : ℕ) → bit_and s (bit_or a b) ≡ bit_or (bit_and s a) (bit_and s b)
and_or s a b = same_from_bits _ _ (λ i.
    bit_at_and s (bit_or a b) i ∙ ap (min (bit_at s i)) (bit_at_or a b i) ∙ min_of_max (bit_at s i) (bit_at a i) (bit_at b i)
    ∙ sym (bit_at_or (bit_and s a) (bit_and s b) i ∙ ap (λ k. max k (bit_at (bit_and s b) i)) (bit_at_and s a i) ∙ ap (max (min (bit_at s i) (bit_at a i))) (bit_at_and s b i)))

-- ---- the test of a bit

test_some : (a b : ℕ) → a ≡ 1 → 0 < b → not (a * b == 0) ≡ (a == 1)
test_some a b e h = grind (arith, nat_tests)

test_none : (a b : ℕ) → a ≡ 0 → not (a * b == 0) ≡ (a == 1)
test_none a b e = grind (arith, nat_tests)

bit_pos : (city : ℕ) → city < 32 → 0 < bit_of city
bit_pos city h = let e = bit_of_within city h in let p = pow_pos city in omega arith

-- a set has a city where it shares a bit with the set of that city
pub tested : (set city : ℕ) → set < 2 ^ 32 → not (bit_and set (bit_of city) == 0) ≡ in_bits set city
tested set city small = ap (λ k. not (k == 0)) (and_bit set city) ∙ ⊎_elim
    (λ none. test_none (bit_at set city) (bit_of city) none)
    (λ some. ⊎_elim
    (λ within. test_some (bit_at set city) (bit_of city) some (bit_pos city within))
    (λ past. let e = bit_at_above set 32 city small past in absurd (omega arith))
    (cases_lt city 32))
    (one_bit set city)

-- ---- one city more

one_more_test : (a b : ℕ) → a < 2 → b ≡ 1 → (max a b == 1) ≡ true
one_more_test a b l e = grind (arith, nat_tests)

none_more_test : (a b : ℕ) → b ≡ 0 → max a b ≡ a
none_more_test a b e = omega arith

same_city : (all city : ℕ) → city < 32 → in_bits (bit_or all (bit_of city)) city ≡ true
same_city all city h =
    let here : bit_at (bit_of city) city ≡ 1 = ap (λ k. bit_at k city) (bit_of_within city h) ∙ bit_at-pow_same city in
    ap (λ k. k == 1) (bit_at_or all (bit_of city) city) ∙ one_more_test (bit_at all city) (bit_at (bit_of city) city) (bit_at-lt all city) here

none_there : (city other : ℕ) → (city ≡ other → ⊥) → bit_at (bit_of city) other ≡ 0
none_there city other ne = ⊎_elim
    (λ within. ap (λ k. bit_at k other) (bit_of_within city within) ∙ bit_at-pow_other city other (λ e. ne (sym e)))
    (λ past. ap (λ k. bit_at k other) (bit_of_past city past) ∙ bit_at-zero other)
    (cases_lt city 32)

other_city : (all city other : ℕ) → (city ≡ other → ⊥) → in_bits (bit_or all (bit_of city)) other ≡ in_bits all other
other_city all city other ne =
    ap (λ k. k == 1) (bit_at_or all (bit_of city) other ∙ none_more_test (bit_at all other) (bit_at (bit_of city) other) (none_there city other ne))

pub one_more : (all city other : ℕ) → other < 32 → in_bits (bit_or all (bit_of city)) other ≡ eqb city other || in_bits all other
one_more all city other h = ⊎_elim
    (λ same.
    let yes : eqb city other ≡ true = eq-eqb city other same in
    let there : in_bits (bit_or all (bit_of city)) other ≡ true = subst (λ k. in_bits (bit_or all (bit_of k)) other ≡ true) (sym same) (same_city all other h) in
    there ∙ sym (ap (λ b. b || in_bits all other) yes))
    (λ apart. other_city all city other apart ∙ ap (λ b. b || in_bits all other) (sym (ne_eqb city other apart)))
    (cases_eq city other)

-- ---- the pairs that a set parts

part_of_none : (a p : ℕ) → a ≡ 0 → (not (a == 0) && not (a == p)) ≡ false
part_of_none a p e = grind (arith, nat_tests)

part_of_all : (a p : ℕ) → a ≡ p → (not (a == 0) && not (a == p)) ≡ false
part_of_all a p e = grind (arith, nat_tests)

part_of_some : (a p : ℕ) → (a ≡ 0 → ⊥) → (a ≡ p → ⊥) → (not (a == 0) && not (a == p)) ≡ true
part_of_some a p e f = grind (arith, nat_tests)

past_first : (set u v : ℕ) → 32 ≤ u → crosses_bits set u v ≡ false
past_first set u v h = grind (arith, nat_tests)

past_second : (set u v : ℕ) → 32 ≤ v → crosses_bits set u v ≡ false
past_second set u v h = grind (arith, nat_tests)

within_both : (set u v : ℕ) → u < 32 → v < 32 → crosses_bits set u v ≡ cond (in_bits set u) (not (in_bits set v)) (in_bits set v)
within_both set u v h k = grind (arith, nat_tests)

-- what a set shares with a pair
shared : (set u v : ℕ) → bit_and set (bit_or (bit_of u) (bit_of v)) ≡ bit_or (bit_at set u * bit_of u) (bit_at set v * bit_of v)
shared set u v = and_or set (bit_of u) (bit_of v) ∙ ap (λ k. bit_or k (bit_and set (bit_of v))) (and_bit set u) ∙ ap (bit_or (bit_at set u * bit_of u)) (and_bit set v)

shared_by : (set u v b d : ℕ) → bit_at set u ≡ b → bit_at set v ≡ d → bit_and set (bit_or (bit_of u) (bit_of v)) ≡ bit_or (b * bit_of u) (d * bit_of v)
shared_by set u v b d e f = shared set u v ∙ ap (λ k. bit_or (k * bit_of u) (bit_at set v * bit_of v)) e ∙ ap (λ k. bit_or (b * bit_of u) (k * bit_of v)) f

once : (a : ℕ) → 1 * a ≡ a
once a = omega arith

never : (a : ℕ) → 0 * a ≡ 0
never a = omega arith

shares_all : (set u v : ℕ) → bit_at set u ≡ 1 → bit_at set v ≡ 1 → bit_and set (bit_or (bit_of u) (bit_of v)) ≡ bit_or (bit_of u) (bit_of v)
shares_all set u v e f = shared_by set u v 1 1 e f ∙ ap (λ k. bit_or k (1 * bit_of v)) (once (bit_of u)) ∙ ap (bit_or (bit_of u)) (once (bit_of v))

shares_none : (set u v : ℕ) → bit_at set u ≡ 0 → bit_at set v ≡ 0 → bit_and set (bit_or (bit_of u) (bit_of v)) ≡ 0
shares_none set u v e f = shared_by set u v 0 0 e f ∙ ap (λ k. bit_or k (0 * bit_of v)) (never (bit_of u)) ∙ ap (bit_or 0) (never (bit_of v)) ∙ or_none 0

shares_first : (set u v : ℕ) → bit_at set u ≡ 1 → bit_at set v ≡ 0 → bit_and set (bit_or (bit_of u) (bit_of v)) ≡ bit_of u
shares_first set u v e f = shared_by set u v 1 0 e f ∙ ap (λ k. bit_or k (0 * bit_of v)) (once (bit_of u)) ∙ ap (bit_or (bit_of u)) (never (bit_of v)) ∙ or_none (bit_of u)

shares_second : (set u v : ℕ) → bit_at set u ≡ 0 → bit_at set v ≡ 1 → bit_and set (bit_or (bit_of u) (bit_of v)) ≡ bit_of v
shares_second set u v e f = shared_by set u v 0 1 e f ∙ ap (λ k. bit_or k (1 * bit_of v)) (never (bit_of u)) ∙ none_or (1 * bit_of v) ∙ once (bit_of v)

abbrev pair_of : ℕ → ℕ → ℕ
pair_of u v = bit_or (bit_of u) (bit_of v)

unlike : (a b : ℕ) → a ≡ 0 → b ≡ 1 → a ≡ b → ⊥
unlike a b e f g = omega arith

differ : (set u v : ℕ) → bit_at set u ≡ 0 → bit_at set v ≡ 1 → u ≡ v → ⊥
differ set u v e f g = unlike (bit_at set u) (bit_at set v) e f (ap (bit_at set) g)

clash : (a b : ℕ) → a ≡ 0 → b ≡ 1 → a ≡ max a b → ⊥
clash a b e f g = omega arith

clash_turned : (a b : ℕ) → a ≡ 0 → b ≡ 1 → a ≡ max b a → ⊥
clash_turned a b e f g = omega arith

-- where one bit of a pair differs the pair is not one city
not_all_second : (u v : ℕ) → u < 32 → v < 32 → (u ≡ v → ⊥) → bit_of u ≡ pair_of u v → ⊥
not_all_second u v hu hv ne e =
    let there : bit_at (bit_of v) v ≡ 1 = ap (λ k. bit_at k v) (bit_of_within v hv) ∙ bit_at-pow_same v in
    let here : bit_at (bit_of u) v ≡ 0 = none_there u v ne in
    let both : bit_at (bit_of u) v ≡ max (bit_at (bit_of u) v) (bit_at (bit_of v) v) = ap (λ k. bit_at k v) e ∙ bit_at_or (bit_of u) (bit_of v) v in
    clash (bit_at (bit_of u) v) (bit_at (bit_of v) v) here there both

not_all_first : (u v : ℕ) → u < 32 → v < 32 → (u ≡ v → ⊥) → bit_of v ≡ pair_of u v → ⊥
not_all_first u v hu hv ne e =
    let there : bit_at (bit_of u) u ≡ 1 = ap (λ k. bit_at k u) (bit_of_within u hu) ∙ bit_at-pow_same u in
    let here : bit_at (bit_of v) u ≡ 0 = none_there v u (λ f. ne (sym f)) in
    let both : bit_at (bit_of v) u ≡ max (bit_at (bit_of u) u) (bit_at (bit_of v) u) = ap (λ k. bit_at k u) e ∙ bit_at_or (bit_of u) (bit_of v) u in
    clash_turned (bit_at (bit_of v) u) (bit_at (bit_of u) u) here there both

yes_bit : (set city : ℕ) → bit_at set city ≡ 1 → in_bits set city ≡ true
yes_bit set city e = ap (λ k. k == 1) e

no_bit : (set city : ℕ) → bit_at set city ≡ 0 → in_bits set city ≡ false
no_bit set city e = ap (λ k. k == 1) e

crosses_by : (set u v : ℕ) (b d : Bool) → u < 32 → v < 32 → in_bits set u ≡ b → in_bits set v ≡ d → crosses_bits set u v ≡ cond b (not d) d
crosses_by set u v b d h k e f =
    within_both set u v h k ∙ ap (λ c. cond c (not (in_bits set v)) (in_bits set v)) e ∙ ap (λ c. cond b (not c) c) f

parted_within : (set u v : ℕ) → u < 32 → v < 32 → has_part set (pair_of u v) ≡ crosses_bits set u v
parted_within set u v hu hv = ⊎_elim
    (λ u0. ⊎_elim
    (λ v0. part_of_none (bit_and set (pair_of u v)) (pair_of u v) (shares_none set u v u0 v0)
    ∙ sym (crosses_by set u v false false hu hv (no_bit set u u0) (no_bit set v v0)))
    (λ v1.
    let shares = shares_second set u v u0 v1 in
    let ne : u ≡ v → ⊥ = λ e. differ set u v u0 v1 e in
    part_of_some (bit_and set (pair_of u v)) (pair_of u v) (λ z. let p = bit_pos v hv in omega (arith, shares, z, p)) (λ z. not_all_first u v hu hv ne (sym shares ∙ z))
    ∙ sym (crosses_by set u v false true hu hv (no_bit set u u0) (yes_bit set v v1)))
    (one_bit set v))
    (λ u1. ⊎_elim
    (λ v0.
    let shares = shares_first set u v u1 v0 in
    let ne : u ≡ v → ⊥ = λ e. differ set v u v0 u1 (sym e) in
    part_of_some (bit_and set (pair_of u v)) (pair_of u v) (λ z. let p = bit_pos u hu in omega (arith, shares, z, p)) (λ z. not_all_second u v hu hv ne (sym shares ∙ z))
    ∙ sym (crosses_by set u v true false hu hv (yes_bit set u u1) (no_bit set v v0)))
    (λ v1. part_of_all (bit_and set (pair_of u v)) (pair_of u v) (shares_all set u v u1 v1)
    ∙ sym (crosses_by set u v true true hu hv (yes_bit set u u1) (yes_bit set v v1)))
    (one_bit set v))
    (one_bit set u)

lone_part : (set a d : ℕ) → bit_and set a ≡ d * a → (d ≡ 0) ⊎ (d ≡ 1) → has_part set a ≡ false
lone_part set a d e c = ⊎_elim
    (λ none. part_of_none (bit_and set a) a (e ∙ ap (λ k. k * a) none ∙ never a))
    (λ one. part_of_all (bit_and set a) a (e ∙ ap (λ k. k * a) one ∙ once a))
    c

-- a set parts a pair where it has exactly one of its cities
pub parted : (set u v : ℕ) → has_part set (bit_or (bit_of u) (bit_of v)) ≡ crosses_bits set u v
parted set u v = ⊎_elim
    (λ hu. ⊎_elim
    (λ hv. parted_within set u v hu hv)
    (λ past. ap (has_part set) (ap (bit_or (bit_of u)) (bit_of_past v past) ∙ or_none (bit_of u))
    ∙ lone_part set (bit_of u) (bit_at set u) (and_bit set u) (one_bit set u) ∙ sym (past_second set u v past))
    (cases_lt v 32))
    (λ past. ap (has_part set) (ap (λ k. bit_or k (bit_of v)) (bit_of_past u past) ∙ none_or (bit_of v))
    ∙ lone_part set (bit_of v) (bit_at set v) (and_bit set v) (one_bit set v) ∙ sym (past_first set u v past))
    (cases_lt u 32)

-- ---- shared cities

true_or_false : (b : Bool) → b ≡ true → b ≡ false → ⊥
true_or_false b e f = let k : true ≡ false = sym e ∙ f in cc

bit_from : (set city : ℕ) → in_bits set city ≡ true → bit_at set city ≡ 1
bit_from set city h = eqb-true (bit_at set city) 1 h

no_bit_from : (set city : ℕ) → in_bits set city ≡ false → bit_at set city ≡ 0
no_bit_from set city h = ⊎_elim
    (λ none. none)
    (λ one. let t = yes_bit set city one in absurd (true_or_false (in_bits set city) t h))
    (one_bit set city)

full_case : (a b : ℕ) → a < 2 → min a b ≡ b → b ≡ 1 → a ≡ 1
full_case a b l e f = omega arith

free_case : (a b : ℕ) → min a b ≡ 0 → b ≡ 1 → a ≡ 0
free_case a b e f = omega arith

min_second : (a b : ℕ) → b ≡ 0 → min a b ≡ b
min_second a b e = omega arith

min_both : (a b : ℕ) → a ≡ 1 → b ≡ 1 → min a b ≡ b
min_both a b e f = omega arith

min_zero : (a b : ℕ) → b ≡ 0 → min a b ≡ 0
min_zero a b e = omega arith

zero_min : (a b : ℕ) → a ≡ 0 → min a b ≡ 0
zero_min a b e = omega arith

shared_at : (set other both city : ℕ) → bit_and set other ≡ both → min (bit_at set city) (bit_at other city) ≡ bit_at both city
shared_at set other both city e = sym (bit_at_and set other city) ∙ ap (λ k. bit_at k city) e

pub all_in : (set all : ℕ) → bit_and set all ≡ all → (city : ℕ) → in_bits all city ≡ true → in_bits set city ≡ true
all_in set all e city h =
    yes_bit set city (full_case (bit_at set city) (bit_at all city) (bit_at-lt set city) (shared_at set all all city e) (bit_from all city h))

pub none_in : (set none : ℕ) → bit_and set none ≡ 0 → (city : ℕ) → in_bits none city ≡ true → in_bits set city ≡ false
none_in set none e city h =
    no_bit set city (free_case (bit_at set city) (bit_at none city) (shared_at set none 0 city e ∙ bit_at-zero city) (bit_from none city h))

pub shares_every : (set all : ℕ) → ((city : ℕ) → in_bits all city ≡ true → in_bits set city ≡ true) → bit_and set all ≡ all
shares_every set all f = same_from_bits (bit_and set all) all (λ city. bit_at_and set all city ∙ ⊎_elim
    (λ out. min_second (bit_at set city) (bit_at all city) out)
    (λ one. min_both (bit_at set city) (bit_at all city) (bit_from set city (f city (yes_bit all city one))) one)
    (one_bit all city))

pub shares_nothing : (set none : ℕ) → ((city : ℕ) → in_bits none city ≡ true → in_bits set city ≡ false) → bit_and set none ≡ 0
shares_nothing set none f = same_from_bits (bit_and set none) 0 (λ city. bit_at_and set none city ∙ ⊎_elim
    (λ out. min_zero (bit_at set city) (bit_at none city) out)
    (λ one. zero_min (bit_at set city) (bit_at none city) (no_bit_from set city (f city (yes_bit none city one))))
    (one_bit none city) ∙ sym (bit_at-zero city))

-- ---- some and not all

some_bit : (a : ℕ) → (a ≡ 0 → ⊥) → a < 2 ^ 32 → (city : ℕ) × (bit_at a city ≡ 1)
some_bit a ne small = (trailing_zeros w32 a, (bit_at-trailing_zeros w32 a (omega arith) small).1)

odd_case : (x y : ℕ) → (x + y) % 2 ≡ 1 → x ≡ y → ⊥
odd_case x y e f = omega arith

even_case : (x y : ℕ) → x < 2 → y < 2 → (x + y) % 2 ≡ 0 → x ≡ y
even_case x y l m e = omega arith

unlike_bit : (a b : ℕ) → (a ≡ b → ⊥) → a < 2 ^ 32 → b < 2 ^ 32 → (city : ℕ) × (bit_at a city ≡ bit_at b city → ⊥)
unlike_bit a b ne ha hb =
    let x = bit_xor a b in
    let apart : x ≡ 0 → ⊥ = λ z. ne (same_from_bits a b (λ i. even_case (bit_at a i) (bit_at b i) (bit_at-lt a i) (bit_at-lt b i) (sym (bit_at_xor a b i) ∙ ap (λ k. bit_at k i) z ∙ bit_at-zero i))) in
    let found = some_bit x apart (xor_lt 32 a b ha hb) in
    (found.0, odd_case (bit_at a found.0) (bit_at b found.0) (sym (bit_at_xor a b found.0) ∙ found.1))

both_ones : (a b : ℕ) → a < 2 → b < 2 → min a b ≡ 1 → (a ≡ 1) × (b ≡ 1)
both_ones a b l m e = (omega arith, omega arith)

second_one : (a b : ℕ) → a < 2 → b < 2 → (min a b ≡ b → ⊥) → (a ≡ 0) × (b ≡ 1)
second_one a b l m e = (omega arith, omega arith)

part_by_cities : (set other : ℕ) → set < 2 ^ 32 → other < 2 ^ 32 → has_part set other ≡ true → HasPart set other
part_by_cities set other hs ho h =
    let both = bit_and set other in
    let small : both < 2 ^ 32 = let l = and_le_r set other in omega arith in
    let in_both = some_bit both (λ z. true_or_false (has_part set other) h (part_of_none both other z)) small in
    let in_one = unlike_bit both other (λ z. true_or_false (has_part set other) h (part_of_all both other z)) small ho in
    let ones = both_ones (bit_at set in_both.0) (bit_at other in_both.0) (bit_at-lt set in_both.0) (bit_at-lt other in_both.0) (sym (bit_at_and set other in_both.0) ∙ in_both.1) in
    let one = second_one (bit_at set in_one.0) (bit_at other in_one.0) (bit_at-lt set in_one.0) (bit_at-lt other in_one.0) (λ z. in_one.1 (bit_at_and set other in_one.0 ∙ z)) in
    record {
      some = (in_both.0, (yes_bit set in_both.0 ones.0, yes_bit other in_both.0 ones.1));
      not_all = (in_one.0, (no_bit set in_one.0 one.0, yes_bit other in_one.0 one.1));
    }

not_both : (a b : ℕ) → a ≡ 1 → b ≡ 1 → min a b ≡ 0 → ⊥
not_both a b e f g = omega arith

not_second : (a b : ℕ) → a ≡ 0 → b ≡ 1 → min a b ≡ b → ⊥
not_second a b e f g = omega arith

cities_by_part : (set other : ℕ) → HasPart set other → has_part set other ≡ true
cities_by_part set other p = part_of_some (bit_and set other) other
    (λ z. let city = p.some.0 in not_both (bit_at set city) (bit_at other city) (bit_from set city p.some.1.0) (bit_from other city p.some.1.1) (shared_at set other 0 city z ∙ bit_at-zero city))
    (λ z. let city = p.not_all.0 in not_second (bit_at set city) (bit_at other city) (no_bit_from set city p.not_all.1.0) (bit_from other city p.not_all.1.1) (shared_at set other other city z))

not_equal : (a b : ℕ) → (a ≡ b → ⊥) → not (a == b) ≡ true
not_equal a b ne = grind (arith, nat_tests)

is_equal : (a b : ℕ) → a ≡ b → not (a == b) ≡ false
is_equal a b e = grind (arith, nat_tests)

-- the same, where the set has some of the cities, and where it has none
pub part_of_shared : (set other : ℕ) → set < 2 ^ 32 → other < 2 ^ 32 → (bit_and set other ≡ 0 → ⊥) → (not (bit_and set other == other) ≡ true) ↔ HasPart set other
part_of_shared set other hs ho some = (
  λ h. part_by_cities set other hs ho (and_from (not (bit_and set other == 0)) (not (bit_and set other == other)) (not_equal (bit_and set other) 0 some) h),
  λ p. (and_parts (not (bit_and set other == 0)) (not (bit_and set other == other)) (cities_by_part set other p)).1,
)

pub part_of_unshared : (set other : ℕ) → bit_and set other ≡ 0 → (not (bit_and set other == 0) ≡ true) ↔ HasPart set other
part_of_unshared set other none = (
  λ h. absurd (true_or_false (not (bit_and set other == 0)) h (is_equal (bit_and set other) 0 none)),
  λ p. (and_parts (not (bit_and set other == 0)) (not (bit_and set other == other)) (cities_by_part set other p)).0,
)

-- ---- the complement

-- the other cities below n
abbrev pub others : ℕ → ℕ → ℕ
others n set = bit_xor set (2 ^ n - 1)

other_bit : (n set city : ℕ) → city < n → bit_at (others n set) city ≡ (bit_at set city + 1) % 2
other_bit n set city h = bit_at_xor set (2 ^ n - 1) city ∙ ap (λ k. (bit_at set city + k) % 2) (bit_at_ones n city h)

pub in_others : (n set city : ℕ) → city < n → in_bits (others n set) city ≡ not (in_bits set city)
in_others n set city h = ⊎_elim
    (λ out. yes_bit (others n set) city (other_bit n set city h ∙ ap (λ k. (k + 1) % 2) out) ∙ sym (ap not (no_bit set city out)))
    (λ one. no_bit (others n set) city (other_bit n set city h ∙ ap (λ k. (k + 1) % 2) one) ∙ sym (ap not (yes_bit set city one)))
    (one_bit set city)

both_case : (b d : Bool) → cond (not b) (not (not d)) (not d) ≡ cond b (not d) d
both_case true true = refl
both_case true false = refl
both_case false true = refl
both_case false false = refl

-- it is crossed by the same pairs
pub others_crossed : (n set u v : ℕ) → u < n → v < n → crosses_bits (others n set) u v ≡ crosses_bits set u v
others_crossed n set u v h k = ap (λ b. nat_lt u 32 && (nat_lt v 32 && b))
    (ap (λ b. cond b (not (in_bits (others n set) v)) (in_bits (others n set) v)) (in_others n set u h)
    ∙ ap (λ d. cond (not (in_bits set u)) (not d) d) (in_others n set v k) ∙ both_case (in_bits set u) (in_bits set v))

quotient_below : (p x y : ℕ) → 0 < p → x < y * p → x / p < y
quotient_below p x y h l = (div-lt_iff_lt-mul {k = p} {x = x} {y = y} h).1 l

below_quotient : (p x y : ℕ) → 0 < p → x / p < y → x < y * p
below_quotient p x y h l = (div-lt_iff_lt-mul {k = p} {x = x} {y = y} h).0 l

even_below : (q : ℕ) → q < 2 → q % 2 ≡ 0 → q < 1
even_below q l e = omega arith

odd_at_one : (q : ℕ) → q < 2 → 1 ≤ q → q % 2 ≡ 1
odd_at_one q l m = omega arith

lower_half : (p x : ℕ) → 0 < p → x < 2 * p → x / p % 2 ≡ 0 → x < p
lower_half p x h l e = let b = below_quotient p x 1 h (even_below (x / p) (quotient_below p x 2 h l) e) in omega arith

upper_half : (p x : ℕ) → 0 < p → p ≤ x → x < 2 * p → x / p % 2 ≡ 1
upper_half p x h m l = odd_at_one (x / p) (quotient_below p x 2 h l) (⊎_elim
    (λ lt. let b = below_quotient p x 1 h lt in absurd (omega arith))
    (λ ge. ge)
    (cases_lt (x / p) 1))

double : (m : ℕ) → 2 ^ (m + 1) ≡ 2 * 2 ^ m
double m = let e = pow-add 2 m 1 in omega (arith, e)

-- of a set with the last city the complement is without it
pub others_lower : (m set : ℕ) → 2 ^ m ≤ set → set < 2 ^ (m + 1) → others (m + 1) set < 2 ^ m
others_lower m set h l =
    let d = double m in
    let p = pow_pos m in
    let top : bit_at set m ≡ 1 = upper_half (2 ^ m) set p h (omega arith) in
    let none : bit_at (others (m + 1) set) m ≡ 0 = other_bit (m + 1) set m (omega arith) ∙ ap (λ k. (k + 1) % 2) top in
    let small : others (m + 1) set < 2 ^ (m + 1) = xor_lt (m + 1) set (2 ^ (m + 1) - 1) l (omega arith) in
    lower_half (2 ^ m) (others (m + 1) set) p (omega arith) none

-- where the set is not all cities there are others
pub some_others : (m set : ℕ) → set + 1 < 2 ^ (m + 1) → 0 < others (m + 1) set
some_others m set l = ⊎_elim
    (λ same.
    let all : set ≡ 2 ^ (m + 1) - 1 = same_from_bits set (2 ^ (m + 1) - 1) (λ i. even_case (bit_at set i) (bit_at (2 ^ (m + 1) - 1) i) (bit_at-lt set i) (bit_at-lt (2 ^ (m + 1) - 1) i) (sym (bit_at_xor set (2 ^ (m + 1) - 1) i) ∙ ap (λ k. bit_at k i) same ∙ bit_at-zero i)) in
    absurd (omega arith))
    (λ ne. omega arith)
    (cases_eq (others (m + 1) set) 0)
