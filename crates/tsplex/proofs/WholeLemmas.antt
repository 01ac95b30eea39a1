use Rattle.std.proofs.Common.{◌≡◌, ◌≢◌, ℕ, zero, suc, ◌+◌, ◌-◌, ◌*◌, ◌/◌, ◌%◌, ◌^◌, ◌<◌, ◌≤◌, inl, inr, Bool, true, false, leb, refl, sym, ap, ◌∙◌, arith, Ok, Err, pos}
use Rattle.std.proofs.Math.Nat.{zero-mul, mul-mod_left, mul-div_cancel}
use Rattle.std.proofs.lemmas.Nat.{pow-add, div-add-mod'}
use Rattle.std.proofs.lemmas.Bool.Decides.{nat_tests}
use Rattle.tsplex.specs.declared.number.NumberFault.TheVariants.{Fractional, OutOfRange}
use Rattle.tsplex.specs.Number.{Number, whole_number, sized, signed_size}
use Rattle.tsplex.specs.Digits.{Keeps, CapsPower}
use Rattle.tsplex.proofs.KeptLemmas.{ten_pow, ten_pos, ten_more}

-- value = size * unit, so it is whole
pub whole_size : (most : ℕ) (x : Number) (size : ℕ) → x.digits * 10 ^ x.up ≡ size * 10 ^ x.down → whole_number most x ≡ sized x.negative most size
unfolding whole_number
whole_size most x size e =
    let unit : ℕ = 10 ^ x.down in
    let m : (x.digits * 10 ^ x.up) % 10 ^ x.down ≡ 0 = rw e (mul-mod_left size (10 ^ x.down)) in
    let q : x.digits * 10 ^ x.up / 10 ^ x.down ≡ size = rw e (mul-div_cancel size (ten_pos x.down)) in
    rw (m, q) refl

not_whole : (most : ℕ) (x : Number) → (x.digits * 10 ^ x.up) % 10 ^ x.down ≢ 0 → whole_number most x ≡ Err Fractional
unfolding whole_number
not_whole most x h = grind (arith, nat_tests)

four : (f a q k p : ℕ) → q * (k * (p * 10)) ≡ q * k * 10 * p
four f a q k p = omega arith

three : (f a b : ℕ) → f * a * b ≡ f * (a * b)
three f a b = omega arith

cancel : (a b p : ℕ) → 1 ≤ p → a * p ≡ b * p → a ≡ b
cancel a b p h e = sym (mul-div_cancel a h) ∙ ap (λ n. n / p) e ∙ mul-div_cancel b h

ends_in_zero : (m : ℕ) → m * 10 % 10 ≡ 0
ends_in_zero m = mul-mod_left m 10

-- a front that does not end in 0, over a greater power of ten, is not whole
fraction_left : (f s w : ℕ) → f % 10 ≢ 0 → s < w → (f * 10 ^ s) % 10 ^ w ≢ 0
fraction_left f s w last l e =
    let k : ℕ = w - s - 1 in
    let unit : 10 ^ w ≡ 10 ^ k * (10 ^ s * 10) =
    let a : w ≡ k + (s + 1) = omega arith in
    ap (λ n. 10 ^ n) a ∙ pow-add 10 k (s + 1) ∙ ap (λ n. 10 ^ k * n) (ten_more s)
    in
    let q : ℕ = f * 10 ^ s / 10 ^ w in
    let all : q * 10 ^ w ≡ f * 10 ^ s = omega (arith, div-add-mod' (f * 10 ^ s) (10 ^ w), e) in
    let same : f * 10 ^ s ≡ q * 10 ^ k * 10 * 10 ^ s = sym all ∙ ap (λ n. q * n) unit ∙ four f f q (10 ^ k) (10 ^ s) in
    let shape : f ≡ q * 10 ^ k * 10 = cancel f (q * 10 ^ k * 10) (10 ^ s) (ten_pos s) same in
    last (ap (λ n. n % 10) shape ∙ ends_in_zero (q * 10 ^ k))

grouped : (f z u v : ℕ) → v ≡ f * 10 ^ z → v * 10 ^ u ≡ f * 10 ^ (z + u)
grouped f z u v e = ap (λ n. n * 10 ^ u) e ∙ three f (10 ^ z) (10 ^ u) ∙ ap (λ n. f * n) (sym (pow-add 10 z u))

lowered : (f s w : ℕ) → w ≤ s → f * 10 ^ s ≡ f * 10 ^ (s - w) * 10 ^ w
lowered f s w l =
    let e : s ≡ (s - w) + w = omega arith in
    ap (λ n. f * 10 ^ n) e ∙ ap (λ n. f * n) (pow-add 10 (s - w) w) ∙ sym (three f (10 ^ (s - w)) (10 ^ w))

nothing : (b : Bool) → signed_size b 0 ≡ pos 0
nothing true = refl
nothing false = refl

most_fits : (b : Bool) (most : ℕ) → sized b most 0 ≡ Ok (signed_size b 0)
most_fits b most = let e : leb 0 most ≡ true = grind (arith, nat_tests) in rw e refl

pub judged_nothing : (most front zeros : ℕ) (x : Number) → Keeps front zeros x.digits → front ≡ 0 → whole_number most x ≡ Ok (pos 0)
judged_nothing most front zeros x k e =
    let none : k.front ≡ 0 = omega (arith, k.capped) in
    let v : x.digits ≡ 0 = k.value ∙ ap (λ n. n * 10 ^ zeros) none ∙ zero-mul (10 ^ zeros) in
    let t : x.digits * 10 ^ x.up ≡ 0 * 10 ^ x.down = ap (λ n. n * 10 ^ x.up) v ∙ zero-mul (10 ^ x.up) ∙ sym (zero-mul (10 ^ x.down)) in
    whole_size most x 0 t ∙ most_fits x.negative most ∙ ap (λ n. Ok n) (nothing x.negative)

pub judged_fraction : (most front zeros : ℕ) (x : Number) → Keeps front zeros x.digits → 0 < front → zeros + x.up < x.down → whole_number most x ≡ Err Fractional
judged_fraction most front zeros x k some l =
    let there : k.front ≢ 0 = λ z. omega (arith, k.capped) in
    let t = grouped k.front zeros x.up x.digits k.value in
    not_whole most x (λ z. fraction_left k.front (zeros + x.up) x.down (λ y. there (k.last y)) l (ap (λ n. n % 10 ^ x.down) (sym t) ∙ z))

pub judged_whole : (most front zeros : ℕ) (x : Number) (k : Keeps front zeros x.digits) → x.down ≤ zeros + x.up → whole_number most x ≡ sized x.negative most (k.front * 10 ^ (zeros + x.up - x.down))
judged_whole most front zeros x k l = whole_size most x (k.front * 10 ^ (zeros + x.up - x.down)) (grouped k.front zeros x.up x.digits k.value ∙ lowered k.front (zeros + x.up) x.down l)

far_enough : (a p : ℕ) → 0 < a → 2 ^ 32 ≤ p → 2 ^ 32 ≤ a * p
far_enough zero p h l = absurd (omega arith)
far_enough (suc a) p h l = omega arith

too_large : (b : Bool) (most size : ℕ) → most < 2 ^ 32 → 2 ^ 32 ≤ size → sized b most size ≡ Err OutOfRange
too_large b most size h l = let e : leb size most ≡ false = grind (arith, nat_tests) in rw e refl

pub judged_far : (most front zeros : ℕ) (x : Number) → most < 2 ^ 32 → Keeps front zeros x.digits → 0 < front → x.down + 10 ≤ zeros + x.up → whole_number most x ≡ Err OutOfRange
judged_far most front zeros x small k some l =
    let r : ℕ = zeros + x.up - x.down in
    let much : 2 ^ 32 ≤ 10 ^ r = omega (arith, ten_pow 10 r (omega arith)) in
    let there : 0 < k.front = omega (arith, k.capped) in
    judged_whole most front zeros x k (omega arith) ∙ too_large x.negative most (k.front * 10 ^ r) small (far_enough k.front (10 ^ r) there much)

-- caps do not change which of the two sides is greater, nor by how much where that is little
pub capped_below : (z places up down : ℕ) (q : ℕ × ℕ) → CapsPower up down q → z < 2 ^ 63 → places < 2 ^ 63 → z + up < down + places → z + q.0 < q.1 + places
capped_below z places up down q k l m h = elim k.one_way [ inl e ↦ omega (arith, k.up_capped, k.down_capped) | inr e ↦ omega (arith, k.up_capped, k.down_capped) ]

pub capped_far : (z places up down : ℕ) (q : ℕ × ℕ) → CapsPower up down q → z < 2 ^ 63 → places < 2 ^ 63 → down + places + 10 ≤ z + up → q.1 + places + 10 ≤ z + q.0
capped_far z places up down q k l m h = elim k.one_way [ inl e ↦ omega (arith, k.up_capped, k.down_capped) | inr e ↦ omega (arith, k.up_capped, k.down_capped) ]

pub capped_near : (z places up down : ℕ) (q : ℕ × ℕ) → CapsPower up down q → z < 2 ^ 63 → places < 2 ^ 63 → down + places ≤ z + up → z + up < down + places + 10 → (q.0 ≡ up) × (q.1 ≡ down)
capped_near z places up down q k l m h g = elim k.one_way [ inl e ↦ (omega (arith, k.up_capped, k.down_capped), omega (arith, k.up_capped, k.down_capped)) | inr e ↦ (omega (arith, k.up_capped, k.down_capped), omega (arith, k.up_capped, k.down_capped)) ]
