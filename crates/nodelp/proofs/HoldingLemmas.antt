-- What the rows take off a pair's cost, by what they count at cities and at sets that have both.
use Rattle.std.proofs.Common.{◌≡◌, ◌≢◌, ℕ, suc, ◌+◌, ◌*◌, ◌<◌, ◌≤◌, ◌^◌, Bool, true, false, cond, not, ◌&&◌, List, [], ◌∷◌, ◌++◌, length, get_or, drop, ℤ, pos, negsuc, ◌+ℤ◌, ◌*ℤ◌, ◌-ℤ◌, sym, ap, subst, refl, ◌∙◌, arith, ⊎_elim}
use Rattle.std.specs.Int.{int_max}
use Rattle.std.proofs.lemmas.Int.{ints, clamps}
use Rattle.std.proofs.Math.IntN.{pos-*ℤ-pos, negsuc-*ℤ-pos}
use Rattle.std.proofs.lemmas.Bool.{cases_lt}
use Rattle.std.proofs.lemmas.Bool.Decides.{nat_tests}
use Rattle.std.proofs.lemmas.List.{drop_more, length-append, get_or_append_left}
use Rattle.std.proofs.lemmas.List.Elements.{All-push}
use Rattle.std.proofs.Math.Seq.{get_or-append_seam}
use Rattle.tspdef.specs.Sets.{has}
use Rattle.tspdef.specs.Cuts.{coefficient}
use Rattle.lpcheck.specs.Sizes.{IsWithin}
use Rattle.lpcheck.specs.Rows.{cities_of_each, signed, price}
use Rattle.lpcheck.specs.declared.row.Sense.{Sense}
use Rattle.lpcheck.specs.declared.row.Sense.TheVariants.{Eq, AtLeast, AtMost}
use Rattle.lpcheck.specs.declared.row.Row.{Row}
use Rattle.nodelp.specs.Potentials.{is_single, holders, weight, potential}
use Rattle.nodelp.specs.Holding.{shared, is_joined, holding, excess, sharing, first_sharing, sharing_at, AreHoldings, AreJoining}
use Rattle.nodelp.proofs.PriceLemmas.{known}

-- ---- one more row

pub excess_more : (rows : List Row) (ys : List ℤ) (i : ℕ) (r : Row) (y : ℤ) (v : ℕ) → r ≡ get_or rows i r → i < length rows → i < length ys
    → excess (drop i rows) (drop i ys) v ≡ (weight r (get_or ys i y) -ℤ signed r.sense (get_or ys i y)) *ℤ pos (holders (cities_of_each r.sets.items) v) +ℤ excess (drop (i + 1) rows) (drop (i + 1) ys) v
excess_more rows ys i r y v is in_rows in_ys =
    ap (λ (rs : List Row). excess rs (drop i ys) v) (known rows i r is in_rows)
    ∙ ap (λ (zs : List ℤ). excess (r ∷ drop (i + 1) rows) zs v) (drop_more ys i y in_ys)

pub first_is : (rows : List Row) (ys : List ℤ) (i : ℕ) (r : Row) (y : ℤ) (u v : ℕ) → r ≡ get_or rows i r → i < length rows → i < length ys
    → first_sharing (drop i rows) (drop i ys) u v ≡ signed r.sense (get_or ys i y) *ℤ pos (shared (cities_of_each r.sets.items) u v)
first_is rows ys i r y u v is in_rows in_ys =
    ap (λ (rs : List Row). first_sharing rs (drop i ys) u v) (known rows i r is in_rows)
    ∙ ap (λ (zs : List ℤ). first_sharing (r ∷ drop (i + 1) rows) zs u v) (drop_more ys i y in_ys)

sharing_more : (rows : List Row) (ys : List ℤ) (i : ℕ) (r : Row) (y : ℤ) (u v : ℕ) → r ≡ get_or rows i r → i < length rows → i < length ys
    → sharing (drop i rows) (drop i ys) u v ≡ signed r.sense (get_or ys i y) *ℤ pos (shared (cities_of_each r.sets.items) u v) +ℤ sharing (drop (i + 1) rows) (drop (i + 1) ys) u v
sharing_more rows ys i r y u v is in_rows in_ys =
    ap (λ (rs : List Row). sharing rs (drop i ys) u v) (known rows i r is in_rows)
    ∙ ap (λ (zs : List ℤ). sharing (r ∷ drop (i + 1) rows) zs u v) (drop_more ys i y in_ys)

-- ---- rows that join a city to no other

shared_none : (ss : List (List ℕ)) (u v : ℕ) → u ≢ v → is_joined ss v ≡ false → shared ss u v ≡ 0
shared_none [] u v apart free = refl
shared_none ([] ∷ ss) u v apart free = let rest = shared_none ss u v apart free in omega (arith, rest)
shared_none ((a ∷ []) ∷ ss) u v apart free = let rest = shared_none ss u v apart free in grind (arith, nat_tests, rest)
shared_none ((a ∷ b ∷ cs) ∷ ss) u v apart free = let rest = shared_none ss u v apart in grind (arith, rest)

pub zero_times : (k : ℕ) → pos 0 *ℤ pos k ≡ pos 0
zero_times k = let h = pos-*ℤ-pos 0 k in omega (arith, ints)

nothing : (sense : Sense) (k : ℕ) → signed sense (pos 0) *ℤ pos k ≡ pos 0
nothing Eq k = zero_times k
nothing AtLeast k = zero_times k
nothing AtMost k = zero_times k

no_times : (z : ℤ) → z *ℤ pos 0 ≡ pos 0
no_times (pos a) = pos-*ℤ-pos a 0 ∙ ap pos (omega arith)
no_times (negsuc a) = let h = negsuc-*ℤ-pos a 0 in omega (arith, ints)

pub dual_of_none : (r : Row) (y : ℤ) (v : ℕ) → y ≡ pos 0 → (u : ℕ) → u ≢ v → signed r.sense y *ℤ pos (shared (cities_of_each r.sets.items) u v) ≡ pos 0
dual_of_none r y v none u apart = subst (λ z. signed r.sense z *ℤ pos (shared (cities_of_each r.sets.items) u v) ≡ pos 0) (sym none) (nothing r.sense (shared (cities_of_each r.sets.items) u v))

pub joined_by_none : (r : Row) (y : ℤ) (v : ℕ) → is_joined (cities_of_each r.sets.items) v ≡ false → (u : ℕ) → u ≢ v → signed r.sense y *ℤ pos (shared (cities_of_each r.sets.items) u v) ≡ pos 0
joined_by_none r y v free u apart = ap (λ k. signed r.sense y *ℤ pos k) (shared_none (cities_of_each r.sets.items) u v apart free) ∙ no_times (signed r.sense y)

-- ---- the places of the rows that suffice

pub sharing_at_more : (rows : List Row) (ys : List ℤ) (ks : List ℕ) (i d u v : ℕ) → i < length ks
    → sharing_at rows ys (drop i ks) u v ≡ first_sharing (drop (get_or ks i d) rows) (drop (get_or ks i d) ys) u v +ℤ sharing_at rows ys (drop (i + 1) ks) u v
sharing_at_more rows ys ks i d u v inside = ap (λ (zs : List ℕ). sharing_at rows ys zs u v) (drop_more ks i d inside)

sharing_at_push : (rows : List Row) (ys : List ℤ) (ks : List ℕ) (k u v : ℕ)
    → sharing_at rows ys (ks ++ k ∷ []) u v ≡ sharing_at rows ys ks u v +ℤ first_sharing (drop k rows) (drop k ys) u v
sharing_at_push rows ys [] k u v = omega (arith, ints)
sharing_at_push rows ys (j ∷ ks) k u v = let rest = sharing_at_push rows ys ks k u v in omega (arith, ints, rest)

-- the places among the first rows, beside the rest
abbrev pub IsSoFar : List Row → List ℤ → ℕ → List ℕ → ℕ → Type 0
IsSoFar rows ys v ks i = (u : ℕ) → u ≢ v → sharing_at rows ys ks u v +ℤ sharing (drop i rows) (drop i ys) u v ≡ sharing rows ys u v

pub so_far_with : (rows : List Row) (ys : List ℤ) (v : ℕ) (ks new : List ℕ) (i : ℕ) (r : Row) (y : ℤ) → r ≡ get_or rows i r → i < length rows → i < length ys
    → IsSoFar rows ys v ks i → new ≡ ks ++ i ∷ [] → IsSoFar rows ys v new (i + 1)
so_far_with rows ys v ks new i r y is in_rows in_ys so_far items u apart =
    let before = so_far u apart in
    let step = sharing_more rows ys i r y u v is in_rows in_ys in
    let one = first_is rows ys i r y u v is in_rows in_ys in
    let push = ap (λ (zs : List ℕ). sharing_at rows ys zs u v) items ∙ sharing_at_push rows ys ks i u v in
    omega (arith, ints, before, step, one, push)

pub so_far_without : (rows : List Row) (ys : List ℤ) (v : ℕ) (ks : List ℕ) (i : ℕ) (r : Row) (y : ℤ) → r ≡ get_or rows i r → i < length rows → i < length ys
    → ((u : ℕ) → u ≢ v → signed r.sense (get_or ys i y) *ℤ pos (shared (cities_of_each r.sets.items) u v) ≡ pos 0)
    → IsSoFar rows ys v ks i → IsSoFar rows ys v ks (i + 1)
so_far_without rows ys v ks i r y is in_rows in_ys none so_far u apart =
    let before = so_far u apart in
    let step = sharing_more rows ys i r y u v is in_rows in_ys in
    let no = none u apart in
    omega (arith, ints, before, step, no)

-- ---- a price by its parts

parted_once : (a b : Bool) → cond (cond a (not b) b) 1 0 + (cond (a && b) 1 0 + cond (a && b) 1 0) ≡ cond a 1 0 + cond b 1 0
parted_once true true = refl
parted_once true false = refl
parted_once false true = refl
parted_once false false = refl

parted : (ss : List (List ℕ)) (u v : ℕ) → coefficient ss u v + (shared ss u v + shared ss u v) ≡ holders ss u + holders ss v
parted [] u v = refl
parted (s ∷ ss) u v = let h = parted_once (has s u) (has s v) in let m = parted ss u v in omega arith

parted_off : (s : ℤ) (c b h k : ℕ) → c + (b + b) ≡ h + k → s *ℤ pos c +ℤ (s *ℤ pos b +ℤ s *ℤ pos b) ≡ s *ℤ pos h +ℤ s *ℤ pos k
parted_off (pos a) c b h k e =
    let value = pos-*ℤ-pos a c in
    let both = pos-*ℤ-pos a b in
    let first = pos-*ℤ-pos a h in
    let second = pos-*ℤ-pos a k in
    let left : a * (c + (b + b)) ≡ a * c + (a * b + a * b) = omega arith in
    let all : a * (c + (b + b)) ≡ a * h + a * k = ap (λ z. a * z) e ∙ omega arith in
    omega (arith, ints)
parted_off (negsuc a) c b h k e =
    let value = negsuc-*ℤ-pos a c in
    let both = negsuc-*ℤ-pos a b in
    let first = negsuc-*ℤ-pos a h in
    let second = negsuc-*ℤ-pos a k in
    let left : suc a * (c + (b + b)) ≡ suc a * c + (suc a * b + suc a * b) = omega arith in
    let all : suc a * (c + (b + b)) ≡ suc a * h + suc a * k = ap (λ z. suc a * z) e ∙ omega arith in
    omega (arith, ints)

pub price_parts : (rows : List Row) (ys : List ℤ) (u v : ℕ) → price rows ys u v +ℤ (sharing rows ys u v +ℤ sharing rows ys u v) ≡ holding rows ys u +ℤ holding rows ys v
price_parts [] ys u v = refl
price_parts (r ∷ rows) [] u v = refl
price_parts (r ∷ rows) (y ∷ ys) u v =
    let ss = cities_of_each r.sets.items in
    let one = parted_off (signed r.sense y) (coefficient ss u v) (shared ss u v) (holders ss u) (holders ss v) (parted ss u v) in
    let rest = price_parts rows ys u v in
    omega (arith, ints, one, rest)

same_weight : (w s : ℤ) (h : ℕ) → w ≡ s → w *ℤ pos h ≡ s *ℤ pos h +ℤ (w -ℤ s) *ℤ pos h
same_weight w s h same =
    let value = ap (λ z. z *ℤ pos h) same in
    let off : w -ℤ s ≡ pos 0 = omega (arith, ints, same) in
    let no = ap (λ z. z *ℤ pos h) off ∙ zero_times h in
    omega (arith, ints, value, no)

no_weight : (w : ℤ) (a h : ℕ) → w ≡ pos 0 → w *ℤ pos h ≡ negsuc a *ℤ pos h +ℤ (w -ℤ negsuc a) *ℤ pos h
no_weight w a h none =
    let value = ap (λ z. z *ℤ pos h) none ∙ zero_times h in
    let off : w -ℤ negsuc a ≡ pos (suc a) = omega (arith, ints, none) in
    let more = ap (λ z. z *ℤ pos h) off ∙ pos-*ℤ-pos (suc a) h in
    let less = negsuc-*ℤ-pos a h in
    omega (arith, ints, value, more, less)

weight_parts : (single : Bool) (s : ℤ) (h : ℕ) → cond single s (int_max (pos 0) s) *ℤ pos h ≡ s *ℤ pos h +ℤ (cond single s (int_max (pos 0) s) -ℤ s) *ℤ pos h
weight_parts true s h = same_weight s s h refl
weight_parts false (pos a) h = same_weight (int_max (pos 0) (pos a)) (pos a) h (omega (arith, ints, clamps))
weight_parts false (negsuc a) h = no_weight (int_max (pos 0) (negsuc a)) a h (omega (arith, ints, clamps))

pub potential_parts : (rows : List Row) (ys : List ℤ) (v : ℕ) → potential rows ys v ≡ holding rows ys v +ℤ excess rows ys v
potential_parts [] ys v = refl
potential_parts (r ∷ rows) [] v = refl
potential_parts (r ∷ rows) (y ∷ ys) v =
    let one = weight_parts (is_single (cities_of_each r.sets.items)) (signed r.sense y) (holders (cities_of_each r.sets.items) v) in
    let rest = potential_parts rows ys v in
    omega (arith, ints, one, rest)

pub price_of_parts : (n : ℕ) (rows : List Row) (ys hs : List ℤ) (places : List ℕ) (u v : ℕ) → AreHoldings n rows ys hs → AreJoining rows ys v places → u < v → v < n
    → (get_or hs u (pos 0) +ℤ get_or hs v (pos 0)) -ℤ (sharing_at rows ys places u v +ℤ sharing_at rows ys places u v) ≡ price rows ys u v
price_of_parts n rows ys hs places u v are joins low high =
    let parts = price_parts rows ys u v in
    let at_u = are.each u (omega (arith, low, high)) in
    let at_v = are.each v high in
    let both = joins.enough u (omega (arith, low)) in
    omega (arith, ints, parts, at_u, at_v, both)

-- ---- one more city

pub holdings_more : (n : ℕ) (rows : List Row) (ys hs new : List ℤ) (y : ℤ) → AreHoldings n rows ys hs → new ≡ hs ++ y ∷ [] → y ≡ holding rows ys n → IsWithin (2 ^ 101) y → AreHoldings (n + 1) rows ys new
holdings_more n rows ys hs new y are is value size =
    let long = are.long in
    let more = length-append hs (y ∷ []) in
    subst (AreHoldings (n + 1) rows ys) (sym is) (record {
      long = omega (arith, long, more);
      each = λ v inside. ⊎_elim
          (λ (l : v < n). get_or_append_left hs (y ∷ []) (pos 0) v (omega (arith, l, long)) ∙ are.each v l)
          (λ (l : n ≤ v).
          let here : v ≡ length hs = omega (arith, l, long, inside) in
          let same : v ≡ n = omega (arith, l, inside) in
          ap (λ (k : ℕ). get_or (hs ++ y ∷ []) k (pos 0)) here ∙ (get_or-append_seam hs y [] (pos 0) ∙ (value ∙ ap (λ (k : ℕ). holding rows ys k) (sym same))))
          (cases_lt v n);
      size = All-push (IsWithin (2 ^ 101)) hs y are.size size;
    })
