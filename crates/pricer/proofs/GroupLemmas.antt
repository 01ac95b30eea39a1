-- Cuts taken group by group.
use Rattle.std.proofs.Common.{◌≡◌, ℕ, ◌+◌, ◌-◌, ◌^◌, ◌≤◌, List, [], ◌∷◌, length, take, drop, sym, ap, ◌∙◌, arith, zero, suc, refl, subst, Bool, false, ◌++◌, Some, ◌*◌}
use Rattle.std.specs.Prelude.{ℤ, pos, ◌+ℤ◌, Option}
use Rattle.std.specs.List.{AllByRecursion}
use Rattle.std.proofs.lemmas.Int.{ints}
use Rattle.std.proofs.Math.Seq.{take-append_seam}
use Rattle.tspdef.specs.Cuts.{Cut}
use Rattle.tspdef.specs.Bounds.{cut_rows}
use Rattle.pricer.specs.Sizes.{IsWithin}
use Rattle.pricer.specs.Groups.{AreGrouped}
use Rattle.pricer.specs.Marks.{is_marked}
use Rattle.pricer.specs.Prices.{held}
use Rattle.pricer.specs.Weights.{weight}
use Rattle.pricer.proofs.SizeLemmas.{within_more}
use Rattle.pricer.proofs.WeightLemmas.{held_weight}

-- what is true of each is true of each of the first, and of each of the others
pub each_of_first : {X : Type 0} (P : X → Type 0) (s : ℕ) (xs : List X) → AllByRecursion P xs → AllByRecursion P (take s xs)
each_of_first P zero xs a = tt
each_of_first P (suc s) [] a = tt
each_of_first P (suc s) (x ∷ xs) a = (a.0, each_of_first P s xs a.1)

pub each_of_others : {X : Type 0} (P : X → Type 0) (s : ℕ) (xs : List X) → AllByRecursion P xs → AllByRecursion P (drop s xs)
each_of_others P zero xs a = a
each_of_others P (suc s) [] a = tt
each_of_others P (suc s) (x ∷ xs) a = each_of_others P s xs a.1

-- the first weigh what they do, and so do the others
pub weight_parted : (s : ℕ) (qs : List (Cut × ℕ)) → weight (take s qs) + weight (drop s qs) ≡ weight qs
weight_parted zero qs = omega arith
weight_parted (suc s) [] = omega arith
weight_parted (suc s) (q ∷ qs) = let ih = weight_parted s qs in omega arith

pub held_parted : (s : ℕ) (qs : List (Cut × ℕ)) (h : Option ℕ) (c : ℕ)
    → held h (cut_rows (take s qs)) c +ℤ held h (cut_rows (drop s qs)) c ≡ held h (cut_rows qs) c
held_parted zero qs h c = omega (arith, ints)
held_parted (suc s) [] h c = omega (arith, ints)
held_parted (suc s) (q ∷ qs) h c = let ih = held_parted s qs h c in omega (arith, ints)

weigh_parts : (s : ℕ) (qs group more : List (Cut × ℕ)) → group ≡ take s qs → more ≡ drop s qs → weight group + weight more ≡ weight qs
weigh_parts s qs group more g m =
    let both = weight_parted s qs in
    let a = ap weight g in
    let b = ap weight m in
    omega arith

pub group_light : (whole s : ℕ) (qs group more : List (Cut × ℕ)) → group ≡ take s qs → more ≡ drop s qs → weight qs ≤ whole → (weight group ≤ whole) × (weight more ≤ whole)
group_light whole s qs group more g m less = let both = weigh_parts s qs group more g m in (omega arith, omega arith)

-- a number while groups are being laid
pub size_next : (whole s : ℕ) (x y : ℤ) (qs group more : List (Cut × ℕ)) (h : Option ℕ) (c : ℕ) → group ≡ take s qs → more ≡ drop s qs → weight qs ≤ whole
    → IsWithin (2 ^ 46 + (whole - weight qs)) x → y ≡ x +ℤ held h (cut_rows group) c → IsWithin (2 ^ 46 + (whole - weight more)) y
size_next whole s x y qs group more h c g m less size e =
    let both = weigh_parts s qs group more g m in
    let one = held_weight group h c in
    let low = size.low in
    let high = size.high in
    record { low = omega (arith, ints); high = omega (arith, ints) }

pub size_enough : (whole left : ℕ) (x : ℤ) → whole ≤ 2 ^ 46 → IsWithin (2 ^ 46 + (whole - left)) x → IsWithin (2 ^ 47) x
size_enough whole left x l size = within_more _ (2 ^ 47) x (omega arith) size

pub laid_next : (x y t : ℤ) (s : ℕ) (qs group more : List (Cut × ℕ)) (h : Option ℕ) (c : ℕ) → group ≡ take s qs → more ≡ drop s qs
    → x +ℤ held h (cut_rows qs) c ≡ t → y ≡ x +ℤ held h (cut_rows group) c → y +ℤ held h (cut_rows more) c ≡ t
laid_next x y t s qs group more h c g m so_far one =
    let first = ap (λ (rs : List (Cut × ℕ)). held h (cut_rows rs) c) g in
    let others = ap (λ (rs : List (Cut × ℕ)). held h (cut_rows rs) c) m in
    let both = held_parted s qs h c in
    omega (arith, ints)

-- marks for one group more
taken : (n : ℕ) (own others : List Bool) → length own ≡ n → take n (own ++ others) ≡ own
taken n own others l = ap (λ j. take j (own ++ others)) (sym l) ∙ take-append_seam own others

behind : (own others : List Bool) → drop (length own) (own ++ others) ≡ others
behind [] others = refl
behind (b ∷ bs) others = behind bs others

dropped : (n : ℕ) (own others : List Bool) → length own ≡ n → drop n (own ++ others) ≡ others
dropped n own others l = ap (λ j. drop j (own ++ others)) (sym l) ∙ behind own others

pub grouped_next : (n size k count : ℕ) (own others : List Bool) (qs group more : List (Cut × ℕ)) → count ≡ suc k → length own ≡ n → group ≡ take size qs → more ≡ drop size qs
    → ((v : ℕ) → is_marked own v ≡ false → (c : ℕ) → held (Some v) (cut_rows group) c ≡ pos 0) → AreGrouped n size k others more → AreGrouped n size count (own ++ others) qs
grouped_next n size k count own others qs group more e l g m a b =
    let rest : AreGrouped n size k others (drop size qs) = subst (λ (rs : List (Cut × ℕ)). AreGrouped n size k others rs) m b in
    let last : AreGrouped n size k (drop n (own ++ others)) (drop size qs) = subst (λ (ms : List Bool). AreGrouped n size k ms (drop size qs)) (sym (dropped n own others l)) rest in
    let first : (v : ℕ) → is_marked (take n (own ++ others)) v ≡ false → (c : ℕ) → held (Some v) (cut_rows (take size qs)) c ≡ pos 0
    = λ v h c. subst (λ (rs : List (Cut × ℕ)). held (Some v) (cut_rows rs) c ≡ pos 0) g (a v (subst (λ (ms : List Bool). is_marked ms v ≡ false) (taken n own others l) h) c) in
    subst (λ j. AreGrouped n size j (own ++ others) qs) (sym e) (first, last)

pub no_groups : (n size count : ℕ) (marks : List Bool) (qs : List (Cut × ℕ)) → count ≡ 0 → AreGrouped n size count marks qs
no_groups n size count marks qs e = subst (λ j. AreGrouped n size j marks qs) (sym e) tt

-- the first group's marks, and the others'
pub first_marks : (n size k count : ℕ) (marks own : List Bool) (qs group : List (Cut × ℕ)) → count ≡ suc k → own ≡ take n marks → group ≡ take size qs → AreGrouped n size count marks qs
    → (v : ℕ) → is_marked own v ≡ false → (c : ℕ) → held (Some v) (cut_rows group) c ≡ pos 0
first_marks n size k count marks own qs group e o g are v h c =
    let both : AreGrouped n size (suc k) marks qs = subst (λ j. AreGrouped n size j marks qs) e are in
    subst (λ (rs : List (Cut × ℕ)). held (Some v) (cut_rows rs) c ≡ pos 0) (sym g) (both.0 v (subst (λ (ms : List Bool). is_marked ms v ≡ false) o h) c)

pub other_marks : (n size k count : ℕ) (marks others : List Bool) (qs more : List (Cut × ℕ)) → count ≡ suc k → others ≡ drop n marks → more ≡ drop size qs → AreGrouped n size count marks qs
    → AreGrouped n size k others more
other_marks n size k count marks others qs more e o m are =
    let both : AreGrouped n size (suc k) marks qs = subst (λ j. AreGrouped n size j marks qs) e are in
    let rest : AreGrouped n size k others (drop size qs) = subst (λ (ms : List Bool). AreGrouped n size k ms (drop size qs)) (sym o) both.1 in
    subst (λ (rs : List (Cut × ℕ)). AreGrouped n size k others rs) (sym m) rest

-- room for one group, and for the others
pub room_first : (n count k room : ℕ) → count ≡ suc k → n * count ≤ room → n ≤ room
room_first n count k room e l = let most : n * suc k ≤ room = subst (λ j. n * j ≤ room) e l in omega arith

pub room_others : (n count k room left : ℕ) → count ≡ suc k → n * count ≤ room → left + n ≡ room → n * k ≤ left
room_others n count k room left e l s = let most : n * suc k ≤ room = subst (λ j. n * j ≤ room) e l in omega arith
