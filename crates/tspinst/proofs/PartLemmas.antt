-- Parts that pairs join, and their names.
use Rattle.std.proofs.Common.{◌≡◌, ◌≢◌, ◌↔◌, ℕ, zero, suc, ◌+◌, ◌<◌, ◌≤◌, ◌⊎◌, inl, inr, Bool, true, false, not, cond, ◌==◌, ◌||◌, ◌&&◌, List, [], ◌∷◌, length, map, IsTrue, refl, sym, ◌∙◌, ap, arith}
use Rattle.std.specs.List.{AllByRecursion}
use Rattle.std.proofs.lemmas.Bool.{false≢true, ne_eqb}
use Rattle.std.proofs.lemmas.Bool.Decides.{eqb_tells, nat_tests}
use Rattle.tspdef.specs.Fixed.{NoneLeaves}
use Rattle.tspinst.specs.Fixings.{with_pair, part_of, are_joined, leaves_out, AreJoined, CyclesAreTold, sum_to, pairs_in, name_at, renamed, ArePartNames, IsForest, IsOnePart}
use Rattle.tspinst.proofs.TableLemmas.{same_eqb}
use Rattle.tspinst.proofs.PairLemmas.{all_with, all_without, pairs_in_with}
use Rattle.tspinst.proofs.SumLemmas.{sum_same, sum_plus, sum_one}

weaken : (P Q : ℕ × ℕ → Type 0) (ps : List (ℕ × ℕ)) → ((p : ℕ × ℕ) → P p → Q p) → AllByRecursion P ps → AllByRecursion Q ps
weaken P Q [] f all = tt
weaken P Q (p ∷ ps) f all = (f p all.0, weaken P Q ps f all.1)

both_all : (P Q : ℕ × ℕ → Type 0) (ps : List (ℕ × ℕ)) → AllByRecursion P ps → AllByRecursion Q ps → AllByRecursion (λ p. P p × Q p) ps
both_all P Q [] a b = tt
both_all P Q (p ∷ ps) a b = ((a.0, b.0), both_all P Q ps a.1 b.1)

same_number : (x y : ℕ) → (x == y) ≡ true → x ≡ y
same_number x y e = grind (arith, nat_tests)

either_way : (b : Bool) (x : ℕ) → cond b x x ≡ x
either_way true x = refl
either_way false x = refl

-- ---- parts

part_next : (q : ℕ × ℕ) (qs : List (ℕ × ℕ)) (p : ℕ × ℕ) → part_of qs p.0 ≡ part_of qs p.1 → part_of (q ∷ qs) p.0 ≡ part_of (q ∷ qs) p.1
unfolding part_of
part_next q qs p e = rw e refl

part_first : (q : ℕ × ℕ) (qs : List (ℕ × ℕ)) → part_of (q ∷ qs) q.0 ≡ part_of (q ∷ qs) q.1
unfolding part_of
part_first q qs = rw (same_eqb (part_of qs q.0)) (sym (either_way (part_of qs q.1 == part_of qs q.0) (part_of qs q.1)))

part_joined : (pairs : List (ℕ × ℕ)) → AllByRecursion (λ p. part_of pairs p.0 ≡ part_of pairs p.1) pairs
part_joined [] = tt
part_joined (q ∷ qs) = (part_first q qs, weaken (λ p. part_of qs p.0 ≡ part_of qs p.1) (λ p. part_of (q ∷ qs) p.0 ≡ part_of (q ∷ qs) p.1) qs (part_next q qs) (part_joined qs))

part_apart : (s : ℕ → Bool) (pairs : List (ℕ × ℕ)) (c : ℕ) → NoneLeaves pairs s → s (part_of pairs c) ≡ s c
unfolding part_of
part_apart s [] c none = refl
part_apart s (q ∷ qs) c none = elim (eqb_tells (part_of qs c) (part_of qs q.0)) [
  | inl at ↦ rw at.0 (part_apart s qs q.1 none.1 ∙ sym none.0 ∙ sym (part_apart s qs q.0 none.1) ∙ ap s (sym at.1) ∙ part_apart s qs c none.1)
  | inr off ↦ rw off.0 (part_apart s qs c none.1)
]

joined_plain : (pairs : List (ℕ × ℕ)) (u v : ℕ) → are_joined pairs u v ≡ true → AreJoined pairs u v
joined_plain pairs u v e = λ s none. sym (part_apart s pairs u none) ∙ ap s (same_number (part_of pairs u) (part_of pairs v) e) ∙ part_apart s pairs v none

turned : (x y : ℕ) → (x == x) ≡ (y == x) → (x == y) ≡ true
turned x y e = rw (same_number y x (sym e ∙ same_eqb x)) (same_eqb x)

joined_told : (pairs : List (ℕ × ℕ)) (u v : ℕ) → AreJoined pairs u v → are_joined pairs u v ≡ true
joined_told pairs u v h =
    turned (part_of pairs u) (part_of pairs v) (h (λ c. part_of pairs c == part_of pairs u)
    (weaken (λ p. part_of pairs p.0 ≡ part_of pairs p.1) (λ p. (part_of pairs p.0 == part_of pairs u) ≡ (part_of pairs p.1 == part_of pairs u)) pairs (λ p e. ap (λ (x : ℕ). x == part_of pairs u) e) (part_joined pairs)))

-- ---- a city left out

either : (a b : Bool) → (a || b) ≡ true → (a ≡ true) ⊎ (b ≡ true)
either true b e = inl refl
either false b e = inr e

negated : (b : Bool) → not b ≡ true → b ≡ false
negated true e = absurd (false≢true e)
negated false e = refl

left_told : (pairs : List (ℕ × ℕ)) (u n : ℕ) → leaves_out pairs u n ≡ true → (c : ℕ) × (c < n) × ¬ AreJoined pairs u c
unfolding leaves_out
left_told pairs u zero e = absurd (false≢true e)
left_told pairs u (suc m) e = elim (either (not (are_joined pairs u m)) (leaves_out pairs u m) e) [
  | inl a ↦ (m, omega arith, λ h. false≢true (sym (negated (are_joined pairs u m) a) ∙ joined_told pairs u m h))
  | inr b ↦ let c = left_told pairs u m b in (c.0, (let l = c.1 in omega arith), c.2)
]

last_true : (a : Bool) → (a || true) ≡ true
last_true true = refl
last_true false = refl

pub leaves_at : (pairs : List (ℕ × ℕ)) (u n c : ℕ) → c < n → are_joined pairs u c ≡ false → leaves_out pairs u n ≡ true
unfolding leaves_out
leaves_at pairs u zero c l e = absurd (omega arith)
leaves_at pairs u (suc m) c l e = elim (eqb_tells c m) [
  | inl at ↦ let x : are_joined pairs u m ≡ false = rw (← at.1) e in rw x refl
  | inr off ↦ rw (leaves_at pairs u m c (let x = off.1 in grind arith) e) (last_true (not (are_joined pairs u m)))
]

unjoined : (b : Bool) → ¬ (b ≡ true) → b ≡ false
unjoined true h = absurd (h refl)
unjoined false h = refl

pub cycles_told : CyclesAreTold
cycles_told = record {
  joined = λ pairs u v. (joined_plain pairs u v, joined_told pairs u v);
  left_out = λ pairs u n. (left_told pairs u n, λ c. leaves_at pairs u n c.0 c.1 (unjoined (are_joined pairs u c.0) (λ e. c.2 (joined_plain pairs u c.0 e))));
}

pub none_left : (pairs : List (ℕ × ℕ)) (u : ℕ) → leaves_out pairs u 0 ≡ false
unfolding leaves_out
none_left pairs u = refl

pub next_joined : (pairs : List (ℕ × ℕ)) (u c : ℕ) → are_joined pairs u c ≡ true → leaves_out pairs u c ≡ false → leaves_out pairs u (c + 1) ≡ false
unfolding leaves_out
next_joined pairs u c e h = let k : c + 1 ≡ suc c = omega arith in rw (k, e, h) refl

pub ruleset leaving = (leaves_at, next_joined, none_left)

all_joined : (pairs : List (ℕ × ℕ)) (u n : ℕ) → leaves_out pairs u n ≡ false → (c : ℕ) → c < n → (b : Bool) → are_joined pairs u c ≡ b → are_joined pairs u c ≡ true
all_joined pairs u n e c l true h = h
all_joined pairs u n e c l false h = absurd (false≢true (sym e ∙ leaves_at pairs u n c l h))

-- ---- names of parts

same_bool : (a b : Bool) → (a ≡ true → b ≡ true) → (b ≡ true → a ≡ true) → a ≡ b
same_bool true true f g = refl
same_bool true false f g = sym (f refl)
same_bool false true f g = g refl
same_bool false false f g = refl

module _ (n : ℕ) (pairs : List (ℕ × ℕ)) (names : List ℕ) (named : ArePartNames n pairs names) where
  name_plain : (u v : ℕ) → u < n → v < n → name_at names u ≡ name_at names v → AreJoined pairs u v
  name_plain u v lu lv e = λ s none. sym (named.apart s none u lu) ∙ ap s e ∙ named.apart s none v lv

  name_told : (u v : ℕ) → AreJoined pairs u v → (name_at names u == name_at names v) ≡ true
  name_told u v h =
      turned (name_at names u) (name_at names v) (h (λ c. name_at names c == name_at names u)
      (weaken (λ p. name_at names p.0 ≡ name_at names p.1) (λ p. (name_at names p.0 == name_at names u) ≡ (name_at names p.1 == name_at names u)) pairs (λ p e. ap (λ (x : ℕ). x == name_at names u) e) named.joined))

  -- names tell which cities pairs join
  pub names_tell : (u v : ℕ) → u < n → v < n → (name_at names u == name_at names v) ≡ are_joined pairs u v
  names_tell u v lu lv = same_bool (name_at names u == name_at names v) (are_joined pairs u v)
      (λ e. joined_told pairs u v (name_plain u v lu lv (same_number _ _ e)))
      (λ e. name_told u v (joined_plain pairs u v e))

  pub one_part : (u : ℕ) → u < n → leaves_out pairs u n ≡ false → IsOnePart n names
  one_part u lu e c d lc ld = sym (to c lc) ∙ to d ld
    where
      to : (c : ℕ) → c < n → name_at names u ≡ name_at names c
      to c l = same_number _ _ (names_tell u c lu l ∙ all_joined pairs u n e c l (are_joined pairs u c) refl)

  -- ---- a pair more

  module _ (u v : ℕ) (lu : u < n) (lv : v < n) (below : AllByRecursion (λ p. (p.0 < p.1) × (p.1 < n)) pairs) (after : List ℕ) (long : length after ≡ length names)
      (name_after : (c : ℕ) → c < n → name_at after c ≡ renamed (name_at names u) (name_at names v) (name_at names c)) where
    abbrev from : ℕ
    from = name_at names u

    abbrev to : ℕ
    to = name_at names v

    below_after : (c : ℕ) → c < n → name_at after c < n
    below_after c l = elim (eqb_tells (name_at names c) from) [
      | inl at ↦ rw (name_after c l, at.0) (named.below v lv)
      | inr off ↦ rw (name_after c l, off.0) (named.below c l)
    ]

    to_after : name_at after to ≡ to
    to_after = name_after to (named.below v lv) ∙ rw (named.own v lv) (either_way (to == from) to)

    own_after : (c : ℕ) → c < n → name_at after (name_at after c) ≡ name_at after c
    own_after c l = elim (eqb_tells (name_at names c) from) [
      | inl at ↦ let e : name_at after c ≡ to = rw (name_after c l, at.0) refl in rw e to_after
      | inr off ↦
          let e : name_at after c ≡ name_at names c = rw (name_after c l, off.0) refl in
          rw e (name_after (name_at names c) (named.below c l) ∙ rw (named.own c l, off.0) refl)
    ]

    joined_after : (p : ℕ × ℕ) → ((p.0 < p.1) × (p.1 < n)) × (name_at names p.0 ≡ name_at names p.1) → name_at after p.0 ≡ name_at after p.1
    joined_after p h = name_after p.0 (let a = h.0.0 in let b = h.0.1 in omega arith) ∙ ap (renamed from to) h.1 ∙ sym (name_after p.1 h.0.1)

    ends_after : name_at after u ≡ name_at after v
    ends_after = name_after u lu ∙ rw (same_eqb from) refl ∙ sym (either_way (to == from) to) ∙ sym (name_after v lv)

    apart_after : (s : ℕ → Bool) → NoneLeaves pairs s → s u ≡ s v → (c : ℕ) → c < n → s (name_at after c) ≡ s c
    apart_after s none e c l = elim (eqb_tells (name_at names c) from) [
      | inl at ↦ rw (name_after c l, at.0) (named.apart s none v lv ∙ sym e ∙ sym (named.apart s none u lu) ∙ ap s (sym at.1) ∙ named.apart s none c l)
      | inr off ↦ rw (name_after c l, off.0) (named.apart s none c l)
    ]

    pub named_with : ArePartNames n (with_pair (u, v) pairs) after
    named_with = record {
      all = long ∙ named.all;
      below = below_after;
      own = own_after;
      joined = all_with (λ p. name_at after p.0 ≡ name_at after p.1) (u, v) pairs ends_after
          (weaken (λ p. ((p.0 < p.1) × (p.1 < n)) × (name_at names p.0 ≡ name_at names p.1)) (λ p. name_at after p.0 ≡ name_at after p.1) pairs joined_after (both_all (λ p. (p.0 < p.1) × (p.1 < n)) (λ p. name_at names p.0 ≡ name_at names p.1) pairs below named.joined));
      apart = λ s none. let h = all_without (λ p. s p.0 ≡ s p.1) (u, v) pairs none in apart_after s h.1 h.0;
    }

    pub one_with : IsOnePart n names → IsOnePart n after
    one_with one c d lc ld = name_after c lc ∙ ap (renamed from to) (one c d lc ld) ∙ sym (name_after d ld)

    -- the city that a part was named after loses its name, and no other does
    root_after : (s : ℕ → Bool) → from ≢ to → (c : ℕ) → c < n → cond (s c && (name_at names c == c)) 1 0 ≡ cond (from == c) (cond (s from) 1 0) 0 + cond (s c && (name_at after c == c)) 1 0
    root_after s other c l = elim (eqb_tells from c) [
      | inl at ↦
          let own : name_at names c ≡ c = rw (← at.1) (named.own u lu) in
          let gone : name_at after c ≡ to = name_after c l ∙ rw (own, ← at.1, same_eqb from) refl in
          let off : (name_at after c == c) ≡ false = rw (gone, ← at.1) (ne_eqb to from (λ e. other (sym e))) in
          let on : (name_at names c == c) ≡ true = rw own (same_eqb c) in
          rw (at.0, off, on, at.1) (at_root (s c))
      | inr off ↦ rw off.0 (elim (eqb_tells (name_at names c) from) [
        | inl at ↦
            let gone : name_at after c ≡ to = rw (name_after c l, at.0) refl in
            let x : (name_at names c == c) ≡ false = rw at.1 off.0 in
            let y : (name_at after c == c) ≡ false = rw gone (ne_eqb to c (λ e. off.1 (sym (at.1) ∙ rw (← e) (named.own v lv) ∙ e))) in
            rw (x, y) (omega arith)
        | inr at ↦ let same : name_at after c ≡ name_at names c = rw (name_after c l, at.0) refl in rw same (omega arith)
      ])
    ]
      where
        at_root : (b : Bool) → cond (b && true) 1 0 ≡ cond b 1 0 + cond (b && false) 1 0
        at_root true = refl
        at_root false = refl

    pub forest_with : from ≢ to → IsForest n pairs names → IsForest n (with_pair (u, v) pairs) after
    forest_with other forest s none =
        let h = all_without (λ p. s p.0 ≡ s p.1) (u, v) pairs none in
        let count = forest s h.1 in
        let more = pairs_in_with s (u, v) pairs in
        let roots = sum_same n (λ c. cond (s c && (name_at names c == c)) 1 0) (λ c. cond (from == c) (cond (s from) 1 0) 0 + cond (s c && (name_at after c == c)) 1 0) (root_after s other) in
        let split = sum_plus n (λ c. cond (from == c) (cond (s from) 1 0) 0) (λ c. cond (s c && (name_at after c == c)) 1 0) in
        let one = sum_one n from (cond (s from) 1 0) (named.below u lu) in
        let same : ◌≡◌ {A = ℕ} (cond (s from) 1 0) (cond (s u) 1 0) = ap (λ (b : Bool). cond {A = ℕ} b 1 0) (named.apart s h.1 u lu) in
        omega arith
