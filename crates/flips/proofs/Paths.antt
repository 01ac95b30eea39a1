use Rattle.std.proofs.Common.{◌≡◌, ℕ, ◌+◌, ◌-◌, ◌<◌, ◌≤◌, Bool, true, false, not, cond, List, ◌++◌, length, get_or, take, drop, refl, sym, ◌∙◌, ap, subst, arith, length-drop}
use Rattle.std.proofs.lemmas.List.{get_or-take, length-take-le, length-reverse, get_or-reverse, reverse-reverse}
use Rattle.std.proofs.lemmas.Grind.{common_steps}
use Rattle.std.specs.Prelude.{reverse}
use Rattle.flips.specs.Places.{wrap, turn, read}
use Rattle.flips.proofs.Words.{IsTurn, Flips}
use Rattle.flips.proofs.Turns.{get_turn, length-turn, wrap_is, wrap_low, take_drop, turn_swap, turn_reverse}
use Rattle.flips.proofs.Mirrors.{turn_on}

turned_at : (i : ℕ) (xs ys : List ℕ) → ys ≡ turn i xs → IsTurn xs ys
turned_at i xs ys e = record { front = take i xs; back = drop i xs; whole = sym (take_drop i xs); turned = e }

-- a part of a turned list, with its first and its last city
record Part (n start end count : ℕ) (xs : List ℕ) : Type 0 where
  pub size : length (take count (turn start xs)) ≡ count
  pub first : get_or (take count (turn start xs)) 0 0 ≡ get_or xs start 0
  pub last : get_or (take count (turn start xs)) (count - 1) 0 ≡ get_or xs end 0
  pub before : IsTurn xs (take count (turn start xs) ++ drop count (turn start xs))

part_of : (n start end count : ℕ) (xs : List ℕ) → length xs ≡ n → start < n → 0 < count → count ≤ n → end ≡ wrap n (start + (count - 1)) → Part n start end count xs
part_of n start end count xs e hs some few counted =
    let t = turn start xs in
    let lt = length-turn start xs (omega arith) in
    let a = get_turn n start 0 xs e (omega arith) (omega arith) in
    let b = get_turn n start (count - 1) xs e (omega arith) (omega arith) in
    let w : wrap n (start + 0) ≡ start = wrap_low n (start + 0) (omega arith) ∙ omega arith in
    record {
      size = length-take-le count t (omega arith);
      first = get_or-take count t 0 0 (omega arith) ∙ a ∙ ap (λ v. get_or xs v 0) w;
      last = get_or-take count t (count - 1) 0 (omega arith) ∙ b ∙ ap (λ v. get_or xs v 0) (sym counted);
      before = turned_at start xs (take count t ++ drop count t) (take_drop count t);
    }

-- what turning a part of the list round does to the cycle, whichever way it is read
flips_from : (xs ys zs p q : List ℕ) (bw : Bool) (a b : ℕ) → 0 < length p → get_or p 0 0 ≡ a → get_or p (length p - 1) 0 ≡ b → IsTurn xs (p ++ q)
    → IsTurn ys (reverse p ++ q) → zs ≡ read bw ys → Flips (read bw xs) zs (cond bw b a) (cond bw a b)
flips_from xs ys zs p q false a b some f l before after e = record {
  part = p;
  rest = q;
  some = some;
  first = f;
  last = l;
  before = before;
  after = subst (λ v. IsTurn v (reverse p ++ q)) (sym e) after;
}
flips_from xs ys zs p q true a b some f l before after e =
    let n = length-reverse p in
    let g = get_or-reverse p 0 0 some in
    let h = get_or-reverse p (length p - 1) 0 (omega arith) in
    let i : length p - 1 - 0 ≡ length p - 1 = omega arith in
    let j : length p - 1 - (length p - 1) ≡ 0 = omega arith in
    let k : length (reverse p) - 1 ≡ length p - 1 = omega arith in
    record {
      part = reverse p;
      rest = reverse q;
      some = omega arith;
      first = g ∙ ap (λ v. get_or p v 0) i ∙ l;
      last = ap (λ v. get_or (reverse p) v 0) k ∙ h ∙ ap (λ v. get_or p v 0) j ∙ f;
      before = turn_reverse xs p q before;
      after = subst (λ v. IsTurn v (reverse (reverse p) ++ reverse q)) (sym e) (turn_reverse ys (reverse p) q after);
    }

pub flip_short : (n start end count : ℕ) (xs ys : List ℕ) (bw : Bool) → length xs ≡ n → start < n → 0 < count → count ≤ n → end ≡ wrap n (start + (count - 1))
    → turn start ys ≡ reverse (take count (turn start xs)) ++ drop count (turn start xs)
    → Flips (read bw xs) (read bw ys) (cond bw (get_or xs end 0) (get_or xs start 0)) (cond bw (get_or xs start 0) (get_or xs end 0))
flip_short n start end count xs ys bw e hs some few counted w =
    let p = part_of n start end count xs e hs some few counted in
    let s = p.size in
    let k : length (take count (turn start xs)) - 1 ≡ count - 1 = omega arith in
    flips_from xs ys (read bw ys) (take count (turn start xs)) (drop count (turn start xs)) bw (get_or xs start 0) (get_or xs end 0) (omega arith) p.first
    (ap (λ v. get_or (take count (turn start xs)) v 0) k ∙ p.last)
    p.before (turned_at start ys _ (sym w)) refl

take_first : (k : ℕ) (p q : List ℕ) → length p ≡ k → take k (p ++ q) ≡ p
take_first k p q e = grind (arith, common_steps)

drop_first : (k : ℕ) (p q : List ℕ) → length p ≡ k → drop k (p ++ q) ≡ q
drop_first k p q e = grind (arith, common_steps)

read_not : (bw : Bool) (ys : List ℕ) → read (not bw) ys ≡ read bw (reverse ys)
read_not false ys = refl
read_not true ys = sym (reverse-reverse ys)

pub flip_long : (n start end count other : ℕ) (xs ys : List ℕ) (bw : Bool) → length xs ≡ n → start < n → 0 < count → count ≤ n → end ≡ wrap n (start + (count - 1))
    → other ≡ wrap n (end + 1) → turn other ys ≡ reverse (take (n - count) (turn other xs)) ++ drop (n - count) (turn other xs)
    → Flips (read bw xs) (read (not bw) ys) (cond bw (get_or xs end 0) (get_or xs start 0)) (cond bw (get_or xs start 0) (get_or xs end 0))
flip_long n start end count other xs ys bw e hs some few counted there w =
    let p = part_of n start end count xs e hs some few counted in
    let t = turn start xs in
    let front = take count t in
    let back = drop count t in
    let s = p.size in
    let lt = length-turn start xs (omega arith) in
    let lb : length back ≡ n - count = omega (arith, length-drop count t) in
    let k : length front - 1 ≡ count - 1 = omega arith in
    let o : other ≡ wrap n (start + count) = there ∙ ap (λ v. wrap n (v + 1)) counted ∙ (grind (arith, wrap_is)) in
    let tt : turn other xs ≡ back ++ front = ap (λ v. turn v xs) o ∙ turn_on n start count xs e hs few in
    let ww : turn other ys ≡ reverse back ++ front =
    w ∙ ap (λ v. reverse (take (n - count) v) ++ drop (n - count) v) tt
    ∙ ap (λ v. reverse v ++ drop (n - count) (back ++ front)) (take_first (n - count) back front lb)
    ∙ ap (λ v. reverse back ++ v) (drop_first (n - count) back front lb) in
    let after : IsTurn (reverse ys) (reverse front ++ back) =
    subst (λ v. IsTurn (reverse ys) (reverse front ++ v)) (reverse-reverse back) (turn_swap (reverse ys) (reverse (reverse back)) (reverse front) (turn_reverse ys (reverse back) front (turned_at other ys _ (sym ww)))) in
    flips_from xs (reverse ys) (read (not bw) ys) front back bw (get_or xs start 0) (get_or xs end 0) (omega arith) p.first
    (ap (λ v. get_or front v 0) k ∙ p.last)
    p.before after (read_not bw ys)
