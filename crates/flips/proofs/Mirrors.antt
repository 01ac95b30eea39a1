use Rattle.std.proofs.Common.{◌≡◌, ℕ, ◌+◌, ◌-◌, ◌<◌, ◌≤◌, List, ◌++◌, length, get_or, take, drop, refl, sym, ◌∙◌, ap, arith, ⊎_elim, length-append, length-drop}
use Rattle.std.proofs.lemmas.List.{ext_get_or, get_or-take, get_or-drop, get_or_append_left, get_or-append_right, length-take-le, length-reverse, get_or-reverse}
use Rattle.std.proofs.lemmas.Bool.{cases_lt, cases_eq}
use Rattle.std.proofs.Math.ListN.{set, length-set}
use Rattle.std.specs.Prelude.{reverse}
use Rattle.flips.specs.Places.{wrap, turn}
use Rattle.flips.proofs.Swaps.{twice_second, twice_first, twice_other}
use Rattle.flips.proofs.Turns.{get_turn, length-turn, wrap_same, wrap_in, wrap_wrap, wrap_is}

-- of the count places from start on, the outer s at each end have been exchanged
pub record Mirrored (n start count s : ℕ) (old new : List ℕ) : Type 0 where
  pub size : length new ≡ n
  pub low : (k j : ℕ) → k + j + 1 ≡ count → k < s → get_or new (wrap n (start + k)) 0 ≡ get_or old (wrap n (start + j)) 0
  pub high : (k j : ℕ) → k + j + 1 ≡ count → k < s → get_or new (wrap n (start + j)) 0 ≡ get_or old (wrap n (start + k)) 0
  pub mid : (k : ℕ) → s ≤ k → k + s < count → get_or new (wrap n (start + k)) 0 ≡ get_or old (wrap n (start + k)) 0
  pub outer : (k : ℕ) → count ≤ k → k < n → get_or new (wrap n (start + k)) 0 ≡ get_or old (wrap n (start + k)) 0

pub mirrored_none : (n start count : ℕ) (xs : List ℕ) → length xs ≡ n → Mirrored n start count 0 xs xs
mirrored_none n start count xs e = record {
  size = e;
  low = λ k j h l. absurd (omega arith);
  high = λ k j h l. absurd (omega arith);
  mid = λ k h l. refl;
  outer = λ k h l. refl;
}

pub mirrored_more : (n start count s j a b : ℕ) (old new : List ℕ) → start < n → count ≤ n → s + j + 1 ≡ count → s < j
    → a ≡ get_or new (wrap n (start + s)) 0 → b ≡ get_or new (wrap n (start + j)) 0
    → Mirrored n start count s old new → Mirrored n start count (s + 1) old (set (set new (wrap n (start + s)) b) (wrap n (start + j)) a)
mirrored_more n start count s j a b old new hs hc e l ea eb m =
    let is = wrap_in n (start + s) (omega arith) in
    let ij = wrap_in n (start + j) (omega arith) in
    let z = m.size in
    let ea' : a ≡ get_or old (wrap n (start + s)) 0 = ea ∙ m.mid s (omega arith) (omega arith) in
    let eb' : b ≡ get_or old (wrap n (start + j)) 0 = eb ∙ m.mid j (omega arith) (omega arith) in
    let apart = λ (k t : ℕ) (hk : k < n) (ht : t < n) (ne : k ≡ t → ⊥) (q : wrap n (start + k) ≡ wrap n (start + t)). ne (wrap_same n start k t hs hk ht q) in
    let i = wrap n (start + s) in
    let o = wrap n (start + j) in
    let still = λ (k : ℕ) (hk : k < n) (ns : k ≡ s → ⊥) (nj : k ≡ j → ⊥). twice_other new i o (wrap n (start + k)) a b (apart k j hk (omega arith) nj) (apart k s hk (omega arith) ns) in
    record {
      size = omega (arith, length-set (set new i b) o a, length-set new i b);
      low = λ k t h lt. ⊎_elim
          (λ (q : k ≡ s). let r : t ≡ j = omega arith in
          ap (λ v. get_or (set (set new i b) o a) (wrap n (start + v)) 0) q ∙ twice_first new i o i a b (omega arith) (apart s j (omega arith) (omega arith) (λ v. omega arith)) refl ∙ eb' ∙ ap (λ v. get_or old (wrap n (start + v)) 0) (sym r))
          (λ (q : k ≡ s → ⊥). still k (omega arith) q (λ v. omega arith) ∙ m.low k t h (omega arith))
          (cases_eq k s);
      high = λ k t h lt. ⊎_elim
          (λ (q : k ≡ s). let r : t ≡ j = omega arith in
          ap (λ v. get_or (set (set new i b) o a) (wrap n (start + v)) 0) r ∙ twice_second new i o o a b (omega arith) refl ∙ ea' ∙ ap (λ v. get_or old (wrap n (start + v)) 0) (sym q))
          (λ (q : k ≡ s → ⊥). still t (omega arith) (λ v. omega arith) (λ v. q (omega arith)) ∙ m.high k t h (omega arith))
          (cases_eq k s);
      mid = λ k h lt. still k (omega arith) (λ v. omega arith) (λ v. omega arith) ∙ m.mid k (omega arith) (omega arith);
      outer = λ k h lt. still k lt (λ v. omega arith) (λ v. omega arith) ∙ m.outer k h lt;
    }

-- at the end the places have been turned round
pub mirrored_all : (n start count s : ℕ) (old new : List ℕ) → length old ≡ n → start < n → count ≤ n → s + s ≤ count → count ≤ s + s + 1 → Mirrored n start count s old new
    → turn start new ≡ reverse (take count (turn start old)) ++ drop count (turn start old)
mirrored_all n start count s old new e hs hc lo hi m =
    let t = turn start old in
    let lt = length-turn start old (omega arith) in
    let ln = let z = m.size in length-turn start new (omega arith) in
    let tk = length-take-le count t (omega arith) in
    let rv = length-reverse (take count t) in
    let dp = length-drop count t in
    let z = m.size in
    ext_get_or 0 (turn start new) (reverse (take count t) ++ drop count t)
    (omega (arith, length-append (reverse (take count t)) (drop count t)))
    (λ k l.
    let g = get_turn n start k new z (omega arith) (omega arith) in
    ⊎_elim
    (λ (h : k < count).
    let j = count - 1 - k in
    let p = get_or_append_left (reverse (take count t)) (drop count t) 0 k (omega arith) in
    let q = get_or-reverse (take count t) k 0 (omega arith) in
    let ej : length (take count t) - 1 - k ≡ j = omega arith in
    let r = get_or-take count t j 0 (omega arith) in
    let w = get_turn n start j old e (omega arith) (omega arith) in
    let body : get_or new (wrap n (start + k)) 0 ≡ get_or old (wrap n (start + j)) 0 =
    ⊎_elim
    (λ (a : k < s). m.low k j (omega arith) a)
    (λ (a : s ≤ k). ⊎_elim
    (λ (b : j < s). m.high j k (omega arith) b)
    (λ (b : s ≤ j). let same : k ≡ j = omega arith in m.mid k a (omega arith) ∙ ap (λ v. get_or old (wrap n (start + v)) 0) same)
    (cases_lt j s))
    (cases_lt k s) in
    g ∙ body ∙ sym w ∙ sym r ∙ ap (λ v. get_or (take count t) v 0) (sym ej) ∙ sym q ∙ sym p)
    (λ (h : count ≤ k).
    let p = get_or-append_right (reverse (take count t)) (drop count t) count k 0 (omega arith) h in
    let q = get_or-drop count t (k - count) 0 in
    let ek : count + (k - count) ≡ k = omega arith in
    let w = get_turn n start k old e (omega arith) (omega arith) in
    g ∙ m.outer k h (omega arith) ∙ sym w ∙ ap (λ v. get_or t v 0) (sym ek) ∙ sym q ∙ sym p)
    (cases_lt k count))

-- to begin further on moves what was read before to the end
pub turn_on : (n start count : ℕ) (xs : List ℕ) → length xs ≡ n → start < n → count ≤ n → turn (wrap n (start + count)) xs ≡ drop count (turn start xs) ++ take count (turn start xs)
turn_on n start count xs e hs hc =
    let t = turn start xs in
    let i = wrap n (start + count) in
    let hi = wrap_in n (start + count) (omega arith) in
    let lt = length-turn start xs (omega arith) in
    let li = length-turn i xs (omega arith) in
    let tk = length-take-le count t (omega arith) in
    let dp = length-drop count t in
    ext_get_or 0 (turn i xs) (drop count t ++ take count t)
    (omega (arith, length-append (drop count t) (take count t)))
    (λ k l.
    let g = get_turn n i k xs e (omega arith) (omega arith) in
    ⊎_elim
    (λ (h : k < n - count).
    let p = get_or_append_left (drop count t) (take count t) 0 k (omega arith) in
    let q = get_or-drop count t k 0 in
    let w = get_turn n start (count + k) xs e (omega arith) (omega arith) in
    let s = wrap_wrap n start count k hs hc (omega arith) (omega arith) in
    g ∙ ap (λ v. get_or xs v 0) s ∙ sym w ∙ sym q ∙ sym p)
    (λ (h : n - count ≤ k).
    let j = k - (n - count) in
    let p = get_or-append_right (drop count t) (take count t) (n - count) k 0 (omega arith) h in
    let q = get_or-take count t j 0 (omega arith) in
    let w = get_turn n start j xs e (omega arith) (omega arith) in
    let s : wrap n (wrap n (start + count) + k) ≡ wrap n (start + j) = grind (arith, wrap_is) in
    g ∙ ap (λ v. get_or xs v 0) s ∙ sym w ∙ sym q ∙ sym p)
    (cases_lt k (n - count)))
