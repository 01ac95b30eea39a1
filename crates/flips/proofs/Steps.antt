use Rattle.std.proofs.Common.{◌≡◌, ℕ, ◌+◌, ◌-◌, ◌<◌, ◌≤◌, Bool, true, false, List, ◌++◌, length, get_or, take, drop, refl, sym, ◌∙◌, ap, subst, arith, ⊎_elim, length-append}
use Rattle.std.proofs.lemmas.List.{get_or_append_left, get_or-append_right, length-reverse, get_or-reverse}
use Rattle.std.proofs.lemmas.Bool.{cases_lt}
use Rattle.std.proofs.lemmas.Grind.{common_steps}
use Rattle.std.specs.Prelude.{reverse}
use Rattle.flips.specs.Places.{wrap, turn, read}
use Rattle.flips.proofs.Words.{IsTurn, Flips, Succeeds, Exchanges, Apart}
use Rattle.flips.proofs.Turns.{get_turn, length-turn, wrap_is, wrap_low, wrap_in}

-- what stands at a place of the turned list
record Moved (i : ℕ) (xs ys : List ℕ) : Type 0 where
  pub inside : i ≤ length xs
  pub size : length ys ≡ length xs
  pub at : (k : ℕ) → k < length xs → get_or ys k 0 ≡ get_or xs (wrap (length xs) (i + k)) 0

take_front : (p q : List ℕ) → take (length p) (p ++ q) ≡ p
take_front p q = grind (arith, common_steps)

drop_front : (p q : List ℕ) → drop (length p) (p ++ q) ≡ q
drop_front p q = grind (arith, common_steps)

moved : (xs ys : List ℕ) (t : IsTurn xs ys) → Moved (length t.front) xs ys
moved xs ys t =
    let i = length t.front in
    let lx = length-append t.front t.back in
    let wx = ap length t.whole in
    let is : ys ≡ turn i xs = t.turned ∙ ap (λ v. v ++ t.front) (sym (drop_front t.front t.back)) ∙ ap (λ v. drop i (t.front ++ t.back) ++ v) (sym (take_front t.front t.back))
    ∙ ap (λ v. turn i v) (sym t.whole) in
    record {
      inside = omega arith;
      size = ap length is ∙ length-turn i xs (omega arith);
      at = λ k h. ap (λ v. get_or v k 0) is ∙ get_turn (length xs) i k xs refl (omega arith) h;
    }

-- a place may be the end of the list, which is its beginning too
wrap_apart : (n i j k : ℕ) → i ≤ n → j < n → k < n → wrap n (i + j) ≡ wrap n (i + k) → j ≡ k
wrap_apart n i j k h l m e = grind (arith, wrap_is)

wrap_within : (n i k : ℕ) → i ≤ n → k < n → wrap n (i + k) < n
wrap_within n i k h l = grind (arith, wrap_is)

pub apart_turned : (xs ys : List ℕ) → IsTurn xs ys → Apart xs → Apart ys
apart_turned xs ys t a = λ j k h l e.
    let m = moved xs ys t in
    let s = m.size in
    let i = length t.front in
    let hi = m.inside in
    wrap_apart (length xs) i j k hi (omega arith) (omega arith)
    (a _ _ (wrap_within (length xs) i j hi (omega arith)) (wrap_within (length xs) i k hi (omega arith)) (sym (m.at j (omega arith)) ∙ e ∙ m.at k (omega arith)))

wrap_back : (n i p : ℕ) → i ≤ n → p < n → wrap n (i + wrap n (p + (n - i))) ≡ p
wrap_back n i p h l = grind (arith, wrap_is)

wrap_next : (n i p : ℕ) → i ≤ n → p < n → wrap n (i + wrap n (wrap n (p + (n - i)) + 1)) ≡ wrap n (p + 1)
wrap_next n i p h l = grind (arith, wrap_is)

pub follows_turned : (xs ys : List ℕ) (a b : ℕ) → IsTurn xs ys → Succeeds xs a b → Succeeds ys a b
follows_turned xs ys a b t f =
    let m = moved xs ys t in
    let s = m.size in
    let n = length xs in
    let i = length t.front in
    let hi = m.inside in
    let p = f.place in
    let hp = f.inside in
    let k = wrap n (p + (n - i)) in
    let hk : k < n = wrap_in n (p + (n - i)) (omega arith) in
    let hn : wrap n (k + 1) < n = wrap_in n (k + 1) (omega arith) in
    record {
      place = k;
      inside = omega arith;
      here = m.at k hk ∙ ap (λ v. get_or xs v 0) (wrap_back n i p hi hp) ∙ f.here;
      there = ap (λ v. get_or ys (wrap v (k + 1)) 0) s ∙ m.at (wrap n (k + 1)) hn ∙ ap (λ v. get_or xs v 0) (wrap_next n i p hi hp) ∙ f.there;
    }

-- one city alone comes next, and one before
pub follows_one : (xs : List ℕ) (a b c : ℕ) → Apart xs → Succeeds xs a b → Succeeds xs a c → b ≡ c
follows_one xs a b c d f g =
    let e = d f.place g.place f.inside g.inside (f.here ∙ sym g.here) in
    sym f.there ∙ ap (λ v. get_or xs (wrap (length xs) (v + 1)) 0) e ∙ g.there

wrap_one : (n j k : ℕ) → j < n → k < n → wrap n (j + 1) ≡ wrap n (k + 1) → j ≡ k
wrap_one n j k h l e = grind (arith, wrap_is)

pub precedes_one : (xs : List ℕ) (a b c : ℕ) → Apart xs → Succeeds xs b a → Succeeds xs c a → b ≡ c
precedes_one xs a b c d f g =
    let n = length xs in
    let p = f.inside in
    let q = g.inside in
    let e = d (wrap n (f.place + 1)) (wrap n (g.place + 1)) (wrap_in n (f.place + 1) (omega arith)) (wrap_in n (g.place + 1) (omega arith)) (f.there ∙ sym g.there) in
    let o = wrap_one n f.place g.place p q e in
    sym f.here ∙ ap (λ v. get_or xs v 0) o ∙ g.here

-- the steps at the two ends of a part that is turned round
pub exchanges_from : (old new : List ℕ) (a b c e : ℕ) → Apart old → Flips old new b c → Succeeds old a b → Succeeds old c e → (a ≡ c → ⊥) → Exchanges old new a b c e
exchanges_from old new a b c e d w f g ne =
    let p = w.part in
    let q = w.rest in
    let ys = p ++ q in
    let n = length ys in
    let some = w.some in
    let l = length-append p q in
    let dy = apart_turned old ys w.before d in
    let fy = follows_turned old ys a b w.before f in
    let gy = follows_turned old ys c e w.before g in
    let first : get_or ys 0 0 ≡ b = get_or_append_left p q 0 0 some ∙ w.first in
    let last : get_or ys (length p - 1) 0 ≡ c = get_or_append_left p q 0 (length p - 1) (omega arith) ∙ w.last in
    let fi = fy.inside in
    let gi = gy.inside in
    let fz : wrap n (fy.place + 1) ≡ 0 = dy _ _ (wrap_in n (fy.place + 1) (omega arith)) (omega arith) (fy.there ∙ sym first) in
    let fl : fy.place ≡ n - 1 = grind (arith, wrap_is) in
    let gl : gy.place ≡ length p - 1 = dy _ _ gi (omega arith) (gy.here ∙ sym last) in
    let rest_some : 0 < length q = ⊎_elim
    (λ (z : 0 < length q). z)
    (λ (z : length q ≤ 0). let same : fy.place ≡ gy.place = omega arith in absurd (ne (sym fy.here ∙ ap (λ v. get_or ys v 0) same ∙ gy.here)))
    (cases_lt 0 (length q)) in
    let gn : wrap n (gy.place + 1) ≡ length p = wrap_low n (gy.place + 1) (omega arith) ∙ omega arith in
    let z : length p - length p ≡ 0 = omega arith in
    let y : n - 1 - length p ≡ length q - 1 = omega arith in
    record {
      part = p;
      rest = q;
      part_some = some;
      rest_some = rest_some;
      part_first = w.first;
      part_last = w.last;
      rest_first = ap (λ v. get_or q v 0) (sym z) ∙ sym (get_or-append_right p q (length p) (length p) 0 refl (omega arith)) ∙ ap (λ v. get_or ys v 0) (sym gn) ∙ gy.there;
      rest_last = ap (λ v. get_or q v 0) (sym y) ∙ sym (get_or-append_right p q (length p) (n - 1) 0 refl (omega arith)) ∙ ap (λ v. get_or ys v 0) (sym fl) ∙ fy.here;
      before = w.before;
      after = w.after;
    }

-- read the other way round
pub apart_reversed : (xs : List ℕ) → Apart xs → Apart (reverse xs)
apart_reversed xs a = λ i j h l e.
    let n = length-reverse xs in
    let p = get_or-reverse xs i 0 (omega arith) in
    let q = get_or-reverse xs j 0 (omega arith) in
    let r = a (length xs - 1 - i) (length xs - 1 - j) (omega arith) (omega arith) (sym p ∙ e ∙ q) in
    omega arith

pub apart_read : (bw : Bool) (xs : List ℕ) → Apart xs → Apart (read bw xs)
apart_read false xs a = a
apart_read true xs a = apart_reversed xs a

pub follows_forward : (n p a : ℕ) (xs : List ℕ) → length xs ≡ n → p < n → get_or xs p 0 ≡ a → Succeeds xs a (get_or xs (wrap n (p + 1)) 0)
follows_forward n p a xs e h here = record { place = p; inside = omega arith; here = here; there = ap (λ v. get_or xs (wrap v (p + 1)) 0) e }

mirror_next : (n p : ℕ) → p < n → n - 1 - wrap n (n - 1 - p + 1) ≡ wrap n (p + (n - 1))
mirror_next n p h = grind (arith, wrap_is)

pub follows_backward : (n p a : ℕ) (xs : List ℕ) → length xs ≡ n → p < n → get_or xs p 0 ≡ a → Succeeds (reverse xs) a (get_or xs (wrap n (p + (n - 1))) 0)
follows_backward n p a xs e h here =
    let lr = length-reverse xs in
    let k = n - 1 - p in
    let lk : wrap n (k + 1) < n = wrap_in n (k + 1) (omega arith) in
    let ln : length (reverse xs) ≡ n = omega arith in
    let q = get_or-reverse xs k 0 (omega arith) in
    let r = get_or-reverse xs (wrap n (k + 1)) 0 (omega arith) in
    let s : length xs - 1 - k ≡ p = omega arith in
    let t : length xs - 1 - wrap n (k + 1) ≡ wrap n (p + (n - 1)) = ap (λ v. v - 1 - wrap n (k + 1)) e ∙ mirror_next n p h in
    record {
      place = k;
      inside = omega arith;
      here = q ∙ ap (λ v. get_or xs v 0) s ∙ here;
      there = ap (λ v. get_or (reverse xs) (wrap v (k + 1)) 0) ln ∙ r ∙ ap (λ v. get_or xs v 0) t;
    }

pub precedes_backward : (n p a : ℕ) (xs : List ℕ) → length xs ≡ n → p < n → get_or xs p 0 ≡ a → Succeeds (reverse xs) (get_or xs (wrap n (p + 1)) 0) a
precedes_backward n p a xs e h here =
    let w = wrap_in n (p + 1) (omega arith) in
    let f = follows_backward n (wrap n (p + 1)) (get_or xs (wrap n (p + 1)) 0) xs e w refl in
    let back : wrap n (wrap n (p + 1) + (n - 1)) ≡ p = grind (arith, wrap_is) in
    subst (λ v. Succeeds (reverse xs) (get_or xs (wrap n (p + 1)) 0) v) (ap (λ v. get_or xs v 0) back ∙ here) f

pub apart_places : (n : ℕ) (xs ys : List ℕ) → length xs ≡ n → ((k : ℕ) → k < n → get_or ys (get_or xs k 0) 0 ≡ k) → Apart xs
apart_places n xs ys e back = λ i j h l q. sym (back i (omega arith)) ∙ ap (λ v. get_or ys v 0) q ∙ back j (omega arith)
