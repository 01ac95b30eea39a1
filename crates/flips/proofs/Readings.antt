-- An array of cities with their places, read in one of the two directions.
use Rattle.std.proofs.Common.{◌≡◌, ℕ, ◌+◌, ◌-◌, ◌<◌, ◌≤◌, Bool, true, false, cond, leb, ◌&&◌, ◌||◌, List, length, get_or, slice_index, refl, sym, ◌∙◌, ap, subst, arith}
use Rattle.std.specs.Prelude.{reverse}
use Rattle.std.proofs.lemmas.List.{length-reverse, get_or-reverse}
use Rattle.std.proofs.lemmas.Bool.{le-leb, lt-leb, and_left, or_left}
use Rattle.tspdef.specs.Tours.{IsTour}
use Rattle.flips.specs.declared.places.Places.{Places}
use Rattle.flips.specs.Cycles.{Follows, is_between}
use Rattle.flips.specs.Places.{wrap, read}
use Rattle.flips.proofs.Words.{Succeeds, Apart}
use Rattle.flips.proofs.Turns.{wrap_in, wrap_is}
use Rattle.flips.proofs.Steps.{apart_read, apart_places, follows_forward, follows_backward, precedes_backward}
use Rattle.flips.proofs.Tours.{tour_apart}
use Rattle.flips.proofs.Bridges.{follows_of}
use Rattle.flips.proofs.Betweens.{between_ahead, between_round}

pub length-read : (bw : Bool) (xs : List ℕ) → length (read bw xs) ≡ length xs
length-read false xs = refl
length-read true xs = length-reverse xs

read_within : (bw : Bool) (n : ℕ) (xs : List ℕ) → length xs ≡ n → ((k : ℕ) → k < n → slice_index xs k < n) → (k : ℕ) → k < n → slice_index (read bw xs) k < n
read_within false n xs e h = h
read_within true n xs e h = λ k l. let g = get_or-reverse xs k 0 (omega arith) in subst (λ v. v < n) (sym g) (h (length xs - 1 - k) (omega arith))

pub places_apart : (t : Places) (bw : Bool) → Apart (read bw t.order.items)
places_apart t bw = apart_read bw t.order.items (apart_places t.n t.order.items t.place.items (omega (arith, t.order_size)) t.place_of_order)

pub places_tour : (t : Places) (bw : Bool) → IsTour t.n (read bw t.order.items)
places_tour t bw =
    let size : length t.order.items ≡ t.n = omega (arith, t.order_size) in
    let s = length-read bw t.order.items in
    tour_apart t.n (read bw t.order.items) (s ∙ size) (λ k l. read_within bw t.n t.order.items size t.order_in k (omega arith)) (places_apart t bw)

precedes_forward : (n p a : ℕ) (xs : List ℕ) → length xs ≡ n → p < n → get_or xs p 0 ≡ a → Succeeds xs (get_or xs (wrap n (p + (n - 1))) 0) a
precedes_forward n p a xs e h here =
    let q = wrap n (p + (n - 1)) in
    let w : q < n = wrap_in n (p + (n - 1)) (omega arith) in
    let back : wrap n (q + 1) ≡ p = grind (arith, wrap_is) in
    record { place = q; inside = omega arith; here = refl; there = ap (λ v. get_or xs (wrap v (q + 1)) 0) e ∙ ap (λ v. get_or xs v 0) back ∙ here }

pub next_read : (bw : Bool) (n p q a result : ℕ) (xs : List ℕ) → length xs ≡ n → p < n → get_or xs p 0 ≡ a → q ≡ cond bw (wrap n (p + (n - 1))) (wrap n (p + 1)) → result ≡ get_or xs q 0
    → Follows (read bw xs) a result
next_read false n p q a result xs e h here is value =
    follows_of xs a result (subst (λ v. Succeeds xs a v) (sym (value ∙ ap (λ v. get_or xs v 0) is)) (follows_forward n p a xs e h here))
next_read true n p q a result xs e h here is value =
    follows_of (reverse xs) a result (subst (λ v. Succeeds (reverse xs) a v) (sym (value ∙ ap (λ v. get_or xs v 0) is)) (follows_backward n p a xs e h here))

pub previous_read : (bw : Bool) (n p q a result : ℕ) (xs : List ℕ) → length xs ≡ n → p < n → get_or xs p 0 ≡ a → q ≡ cond bw (wrap n (p + 1)) (wrap n (p + (n - 1))) → result ≡ get_or xs q 0
    → Follows (read bw xs) result a
previous_read false n p q a result xs e h here is value =
    follows_of xs result a (subst (λ v. Succeeds xs v a) (sym (value ∙ ap (λ v. get_or xs v 0) is)) (precedes_forward n p a xs e h here))
previous_read true n p q a result xs e h here is value =
    follows_of (reverse xs) result a (subst (λ v. Succeeds (reverse xs) v a) (sym (value ∙ ap (λ v. get_or xs v 0) is)) (precedes_backward n p a xs e h here))

-- three cities at their places in the order of reading
pub record AreAt (xs : List ℕ) (p q r a b c : ℕ) : Type 0 where
  pub apart : Apart xs
  pub first_in : p < length xs
  pub second_in : q < length xs
  pub third_in : r < length xs
  pub first : get_or xs p 0 ≡ a
  pub second : get_or xs q 0 ≡ b
  pub third : get_or xs r 0 ≡ c

pub ahead_then : (xs : List ℕ) (p q r a b c : ℕ) → AreAt xs p q r a b c → p ≤ r → p ≤ q → leb q r ≡ is_between xs a b c
ahead_then xs p q r a b c w h l = ap (λ t. t && leb q r) (sym (le-leb p q l)) ∙ between_ahead xs p q r a b c w.apart w.first_in w.second_in w.third_in w.first w.second w.third h

pub ahead_else : (xs : List ℕ) (p q r a b c : ℕ) → AreAt xs p q r a b c → p ≤ r → q < p → leb p q ≡ is_between xs a b c
ahead_else xs p q r a b c w h l = lt-leb p q l ∙ sym (and_left (leb p q) (leb q r) (lt-leb p q l)) ∙ between_ahead xs p q r a b c w.apart w.first_in w.second_in w.third_in w.first w.second w.third h

pub round_then : (xs : List ℕ) (p q r a b c : ℕ) → AreAt xs p q r a b c → r < p → p ≤ q → leb p q ≡ is_between xs a b c
round_then xs p q r a b c w h l = le-leb p q l ∙ sym (or_left (leb p q) (leb q r) (le-leb p q l)) ∙ between_round xs p q r a b c w.apart w.first_in w.second_in w.third_in w.first w.second w.third h

pub round_else : (xs : List ℕ) (p q r a b c : ℕ) → AreAt xs p q r a b c → r < p → q < p → leb q r ≡ is_between xs a b c
round_else xs p q r a b c w h l = ap (λ t. t || leb q r) (sym (lt-leb p q l)) ∙ between_round xs p q r a b c w.apart w.first_in w.second_in w.third_in w.first w.second w.third h
