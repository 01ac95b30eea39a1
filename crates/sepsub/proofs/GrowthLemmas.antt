-- One stop more.
use Rattle.std.proofs.Common.{◌≡◌, ℕ, zero, suc, ◌<◌, ◌≤◌, ◌⊎◌, inl, inr, Bool, true, false, List, [], ◌∷◌, length, refl, sym, ◌∙◌, subst, arith, ⊎_elim}
use Rattle.std.proofs.Math.ListN.{set}
use Rattle.std.proofs.lemmas.List.{get_or-set_other, length-append}
use Rattle.std.specs.List.{All}
use Rattle.std.proofs.lemmas.List.Elements.{All-push}
use Rattle.std.proofs.lemmas.Bool.{cases_Bool, cases_eq, cases_lt, lt-ltb, le-ltb}
use Rattle.tspdef.specs.Sets.{has}
use Rattle.cyc.specs.CitySet.{Members}
use Rattle.cyc.specs.Frac.{Values}
use Rattle.maxflow.specs.declared.LeastSide.{LeastSide}
use Rattle.maxflow.specs.Crossings.{crossing}
use Rattle.maxflow.specs.Flows.{is_stop, LacksStops, IsBelowAll, IsLeastFlow}
use Rattle.sepsub.specs.declared.growth.Found.{Found}
use Rattle.sepsub.specs.Growth.{IsAway, IsLight, IsLeastWith, IsFound, IsFoundOfAll, with_light}
use Rattle.sepsub.proofs.SetLemmas.{proper_from}
use Rattle.sepsub.proofs.WeightLemmas.{crossing_all}

clash : (b : Bool) → b ≡ true → b ≡ false → ⊥
clash b t f = cc

at_most : (x y z : ℕ) → x ≤ y → y ≤ z → x ≤ z
at_most x y z h l = omega arith

-- a set holds a stop, or none
holds_stop : (n : ℕ) (stops : List Bool) (p : ℕ → Bool) → ((j : ℕ) × ((j < n) × ((is_stop stops j ≡ true) × (p j ≡ true)))) ⊎ LacksStops n stops p
holds_stop zero stops p = inr (λ k h t. absurd (omega arith))
holds_stop (suc n) stops p = ⊎_elim
    (λ w. let l = w.1.0 in inl (w.0, (omega arith, w.1.1)))
    (λ (none : LacksStops n stops p). ⊎_elim
    (λ (t : is_stop stops n ≡ true). ⊎_elim
    (λ (u : p n ≡ true). inl (n, (omega arith, (t, u))))
    (λ (u : p n ≡ false). inr (λ k h s. ⊎_elim (λ (e : k ≡ n). subst (λ v. p v ≡ false) (sym e) u) (λ (ne : k ≡ n → ⊥). none k (omega arith) s) (cases_eq k n)))
    (cases_Bool (p n)))
    (λ (f : is_stop stops n ≡ false). inr (λ k h s. ⊎_elim
    (λ (e : k ≡ n). absurd (clash (is_stop stops n) (subst (λ v. is_stop stops v ≡ true) e s) f))
    (λ (ne : k ≡ n → ⊥). none k (omega arith) s) (cases_eq k n)))
    (cases_Bool (is_stop stops n)))
    (holds_stop n stops p)

-- with one stop more, a set holds an old one, or only the new one
one_more : (n t : ℕ) (stops : List Bool) (p : ℕ → Bool) (k : ℕ) → k < n → is_stop (set stops t true) k ≡ true → p k ≡ true
    → ((j : ℕ) × ((j < n) × ((is_stop stops j ≡ true) × (p j ≡ true)))) ⊎ (LacksStops n stops p × (p t ≡ true))
one_more n t stops p k h s u = ⊎_elim
    (λ w. inl w)
    (λ (none : LacksStops n stops p). ⊎_elim
    (λ (e : k ≡ t). inr (none, subst (λ v. p v ≡ true) e u))
    (λ (ne : k ≡ t → ⊥). absurd (clash (p k) u (none k h (sym (get_or-set_other stops t k true false ne) ∙ s))))
    (cases_eq k t))
    (holds_stop n stops p)

-- what is below the best so far and below the sets of the next city is below all sets with one stop more
pub least_more : (w : Values) (t : ℕ) (stops : List Bool) (best next value : ℕ) → IsLeastWith w (is_stop stops) best → IsBelowAll w t stops next → value ≤ best → value ≤ next
    → IsLeastWith w (is_stop (set stops t true)) value
least_more w t stops best next value l b h m = λ p k hk s z u. ⊎_elim
    (λ o. at_most _ _ _ h (l p o.0 o.1.0 o.1.1.0 z o.1.1.1))
    (λ o. at_most _ _ _ m (b p o.1 o.0))
    (one_more w.n t stops p k hk s u)

-- while city 0 is the only stop nothing is asked
pub least_at_first : (w : Values) (stops : List Bool) (value : ℕ) → ((k : ℕ) → (k ≡ 0 → ⊥) → is_stop stops k ≡ false) → IsLeastWith w (is_stop stops) value
least_at_first w stops value others = λ p k hk s z u. ⊎_elim
    (λ (e : k ≡ 0). absurd (clash (p 0) (subst (λ v. p v ≡ true) e u) z))
    (λ (ne : k ≡ 0 → ⊥). absurd (clash (is_stop stops k) s (others k ne)))
    (cases_eq k 0)

-- a side is a set away from city 0, where city 0 is a stop
pub side_is_away : (w : Values) (s : ℕ) (stops : List Bool) (f : LeastSide) → 0 < w.n → is_stop stops 0 ≡ true → IsLeastFlow w s stops f → IsAway w.n f.side
side_is_away w s stops f some home l = record {
  cities = l.cities;
  set = l.set;
  away = l.lacks 0 some home;
  member = s;
  holds = l.holds;
}

pub side_is_light : (w : Values) (s : ℕ) (stops : List Bool) (f : LeastSide) → 0 < w.n → is_stop stops 0 ≡ true → IsLeastFlow w s stops f → f.value < 2096128 → IsLight w f.side
side_is_light w s stops f some home l h = record {
  cities = l.cities;
  proper = proper_from w.n s 0 f.side.cities l.set l.holds some (l.lacks 0 some home);
  light = subst (λ v. v < 2096128) (sym l.crossed) h;
}

-- where the sets are light, they are with a light side too
pub with_light_are : (w : Values) (s : ℕ) (stops : List Bool) (f : LeastSide) (sets : List Members) → 0 < w.n → is_stop stops 0 ≡ true → IsLeastFlow w s stops f
    → All (IsLight w) sets → All (IsLight w) (with_light sets f)
with_light_are w s stops f sets some home l a = ⊎_elim
    (λ (t : f.value < 2096128). rw (lt-ltb f.value 2096128 t) (All-push (IsLight w) sets f.side a (side_is_light w s stops f some home l t)))
    (λ (u : 2096128 ≤ f.value). rw (le-ltb f.value 2096128 u) a)
    (cases_lt f.value 2096128)

pub with_light_grows : (sets : List Members) (f : LeastSide) → 0 < length sets → 0 < length (with_light sets f)
with_light_grows sets f h = ⊎_elim
    (λ (t : f.value < 2096128). rw (lt-ltb f.value 2096128 t) (omega (arith, length-append sets (f.side ∷ []))))
    (λ (u : 2096128 ≤ f.value). rw (le-ltb f.value 2096128 u) h)
    (cases_lt f.value 2096128)

pub with_light_some : (sets : List Members) (f : LeastSide) → f.value < 2096128 → 0 < length (with_light sets f)
with_light_some sets f t = rw (lt-ltb f.value 2096128 t) (omega (arith, length-append sets (f.side ∷ [])))

-- where each city is a stop, the best so far is the best of all
pub found_of_all : (w : Values) (stops : List Bool) (f : Found) → ((k : ℕ) → k < w.n → is_stop stops k ≡ true) → IsFound w stops f → IsFoundOfAll w f
found_of_all w stops f all found = record {
  side = found.side;
  crossed = found.crossed;
  least = λ p k h t z u. found.least p k h (all k h) z u;
  sets = found.sets;
  some = found.some;
}

-- a side with no stop at all is crossed by nothing
pub alone_is_apart : (w : Values) (s : ℕ) (stops : List Bool) (f : LeastSide) → ((k : ℕ) → k < w.n → is_stop stops k ≡ false) → IsLeastFlow w s stops f
    → crossing w.entries (has f.side.cities) ≡ 0
alone_is_apart w s stops f none l =
    let least = l.least (λ k. true) refl (λ k h t. absurd (clash (is_stop stops k) t (none k h))) in
    let all = crossing_all w.entries in
    let crossed = l.crossed in
    omega (arith, least, all, crossed)
