-- One pair more is kept.
use Rattle.std.proofs.Common.{◌≡◌, ◌≢◌, ℕ, zero, suc, ◌+◌, ◌<◌, ◌≤◌, ◌⊎◌, inl, inr, min, max, Bool, true, false, ltb, ◌==◌, ◌||◌, ◌&&◌, List, [], ◌∷◌, length, get_or, drop, set, Result, Ok, Err, refl, sym, ◌∙◌, ap, arith, add-one, drop-cons}
use Rattle.std.specs.List.{AllByRecursion}
use Rattle.std.proofs.lemmas.Bool.{false≢true}
use Rattle.std.proofs.lemmas.Bool.Decides.{eqb_tells, nat_tests}
use Rattle.std.proofs.lemmas.List.{drop_all}
use Rattle.tspdef.specs.Tours.{has_step, joins}
use Rattle.tspdef.specs.Fixed.{pairs_at}
use Rattle.tspinst.specs.declared.refusals.PairFault.{PairFault}
use Rattle.tspinst.specs.Fixings.{with_pair, part_of, are_joined, leaves_out, fixed_if, all_fixed, name_at, renamed, partners_at, with_partner, IsForest, IsOnePart, AreCollected}
use Rattle.tspinst.proofs.PairLemmas.{all_with, rising_with}
use Rattle.tspinst.proofs.PartLemmas.{names_tell, one_part, named_with, one_with, forest_with}
use Rattle.tspinst.proofs.PartnerLemmas.{partners_with, few_with}

right_false : (a b : Bool) → a ≡ true → (a && b) ≡ false → b ≡ false
right_false true b e h = h
right_false false b e h = absurd (false≢true e)

module _ (n : ℕ) (pairs partners : List (ℕ × ℕ)) (names : List ℕ) (h : AreCollected n pairs partners names) (u v : ℕ) (rising : u < v) (lv : v < n) (new : has_step pairs u v ≡ false)
    (few_u : pairs_at pairs u < 2) (few_v : pairs_at pairs v < 2) (closed : (are_joined pairs u v && leaves_out pairs u n) ≡ false)
    (after : List ℕ) (long : length after ≡ length names) (name_after : (c : ℕ) → c < n → name_at after c ≡ renamed (name_at names u) (name_at names v) (name_at names c)) where
  lu : u < n
  lu = omega arith

  open_with : (b : Bool) → (name_at names u == name_at names v) ≡ b → IsForest n pairs names ⊎ IsOnePart n names → IsForest n (with_pair (u, v) pairs) after ⊎ IsOnePart n after
  open_with true e was =
      let joined : are_joined pairs u v ≡ true = sym (names_tell n pairs names h.named u v lu lv) ∙ e in
      inr (one_with n pairs names h.named u v lu lv h.below after long name_after (one_part n pairs names h.named u lu (right_false (are_joined pairs u v) (leaves_out pairs u n) joined closed)))
  open_with false e (inr one) = inr (one_with n pairs names h.named u v lu lv h.below after long name_after one)
  open_with false e (inl forest) =
      inl (forest_with n pairs names h.named u v lu lv h.below after long name_after (λ same. let x : (name_at names u == name_at names v) ≡ true = (let y = same in grind (arith, nat_tests)) in false≢true (sym e ∙ x)) forest)

  pub collected_with : AreCollected n (with_pair (u, v) pairs) (set (set partners u (with_partner n (partners_at n partners u) v)) v (with_partner n (partners_at n (set partners u (with_partner n (partners_at n partners u) v)) v) u)) after
  collected_with =
      let apart : u ≢ v = λ e. (let x = e in omega arith) in
      record {
        below = all_with (λ p. (p.0 < p.1) × (p.1 < n)) (u, v) pairs (rising, lv) h.below;
        rising = rising_with (u, v) pairs h.rising new;
        few = few_with n pairs partners u v h.partnered lu lv apart few_u few_v h.few;
        partnered = partners_with n pairs partners u v h.partnered lu lv apart few_u few_v;
        named = named_with n pairs names h.named u v lu lv h.below after long name_after;
        open_ended = open_with (name_at names u == name_at names v) refl h.open_ended;
      }

pub renamed_same : (a b x : ℕ) (d e y : ℕ) → a ≡ d → b ≡ e → x ≡ y → renamed a b x ≡ renamed d e y
renamed_same a b x d e y p q r = rw (p, q, r) refl

-- ---- the lower city first

pub either_order : (u v : ℕ) → ((min u v ≡ u) × (max u v ≡ v)) ⊎ ((min u v ≡ v) × (max u v ≡ u))
either_order u v = grind arith

turned : (a b c d : Bool) → ((a && b) || (c && d)) ≡ ((c && d) || (a && b))
turned true true true true = refl
turned true true true false = refl
turned true true false d = refl
turned true false true true = refl
turned true false true false = refl
turned true false false d = refl
turned false b true true = refl
turned false b true false = refl
turned false b false d = refl

pub step_turned : (pairs : List (ℕ × ℕ)) (u v : ℕ) → has_step pairs u v ≡ has_step pairs v u
step_turned [] u v = refl
step_turned (p ∷ ps) u v = rw (turned (p.0 == u) (p.1 == v) (p.0 == v) (p.1 == u), step_turned ps u v) refl

pub new_lower : (pairs : List (ℕ × ℕ)) (u v : ℕ) → has_step pairs u v ≡ false → has_step pairs (min u v) (max u v) ≡ false
new_lower pairs u v e = elim (either_order u v) [
  | inl a ↦ rw (a.0, a.1) e
  | inr b ↦ rw (b.0, b.1) (step_turned pairs v u ∙ e)
]

same_part : (pairs : List (ℕ × ℕ)) (u v n : ℕ) → part_of pairs u ≡ part_of pairs v → leaves_out pairs u n ≡ leaves_out pairs v n
unfolding leaves_out
same_part pairs u v zero e = refl
same_part pairs u v (suc m) e = rw (e, same_part pairs u v m e) refl

turned_test : (pairs : List (ℕ × ℕ)) (u v n : ℕ) (b : Bool) → are_joined pairs u v ≡ b → (are_joined pairs u v && leaves_out pairs u n) ≡ false → (are_joined pairs v u && leaves_out pairs v n) ≡ false
turned_test pairs u v n true e h =
    let same : part_of pairs u ≡ part_of pairs v = grind (arith, nat_tests) in
    let l = right_false (are_joined pairs u v) (leaves_out pairs u n) e h in
    rw (sym (same_part pairs u v n same) ∙ l) (off (are_joined pairs v u))
  where
    off : (a : Bool) → (a && false) ≡ false
    off true = refl
    off false = refl
turned_test pairs u v n false e h = let x : are_joined pairs v u ≡ false = grind (arith, nat_tests) in rw x refl

pub open_lower : (pairs : List (ℕ × ℕ)) (u v n : ℕ) → (are_joined pairs u v && leaves_out pairs u n) ≡ false → (are_joined pairs (min u v) (max u v) && leaves_out pairs (min u v) n) ≡ false
open_lower pairs u v n e = elim (either_order u v) [
  | inl a ↦ rw (a.0, a.1) e
  | inr b ↦ rw (b.0, b.1) (turned_test pairs u v n (are_joined pairs u v) refl e)
]

pub ruleset lower_first = (new_lower, open_lower)

-- ---- pairs in turn

rest_at : (ps : List (ℕ × ℕ)) (k : ℕ) → k < length ps → drop k ps ≡ get_or ps k (0, 0) ∷ drop (k + 1) ps
rest_at ps k l = drop-cons ps k (0, 0) l ∙ rw add-one refl

pub all_step : (n : ℕ) (pairs more ps : List (ℕ × ℕ)) (k : ℕ) → k < length ps → fixed_if n pairs (get_or ps k (0, 0)) ≡ Ok more → all_fixed n pairs k (drop k ps) ≡ all_fixed n more (k + 1) (drop (k + 1) ps)
unfolding all_fixed
all_step n pairs more ps k l e = rw (rest_at ps k l, e) refl

pub all_stop : (n : ℕ) (pairs ps : List (ℕ × ℕ)) (fault : PairFault) (k : ℕ) → k < length ps → fixed_if n pairs (get_or ps k (0, 0)) ≡ Err fault → all_fixed n pairs k (drop k ps) ≡ Err (k, fault)
unfolding all_fixed
all_stop n pairs ps fault k l e = rw (rest_at ps k l, e) refl

pub all_done : (n : ℕ) (pairs ps : List (ℕ × ℕ)) (k : ℕ) → length ps ≤ k → all_fixed n pairs k (drop k ps) ≡ Ok pairs
unfolding all_fixed
all_done n pairs ps k l = rw (drop_all k ps l) refl

pub ruleset in_turn = (all_step, all_stop, all_done)
