-- What a load reads: the slot that a save does not write.
use Rattle.std.proofs.Common.{◌≡◌, ℕ, ◌-◌, ◌≤◌, ◌<◌, ◌==◌, nat_le, Bool, true, false, cond, List, length, take, drop, refl, sym, ap, subst, ◌∙◌, arith, Option, Some, None, Result, Ok, Err, IfOk, IfSome}
use Rattle.std.specs.Prelude.{option_map, ◌↔◌}
use Rattle.std.specs.Global.{Vec}
use Rattle.std.specs.Option.{option_map_or}
use Rattle.std.proofs.lemmas.List.{length-take, length-drop}
use Rattle.std.proofs.lemmas.Bool.Decides.{nat_tests}
use Rattle.ports.specs.Outside.{WhereTold}
use Rattle.ports.specs.Slots.{SlotsTold, slot_of}
use Rattle.slotstore.specs.Loads.{HasNoBody, body_to, items_of, valid_body}
use Rattle.slotstore.specs.Slot.{number, is_valid, body_of}
use Rattle.slotstore.specs.Standing.{IsNext}
use Rattle.slotstore.specs.declared.target.Target.{Target}
use Rattle.slotstore.specs.Store.{next_number, newer_by, newer, loaded, target, valid_number}

-- of two slots, by which of them are whole, their numbers and bodies
other_by : (a b : Bool) (m n : ℕ) (x y : List ℕ)
    → option_map (λ s. cond (s == 0) x y) (newer_by (cond a (Some m) None) (cond b (Some n) None))
    ≡ cond (1 - option_map_or (λ s. 1 - s) (newer_by (cond a (Some m) None) (cond b (Some n) None)) 0 == 0) (cond a (Some x) None) (cond b (Some y) None)
other_by false false m n x y = refl
other_by true false m n x y = refl
other_by false true m n x y = refl
other_by true true m n x y = go (n == next_number m)
  where
    go : (q : Bool) → option_map (λ s. cond (s == 0) x y) (cond q (Some 1) (Some 0)) ≡ cond (1 - option_map_or (λ s. 1 - s) (cond q (Some 1) (Some 0)) 0 == 0) (Some x) (Some y)
    go true = refl
    go false = refl

loaded_by : (t : SlotsTold) (o : Option ℕ) → option_map (λ slot. body_of (slot_of slot t).bytes) o ≡ option_map (λ s. cond (s == 0) (body_of t.slot0.bytes) (body_of t.slot1.bytes)) o
loaded_by t None = refl
loaded_by t (Some s) = go (s == 0)
  where
    go : (b : Bool) → Some (body_of (cond b t.slot0 t.slot1).bytes) ≡ Some (cond b (body_of t.slot0.bytes) (body_of t.slot1.bytes))
    go true = refl
    go false = refl

pub loads_other : (t : SlotsTold) → loaded t ≡ valid_body (slot_of (1 - target t) t).bytes
loads_other t =
    loaded_by t (newer t)
    ∙ other_by (is_valid t.slot0.bytes) (is_valid t.slot1.bytes) (number t.slot0.bytes) (number t.slot1.bytes) (body_of t.slot0.bytes) (body_of t.slot1.bytes)
    ∙ go (1 - target t == 0)
  where
    go : (b : Bool) → cond b (valid_body t.slot0.bytes) (valid_body t.slot1.bytes) ≡ valid_body (cond b t.slot0 t.slot1).bytes
    go true = refl
    go false = refl

-- none is loaded where none is whole
none_by : (a b : Bool) (m n : ℕ) (x y : List ℕ) → option_map (λ s. cond (s == 0) x y) (newer_by (cond a (Some m) None) (cond b (Some n) None)) ≡ None → (a ≡ false) × (b ≡ false)
none_by false false m n x y e = (refl, refl)
none_by true false m n x y e = absurd (some_none e)
  where
    some_none : Some x ≡ None → ⊥
    some_none e = cc
none_by false true m n x y e = absurd (some_none e)
  where
    some_none : Some y ≡ None → ⊥
    some_none e = cc
none_by true true m n x y e = absurd (go (n == next_number m) e)
  where
    go : (q : Bool) → option_map (λ s. cond (s == 0) x y) (cond q (Some 1) (Some 0)) ≡ None → ⊥
    go true e = cc
    go false e = cc

no_body : (t : SlotsTold) → loaded t ≡ None → HasNoBody t
no_body t e =
    let is = none_by (is_valid t.slot0.bytes) (is_valid t.slot1.bytes) (number t.slot0.bytes) (number t.slot1.bytes) (body_of t.slot0.bytes) (body_of t.slot1.bytes) (sym (loaded_by t (newer t)) ∙ e) in
    record { slot0 = is.0; slot1 = is.1 }

body_none : (t : SlotsTold) → HasNoBody t → loaded t ≡ None
body_none t is =
    ap (λ a. option_map (λ slot. body_of (slot_of slot t).bytes) (newer_by (cond a (Some (number t.slot0.bytes)) None) (valid_number t.slot1.bytes))) is.slot0
    ∙ ap (λ b. option_map (λ slot. body_of (slot_of slot t).bytes) (newer_by None (cond b (Some (number t.slot1.bytes)) None))) is.slot1

items_none : (body : Option (Vec ℕ)) → items_of body ≡ None → body ≡ None
items_none None e = refl
items_none (Some b) e = cc

pub none_told : (body : Option (Vec ℕ)) (t : Option SlotsTold) → WhereTold (λ t. items_of body ≡ loaded t) t → WhereTold (λ t. (body ≡ None) ↔ HasNoBody t) t
none_told body None is = tt
none_told body (Some t) is = (λ e. no_body t (sym is ∙ ap items_of e), λ none. items_none body (is ∙ body_none t none))

-- the slot that is read is the one beside the target
pub beside : (slot : ℕ) (body : Option (Vec ℕ)) (t u : Option SlotsTold) → u ≡ t → WhereTold (λ t. slot ≡ target t) t → WhereTold (λ t. items_of body ≡ valid_body (slot_of (1 - slot) t).bytes) u
    → WhereTold (λ t. items_of body ≡ loaded t) t
beside slot body t u e to is = go t to (subst (λ w. WhereTold (λ t. items_of body ≡ valid_body (slot_of (1 - slot) t).bytes) w) e is)
  where
    go : (t : Option SlotsTold) → WhereTold (λ t. slot ≡ target t) t → WhereTold (λ t. items_of body ≡ valid_body (slot_of (1 - slot) t).bytes) t → WhereTold (λ t. items_of body ≡ loaded t) t
    go None to is = tt
    go (Some t) to is = is ∙ ap (λ k. valid_body (slot_of (1 - k) t).bytes) to ∙ sym (loads_other t)

pub beside_result : {E : Type 0} (r : Result (Option (Vec ℕ)) E) (slot : ℕ) (t u : Option SlotsTold) → u ≡ t → WhereTold (λ t. slot ≡ target t) t
    → IfOk r (λ body. WhereTold (λ t. items_of body ≡ valid_body (slot_of (1 - slot) t).bytes) u) → IfOk r (λ body. WhereTold (λ t. items_of body ≡ loaded t) t)
beside_result (Ok body) slot t u e to is = beside slot body t u e to is
beside_result (Err x) slot t u e to is = tt

pub none_result : {E : Type 0} (r : Result (Option (Vec ℕ)) E) (t : Option SlotsTold) → IfOk r (λ body. WhereTold (λ t. items_of body ≡ loaded t) t)
    → IfOk r (λ body. WhereTold (λ t. (body ≡ None) ↔ HasNoBody t) t)
none_result (Ok body) t is = none_told body t is
none_result (Err x) t is = tt

-- where the slot that is written was kept
pub kept_slot_told : (next : Target) (kept : Option Target) (t : Option SlotsTold) → kept ≡ Some next → WhereTold (λ t. IfSome kept (λ next. IsNext next t)) t → WhereTold (λ t. next.slot ≡ target t) t
kept_slot_told next kept t e is = go t (subst (λ (k : Option Target). WhereTold (λ t. IfSome k (λ next. IsNext next t)) t) e is)
  where
    go : (t : Option SlotsTold) → WhereTold (IsNext next) t → WhereTold (λ t. next.slot ≡ target t) t
    go None is = tt
    go (Some t) is = is.slot

-- reading what stands behind the front, up to a place
pub whole_to : (end : ℕ) (items bytes : List ℕ) → 10 ≤ end → 10 ≤ length bytes → items ≡ take (end - 10) (drop 10 bytes) → length items ≡ end - 10 → Some items ≡ body_to end bytes
whole_to end items bytes front holds is size =
    let reached : end ≤ length bytes = omega (arith, ap length is, length-take (end - 10) (drop 10 bytes), length-drop 10 bytes) in
    let test : nat_le end (length bytes) ≡ true = grind (arith, nat_tests) in
    ap (λ l. Some l) is ∙ sym (ap (λ b. cond b (Some (take (end - 10) (drop 10 bytes))) None) test)

pub short_to : (end : ℕ) (bytes : List ℕ) → length bytes < end → None ≡ body_to end bytes
short_to end bytes short =
    let test : nat_le end (length bytes) ≡ false = grind (arith, nat_tests) in
    sym (ap (λ b. cond b (Some (take (end - 10) (drop 10 bytes))) None) test)
