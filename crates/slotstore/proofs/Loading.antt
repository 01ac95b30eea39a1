-- What is loaded after a save.
use Rattle.std.proofs.Common.{◌≡◌, ℕ, ◌+◌, ◌-◌, ◌^◌, ◌≤◌, ◌<◌, ◌==◌, suc, Bool, true, false, cond, List, ◌∷◌, ◌++◌, length, take, drop, refl, sym, ap, ◌∙◌, append_assoc, length-append, arith, Option, Some, None}
use Rattle.std.specs.Prelude.{option_map}
use Rattle.std.proofs.lemmas.List.{take_at, drop_at}
use Rattle.std.proofs.lemmas.Bool.Decides.{nat_tests}
use Rattle.std.specs.Option.{option_map_or}
use Rattle.byteorder.specs.Endian.{big_number, big_bytes}
use Rattle.byteorder.specs.Numbers.{big_number-reads_back}
use Rattle.ports.specs.Outside.{BothTell, WhereTold}
use Rattle.ports.specs.Slots.{kept_slot, SlotsTold, SlotTold, slot_of, with_slot}
use Rattle.slotstore.specs.Slot.{number, body_length, is_valid, body_of, label, whole_slot}
use Rattle.slotstore.specs.Store.{valid_number, next_number, newer_by, newer, loaded, target, target_number, after_save}
use Rattle.slotstore.proofs.Changes.{slot_of-with_slot}
use Rattle.slotstore.proofs.Written.{label-length}

said_length : (n : ℕ) (body rest : List ℕ) → length body < 2 ^ 64 → body_length (whole_slot n body ++ rest) ≡ length body
said_length n body rest small =
    ap (big_number 8) (append_assoc (big_bytes 8 (length body)) body rest) ∙ big_number-reads_back 8 (length body) (body ++ rest) small

said_body : (n : ℕ) (body rest : List ℕ) → length body < 2 ^ 64 → body_of (whole_slot n body ++ rest) ≡ body
said_body n body rest small =
    let front = 1 ∷ label n body in
    let parts : whole_slot n body ++ rest ≡ front ++ (body ++ rest) = ap (λ s. 1 ∷ s) (append_assoc (label n body) body rest) in
    let past : drop 10 (whole_slot n body ++ rest) ≡ body ++ rest = ap (drop 10) parts ∙ drop_at front (body ++ rest) 10 (ap suc (label-length n body)) in
    ap (λ k. take k (drop 10 (whole_slot n body ++ rest))) (said_length n body rest small) ∙ ap (take (length body)) past ∙ take_at body rest (length body) refl

whole_length : (n : ℕ) (body rest : List ℕ) → length (whole_slot n body ++ rest) ≡ 10 + length body + length rest
whole_length n body rest = omega (arith, length-append (whole_slot n body) rest, length-append (label n body) body, label-length n body)

is_whole : (n : ℕ) (body rest : List ℕ) → n ≤ 2 → length body < 2 ^ 64 - 10 → is_valid (whole_slot n body ++ rest) ≡ true
is_whole n body rest few small =
    let len = said_length n body rest (omega arith) in
    let all = whole_length n body rest in
    grind (arith, nat_tests)

said_number : (n : ℕ) (body rest : List ℕ) → n ≤ 2 → length body < 2 ^ 64 - 10 → valid_number (whole_slot n body ++ rest) ≡ Some n
said_number n body rest few small = ap (λ b. cond b (Some n) None) (is_whole n body rest few small)

number_is : (bytes : List ℕ) (n : ℕ) → valid_number bytes ≡ Some n → number bytes ≡ n
number_is bytes n = go (is_valid bytes)
  where
    go : (b : Bool) → cond b (Some (number bytes)) None ≡ Some n → number bytes ≡ n
    go true e = cc
    go false e = cc

next_few : (n : ℕ) → next_number n ≤ 2
next_few n = omega arith

-- the slot that is saved to, with its number and what stands past the body
saved_to : ℕ → ℕ → List ℕ → List ℕ → SlotsTold → SlotsTold
saved_to slot n body rest t = with_slot slot (kept_slot (whole_slot n body ++ rest)) t

newer_first : (n : ℕ) (body rest : List ℕ) (t : SlotsTold) (o : Option ℕ) → n ≤ 2 → length body < 2 ^ 64 - 10 → valid_number t.slot1.bytes ≡ o
    → newer_by (Some n) o ≡ Some 0 → newer (saved_to 0 n body rest t) ≡ Some 0
unfolding saved_to
newer_first n body rest t o few small other is =
    ap (λ a. newer_by a (valid_number t.slot1.bytes)) (said_number n body rest few small) ∙ ap (newer_by (Some n)) other ∙ is

newer_second : (n : ℕ) (body rest : List ℕ) (t : SlotsTold) (o : Option ℕ) → n ≤ 2 → length body < 2 ^ 64 - 10 → valid_number t.slot0.bytes ≡ o
    → newer_by o (Some n) ≡ Some 1 → newer (saved_to 1 n body rest t) ≡ Some 1
unfolding saved_to
newer_second n body rest t o few small other is =
    ap (newer_by (valid_number t.slot0.bytes)) (said_number n body rest few small) ∙ ap (λ a. newer_by a (Some n)) other ∙ is

-- a number is not the one after the one after it, so what is saved after b is not passed over for b
later : (b : ℕ) → newer_by (Some (next_number b)) (Some b) ≡ Some 0
later b =
    let other : (b == next_number (next_number b)) ≡ false = grind (arith, nat_tests) in
    ap (λ x. cond x (Some 1) (Some 0)) other

after : (a : ℕ) → newer_by (Some a) (Some (next_number a)) ≡ Some 1
after a = grind (arith, nat_tests)

-- where a save goes, and what it loads as
saves_to : (slot n : ℕ) (body : List ℕ) (t : SlotsTold) → target t ≡ slot → target_number t ≡ n
    → after_save body t ≡ saved_to slot n body (drop (10 + length body) (slot_of slot t).bytes) t
unfolding saved_to
saves_to slot n body t s e =
    ap (λ k. with_slot k (kept_slot (whole_slot (target_number t) body ++ drop (10 + length body) (slot_of k t).bytes)) t) s
    ∙ ap (λ m. with_slot slot (kept_slot (whole_slot m body ++ drop (10 + length body) (slot_of slot t).bytes)) t) e

-- the slot that was saved to is the newer one
pub newer_saved : (body : List ℕ) (t : SlotsTold) → length body < 2 ^ 64 - 10 → newer (after_save body t) ≡ Some (target t)
newer_saved body t small = go (valid_number t.slot0.bytes) (valid_number t.slot1.bytes) refl refl
  where
    slot_at : (o : Option ℕ) → newer t ≡ o → target t ≡ option_map_or (λ slot. 1 - slot) o 0
    slot_at o e = ap (λ x. option_map_or (λ slot. 1 - slot) x 0) e

    number_at : (o : Option ℕ) → newer t ≡ o → target_number t ≡ option_map_or (λ slot. next_number (number (slot_of slot t).bytes)) o 0
    number_at o e = ap (λ x. option_map_or (λ slot. next_number (number (slot_of slot t).bytes)) x 0) e

    first : (n : ℕ) (o : Option ℕ) → n ≤ 2 → valid_number t.slot1.bytes ≡ o → newer_by (Some n) o ≡ Some 0 → target t ≡ 0 → target_number t ≡ n → newer (after_save body t) ≡ Some (target t)
    first n o few other is s e = ap newer (saves_to 0 n body t s e) ∙ newer_first n body (drop (10 + length body) t.slot0.bytes) t o few small other is ∙ ap (λ k. Some k) (sym s)

    second : (n : ℕ) (o : Option ℕ) → n ≤ 2 → valid_number t.slot0.bytes ≡ o → newer_by o (Some n) ≡ Some 1 → target t ≡ 1 → target_number t ≡ n → newer (after_save body t) ≡ Some (target t)
    second n o few other is s e = ap newer (saves_to 1 n body t s e) ∙ newer_second n body (drop (10 + length body) t.slot1.bytes) t o few small other is ∙ ap (λ k. Some k) (sym s)

    newer_is : (a b o : Option ℕ) → valid_number t.slot0.bytes ≡ a → valid_number t.slot1.bytes ≡ b → newer_by a b ≡ o → newer t ≡ o
    newer_is a b o ea eb is = ap (λ x. newer_by x (valid_number t.slot1.bytes)) ea ∙ ap (newer_by a) eb ∙ is

    both : (a b : ℕ) (x : Bool) → (b == next_number a) ≡ x → valid_number t.slot0.bytes ≡ Some a → valid_number t.slot1.bytes ≡ Some b → newer (after_save body t) ≡ Some (target t)
    both a b true x ea eb =
        let is = newer_is (Some a) (Some b) (Some 1) ea eb (ap (λ y. cond y (Some 1) (Some 0)) x) in
        first (next_number b) (Some b) (next_few b) eb (later b) (slot_at (Some 1) is) (number_at (Some 1) is ∙ ap next_number (number_is t.slot1.bytes b eb))
    both a b false x ea eb =
        let is = newer_is (Some a) (Some b) (Some 0) ea eb (ap (λ y. cond y (Some 1) (Some 0)) x) in
        second (next_number a) (Some a) (next_few a) ea (after a) (slot_at (Some 0) is) (number_at (Some 0) is ∙ ap next_number (number_is t.slot0.bytes a ea))

    go : (a b : Option ℕ) → valid_number t.slot0.bytes ≡ a → valid_number t.slot1.bytes ≡ b → newer (after_save body t) ≡ Some (target t)
    go None None ea eb =
        let is = newer_is None None None ea eb refl in
        first 0 None (omega arith) eb refl (slot_at None is) (number_at None is)
    go (Some a) None ea eb =
        let is = newer_is (Some a) None (Some 0) ea eb refl in
        second (next_number a) (Some a) (next_few a) ea (after a) (slot_at (Some 0) is) (number_at (Some 0) is ∙ ap next_number (number_is t.slot0.bytes a ea))
    go None (Some b) ea eb =
        let is = newer_is None (Some b) (Some 1) ea eb refl in
        first (next_number b) (Some b) (next_few b) eb (later b) (slot_at (Some 1) is) (number_at (Some 1) is ∙ ap next_number (number_is t.slot1.bytes b eb))
    go (Some a) (Some b) ea eb = both a b (b == next_number a) refl ea eb

saved_slot : (body : List ℕ) (t : SlotsTold) → slot_of (target t) (after_save body t) ≡ kept_slot (whole_slot (target_number t) body ++ drop (10 + length body) (slot_of (target t) t).bytes)
saved_slot body t = slot_of-with_slot (target t) (kept_slot (whole_slot (target_number t) body ++ drop (10 + length body) (slot_of (target t) t).bytes)) t

pub loads_saved : (body : List ℕ) (t : SlotsTold) → length body < 2 ^ 64 - 10 → loaded (after_save body t) ≡ Some body
loads_saved body t small =
    ap (option_map (λ slot. body_of (slot_of slot (after_save body t)).bytes)) (newer_saved body t small)
    ∙ ap (λ (s : SlotTold). Some (body_of s.bytes)) (saved_slot body t)
    ∙ ap (λ b. Some b) (said_body (target_number t) body (drop (10 + length body) (slot_of (target t) t).bytes) (omega arith))

-- the next save goes to the other slot, with the next number
pub target_saved : (body : List ℕ) (t : SlotsTold) → length body < 2 ^ 64 - 10 → target (after_save body t) ≡ 1 - target t
target_saved body t small = ap (λ o. option_map_or (λ slot. 1 - slot) o 0) (newer_saved body t small)

pub number_saved : (body : List ℕ) (t : SlotsTold) → length body < 2 ^ 64 - 10 → target_number (after_save body t) ≡ next_number (target_number t)
number_saved body t small =
    ap (λ o. option_map_or (λ slot. next_number (number (slot_of slot (after_save body t)).bytes)) o 0) (newer_saved body t small)
    ∙ ap (λ (s : SlotTold). next_number (number s.bytes)) (saved_slot body t)

-- what is told of a save
pub loads_told : (body : List ℕ) (t u : Option SlotsTold) → length body < 2 ^ 64 - 10 → BothTell (λ t u. u ≡ after_save body t) t u → WhereTold (λ u. loaded u ≡ Some body) u
loads_told body t None small x = tt
loads_told body None (Some u) small x = absurd x
loads_told body (Some t) (Some u) small x = ap loaded x ∙ loads_saved body t small
