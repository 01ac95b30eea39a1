-- What a crash leaves of a slot in each step of a save, by its gate.
use Rattle.std.proofs.Common.{◌≡◌, ℕ, ◌+◌, ◌^◌, ◌≤◌, ◌<◌, ◌==◌, ◌&&◌, not, nat_le, nat_lt, zero, suc, Bool, true, false, true≢false, cond, List, [], ◌∷◌, length, drop, get_or, refl, sym, ap, ◌∙◌, arith, inl, inr, ◌⊎◌}
use Rattle.std.proofs.lemmas.List.{get_or-drop, length-drop, ext_get_or}
use Rattle.std.proofs.lemmas.Bool.Decides.{nat_tests}
use Rattle.slotstore.specs.Slot.{gate, number, body_length, is_valid}
use Rattle.slotstore.specs.Writing.{with_gate}
use Rattle.slotstore.specs.Crashing.{IsStray, SameOrNone, is_shut, shut}
use Rattle.slotstore.proofs.Written.{gate_is}

invalid_gate : (c : List ℕ) → (gate c == 1) ≡ false → is_valid c ≡ false
invalid_gate c e = ap (λ y. y && nat_le (number c) 2 && nat_lt (10 + body_length c) (2 ^ 64) && nat_le (10 + body_length c) (length c)) e

invalid_short : (c : List ℕ) → length c ≤ 1 → is_valid c ≡ false
invalid_short c short =
    let last : nat_le (10 + body_length c) (length c) ≡ false = grind (arith, nat_tests) in
    grind (arith, nat_tests)

is_one : (g : ℕ) → (g == 1) ≡ true → g ≡ 1
is_one g e = grind (arith, nat_tests)

is_shut-gate : (g : ℕ) (rest : List ℕ) → is_shut (g ∷ rest) ≡ not (g == 1)
is_shut-gate g rest =
    let some : nat_lt 0 (suc (length rest)) ≡ true = grind (arith, nat_tests) in
    ap (λ y. y && not (g == 1)) some

-- a slot whose gate was shut has a closed gate before what stood behind the gate
pub shut_is : (b : List ℕ) → (g : ℕ) × ((g == 1) ≡ false) × (shut b ≡ g ∷ drop 1 b)
shut_is [] = (0, refl, gate_is 0 [])
shut_is (g ∷ rest) = go (g == 1) refl
  where
    go : (x : Bool) → (g == 1) ≡ x → (v : ℕ) × ((v == 1) ≡ false) × (shut (g ∷ rest) ≡ v ∷ drop 1 (g ∷ rest))
    go true e =
        let open_gate : is_shut (g ∷ rest) ≡ false = is_shut-gate g rest ∙ ap not e in
        (0, refl, ap (λ y. cond y (g ∷ rest) (with_gate 0 (g ∷ rest))) open_gate ∙ gate_is 0 (g ∷ rest))
    go false e =
        let closed_gate : is_shut (g ∷ rest) ≡ true = is_shut-gate g rest ∙ ap not e in
        (g, e, ap (λ y. cond y (g ∷ rest) (with_gate 0 (g ∷ rest))) closed_gate)

-- only the gate was written
gate_list : (b c : List ℕ) (v : ℕ) → 1 ≤ length b → IsStray 0 1 b c → gate c ≡ v → c ≡ v ∷ drop 1 b
gate_list b c v some s is = ext_get_or 0 c (v ∷ drop 1 b) (omega (arith, s.no_shorter, s.no_longer, length-drop 1 b)) each
  where
    each : (k : ℕ) → k < length c → get_or c k 0 ≡ get_or (v ∷ drop 1 b) k 0
    each zero within = is
    each (suc j) within =
        let one : 1 + j ≡ suc j = omega arith in
        s.same (suc j) (omega (arith, within, s.no_longer, some)) (inr (omega arith)) ∙ sym (ap (λ i. get_or b i 0) one) ∙ sym (get_or-drop 1 b j 0)

-- while the gate of a slot is shut that was open, or not there
pub stray_shut : (b c : List ℕ) → is_shut b ≡ false → IsStray 0 1 b c → SameOrNone b c
stray_shut [] c open_gate s = inr (invalid_short c (omega (arith, s.no_longer)))
stray_shut (g ∷ rest) c open_gate s = go (gate c == 1) refl (g == 1) refl
  where
    go : (x : Bool) → (gate c == 1) ≡ x → (y : Bool) → (g == 1) ≡ y → SameOrNone (g ∷ rest) c
    go false e y f = inr (invalid_gate c e)
    go true e true f = inl (gate_list (g ∷ rest) c 1 (omega arith) s (is_one (gate c) e) ∙ ap (λ x. x ∷ rest) (sym (is_one g f)))
    go true e false f = absurd (true≢false (sym (is_shut-gate g rest ∙ ap not f) ∙ open_gate))

-- while a slot is filled behind a closed gate
pub stray_fill : (g n : ℕ) (rest c : List ℕ) → (g == 1) ≡ false → IsStray 1 n (g ∷ rest) c → is_valid c ≡ false
stray_fill g n rest c e s =
    let same : gate c ≡ g = s.same 0 (omega arith) (inl (omega arith)) in
    invalid_gate c (ap (λ x. x == 1) same ∙ e)

-- while a closed gate is opened
pub stray_open : (g : ℕ) (rest c : List ℕ) → IsStray 0 1 (g ∷ rest) c → (c ≡ 1 ∷ rest) ⊎ (is_valid c ≡ false)
stray_open g rest c s = go (gate c == 1) refl
  where
    go : (x : Bool) → (gate c == 1) ≡ x → (c ≡ 1 ∷ rest) ⊎ (is_valid c ≡ false)
    go false e = inr (invalid_gate c e)
    go true e = inl (gate_list (g ∷ rest) c 1 (omega arith) s (is_one (gate c) e))
