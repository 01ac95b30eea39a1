-- Steps of loops over lists.
use Rattle.std.proofs.Common.{◌≡◌, ℕ, ◌+◌, ◌^◌, ◌<◌, ◌≤◌, Bool, ◌||◌, List, [], ◌∷◌, ◌++◌, length, get_or, drop, map, refl, sym, ◌∙◌, ap, arith, append_assoc, ⊎_elim}
use Rattle.std.specs.Prelude.{nat_abs, nat_lt, ◌==◌, ℤ, pos, negsuc, Option, Some, None}
use Rattle.std.specs.Borrow.{Bor}
use mir.Syntax.{w64}
use mir.Val.{of_z, SFits}
use Rattle.std.specs.List.{list_any, position, position_or_len}
use Rattle.std.specs.Ordering.{eq_by_cmp}
use Rattle.std.proofs.lemmas.Bool.{cases_Bool, cond-true, cond-false, cond_both, eq-eqb, ltb-false, ne_eqb}
use Rattle.std.proofs.lemmas.List.{append-nil, length-map, at_drop_more}
use Rattle.indexmap.specs.IndexSet.{insert_key}
use Rattle.tspdef.specs.Cuts.{Cut, cut_cmp}
use Rattle.certdef.specs.Items.{Item, city_line}
use Rattle.certdef.specs.Proofs.{city_item}
use Rattle.certform.specs.Written.{is_same_cut, with_cut, with_cuts, number_of, written_cities}
use Rattle.certform.specs.Lines.{said}
use Rattle.certform.proofs.LineLemmas.{said-append}

-- ---- what is put so far, and what is to come

goes_to : {X : Type 0} (G : List X → List ℕ) (out new start : List ℕ) (xs : List X) (i : ℕ) (x : X) (g t : List ℕ) → i < length xs → x ≡ get_or xs i x
    → G (x ∷ drop (i + 1) xs) ≡ g ++ t → out ++ G (drop i xs) ≡ start → new ≡ out ++ g → new ++ t ≡ start
goes_to G out new start xs i x g t l at step h e =
    ap (λ r. r ++ t) e ∙ append_assoc out g t ∙ ap (λ r. out ++ r) (sym step)
    ∙ ap (λ y. out ++ G (y ∷ drop (i + 1) xs)) at ∙ ap (λ r. out ++ r) (sym (at_drop_more G xs i x l)) ∙ h

-- lines of a list, one for each element
pub said_step : {X : Type 0} (f : X → Item) (x : X) (xs : List X) → said (map f (x ∷ xs)) ≡ said (f x ∷ []) ++ said (map f xs)
said_step f x xs = said-append (f x ∷ []) (map f xs)

-- ---- cities whose dual is not 0

pub no_city : (v : ℕ) (y : ℤ) (ys : List ℤ) → nat_abs y ≡ 0 → written_cities v (y ∷ ys) ≡ written_cities (v + 1) ys
no_city v y ys e = cond-true (nat_abs y == 0) (written_cities (v + 1) ys) ((v, y) ∷ written_cities (v + 1) ys) (eq-eqb (nat_abs y) 0 e)

pub one_city : (v : ℕ) (y : ℤ) (ys : List ℤ) → (nat_abs y ≡ 0 → ⊥) → written_cities v (y ∷ ys) ≡ (v, y) ∷ written_cities (v + 1) ys
one_city v y ys e = cond-false (nat_abs y == 0) (written_cities (v + 1) ys) ((v, y) ∷ written_cities (v + 1) ys) (ne_eqb (nat_abs y) 0 e)

-- a signed number's bits are 0 where it is
pub bits_zero : (y : ℤ) → nat_abs y ≡ 0 → of_z w64 y ≡ 0
bits_zero (pos n) e = e
bits_zero (negsuc n) e = absurd (omega arith)

pub zero_bits : (y : ℤ) → SFits w64 y → of_z w64 y ≡ 0 → nat_abs y ≡ 0
zero_bits (pos n) f e = e
zero_bits (negsuc n) f e = let small : n < 2 ^ 63 = f.sfits in absurd (omega arith)

-- the lines of cities from some place on
abbrev pub city_lines : ℕ → List ℤ → List ℕ
city_lines v ys = said (map city_item (written_cities v ys))

pub city_put : (out new start : List ℕ) (ys : List ℤ) (i : ℕ) (y : ℤ) → i < length ys → y ≡ get_or ys i y → (nat_abs y ≡ 0 → ⊥) → new ≡ out ++ said (city_line (i + 1) y ∷ [])
    → out ++ city_lines (i + 1) (drop i ys) ≡ start → new ++ city_lines (i + 1 + 1) (drop (i + 1) ys) ≡ start
city_put out new start ys i y l at ne e h =
    let rest = drop (i + 1) ys in
    goes_to (city_lines (i + 1)) out new start ys i y (said (city_line (i + 1) y ∷ [])) (city_lines (i + 1 + 1) rest) l at
    (ap (λ ps. said (map city_item ps)) (one_city (i + 1) y rest ne) ∙ said_step city_item (i + 1, y) (written_cities (i + 1 + 1) rest)) h e

pub city_passed : (out new start : List ℕ) (ys : List ℤ) (i : ℕ) (y : ℤ) → i < length ys → y ≡ get_or ys i y → nat_abs y ≡ 0 → new ≡ out
    → out ++ city_lines (i + 1) (drop i ys) ≡ start → new ++ city_lines (i + 1 + 1) (drop (i + 1) ys) ≡ start
city_passed out new start ys i y l at z e h =
    let rest = drop (i + 1) ys in
    goes_to (city_lines (i + 1)) out new start ys i y [] (city_lines (i + 1 + 1) rest) l at
    (ap (λ ps. said (map city_item ps)) (no_city (i + 1) y rest z)) h (e ∙ sym (append-nil out))

-- ---- keys and cuts

abbrev pub cuts_in : List (Bor Cut) → List Cut
cuts_in ks = map (λ c. c.now) ks

abbrev pub same_key : Bor Cut → Bor Cut → Bool
same_key a b = eq_by_cmp cut_cmp a.now b.now

any_key : (k : Bor Cut) (ks : List (Bor Cut)) → list_any (same_key k) ks ≡ list_any (is_same_cut k.now) (cuts_in ks)
any_key k [] = refl
any_key k (x ∷ xs) = ap (λ b. same_key k x || b) (any_key k xs)

push_key : (k : Bor Cut) (ks : List (Bor Cut)) → cuts_in (ks ++ k ∷ []) ≡ cuts_in ks ++ k.now ∷ []
push_key k [] = refl
push_key k (x ∷ xs) = ap (λ r. x.now ∷ r) (push_key k xs)

pub insert_cut : (k : Bor Cut) (ks : List (Bor Cut)) → cuts_in (insert_key same_key ks k) ≡ with_cut (cuts_in ks) k.now
insert_cut k ks = cond_both (list_any (same_key k) ks) ks (ks ++ k ∷ []) (λ r. cuts_in r ≡ with_cut (cuts_in ks) k.now)
    (λ e. sym (cond-true (list_any (is_same_cut k.now) (cuts_in ks)) (cuts_in ks) (cuts_in ks ++ k.now ∷ []) (sym (any_key k ks) ∙ e)))
    (λ e. push_key k ks ∙ sym (cond-false (list_any (is_same_cut k.now) (cuts_in ks)) (cuts_in ks) (cuts_in ks ++ k.now ∷ []) (sym (any_key k ks) ∙ e)))

pub number_at : (k : Bor Cut) (ks : List (Bor Cut)) → number_of (cuts_in ks) k.now ≡ position_or_len (same_key k) ks + 1
number_at k [] = refl
number_at k (x ∷ xs) = let ih = number_at k xs in grind arith

pub cuts_go : (old new : List (Bor Cut)) (k : Bor Cut) (start : List Cut) (qs : List (Cut × ℕ)) (i : ℕ) (q : Cut × ℕ) → i < length qs → q ≡ get_or qs i q → k.now ≡ q.0
    → new ≡ insert_key same_key old k → with_cuts (cuts_in old) (drop i qs) ≡ start → with_cuts (cuts_in new) (drop (i + 1) qs) ≡ start
cuts_go old new k start qs i q l at is e h =
    let rest = drop (i + 1) qs in
    ap (λ ks. with_cuts (cuts_in ks) rest) e ∙ ap (λ cs. with_cuts cs rest) (insert_cut k old) ∙ ap (λ c. with_cuts (with_cut (cuts_in old) c) rest) is
    ∙ ap (λ y. with_cuts (cuts_in old) (y ∷ rest)) at ∙ sym (at_drop_more (with_cuts (cuts_in old)) qs i q l) ∙ h

number_most : (cs : List Cut) (c : Cut) → number_of cs c ≤ length cs + 1
number_most [] c = omega arith
number_most (x ∷ xs) c = cond_both (is_same_cut c x) 1 (number_of xs c + 1) (λ k. k ≤ length (x ∷ xs) + 1) (λ e. omega arith) (λ e. let ih = number_most xs c in omega arith)

pub number_found : (k : Bor Cut) (ks : List (Bor Cut)) (i : ℕ) → position (same_key k) ks ≡ Some i → i + 1 ≡ number_of (cuts_in ks) k.now
number_found k ks i e =
    let p = position_or_len (same_key k) ks in
    let n = number_at k ks in ⊎_elim
    (λ t. let f : Some p ≡ Some i = sym (cond-true (nat_lt p (length ks)) (Some p) None t) ∙ e in let g : p ≡ i = cc in omega arith)
    (λ t. let f : ◌≡◌ {A = Option ℕ} None (Some i) = sym (cond-false (nat_lt p (length ks)) (Some p) None t) ∙ e in absurd (cc))
    (cases_Bool (nat_lt p (length ks)))

pub number_missing : (k : Bor Cut) (ks : List (Bor Cut)) → position (same_key k) ks ≡ None → length ks + 1 ≡ number_of (cuts_in ks) k.now
number_missing k ks e =
    let p = position_or_len (same_key k) ks in
    let n = number_at k ks in ⊎_elim
    (λ t. let f : ◌≡◌ {A = Option ℕ} (Some p) None = sym (cond-true (nat_lt p (length ks)) (Some p) None t) ∙ e in absurd (cc))
    (λ t. let more = ltb-false p (length ks) t in let most = number_most (cuts_in ks) k.now in let l = length-map ks (λ (c : Bor Cut). c.now) in omega arith)
    (cases_Bool (nat_lt p (length ks)))
