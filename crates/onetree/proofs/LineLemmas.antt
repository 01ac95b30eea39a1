-- Lines of duals, one behind the other.
use Rattle.std.proofs.Common.{◌≡◌, ℕ, ◌+◌, ◌^◌, ◌<◌, List, [], ◌∷◌, ◌++◌, length, get_or, drop, map, sym, ◌∙◌, ap, arith, append_assoc}
use Rattle.std.specs.Prelude.{nat_abs, codes, ◌==◌, ℤ, pos, negsuc}
use mir.Syntax.{w64}
use mir.Val.{of_z, SFits}
use Rattle.std.proofs.lemmas.Bool.{cond-true, cond-false, eq-eqb, ne_eqb}
use Rattle.std.proofs.lemmas.List.{append-nil, at_drop_more, map-append}
use Rattle.std.proofs.lemmas.Grind.{flat_map-append}
use Rattle.certdef.specs.Items.{Item, city_line, size_line, bound_line, line}
use Rattle.certdef.specs.Proofs.{city_item, text_of, ended}
use Rattle.onetree.specs.Certificates.{said, written_duals, text, certificate_of}

pub said-append : (xs ys : List Item) → said (xs ++ ys) ≡ said xs ++ said ys
said-append xs ys = ap text_of (map-append line xs ys) ∙ flat_map-append ended (map line xs) (map line ys)

-- what is put so far, and what is to come
goes_to : {X : Type 0} (G : List X → List ℕ) (out new start : List ℕ) (xs : List X) (i : ℕ) (x : X) (g t : List ℕ) → i < length xs → x ≡ get_or xs i x
    → G (x ∷ drop (i + 1) xs) ≡ g ++ t → out ++ G (drop i xs) ≡ start → new ≡ out ++ g → new ++ t ≡ start
goes_to G out new start xs i x g t l at step h e =
    ap (λ r. r ++ t) e ∙ append_assoc out g t ∙ ap (λ r. out ++ r) (sym step)
    ∙ ap (λ y. out ++ G (y ∷ drop (i + 1) xs)) at ∙ ap (λ r. out ++ r) (sym (at_drop_more G xs i x l)) ∙ h

said_step : {X : Type 0} (f : X → Item) (x : X) (xs : List X) → said (map f (x ∷ xs)) ≡ said (f x ∷ []) ++ said (map f xs)
said_step f x xs = said-append (f x ∷ []) (map f xs)

no_city : (v : ℕ) (y : ℤ) (ys : List ℤ) → nat_abs y ≡ 0 → written_duals v (y ∷ ys) ≡ written_duals (v + 1) ys
no_city v y ys e = cond-true (nat_abs y == 0) (written_duals (v + 1) ys) ((v, y) ∷ written_duals (v + 1) ys) (eq-eqb (nat_abs y) 0 e)

one_city : (v : ℕ) (y : ℤ) (ys : List ℤ) → (nat_abs y ≡ 0 → ⊥) → written_duals v (y ∷ ys) ≡ (v, y) ∷ written_duals (v + 1) ys
one_city v y ys e = cond-false (nat_abs y == 0) (written_duals (v + 1) ys) ((v, y) ∷ written_duals (v + 1) ys) (ne_eqb (nat_abs y) 0 e)

-- a signed number's bits are 0 where it is
pub bits_zero : (y : ℤ) → nat_abs y ≡ 0 → of_z w64 y ≡ 0
bits_zero (pos n) e = e
bits_zero (negsuc n) e = absurd (omega arith)

pub zero_bits : (y : ℤ) → SFits w64 y → of_z w64 y ≡ 0 → nat_abs y ≡ 0
zero_bits (pos n) f e = e
zero_bits (negsuc n) f e = let small : n < 2 ^ 63 = f.sfits in absurd (omega arith)

-- the lines of cities from some place on
abbrev pub dual_lines : ℕ → List ℤ → List ℕ
dual_lines v ys = said (map city_item (written_duals v ys))

pub city_put : (out new start : List ℕ) (ys : List ℤ) (i : ℕ) (y : ℤ) → i < length ys → y ≡ get_or ys i y → (nat_abs y ≡ 0 → ⊥) → new ≡ out ++ said (city_line (i + 1) y ∷ [])
    → out ++ dual_lines (i + 1) (drop i ys) ≡ start → new ++ dual_lines (i + 1 + 1) (drop (i + 1) ys) ≡ start
city_put out new start ys i y l at ne e h =
    let rest = drop (i + 1) ys in
    goes_to (dual_lines (i + 1)) out new start ys i y (said (city_line (i + 1) y ∷ [])) (dual_lines (i + 1 + 1) rest) l at
    (ap (λ ps. said (map city_item ps)) (one_city (i + 1) y rest ne) ∙ said_step city_item (i + 1, y) (written_duals (i + 1 + 1) rest)) h e

pub city_passed : (out new start : List ℕ) (ys : List ℤ) (i : ℕ) (y : ℤ) → i < length ys → y ≡ get_or ys i y → nat_abs y ≡ 0 → new ≡ out
    → out ++ dual_lines (i + 1) (drop i ys) ≡ start → new ++ dual_lines (i + 1 + 1) (drop (i + 1) ys) ≡ start
city_passed out new start ys i y l at z e h =
    let rest = drop (i + 1) ys in
    goes_to (dual_lines (i + 1)) out new start ys i y [] (dual_lines (i + 1 + 1) rest) l at
    (ap (λ ps. said (map city_item ps)) (no_city (i + 1) y rest z)) h (e ∙ sym (append-nil out))

-- the four parts of a certificate
pub parts_put : (o s t u v : List ℕ) (p : List ℤ) (n b : ℕ) → o ≡ [] → n ≡ length p → s ≡ o ++ ended (codes "TSPTREE 1") → t ≡ s ++ said (size_line n ∷ [])
    → u ≡ t ++ said (bound_line b ∷ []) → v ≡ u ++ said (map city_item (written_duals 1 p)) → v ≡ text (certificate_of p b)
parts_put o s t u v p n b none size e f g h =
    let first = ended (codes "TSPTREE 1") in
    let x = said (size_line n ∷ []) in
    let y = said (bound_line b ∷ []) in
    let ds = map city_item (written_duals 1 p) in
    h ∙ ap (λ r. r ++ said ds) (g ∙ ap (λ r. r ++ y) (f ∙ ap (λ r. r ++ x) (e ∙ ap (λ r. r ++ first) none)))
    ∙ append_assoc (first ++ x) y (said ds)
    ∙ append_assoc first x (y ++ said ds)
    ∙ ap (λ r. first ++ (x ++ r)) (sym (said-append (bound_line b ∷ []) ds))
    ∙ ap (λ r. first ++ r) (sym (said-append (size_line n ∷ []) (bound_line b ∷ ds)))
    ∙ ap (λ k. first ++ said (size_line k ∷ bound_line b ∷ ds)) size
