-- Lines put together word by word.
use Rattle.std.proofs.Common.{◌≡◌, ℕ, ◌+◌, List, [], ◌∷◌, ◌++◌, length, map, refl, sym, ◌∙◌, ap, append_assoc, decimal}
use Rattle.std.specs.Prelude.{codes}
use Rattle.std.specs.List.{join_with_byte, flat_map}
use Rattle.std.proofs.lemmas.List.{append-nil, map-append, length-map}
use Rattle.std.proofs.lemmas.Grind.{flat_map-append}
use Rattle.certdef.specs.Items.{Item, set_words, tour_line, leaf_line, line}
use Rattle.certdef.specs.Proofs.{Duals, closed_leaf, city_item, cut_item, condition_item, tree_items, text_of, ended}
use Rattle.certform.specs.Written.{from_one}
use Rattle.certform.specs.Lines.{said, behind_space, spelled, set_bytes}

-- words, each behind a space
abbrev pub spaced : List (List ℕ) → List ℕ
spaced ws = flat_map (λ w. 32 ∷ w) ws

pub joined : (w : List ℕ) (ws : List (List ℕ)) → join_with_byte 32 (w ∷ ws) ≡ w ++ spaced ws
joined w [] = sym (append-nil w)
joined w (x ∷ xs) = ap (λ r. w ++ (32 ∷ r)) (joined x xs)

pub said-append : (xs ys : List Item) → said (xs ++ ys) ≡ said xs ++ said ys
said-append xs ys = ap text_of (map-append line xs ys) ∙ flat_map-append ended (map line xs) (map line ys)

pub spelled_is : (s : List ℕ) → spelled s ≡ spaced (map decimal (from_one s))
spelled_is [] = refl
spelled_is (c ∷ cs) = ap (λ r. (32 ∷ decimal (c + 1)) ++ r) (spelled_is cs)

set_put : (o w s : List ℕ) → (((o ++ w) ++ behind_space (length s)) ++ spelled s) ++ 10 ∷ [] ≡ o ++ set_bytes w s
set_put o w s =
    let n = length-map s (λ c. c + 1) in
    let bytes : join_with_byte 32 (w ∷ set_words (from_one s)) ≡ w ++ (behind_space (length s) ++ spelled s) =
    joined w (set_words (from_one s)) ∙ ap (λ k. w ++ (behind_space k ++ spaced (map decimal (from_one s)))) n ∙ ap (λ r. w ++ (behind_space (length s) ++ r)) (sym (spelled_is s)) in
    ap (λ r. r ++ 10 ∷ []) (append_assoc (o ++ w) (behind_space (length s)) (spelled s) ∙ append_assoc o w (behind_space (length s) ++ spelled s) ∙ ap (λ r. o ++ r) (sym bytes))
    ∙ append_assoc o (join_with_byte 32 (w ∷ set_words (from_one s))) (10 ∷ [])

pub set_puts : (o a b c d w s : List ℕ) → a ≡ o ++ w → b ≡ a ++ behind_space (length s) → c ≡ b ++ spelled s → d ≡ c ++ 10 ∷ [] → d ≡ o ++ set_bytes w s
set_puts o a b c d w s e f g h =
    h ∙ ap (λ r. r ++ 10 ∷ []) (g ∙ ap (λ r. r ++ spelled s) (f ∙ ap (λ r. r ++ behind_space (length s)) e)) ∙ set_put o w s

pub tour_puts : (o a b c s : List ℕ) → a ≡ o ++ codes "TOUR" → b ≡ a ++ spelled s → c ≡ b ++ 10 ∷ [] → c ≡ o ++ said (tour_line (from_one s) ∷ [])
tour_puts o a b c s e f g =
    let w = codes "TOUR" in
    let l : line (tour_line (from_one s)) ≡ w ++ spelled s = joined w (map decimal (from_one s)) ∙ ap (λ r. w ++ r) (sym (spelled_is s)) in
    g ∙ ap (λ r. r ++ 10 ∷ []) (f ∙ ap (λ r. r ++ spelled s) e ∙ append_assoc o w (spelled s)) ∙ append_assoc o (w ++ spelled s) (10 ∷ [])
    ∙ ap (λ r. o ++ r) (ap (λ r. r ++ 10 ∷ []) (sym l) ∙ sym (append-nil (line (tour_line (from_one s)) ++ 10 ∷ [])))

-- the lines of a closed leaf
leaf_said : (o : List ℕ) (d : Duals) → (((o ++ said (leaf_line (length d.cities) (length d.cuts) (length d.conds) ∷ [])) ++ said (map city_item d.cities)) ++ said (map cut_item d.cuts)) ++ said (map condition_item d.conds)
    ≡ o ++ said (tree_items (closed_leaf d))
leaf_said o d =
    let l = leaf_line (length d.cities) (length d.cuts) (length d.conds) ∷ [] in
    let a = map city_item d.cities in let b = map cut_item d.cuts in let c = map condition_item d.conds in
    append_assoc ((o ++ said l) ++ said a) (said b) (said c) ∙ append_assoc (o ++ said l) (said a) (said b ++ said c) ∙ append_assoc o (said l) (said a ++ (said b ++ said c))
    ∙ ap (λ r. o ++ (said l ++ (said a ++ r))) (sym (said-append b c))
    ∙ ap (λ r. o ++ (said l ++ r)) (sym (said-append a (b ++ c)))
    ∙ ap (λ r. o ++ r) (sym (said-append l (a ++ (b ++ c))))

pub leaf_puts : (o a b c e : List ℕ) (d : Duals) (x y z : ℕ) → x ≡ length d.cities → y ≡ length d.cuts → z ≡ length d.conds
    → a ≡ o ++ said (leaf_line x y z ∷ []) → b ≡ a ++ said (map city_item d.cities) → c ≡ b ++ said (map cut_item d.cuts) → e ≡ c ++ said (map condition_item d.conds)
    → e ≡ o ++ said (tree_items (closed_leaf d))
leaf_puts o a b c e d x y z p q r f g h k =
    let l : ◌≡◌ {A = Item} (leaf_line x y z) (leaf_line (length d.cities) (length d.cuts) (length d.conds)) = cc in
    k ∙ ap (λ s. s ++ said (map condition_item d.conds)) (h ∙ ap (λ s. s ++ said (map cut_item d.cuts)) (g ∙ ap (λ s. s ++ said (map city_item d.cities)) (f ∙ ap (λ s. o ++ said (s ∷ [])) l)))
    ∙ leaf_said o d
