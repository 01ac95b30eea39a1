-- a line by its first word and what stands behind it
use Rattle.std.proofs.Common.{◌≡◌, ℕ, suc, ◌^◌, ◌<◌, ◌≤◌, Bool, true, false, eqb, cond, List, [], ◌∷◌, ◌++◌, length, get_or, drop, take, map, decimal, codes, Option, Some, None, ℤ, refl, sym, ap, ◌∙◌, subst, arith, one-add}
use Rattle.std.specs.Prelude.{nat_le, nat_lt, ◌==◌, ◌&&◌}
use Rattle.std.specs.Fmt.{signed_decimal}
use Rattle.std.specs.Str.{bytes_eq}
use Rattle.std.specs.Str.Parse.{signed_digits_value}
use Rattle.std.specs.List.{AllByRecursion, All, join_with_byte, slice_split, position, position_or_len}
use Rattle.std.proofs.lemmas.Bool.{and_from, and_parts, le-leb, leb-true, eqb-true, ltb-false}
use Rattle.std.proofs.lemmas.List.Elements.{All-from_recursion}
use Rattle.std.proofs.lemmas.List.Splits.{slice_split_none, slice_split_at}
use Rattle.certdef.specs.Items.{Item, title_line, size_line, length_line, bound_line, tour_line, cuts_line, subtour_line, comb_line, handle_line, tooth_line, odd_line, pair_line, edge_line, clique_line, leaf_line, city_line, cut_line, condition_line, open_line, words, line, in_bounds, longest, fits, value, values, only_item, item_of}
use Rattle.verdict.proofs.Lines.{item_said, item_again}
use Rattle.certline.specs.Spelling.{EndsWord, spaced}
use Rattle.certline.specs.Words.{word_of}
use Rattle.certline.specs.declared.keyword.Keyword.{Keyword}
use Rattle.certline.specs.declared.keyword.Keyword.TheVariants as keywords

append_nil : {X : Type 0} (xs : List X) → xs ++ [] ≡ xs
append_nil [] = refl
append_nil (x ∷ xs) = ap (λ r. x ∷ r) (append_nil xs)

cancel : (w : List ℕ) (xs ys : List ℕ) → w ++ xs ≡ w ++ ys → xs ≡ ys
cancel [] xs ys e = e
cancel (b ∷ w) xs ys e = cancel w xs ys (ap (drop 1) e)

-- ---- how lines are joined

pub numbers_joined : (w : List ℕ) (ns : List ℕ) → join_with_byte 32 (w ∷ map decimal ns) ≡ w ++ spaced ns
numbers_joined w [] = sym (append_nil w)
numbers_joined w (n ∷ ns) = ap (λ r. w ++ (32 ∷ r)) (numbers_joined (decimal n) ns)

-- ---- the first word

-- no byte of a word is a blank
abbrev pub IsPlain : List ℕ → Type 0
IsPlain w = AllByRecursion (λ b. eqb b 32 ≡ false) w

is_plain : (w : List ℕ) → IsPlain w → All (λ b. eqb b 32 ≡ false) w
is_plain w h = All-from_recursion (λ b. eqb b 32 ≡ false) w h

first_word : (w tail : List ℕ) → IsPlain w → EndsWord tail → (ws : List (List ℕ)) × (slice_split (λ b. eqb b 32) (w ++ tail) ≡ w ∷ ws)
first_word w [] h e = ([], ap (slice_split (λ b. eqb b 32)) (append_nil w) ∙ slice_split_none (λ b. eqb b 32) w (is_plain w h))
first_word w (b ∷ bs) h e = (
  slice_split (λ b. eqb b 32) bs,
  ap (λ x. slice_split (λ b. eqb b 32) (w ++ x ∷ bs)) e ∙ slice_split_at (λ b. eqb b 32) w 32 bs (is_plain w h) refl,
)

chosen : (b : Bool) (x i : Item) → cond b (Some x) None ≡ Some i → x ≡ i
chosen true x i e = cc
chosen false x i e = cc

-- an item whose line has this first word is the only one that such words could spell
only : (n : ℕ) (w tail : List ℕ) (i : Item) → IsPlain w → EndsWord tail → item_of n (w ++ tail) ≡ Some i → (ws : List (List ℕ)) × (only_item w ws ≡ i)
unfolding item_of
only n w tail i h t e =
    let f = first_word w tail h t in
    let bytes = w ++ tail in
    let ws = slice_split (λ b. eqb b 32) bytes in
    let x = only_item (get_or ws 0 []) (drop 1 ws) in
    (f.0, ap (λ r. only_item (get_or r 0 []) (drop 1 r)) (sym f.1) ∙ chosen (bytes_eq (line x) bytes && fits n x) x i e)

none : (n : ℕ) (bytes : List ℕ) (r : Option Item) → r ≡ item_of n bytes → ((i : Item) → item_of n bytes ≡ Some i → ⊥) → None ≡ r
none n bytes None e never = refl
none n bytes (Some i) e never = absurd (never i (sym e))

bounds : (n : ℕ) (i : Item) → fits n i ≡ true → in_bounds n i ≡ true
bounds n i f = (and_parts (in_bounds n i) (nat_le (length (line i)) longest) f).0

-- bytes are no line where they spell none of the items that such words could
pub refused : (n : ℕ) (w tail : List ℕ) → IsPlain w → EndsWord tail → ((ws : List (List ℕ)) → in_bounds n (only_item w ws) ≡ true → w ++ tail ≡ line (only_item w ws) → ⊥) → None ≡ item_of n (w ++ tail)
refused n w tail h t never = none n (w ++ tail) (item_of n (w ++ tail)) refl (λ i e.
    let o = only n w tail i h t e in
    let s = item_said n (w ++ tail) i e in
    never o.0 (subst (λ x. in_bounds n x ≡ true) (sym o.1) (bounds n i s.1)) (s.0 ∙ ap line (sym o.1)))

pub read_as : (n : ℕ) (i : Item) (bytes : List ℕ) → n < 2 ^ 32 → bytes ≡ line i → in_bounds n i ≡ true → length bytes ≤ longest → Some i ≡ item_of n bytes
read_as n i bytes h e b l =
    let short = ap length e in
    sym (ap (item_of n) e ∙ item_again n i h (and_from (in_bounds n i) (nat_le (length (line i)) longest) b (le-leb (length (line i)) longest (omega arith))))

-- a line of numbers behind a word is read as its item
pub numbers_read : (n : ℕ) (i : Item) (w tail ns : List ℕ) → n < 2 ^ 32 → words i ≡ w ∷ map decimal ns → tail ≡ spaced ns → in_bounds n i ≡ true → length (w ++ tail) ≤ longest → Some i ≡ item_of n (w ++ tail)
numbers_read n i w tail ns h e t b l = read_as n i (w ++ tail) h (ap (λ r. w ++ r) t ∙ sym (numbers_joined w ns) ∙ ap (join_with_byte 32) (sym e)) b l

-- what stands behind the word where such a line is spelled
behind_word : (w tail ns : List ℕ) → w ++ tail ≡ join_with_byte 32 (w ∷ map decimal ns) → tail ≡ spaced ns
behind_word w tail ns e = cancel w tail (spaced ns) (e ∙ numbers_joined w ns)

-- ---- lines that are not of the form, by their first word

pub no_title : (n : ℕ) (tail : List ℕ) → EndsWord tail → ((m : ℕ) → in_bounds n (title_line m) ≡ true → tail ≡ spaced (m ∷ []) → ⊥) → None ≡ item_of n (codes "TSPCERT" ++ tail)
unfolding only_item
no_title n tail t never = refused n (codes "TSPCERT") tail (refl, (refl, (refl, (refl, (refl, (refl, (refl, tt))))))) t (λ ws b e. let m = value (get_or ws 0 []) in never m b (behind_word (codes "TSPCERT") tail (m ∷ []) e))

pub no_size : (n : ℕ) (tail : List ℕ) → EndsWord tail → ((m : ℕ) → in_bounds n (size_line m) ≡ true → tail ≡ spaced (m ∷ []) → ⊥) → None ≡ item_of n (codes "N" ++ tail)
unfolding only_item
no_size n tail t never = refused n (codes "N") tail (refl, tt) t (λ ws b e. let m = value (get_or ws 0 []) in never m b (behind_word (codes "N") tail (m ∷ []) e))

pub no_length : (n : ℕ) (tail : List ℕ) → EndsWord tail → ((m : ℕ) → in_bounds n (length_line m) ≡ true → tail ≡ spaced (m ∷ []) → ⊥) → None ≡ item_of n (codes "LENGTH" ++ tail)
unfolding only_item
no_length n tail t never = refused n (codes "LENGTH") tail (refl, (refl, (refl, (refl, (refl, (refl, tt)))))) t (λ ws b e. let m = value (get_or ws 0 []) in never m b (behind_word (codes "LENGTH") tail (m ∷ []) e))

pub no_bound : (n : ℕ) (tail : List ℕ) → EndsWord tail → ((m : ℕ) → in_bounds n (bound_line m) ≡ true → tail ≡ spaced (m ∷ []) → ⊥) → None ≡ item_of n (codes "BOUND" ++ tail)
unfolding only_item
no_bound n tail t never = refused n (codes "BOUND") tail (refl, (refl, (refl, (refl, (refl, tt))))) t (λ ws b e. let m = value (get_or ws 0 []) in never m b (behind_word (codes "BOUND") tail (m ∷ []) e))

pub no_cuts : (n : ℕ) (tail : List ℕ) → EndsWord tail → ((m : ℕ) → in_bounds n (cuts_line m) ≡ true → tail ≡ spaced (m ∷ []) → ⊥) → None ≡ item_of n (codes "CUTS" ++ tail)
unfolding only_item
no_cuts n tail t never = refused n (codes "CUTS") tail (refl, (refl, (refl, (refl, tt)))) t (λ ws b e. let m = value (get_or ws 0 []) in never m b (behind_word (codes "CUTS") tail (m ∷ []) e))

pub no_comb : (n : ℕ) (tail : List ℕ) → EndsWord tail → ((m : ℕ) → in_bounds n (comb_line m) ≡ true → tail ≡ spaced (m ∷ []) → ⊥) → None ≡ item_of n (codes "C" ++ tail)
unfolding only_item
no_comb n tail t never = refused n (codes "C") tail (refl, tt) t (λ ws b e. let m = value (get_or ws 0 []) in never m b (behind_word (codes "C") tail (m ∷ []) e))

pub no_odd : (n : ℕ) (tail : List ℕ) → EndsWord tail → ((m : ℕ) → in_bounds n (odd_line m) ≡ true → tail ≡ spaced (m ∷ []) → ⊥) → None ≡ item_of n (codes "B" ++ tail)
unfolding only_item
no_odd n tail t never = refused n (codes "B") tail (refl, tt) t (λ ws b e. let m = value (get_or ws 0 []) in never m b (behind_word (codes "B") tail (m ∷ []) e))

pub no_tour : (n : ℕ) (tail : List ℕ) → EndsWord tail → ((cs : List ℕ) → in_bounds n (tour_line cs) ≡ true → tail ≡ spaced cs → ⊥) → None ≡ item_of n (codes "TOUR" ++ tail)
unfolding only_item
no_tour n tail t never = refused n (codes "TOUR") tail (refl, (refl, (refl, (refl, tt)))) t (λ ws b e. never (values ws) b (behind_word (codes "TOUR") tail (values ws) e))

pub no_subtour : (n : ℕ) (tail : List ℕ) → EndsWord tail → ((s : List ℕ) → in_bounds n (subtour_line s) ≡ true → tail ≡ spaced (length s ∷ s) → ⊥) → None ≡ item_of n (codes "S" ++ tail)
unfolding only_item
no_subtour n tail t never = refused n (codes "S") tail (refl, tt) t (λ ws b e. let s = values (drop 1 ws) in never s b (behind_word (codes "S") tail (length s ∷ s) e))

pub no_handle : (n : ℕ) (tail : List ℕ) → EndsWord tail → ((s : List ℕ) → in_bounds n (handle_line s) ≡ true → tail ≡ spaced (length s ∷ s) → ⊥) → None ≡ item_of n (codes "H" ++ tail)
unfolding only_item
no_handle n tail t never = refused n (codes "H") tail (refl, tt) t (λ ws b e. let s = values (drop 1 ws) in never s b (behind_word (codes "H") tail (length s ∷ s) e))

pub no_tooth : (n : ℕ) (tail : List ℕ) → EndsWord tail → ((s : List ℕ) → in_bounds n (tooth_line s) ≡ true → tail ≡ spaced (length s ∷ s) → ⊥) → None ≡ item_of n (codes "T" ++ tail)
unfolding only_item
no_tooth n tail t never = refused n (codes "T") tail (refl, tt) t (λ ws b e. let s = values (drop 1 ws) in never s b (behind_word (codes "T") tail (length s ∷ s) e))

pub no_clique : (n : ℕ) (tail : List ℕ) → EndsWord tail → ((s : List ℕ) → in_bounds n (clique_line s) ≡ true → tail ≡ spaced (length s ∷ s) → ⊥) → None ≡ item_of n (codes "K" ++ tail)
unfolding only_item
no_clique n tail t never = refused n (codes "K") tail (refl, tt) t (λ ws b e. let s = values (drop 1 ws) in never s b (behind_word (codes "K") tail (length s ∷ s) e))

pub no_pair : (n : ℕ) (tail : List ℕ) → EndsWord tail → ((u v : ℕ) → in_bounds n (pair_line u v) ≡ true → tail ≡ spaced (u ∷ v ∷ []) → ⊥) → None ≡ item_of n (codes "F" ++ tail)
unfolding only_item
no_pair n tail t never = refused n (codes "F") tail (refl, tt) t (λ ws b e. let u = value (get_or ws 0 []) in let v = value (get_or ws 1 []) in never u v b (behind_word (codes "F") tail (u ∷ v ∷ []) e))

pub no_edge : (n : ℕ) (tail : List ℕ) → EndsWord tail → ((u v : ℕ) → in_bounds n (edge_line u v) ≡ true → tail ≡ spaced (u ∷ v ∷ []) → ⊥) → None ≡ item_of n (codes "E" ++ tail)
unfolding only_item
no_edge n tail t never = refused n (codes "E") tail (refl, tt) t (λ ws b e. let u = value (get_or ws 0 []) in let v = value (get_or ws 1 []) in never u v b (behind_word (codes "E") tail (u ∷ v ∷ []) e))

pub no_leaf : (n : ℕ) (tail : List ℕ) → EndsWord tail → ((x y z : ℕ) → in_bounds n (leaf_line x y z) ≡ true → tail ≡ spaced (x ∷ y ∷ z ∷ []) → ⊥) → None ≡ item_of n (codes "L" ++ tail)
unfolding only_item
no_leaf n tail t never = refused n (codes "L") tail (refl, tt) t
    (λ ws b e. let x = value (get_or ws 0 []) in let y = value (get_or ws 1 []) in let z = value (get_or ws 2 []) in never x y z b (behind_word (codes "L") tail (x ∷ y ∷ z ∷ []) e))

pub no_cut_dual : (n : ℕ) (tail : List ℕ) → EndsWord tail → ((k y : ℕ) → in_bounds n (cut_line k y) ≡ true → tail ≡ spaced (k ∷ y ∷ []) → ⊥) → None ≡ item_of n (codes "Y" ++ tail)
unfolding only_item
no_cut_dual n tail t never = refused n (codes "Y") tail (refl, tt) t (λ ws b e. let u = value (get_or ws 0 []) in let v = value (get_or ws 1 []) in never u v b (behind_word (codes "Y") tail (u ∷ v ∷ []) e))

pub no_condition_dual : (n : ℕ) (tail : List ℕ) → EndsWord tail → ((k y : ℕ) → in_bounds n (condition_line k y) ≡ true → tail ≡ spaced (k ∷ y ∷ []) → ⊥) → None ≡ item_of n (codes "Z" ++ tail)
unfolding only_item
no_condition_dual n tail t never = refused n (codes "Z") tail (refl, tt) t (λ ws b e. let u = value (get_or ws 0 []) in let v = value (get_or ws 1 []) in never u v b (behind_word (codes "Z") tail (u ∷ v ∷ []) e))

pub no_city : (n : ℕ) (tail : List ℕ) → EndsWord tail → ((v : ℕ) (x : ℤ) → in_bounds n (city_line v x) ≡ true → tail ≡ 32 ∷ decimal v ++ (32 ∷ signed_decimal x) → ⊥) → None ≡ item_of n (codes "P" ++ tail)
unfolding only_item
no_city n tail t never = refused n (codes "P") tail (refl, tt) t (λ ws b e. let v = value (get_or ws 0 []) in let x = signed_digits_value 10 (get_or ws 1 []) in never v x b (cancel (codes "P") tail (32 ∷ decimal v ++ (32 ∷ signed_decimal x)) e))

pub no_open : (n : ℕ) (tail : List ℕ) → EndsWord tail → (tail ≡ [] → ⊥) → None ≡ item_of n (codes "O" ++ tail)
unfolding only_item
no_open n tail t never = refused n (codes "O") tail (refl, tt) t (λ ws b e. never (cancel (codes "O") tail [] e))

-- ---- the first word of each line

-- a line is the word of its kind, and then nothing or a blank
record HasWord (i : Item) (k : Keyword) : Type 0 where
  tail : List ℕ
  said : line i ≡ word_of k ++ tail
  ends : EndsWord tail

tail_ends : (ns : List ℕ) → EndsWord (spaced ns)
tail_ends [] = tt
tail_ends (n ∷ ns) = refl

numbers_word : (i : Item) (k : Keyword) (ns : List ℕ) → words i ≡ word_of k ∷ map decimal ns → HasWord i k
numbers_word i k ns e = record { tail = spaced ns; said = ap (join_with_byte 32) e ∙ numbers_joined (word_of k) ns; ends = tail_ends ns }

has_word : (i : Item) → (k : Keyword) × HasWord i k
has_word (title_line v) = (keywords.Cert, numbers_word (title_line v) keywords.Cert (v ∷ []) refl)
has_word (size_line m) = (keywords.N, numbers_word (size_line m) keywords.N (m ∷ []) refl)
has_word (length_line m) = (keywords.Length, numbers_word (length_line m) keywords.Length (m ∷ []) refl)
has_word (bound_line m) = (keywords.Bound, numbers_word (bound_line m) keywords.Bound (m ∷ []) refl)
has_word (tour_line cs) = (keywords.Tour, numbers_word (tour_line cs) keywords.Tour cs refl)
has_word (cuts_line m) = (keywords.Cuts, numbers_word (cuts_line m) keywords.Cuts (m ∷ []) refl)
has_word (subtour_line s) = (keywords.Subtour, numbers_word (subtour_line s) keywords.Subtour (length s ∷ s) refl)
has_word (comb_line m) = (keywords.Comb, numbers_word (comb_line m) keywords.Comb (m ∷ []) refl)
has_word (handle_line s) = (keywords.Handle, numbers_word (handle_line s) keywords.Handle (length s ∷ s) refl)
has_word (tooth_line s) = (keywords.Tooth, numbers_word (tooth_line s) keywords.Tooth (length s ∷ s) refl)
has_word (odd_line m) = (keywords.Odd, numbers_word (odd_line m) keywords.Odd (m ∷ []) refl)
has_word (pair_line u v) = (keywords.Pair, numbers_word (pair_line u v) keywords.Pair (u ∷ v ∷ []) refl)
has_word (edge_line u v) = (keywords.Edge, numbers_word (edge_line u v) keywords.Edge (u ∷ v ∷ []) refl)
has_word (clique_line s) = (keywords.Clique, numbers_word (clique_line s) keywords.Clique (length s ∷ s) refl)
has_word (leaf_line a b c) = (keywords.Leaf, numbers_word (leaf_line a b c) keywords.Leaf (a ∷ b ∷ c ∷ []) refl)
has_word (city_line v x) = (keywords.City, record { tail = 32 ∷ decimal v ++ (32 ∷ signed_decimal x); said = refl; ends = refl })
has_word (cut_line k y) = (keywords.CutDual, numbers_word (cut_line k y) keywords.CutDual (k ∷ y ∷ []) refl)
has_word (condition_line k y) = (keywords.CondDual, numbers_word (condition_line k y) keywords.CondDual (k ∷ y ∷ []) refl)
has_word open_line = (keywords.Open, numbers_word open_line keywords.Open [] refl)

plain_word : (k : Keyword) → IsPlain (word_of k)
plain_word keywords.Cert = (refl, (refl, (refl, (refl, (refl, (refl, (refl, tt)))))))
plain_word keywords.N = (refl, tt)
plain_word keywords.Length = (refl, (refl, (refl, (refl, (refl, (refl, tt))))))
plain_word keywords.Bound = (refl, (refl, (refl, (refl, (refl, tt)))))
plain_word keywords.Tour = (refl, (refl, (refl, (refl, tt))))
plain_word keywords.Cuts = (refl, (refl, (refl, (refl, tt))))
plain_word keywords.Subtour = (refl, tt)
plain_word keywords.Comb = (refl, tt)
plain_word keywords.Handle = (refl, tt)
plain_word keywords.Tooth = (refl, tt)
plain_word keywords.Odd = (refl, tt)
plain_word keywords.Pair = (refl, tt)
plain_word keywords.Edge = (refl, tt)
plain_word keywords.Clique = (refl, tt)
plain_word keywords.Leaf = (refl, tt)
plain_word keywords.City = (refl, tt)
plain_word keywords.CutDual = (refl, tt)
plain_word keywords.CondDual = (refl, tt)
plain_word keywords.Open = (refl, tt)

-- ---- where the first word ends

blank_place : (b : ℕ) (bs : List ℕ) → eqb b 32 ≡ true → position_or_len (λ x. x == 32) (b ∷ bs) ≡ 0
blank_place b bs e = rw e refl

word_place : (b : ℕ) (bs : List ℕ) → eqb b 32 ≡ false → position_or_len (λ x. x == 32) (b ∷ bs) ≡ suc (position_or_len (λ x. x == 32) bs)
word_place b bs e = rw (e, one-add) refl

within_cases : (b : ℕ) (bs : List ℕ) (t : Bool) → eqb b 32 ≡ t → position_or_len (λ x. x == 32) bs ≤ length bs → position_or_len (λ x. x == 32) (b ∷ bs) ≤ suc (length bs)
within_cases b bs true e h = let p = blank_place b bs e in omega arith
within_cases b bs false e h = let p = word_place b bs e in omega arith

place_within : (bs : List ℕ) → position_or_len (λ x. x == 32) bs ≤ length bs
place_within [] = omega arith
place_within (b ∷ bs) = within_cases b bs (eqb b 32) refl (place_within bs)

end_cases : (b : ℕ) (bs : List ℕ) (t : Bool) → eqb b 32 ≡ t → EndsWord (drop (position_or_len (λ x. x == 32) bs) bs) → EndsWord (drop (position_or_len (λ x. x == 32) (b ∷ bs)) (b ∷ bs))
end_cases b bs true e h = subst (λ k. EndsWord (drop k (b ∷ bs))) (sym (blank_place b bs e)) (eqb-true b 32 e)
end_cases b bs false e h = subst (λ k. EndsWord (drop k (b ∷ bs))) (sym (word_place b bs e)) h

pub word_ends : (bs : List ℕ) → EndsWord (drop (position_or_len (λ x. x == 32) bs) bs)
word_ends [] = tt
word_ends (b ∷ bs) = end_cases b bs (eqb b 32) refl (word_ends bs)

word_taken : (w tail : List ℕ) → IsPlain w → EndsWord tail → take (position_or_len (λ x. x == 32) (w ++ tail)) (w ++ tail) ≡ w
word_taken [] [] h e = refl
word_taken [] (b ∷ bs) h e = ap (λ k. take k (b ∷ bs)) (blank_place b bs (ap (λ x. eqb x 32) e))
word_taken (c ∷ w) tail h e = ap (λ k. take k (c ∷ w ++ tail)) (word_place c (w ++ tail) h.0) ∙ ap (λ x. c ∷ x) (word_taken w tail h.1 e)

pub found_place : (bs : List ℕ) (k : ℕ) → position (λ x. x == 32) bs ≡ Some k → k ≡ position_or_len (λ x. x == 32) bs
found_place bs k e = found (nat_lt (position_or_len (λ x. x == 32) bs) (length bs)) e
  where
    found : (t : Bool) → cond t (Some (position_or_len (λ x. x == 32) bs)) None ≡ Some k → k ≡ position_or_len (λ x. x == 32) bs
    found true f = cc
    found false f = cc

pub none_place : (bs : List ℕ) → position (λ x. x == 32) bs ≡ None → length bs ≡ position_or_len (λ x. x == 32) bs
none_place bs e = missing (nat_lt (position_or_len (λ x. x == 32) bs) (length bs)) refl e
  where
    missing : (t : Bool) → nat_lt (position_or_len (λ x. x == 32) bs) (length bs) ≡ t → cond t (Some (position_or_len (λ x. x == 32) bs)) None ≡ None → length bs ≡ position_or_len (λ x. x == 32) bs
    missing true g f = cc
    missing false g f = let a = ltb-false (position_or_len (λ x. x == 32) bs) (length bs) g in let b = place_within bs in omega arith

-- bytes whose first word is none are no line
pub no_word : (n : ℕ) (bytes : List ℕ) → ((k : Keyword) → take (position_or_len (λ x. x == 32) bytes) bytes ≡ word_of k → ⊥) → None ≡ item_of n bytes
no_word n bytes never = none n bytes (item_of n bytes) refl (λ i e.
    let w = has_word i in
    let said = (item_said n bytes i e).0 ∙ w.1.said in
    never w.0 (ap (λ b. take (position_or_len (λ x. x == 32) b) b) said ∙ word_taken (word_of w.0) w.1.tail (plain_word w.0) w.1.ends))

-- bytes that are too long are no line
pub too_long : (n : ℕ) (bytes : List ℕ) → longest < length bytes → None ≡ item_of n bytes
too_long n bytes l = none n bytes (item_of n bytes) refl (λ i e.
    let s = item_said n bytes i e in
    let p = and_parts (in_bounds n i) (nat_le (length (line i)) longest) s.1 in
    let short = leb-true (length (line i)) longest p.1 in
    let same = ap length s.0 in
    omega arith)
