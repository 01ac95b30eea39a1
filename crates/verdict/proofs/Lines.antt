-- a line is read as the one item that is spelled so
use Rattle.std.proofs.Common.{◌≡◌, ℕ, suc, ◌+◌, ◌^◌, ◌<◌, ◌≤◌, Bool, true, false, cond, ◌&&◌, List, [], ◌∷◌, ◌++◌, length, get_or, map, drop, Option, Some, None, ℤ, pos, negsuc, neg_ℤ, refl, sym, ap, ◌∙◌, subst, arith, decimal, codes, eqb}
use Rattle.std.specs.Prelude.{nat_le, nat_lt, nat_abs, ◌==◌, ◌≢◌}
use Rattle.std.specs.Fmt.{signed_decimal}
use Rattle.std.specs.List.{AllByRecursion, All, join_with_byte, slice_split}
use Rattle.std.specs.Str.{bytes_eq, IsAscii}
use Rattle.std.proofs.lemmas.Str.Ascii.{IsAscii-from_all}
use Rattle.std.specs.Str.Parse.{AllDigits, digits_value, signed_digits_value, without_leading_plus}
use Rattle.std.specs.Char.{digit_value}
use Rattle.std.proofs.lemmas.Fmt.{decimal_is_IsNumeral}
use Rattle.std.proofs.lemmas.Str.Parse.{digit_at, without_leading_plus_none}
use Rattle.std.proofs.lemmas.Bool.{and_parts, and_from, ne_eqb, leb-true, ltb-true}
use Rattle.std.proofs.lemmas.Bool.Decides.{nat_tests}
use Rattle.std.proofs.lemmas.List.Elements.{All-from_recursion}
use Rattle.std.proofs.lemmas.List.Splits.{slice_split_none, slice_split_at}
use Rattle.std.proofs.lemmas.Slice.Eq.{bytes_eq-Decides}
use Rattle.certdef.specs.Items.{Item, title_line, size_line, length_line, bound_line, tour_line, cuts_line, subtour_line, comb_line, handle_line, tooth_line, odd_line, pair_line, edge_line, clique_line, leaf_line, city_line, cut_line, condition_line, open_line, set_words, words, line, rises, each_below, is_set, is_dual, in_bounds, fits, value, values, only_item, item_of, longest}
use Rattle.verdict.specs.Laws.{LinesAreExact}

-- ---- words that fit machine numbers

abbrev pub AreSmall : List ℕ → Type 0
AreSmall ns = AllByRecursion (λ n. n < 2 ^ 64) ns

-- of 64 bits, with a sign
abbrev pub IsI64 : ℤ → Type 0
IsI64 (pos n) = n < 2 ^ 63
IsI64 (negsuc n) = n < 2 ^ 63

abbrev pub IsSmallSet : List ℕ → Type 0
IsSmallSet s = (length s < 2 ^ 64) × AreSmall s

-- each number of the item is below 2 ^ 64
abbrev pub Small : Item → Type 0
Small (title_line v) = v < 2 ^ 64
Small (size_line n) = n < 2 ^ 64
Small (length_line n) = n < 2 ^ 64
Small (bound_line n) = n < 2 ^ 64
Small (tour_line cs) = AreSmall cs
Small (cuts_line n) = n < 2 ^ 64
Small (subtour_line s) = IsSmallSet s
Small (comb_line n) = n < 2 ^ 64
Small (handle_line s) = IsSmallSet s
Small (tooth_line s) = IsSmallSet s
Small (odd_line n) = n < 2 ^ 64
Small (pair_line u v) = (u < 2 ^ 64) × (v < 2 ^ 64)
Small (edge_line u v) = (u < 2 ^ 64) × (v < 2 ^ 64)
Small (clique_line s) = IsSmallSet s
Small (leaf_line a b c) = (a < 2 ^ 64) × (b < 2 ^ 64) × (c < 2 ^ 64)
Small (city_line c x) = (c < 2 ^ 64) × IsI64 x
Small (cut_line k y) = (k < 2 ^ 64) × (y < 2 ^ 64)
Small (condition_line d z) = (d < 2 ^ 64) × (z < 2 ^ 64)
Small open_line = Unit {0}

-- ---- words

-- a byte of a word
abbrev InWord : ℕ → Type 0
InWord b = (32 < b) × (b < 128)

abbrev pub IsWord : List ℕ → Type 0
IsWord w = AllByRecursion InWord w

abbrev pub AreWords : List (List ℕ) → Type 0
AreWords ws = AllByRecursion IsWord ws

in_word : (c : ℕ) → digit_value c < 10 → InWord c
in_word c h = (grind (arith, nat_tests), grind (arith, nat_tests))

digits_word : (ds : List ℕ) → AllDigits 10 ds → IsWord ds
digits_word [] h = tt
digits_word (c ∷ cs) h = (in_word c h.0, digits_word cs h.1)

decimal_word : (n : ℕ) → n < 2 ^ 64 → IsWord (decimal n)
decimal_word n h = digits_word (decimal n) (decimal_is_IsNumeral n h).0.1

decimals_word : (ns : List ℕ) → AreSmall ns → AreWords (map decimal ns)
decimals_word [] h = tt
decimals_word (n ∷ ns) h = (decimal_word n h.0, decimals_word ns h.1)

signed_word : (x : ℤ) → IsI64 x → IsWord (signed_decimal x)
signed_word (pos n) h = decimal_word n (omega arith)
signed_word (negsuc n) h = ((omega arith, omega arith), decimal_word (suc n) (omega arith))

no_space : (w : List ℕ) → IsWord w → AllByRecursion (λ b. eqb b 32 ≡ false) w
no_space [] h = tt
no_space (b ∷ bs) h = (ne_eqb b 32 (λ e. let g = h.0.0 in omega arith), no_space bs h.1)

no_space_all : (w : List ℕ) → IsWord w → All (λ b. eqb b 32 ≡ false) w
no_space_all w h = All-from_recursion (λ b. eqb b 32 ≡ false) w (no_space w h)

split_joined : (w : List ℕ) (ws : List (List ℕ)) → IsWord w → AreWords ws → slice_split (λ b. eqb b 32) (join_with_byte 32 (w ∷ ws)) ≡ w ∷ ws
split_joined w [] h hs = slice_split_none (λ b. eqb b 32) w (no_space_all w h)
split_joined w (x ∷ xs) h hs = slice_split_at (λ b. eqb b 32) w 32 (join_with_byte 32 (x ∷ xs)) (no_space_all w h) refl ∙ ap (λ r. w ∷ r) (split_joined x xs hs.0 hs.1)

-- ---- numbers

value_decimal : (n : ℕ) → n < 2 ^ 64 → value (decimal n) ≡ n
value_decimal n h = (decimal_is_IsNumeral n h).1

values_decimals : (ns : List ℕ) → AreSmall ns → values (map decimal ns) ≡ ns
values_decimals [] h = refl
values_decimals (n ∷ ns) h = ap (λ r. r ∷ values (map decimal ns)) (value_decimal n h.0) ∙ ap (λ r. n ∷ r) (values_decimals ns h.1)

first_digit : (ds : List ℕ) (c : ℕ) → AllDigits 10 ds → 0 < length ds → c < 48 → get_or ds 0 0 ≢ c
first_digit ds c h l b = λ e. let d = digit_at ds 0 h l in omega arith

signed_plain : (ds : List ℕ) → AllDigits 10 ds → 0 < length ds → signed_digits_value 10 ds ≡ pos (digits_value 10 ds)
signed_plain ds h l =
    let minus : eqb (get_or ds 0 0) 45 ≡ false = ne_eqb (get_or ds 0 0) 45 (first_digit ds 45 h l (omega arith)) in
    let plus : without_leading_plus ds ≡ ds = without_leading_plus_none ds (first_digit ds 43 h l (omega arith)) in
    rw minus (ap (λ r. pos (digits_value 10 r)) plus)

signed_value : (x : ℤ) → IsI64 x → signed_digits_value 10 (signed_decimal x) ≡ x
signed_value (pos n) h = let d = decimal_is_IsNumeral n (omega arith) in signed_plain (decimal n) d.0.1 d.0.0 ∙ ap pos d.1
signed_value (negsuc n) h = let d = decimal_is_IsNumeral (suc n) (omega arith) in ap (λ r. neg_ℤ (pos r)) d.1

-- ---- bounds

rises_small : (from n : ℕ) (cs : List ℕ) → n < 2 ^ 32 → rises from n cs ≡ true → AreSmall cs
rises_small from n [] h e = tt
rises_small from n (c ∷ cs) h e =
    let a = and_parts (nat_le from c && nat_le c n) (rises (c + 1) n cs) e in
    let b = leb-true c n (and_parts (nat_le from c) (nat_le c n) a.0).1 in
    (omega arith, rises_small (c + 1) n cs h a.1)

pub rises_length : (from n : ℕ) (cs : List ℕ) → from ≤ n + 1 → rises from n cs ≡ true → length cs + from ≤ n + 1
rises_length from n [] h e = omega arith
rises_length from n (c ∷ cs) h e =
    let a = and_parts (nat_le from c && nat_le c n) (rises (c + 1) n cs) e in
    let p = and_parts (nat_le from c) (nat_le c n) a.0 in
    let b = leb-true from c p.0 in
    let d = leb-true c n p.1 in
    let r = rises_length (c + 1) n cs (omega arith) a.1 in
    omega arith

below_small : (cs : List ℕ) → each_below (10 ^ 10) cs ≡ true → AreSmall cs
below_small [] e = tt
below_small (c ∷ cs) e =
    let a = and_parts (nat_lt c (10 ^ 10)) (each_below (10 ^ 10) cs) e in
    let b = ltb-true c (10 ^ 10) a.0 in
    (omega arith, below_small cs a.1)

set_small : (n : ℕ) (s : List ℕ) → n < 2 ^ 32 → is_set n s ≡ true → IsSmallSet s
set_small n s h e =
    let a = and_parts (nat_lt 0 (length s)) (rises 1 n s) e in
    let r = rises_length 1 n s (omega arith) a.1 in
    (omega arith, rises_small 1 n s h a.1)

dual_small : (y : ℕ) → is_dual y ≡ true → y < 2 ^ 63
dual_small y e = let a = leb-true y (2 ^ 62) (and_parts (nat_lt 0 y) (nat_le y (2 ^ 62)) e).1 in omega arith

i64_small : (x : ℤ) → nat_abs x < 2 ^ 63 → IsI64 x
i64_small (pos n) h = h
i64_small (negsuc n) h = omega arith

pub small : (n : ℕ) (i : Item) → n < 2 ^ 32 → in_bounds n i ≡ true → Small i
small n (title_line v) h e = let a = leb-true v 2 (and_parts (nat_lt 0 v) (nat_le v 2) e).1 in omega arith
small n (size_line m) h e = let a = ltb-true m (2 ^ 32) e in omega arith
small n (length_line l) h e = let a = leb-true l (2 ^ 42) e in omega arith
small n (bound_line b) h e = let a = leb-true b (2 ^ 42) e in omega arith
small n (tour_line cs) h e = below_small cs (and_parts (length cs == n) (each_below (10 ^ 10) cs) e).1
small n (cuts_line k) h e = let a = ltb-true k (2 ^ 32) e in omega arith
small n (subtour_line s) h e = set_small n s h e
small n (comb_line t) h e = let a = leb-true t 2000 e in omega arith
small n (handle_line s) h e = set_small n s h e
small n (tooth_line s) h e = set_small n s h e
small n (odd_line t) h e = let a = leb-true t 4095 (and_parts (nat_lt 0 t) (nat_le t 4095) e).1 in omega arith
small n (pair_line u v) h e =
    let a = and_parts (nat_lt 0 u) (nat_lt u v && nat_le v n) e in
    let b = and_parts (nat_lt u v) (nat_le v n) a.1 in
    let c = ltb-true u v b.0 in
    let d = leb-true v n b.1 in
    (omega arith, omega arith)
small n (edge_line u v) h e =
    let a = and_parts (nat_lt 0 u) (nat_lt u v && nat_le v n) e in
    let b = and_parts (nat_lt u v) (nat_le v n) a.1 in
    let c = ltb-true u v b.0 in
    let d = leb-true v n b.1 in
    (omega arith, omega arith)
small n (clique_line s) h e = set_small n s h e
small n (leaf_line a b c) h e =
    let p = and_parts (nat_le a n) (nat_le b 4096 && nat_le c 4096) e in
    let q = and_parts (nat_le b 4096) (nat_le c 4096) p.1 in
    let x = leb-true a n p.0 in
    let y = leb-true b 4096 q.0 in
    let z = leb-true c 4096 q.1 in
    (omega arith, omega arith, omega arith)
small n (city_line c x) h e =
    let p = and_parts (nat_lt 0 c && nat_le c n) (is_dual (nat_abs x)) e in
    let a = leb-true c n (and_parts (nat_lt 0 c) (nat_le c n) p.0).1 in
    (omega arith, i64_small x (dual_small (nat_abs x) p.1))
small n (cut_line k y) h e =
    let p = and_parts (nat_lt 0 k && nat_lt k (2 ^ 32)) (is_dual y) e in
    let a = ltb-true k (2 ^ 32) (and_parts (nat_lt 0 k) (nat_lt k (2 ^ 32)) p.0).1 in
    (omega arith, let b = dual_small y p.1 in omega arith)
small n (condition_line k y) h e =
    let p = and_parts (nat_lt 0 k && nat_lt k (2 ^ 32)) (is_dual y) e in
    let a = ltb-true k (2 ^ 32) (and_parts (nat_lt 0 k) (nat_lt k (2 ^ 32)) p.0).1 in
    (omega arith, let b = dual_small y p.1 in omega arith)
small n open_line h e = tt

-- ---- an item's line is split into its words, of which it is the only item

letter : (b : ℕ) → 32 < b → b < 128 → InWord b
letter b h l = (h, l)

set_words_are : (s : List ℕ) → IsSmallSet s → AreWords (set_words s)
set_words_are s h = (decimal_word (length s) h.0, decimals_word s h.1)

set_value : (s : List ℕ) → IsSmallSet s → values (map decimal s) ≡ s
set_value s h = values_decimals s h.1

pub item_words : (i : Item) → Small i → AreWords (words i)
item_words (title_line m) h = ((letter 84 (omega arith) (omega arith), (letter 83 (omega arith) (omega arith), (letter 80 (omega arith) (omega arith), (letter 67 (omega arith) (omega arith), (letter 69 (omega arith) (omega arith), (letter 82 (omega arith) (omega arith), (letter 84 (omega arith) (omega arith), tt))))))), (decimal_word m h, tt))
item_words (size_line m) h = ((letter 78 (omega arith) (omega arith), tt), (decimal_word m h, tt))
item_words (length_line m) h = ((letter 76 (omega arith) (omega arith), (letter 69 (omega arith) (omega arith), (letter 78 (omega arith) (omega arith), (letter 71 (omega arith) (omega arith), (letter 84 (omega arith) (omega arith), (letter 72 (omega arith) (omega arith), tt)))))), (decimal_word m h, tt))
item_words (bound_line m) h = ((letter 66 (omega arith) (omega arith), (letter 79 (omega arith) (omega arith), (letter 85 (omega arith) (omega arith), (letter 78 (omega arith) (omega arith), (letter 68 (omega arith) (omega arith), tt))))), (decimal_word m h, tt))
item_words (tour_line cs) h = ((letter 84 (omega arith) (omega arith), (letter 79 (omega arith) (omega arith), (letter 85 (omega arith) (omega arith), (letter 82 (omega arith) (omega arith), tt)))), (decimals_word cs h))
item_words (cuts_line m) h = ((letter 67 (omega arith) (omega arith), (letter 85 (omega arith) (omega arith), (letter 84 (omega arith) (omega arith), (letter 83 (omega arith) (omega arith), tt)))), (decimal_word m h, tt))
item_words (subtour_line s) h = ((letter 83 (omega arith) (omega arith), tt), (set_words_are s h))
item_words (comb_line m) h = ((letter 67 (omega arith) (omega arith), tt), (decimal_word m h, tt))
item_words (handle_line s) h = ((letter 72 (omega arith) (omega arith), tt), (set_words_are s h))
item_words (tooth_line s) h = ((letter 84 (omega arith) (omega arith), tt), (set_words_are s h))
item_words (odd_line m) h = ((letter 66 (omega arith) (omega arith), tt), (decimal_word m h, tt))
item_words (pair_line u v) h = ((letter 70 (omega arith) (omega arith), tt), (decimal_word u h.0, (decimal_word v h.1, tt)))
item_words (edge_line u v) h = ((letter 69 (omega arith) (omega arith), tt), (decimal_word u h.0, (decimal_word v h.1, tt)))
item_words (clique_line s) h = ((letter 75 (omega arith) (omega arith), tt), (set_words_are s h))
item_words (leaf_line a b c) h = ((letter 76 (omega arith) (omega arith), tt), (decimal_word a h.0, (decimal_word b h.1, (decimal_word c h.2, tt))))
item_words (city_line c x) h = ((letter 80 (omega arith) (omega arith), tt), (decimal_word c h.0, (signed_word x h.1, tt)))
item_words (cut_line u v) h = ((letter 89 (omega arith) (omega arith), tt), (decimal_word u h.0, (decimal_word v h.1, tt)))
item_words (condition_line u v) h = ((letter 90 (omega arith) (omega arith), tt), (decimal_word u h.0, (decimal_word v h.1, tt)))
item_words open_line h = ((letter 79 (omega arith) (omega arith), tt), tt)

pub split_line : (i : Item) → Small i → slice_split (λ b. eqb b 32) (line i) ≡ words i
split_line (title_line m) h = let k = item_words (title_line m) h in split_joined (codes "TSPCERT") (decimal m ∷ []) k.0 k.1
split_line (size_line m) h = let k = item_words (size_line m) h in split_joined (codes "N") (decimal m ∷ []) k.0 k.1
split_line (length_line m) h = let k = item_words (length_line m) h in split_joined (codes "LENGTH") (decimal m ∷ []) k.0 k.1
split_line (bound_line m) h = let k = item_words (bound_line m) h in split_joined (codes "BOUND") (decimal m ∷ []) k.0 k.1
split_line (tour_line cs) h = let k = item_words (tour_line cs) h in split_joined (codes "TOUR") (map decimal cs) k.0 k.1
split_line (cuts_line m) h = let k = item_words (cuts_line m) h in split_joined (codes "CUTS") (decimal m ∷ []) k.0 k.1
split_line (subtour_line s) h = let k = item_words (subtour_line s) h in split_joined (codes "S") (set_words s) k.0 k.1
split_line (comb_line m) h = let k = item_words (comb_line m) h in split_joined (codes "C") (decimal m ∷ []) k.0 k.1
split_line (handle_line s) h = let k = item_words (handle_line s) h in split_joined (codes "H") (set_words s) k.0 k.1
split_line (tooth_line s) h = let k = item_words (tooth_line s) h in split_joined (codes "T") (set_words s) k.0 k.1
split_line (odd_line m) h = let k = item_words (odd_line m) h in split_joined (codes "B") (decimal m ∷ []) k.0 k.1
split_line (pair_line u v) h = let k = item_words (pair_line u v) h in split_joined (codes "F") (decimal u ∷ decimal v ∷ []) k.0 k.1
split_line (edge_line u v) h = let k = item_words (edge_line u v) h in split_joined (codes "E") (decimal u ∷ decimal v ∷ []) k.0 k.1
split_line (clique_line s) h = let k = item_words (clique_line s) h in split_joined (codes "K") (set_words s) k.0 k.1
split_line (leaf_line a b c) h = let k = item_words (leaf_line a b c) h in split_joined (codes "L") (decimal a ∷ decimal b ∷ decimal c ∷ []) k.0 k.1
split_line (city_line c x) h = let k = item_words (city_line c x) h in split_joined (codes "P") (decimal c ∷ signed_decimal x ∷ []) k.0 k.1
split_line (cut_line u v) h = let k = item_words (cut_line u v) h in split_joined (codes "Y") (decimal u ∷ decimal v ∷ []) k.0 k.1
split_line (condition_line u v) h = let k = item_words (condition_line u v) h in split_joined (codes "Z") (decimal u ∷ decimal v ∷ []) k.0 k.1
split_line open_line h = let k = item_words open_line h in split_joined (codes "O") ([]) k.0 k.1

-- a byte of a line
abbrev pub InLine : ℕ → Type 0
InLine b = (32 ≤ b) × (b < 128)

word_line : (w : List ℕ) → IsWord w → AllByRecursion InLine w
word_line [] h = tt
word_line (b ∷ bs) h = (let g = h.0.0 in (omega arith, h.0.1), word_line bs h.1)

append_line : (xs ys : List ℕ) → AllByRecursion InLine xs → AllByRecursion InLine ys → AllByRecursion InLine (xs ++ ys)
append_line [] ys h k = k
append_line (x ∷ xs) ys h k = (h.0, append_line xs ys h.1 k)

joined_line : (ws : List (List ℕ)) → AreWords ws → AllByRecursion InLine (join_with_byte 32 ws)
joined_line [] h = tt
joined_line (w ∷ []) h = word_line w h.0
joined_line (w ∷ x ∷ xs) h = append_line w (32 ∷ join_with_byte 32 (x ∷ xs)) (word_line w h.0) ((omega arith, omega arith), joined_line (x ∷ xs) h.1)

pub line_plain : (i : Item) → Small i → AllByRecursion InLine (line i)
line_plain i h = joined_line (words i) (item_words i h)

below : (bs : List ℕ) → AllByRecursion InLine bs → AllByRecursion (λ b. b < 128) bs
below [] h = tt
below (b ∷ bs) h = (h.0.1, below bs h.1)

pub line_ascii : (i : Item) → Small i → IsAscii (line i)
line_ascii i h = IsAscii-from_all (line i) (All-from_recursion (λ b. b < 128) (line i) (below (line i) (line_plain i h)))

pub only_words : (i : Item) → Small i → only_item (get_or (words i) 0 []) (drop 1 (words i)) ≡ i
unfolding only_item
only_words (title_line m) h = ap title_line (value_decimal m h)
only_words (size_line m) h = ap size_line (value_decimal m h)
only_words (length_line m) h = ap length_line (value_decimal m h)
only_words (bound_line m) h = ap bound_line (value_decimal m h)
only_words (tour_line cs) h = ap tour_line (values_decimals cs h)
only_words (cuts_line m) h = ap cuts_line (value_decimal m h)
only_words (subtour_line s) h = ap subtour_line (set_value s h)
only_words (comb_line m) h = ap comb_line (value_decimal m h)
only_words (handle_line s) h = ap handle_line (set_value s h)
only_words (tooth_line s) h = ap tooth_line (set_value s h)
only_words (odd_line m) h = ap odd_line (value_decimal m h)
only_words (pair_line u v) h = ap (λ r. pair_line r (value (decimal v))) (value_decimal u h.0) ∙ ap (pair_line u) (value_decimal v h.1)
only_words (edge_line u v) h = ap (λ r. edge_line r (value (decimal v))) (value_decimal u h.0) ∙ ap (edge_line u) (value_decimal v h.1)
only_words (clique_line s) h = ap clique_line (set_value s h)
only_words (leaf_line a b c) h = ap (λ r. leaf_line r (value (decimal b)) (value (decimal c))) (value_decimal a h.0) ∙ ap (λ r. leaf_line a r (value (decimal c))) (value_decimal b h.1) ∙ ap (leaf_line a b) (value_decimal c h.2)
only_words (city_line c x) h = ap (λ r. city_line r (signed_digits_value 10 (signed_decimal x))) (value_decimal c h.0) ∙ ap (city_line c) (signed_value x h.1)
only_words (cut_line u v) h = ap (λ r. cut_line r (value (decimal v))) (value_decimal u h.0) ∙ ap (cut_line u) (value_decimal v h.1)
only_words (condition_line u v) h = ap (λ r. condition_line r (value (decimal v))) (value_decimal u h.0) ∙ ap (condition_line u) (value_decimal v h.1)
only_words open_line h = refl

-- ---- the two laws

chosen : (b : Bool) (x i : Item) → cond b (Some x) None ≡ Some i → (b ≡ true) × (x ≡ i)
chosen true x i e = (refl, cc)
chosen false x i e = cc

pub item_said : (n : ℕ) (bytes : List ℕ) (i : Item) → item_of n bytes ≡ Some i → (bytes ≡ line i) × (fits n i ≡ true)
unfolding item_of
item_said n bytes i e =
    let ws = slice_split (λ b. eqb b 32) bytes in
    let x = only_item (get_or ws 0 []) (drop 1 ws) in
    let c = chosen (bytes_eq (line x) bytes && fits n x) x i e in
    let p = and_parts (bytes_eq (line x) bytes) (fits n x) c.0 in
    (sym ((bytes_eq-Decides (line x) bytes).0 p.0) ∙ ap line c.1, subst (λ y. fits n y ≡ true) c.1 p.1)

some_if : (b : Bool) (x : Item) → b ≡ true → cond b (Some x) None ≡ Some x
some_if true x e = refl
some_if false x e = cc

pub item_again : (n : ℕ) (i : Item) → n < 2 ^ 32 → fits n i ≡ true → item_of n (line i) ≡ Some i
unfolding item_of
item_again n i h f =
    let s = small n i h (and_parts (in_bounds n i) (nat_le (length (line i)) longest) f).0 in
    let split = split_line i s in
    let ws = slice_split (λ b. eqb b 32) (line i) in
    let same : only_item (get_or ws 0 []) (drop 1 ws) ≡ i = ap (λ r. only_item (get_or r 0 []) (drop 1 r)) split ∙ only_words i s in
    ap (λ x. cond (bytes_eq (line x) (line i) && fits n x) (Some x) None) same
    ∙ some_if (bytes_eq (line i) (line i) && fits n i) i (and_from (bytes_eq (line i) (line i)) (fits n i) ((bytes_eq-Decides (line i) (line i)).1 refl) f)

none_if : (n : ℕ) (bytes : List ℕ) (r : Option Item) → item_of n bytes ≡ r → ((i : Item) → fits n i ≡ true → bytes ≡ line i → ⊥) → r ≡ None
none_if n bytes None e never = refl
none_if n bytes (Some i) e never = let s = item_said n bytes i e in absurd (never i s.1 s.0)

-- a line that no item of form is spelled by
pub no_item : (n : ℕ) (bytes : List ℕ) → ((i : Item) → fits n i ≡ true → bytes ≡ line i → ⊥) → item_of n bytes ≡ None
no_item n bytes never = none_if n bytes (item_of n bytes) refl never

-- a line that spells an item, be it of form or not
pub item_is : (n : ℕ) (i : Item) (bytes : List ℕ) → Small i → bytes ≡ line i → item_of n bytes ≡ cond (fits n i) (Some i) None
unfolding item_of
item_is n i bytes s e =
    let split = ap (slice_split (λ b. eqb b 32)) e ∙ split_line i s in
    let ws = slice_split (λ b. eqb b 32) bytes in
    let same : only_item (get_or ws 0 []) (drop 1 ws) ≡ i = ap (λ r. only_item (get_or r 0 []) (drop 1 r)) split ∙ only_words i s in
    ap (λ x. cond (bytes_eq (line x) bytes && fits n x) (Some x) None) same
    ∙ ap (λ b. cond (b && fits n i) (Some i) None) ((bytes_eq-Decides (line i) bytes).1 (sym e))

pub small_if : (n : ℕ) (i : Item) → n < 2 ^ 32 → fits n i ≡ true → Small i
small_if n i h f = small n i h (and_parts (in_bounds n i) (nat_le (length (line i)) longest) f).0

pub lines_are_exact : LinesAreExact
lines_are_exact n bytes x h = record {
  said = item_said n bytes x;
  again = λ e f. ap (item_of n) e ∙ item_again n x h f;
}
