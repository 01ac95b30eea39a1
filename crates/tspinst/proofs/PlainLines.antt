-- The words of plain lines, and what headers say.
use Rattle.std.proofs.Common.{◌≡◌, ℕ, suc, ◌+◌, ◌^◌, ◌<◌, ◌≤◌, true, false, ltb, leb, List, [], ◌∷◌, ◌++◌, length, set, replicate, codes, decimal, Option, Some, Ok, ℤ, pos, negsuc, nat_abs, refl, sym, ap, ◌∙◌, arith, rules}
use Rattle.std.specs.Char.{digit_value}
use Rattle.std.specs.Fmt.{signed_decimal}
use Rattle.std.specs.List.{position_or_len, after_first}
use Rattle.std.specs.Str.Parse.{AllDigits}
use Rattle.std.proofs.lemmas.Bool.Decides.{nat_tests}
use Rattle.std.proofs.lemmas.Fmt.{decimal_is_IsNumeral}
use Rattle.tsplex.specs.Number.{natural_of, digits, behind_digits}
use Rattle.tsplex.specs.Text.{is_space, is_line_end, tokens, tokens_from, behind_line}
use Rattle.tsplex.proofs.PlainLemmas.{digits_whole, nothing_behind}
use Rattle.tsplex.proofs.TextLemmas.{IsWord, token_front, tokens_blank, tokens_line, line_behind, behind_own, word_own}
use Rattle.tspinst.specs.declared.keywords.Keyword.{Keyword}
use Rattle.tspinst.specs.declared.keywords.Keyword.TheVariants as keywords
use Rattle.tspinst.specs.Keywords.{keyword_of}
use Rattle.tspinst.specs.Headers.{Token, is_colon, name_of, value_of, after_colon, dimension_of, three_or_more}
use Rattle.tspinst.specs.Texts.{Said, nothing_said, said, keyword_line, line, lines}
use Rattle.tspinst.specs.Plain.{header, front, IsLine}
use Rattle.tspinst.proofs.LineLemmas.{lines_step}

-- ---- words

no_space : (c : ℕ) → digit_value c < 10 → is_space c ≡ false
no_space c h = grind (arith, nat_tests)

digits_word : (ds : List ℕ) → AllDigits 10 ds → IsWord ds
digits_word [] h = tt
digits_word (c ∷ cs) h = (no_space c h.0, digits_word cs h.1)

pub number_word : (n : ℕ) → n < 2 ^ 64 → (0 < length (decimal n)) × IsWord (decimal n)
number_word n small = let d = decimal_is_IsNumeral n small in (d.0.0, digits_word (decimal n) d.0.1)

pub signed_word : (z : ℤ) → nat_abs z < 2 ^ 63 → (0 < length (signed_decimal z)) × IsWord (signed_decimal z)
signed_word (pos n) small = number_word n (omega arith)
signed_word (negsuc n) small = let d = number_word (suc n) (omega arith) in (omega arith, (refl, d.1))

-- a word and a space
pub spaced : (k : ℕ) (w rest : List ℕ) → 0 < length w → IsWord w → tokens_from k (w ++ 32 ∷ rest) ≡ (k, w) ∷ tokens_from k rest
spaced k w rest s h = token_front k w (32 ∷ rest) s h refl ∙ ap (λ (ts : List Token). (k, w) ∷ ts) (tokens_blank k 32 rest refl refl)

-- a word and the end of its line
pub ended : (k : ℕ) (w rest : List ℕ) → 0 < length w → IsWord w → tokens_from k (w ++ 10 ∷ rest) ≡ (k, w) ∷ tokens_from (k + 1) rest
ended k w rest s h = token_front k w (10 ∷ rest) s h refl ∙ ap (λ (ts : List Token). (k, w) ∷ ts) (tokens_line k 10 rest refl)

-- a keyword, and what follows behind a colon
pub header_front : (k : ℕ) (w rest : List ℕ) → 0 < length w → IsWord w → tokens_from k (w ++ 32 ∷ 58 ∷ 32 ∷ rest) ≡ (k, w) ∷ (k, 58 ∷ []) ∷ tokens_from k rest
header_front k w rest s h = spaced k w (58 ∷ 32 ∷ rest) s h ∙ ap (λ (ts : List Token). (k, w) ∷ ts) (spaced k (58 ∷ []) rest (omega arith) (refl, tt))

pub header_line : (k : ℕ) (w v rest : List ℕ) → 0 < length w → IsWord w → 0 < length v → IsWord v → tokens_from k (header w v rest) ≡ (k, w) ∷ (k, 58 ∷ []) ∷ (k, v) ∷ tokens_from (k + 1) rest
header_line k w v rest sw hw sv hv = header_front k w (v ++ 10 ∷ rest) sw hw ∙ ap (λ (ts : List Token). (k, w) ∷ (k, 58 ∷ []) ∷ ts) (ended k v rest sv hv)

-- ---- what stands behind a line

after_line : (v rest : List ℕ) → IsLine v → after_first is_line_end (v ++ 10 ∷ rest) ≡ rest
after_line [] rest h = refl
after_line (b ∷ v) rest h =
    let p : ℕ = position_or_len is_line_end (v ++ 10 ∷ rest) in
    let place : 1 + p + 1 ≡ suc (p + 1) = omega arith in
    rw (h.0, place) (after_line v rest h.1)

pub behind_text : (k : ℕ) (v rest : List ℕ) → IsLine v → behind_line k (tokens_from k (v ++ 10 ∷ rest)) ≡ tokens_from (k + 1) rest
behind_text k v rest h = sym (line_behind k (v ++ 10 ∷ rest)) ∙ ap (tokens_from (k + 1)) (after_line v rest h)

-- what a line ends with is not on the next one
pub next_line : (k : ℕ) (rest : List ℕ) → behind_line k (tokens_from (k + 1) rest) ≡ tokens_from (k + 1) rest
next_line k rest = ap (behind_line k) (sym (tokens_line k 10 rest refl)) ∙ behind_text k [] rest tt

-- ---- headers

value_plain : (k : ℕ) (w v : List ℕ) (ts : List Token) → position_or_len is_colon w ≡ length w → value_of k w ((k, 58 ∷ []) ∷ (k, v) ∷ ts) ≡ v
unfolding value_of after_colon
value_plain k w v ts e =
    let none : ltb (position_or_len is_colon w) (length w) ≡ false = grind (arith, nat_tests) in
    rw (none, word_own k (58 ∷ []) ((k, v) ∷ ts)) (word_own k v ts)

behind_plain : (k : ℕ) (v rest : List ℕ) → behind_line k ((k, 58 ∷ []) ∷ (k, v) ∷ tokens_from (k + 1) rest) ≡ tokens_from (k + 1) rest
behind_plain k v rest = behind_own k (58 ∷ []) ((k, v) ∷ tokens_from (k + 1) rest) ∙ behind_own k v (tokens_from (k + 1) rest) ∙ next_line k rest

-- a header of two words
pub header_read : (s : Said) (k : ℕ) (w v rest : List ℕ) (keyword : Keyword) → position_or_len is_colon w ≡ length w → keyword_of (name_of w) ≡ Some keyword → line s k w ((k, 58 ∷ []) ∷ (k, v) ∷ tokens_from (k + 1) rest) ≡ keyword_line s k v (tokens_from (k + 1) rest) (Some keyword)
header_read s k w v rest keyword e h =
    ap (λ x. keyword_line s k x (behind_line k ((k, 58 ∷ []) ∷ (k, v) ∷ tokens_from (k + 1) rest)) (keyword_of (name_of w))) (value_plain k w v (tokens_from (k + 1) rest) e)
    ∙ ap (λ (ts : List Token). keyword_line s k v ts (keyword_of (name_of w))) (behind_plain k v rest)
    ∙ ap (λ (o : Option Keyword). keyword_line s k v (tokens_from (k + 1) rest) o) h

-- ---- the lines that each plain text begins with

named : Said
named = record nothing_said { seen = set (replicate 13 false) 0 true }

typed : Said
typed = record nothing_said { seen = set (set (replicate 13 false) 0 true) 2 true }

abbrev pub sized : ℕ → Said
sized n = record nothing_said { seen = set (set (set (replicate 13 false) 0 true) 2 true) 3 true; dimension = Some n }

name_read : (name rest : List ℕ) → IsLine name → line nothing_said 1 (codes "NAME") ((1, 58 ∷ []) ∷ tokens_from 1 (name ++ 10 ∷ rest)) ≡ Ok (named, tokens_from 2 rest)
unfolding named keyword_line said
name_read name rest h = rw (behind_own 1 (58 ∷ []) (tokens_from 1 (name ++ 10 ∷ rest)), behind_text 1 name rest h) refl

type_read : (rest : List ℕ) → line named 2 (codes "TYPE") ((2, 58 ∷ []) ∷ (2, codes "TSP") ∷ tokens_from 3 rest) ≡ Ok (typed, tokens_from 3 rest)
unfolding named typed keyword_line said
type_read rest = header_read named 2 (codes "TYPE") (codes "TSP") rest keywords.Type refl refl ∙ refl

natural_plain : (n : ℕ) → n ≤ 2000 → natural_of (decimal n) 2000 ≡ Some n
unfolding natural_of
natural_plain n h =
    let d = decimal_is_IsNumeral n (omega arith) in
    let all : digits (decimal n) ≡ decimal n = digits_whole (decimal n) d.0.1 in
    let none : behind_digits (decimal n) ≡ [] = nothing_behind (decimal n) d.0.1 in
    let some : ltb 0 (length (decimal n)) ≡ true = let s = d.0.0 in grind (arith, nat_tests) in
    let fits : leb n 2000 ≡ true = grind (arith, nat_tests) in
    rw (all, none, some, d.1, fits) refl

-- a decimal dimension is itself
pub dimension_plain : (n : ℕ) → 3 ≤ n → n ≤ 2000 → dimension_of (decimal n) ≡ Some n
dimension_plain n l h = ap three_or_more (natural_plain n h) ∙ (let a : leb 3 n ≡ true = grind (arith, nat_tests) in rw a refl)

dimension_read : (n : ℕ) (rest : List ℕ) → dimension_of (decimal n) ≡ Some n → line typed 3 (codes "DIMENSION") ((3, 58 ∷ []) ∷ (3, decimal n) ∷ tokens_from 4 rest) ≡ Ok (sized n, tokens_from 4 rest)
unfolding typed keyword_line said
dimension_read n rest e = header_read typed 3 (codes "DIMENSION") (decimal n) rest keywords.Dimension refl refl ∙ rw e refl

pub front_read : (j m n : ℕ) (name rest : List ℕ) → j ≡ 3 + m → IsLine name → 3 ≤ n → n ≤ 2000 → lines j nothing_said (tokens (front name n rest)) ≡ lines m (sized n) (tokens_from 4 rest)
front_read j m n name rest e h l g =
    let w = number_word n (omega arith) in
    let dimension : List ℕ = header (codes "DIMENSION") (decimal n) rest in
    let type : List ℕ = header (codes "TYPE") (codes "TSP") dimension in
    lines_step j (2 + m) nothing_said _ _ (1, codes "NAME") (named, tokens_from 2 type) (omega arith)
    (header_front 1 (codes "NAME") (name ++ 10 ∷ type) (omega arith) (search rules)) (name_read name type h)
    ∙ lines_step (2 + m) (1 + m) named _ _ (2, codes "TYPE") (typed, tokens_from 3 dimension) (omega arith)
    (header_line 2 (codes "TYPE") (codes "TSP") dimension (omega arith) (search rules) (omega arith) (search rules)) (type_read dimension)
    ∙ lines_step (1 + m) m typed _ _ (3, codes "DIMENSION") (sized n, tokens_from 4 rest) (omega arith)
    (header_line 3 (codes "DIMENSION") (decimal n) rest (omega arith) (search rules) w.0 w.1) (dimension_read n rest (dimension_plain n l g))
