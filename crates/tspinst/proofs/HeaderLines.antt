-- Headers by words, and headers by the bytes of their line.
use Rattle.std.proofs.Common.{◌≡◌, ℕ, suc, ◌+◌, ◌<◌, Bool, true, false, eqb, ltb, List, [], ◌∷◌, ◌++◌, map, length, drop, refl, sym, ap, ◌∙◌, arith, one-add, append_assoc}
use Rattle.std.specs.List.{before_first, after_first, position_or_len}
use Rattle.std.proofs.lemmas.Bool.{ne_eqb}
use Rattle.std.proofs.lemmas.Bool.Decides.{nat_tests}
use Rattle.tsplex.specs.Text.{is_blank, words, word_on}
use Rattle.tsplex.proofs.TextLemmas.{IsWord, IsOpen, words_front, no_blank, not_space, word_own}
use Rattle.tspinst.specs.Headers.{Token, is_colon, name_of, behind_colon, after_colon, value_of, trimmed, without_colon, ends_keyword, line_keyword, line_value, first_word}
use Rattle.tspinst.specs.Plain.{IsLine}
use Rattle.tspinst.specs.Laws.{HeadersAreLines}

-- ---- the first word of some bytes

trim_blank : (b : ℕ) (bs : List ℕ) → is_blank b ≡ true → trimmed (b ∷ bs) ≡ trimmed bs
trim_blank b bs e = rw (e, one-add) refl

trim_word : (b : ℕ) (bs : List ℕ) → is_blank b ≡ false → trimmed (b ∷ bs) ≡ b ∷ bs
trim_word b bs e = rw e refl

-- a word in front, if it has bytes
abbrev onto : List ℕ → List (List ℕ) → List (List ℕ)
onto [] ws = []
onto (b ∷ w) ws = (b ∷ w) ∷ ws

-- some bytes of a line begin, behind blanks, with a word, or have no word at all
record Splits (bytes word rest : List ℕ) : Type 0 where
  spelt : trimmed bytes ≡ word ++ rest
  is_word : IsWord word
  is_open : IsOpen rest
  is_line : IsLine rest
  ends : word ≡ [] → rest ≡ []
  words_are : words bytes ≡ onto word (words rest)

record Begins (bytes word rest : List ℕ) : Type 0 where
  spelt : bytes ≡ word ++ rest
  is_word : IsWord word
  is_open : IsOpen rest
  is_line : IsLine rest

begins : (bytes : List ℕ) → IsLine bytes → (word : List ℕ) × (rest : List ℕ) × Begins bytes word rest
begins [] h = ([], [], record { spelt = refl; is_word = tt; is_open = tt; is_line = tt })
begins (b ∷ bs) h = at (is_blank b) refl (begins bs h.1)
  where
    at : (v : Bool) → is_blank b ≡ v → (word : List ℕ) × (rest : List ℕ) × Begins bs word rest → (word : List ℕ) × (rest : List ℕ) × Begins (b ∷ bs) word rest
    at true e g = ([], b ∷ bs, record { spelt = refl; is_word = tt; is_open = e; is_line = h })
    at false e g = (b ∷ g.0, g.1, record { spelt = ap (λ (xs : List ℕ). b ∷ xs) g.2.spelt; is_word = (not_space b h.0 e, g.2.is_word); is_open = g.2.is_open; is_line = g.2.is_line })

splits : (bytes : List ℕ) → IsLine bytes → (word : List ℕ) × (rest : List ℕ) × Splits bytes word rest
splits [] h = ([], [], record { spelt = refl; is_word = tt; is_open = tt; is_line = tt; ends = λ e. refl; words_are = refl })
splits (b ∷ bs) h = at (is_blank b) refl (begins bs h.1) (splits bs h.1)
  where
    at : (v : Bool) → is_blank b ≡ v → (word : List ℕ) × (rest : List ℕ) × Begins bs word rest → (word : List ℕ) × (rest : List ℕ) × Splits bs word rest → (word : List ℕ) × (rest : List ℕ) × Splits (b ∷ bs) word rest
    at true e g s = (s.0, s.1, record { spelt = trim_blank b bs e ∙ s.2.spelt; is_word = s.2.is_word; is_open = s.2.is_open; is_line = s.2.is_line; ends = s.2.ends; words_are = rw e s.2.words_are })
    at false e g s = (
      b ∷ g.0,
      g.1,
      record {
        spelt = trim_word b bs e ∙ ap (λ (xs : List ℕ). b ∷ xs) g.2.spelt;
        is_word = (not_space b h.0 e, g.2.is_word);
        is_open = g.2.is_open;
        is_line = g.2.is_line;
        ends = λ z. absurd (cc z);
        words_are = ap (λ (xs : List ℕ). words (b ∷ xs)) g.2.spelt ∙ words_front b g.0 g.1 (not_space b h.0 e, g.2.is_word) g.2.is_open;
      },
    )

before_blank : (word rest : List ℕ) → IsWord word → IsOpen rest → first_word (word ++ rest) ≡ word
before_blank [] [] h o = refl
before_blank [] (b ∷ bs) h o = rw o refl
before_blank (b ∷ word) rest h o = rw (no_blank b h.0, one-add) (ap (λ (xs : List ℕ). b ∷ xs) (before_blank word rest h.1 o))

first_is_word : (bytes word rest : List ℕ) → Splits bytes word rest → first_word (trimmed bytes) ≡ word
first_is_word bytes word rest s = ap first_word s.spelt ∙ before_blank word rest s.is_word s.is_open

-- the next of the words that were split off, on line k
next_word : (k : ℕ) (bytes word rest : List ℕ) (ts : List Token) → Splits bytes word rest → word_on k ts ≡ [] → word_on k (map (λ w. (k, w)) (words bytes) ++ ts) ≡ word
next_word k bytes word rest ts s none = ap (λ ws. word_on k (map (λ w. (k, w)) ws ++ ts)) s.words_are ∙ at word
  where
    at : (word : List ℕ) → word_on k (map (λ w. (k, w)) (onto word (words rest)) ++ ts) ≡ word
    at [] = none
    at (b ∷ word) = word_own k (b ∷ word) (map (λ w. (k, w)) (words rest) ++ ts)

-- ---- keywords

keyword_word : (word rest : List ℕ) → IsWord word → IsOpen rest → before_first ends_keyword (word ++ rest) ≡ name_of word
keyword_word [] [] h o = refl
keyword_word [] (b ∷ bs) h o = rw o refl
keyword_word (b ∷ word) rest h o = at (is_colon b) refl (keyword_word word rest h.1 o)
  where
    at : (v : Bool) → is_colon b ≡ v → before_first ends_keyword (word ++ rest) ≡ name_of word → before_first ends_keyword (b ∷ (word ++ rest)) ≡ name_of (b ∷ word)
    at true e i = rw (no_blank b h.0, e) refl
    at false e i = rw (no_blank b h.0, e, one-add, one-add) (ap (λ (xs : List ℕ). b ∷ xs) i)

-- a word at its first colon
data Colon (word : List ℕ) : Type 0 where
  without : position_or_len is_colon word ≡ length word → name_of word ≡ word → Colon word
  with : (before after : List ℕ) → word ≡ before ++ 58 ∷ after → name_of word ≡ before → after_first is_colon word ≡ after → position_or_len is_colon word < length word → Colon word

is_the_colon : (b : ℕ) → is_colon b ≡ true → b ≡ 58
is_the_colon b e = grind (arith, nat_tests)

colon_of : (word : List ℕ) → Colon word
colon_of [] = without refl refl
colon_of (b ∷ word) = at (is_colon b) refl (colon_of word)
  where
    longer : (e : is_colon b ≡ false) → position_or_len is_colon (b ∷ word) ≡ suc (position_or_len is_colon word)
    longer e = rw (e, one-add) refl

    dropped : drop (suc (position_or_len is_colon word) + 1) (b ∷ word) ≡ drop (position_or_len is_colon word + 1) word
    dropped = let e : suc (position_or_len is_colon word) + 1 ≡ suc (position_or_len is_colon word + 1) = omega arith in rw e refl

    at : (v : Bool) → is_colon b ≡ v → Colon word → Colon (b ∷ word)
    at true e c = with [] word (ap (λ x. x ∷ word) (is_the_colon b e)) (rw e refl) (rw e refl) (rw e (omega arith))
    at false e (without p n) = without (longer e ∙ ap suc p) (rw (e, one-add) (ap (λ (xs : List ℕ). b ∷ xs) n))
    at false e (with before after s n a p) = with (b ∷ before) after (ap (λ (xs : List ℕ). b ∷ xs) s) (rw (e, one-add) (ap (λ (xs : List ℕ). b ∷ xs) n)) (ap (λ n. drop (n + 1) (b ∷ word)) (longer e) ∙ dropped ∙ a) (rw (longer e) (omega arith))

drop_front : (xs ys : List ℕ) → drop (length xs) (xs ++ ys) ≡ ys
drop_front [] ys = refl
drop_front (x ∷ xs) ys = drop_front xs ys

-- ---- values

-- the first word behind a colon
value_behind : (after rest next end : List ℕ) → IsWord after → IsOpen rest → Splits rest next end → first_word (trimmed (after ++ rest)) ≡ behind_colon after next
value_behind [] rest next end h o s = first_is_word rest next end s
value_behind (b ∷ after) rest next end h o s =
    let some : eqb (suc (length after)) 0 ≡ false = ne_eqb _ _ (λ e. omega arith) in
    ap first_word (trim_word b (after ++ rest) (no_blank b h.0)) ∙ before_blank (b ∷ after) rest h o ∙ rw some refl

word_tail : (before after : List ℕ) → IsWord (before ++ 58 ∷ after) → IsWord after
word_tail [] after h = h.1
word_tail (b ∷ before) after h = word_tail before after h.1

-- what follows the keyword and begins, behind blanks, with this word
value_after : (k : ℕ) (rest next end : List ℕ) (ts : List Token) → Splits rest next end → word_on k ts ≡ [] → first_word (trimmed (without_colon (trimmed rest))) ≡ after_colon k next (drop 1 (map (λ w. (k, w)) (words rest) ++ ts))
unfolding after_colon
value_after k rest [] end ts s none = ap (λ (xs : List ℕ). first_word (trimmed (without_colon xs))) (s.spelt ∙ s.ends refl) ∙ refl
value_after k rest (b ∷ next) end ts s none =
    ap (λ (xs : List ℕ). first_word (trimmed (without_colon xs))) s.spelt
    ∙ at (eqb b 58) refl (splits end s.is_line)
    ∙ ap (λ ws. after_colon k (b ∷ next) (drop 1 (map (λ w. (k, w)) ws ++ ts))) (sym s.words_are)
  where
    at : (v : Bool) → eqb b 58 ≡ v → (word : List ℕ) × (more : List ℕ) × Splits end word more → first_word (trimmed (without_colon ((b ∷ next) ++ end))) ≡ after_colon k (b ∷ next) (map (λ w. (k, w)) (words end) ++ ts)
    at true e g = rw e (value_behind next end g.0 g.1 s.is_word.1 s.is_open g.2 ∙ ap (behind_colon next) (sym (next_word k end g.0 g.1 ts g.2 none)))
    at false e g = rw e (ap first_word (trim_word b (next ++ end) (no_blank b s.is_word.0)) ∙ before_blank (b ∷ next) end s.is_word s.is_open)

value_with : (k : ℕ) (word : List ℕ) (ts : List Token) → position_or_len is_colon word < length word → value_of k word ts ≡ behind_colon (after_first is_colon word) (word_on k ts)
unfolding value_of
value_with k word ts l = let e : ltb (position_or_len is_colon word) (length word) ≡ true = grind (arith, nat_tests) in rw e refl

value_without : (k : ℕ) (word : List ℕ) (ts : List Token) → position_or_len is_colon word ≡ length word → value_of k word ts ≡ after_colon k (word_on k ts) (drop 1 ts)
unfolding value_of
value_without k word ts l = let e : ltb (position_or_len is_colon word) (length word) ≡ false = grind (arith, nat_tests) in rw e refl

-- ---- the line

keyword_is : (line word rest : List ℕ) → Splits line word rest → line_keyword line ≡ name_of word
keyword_is line word rest s = ap (before_first ends_keyword) s.spelt ∙ keyword_word word rest s.is_word s.is_open

value_is : (k : ℕ) (line word rest : List ℕ) (ts : List Token) → Splits line word rest → word_on k ts ≡ [] → value_of k word (map (λ w. (k, w)) (words rest) ++ ts) ≡ first_word (line_value line)
value_is k line word rest ts s none = at (colon_of word) (splits rest s.is_line)
  where
    behind : (name : List ℕ) → name_of word ≡ name → line_value line ≡ trimmed (without_colon (trimmed (drop (length name) (word ++ rest))))
    behind name e = ap (λ (xs : List ℕ). trimmed (without_colon (trimmed (drop (length (line_keyword line)) xs)))) s.spelt ∙ ap (λ (xs : List ℕ). trimmed (without_colon (trimmed (drop (length xs) (word ++ rest))))) (keyword_is line word rest s ∙ e)

    at : Colon word → (next : List ℕ) × (end : List ℕ) × Splits rest next end → value_of k word (map (λ w. (k, w)) (words rest) ++ ts) ≡ first_word (line_value line)
    at (without p n) g =
        value_without k word (map (λ w. (k, w)) (words rest) ++ ts) p
        ∙ ap (λ (xs : List ℕ). after_colon k xs (drop 1 (map (λ w. (k, w)) (words rest) ++ ts))) (next_word k rest g.0 g.1 ts g.2 none)
        ∙ sym (value_after k rest g.0 g.1 ts g.2 none)
        ∙ ap (λ (xs : List ℕ). first_word (trimmed (without_colon (trimmed xs)))) (sym (drop_front word rest))
        ∙ ap first_word (sym (behind word n))
    at (with before after spelt n a p) g =
        value_with k word (map (λ w. (k, w)) (words rest) ++ ts) p
        ∙ ap (λ (xs : List ℕ). behind_colon xs (word_on k (map (λ w. (k, w)) (words rest) ++ ts))) a
        ∙ ap (behind_colon after) (next_word k rest g.0 g.1 ts g.2 none)
        ∙ sym (value_behind after rest g.0 g.1 (word_tail before after (rw spelt at s.is_word)) s.is_open g.2)
        ∙ ap (λ (xs : List ℕ). first_word (trimmed (without_colon (trimmed xs)))) (sym (drop_front before (58 ∷ (after ++ rest))) ∙ ap (drop (length before)) (sym (append_assoc before (58 ∷ after) rest) ∙ ap (λ (xs : List ℕ). xs ++ rest) (sym spelt)))
        ∙ ap first_word (sym (behind before n))

same_first : (w first : List ℕ) (ws more : List (List ℕ)) → onto w ws ≡ first ∷ more → (w ≡ first) × (ws ≡ more)
same_first [] first ws more e = absurd (cc e)
same_first (b ∷ w) first ws more e = (cc e, cc e)

pub headers_lines : HeadersAreLines
headers_lines k line first more ts h e none =
    let s = splits line h in
    let same = same_first s.0 first (words s.1) more (sym s.2.words_are ∙ e) in
    (ap name_of (sym same.0) ∙ sym (keyword_is line s.0 s.1 s.2), ap (λ (w : List ℕ). value_of k w (map (λ w. (k, w)) more ++ ts)) (sym same.0) ∙ ap (λ ws. value_of k s.0 (map (λ w. (k, w)) ws ++ ts)) (sym same.1) ∙ value_is k line s.0 s.1 ts s.2 none)
