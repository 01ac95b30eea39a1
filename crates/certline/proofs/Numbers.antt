-- numbers at the front of bytes
use Rattle.std.proofs.Common.{◌≡◌, ℕ, zero, suc, ◌+◌, ◌*◌, ◌-◌, ◌^◌, ◌<◌, ◌≤◌, Bool, true, false, List, [], ◌∷◌, ◌++◌, length, drop, get_or, decimal, refl, sym, ap, ◌∙◌, subst, arith, one-add, append_assoc}
use Rattle.std.specs.List.{AllByRecursion}
use Rattle.std.specs.Char.{is_ascii_digit, digit_value}
use Rattle.std.specs.Str.Parse.{AllDigits, digits_value, digits_value_after}
use Rattle.std.proofs.lemmas.Fmt.{decimal_is_IsNumeral, decimal-digits_value, first_decimal, decimal_injective, decimal_digit}
use Rattle.std.proofs.lemmas.Str.Parse.{numerals_by_value, tells_digits}
use Rattle.std.proofs.lemmas.Bool.{eqb-true}
use Rattle.std.proofs.lemmas.Bool.Decides.{nat_tests}
use Rattle.certline.specs.Spelling.{digits, behind_digits, first_is, EndsWord, BeginsWith, Spells, spaced}

-- ---- digits at the front

pub digits_step : (b : ℕ) (bs : List ℕ) → is_ascii_digit b ≡ true → digits (b ∷ bs) ≡ b ∷ digits bs
digits_step b bs e = rw (e, one-add) refl

pub behind_step : (b : ℕ) (bs : List ℕ) → is_ascii_digit b ≡ true → behind_digits (b ∷ bs) ≡ behind_digits bs
behind_step b bs e = rw (e, one-add) refl

pub digits_stop : (b : ℕ) (bs : List ℕ) → is_ascii_digit b ≡ false → digits (b ∷ bs) ≡ []
digits_stop b bs e = rw e refl

pub behind_stop : (b : ℕ) (bs : List ℕ) → is_ascii_digit b ≡ false → behind_digits (b ∷ bs) ≡ b ∷ bs
behind_stop b bs e = rw e refl

pub digit_is : (b : ℕ) → is_ascii_digit b ≡ true → digit_value b ≡ b - 48
digit_is b e = grind (arith, nat_tests)

pub value_step : (v b : ℕ) (bs : List ℕ) → is_ascii_digit b ≡ true → digits_value_after 10 v (digits (b ∷ bs)) ≡ digits_value_after 10 (v * 10 + (b - 48)) (digits bs)
value_step v b bs e = ap (digits_value_after 10 v) (digits_step b bs e) ∙ ap (λ d. digits_value_after 10 (v * 10 + d) (digits bs)) (digit_is b e)

digit_test : (b : ℕ) → digit_value b < 10 → is_ascii_digit b ≡ true
digit_test b h = grind (arith, nat_tests)

no_digit : (b : ℕ) → b ≡ 32 → is_ascii_digit b ≡ false
no_digit b h = grind (arith, nat_tests)

test_digit : (b : ℕ) → is_ascii_digit b ≡ true → digit_value b < 10
test_digit b e = grind (arith, nat_tests)

-- digits and what stands behind them make up the bytes
digits_cases : (b : ℕ) (bs : List ℕ) (t : Bool) → is_ascii_digit b ≡ t → bs ≡ digits bs ++ behind_digits bs → b ∷ bs ≡ digits (b ∷ bs) ++ behind_digits (b ∷ bs)
digits_cases b bs true e h = ap (λ r. b ∷ r) h ∙ (ap (λ r. r ++ behind_digits bs) (sym (digits_step b bs e)) ∙ ap (λ r. digits (b ∷ bs) ++ r) (sym (behind_step b bs e)))
digits_cases b bs false e h = ap (λ r. r ++ (b ∷ bs)) (sym (digits_stop b bs e)) ∙ ap (λ r. digits (b ∷ bs) ++ r) (sym (behind_stop b bs e))

pub digits_behind : (bs : List ℕ) → bs ≡ digits bs ++ behind_digits bs
digits_behind [] = refl
digits_behind (b ∷ bs) = digits_cases b bs (is_ascii_digit b) refl (digits_behind bs)

digits_all_cases : (b : ℕ) (bs : List ℕ) (t : Bool) → is_ascii_digit b ≡ t → AllDigits 10 (digits bs) → AllDigits 10 (digits (b ∷ bs))
digits_all_cases b bs true e h = subst (AllDigits 10) (sym (digits_step b bs e)) (test_digit b e, h)
digits_all_cases b bs false e h = subst (AllDigits 10) (sym (digits_stop b bs e)) tt

pub digits_all : (bs : List ℕ) → AllDigits 10 (digits bs)
digits_all [] = tt
digits_all (b ∷ bs) = digits_all_cases b bs (is_ascii_digit b) refl (digits_all bs)

-- digits before the end of a word are those at the front
pub digits_of_word : (ds rest : List ℕ) → AllDigits 10 ds → EndsWord rest → digits (ds ++ rest) ≡ ds
digits_of_word [] [] d e = refl
digits_of_word [] (r ∷ rs) d e = digits_stop r rs (no_digit r e)
digits_of_word (c ∷ cs) rest d e = digits_step c (cs ++ rest) (digit_test c d.0) ∙ ap (λ x. c ∷ x) (digits_of_word cs rest d.1 e)

pub behind_word : (ds rest : List ℕ) → AllDigits 10 ds → EndsWord rest → behind_digits (ds ++ rest) ≡ rest
behind_word [] [] d e = refl
behind_word [] (r ∷ rs) d e = behind_stop r rs (no_digit r e)
behind_word (c ∷ cs) rest d e = behind_step c (cs ++ rest) (digit_test c d.0) ∙ behind_word cs rest d.1 e

-- ---- words of numbers

begun : (ds rest : List ℕ) → 0 < length ds → get_or (ds ++ rest) 0 0 ≡ get_or ds 0 0
begun [] rest h = absurd (omega arith)
begun (d ∷ ds) rest h = refl

pub first_zero : (bs : List ℕ) → get_or bs 0 0 ≡ 48 → first_is 48 bs ≡ true
first_zero [] e = absurd (omega arith)
first_zero (b ∷ bs) e = grind (arith, nat_tests)

pub zero_first : (bs : List ℕ) → first_is 48 bs ≡ true → get_or bs 0 0 ≡ 48
zero_first [] e = cc
zero_first (b ∷ bs) e = eqb-true b 48 e

-- the digits at the front are the word of a number
pub record IsNumberWord (bytes : List ℕ) : Type 0 where
  pub some : 0 < length (digits bytes)
  pub small : digits_value 10 (digits bytes) < 10 ^ 19
  pub lead : 1 < length (digits bytes) → first_is 48 bytes ≡ true → ⊥
  pub ends : EndsWord (behind_digits bytes)

word_lead : (n : ℕ) (rest : List ℕ) → n < 10 ^ 19 → 1 < length (decimal n) → first_is 48 (decimal n ++ rest) ≡ true → ⊥
word_lead zero rest small long lead = let short = ap length (decimal_digit 0 (omega arith)) in omega arith
word_lead (suc n) rest small long lead =
    let first = first_decimal (suc n) (omega arith) (omega arith) in
    let zero_is = zero_first (decimal (suc n) ++ rest) lead in
    let same = begun (decimal (suc n)) rest (omega arith) in
    omega arith

-- the number of a word, and what stands behind it, are those that are read
pub word_read : (bytes : List ℕ) (n : ℕ) (rest : List ℕ) → BeginsWith bytes n rest → (digits bytes ≡ decimal n) × (behind_digits bytes ≡ rest)
word_read bytes n rest h =
    let small = h.small in
    let d = decimal_is_IsNumeral n (omega arith) in
    (ap digits h.said ∙ digits_of_word (decimal n) rest d.0.1 h.ends, ap behind_digits h.said ∙ behind_word (decimal n) rest d.0.1 h.ends)

pub is_word : (bytes : List ℕ) (n : ℕ) (rest : List ℕ) → BeginsWith bytes n rest → IsNumberWord bytes
is_word bytes n rest h =
    let small = h.small in
    let d = decimal_is_IsNumeral n (omega arith) in
    let r = word_read bytes n rest h in
    let same = ap length r.0 in
    record {
      some = let some = d.0.0 in omega arith;
      small = let value : digits_value 10 (digits bytes) ≡ n = ap (digits_value 10) r.0 ∙ d.1 in omega arith;
      lead = λ l e. word_lead n rest h.small (omega arith) (subst (λ b. first_is 48 b ≡ true) h.said e);
      ends = subst EndsWord (sym r.1) h.ends;
    }

-- more digits make no less a value
after_grows : (v : ℕ) (ds : List ℕ) → v ≤ digits_value_after 10 v ds
after_grows v [] = omega arith
after_grows v (d ∷ ds) = let ih = after_grows (v * 10 + digit_value d) ds in omega arith

-- no digit is left behind a great value, where the whole is not too great
pub none_left : (v : ℕ) (ds : List ℕ) (whole : ℕ) → digits_value_after 10 v ds ≡ whole → 10 ^ 18 ≤ v → whole < 10 ^ 19 → ds ≡ []
none_left v [] whole e great h = refl
none_left v (d ∷ ds) whole e great h = absurd (let grows = after_grows (v * 10 + digit_value d) ds in omega arith)

-- no digit stands where a word ends
pub end_digits : (rest : List ℕ) → EndsWord rest → digits rest ≡ []
end_digits [] e = refl
end_digits (b ∷ bs) e = digits_stop b bs (no_digit b e)

pub behind_none : (rest : List ℕ) → digits rest ≡ [] → behind_digits rest ≡ rest
behind_none rest e = sym (digits_behind rest ∙ ap (λ ds. ds ++ behind_digits rest) e)

pub number_said : (bytes rest : List ℕ) (v : ℕ) → IsNumberWord bytes → v ≡ digits_value 10 (digits bytes) → rest ≡ behind_digits bytes → BeginsWith bytes v rest
number_said bytes rest v w same r =
    let ds = digits bytes in
    let d = digits_all bytes in
    let small = w.small in
    let lead : get_or ds 0 0 ≡ 48 → length ds ≡ 1 = λ z. only_one ds (first_is_digit bytes w.some z) w.some w.lead in
    let spelled : decimal (digits_value 10 ds) ≡ ds = decimal-digits_value (numerals_by_value (AllDigits 10) tells_digits) ds d w.some lead (omega arith) in
    record {
      said = digits_behind bytes ∙ ap (λ x. x ++ behind_digits bytes) (sym spelled) ∙ ap (λ x. decimal x ++ behind_digits bytes) (sym same) ∙ ap (λ x. decimal v ++ x) (sym r);
      small = omega arith;
      ends = subst EndsWord (sym r) w.ends;
    }
  where
    first_is_digit : (bs : List ℕ) → 0 < length (digits bs) → get_or (digits bs) 0 0 ≡ 48 → first_is 48 bs ≡ true
    first_is_digit bs some z = first_zero bs (ap (λ x. get_or x 0 0) (digits_behind bs) ∙ begun (digits bs) (behind_digits bs) some ∙ z)

    only_one : (ds : List ℕ) {P : Type 0} → P → 0 < length ds → (1 < length ds → P → ⊥) → length ds ≡ 1
    only_one [] p some lead = absurd (omega arith)
    only_one (d ∷ []) p some lead = refl
    only_one (d ∷ e ∷ es) p some lead = absurd (lead (omega arith) p)

pub begins_once : (bytes : List ℕ) (n m : ℕ) (r s : List ℕ) → BeginsWith bytes n r → BeginsWith bytes m s → (n ≡ m) × (r ≡ s)
begins_once bytes n m r s a b =
    let x = word_read bytes n r a in
    let y = word_read bytes m s b in
    let small = a.small in
    let small_too = b.small in
    (decimal_injective n m (omega arith) (omega arith) (sym x.0 ∙ y.0), sym x.1 ∙ y.1)

-- a text spells one number at its front
pub spells_once : (text : List ℕ) (n m : ℕ) (r s : List ℕ) → Spells text n r → Spells text m s → (n ≡ m) × (r ≡ s)
spells_once text n m r s a b =
    let p = begins_again text n r a in
    let q = begins_again text m s b in
    let x = word_read (drop 1 text) n r p in
    let y = word_read (drop 1 text) m s q in
    let small = a.small in
    let small_too = b.small in
    (decimal_injective n m (omega arith) (omega arith) (sym x.0 ∙ y.0), sym x.1 ∙ y.1)
  where
    begins_again : (t : List ℕ) (k : ℕ) (u : List ℕ) → Spells t k u → BeginsWith (drop 1 t) k u
    begins_again t k u h = record { said = ap (drop 1) h.said; small = h.small; ends = h.ends }

pub begins_behind : (text : List ℕ) (n : ℕ) (rest : List ℕ) → Spells text n rest → BeginsWith (drop 1 text) n rest
begins_behind text n rest h = record { said = ap (drop 1) h.said; small = h.small; ends = h.ends }

pub blank_first : (text : List ℕ) (n : ℕ) (rest : List ℕ) → Spells text n rest → first_is 32 text ≡ true
blank_first text n rest h = ap (first_is 32) h.said

with_blank : (text : List ℕ) → first_is 32 text ≡ true → text ≡ 32 ∷ drop 1 text
with_blank [] e = cc
with_blank (b ∷ bs) e = ap (λ x. x ∷ bs) (eqb-true b 32 e)

pub spells : (text : List ℕ) (n : ℕ) (rest : List ℕ) → first_is 32 text ≡ true → BeginsWith (drop 1 text) n rest → Spells text n rest
spells text n rest e h = record { said = with_blank text e ∙ ap (λ x. 32 ∷ x) h.said; small = h.small; ends = h.ends }

-- ---- numbers one behind the other

spaced_ends : (ns : List ℕ) → EndsWord (spaced ns)
spaced_ends [] = tt
spaced_ends (n ∷ ns) = refl

spaced_spells : (text : List ℕ) (n : ℕ) (ns : List ℕ) → n < 10 ^ 19 → text ≡ spaced (n ∷ ns) → Spells text n (spaced ns)
spaced_spells text n ns h e = record { said = e; small = h; ends = spaced_ends ns }

-- the number that is read is the first, and the rest are behind it
pub follows : (text : List ℕ) (n : ℕ) (rest : List ℕ) (m : ℕ) (ms : List ℕ) → Spells text n rest → m < 10 ^ 19 → text ≡ spaced (m ∷ ms) → (n ≡ m) × (rest ≡ spaced ms)
follows text n rest m ms h l e = spells_once text n m rest (spaced ms) h (spaced_spells text m ms l e)

pub not_followed : (text : List ℕ) → ((n : ℕ) (rest : List ℕ) → Spells text n rest → ⊥) → (m : ℕ) (ms : List ℕ) → m < 10 ^ 19 → text ≡ spaced (m ∷ ms) → ⊥
not_followed text never m ms l e = never m (spaced ms) (spaced_spells text m ms l e)

pub spaced_empty : (ns : List ℕ) → length (spaced ns) ≡ 0 → ns ≡ []
spaced_empty [] e = refl
spaced_empty (n ∷ ns) e = absurd (omega arith)

pub spaced_first : (rest : List ℕ) (ns : List ℕ) → rest ≡ spaced ns → 0 < length rest → (n : ℕ) × (ms : List ℕ) × (ns ≡ n ∷ ms)
spaced_first rest [] e h = absurd (let l = ap length e in omega arith)
spaced_first rest (n ∷ ms) e h = (n, ms, refl)

pub spaced_push : (ns : List ℕ) (n : ℕ) (rest : List ℕ) → spaced (ns ++ n ∷ []) ++ rest ≡ spaced ns ++ (32 ∷ decimal n ++ rest)
spaced_push [] n rest = ap (λ x. 32 ∷ x) (append_assoc (decimal n) [] rest)
spaced_push (m ∷ ns) n rest = ap (λ x. 32 ∷ x) (append_assoc (decimal m) (spaced (ns ++ n ∷ [])) rest ∙ ap (λ x. decimal m ++ x) (spaced_push ns n rest) ∙ sym (append_assoc (decimal m) (spaced ns) (32 ∷ decimal n ++ rest)))

pub spaced_append : (ns ms : List ℕ) → spaced (ns ++ ms) ≡ spaced ns ++ spaced ms
spaced_append [] ms = refl
spaced_append (n ∷ ns) ms = ap (λ x. 32 ∷ decimal n ++ x) (spaced_append ns ms) ∙ ap (λ x. 32 ∷ x) (sym (append_assoc (decimal n) (spaced ns) (spaced ms)))

pub empty : {X : Type 0} (xs : List X) → length xs ≡ 0 → xs ≡ []
empty [] e = refl
empty (x ∷ xs) e = absurd (omega arith)

-- numbers are spelled in one way
pub spaced_same : (ns ms : List ℕ) → AllByRecursion (λ n. n < 10 ^ 19) ns → AllByRecursion (λ n. n < 10 ^ 19) ms → spaced ns ≡ spaced ms → ns ≡ ms
spaced_same [] [] h k e = refl
spaced_same [] (m ∷ ms) h k e = absurd (let l = ap length e in omega arith)
spaced_same (n ∷ ns) [] h k e = absurd (let l = ap length e in omega arith)
spaced_same (n ∷ ns) (m ∷ ms) h k e =
    let f = follows (spaced (n ∷ ns)) n (spaced ns) m ms (spaced_spells (spaced (n ∷ ns)) n ns h.0 refl) k.0 e in
    ap (λ r. r ∷ ns) f.0 ∙ ap (λ r. m ∷ r) (spaced_same ns ms h.1 k.1 f.1)
