-- numbers that are read one behind the other
use Rattle.std.proofs.Common.{◌≡◌, ℕ, ◌+◌, ◌^◌, ◌<◌, ◌≤◌, true, false, List, [], ◌∷◌, ◌++◌, length, refl, sym, ap, ◌∙◌, subst, arith, append_assoc, decimal}
use Rattle.std.specs.Prelude.{nat_le, nat_lt, ◌&&◌, ◌==◌}
use Rattle.std.proofs.lemmas.Bool.{and_parts, and_from, lt-ltb, le-leb, ltb-true, leb-true}
use Rattle.certdef.specs.Items.{each_below, rises, is_set}
use Rattle.verdict.proofs.Lines.{rises_length}
use Rattle.certline.specs.Spelling.{Spells, spaced}
use Rattle.certline.proofs.Numbers.{empty, follows, not_followed, spaced_first, spaced_push, spaced_empty}

pub append_nil : {X : Type 0} (xs : List X) → xs ++ [] ≡ xs
append_nil [] = refl
append_nil (x ∷ xs) = ap (λ r. x ∷ r) (append_nil xs)

pub some_left : {X : Type 0} (xs : List X) → (length xs == 0) ≡ false → 0 < length xs
some_left [] e = cc
some_left (x ∷ xs) e = omega arith

below_push : (most : ℕ) (xs : List ℕ) (c : ℕ) → each_below most xs ≡ true → c < most → each_below most (xs ++ c ∷ []) ≡ true
below_push most [] c e h = and_from (nat_lt c most) true (lt-ltb c most h) refl
below_push most (x ∷ xs) c e h =
    let p = and_parts (nat_lt x most) (each_below most xs) e in
    and_from (nat_lt x most) (each_below most (xs ++ c ∷ [])) p.0 (below_push most xs c p.1 h)

below_at : (most : ℕ) (xs : List ℕ) (c : ℕ) (cs : List ℕ) → each_below most (xs ++ c ∷ cs) ≡ true → c < most
below_at most [] c cs e = ltb-true c most (and_parts (nat_lt c most) (each_below most cs) e).0
below_at most (x ∷ xs) c cs e = below_at most xs c cs (and_parts (nat_lt x most) (each_below most (xs ++ c ∷ cs)) e).1

-- what is left to read of numbers of which some are read
pub record IsLeft (read rest all : List ℕ) : Type 0 where
  pub more : List ℕ
  pub spelled : rest ≡ spaced more
  pub whole : all ≡ read ++ more

pub record NumbersRead (tail rest read : List ℕ) : Type 0 where
  pub said : tail ≡ spaced read ++ rest
  pub small : each_below (10 ^ 10) read ≡ true
  pub left : (ns : List ℕ) → each_below (10 ^ 10) ns ≡ true → tail ≡ spaced ns → IsLeft read rest ns

pub none_read : (tail : List ℕ) → NumbersRead tail tail []
none_read tail = record { said = refl; small = refl; left = λ ns b e. record { more = ns; spelled = e; whole = refl } }

said_more : (tail rest read : List ℕ) (n : ℕ) (more : List ℕ) → tail ≡ spaced read ++ rest → Spells rest n more → tail ≡ spaced (read ++ n ∷ []) ++ more
said_more tail rest read n more e h = e ∙ ap (λ r. spaced read ++ r) h.said ∙ sym (spaced_push read n more)

left_more : (rest read all : List ℕ) (n : ℕ) (more : List ℕ) → Spells rest n more → ((m : ℕ) (ms : List ℕ) → all ≡ read ++ m ∷ ms → m < 10 ^ 19) → IsLeft read rest all → IsLeft (read ++ n ∷ []) more all
left_more rest read all n more h small l =
    let some : 0 < length rest = let e = ap length h.said in omega arith in
    let f = spaced_first rest l.more l.spelled some in
    let split : all ≡ read ++ f.0 ∷ f.1 = l.whole ∙ ap (λ r. read ++ r) f.2 in
    let g = follows rest n more f.0 f.1 h (small f.0 f.1 split) (l.spelled ∙ ap spaced f.2) in
    record { more = f.1; spelled = g.1; whole = split ∙ ap (λ r. read ++ r ∷ f.1) (sym g.0) ∙ sym (append_assoc read (n ∷ []) f.1) }

below_small : (all read : List ℕ) → each_below (10 ^ 10) all ≡ true → (m : ℕ) (ms : List ℕ) → all ≡ read ++ m ∷ ms → m < 10 ^ 10
below_small all read b m ms e = below_at (10 ^ 10) read m ms (subst (λ r. each_below (10 ^ 10) r ≡ true) e b)

pub one_read : (tail rest read : List ℕ) (n : ℕ) (more : List ℕ) → Spells rest n more → n < 10 ^ 10 → NumbersRead tail rest read → NumbersRead tail more (read ++ n ∷ [])
one_read tail rest read n more h l k = record {
  said = said_more tail rest read n more k.said h;
  small = below_push (10 ^ 10) read n k.small l;
  left = λ ns b e. left_more rest read ns n more h (λ m ms f. let s = below_small ns read b m ms f in omega arith) (k.left ns b e);
}

-- nothing is spelled where the next word is no number
pub stuck : (tail rest read ns : List ℕ) → 0 < length rest → ((n : ℕ) (more : List ℕ) → Spells rest n more → ⊥) → NumbersRead tail rest read → each_below (10 ^ 10) ns ≡ true → tail ≡ spaced ns → ⊥
stuck tail rest read ns some never k b e =
    let l = k.left ns b e in
    let f = spaced_first rest l.more l.spelled some in
    let s = below_small ns read b f.0 f.1 (l.whole ∙ ap (λ r. read ++ r) f.2) in
    not_followed rest never f.0 f.1 (omega arith) (l.spelled ∙ ap spaced f.2)

-- or is too great
pub too_great : (tail rest read ns : List ℕ) (n : ℕ) (more : List ℕ) → Spells rest n more → 10 ^ 10 ≤ n → NumbersRead tail rest read → each_below (10 ^ 10) ns ≡ true → tail ≡ spaced ns → ⊥
too_great tail rest read ns n more h great k b e =
    let l = k.left ns b e in
    let some : 0 < length rest = let q = ap length h.said in omega arith in
    let f = spaced_first rest l.more l.spelled some in
    let s = below_small ns read b f.0 f.1 (l.whole ∙ ap (λ r. read ++ r) f.2) in
    let g = follows rest n more f.0 f.1 h (omega arith) (l.spelled ∙ ap spaced f.2) in
    let same = g.0 in
    omega arith

pub all_read : (tail rest read : List ℕ) → length rest ≡ 0 → tail ≡ spaced read ++ rest → tail ≡ spaced read
all_read tail rest read h e = e ∙ ap (λ r. spaced read ++ r) (empty rest h) ∙ append_nil (spaced read)

left_none : (rest read all : List ℕ) → length rest ≡ 0 → IsLeft read rest all → all ≡ read
left_none rest read all h l =
    let none : l.more ≡ [] = spaced_empty l.more (sym (ap length l.spelled) ∙ h) in
    l.whole ∙ ap (λ r. read ++ r) none ∙ append_nil read

pub only_read : (tail rest read ns : List ℕ) → length rest ≡ 0 → NumbersRead tail rest read → each_below (10 ^ 10) ns ≡ true → tail ≡ spaced ns → ns ≡ read
only_read tail rest read ns h k b e = left_none rest read ns h (k.left ns b e)

-- ---- cities that rise

pub record CitiesRead (n : ℕ) (tail rest read : List ℕ) (least : ℕ) : Type 0 where
  pub said : tail ≡ spaced read ++ rest
  pub rise : (ms : List ℕ) → rises least n ms ≡ true → rises 1 n (read ++ ms) ≡ true
  pub falls : (ms : List ℕ) → rises 1 n (read ++ ms) ≡ true → rises least n ms ≡ true
  pub left : (s : List ℕ) → rises 1 n s ≡ true → tail ≡ spaced s → IsLeft read rest s

pub no_city_read : (n : ℕ) (tail : List ℕ) → CitiesRead n tail tail [] 1
no_city_read n tail = record { said = refl; rise = λ ms e. e; falls = λ ms e. e; left = λ s b e. record { more = s; spelled = e; whole = refl } }

rise_first : (n least c : ℕ) (cs : List ℕ) → rises least n (c ∷ cs) ≡ true → (least ≤ c) × (c ≤ n) × (rises (c + 1) n cs ≡ true)
rise_first n least c cs e =
    let p = and_parts (nat_le least c && nat_le c n) (rises (c + 1) n cs) e in
    let q = and_parts (nat_le least c) (nat_le c n) p.0 in
    (leb-true least c q.0, leb-true c n q.1, p.1)

first_rises : (n least c : ℕ) (cs : List ℕ) → least ≤ c → c ≤ n → rises (c + 1) n cs ≡ true → rises least n (c ∷ cs) ≡ true
first_rises n least c cs h k e = and_from (nat_le least c && nat_le c n) (rises (c + 1) n cs) (and_from (nat_le least c) (nat_le c n) (le-leb least c h) (le-leb c n k)) e

city_next : (n : ℕ) (tail rest read : List ℕ) (least : ℕ) (s : List ℕ) → CitiesRead n tail rest read least → rises 1 n s ≡ true → (m : ℕ) (ms : List ℕ) → s ≡ read ++ m ∷ ms → (least ≤ m) × (m ≤ n) × (rises (m + 1) n ms ≡ true)
city_next n tail rest read least s k b m ms e = rise_first n least m ms (k.falls (m ∷ ms) (subst (λ r. rises 1 n r ≡ true) e b))

pub city_read : (n : ℕ) (tail rest read : List ℕ) (least c : ℕ) (more : List ℕ) → n < 2 ^ 32 → Spells rest c more → least ≤ c → c ≤ n → CitiesRead n tail rest read least → CitiesRead n tail more (read ++ c ∷ []) (c + 1)
city_read n tail rest read least c more small h low high k = record {
  said = said_more tail rest read c more k.said h;
  rise = λ ms e. subst (λ r. rises 1 n r ≡ true) (sym (append_assoc read (c ∷ []) ms)) (k.rise (c ∷ ms) (first_rises n least c ms low high e));
  falls = λ ms e. (rise_first n least c ms (k.falls (c ∷ ms) (subst (λ r. rises 1 n r ≡ true) (append_assoc read (c ∷ []) ms) e))).2;
  left = λ s b e. left_more rest read s c more h (λ m ms f. let q = (city_next n tail rest read least s k b m ms f).1 in omega arith) (k.left s b e);
}

pub city_stuck : (n : ℕ) (tail rest read : List ℕ) (least : ℕ) (s : List ℕ) → n < 2 ^ 32 → 0 < length rest → ((c : ℕ) (more : List ℕ) → Spells rest c more → ⊥) → CitiesRead n tail rest read least → rises 1 n s ≡ true → tail ≡ spaced s → ⊥
city_stuck n tail rest read least s small some never k b e =
    let l = k.left s b e in
    let f = spaced_first rest l.more l.spelled some in
    let q = (city_next n tail rest read least s k b f.0 f.1 (l.whole ∙ ap (λ r. read ++ r) f.2)).1 in
    not_followed rest never f.0 f.1 (omega arith) (l.spelled ∙ ap spaced f.2)

-- the city that is read is the next one
pub city_same : (n : ℕ) (tail rest read : List ℕ) (least : ℕ) (s : List ℕ) (c : ℕ) (more : List ℕ) → n < 2 ^ 32 → Spells rest c more → CitiesRead n tail rest read least → rises 1 n s ≡ true → tail ≡ spaced s → (least ≤ c) × (c ≤ n)
city_same n tail rest read least s c more small h k b e =
    let l = k.left s b e in
    let some : 0 < length rest = let q = ap length h.said in omega arith in
    let f = spaced_first rest l.more l.spelled some in
    let q = city_next n tail rest read least s k b f.0 f.1 (l.whole ∙ ap (λ r. read ++ r) f.2) in
    let low = q.0 in
    let high = q.1 in
    let same = (follows rest c more f.0 f.1 h (omega arith) (l.spelled ∙ ap spaced f.2)).0 in
    (omega arith, omega arith)

pub cities_rise : (n : ℕ) (tail rest read : List ℕ) (least : ℕ) → CitiesRead n tail rest read least → rises 1 n read ≡ true
cities_rise n tail rest read least k = subst (λ r. rises 1 n r ≡ true) (append_nil read) (k.rise [] refl)

pub only_cities : (n : ℕ) (tail rest read : List ℕ) (least : ℕ) (s : List ℕ) → length rest ≡ 0 → CitiesRead n tail rest read least → rises 1 n s ≡ true → tail ≡ spaced s → s ≡ read
only_cities n tail rest read least s h k b e = left_none rest read s h (k.left s b e)

-- ---- sets

pub set_parts : (n : ℕ) (s : List ℕ) → n < 2 ^ 32 → is_set n s ≡ true → (0 < length s) × (length s < 10 ^ 19) × (rises 1 n s ≡ true)
set_parts n s h e =
    let p = and_parts (nat_lt 0 (length s)) (rises 1 n s) e in
    let l = rises_length 1 n s (omega arith) p.1 in
    (ltb-true 0 (length s) p.0, omega arith, p.1)

pub set_from : (n : ℕ) (s : List ℕ) → 0 < length s → rises 1 n s ≡ true → is_set n s ≡ true
set_from n s h e = and_from (nat_lt 0 (length s)) (rises 1 n s) (lt-ltb 0 (length s) h) e

pub set_said : (tail rest s : List ℕ) (m : ℕ) → Spells tail m rest → rest ≡ spaced s → length s ≡ m → tail ≡ spaced (length s ∷ s)
set_said tail rest s m h e l = h.said ∙ ap (λ r. 32 ∷ decimal m ++ r) e ∙ ap (λ k. 32 ∷ decimal k ++ spaced s) (sym l)
