-- What the entries of a tournament say of its places.
use Rattle.std.proofs.Common.{◌≡◌, ◌≢◌, ℕ, zero, suc, ◌+◌, ◌*◌, ◌/◌, ◌-◌, ◌<◌, ◌≤◌, inl, inr, Option, None, Some, List, length, set, sym, ◌∙◌, ap, subst, arith, ⊎_elim, refl, ℤ, ◌<ℤ◌, ◌^◌}
use Rattle.std.proofs.lemmas.List.{get_or-set_same, get_or-set_other}
use Rattle.std.proofs.lemmas.Bool.{cases_lt, cases_eq}
use Rattle.std.proofs.lemmas.Int.{ints}
use Rattle.std.proofs.lemmas.Grind.{common_steps}
use Rattle.tournament.specs.declared.Candidate.{Candidate}
use Rattle.tournament.specs.Places.{entry_at, key_in, key_of, ComesFirst, IsLeast, NoneTakesPart}
use Rattle.tournament.specs.Entries.{Beats, IsFirstOf, IsMadeAt, AreMadeBut, AreAtHome, IsTournament, IsNumbered}

-- ---- which comes first

pub beats_self : (a : Option Candidate) → Beats a a
beats_self None = tt
beats_self (Some x) = inr (refl, omega arith)

first_trans : (x y z : ℤ) (i j k : ℕ) → ComesFirst x i y j → ComesFirst y j z k → ComesFirst x i z k
first_trans x y z i j k p q = ⊎_elim
    (λ l. ⊎_elim
    (λ m. inl (omega (arith, ints, l, m)))
    (λ e. inl (subst (λ w. x <ℤ w) e.0 l))
    q)
    (λ d. ⊎_elim
    (λ m. inl (subst (λ w. w <ℤ z) (sym d.0) m))
    (λ e. let a = d.1 in let b = e.1 in inr (d.0 ∙ e.0, omega (arith, a, b)))
    q)
    p

beats_trans : (a b c : Option Candidate) → Beats a b → Beats b c → Beats a c
beats_trans a b None p q = tt
beats_trans None None (Some z) p q = absurd q
beats_trans None (Some y) (Some z) p q = absurd p
beats_trans (Some x) None (Some z) p q = absurd q
beats_trans (Some x) (Some y) (Some z) p q = first_trans x.key y.key z.key x.number y.number z.number p q

beats_nobody : (a : Option Candidate) → Beats None a → a ≡ None
beats_nobody None p = refl
beats_nobody (Some x) p = absurd p

-- ---- one entry is written

pub other_entry : (entries : List (Option Candidate)) (w i : ℕ) (v : Option Candidate) → i ≢ w → entry_at (set entries w v) i ≡ entry_at entries i
other_entry entries w i v ne = get_or-set_other entries w i v None ne

made_at : (a b r x y z : Option Candidate) → x ≡ a → y ≡ b → z ≡ r → IsFirstOf a b r → IsFirstOf x y z
made_at a b r x y z p q s made = subst (λ m. IsFirstOf m y z) (sym p) (subst (λ m. IsFirstOf a m z) (sym q) (subst (λ m. IsFirstOf a b m) (sym s) made))

unmoved : (entries : List (Option Candidate)) (w i : ℕ) (v : Option Candidate) → i ≢ w → i ≢ w / 2 → IsMadeAt entries i → IsMadeAt (set entries w v) i
unmoved entries w i v here below made =
    made_at (entry_at entries (2 * i)) (entry_at entries (2 * i + 1)) (entry_at entries i) (entry_at (set entries w v) (2 * i)) (entry_at (set entries w v) (2 * i + 1)) (entry_at (set entries w v) i)
    (other_entry entries w (2 * i) v (λ e. below (omega (arith, e))))
    (other_entry entries w (2 * i + 1) v (λ e. below (omega (arith, e))))
    (other_entry entries w i v here)
    made

-- a place is written: all entries but the one above it stay made
pub place_written : (entries : List (Option Candidate)) (size w : ℕ) (v : Option Candidate) → size ≤ w → AreMadeBut entries size 0 → AreMadeBut (set entries w v) size (w / 2)
place_written entries size w v past made i from to ne = unmoved entries w i v (λ e. absurd (omega (arith, past, to, e))) ne (made i from to (λ e. absurd (omega (arith, from, e))))

-- an entry is made anew: all but the one above it stay made
pub entry_written : (entries : List (Option Candidate)) (size h : ℕ) (v : Option Candidate) → 1 ≤ h → h < length entries
    → IsFirstOf (entry_at entries (2 * h)) (entry_at entries (2 * h + 1)) v → AreMadeBut entries size h → AreMadeBut (set entries h v) size (h / 2)
entry_written entries size h v from inside first made i one to ne = ⊎_elim
    (λ e. subst (λ k. IsMadeAt (set entries h v) k) (sym e)
    (made_at (entry_at entries (2 * h)) (entry_at entries (2 * h + 1)) v (entry_at (set entries h v) (2 * h)) (entry_at (set entries h v) (2 * h + 1)) (entry_at (set entries h v) h)
    (other_entry entries h (2 * h) v (λ s. absurd (omega (arith, s, from))))
    (other_entry entries h (2 * h + 1) v (λ s. absurd (omega (arith, s, from))))
    (get_or-set_same entries h v None inside)
    first))
    (λ other. unmoved entries h i v other ne (made i one to other))
    (cases_eq i h)

-- ---- the entry at the top

top_within : (fuel : ℕ) (entries : List (Option Candidate)) (size i : ℕ) → i ≤ fuel → 1 ≤ i → i < 2 * size → AreMadeBut entries size 0 → Beats (entry_at entries 1) (entry_at entries i)
top_within zero entries size i few from to made = absurd (omega (arith, few, from))
top_within (suc fuel) entries size i few from to made = ⊎_elim
    (λ e. subst (λ k. Beats (entry_at entries 1) (entry_at entries k)) (sym e) (beats_self (entry_at entries 1)))
    (λ ne.
    let up : Beats (entry_at entries 1) (entry_at entries (i / 2)) = top_within fuel entries size (i / 2) (omega (arith, few, from, ne)) (omega (arith, from, ne)) (omega (arith, from, to)) made in
    let at : IsMadeAt entries (i / 2) = made (i / 2) (omega (arith, from, ne)) (omega (arith, to)) (λ s. absurd (omega (arith, from, ne, s))) in
    ⊎_elim
    (λ left. subst (λ k. Beats (entry_at entries 1) (entry_at entries k)) (sym left) (beats_trans (entry_at entries 1) (entry_at entries (i / 2)) (entry_at entries (2 * (i / 2))) up at.before_left))
    (λ right.
    let odd : i ≡ 2 * (i / 2) + 1 = omega (arith, right) in
    subst (λ k. Beats (entry_at entries 1) (entry_at entries k)) (sym odd) (beats_trans (entry_at entries 1) (entry_at entries (i / 2)) (entry_at entries (2 * (i / 2) + 1)) up at.before_right))
    (cases_eq i (2 * (i / 2))))
    (cases_eq i 1)

pub top_beats : (entries : List (Option Candidate)) (size i : ℕ) → 1 ≤ i → i < 2 * size → AreMadeBut entries size 0 → Beats (entry_at entries 1) (entry_at entries i)
top_beats entries size i from to made = top_within i entries size i (omega arith) from to made

-- who is at an entry is at home too
home_within : (fuel : ℕ) (entries : List (Option Candidate)) (size i : ℕ) (c : Candidate) → 2 * size ≤ fuel + i → 1 ≤ i → i < 2 * size
    → AreMadeBut entries size 0 → AreAtHome entries size → entry_at entries i ≡ Some c → entry_at entries (size + c.number) ≡ Some c
home_within zero entries size i c few from to made home is = absurd (omega (arith, few, to))
home_within (suc fuel) entries size i c few from to made home is = ⊎_elim
    (λ inner.
    let at : IsMadeAt entries i = made i from inner (λ s. absurd (omega (arith, from, s))) in
    ⊎_elim
    (λ left. home_within fuel entries size (2 * i) c (omega (arith, few, from)) (omega (arith, from)) (omega (arith, inner)) made home (sym left ∙ is))
    (λ right. home_within fuel entries size (2 * i + 1) c (omega (arith, few, from)) (omega (arith, from)) (omega (arith, inner)) made home (sym right ∙ is))
    at.one)
    (λ past.
    let k : ℕ = i - size in
    let e : size + k ≡ i = omega (arith, past) in
    let number : c.number ≡ k = home k c (omega (arith, past, to)) (ap (λ m. entry_at entries m) e ∙ is) in
    ap (λ m. entry_at entries (size + m)) number ∙ ap (λ m. entry_at entries m) e ∙ is)
    (cases_lt i size)

-- ---- numbers

key_found : (a : Option Candidate) (y : ℤ) → key_in a ≡ Some y → (d : Candidate) × ((a ≡ Some d) × (d.key ≡ y))
key_found None y is = absurd (cc)
key_found (Some d) y is = (d, (refl, cc))

within_size : (entries : List (Option Candidate)) (size j : ℕ) (d : Candidate) → length entries ≡ 2 * size → entry_at entries (size + j) ≡ Some d → j < size
within_size entries size j d long is = ⊎_elim
    (λ l. l)
    (λ past. let none : entry_at entries (size + j) ≡ None = grind (arith, common_steps) in let h : Some d ≡ None = sym is ∙ none in absurd (cc))
    (cases_lt j size)

first_against : (entries : List (Option Candidate)) (size : ℕ) (c d : Candidate) (j : ℕ) → IsTournament entries size → entry_at entries 1 ≡ Some c → entry_at entries (size + j) ≡ Some d → ComesFirst c.key c.number d.key j
first_against entries size c d j t top is =
    let inside : j < size = within_size entries size j d t.long is in
    let beats : Beats (entry_at entries 1) (entry_at entries (size + j)) = top_beats entries size (size + j) (omega (arith, inside)) (omega (arith, inside)) t.made in
    let them : Beats (Some c) (Some d) = subst (λ a. Beats a (Some d)) top (subst (λ a. Beats (entry_at entries 1) a) is beats) in
    subst (λ n. ComesFirst c.key c.number d.key n) (t.at_home j d inside is) them

pub least_at_top : (entries : List (Option Candidate)) (size : ℕ) (c : Candidate) → IsTournament entries size → 1 < length entries → entry_at entries 1 ≡ Some c → IsLeast (record { size = size; entries = entries }) c.number
least_at_top entries size c t some top =
    let long = t.long in
    let home = home_within (2 * size) entries size 1 c (omega arith) (omega arith) (omega (arith, long, some)) t.made t.at_home top in
    record {
      key = c.key;
      takes_part = ap key_in home;
      first = λ j y is.
          let d = key_found (entry_at entries (size + j)) y is in
          subst (λ z. ComesFirst c.key c.number z j) d.1.1 (first_against entries size c d.0 j t top d.1.0);
    }

no_key : (a : Option Candidate) → a ≡ None → key_in a ≡ None
no_key a e = ap key_in e

pub nobody_at_top : (entries : List (Option Candidate)) (size : ℕ) → IsTournament entries size → entry_at entries 1 ≡ None → NoneTakesPart (record { size = size; entries = entries })
nobody_at_top entries size t top k = ⊎_elim
    (λ inside. no_key (entry_at entries (size + k)) (beats_nobody (entry_at entries (size + k)) (subst (λ a. Beats a (entry_at entries (size + k))) top (top_beats entries size (size + k) (omega (arith, inside)) (omega (arith, inside)) t.made))))
    (λ past. let long = t.long in let none : entry_at entries (size + k) ≡ None = grind (arith, common_steps) in no_key (entry_at entries (size + k)) none)
    (cases_lt k size)

-- who is at the top is there
pub some_at_top : (entries : List (Option Candidate)) (c : Candidate) → entry_at entries 1 ≡ Some c → 1 < length entries
some_at_top entries c is = ⊎_elim
    (λ l. l)
    (λ past. let none : entry_at entries 1 ≡ None = grind (arith, common_steps) in let h : Some c ≡ None = sym is ∙ none in absurd (cc))
    (cases_lt 1 (length entries))

pub nobody_is_tournament : (entries : List (Option Candidate)) (size : ℕ) → length entries ≡ 2 * size → size < 2 ^ 31 → ((i : ℕ) → entry_at entries i ≡ None) → IsTournament entries size
nobody_is_tournament entries size long few none = record {
  long = long;
  few = few;
  made = λ i from to ne. record {
    one = inl (none i ∙ sym (none (2 * i)));
    before_left = subst (λ a. Beats (entry_at entries i) a) (sym (none (2 * i))) tt;
    before_right = subst (λ a. Beats (entry_at entries i) a) (sym (none (2 * i + 1))) tt;
  };
  at_home = λ k c inside is. let h : Some c ≡ None = sym is ∙ none (size + k) in absurd (cc);
}

-- ---- a number is set

number_of : (v : Option Candidate) (k : ℕ) (c : Candidate) → IsNumbered v k → v ≡ Some c → c.number ≡ k
number_of v k c is e = subst (λ (a : Option Candidate). IsNumbered a k) e is

pub at_home_set : (entries new : List (Option Candidate)) (size number : ℕ) (v : Option Candidate) → IsNumbered v number → number < size → length entries ≡ 2 * size
    → ((i : ℕ) → size ≤ i → entry_at new i ≡ entry_at (set entries (size + number) v) i) → AreAtHome entries size → AreAtHome new size
at_home_set entries new size number v is inside long same home k c within at = ⊎_elim
    (λ e. number_of v k c (subst (λ m. IsNumbered v m) (sym e) is)
    (sym (get_or-set_same entries (size + number) v None (omega (arith, long, inside))) ∙ ap (λ m. entry_at (set entries (size + number) v) (size + m)) (sym e) ∙ sym (same (size + k) (omega arith)) ∙ at))
    (λ ne. home k c within (sym (get_or-set_other entries (size + number) (size + k) v None (λ e. ne (omega (arith, e)))) ∙ sym (same (size + k) (omega arith)) ∙ at))
    (cases_eq k number)

pub key_set : (entries new : List (Option Candidate)) (size number : ℕ) (v : Option Candidate) → number < size → length entries ≡ 2 * size
    → ((i : ℕ) → size ≤ i → entry_at new i ≡ entry_at (set entries (size + number) v) i) → key_of (record { size = size; entries = new }) number ≡ key_in v
key_set entries new size number v inside long same = ap key_in (same (size + number) (omega arith) ∙ get_or-set_same entries (size + number) v None (omega (arith, long, inside)))

pub other_keys : (entries new : List (Option Candidate)) (size number k : ℕ) (v : Option Candidate) → k ≢ number
    → ((i : ℕ) → size ≤ i → entry_at new i ≡ entry_at (set entries (size + number) v) i)
    → key_of (record { size = size; entries = new }) k ≡ key_of (record { size = size; entries = entries }) k
other_keys entries new size number k v ne same = ap key_in (same (size + k) (omega arith) ∙ get_or-set_other entries (size + number) (size + k) v None (λ e. ne (omega (arith, e))))
