-- What is kept of the cities that a path joins to each city.
use Rattle.std.proofs.Common.{◌≡◌, ℕ, ◌<◌, Bool, true, false, cond, eqb, ◌||◌, List, [], ◌∷◌, ◌++◌, length, map, refl, sym, ◌∙◌, ap, subst, arith, Option, Some, None}
use Rattle.std.specs.Prelude.{MatchOption}
use Rattle.std.proofs.lemmas.Bool.{cond_both, or_left, or_right, eqb-true, eqb-false, eq-eqb}
use Rattle.std.proofs.lemmas.Bool.Decides.{nat_tests}
use Rattle.std.proofs.lemmas.List.{get_or-map, length-map}
use Rattle.tspdef.specs.Tours.{joins}
use Rattle.tspdef.specs.Paths.{Condition, fixed, absent, present, two, four, is_present, MayFollow, IsPath}
use Rattle.branchx.proofs.PathLemmas.{HasPair}
use Rattle.pathtour.specs.declared.neighbours.Joined.{Joined}
use Rattle.pathtour.specs.declared.neighbours.Joined.TheVariants.{Nothing, One, Two, Many}
use Rattle.pathtour.specs.Neighbours.{AreTwo, two_at, AreNeighbours, LacksTwo, IsJoined, AreJoined, more, added, joined_at, is_two, two_of, HasOther, IsPairBelow}
use Rattle.pathtour.proofs.PresentLemmas.{is_present-append, is_present-swap, used_pair, not_used}

or_false : (b : Bool) → b || false ≡ b
or_false true = refl
or_false false = refl

-- ---- one more condition

joined_same : (path other : List Condition) (v : ℕ) (j : Joined) → ((w : ℕ) → is_present other v w ≡ is_present path v w) → IsJoined path v j → IsJoined other v j
joined_same path other v Nothing e h = λ w. e w ∙ h w
joined_same path other v (One a) e h = λ w. e w ∙ h w
joined_same path other v (Two a b) e h = (h.0, λ w. e w ∙ h.1 w)
joined_same path other v Many e (a, b, c, h) = (a, b, c, record { first = e a ∙ h.first; second = e b ∙ h.second; third = e c ∙ h.third; apart = h.apart })

joined_one : (path other : List Condition) (v x : ℕ) (j : Joined) → ((w : ℕ) → is_present other v w ≡ is_present path v w || eqb x w) → is_present path v x ≡ false
    → IsJoined path v j → IsJoined other v (more j x)
joined_one path other v x Nothing e new h = λ w. e w ∙ ap (λ b. b || eqb x w) (h w)
joined_one path other v x (One a) e new h = (
  λ same. let used : is_present path v x ≡ true = h x ∙ eq-eqb a x same in cc,
  λ w. e w ∙ ap (λ b. b || eqb x w) (h w),
)
joined_one path other v x (Two a b) e new h =
    let used_a : is_present path v a ≡ true = h.1 a ∙ or_left _ _ (eq-eqb a a refl) in
    let used_b : is_present path v b ≡ true = h.1 b ∙ or_right _ _ (eq-eqb b b refl) in (
      a,
      b,
      x,
      record {
        first = e a ∙ or_left _ _ used_a;
        second = e b ∙ or_left _ _ used_b;
        third = e x ∙ or_right _ _ (eq-eqb x x refl);
        apart = (
          h.0,
          (λ same. let used = subst (λ k. is_present path v k ≡ true) same used_a in cc),
          (λ same. let used = subst (λ k. is_present path v k ≡ true) same used_b in cc),
        );
      },
    )
joined_one path other v x Many e new (a, b, c, h) = (
  a,
  b,
  c,
  record {
    first = e a ∙ or_left _ _ h.first;
    second = e b ∙ or_left _ _ h.second;
    third = e c ∙ or_left _ _ h.third;
    apart = h.apart;
  },
)

low_end : (a b v w : ℕ) → a < b → a ≡ v → joins v w (a, b) ≡ eqb b w
low_end a b v w l e = grind (arith, nat_tests)

high_end : (a b v w : ℕ) → a < b → b ≡ v → joins v w (a, b) ≡ eqb a w
high_end a b v w l e = grind (arith, nat_tests)

no_end : (a b v w : ℕ) → (a ≡ v → ⊥) → (b ≡ v → ⊥) → joins v w (a, b) ≡ false
no_end a b v w f g = grind (arith, nat_tests)

-- what one more used pair joins
present_more : (path : List Condition) (a b v w : ℕ) → is_present (path ++ present a b ∷ []) v w ≡ is_present path v w || joins v w (a, b)
present_more path a b v w = is_present-append path (present a b ∷ []) v w ∙ ap (λ x. is_present path v w || x) (or_false (joins v w (a, b)))

fixed_more : (path : List Condition) (a b v w : ℕ) → is_present (path ++ fixed a b ∷ []) v w ≡ is_present path v w || joins v w (a, b)
fixed_more path a b v w = is_present-append path (fixed a b ∷ []) v w ∙ ap (λ x. is_present path v w || x) (or_false (joins v w (a, b)))

joined_used : (path all : List Condition) (a b v : ℕ) (j : Joined) → a < b → is_present path a b ≡ false → ((w : ℕ) → is_present all v w ≡ is_present path v w || joins v w (a, b))
    → IsJoined path v j → IsJoined all v (cond (eqb a v) (more j b) (cond (eqb b v) (more j a) j))
joined_used path all a b v j low new now h =
    cond_both (eqb a v) (more j b) (cond (eqb b v) (more j a) j) (IsJoined all v)
    (λ e. let same = eqb-true a v e in
    joined_one path all v b j (λ w. now w ∙ ap (λ x. is_present path v w || x) (low_end a b v w low same)) (subst (λ k. is_present path k b ≡ false) same new) h)
    (λ e. cond_both (eqb b v) (more j a) j (IsJoined all v)
    (λ f. let same = eqb-true b v f in
    joined_one path all v a j (λ w. now w ∙ ap (λ x. is_present path v w || x) (high_end a b v w low same)) (subst (λ k. is_present path k a ≡ false) same (is_present-swap path b a ∙ new)) h)
    (λ f. joined_same path all v j (λ w. now w ∙ ap (λ x. is_present path v w || x) (no_end a b v w (eqb-false a v e) (eqb-false b v f)) ∙ or_false (is_present path v w)) h))

pub joined_more : (n : ℕ) (path : List Condition) (c : Condition) (v : ℕ) (j : Joined) → MayFollow n path c → IsJoined path v j → IsJoined (path ++ c ∷ []) v (added c v j)
joined_more n path (absent a b) v j m h = joined_same path (path ++ absent a b ∷ []) v j (λ w. is_present-append path (absent a b ∷ []) v w ∙ or_false (is_present path v w)) h
joined_more n path (two s) v j m h = joined_same path (path ++ two s ∷ []) v j (λ w. is_present-append path (two s ∷ []) v w ∙ or_false (is_present path v w)) h
joined_more n path (four s) v j m h = joined_same path (path ++ four s ∷ []) v j (λ w. is_present-append path (four s ∷ []) v w ∙ or_false (is_present path v w)) h
joined_more n path (fixed a b) v j m h = joined_used path (path ++ fixed a b ∷ []) a b v j m.0.0.0 (not_used path a b m.0.1) (fixed_more path a b v) h
joined_more n path (present a b) v j m h = joined_used path (path ++ present a b ∷ []) a b v j m.0.0 (not_used path a b m.1) (present_more path a b v) h

pub pair_below : (n : ℕ) (c : Condition) → HasPair n c → IsPairBelow n c
pair_below n (fixed a b) h = h
pair_below n (absent a b) h = h
pair_below n (present a b) h = h
pair_below n (two s) h = h
pair_below n (four s) h = h

pub joined_none : (path : List Condition) (v : ℕ) (j : Joined) → path ≡ [] → j ≡ Nothing → IsJoined path v j
joined_none path v j e f = subst (IsJoined path v) (sym f) (λ w. ap (λ (p : List Condition). is_present p v w) e)

-- ---- exactly two

three_in_two : (x y a b c : ℕ) → eqb x a || eqb y a ≡ true → eqb x b || eqb y b ≡ true → eqb x c || eqb y c ≡ true → (a ≡ b → ⊥) → (a ≡ c → ⊥) → (b ≡ c → ⊥) → ⊥
three_in_two x y a b c p q r f g h = grind (arith, nat_tests)

is_not_two : (n : ℕ) (path : List Condition) (v : ℕ) (j : Joined) → IsJoined path v j → is_two j ≡ false → (e : ℕ × ℕ) → AreTwo n path v e → ⊥
is_not_two n path v Nothing h other e t = let used : is_present path v e.0 ≡ true = t.used e.0 ∙ or_left _ _ (eq-eqb e.0 e.0 refl) in let none = h e.0 in cc
is_not_two n path v (One a) h other e t =
    let p : eqb a e.0 ≡ true = sym (h e.0) ∙ t.used e.0 ∙ or_left _ _ (eq-eqb e.0 e.0 refl) in
    let q : eqb a e.1 ≡ true = sym (h e.1) ∙ t.used e.1 ∙ or_right _ _ (eq-eqb e.1 e.1 refl) in
    t.apart (sym (eqb-true a e.0 p) ∙ eqb-true a e.1 q)
is_not_two n path v (Two a b) h other e t = cc
is_not_two n path v Many (a, b, c, h) other e t =
    three_in_two e.0 e.1 a b c (sym (t.used a) ∙ h.first) (sym (t.used b) ∙ h.second) (sym (t.used c) ∙ h.third) h.apart.0 h.apart.1 h.apart.2

are_two : (n : ℕ) (path : List Condition) (v : ℕ) (e : ℕ × ℕ) → IsPath n path → IsJoined path v (two_of e) → AreTwo n path v e
are_two n path v e is h =
    let p = used_pair n [] path is v e.0 (h.1 e.0 ∙ or_left _ _ (eq-eqb e.0 e.0 refl)) in
    let q = used_pair n [] path is v e.1 (h.1 e.1 ∙ or_right _ _ (eq-eqb e.1 e.1 refl)) in
    record { below = (p.1, q.1); apart = h.0; used = h.1 }

-- where each city is kept as two, they are its neighbours, and else some city lacks them
pub judged : {X : Type 0} (items : X → List (ℕ × ℕ)) (n : ℕ) (path : List Condition) (joined : List Joined) (r : Option X) → IsPath n path → AreJoined n path joined
    → MatchOption r (HasOther joined) (λ x. joined ≡ map two_of (items x))
    → MatchOption r (LacksTwo n path) (λ x. AreNeighbours n path (items x))
judged {X} items n path joined None is j m =
    let long = j.long in
    let h = j.each in
    (m.0, subst (λ k. m.0 < k) long m.1, is_not_two n path m.0 (joined_at joined m.0) (h m.0 (subst (λ k. m.0 < k) long m.1)) m.2)
judged {X} items n path joined (Some x) is j m =
    let long = j.long in
    let h = j.each in
    let same : length (items x) ≡ n = sym (length-map (items x) two_of) ∙ sym (ap (λ (js : List Joined). length js) m) ∙ long in
    record {
      long = same;
      each = λ v l.
          let at : joined_at joined v ≡ two_of (two_at (items x) v) = ap (λ (js : List Joined). joined_at js v) m ∙ get_or-map two_of (items x) v (0, 0) Nothing (omega arith) in
          are_two n path v (two_at (items x) v) is (subst (IsJoined path v) at (h v l));
    }
