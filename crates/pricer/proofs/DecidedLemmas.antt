use Rattle.std.proofs.Common.{◌≡◌, ℕ, ◌^◌, ◌<◌, Bool, true, false, cond, ◌||◌, List, [], ◌∷◌, ◌++◌, refl, sym, ◌∙◌, ap, subst, arith, ⊎_elim}
use Rattle.std.specs.Prelude.{ℤ, pos, neg_ℤ, ◌+ℤ◌, ◌-ℤ◌, min, max}
use Rattle.std.specs.Int.{int_min}
use Rattle.std.proofs.lemmas.Int.{ints}
use Rattle.std.proofs.lemmas.Bool.{or_parts}
use Rattle.std.proofs.lemmas.Bool.Decides.{nat_tests}
use Rattle.std.proofs.lemmas.List.{append-nil, append_assoc}
use Rattle.tspdef.specs.Tours.{joins}
use Rattle.tspdef.specs.Paths.{Condition, fixed, absent, present, two, four, is_absent, is_present, is_decided, IsPair, MayFollow, ContinuesPath, IsPath}
use Rattle.tspdef.specs.Sums.{sum_pairs}
use Rattle.tspdef.specs.Bounds.{pair_term, reduced_cost}
use Rattle.tspdef.proofs.SumLemmas.{sum_pairs-same, sum_pairs-add, sum_pairs-at}
use Rattle.tspdef.proofs.Steps.{joins_is}
use Rattle.tspdef.specs.Instances.{Instance, IsInstance}
use Rattle.tspdef.specs.Closings.{Closing, IsClosing}
use Rattle.pricer.specs.Sizes.{IsWithin}
use Rattle.pricer.specs.Trails.{IsPairBelow}
use Rattle.pricer.specs.Prices.{change_of, terms}
use Rattle.pricer.proofs.SizeLemmas.{reduced_cost_size, terms_size}

-- ---- paths without their last condition

continues_front : (n : ℕ) (path more : List Condition) (c : Condition) → ContinuesPath n path (more ++ c ∷ []) → ContinuesPath n path more × MayFollow n (path ++ more) c
continues_front n path [] c h = (tt, subst (λ (p : List Condition). MayFollow n p c) (sym (append-nil path)) h.0)
continues_front n path (d ∷ more) c h =
    let ih = continues_front n (path ++ d ∷ []) more c h.1 in
    ((h.0, ih.0), subst (λ (p : List Condition). MayFollow n p c) (append_assoc path (d ∷ []) more) ih.1)

pub path_front : (n : ℕ) (front : List Condition) (c : Condition) → IsPath n (front ++ c ∷ []) → IsPath n front × MayFollow n front c
path_front n front c h = continues_front n [] front c h

-- ---- what a path says of a pair

or-assoc : (x y z : Bool) → (x || y) || z ≡ x || (y || z)
or-assoc true y z = refl
or-assoc false y z = refl

pub or-false : (x : Bool) → x || false ≡ x
or-false true = refl
or-false false = refl

is_absent-append : (path more : List Condition) (u v : ℕ) → is_absent (path ++ more) u v ≡ is_absent path u v || is_absent more u v
is_absent-append [] more u v = refl
is_absent-append (absent a b ∷ path) more u v = ap (λ x. joins u v (a, b) || x) (is_absent-append path more u v) ∙ sym (or-assoc (joins u v (a, b)) (is_absent path u v) (is_absent more u v))
is_absent-append (fixed a b ∷ path) more u v = is_absent-append path more u v
is_absent-append (present a b ∷ path) more u v = is_absent-append path more u v
is_absent-append (two s ∷ path) more u v = is_absent-append path more u v
is_absent-append (four s ∷ path) more u v = is_absent-append path more u v

pub is_present-append : (path more : List Condition) (u v : ℕ) → is_present (path ++ more) u v ≡ is_present path u v || is_present more u v
is_present-append [] more u v = refl
is_present-append (fixed a b ∷ path) more u v = ap (λ x. joins u v (a, b) || x) (is_present-append path more u v) ∙ sym (or-assoc (joins u v (a, b)) (is_present path u v) (is_present more u v))
is_present-append (present a b ∷ path) more u v = ap (λ x. joins u v (a, b) || x) (is_present-append path more u v) ∙ sym (or-assoc (joins u v (a, b)) (is_present path u v) (is_present more u v))
is_present-append (absent a b ∷ path) more u v = is_present-append path more u v
is_present-append (two s ∷ path) more u v = is_present-append path more u v
is_present-append (four s ∷ path) more u v = is_present-append path more u v

joins_swap : (a b u v : ℕ) → joins u v (a, b) ≡ joins v u (a, b)
joins_swap a b u v = grind (arith, nat_tests)

pub is_absent-swap : (path : List Condition) (u v : ℕ) → is_absent path u v ≡ is_absent path v u
is_absent-swap [] u v = refl
is_absent-swap (absent a b ∷ path) u v = let ih = is_absent-swap path u v in let j = joins_swap a b u v in cc
is_absent-swap (fixed a b ∷ path) u v = is_absent-swap path u v
is_absent-swap (present a b ∷ path) u v = is_absent-swap path u v
is_absent-swap (two s ∷ path) u v = is_absent-swap path u v
is_absent-swap (four s ∷ path) u v = is_absent-swap path u v

pub is_present-swap : (path : List Condition) (u v : ℕ) → is_present path u v ≡ is_present path v u
is_present-swap [] u v = refl
is_present-swap (fixed a b ∷ path) u v = let ih = is_present-swap path u v in let j = joins_swap a b u v in cc
is_present-swap (present a b ∷ path) u v = let ih = is_present-swap path u v in let j = joins_swap a b u v in cc
is_present-swap (absent a b ∷ path) u v = is_present-swap path u v
is_present-swap (two s ∷ path) u v = is_present-swap path u v
is_present-swap (four s ∷ path) u v = is_present-swap path u v

-- a pair in either order
pub undecided_at : (path : List Condition) (a b u v : ℕ) → joins u v (a, b) ≡ true → is_decided path a b ≡ false → (is_absent path u v ≡ false) × (is_present path u v ≡ false)
undecided_at path a b u v j h =
    let p = or_parts (is_absent path a b) (is_present path a b) h in
    let sa = is_absent-swap path a b in
    let sp = is_present-swap path a b in
    ⊎_elim
    (λ e. let x = e.0 in let y = e.1 in (cc, cc))
    (λ e. let x = e.0 in let y = e.1 in (cc, cc))
    (joins_is a b u v j)

-- ---- one more condition

term_absent : (p q j : Bool) (x : ℤ) → (j ≡ true → (q ≡ false) × (p ≡ false))
    → cond (p || false) x (cond (q || (j || false)) (pos 0) (int_min (pos 0) x)) ≡ cond p x (cond q (pos 0) (int_min (pos 0) x)) +ℤ cond j (neg_ℤ (int_min (pos 0) x)) (pos 0)
term_absent true true true x h = let e = (h refl).0 in cc
term_absent true true false x h = omega (arith, ints)
term_absent true false true x h = let e = (h refl).1 in cc
term_absent true false false x h = omega (arith, ints)
term_absent false true true x h = let e = (h refl).0 in cc
term_absent false true false x h = omega (arith, ints)
term_absent false false true x h = omega (arith, ints)
term_absent false false false x h = omega (arith, ints)

term_present : (p q j : Bool) (x : ℤ) → (j ≡ true → (q ≡ false) × (p ≡ false))
    → cond (p || (j || false)) x (cond (q || false) (pos 0) (int_min (pos 0) x)) ≡ cond p x (cond q (pos 0) (int_min (pos 0) x)) +ℤ cond j (x -ℤ int_min (pos 0) x) (pos 0)
term_present true true true x h = let e = (h refl).0 in cc
term_present true true false x h = omega (arith, ints)
term_present true false true x h = let e = (h refl).1 in cc
term_present true false false x h = omega (arith, ints)
term_present false true true x h = let e = (h refl).0 in cc
term_present false true false x h = omega (arith, ints)
term_present false false true x h = omega (arith, ints)
term_present false false false x h = omega (arith, ints)

-- one pair alone
pub at_pair : (f : ℕ → ℕ → ℤ) (a b n : ℕ) → a < b → b < n → sum_pairs (λ u v. cond (joins u v (a, b)) (f u v) (pos 0)) n ≡ f a b
at_pair f a b n h l =
    let g : ℕ → ℕ → ℤ = λ u v. f (min u v) (max u v) in
    let low : (u v : ℕ) → u < v → f u v ≡ g u v = λ u v q. let e : min u v ≡ u = omega arith in let k : max u v ≡ v = omega arith in cc in
    let same = sum_pairs-same (λ u v. cond (joins u v (a, b)) (f u v) (pos 0)) (λ u v. cond (joins u v (a, b)) (g u v) (pos 0)) n (λ u v q r. ap (λ (x : ℤ). cond (joins u v (a, b)) x (pos 0)) (low u v q)) in
    let one = sum_pairs-at g (λ u v. let e : min u v ≡ min v u = omega arith in let k : max u v ≡ max v u = omega arith in cc) a b n (omega arith) (omega arith) l in
    same ∙ one ∙ sym (low a b h)

-- what one more used pair changes in the sum over all pairs
terms_used : (n : ℕ) (r : ℕ → ℕ → ℤ) (path all : List Condition) (a b : ℕ) → IsPair n a b × (is_decided path a b ≡ false)
    → ((u v : ℕ) → is_absent all u v ≡ is_absent path u v || false) → ((u v : ℕ) → is_present all u v ≡ is_present path u v || (joins u v (a, b) || false))
    → sum_pairs (pair_term all r) n ≡ sum_pairs (pair_term path r) n +ℤ (r a b -ℤ int_min (pos 0) (r a b))
terms_used n r path all a b h absents presents =
    let d : ℕ → ℕ → ℤ = λ u v. r u v -ℤ int_min (pos 0) (r u v) in
    let same = sum_pairs-same (pair_term all r) (λ u v. pair_term path r u v +ℤ cond (joins u v (a, b)) (d u v) (pos 0)) n (λ u v q l.
    rw (absents u v, presents u v)
    (term_present (is_present path u v) (is_absent path u v) (joins u v (a, b)) (r u v) (λ j. undecided_at path a b u v j h.1))) in
    let add = sum_pairs-add (pair_term path r) (λ u v. cond (joins u v (a, b)) (d u v) (pos 0)) n in
    let one = at_pair d a b n h.0.0 h.0.1 in
    omega (arith, ints)

-- what one more condition changes in the sum over all pairs
pub terms_more : (n : ℕ) (r : ℕ → ℕ → ℤ) (path : List Condition) (c : Condition) → MayFollow n path c
    → sum_pairs (pair_term (path ++ c ∷ []) r) n ≡ sum_pairs (pair_term path r) n +ℤ change_of r c
terms_more n r path (absent a b) h =
    let d : ℕ → ℕ → ℤ = λ u v. neg_ℤ (int_min (pos 0) (r u v)) in
    let same = sum_pairs-same (pair_term (path ++ absent a b ∷ []) r) (λ u v. pair_term path r u v +ℤ cond (joins u v (a, b)) (d u v) (pos 0)) n (λ u v q l.
    rw (is_absent-append path (absent a b ∷ []) u v, is_present-append path (absent a b ∷ []) u v)
    (term_absent (is_present path u v) (is_absent path u v) (joins u v (a, b)) (r u v) (λ j. undecided_at path a b u v j h.1))) in
    let add = sum_pairs-add (pair_term path r) (λ u v. cond (joins u v (a, b)) (d u v) (pos 0)) n in
    let one = at_pair d a b n h.0.0 h.0.1 in
    omega (arith, ints)
terms_more n r path (fixed a b) h = terms_used n r path (path ++ fixed a b ∷ []) a b h.0 (λ u v. is_absent-append path (fixed a b ∷ []) u v) (λ u v. is_present-append path (fixed a b ∷ []) u v)
terms_more n r path (present a b) h = terms_used n r path (path ++ present a b ∷ []) a b h (λ u v. is_absent-append path (present a b ∷ []) u v) (λ u v. is_present-append path (present a b ∷ []) u v)
terms_more n r path (two s) h =
    sum_pairs-same (pair_term (path ++ two s ∷ []) r) (pair_term path r) n (λ u v q l.
    rw (is_absent-append path (two s ∷ []) u v, is_present-append path (two s ∷ []) u v)
    (rw (or-false (is_absent path u v), or-false (is_present path u v)) refl)) ∙ omega (arith, ints)
terms_more n r path (four s) h =
    sum_pairs-same (pair_term (path ++ four s ∷ []) r) (pair_term path r) n (λ u v q l.
    rw (is_absent-append path (four s ∷ []) u v, is_present-append path (four s ∷ []) u v)
    (rw (or-false (is_absent path u v), or-false (is_present path u v)) refl)) ∙ omega (arith, ints)

pub pair_follows : (n : ℕ) (path : List Condition) (c : Condition) → MayFollow n path c → IsPairBelow n c
pair_follows n path (fixed a b) h = h.0.0
pair_follows n path (absent a b) h = h.0
pair_follows n path (present a b) h = h.0
pair_follows n path (two s) h = tt
pair_follows n path (four s) h = tt

-- a part of what a path changes in the sum over all pairs
pub changes_size : (i : Instance) (path : List Condition) (c : Closing) (x : ℤ) (p q : List Condition) → IsInstance i → IsClosing i.n path c
    → x +ℤ terms i.n (reduced_cost i path c) p ≡ terms i.n (reduced_cost i path c) q → IsWithin (2 ^ 110) x
changes_size i path c x p q is h e =
    let size = λ (u v : ℕ). reduced_cost_size i path c u v is h in
    let a = terms_size (reduced_cost i path c) (2 ^ 87) i.n p is.few size in
    let b = terms_size (reduced_cost i path c) (2 ^ 87) i.n q is.few size in
    record { low = omega (arith, ints); high = omega (arith, ints) }

-- one condition less is left
pub changes_step : (n : ℕ) (r : ℕ → ℕ → ℤ) (x y t : ℤ) (here before : List Condition) (c : Condition) → here ≡ before ++ c ∷ [] → IsPath n here
    → x +ℤ terms n r here ≡ t → y ≡ change_of r c → (x +ℤ y) +ℤ terms n r before ≡ t
changes_step n r x y t here before c e is so_far change =
    let path = path_front n before c (subst (λ (p : List Condition). IsPath n p) e is) in
    let more = terms_more n r before c path.1 in
    let same : terms n r here ≡ terms n r (before ++ c ∷ []) = ap (terms n r) e in
    omega (arith, ints)
