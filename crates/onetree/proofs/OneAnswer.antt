-- Bytes have one answer.
use Rattle.std.proofs.Common.{◌≡◌, ℕ, ◌^◌, ◌<◌, ◌≤◌, true, List, [], ◌∷◌, ◌++◌, length, map, refl, sym, ap, subst, ◌∙◌, arith, append_assoc, ⊎_elim, inl, inr, ◌⊎◌}
use Rattle.std.specs.Prelude.{ℤ, ◌↔◌, IfOk, Result, Ok, Err, Option, Some, None}
use Rattle.ports.specs.Outside.{WhereTold}
use Rattle.ports.specs.Desk.{Told}
use Rattle.onetree.specs.declared.answer.Answer.{Answer}
use Rattle.std.specs.List.{AllByRecursion}
use Rattle.std.proofs.lemmas.Int.{ints}
use Rattle.std.proofs.lemmas.List.{append-nil}
use Rattle.tspdef.specs.Instances.{Instance}
use Rattle.certdef.specs.Items.{Item, size_line, bound_line, line, fits}
use Rattle.certdef.specs.Proofs.{city_item, ended}
use Rattle.onetree.specs.OneTrees.{IsHeldKarp}
use Rattle.onetree.specs.Certificates.{Certificate, title, items, said, HasForm, IsText, StopsAt, HasNoTitle, IsNoCertificate, IsOfOtherSize, Proves, IsWeak, IsAccepted, IsRefused, duals_of}
use Rattle.onetree.proofs.Tours.{held_karp_is_one}
use Rattle.onetree.proofs.CertificateLemmas.{one_item, certificate, bound_fits}
use Rattle.certdef.specs.Accepted.{duals_from}
use Rattle.onetree.specs.Answers.{AnswersAreOne, Judges}
use Rattle.onetree.specs.declared.answer.Answer.TheVariants as answers

-- ---- bytes that go on with items

behind_title : (xs ys : List ℕ) → ended title ++ xs ≡ ended title ++ ys → xs ≡ ys
behind_title xs ys e = cc

-- one list of items goes on where the other ends
record GoesOnAs (xs ys : List Item) (r s : List ℕ) : Type 0 where
  pub more : List Item
  pub items : ys ≡ xs ++ more
  pub bytes : r ≡ said more ++ s

abbrev AreFit : ℕ → List Item → Type 0
AreFit n xs = AllByRecursion (λ x. fits n x ≡ true) xs

aligned : (n : ℕ) (xs ys : List Item) (r s : List ℕ) → n < 2 ^ 32 → AreFit n xs → AreFit n ys → said xs ++ r ≡ said ys ++ s → GoesOnAs xs ys r s ⊎ GoesOnAs ys xs s r
aligned n [] ys r s h f g e = inl (record { more = ys; items = refl; bytes = e })
aligned n (x ∷ xs) [] r s h f g e = inr (record { more = x ∷ xs; items = refl; bytes = sym e })
aligned n (x ∷ xs) (y ∷ ys) r s h f g e =
    let t = said (x ∷ xs) ++ r in
    let c = one_item n t x y (said xs ++ r) (said ys ++ s) h (append_assoc (ended (line x)) (said xs) r, f.0) (e ∙ append_assoc (ended (line y)) (said ys) s, g.0) in
    ⊎_elim
    (λ a. inl (record { more = a.more; items = ap (λ z. z ∷ ys) (sym c.0) ∙ ap (λ z. x ∷ z) a.items; bytes = a.bytes }))
    (λ b. inr (record { more = b.more; items = ap (λ z. z ∷ xs) c.0 ∙ ap (λ z. y ∷ z) b.items; bytes = b.bytes }))
    (aligned n xs ys r s h f.1 g.1 c.1)

all_front : (P : Item → Type 0) (xs ys : List Item) → AllByRecursion P (xs ++ ys) → AllByRecursion P xs
all_front P [] ys h = tt
all_front P (x ∷ xs) ys h = (h.0, all_front P xs ys h.1)

said_first : (x : Item) (xs : List Item) (s : List ℕ) → said (x ∷ xs) ++ s ≡ ended (line x) ++ (said xs ++ s)
said_first x xs s = append_assoc (ended (line x)) (said xs) s

nothing_said : (xs : List Item) (r : List ℕ) → [] ≡ said xs ++ r → xs ≡ []
nothing_said [] r e = refl
nothing_said (x ∷ xs) r e = absurd (empty (line x) (said xs) r e) where
  empty : (w s r : List ℕ) → [] ≡ (ended w ++ s) ++ r → ⊥
  empty [] s r e = cc
  empty (b ∷ w) s r e = cc

-- items with which a certificate begins, and what stands behind them
record Begins (n : ℕ) (bytes : List ℕ) (xs : List Item) (rest : List ℕ) : Type 0 where
  pub whole : bytes ≡ ended title ++ (said xs ++ rest)
  pub fit : AreFit n xs

text_begins : (n : ℕ) (bytes : List ℕ) (c : Certificate) → IsText n bytes c → Begins n bytes (items c) []
text_begins n bytes c t = record { whole = t.whole ∙ ap (λ r. ended title ++ r) (sym (append-nil (said (items c)))); fit = t.form.fit }

stop_begins : (n : ℕ) (bytes : List ℕ) (at : ℕ) (s : StopsAt n bytes at) → Begins n bytes s.before s.rest
stop_begins n bytes at s =
    let c = s.begins.0 in record {
      whole = s.whole;
      fit = all_front (λ x. fits n x ≡ true) s.before s.begins.3.0 (subst (λ xs. AreFit n xs) s.begins.3.1 s.begins.1.fit);
    }

both : (n : ℕ) (bytes : List ℕ) (xs ys : List Item) (r s : List ℕ) → n < 2 ^ 32 → Begins n bytes xs r → Begins n bytes ys s → GoesOnAs xs ys r s ⊎ GoesOnAs ys xs s r
both n bytes xs ys r s h a b = aligned n xs ys r s h a.fit b.fit (behind_title (said xs ++ r) (said ys ++ s) (sym a.whole ∙ b.whole))

-- ---- two texts

whole_again : (c d : Certificate) (more : List Item) → [] ≡ said more ++ [] → items d ≡ items c ++ more → items c ≡ items d
whole_again c d more e f = sym (f ∙ ap (λ xs. items c ++ xs) (nothing_said more [] e) ∙ append-nil (items c))

same_items : (n : ℕ) (bytes : List ℕ) (c d : Certificate) → n < 2 ^ 32 → IsText n bytes c → IsText n bytes d → items c ≡ items d
same_items n bytes c d h t u = ⊎_elim
    (λ a. whole_again c d a.more a.bytes a.items)
    (λ b. sym (whole_again d c b.more b.bytes b.items))
    (both n bytes (items c) (items d) [] [] h (text_begins n bytes c t) (text_begins n bytes d u))

duals_again : (ps qs : List (ℕ × ℤ)) → map city_item ps ≡ map city_item qs → ps ≡ qs
duals_again [] [] e = refl
duals_again [] (q ∷ qs) e = absurd (cc)
duals_again (p ∷ ps) [] e = absurd (cc)
duals_again (p ∷ ps) (q ∷ qs) e =
    let v : p.0 ≡ q.0 = cc in
    let y : p.1 ≡ q.1 = cc in
    let t : map city_item ps ≡ map city_item qs = cc in
    ap (λ k. (k, p.1) ∷ ps) v ∙ ap (λ z. (q.0, z) ∷ ps) y ∙ ap (λ rs. q ∷ rs) (duals_again ps qs t)

pub same_bound : (c d : Certificate) → items c ≡ items d → c.bound ≡ d.bound
same_bound c d e = cc

pub same_duals : (c d : Certificate) → items c ≡ items d → c.duals ≡ d.duals
same_duals c d e = let t : map city_item c.duals ≡ map city_item d.duals = cc in duals_again c.duals d.duals t

-- ---- a text and a stop

stuck_on : (n : ℕ) (bytes : List ℕ) (at : ℕ) (s : StopsAt n bytes at) (c : Certificate) (more : List Item) (r : List ℕ) → HasForm n c → items c ≡ s.before ++ more → s.rest ≡ said more ++ r → (more ≡ [] → r ≡ []) → ⊥
stuck_on n bytes at s c [] r f e b none = s.unfinished c f (b ∙ none refl) (e ∙ append-nil s.before)
stuck_on n bytes at s c (x ∷ more) r f e b none = s.stuck c x more (said more ++ r) f (b ∙ said_first x more r) e

shorter_whole : (c d : Certificate) (more : List Item) → items c ≡ items d ++ more → (more ≡ []) ⊎ (more ≡ [] → ⊥)
shorter_whole c d [] e = inl refl
shorter_whole c d (x ∷ more) e = inr (λ h. cc)

pub no_stop : (n : ℕ) (bytes : List ℕ) (at : ℕ) (c : Certificate) → n < 2 ^ 32 → IsText n bytes c → StopsAt n bytes at → ⊥
no_stop n bytes at c h t s = ⊎_elim
    (λ a. stuck_on n bytes at s c a.more [] t.form a.items a.bytes (λ e. refl))
    (λ b. let none : b.more ≡ [] = nothing_said b.more s.rest b.bytes in
    s.unfinished c t.form (sym (b.bytes ∙ ap (λ xs. said xs ++ s.rest) none)) (sym (b.items ∙ ap (λ xs. items c ++ xs) none ∙ append-nil (items c))))
    (both n bytes s.before (items c) s.rest [] h (stop_begins n bytes at s) (text_begins n bytes c t))

-- ---- two stops

before_same : (s u : List Item) (more : List Item) → u ≡ s ++ more → more ≡ [] → length s ≡ length u
before_same s u more e none = sym (ap length (e ∙ ap (λ xs. s ++ xs) none ∙ append-nil s))

stop_or : (n : ℕ) (bytes : List ℕ) (at to : ℕ) (s : StopsAt n bytes at) (u : StopsAt n bytes to) (more : List Item) → u.before ≡ s.before ++ more → s.rest ≡ said more ++ u.rest → at ≡ to
stop_or n bytes at to s u [] e b = let l = before_same s.before u.before [] e refl in let p = s.place in let q = u.place in omega arith
stop_or n bytes at to s u (x ∷ more) e b =
    let c = u.begins.0 in
    absurd (s.stuck c x (more ++ u.begins.3.0) (said more ++ u.rest) u.begins.1 (b ∙ said_first x more u.rest)
    (u.begins.3.1 ∙ (ap (λ xs. xs ++ u.begins.3.0) e ∙ append_assoc s.before (x ∷ more) u.begins.3.0)))

pub same_stop : (n : ℕ) (bytes : List ℕ) (at to : ℕ) → n < 2 ^ 32 → StopsAt n bytes at → StopsAt n bytes to → at ≡ to
same_stop n bytes at to h s u = ⊎_elim
    (λ a. stop_or n bytes at to s u a.more a.items a.bytes)
    (λ b. sym (stop_or n bytes to at u s b.more b.items b.bytes))
    (both n bytes s.before u.before s.rest u.rest h (stop_begins n bytes at s) (stop_begins n bytes to u))

-- ---- another number of cities

size_of_line : (m n : ℕ) → size_line m ≡ size_line n → m ≡ n
size_of_line m n e = cc

pub other_text : (n : ℕ) (bytes : List ℕ) (c : Certificate) → n < 2 ^ 32 → IsText n bytes c → IsOfOtherSize n bytes → ⊥
other_text n bytes c h t (m, (rest, fit, ne, e)) =
    let tail = said (bound_line c.bound ∷ map city_item c.duals) in
    let same = behind_title (ended (line (size_line m)) ++ rest) (ended (line (size_line c.cities)) ++ tail) (sym e ∙ t.whole) in
    ne (size_of_line m c.cities (one_item n (ended (line (size_line m)) ++ rest) (size_line m) (size_line c.cities) rest tail h (refl, fit) (same, t.form.fit.0)).0 ∙ t.size)

other_front : (n : ℕ) (bytes : List ℕ) (at m : ℕ) (rest : List ℕ) (s : StopsAt n bytes at) (xs : List Item) → n ≤ 2000 → s.before ≡ xs → fits n (size_line m) ≡ true → (m ≡ n → ⊥) → bytes ≡ ended title ++ (ended (line (size_line m)) ++ rest) → ⊥
other_front n bytes at m rest s [] l b fit ne e =
    let c = certificate m 0 [] in
    let form : HasForm n c = record { fit = (fit, (bound_fits n 0 (omega arith), tt)); rise = refl } in
    let same = behind_title (said s.before ++ s.rest) (ended (line (size_line m)) ++ rest) (sym s.whole ∙ e) in
    s.stuck c (size_line m) (bound_line 0 ∷ []) rest form (ap (λ xs. said xs ++ s.rest) (sym b) ∙ same) (ap (λ xs. xs ++ size_line m ∷ bound_line 0 ∷ []) (sym b))
other_front n bytes at m rest s (x ∷ xs) l b fit ne e =
    let d = s.begins.0 in
    let same = behind_title (said s.before ++ s.rest) (ended (line (size_line m)) ++ rest) (sym s.whole ∙ e) in
    let starts : ended (line (size_line m)) ++ rest ≡ ended (line x) ++ (said xs ++ s.rest) = sym same ∙ (ap (λ ys. said ys ++ s.rest) b ∙ said_first x xs s.rest) in
    let its : items d ≡ (x ∷ xs) ++ s.begins.3.0 = s.begins.3.1 ∙ ap (λ ys. ys ++ s.begins.3.0) b in
    let first : size_line d.cities ≡ x = cc in
    let fit_x : fits n x ≡ true = subst (λ y. fits n y ≡ true) first s.begins.1.fit.0 in
    let one = (one_item n (ended (line (size_line m)) ++ rest) (size_line m) x rest (said xs ++ s.rest) (omega arith) (refl, fit) (starts, fit_x)).0 in
    ne (size_of_line m d.cities (one ∙ sym first) ∙ s.begins.2)

pub other_stop : (n : ℕ) (bytes : List ℕ) (at : ℕ) → n ≤ 2000 → StopsAt n bytes at → IsOfOtherSize n bytes → ⊥
other_stop n bytes at l s (m, (rest, fit, ne, e)) = other_front n bytes at m rest s s.before l refl fit ne e

-- ---- answers

few : (n : ℕ) → n ≤ 2000 → n < 2 ^ 32
few n l = omega arith

same_value : (i : Instance) (bytes : List ℕ) (c d : Certificate) → i.n < 2 ^ 32 → IsText i.n bytes c → IsText i.n bytes d → Proves i c → IsWeak i d → ⊥
same_value i bytes c d l t u (h, is, low) (g, so, high) =
    let e = same_items i.n bytes c d l t u in
    let b = same_bound c d e in
    let p : duals_of i.n c ≡ duals_of i.n d = ap (λ ds. duals_from ds 1 i.n) (same_duals c d e) in
    let one = held_karp_is_one i (duals_of i.n d) h g (subst (λ ps. IsHeldKarp i ps h) p is) so in
    omega (arith, ints)

pub not_refused : (i : Instance) (bytes : List ℕ) (x k at : ℕ) → i.n ≤ 2000 → IsAccepted i bytes x → IsRefused i bytes k at → ⊥
not_refused i bytes x k at l (c, t, e, p) r = ⊎_elim
    (λ a. ⊎_elim (λ b. b.1 (said (items c)) t.whole) (λ b. no_stop i.n bytes at c (few i.n l) t b) a.1)
    (λ a. ⊎_elim (λ b. other_text i.n bytes c (few i.n l) t b.2) (λ b. same_value i bytes c b.2.0 (few i.n l) t b.2.1 p b.2.2) a)
    r

title_there : (n : ℕ) (bytes : List ℕ) (at : ℕ) → StopsAt n bytes at → HasNoTitle bytes → ⊥
title_there n bytes at s none = none (said s.before ++ s.rest) s.whole

one_line : (n : ℕ) (bytes : List ℕ) (at to : ℕ) → n ≤ 2000 → IsNoCertificate n bytes at → IsNoCertificate n bytes to → at ≡ to
one_line n bytes at to l a b = ⊎_elim
    (λ x. ⊎_elim (λ y. x.0 ∙ sym y.0) (λ y. absurd (title_there n bytes to y x.1)) b)
    (λ x. ⊎_elim (λ y. absurd (title_there n bytes at x y.1)) (λ y. same_stop n bytes at to (few n l) x y) b)
    a

no_other : (n : ℕ) (bytes : List ℕ) (at : ℕ) → n ≤ 2000 → IsNoCertificate n bytes at → IsOfOtherSize n bytes → ⊥
no_other n bytes at l a o = ⊎_elim (λ x. x.1 (ended (line (size_line o.0)) ++ o.1.0) o.1.3) (λ x. other_stop n bytes at l x o) a

no_text : (i : Instance) (bytes : List ℕ) (at : ℕ) (c : Certificate) → i.n ≤ 2000 → IsNoCertificate i.n bytes at → IsText i.n bytes c → ⊥
no_text i bytes at c l a t = ⊎_elim (λ x. x.1 (said (items c)) t.whole) (λ x. no_stop i.n bytes at c (few i.n l) t x) a

pub one_refusal : (i : Instance) (bytes : List ℕ) (k at j to : ℕ) → i.n ≤ 2000 → IsRefused i bytes k at → IsRefused i bytes j to → (k ≡ j) × (at ≡ to)
one_refusal i bytes k at j to l a b = ⊎_elim
    (λ x. ⊎_elim
    (λ y. (x.0 ∙ sym y.0, one_line i.n bytes at to l x.1 y.1))
    (λ y. ⊎_elim (λ z. absurd (no_other i.n bytes at l x.1 z.2)) (λ z. absurd (no_text i bytes at z.2.0 l x.1 z.2.1)) y) b)
    (λ x. ⊎_elim
    (λ u. ⊎_elim
    (λ y. absurd (no_other i.n bytes to l y.1 u.2))
    (λ y. ⊎_elim (λ z. (u.0 ∙ sym z.0, u.1 ∙ sym z.1)) (λ z. absurd (other_text i.n bytes z.2.0 (few i.n l) z.2.1 u.2)) y) b)
    (λ u. ⊎_elim
    (λ y. absurd (no_text i bytes to u.2.0 l y.1 u.2.1))
    (λ y. ⊎_elim (λ z. absurd (other_text i.n bytes u.2.0 (few i.n l) u.2.1 z.2)) (λ z. (u.0 ∙ sym z.0, u.1 ∙ sym z.1)) y) b)
    x)
    a

pub answers_are_one : AnswersAreOne
answers_are_one i bytes (answers.Yes x) (answers.Yes y) l (c, t, e, p) (d, u, f, q) = ap answers.Yes (sym e ∙ (same_bound c d (same_items i.n bytes c d (few i.n l) t u) ∙ f))
answers_are_one i bytes (answers.Yes x) (answers.No k at) l a b = absurd (not_refused i bytes x k at l a b)
answers_are_one i bytes (answers.No k at) (answers.Yes x) l a b = absurd (not_refused i bytes x k at l b a)
answers_are_one i bytes (answers.No k at) (answers.No j to) l a b =
    let r = one_refusal i bytes k at j to l a b in
    ap (λ m. answers.No m at) r.0 ∙ ap (λ m. answers.No j m) r.1

-- so the answer is yes exactly where bytes are accepted
yes_where : (i : Instance) (bytes : List ℕ) (a : Answer) → i.n ≤ 2000 → Judges i bytes a → (b : ℕ) → (a ≡ answers.Yes b) ↔ IsAccepted i bytes b
yes_where i bytes a l j b = ((λ e. subst (λ (x : Answer). Judges i bytes x) e j), (λ h. answers_are_one i bytes a (answers.Yes b) l j h))

pub accepted_of : {E : Type 0} (i : Instance) (result : Result Answer E) (t : Option Told) → i.n ≤ 2000 → IfOk result (λ a. WhereTold (λ u. Judges i u.proof_in a) t)
    → IfOk result (λ a. WhereTold (λ u. (b : ℕ) → (a ≡ answers.Yes b) ↔ IsAccepted i u.proof_in b) t)
accepted_of i (Err e) t l h = tt
accepted_of i (Ok a) None l h = tt
accepted_of i (Ok a) (Some u) l h = yes_where i u.proof_in a l h
