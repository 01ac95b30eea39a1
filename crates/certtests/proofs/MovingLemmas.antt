-- Named cuts that are taken out of a list, and put back.
use Rattle.std.proofs.Common.{◌≡◌, ◌≢◌, ℕ, ◌+◌, ◌-◌, ◌<◌, ◌≤◌, List, [], ◌∷◌, ◌++◌, length, take, get_or, set, refl, sym, ap, ◌∙◌, subst, inl, inr, arith}
use Rattle.std.specs.Prelude.{reverse, ℤ}
use Rattle.std.specs.List.{AllByRecursion, swap, swap_remove}
use Rattle.std.proofs.lemmas.Bool.{cases_eq}
use Rattle.std.proofs.lemmas.Grind.{get_or-set_at}
use Rattle.std.proofs.lemmas.List.{ext_get_or, get_or-take, get_or-set_other, get_or_default, length-set, length-take-le, length-append, reverse-append, append_assoc}
use Rattle.std.proofs.lemmas.List.Edits.{swap_is}
use Rattle.std.proofs.Math.ListN.{get_or-append}
use Rattle.std.proofs.Math.Seq.{get_or-append_seam, take-append_seam}
use Rattle.tspdef.specs.Cuts.{Cut, subtour}
use Rattle.certdef.specs.Accepted.{cut_at}
use Rattle.certtests.specs.Places.{IsFromOne}
use Rattle.tspdef.specs.Closings.{Closing}
use Rattle.certdef.specs.Proofs.{Duals}
use Rattle.certdef.specs.Accepted.{duals_from, closing_of}
use Rattle.certtests.specs.Moving.{Rise, without, named_in}

-- ---- numbers that rise

pub rise_lower : (j k : ℕ) (qs : List (ℕ × ℕ)) → j ≤ k → Rise k qs → Rise j qs
rise_lower j k [] l r = tt
rise_lower j k (q ∷ qs) l r = let low = r.0 in (omega arith, r.1)

pub rise_behind : (k : ℕ) (ps : List (ℕ × ℕ)) (q : ℕ × ℕ) (qs : List (ℕ × ℕ)) → Rise k (ps ++ q ∷ qs) → (k ≤ q.0) × Rise (q.0 + 1) qs
rise_behind k [] q qs r = r
rise_behind k (p ∷ ps) q qs r = let low = r.0 in let rest = rise_behind (p.0 + 1) ps q qs r.1 in let high = rest.0 in (omega arith, rest.1)

pub each_behind : (P : ℕ × ℕ → Type 0) (ps : List (ℕ × ℕ)) (q : ℕ × ℕ) (qs : List (ℕ × ℕ)) → AllByRecursion P (ps ++ q ∷ qs) → P q × AllByRecursion P qs
each_behind P [] q qs a = a
each_behind P (p ∷ ps) q qs a = each_behind P ps q qs a.1

-- numbers up to n that rise from k are few
rise_few : (n k : ℕ) (qs : List (ℕ × ℕ)) → k ≤ n + 1 → AllByRecursion (λ q. IsFromOne n q.0) qs → Rise k qs → k + length qs ≤ n + 1
rise_few n k [] l a r = omega arith
rise_few n k (q ∷ qs) l a r =
    let low = r.0 in
    let high = a.0.1 in
    let rest = rise_few n (q.0 + 1) qs (omega arith) a.1 r.1 in
    omega arith

-- ---- a list without some cuts

pub any_last : (cuts : List Cut) (i : ℕ) (c d : Cut) → 1 ≤ length cuts → swap_remove cuts i c ≡ swap_remove cuts i d
any_last cuts i c d l = ap (λ x. take (length cuts - 1) (set cuts i x)) (get_or_default cuts (length cuts - 1) c d (omega arith))

pub long_removed : (cuts : List Cut) (i : ℕ) (d : Cut) → length (swap_remove cuts i d) ≡ length cuts - 1
long_removed cuts i d =
    let same = length-set cuts i (get_or cuts (length cuts - 1) d) in
    length-take-le (length cuts - 1) (set cuts i (get_or cuts (length cuts - 1) d)) (omega arith)

pub long_without : (cuts : List Cut) (qs : List (ℕ × ℕ)) → length (without cuts qs) ≡ length cuts - length qs
long_without cuts [] = omega arith
long_without cuts (q ∷ qs) = let ih = long_without cuts qs in let one = long_removed (without cuts qs) (q.0 - 1) (subtour 0 []) in omega arith

-- a place before all that are taken out
kept : (cuts : List Cut) (k : ℕ) (qs : List (ℕ × ℕ)) (j : ℕ) (d : Cut) → Rise k qs → j + 1 < k → j + length qs < length cuts → get_or (without cuts qs) j d ≡ get_or cuts j d
kept cuts k [] j d r l s = refl
kept cuts k (q ∷ qs) j d r l s =
    let ys = without cuts qs in
    let low = r.0 in
    let long = long_without cuts qs in
    let last = get_or ys (length ys - 1) (subtour 0 []) in
    get_or-take (length ys - 1) (set ys (q.0 - 1) last) j d (omega arith)
    ∙ (get_or-set_other ys (q.0 - 1) j last d (λ e. omega arith) ∙ kept cuts (q.0 + 1) qs j d r.1 (omega arith) (omega arith))

-- the next cut that is taken out
pub next_out : (cuts : List Cut) (q : ℕ × ℕ) (qs : List (ℕ × ℕ)) → IsFromOne (length cuts) q.0 → AllByRecursion (λ p. IsFromOne (length cuts) p.0) qs → Rise (q.0 + 1) qs
    → (q.0 - 1 < length (without cuts qs)) × ((d : Cut) → get_or (without cuts qs) (q.0 - 1) d ≡ cut_at cuts q.0)
next_out cuts q qs one each r =
    let low = one.0 in
    let high = one.1 in
    let few = rise_few (length cuts) (q.0 + 1) qs (omega arith) each r in
    let long = long_without cuts qs in
    (omega arith, λ d. kept cuts (q.0 + 1) qs (q.0 - 1) d r (omega arith) (omega arith) ∙ get_or_default cuts (q.0 - 1) d (subtour 0 []) (omega arith))

pub named_one : (cuts : List Cut) (q : ℕ × ℕ) (qs : List (ℕ × ℕ)) → reverse (named_in cuts (q ∷ qs)) ≡ reverse (named_in cuts qs) ++ (cut_at cuts q.0, q.1) ∷ []
named_one cuts q qs = reverse-append ((cut_at cuts q.0, q.1) ∷ []) (named_in cuts qs)

-- ---- a cut that is put back

removed_at : (ys : List Cut) (p i : ℕ) (d e : Cut) → p < length ys → i < length ys - 1 → i ≢ p → get_or (swap_remove ys p d) i e ≡ get_or ys i e
removed_at ys p i d e l s ne =
    let last = get_or ys (length ys - 1) d in
    get_or-take (length ys - 1) (set ys p last) i e s ∙ get_or-set_other ys p i last e ne

removed_here : (ys : List Cut) (p : ℕ) (d e : Cut) → p < length ys - 1 → get_or (swap_remove ys p d) p e ≡ get_or ys (length ys - 1) e
removed_here ys p d e s =
    let last = get_or ys (length ys - 1) d in
    get_or-take (length ys - 1) (set ys p last) p e s ∙ (get_or-set_at ys p p last e refl (omega arith) ∙ get_or_default ys (length ys - 1) d e (omega arith))

pub put_again : (ys : List Cut) (p : ℕ) (d x : Cut) → p < length ys → x ≡ get_or ys p x → swap (swap_remove ys p d ++ x ∷ []) p (length ys - 1) ≡ ys
put_again ys p d x l is =
    let m = length ys - 1 in
    let zs = swap_remove ys p d in
    let ws = zs ++ x ∷ [] in
    let short = long_removed ys p d in
    let long : length ws ≡ length ys = length-append zs (x ∷ []) ∙ omega arith in
    let end : get_or ws m x ≡ x = ap (λ i. get_or ws i x) (sym short) ∙ get_or-append_seam zs x [] x in
    let here : get_or ws p x ≡ get_or ys m x = elim (cases_eq p m) [
      | inl e ↦ ap (λ i. get_or ws i x) e ∙ (end ∙ (is ∙ ap (λ i. get_or ys i x) e))
      | inr ne ↦ get_or-append zs (x ∷ []) x p (omega arith) ∙ removed_here ys p d x (omega arith)
    ] in
    let one = set ws p (get_or ws m x) in
    let both = set one m (get_or ws p x) in
    let long_one : length one ≡ length ws = length-set ws p (get_or ws m x) in
    let long_both : length both ≡ length one = length-set one m (get_or ws p x) in
    let each : (i : ℕ) → i < length both → get_or both i x ≡ get_or ys i x = λ i s. elim (cases_eq i m) [
      | inl e ↦ get_or-set_at one m i (get_or ws p x) x e (omega arith) ∙ (here ∙ ap (λ j. get_or ys j x) (sym e))
      | inr ne ↦ get_or-set_other one m i (get_or ws p x) x ne ∙ elim (cases_eq i p) [
        | inl e ↦ get_or-set_at ws p i (get_or ws m x) x e (omega arith) ∙ (end ∙ (is ∙ ap (λ j. get_or ys j x) (sym e)))
        | inr other ↦ get_or-set_other ws p i (get_or ws m x) x other ∙ (get_or-append zs (x ∷ []) x i (omega arith) ∙ removed_at ys p i d x l (omega arith) other)
      ]
    ] in
    sym (swap_is ws p m x (omega arith) (omega arith)) ∙ ext_get_or x both ys (omega arith) each

-- ---- one step of each walk

-- the next cut that is taken out, and what is left
pub out_next : (cuts now : List Cut) (duals rest more done : List (ℕ × ℕ)) (q : ℕ × ℕ) → rest ≡ more ++ q ∷ [] → duals ≡ rest ++ done
    → AllByRecursion (λ p. IsFromOne (length cuts) p.0) duals → Rise 1 duals → now ≡ without cuts done
    → (duals ≡ more ++ q ∷ done) × (q.0 - 1 < length now) × ((d : Cut) → get_or now (q.0 - 1) d ≡ cut_at cuts q.0)
out_next cuts now duals rest more done q e all numbers rising w =
    let whole : duals ≡ more ++ q ∷ done = all ∙ (ap (λ (xs : List (ℕ × ℕ)). xs ++ done) e ∙ append_assoc more (q ∷ []) done) in
    let each = each_behind (λ p. IsFromOne (length cuts) p.0) more q done (subst (λ (xs : List (ℕ × ℕ)). AllByRecursion (λ p. IsFromOne (length cuts) p.0) xs) whole numbers) in
    let rise = rise_behind 1 more q done (subst (λ (xs : List (ℕ × ℕ)). Rise 1 xs) whole rising) in
    let out = next_out cuts q done each.0 each.1 rise.1 in
    (whole, subst (λ (xs : List Cut). q.0 - 1 < length xs) (sym w) out.0, λ d. ap (λ (xs : List Cut). get_or xs (q.0 - 1) d) w ∙ out.1 d)

pub left_next : (cuts now new : List Cut) (done : List (ℕ × ℕ)) (q : ℕ × ℕ) (c : Cut) → q.0 - 1 < length now → now ≡ without cuts done → new ≡ swap_remove now (q.0 - 1) c
    → new ≡ without cuts (q ∷ done)
left_next cuts now new done q c l w e =
    e ∙ (any_last now (q.0 - 1) c (subtour 0 []) (omega arith) ∙ ap (λ (xs : List Cut). swap_remove xs (q.0 - 1) (subtour 0 [])) w)

pub named_next : (cuts : List Cut) (done : List (ℕ × ℕ)) (q : ℕ × ℕ) (c : Cut) (old new : List (Cut × ℕ)) → c ≡ cut_at cuts q.0 → old ≡ reverse (named_in cuts done)
    → new ≡ old ++ (c, q.1) ∷ [] → new ≡ reverse (named_in cuts (q ∷ done))
named_next cuts done q c old new is o e =
    e ∙ (ap (λ (xs : List (Cut × ℕ)). xs ++ (c, q.1) ∷ []) o ∙ (ap (λ x. reverse (named_in cuts done) ++ (x, q.1) ∷ []) is ∙ sym (named_one cuts q done)))

-- the last one, and those before it
pub last_of : (xs ys : List (Cut × ℕ)) (x d : Cut × ℕ) (m : ℕ) → length ys ≡ m → ys ≡ xs ++ x ∷ [] → (0 < m) × (get_or ys (m - 1) d ≡ x) × (take (m - 1) ys ≡ xs)
last_of xs ys x d m l e =
    let long : length ys ≡ length xs + 1 = ap length e ∙ length-append xs (x ∷ []) in
    let place : m - 1 ≡ length xs = omega arith in (
      omega arith,
      ap (λ i. get_or ys i d) place ∙ (ap (λ (zs : List (Cut × ℕ)). get_or zs (length xs) d) e ∙ get_or-append_seam xs x [] d),
      ap (λ i. take i ys) place ∙ (ap (λ (zs : List (Cut × ℕ)). take (length xs) zs) e ∙ take-append_seam xs (x ∷ [])),
    )

-- the next cut that is put back, and those that are left
pub put_next : (before old : List Cut) (q : ℕ × ℕ) (more rest : List (ℕ × ℕ)) → rest ≡ q ∷ more → AllByRecursion (λ p. IsFromOne (length before) p.0) rest → Rise 1 rest
    → old ≡ without before rest
    → (AllByRecursion (λ p. IsFromOne (length before) p.0) more × Rise 1 more)
    × ((1 ≤ q.0) × (q.0 ≤ length old + 1))
    × ((new : List Cut) → new ≡ swap (old ++ cut_at before q.0 ∷ []) (q.0 - 1) (length old) → new ≡ without before more)
put_next before old q more rest e numbers rising w =
    let each : AllByRecursion (λ p. IsFromOne (length before) p.0) (q ∷ more) = subst (λ (xs : List (ℕ × ℕ)). AllByRecursion (λ p. IsFromOne (length before) p.0) xs) e numbers in
    let rise : Rise 1 (q ∷ more) = subst (λ (xs : List (ℕ × ℕ)). Rise 1 xs) e rising in
    let low = rise.0 in
    let out = next_out before q more each.0 each.1 rise.1 in
    let within = out.0 in
    let ys = without before more in
    let zs = swap_remove ys (q.0 - 1) (subtour 0 []) in
    let same : old ≡ zs = w ∙ ap (λ (xs : List (ℕ × ℕ)). without before xs) e in
    let short : length zs ≡ length ys - 1 = long_removed ys (q.0 - 1) (subtour 0 []) in
    let long : length old ≡ length ys - 1 = ap length same ∙ short in
    let x = cut_at before q.0 in (
      (each.1, rise_lower 1 (q.0 + 1) more (omega arith) rise.1),
      (low, omega arith),
      λ new s. s ∙ (ap (λ (xs : List Cut). swap (xs ++ x ∷ []) (q.0 - 1) (length old)) same
          ∙ (ap (λ i. swap (zs ++ x ∷ []) (q.0 - 1) i) long ∙ put_again ys (q.0 - 1) (subtour 0 []) x within (sym (out.1 x)))),
    )

pub left_named : (before : List Cut) (q : ℕ × ℕ) (more rest : List (ℕ × ℕ)) (left : List (Cut × ℕ)) → rest ≡ q ∷ more → left ≡ reverse (named_in before rest)
    → left ≡ reverse (named_in before more) ++ (cut_at before q.0, q.1) ∷ []
left_named before q more rest left e l = l ∙ (ap (λ (xs : List (ℕ × ℕ)). reverse (named_in before xs)) e ∙ named_one before q more)

-- ---- the closing of cuts that are taken out

abbrev made : List ℤ → List (Cut × ℕ) → List (ℕ × ℕ) → Closing
made a b c = record { city = a; cuts = b; conds = c }

pub taken_closing : (n m : ℕ) (cuts : List Cut) (d : Duals) (k : Closing) (city : List ℤ) (named : List (Cut × ℕ)) (conds : List (ℕ × ℕ)) → m ≡ n
    → city ≡ duals_from d.cities 1 m → named ≡ named_in cuts d.cuts → conds ≡ d.conds → k ≡ record { city = city; cuts = named; conds = conds } → k ≡ closing_of n cuts d
taken_closing n m cuts d k city named conds s a b c e =
    e ∙ (ap (λ x. made x named conds) (a ∙ ap (λ j. duals_from d.cities 1 j) s) ∙ (ap (λ x. made (duals_from d.cities 1 n) x conds) b ∙ ap (λ x. made (duals_from d.cities 1 n) (named_in cuts d.cuts) x) c))
