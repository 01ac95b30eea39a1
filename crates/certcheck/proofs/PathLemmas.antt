-- What is still to come, as a path grows and shrinks.
use Rattle.std.proofs.Common.{◌≡◌, ℕ, List, [], ◌∷◌, ◌++◌, Some, None, refl, sym, ap, subst, ◌∙◌, append_assoc}
use Rattle.tspdef.specs.Paths.{Condition, fixed, absent, present, two, four, MayFollow, ContinuesPath, IsPath, branches, fixed_conditions}
use Rattle.tspdef.proofs.RootLemmas.{no_branches}
use Rattle.certcheck.specs.Paths.{second, sibling, later_below, later}

-- one condition more
later_below-push : (p cs : List Condition) (c : Condition) → later_below p (cs ++ c ∷ []) ≡ sibling (p ++ cs) (second c) ++ later_below p cs
later_below-push p [] c = ap (λ q. sibling q (second c)) (sym (nothing p)) ∙ sym (none (sibling (p ++ []) (second c))) where
  nothing : (xs : List Condition) → xs ++ [] ≡ xs
  nothing [] = refl
  nothing (x ∷ xs) = ap (λ ys. x ∷ ys) (nothing xs)

  none : (xs : List (List Condition)) → xs ++ [] ≡ xs
  none [] = refl
  none (x ∷ xs) = ap (λ ys. x ∷ ys) (none xs)
later_below-push p (d ∷ ds) c =
    ap (λ r. r ++ sibling p (second d)) (later_below-push (p ++ d ∷ []) ds c)
    ∙ (append_assoc (sibling ((p ++ d ∷ []) ++ ds) (second c)) (later_below (p ++ d ∷ []) ds) (sibling p (second d))
    ∙ ap (λ q. sibling q (second c) ++ later_below p (d ∷ ds)) (append_assoc p (d ∷ []) ds))

pub later-push : (path : List Condition) (c : Condition) → later (path ++ c ∷ []) ≡ sibling path (second c) ++ later path
later-push path c = later_below-push [] path c

-- the second child may come where the first one did
pub second_follows : (n : ℕ) (path : List Condition) (c d : Condition) → MayFollow n path c → second c ≡ Some d → MayFollow n path d
second_follows n path (fixed u v) d m e = cc
second_follows n path (absent u v) d m e = let same : present u v ≡ d = cc in subst (MayFollow n path) same m
second_follows n path (present u v) d m e = cc
second_follows n path (two s) d m e = let same : four s ≡ d = cc in subst (MayFollow n path) same m
second_follows n path (four s) d m e = cc

-- no child follows a second one
second-ends : (c d : Condition) → second c ≡ Some d → second d ≡ None
second-ends (fixed u v) d e = cc
second-ends (absent u v) d e = let same : present u v ≡ d = cc in ap second (sym same)
second-ends (present u v) d e = cc
second-ends (two s) d e = let same : four s ≡ d = cc in ap second (sym same)
second-ends (four s) d e = cc

-- after a first child's tree comes its sibling's
pub goes_on : (path : List Condition) (c d : Condition) → second c ≡ Some d → ((path ++ d ∷ []) ∷ later (path ++ d ∷ [])) ≡ later (path ++ c ∷ [])
goes_on path c d e =
    ap (λ r. (path ++ d ∷ []) ∷ r) (later-push path d ∙ ap (λ x. sibling path x ++ later path) (second-ends c d e))
    ∙ sym (later-push path c ∙ ap (λ x. sibling path x ++ later path) e)

-- after a second child's tree comes what comes after its parent's
pub goes_up : (path : List Condition) (c : Condition) → second c ≡ None → later (path ++ c ∷ []) ≡ later path
goes_up path c e = later-push path c ∙ ap (λ x. sibling path x ++ later path) e

-- the last condition of a path may follow the others
last_follows-below : (n : ℕ) (p cs : List Condition) (c : Condition) → ContinuesPath n p (cs ++ c ∷ []) → MayFollow n (p ++ cs) c
last_follows-below n p [] c h = subst (λ q. MayFollow n q c) (sym (nothing p)) h.0 where
  nothing : (xs : List Condition) → xs ++ [] ≡ xs
  nothing [] = refl
  nothing (x ∷ xs) = ap (λ ys. x ∷ ys) (nothing xs)
last_follows-below n p (d ∷ ds) c h = subst (λ q. MayFollow n q c) (append_assoc p (d ∷ []) ds) (last_follows-below n (p ++ d ∷ []) ds c h.1)

pub last_follows : (n : ℕ) (path : List Condition) (c : Condition) → IsPath n (path ++ c ∷ []) → MayFollow n path c
last_follows n path c h = last_follows-below n [] path c h

-- fixed pairs have no second children
later_below-fixed : (p cs : List Condition) → branches cs ≡ [] → later_below p cs ≡ []
later_below-fixed p [] e = refl
later_below-fixed p (fixed u v ∷ cs) e = ap (λ r. r ++ []) (later_below-fixed (p ++ fixed u v ∷ []) cs e)
later_below-fixed p (absent u v ∷ cs) e = cc
later_below-fixed p (present u v ∷ cs) e = cc
later_below-fixed p (two s ∷ cs) e = cc
later_below-fixed p (four s ∷ cs) e = cc

pub later_fixed : (path : List Condition) → branches path ≡ [] → later path ≡ []
later_fixed path e = later_below-fixed [] path e

pub later_root : (pairs : List (ℕ × ℕ)) → later (fixed_conditions pairs) ≡ []
later_root pairs = later_fixed (fixed_conditions pairs) (no_branches pairs)
