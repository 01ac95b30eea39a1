-- Steps of a verifier, of what the code found.
use Rattle.std.proofs.Common.{◌≡◌, ℕ, suc, ◌-◌, true, false, List, [], ◌∷◌, ◌++◌, ℤ, sym, ap, subst, ◌∙◌}
use Rattle.std.specs.Prelude.{nat_le}
use Rattle.std.specs.List.{AllByRecursion}
use Rattle.std.proofs.lemmas.Bool.{cond-true, cond-false}
use Rattle.tspdef.specs.Instances.{Instance}
use Rattle.tspdef.specs.Paths.{Condition, absent, present, two, four, root}
use Rattle.certdef.specs.Items.{edge_line, clique_line, city_line}
use Rattle.certdef.specs.Accepted.{from_zero}
use Rattle.certdef.specs.Tests.{Tests}
use Rattle.certcheck.specs.Purposes.{tests_by}
use Rattle.certcheck.specs.declared.purpose.Purpose.{Purpose}
use Rattle.certdef.specs.Verdicts.{Head, OpenDuals, go, refused, wants_trees, after, cuts_on, duals_on, with_city, on_tree, on_dual}
use Rattle.certcheck.specs.Paths.{later}
use Rattle.certcheck.proofs.PathLemmas.{later-push, later_root}

-- behind the cuts comes a tree on the path of the root
pub root_goes : (u : Purpose) (i : Instance) (h : Head) (left : ℕ) (path : List Condition) → left ≡ 0 → path ≡ root i → go (cuts_on (tests_by u i) h left) ≡ go (wants_trees h (path ∷ later path))
root_goes u i h left path e f =
    ap (λ k. go (cuts_on (tests_by u i) h k)) e
    ∙ (ap (λ ps. go (wants_trees h (root i ∷ ps))) (sym (later_root i.fixed))
    ∙ ap (λ p. go (wants_trees h (p ∷ later p))) (sym f))

-- a split puts both children first
pub edge_goes : (j : Tests) (h : Head) (p q : List Condition) (at u v : ℕ) → j.decided p (u - 1) (v - 1) ≡ false → q ≡ p ++ absent (u - 1) (v - 1) ∷ []
    → on_tree j h p (later p) at (edge_line u v) ≡ go (wants_trees h (q ∷ later q))
edge_goes j h p q at u v d e =
    let next = go (wants_trees h ((p ++ absent (u - 1) (v - 1) ∷ []) ∷ (p ++ present (u - 1) (v - 1) ∷ []) ∷ later p)) in
    cond-false (j.decided p (u - 1) (v - 1)) (refused 6 at) next d
    ∙ (ap (λ r. go (wants_trees h ((p ++ absent (u - 1) (v - 1) ∷ []) ∷ r))) (sym (later-push p (absent (u - 1) (v - 1))))
    ∙ ap (λ r. go (wants_trees h (r ∷ later r))) (sym e))

pub clique_goes : (j : Tests) (h : Head) (p q : List Condition) (at : ℕ) (s : List ℕ) → j.proper s ≡ true → q ≡ p ++ two (from_zero s) ∷ []
    → on_tree j h p (later p) at (clique_line s) ≡ go (wants_trees h (q ∷ later q))
clique_goes j h p q at s d e =
    let next = go (wants_trees h ((p ++ two (from_zero s) ∷ []) ∷ (p ++ four (from_zero s) ∷ []) ∷ later p)) in
    cond-true (j.proper s) next (refused 5 at) d
    ∙ (ap (λ r. go (wants_trees h ((p ++ two (from_zero s) ∷ []) ∷ r))) (sym (later-push p (two (from_zero s))))
    ∙ ap (λ r. go (wants_trees h (r ∷ later r))) (sym e))

pub city_goes : (j : Tests) (h : Head) (ps : List (List Condition)) (o : OpenDuals) (a b c at v : ℕ) (x y : ℤ) → nat_le (after o.duals.cities) v ≡ true → y ≡ x
    → duals_on j h ps (with_city o v y) a b c ≡ on_dual j h ps o (suc a) b c at (city_line v x)
city_goes j h ps o a b c at v x y d e =
    ap (λ z. duals_on j h ps (with_city o v z) a b c) e ∙ sym (cond-true (nat_le (after o.duals.cities) v) (duals_on j h ps (with_city o v x) a b c) (refused 1 at) d)

-- one more of a kind
pub all-push : {X : Type 0} (P : X → Type 0) (xs : List X) (x : X) → AllByRecursion P xs → P x → AllByRecursion P (xs ++ x ∷ [])
all-push P [] x h p = (p, tt)
all-push P (y ∷ ys) x h p = (h.0, all-push P ys x h.1 p)

-- numbers that are 0
pub at_zeros : (P : ℕ → ℕ → ℕ → Type 0) (a b c : ℕ) → a ≡ 0 → b ≡ 0 → c ≡ 0 → P 0 0 0 → P a b c
at_zeros P a b c x y z h = subst (λ k. P k b c) (sym x) (subst (λ k. P 0 k c) (sym y) (subst (λ k. P 0 0 k) (sym z) h))
