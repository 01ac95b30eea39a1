-- depths behind fixed pairs
use Rattle.std.proofs.Common.{◌≡◌, ℕ, zero, suc, ◌-◌, List, [], ◌∷◌, ◌++◌, refl, sym, ap, ◌∙◌, subst, append_assoc}
use Rattle.std.specs.Prelude.{slice_get}
use Rattle.tspdef.specs.Paths.{Condition, absent, present, two, four, branches, fixed_conditions, condition_at}
use Rattle.certdef.specs.Proofs.{Written, open_leaf, closed_leaf, edge_split, clique_split}
use Rattle.certdef.specs.Accepted.{from_zero, firsts, name_cliques, DepthsName}
use Rattle.certdef.specs.Laws.{FixedPairsHaveNoDepth}

branches_behind : (pairs : List (ℕ × ℕ)) (path : List Condition) → branches (fixed_conditions pairs ++ path) ≡ branches path
branches_behind [] path = refl
branches_behind (p ∷ ps) path = branches_behind ps path

condition_behind : (pairs : List (ℕ × ℕ)) (path : List Condition) (d : ℕ) → condition_at (fixed_conditions pairs ++ path) d ≡ condition_at path d
condition_behind pairs path zero = refl
condition_behind pairs path (suc k) = ap (λ cs. slice_get cs k) (branches_behind pairs path)

cliques_behind : (pairs : List (ℕ × ℕ)) (path : List Condition) (ds : List ℕ) → name_cliques (fixed_conditions pairs ++ path) ds ≡ name_cliques path ds
cliques_behind pairs path [] = refl
cliques_behind pairs path (d ∷ ds) =
    let a = condition_behind pairs path d in
    let b = cliques_behind pairs path ds in cc

pub depths_behind : (pairs : List (ℕ × ℕ)) (path : List Condition) (t : Written) → DepthsName path t → DepthsName (fixed_conditions pairs ++ path) t
depths_behind pairs path open_leaf h = tt
depths_behind pairs path (closed_leaf d) h = cliques_behind pairs path (firsts d.conds) ∙ h
depths_behind pairs path (edge_split u v a b) h = (
  subst (λ r. DepthsName r a) (sym (append_assoc (fixed_conditions pairs) path (absent (u - 1) (v - 1) ∷ []))) (depths_behind pairs (path ++ absent (u - 1) (v - 1) ∷ []) a h.0),
  subst (λ r. DepthsName r b) (sym (append_assoc (fixed_conditions pairs) path (present (u - 1) (v - 1) ∷ []))) (depths_behind pairs (path ++ present (u - 1) (v - 1) ∷ []) b h.1),
)
depths_behind pairs path (clique_split s a b) h = (
  subst (λ r. DepthsName r a) (sym (append_assoc (fixed_conditions pairs) path (two (from_zero s) ∷ []))) (depths_behind pairs (path ++ two (from_zero s) ∷ []) a h.0),
  subst (λ r. DepthsName r b) (sym (append_assoc (fixed_conditions pairs) path (four (from_zero s) ∷ []))) (depths_behind pairs (path ++ four (from_zero s) ∷ []) b h.1),
)

pub depths_without : (pairs : List (ℕ × ℕ)) (path : List Condition) (t : Written) → DepthsName (fixed_conditions pairs ++ path) t → DepthsName path t
depths_without pairs path open_leaf h = tt
depths_without pairs path (closed_leaf d) h = sym (cliques_behind pairs path (firsts d.conds)) ∙ h
depths_without pairs path (edge_split u v a b) h = (
  depths_without pairs (path ++ absent (u - 1) (v - 1) ∷ []) a (subst (λ r. DepthsName r a) (append_assoc (fixed_conditions pairs) path (absent (u - 1) (v - 1) ∷ [])) h.0),
  depths_without pairs (path ++ present (u - 1) (v - 1) ∷ []) b (subst (λ r. DepthsName r b) (append_assoc (fixed_conditions pairs) path (present (u - 1) (v - 1) ∷ [])) h.1),
)
depths_without pairs path (clique_split s a b) h = (
  depths_without pairs (path ++ two (from_zero s) ∷ []) a (subst (λ r. DepthsName r a) (append_assoc (fixed_conditions pairs) path (two (from_zero s) ∷ [])) h.0),
  depths_without pairs (path ++ four (from_zero s) ∷ []) b (subst (λ r. DepthsName r b) (append_assoc (fixed_conditions pairs) path (four (from_zero s) ∷ [])) h.1),
)

pub fixed_pairs_have_no_depth : FixedPairsHaveNoDepth
fixed_pairs_have_no_depth pairs path t = (depths_without pairs path t, depths_behind pairs path t)
