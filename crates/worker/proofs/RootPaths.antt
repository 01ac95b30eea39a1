-- Paths that begin with the fixed pairs of their instance.
use Rattle.std.proofs.Common.{◌≡◌, ℕ, List, [], ◌∷◌, ◌++◌, refl, sym, subst, ◌∙◌}
use Rattle.std.proofs.lemmas.List.{append-nil}
use Rattle.tspdef.specs.Instances.{Instance}
use Rattle.tspdef.specs.Paths.{Condition, fixed_conditions, root}
use Rattle.worker.specs.Works.{BeginsAt, cliques}

pub root_begins : (i : Instance) (path : List Condition) → path ≡ root i → BeginsAt i path
root_begins i path e = ([], e ∙ sym (append-nil (root i)))

-- fixed pairs are no sets
no_cliques : (pairs : List (ℕ × ℕ)) → cliques (fixed_conditions pairs) ≡ 0
no_cliques [] = refl
no_cliques (p ∷ ps) = no_cliques ps

pub root_is_bare : (i : Instance) (path : List Condition) → path ≡ root i → cliques path ≡ 0
root_is_bare i path e = subst (λ (p : List Condition). cliques p ≡ 0) (sym e) (no_cliques i.fixed)

-- where no pair is fixed each path begins at the root
pub unfixed_begins : (i : Instance) (path : List Condition) → i.fixed ≡ [] → BeginsAt i path
unfixed_begins i path e = (path, subst (λ (fs : List (ℕ × ℕ)). path ≡ fixed_conditions fs ++ path) (sym e) refl)
