-- Paths, condition by condition.
use Rattle.std.proofs.Common.{◌≡◌, ℕ, ◌+◌, ◌<◌, List, [], ◌∷◌, ◌++◌, length, take, drop, get_or, sym, subst}
use Rattle.std.proofs.lemmas.List.{append-nil, append_assoc, take-append-drop}
use Rattle.tspdef.specs.Paths.{Condition, MayFollow, ContinuesPath, IsPath}
use Rattle.branchx.specs.declared.cond.Cond.{Cond}
use Rattle.branchx.specs.Cond.{condition_of, conditions_of}
use Rattle.branchx.proofs.PathLemmas.{conditions-more, is_path-front}

follows : (n : ℕ) (path front : List Condition) (c : Condition) → ContinuesPath n path (front ++ c ∷ []) → MayFollow n (path ++ front) c
follows n path [] c h = subst (λ (p : List Condition). MayFollow n p c) (sym (append-nil path)) h.0
follows n path (d ∷ ds) c h = subst (λ (p : List Condition). MayFollow n p c) (append_assoc path (d ∷ []) ds) (follows n (path ++ d ∷ []) ds c h.1)

-- a condition of a path may follow those before it
pub next_follows : (n : ℕ) (xs : List Cond) (k : ℕ) (x : Cond) → IsPath n (conditions_of xs) → k < length xs → x ≡ get_or xs k x → MayFollow n (conditions_of (take k xs)) (condition_of x)
next_follows n xs k x is h e =
    let whole = is_path-front n (take (k + 1) xs) (drop (k + 1) xs) (subst (λ (ys : List Cond). IsPath n (conditions_of ys)) (sym (take-append-drop (k + 1) xs)) is) in
    follows n [] (conditions_of (take k xs)) (condition_of x) (subst (IsPath n) (conditions-more xs k x h e) whole)
