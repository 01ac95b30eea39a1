-- Lists of duals, row by row.
use Rattle.std.proofs.Common.{◌≡◌, ℕ, ◌+◌, ◌<◌, ◌≤◌, Bool, ◌||◌, List, [], ◌∷◌, ◌++◌, length, get_or, map, take, ℤ, pos, refl, sym, ap, subst, ◌∙◌, arith, ⊎_elim}
use Rattle.std.specs.Int.Signed.{lt_z}
use Rattle.std.proofs.lemmas.Bool.{cases_lt}
use Rattle.std.proofs.lemmas.List.{take_more, length-append, get_or_append_left}
use Rattle.std.proofs.Math.Seq.{get_or-append_seam}
use Rattle.lpcheck.specs.Rows.{reduced}
use Rattle.lpcheck.specs.Rests.{IsDual, AreDuals}
use Rattle.lpcheck.specs.Added.{any_negative, any_below}
use Rattle.lpcheck.specs.declared.row.Row.{Row}
use Rattle.lpcheck.specs.declared.column.Column.{Column}

duals_append : (rows : List Row) (ys : List ℤ) (r : Row) (y : ℤ) → AreDuals rows ys → IsDual r.sense y → AreDuals (rows ++ r ∷ []) (ys ++ y ∷ [])
duals_append rows ys r y duals dual =
    let all = duals.all in
    let more_rows = length-append rows (r ∷ []) in
    let more_ys = length-append ys (y ∷ []) in
    record {
      all = omega (arith, all, more_rows, more_ys);
      each = λ i none inside. ⊎_elim
          (λ (lower : i < length rows).
          let row = get_or_append_left rows (r ∷ []) none i lower in
          let dual_is = get_or_append_left ys (y ∷ []) (pos 0) i (omega (arith, all, lower)) in
          subst (λ (q : Row). IsDual q.sense (get_or (ys ++ y ∷ []) i (pos 0))) (sym row) (subst (IsDual (get_or rows i none).sense) (sym dual_is) (duals.each i none lower)))
          (λ (not_lower : length rows ≤ i).
          let here : i ≡ length rows = omega (arith, inside, not_lower, more_rows) in
          let there : i ≡ length ys = omega (arith, here, all) in
          let row : get_or (rows ++ r ∷ []) i none ≡ r = ap (λ (k : ℕ). get_or (rows ++ r ∷ []) k none) here ∙ get_or-append_seam rows r [] none in
          let dual_is : get_or (ys ++ y ∷ []) i (pos 0) ≡ y = ap (λ (k : ℕ). get_or (ys ++ y ∷ []) k (pos 0)) there ∙ get_or-append_seam ys y [] (pos 0) in
          subst (λ (q : Row). IsDual q.sense (get_or (ys ++ y ∷ []) i (pos 0))) (sym row) (subst (IsDual r.sense) (sym dual_is) dual))
          (cases_lt i (length rows));
    }

pub duals_push : (rows : List Row) (i : ℕ) (r : Row) (old new : List ℤ) (y : ℤ) → i < length rows → r ≡ get_or rows i r → AreDuals (take i rows) old → new ≡ old ++ y ∷ [] → IsDual r.sense y
    → AreDuals (take (i + 1) rows) new
duals_push rows i r old new y inside is duals new_is dual =
    subst (λ (l : List ℤ). AreDuals (take (i + 1) rows) l) (sym new_is)
    (subst (λ (l : List Row). AreDuals l (old ++ y ∷ [])) (sym (take_more rows i r inside ∙ ap (λ (q : Row). take i rows ++ q ∷ []) (sym is))) (duals_append (take i rows) old r y duals dual))
