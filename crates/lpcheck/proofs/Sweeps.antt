-- One step of a row's dual, and a sweep over the rows.
use Rattle.std.proofs.Common.{Bool, true, false, ◌||◌, refl, negsuc, ◌≡◌, ℕ, ◌+◌, ◌<◌, ◌≤◌, ◌≢◌, ℤ, pos, ◌+ℤ◌, ◌*ℤ◌, ◌≤ℤ◌, ◌<ℤ◌, List, length, map, get_or, set, sym, ap, subst, ◌∙◌, arith, ⊎_elim}
use Rattle.std.proofs.lemmas.Int.{ints}
use Rattle.std.proofs.lemmas.List.{get_or_default, get_or-set_same, get_or-set_other, length-set}
use Rattle.std.proofs.lemmas.Bool.{cases_eq, cases_lt, false≢true}
use Rattle.lpcheck.specs.Rows.{reduced, lower_side}
use Rattle.lpcheck.specs.Rests.{IsDual, AreDuals, IsStep, RowRests}
use Rattle.lpcheck.specs.Cells.{cells_from, lowered}
use Rattle.lpcheck.specs.declared.cells.Cell.{Cell}
use Rattle.lpcheck.specs.Steps.{columns_gain, cells_gain, pieces_gain, gain, step_gain, room}
use Rattle.lpcheck.specs.declared.row.Row.{Row}
use Rattle.lpcheck.specs.declared.column.Column.{Column}
use Rattle.lpcheck.specs.declared.piece.Piece.{Piece}
use Rattle.lpcheck.proofs.Changes.{change, lower_set, costs_set}
use Rattle.lpcheck.proofs.CellLemmas.{lowered_is, gain_is}

-- the pieces are the row's
abbrev pub Tells : List Row → List Column → List ℤ → Row → List Piece → Type 0
Tells rows cols ys r ps = (d : ℤ) → pieces_gain ps d ≡ columns_gain rows ys r d cols

pub tells_row : (rows : List Row) (cols : List Column) (ys rs : List ℤ) (r : Row) (cells : List Cell) (ps : List Piece) → rs ≡ map (reduced rows ys) cols → cells ≡ cells_from 0 r cols
    → ((d : ℤ) → pieces_gain ps d ≡ cells_gain cols rs cells d) → Tells rows cols ys r ps
tells_row rows cols ys rs r cells ps costs is gains d =
    gains d ∙ ap (λ (l : List ℤ). cells_gain cols l cells d) costs ∙ ap (λ (l : List Cell). cells_gain cols (map (reduced rows ys) cols) l d) is ∙ gain_is rows ys r cols d

pub costs_step : (rows : List Row) (cols : List Column) (ys rs new : List ℤ) (at : ℕ) (r : Row) (cells : List Cell) (z d : ℤ) → at < length rows → length ys ≡ length rows
    → r ≡ get_or rows at r → rs ≡ map (reduced rows ys) cols → cells ≡ cells_from 0 r cols → d ≡ change r z (get_or ys at (pos 0)) → new ≡ lowered d cells rs
    → new ≡ map (reduced rows (set ys at z)) cols
costs_step rows cols ys rs new at r cells z d inside size is costs cells_are is_d lower =
    lower ∙ ap (lowered d cells) costs ∙ ap (λ (l : List Cell). lowered d l (map (reduced rows ys) cols)) cells_are ∙ lowered_is cols r d (reduced rows ys)
    ∙ costs_set rows ys cols at r (pos 0) z d inside (omega (arith, inside, size)) is is_d

pub lower_step : (rows : List Row) (cols : List Column) (ys : List ℤ) (at : ℕ) (r : Row) (ps : List Piece) (y z : ℤ) → at < length rows → length ys ≡ length rows
    → r ≡ get_or rows at r → y ≡ get_or ys at (pos 0) → Tells rows cols ys r ps
    → lower_side rows cols (set ys at z) ≡ lower_side rows cols ys +ℤ step_gain r.sense r.rhs ps y z
lower_step rows cols ys at r ps y z inside size is is_y tells =
    lower_set rows ys cols at r (pos 0) z inside (omega (arith, inside, size))
    ∙ ap (λ (q : Row). lower_side rows cols ys +ℤ gain rows ys cols q (change q z (get_or ys at (pos 0)))) (sym is)
    ∙ ap (λ (w : ℤ). lower_side rows cols ys +ℤ gain rows ys cols r (change r z w)) (sym is_y)
    ∙ ap (λ (g : ℤ). lower_side rows cols ys +ℤ (change r z y *ℤ pos r.rhs +ℤ g)) (sym (tells (change r z y)))

same_row : (rows : List Row) (at : ℕ) (r none : Row) → at < length rows → r ≡ get_or rows at r → get_or rows at none ≡ r
same_row rows at r none inside is = get_or_default rows at none r inside ∙ sym is

pub row_rests : (rows : List Row) (cols : List Column) (ys : List ℤ) (at : ℕ) (r : Row) (ps : List Piece) (y most : ℤ) → at < length rows → length ys ≡ length rows
    → r ≡ get_or rows at r → y ≡ get_or ys at (pos 0) → Tells rows cols ys r ps
    → ((k : ℕ) (z : ℤ) → 10 ≤ k → k ≤ 61 → IsStep y k z → IsDual r.sense z → step_gain r.sense r.rhs ps y z ≤ℤ most) → most <ℤ pos 1024
    → (none : Row) → RowRests rows cols ys at (get_or rows at none)
row_rests rows cols ys at r ps y most inside size is is_y tells small below none k z least largest taken dual =
    let step : IsStep y k z = subst (λ (w : ℤ). IsStep w k z) (sym is_y) taken in
    let own : IsDual r.sense z = subst (λ (q : Row). IsDual q.sense z) (same_row rows at r none inside is) dual in
    let gained = small k z least largest step own in
    let is_lower = lower_step rows cols ys at r ps y z inside size is is_y tells in
    omega (arith, ints)

pub duals_step : (rows : List Row) (ys : List ℤ) (at : ℕ) (r : Row) (z : ℤ) → at < length rows → r ≡ get_or rows at r
    → AreDuals rows ys → IsDual r.sense z → AreDuals rows (set ys at z)
duals_step rows ys at r z inside is duals dual = let size = duals.all in record {
  all = omega (arith, length-set ys at z, size);
  each = λ i none within. ⊎_elim
      (λ (same : i ≡ at).
      let value : get_or (set ys at z) i (pos 0) ≡ z = ap (λ (j : ℕ). get_or (set ys at z) j (pos 0)) same ∙ get_or-set_same ys at z (pos 0) (omega (arith, inside, size)) in
      let row : get_or rows i none ≡ r = ap (λ (j : ℕ). get_or rows j none) same ∙ same_row rows at r none inside is in
      subst (λ (q : Row). IsDual q.sense (get_or (set ys at z) i (pos 0))) (sym row) (subst (IsDual r.sense) (sym value) dual))
      (λ (apart : i ≢ at). subst (IsDual (get_or rows i none).sense) (sym (get_or-set_other ys at i z (pos 0) apart)) (duals.each i none within))
      (cases_eq i at);
}

or_true : (b : Bool) → (b || true) ≡ true
or_true true = refl
or_true false = refl

or_false : (b : Bool) → (b || false) ≡ b
or_false true = refl
or_false false = refl

-- what a sweep has done when it comes to a place
pub record IsSwept (rows : List Row) (cols : List Column) (first now costs : List ℤ) (any : Bool) (at : ℕ) : Type 0 where
  pub duals : AreDuals rows now
  pub costs_are : costs ≡ map (reduced rows now) cols
  pub rises : lower_side rows cols first ≤ℤ lower_side rows cols now
  pub better : any ≡ true → (lower_side rows cols first +ℤ pos 1024) ≤ℤ lower_side rows cols now
  pub rests : any ≡ false → (j : ℕ) (none : Row) → j < at → RowRests rows cols now j (get_or rows j none)

pub sweep_start : (rows : List Row) (cols : List Column) (first costs : List ℤ) → AreDuals rows first → costs ≡ map (reduced rows first) cols → IsSwept rows cols first first costs false 0
sweep_start rows cols first costs duals costs_are = record {
  duals = duals;
  costs_are = costs_are;
  rises = omega (arith, ints);
  better = λ yes. absurd (false≢true yes);
  rests = λ no j none below. absurd (omega (arith, below));
}

pub sweep_more : (rows : List Row) (cols : List Column) (first before after costs later : List ℤ) (any moved : Bool) (at : ℕ) → IsSwept rows cols first before costs any at → AreDuals rows after
    → later ≡ map (reduced rows after) cols → (moved ≡ true → (lower_side rows cols before +ℤ pos 1024) ≤ℤ lower_side rows cols after) → (moved ≡ false → after ≡ before)
    → (moved ≡ false → (none : Row) → RowRests rows cols before at (get_or rows at none)) → IsSwept rows cols first after later (any || moved) (at + 1)
sweep_more rows cols first before after costs later any true at so_far duals costs_are better same rests =
    let old = so_far.rises in
    let new = better refl in
    record {
      duals = duals;
      costs_are = costs_are;
      rises = omega (arith, ints);
      better = λ yes. omega (arith, ints);
      rests = λ no. absurd (false≢true (sym no ∙ or_true any));
    }
sweep_more rows cols first before after costs later any false at so_far duals costs_are better same rests =
    let kept : (no : any ≡ false) (j : ℕ) (none : Row) → j < at + 1 → RowRests rows cols before j (get_or rows j none) = λ no j none below. ⊎_elim
    (λ (lower : j < at). so_far.rests no j none lower)
    (λ (not_lower : at ≤ j). let here : j ≡ at = omega (arith, below, not_lower) in subst (λ (i : ℕ). RowRests rows cols before i (get_or rows i none)) (sym here) (rests refl none))
    (cases_lt j at) in
    let before_is = same refl in
    record {
      duals = duals;
      costs_are = costs_are;
      rises = subst (λ (ys : List ℤ). lower_side rows cols first ≤ℤ lower_side rows cols ys) (sym before_is) so_far.rises;
      better = λ yes. subst (λ (ys : List ℤ). (lower_side rows cols first +ℤ pos 1024) ≤ℤ lower_side rows cols ys) (sym before_is) (so_far.better (sym (or_false any) ∙ yes));
      rests = λ no. subst (λ (ys : List ℤ). (j : ℕ) (none : Row) → j < at + 1 → RowRests rows cols ys j (get_or rows j none)) (sym before_is) (kept (sym (or_false any) ∙ no));
    }

pub room_less : (x y : ℤ) → pos 1 ≤ℤ x → (y +ℤ pos 1024) ≤ℤ x → room y < room x
room_less (pos a) (pos b) some less = omega (arith, ints)
room_less (pos a) (negsuc b) some less = omega (arith, ints)
room_less (negsuc a) y some less = absurd (omega (arith, ints))
