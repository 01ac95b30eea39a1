-- Filling a table with the distances of points.
use Rattle.std.proofs.Common.{◌≡◌, ℕ, zero, suc, ◌+◌, ◌*◌, ◌/◌, ◌%◌, ◌<◌, ◌⊎◌, inl, inr, false, eqb, List, [], ◌∷◌, length, map, get_or, refl, sym, ap, ◌∙◌, arith, pos, length-append}
use Rattle.std.specs.List.{flat_map}
use Rattle.std.proofs.lemmas.Bool.{ne_eqb}
use Rattle.std.proofs.lemmas.Bool.Decides.{nat_tests}
use Rattle.std.proofs.lemmas.List.{length-map, get_or-append-add, get_or_default}
use Rattle.std.proofs.lemmas.Nat.{mul-add-lt, same_from_place, div_below, div-add-mod', mod_below}
use Rattle.std.proofs.Math.ListN.{get_or-append}
use Rattle.std.proofs.Math.Nat.{zero-mul}
use Rattle.tspdef.specs.Distances.{Rule, distance}
use Rattle.distx.proofs.DistanceLaws.{distance_turned, no_distance}
use Rattle.tspinst.specs.Tables.{IsTable, Point, point_at, Fills, put, distances}
use Rattle.tspinst.proofs.TableLemmas.{two_writes, same_eqb}

below_next : (i u : ℕ) → i < u + 1 → (i < u) ⊎ (i ≡ u)
below_next i u h = grind (arith, nat_tests)

module _ (rule : Rule) (points : List Point) where
  abbrev pub n : ℕ
  n = length points

  pub fill_none : (t : List ℕ) → Fills rule points t 0 0
  fill_none t = record { rows = λ i j l h. absurd (omega arith); row = λ j l. absurd (omega arith) }

  pub fill_row : (t : List ℕ) (u v : ℕ) → Fills rule points t u v → v ≡ u → Fills rule points t (u + 1) 0
  fill_row t u v f e = record {
    rows = λ i j l h. elim (below_next i u h) [ inl before ↦ f.rows i j l before | inr last ↦ rw last (f.row j (omega arith)) ];
    row = λ j l. absurd (omega arith);
  }

  kept_at : (t : List ℕ) (u v d i j : ℕ) → length t ≡ n * n → u < n → v < u → j < i → i < n → ((i ≡ u) → j < v) → get_or (put n t u v d) (i * n + j) 0 ≡ get_or t (i * n + j) 0
  kept_at t u v d i j long lu lv lj li before =
      let a : eqb (i * n + j) (v * n + u) ≡ false = ne_eqb _ _ (λ e. let p = same_from_place i j v u n (omega arith) lu e in omega (arith, p.0, p.1)) in
      let b : eqb (i * n + j) (u * n + v) ≡ false = ne_eqb _ _ (λ e. let p = same_from_place i j u v n (omega arith) (omega arith) e in omega (arith, p.1, before p.0)) in
      let lx : u * n + v < length t = rw long (mul-add-lt u n v n lu (omega arith)) in
      let ly : v * n + u < length t = rw long (mul-add-lt v n u n (omega arith) lu) in
      two_writes t (u * n + v) (v * n + u) d (i * n + j) lx ly ∙ rw (a, b) refl

  set_at : (t : List ℕ) (u v d : ℕ) → length t ≡ n * n → u < n → v < u → get_or (put n t u v d) (u * n + v) 0 ≡ d
  set_at t u v d long lu lv =
      let a : eqb (u * n + v) (v * n + u) ≡ false = ne_eqb _ _ (λ e. let p = same_from_place u v v u n (omega arith) lu e in omega (arith, p.0)) in
      let lx : u * n + v < length t = rw long (mul-add-lt u n v n lu (omega arith)) in
      let ly : v * n + u < length t = rw long (mul-add-lt v n u n (omega arith) lu) in
      two_writes t (u * n + v) (v * n + u) d (u * n + v) lx ly ∙ rw (a, same_eqb (u * n + v)) refl

  pub fill_step : (t s : List ℕ) (u v d : ℕ) → Fills rule points t u v → IsTable n t → u < n → v < u → d ≡ distance rule (point_at points u) (point_at points v) → s ≡ put n t u v d → Fills rule points s u (v + 1)
  fill_step t s u v d f table lu lv is e = rw e (record {
    rows = λ i j l h. kept_at t u v d i j table.square lu lv l (omega arith) (λ q. absurd (omega arith)) ∙ f.rows i j l h;
    row = λ j l. elim (below_next j v l) [ inl before ↦ kept_at t u v d u j table.square lu lv (omega arith) lu (λ q. before) ∙ f.row j before | inr last ↦ rw last (set_at t u v d table.square lu lv ∙ is) ];
  })

  order : (i j : ℕ) → (j < i) ⊎ ((i ≡ j) ⊎ (i < j))
  order i j = grind (arith, nat_tests)

  entry_at : (t : List ℕ) (u : ℕ) → IsTable n t → Fills rule points t n u → (i j : ℕ) → i < n → j < n → get_or t (i * n + j) 0 ≡ distance rule (point_at points i) (point_at points j)
  entry_at t u w f i j li lj =
      elim (order i j) [
        | inl lower ↦ f.rows i j lower li
        | inr rest ↦ elim rest [
          | inl same ↦ rw same (w.at_home j lj ∙ sym (no_distance rule (point_at points j)))
          | inr upper ↦ w.symmetric i j li lj ∙ f.rows j i upper lj ∙ distance_turned rule (point_at points j) (point_at points i)
        ]
      ]

-- ---- the table of all distances

-- the distances of some points to all points, row by row
rows_of : Rule → List Point → List Point → List ℕ
rows_of rule some all = flat_map (λ a. map (λ b. distance rule a b) all) some

rows_length : (rule : Rule) (some all : List Point) → length (rows_of rule some all) ≡ length some * length all
unfolding rows_of
rows_length rule [] all = sym (zero-mul (length all))
rows_length rule (a ∷ some) all =
    length-append (map (λ b. distance rule a b) all) (rows_of rule some all)
    ∙ omega (arith, length-map {B = ℕ} all (λ b. distance rule a b), rows_length rule some all)

map_at : (rule : Rule) (a : Point) (all : List Point) (j : ℕ) → j < length all → get_or (map (λ b. distance rule a b) all) j 0 ≡ distance rule a (point_at all j)
map_at rule a [] j l = absurd (omega arith)
map_at rule a (b ∷ all) zero l = refl
map_at rule a (b ∷ all) (suc j) l = map_at rule a all j (omega arith)

rows_at : (rule : Rule) (some all : List Point) (i j : ℕ) → i < length some → j < length all → get_or (rows_of rule some all) (i * length all + j) 0 ≡ distance rule (point_at some i) (point_at all j)
unfolding rows_of
rows_at rule [] all i j li lj = absurd (omega arith)
rows_at rule (a ∷ some) all zero j li lj =
    let place : zero * length all + j ≡ j = omega arith in
    rw place (get_or-append (map (λ b. distance rule a b) all) (rows_of rule some all) 0 j (rw (length-map {B = ℕ} all (λ b. distance rule a b)) lj) ∙ map_at rule a all j lj)
rows_at rule (a ∷ some) all (suc i) j li lj =
    let long : length (map (λ b. distance rule a b) all) ≡ length all = length-map {B = ℕ} all (λ b. distance rule a b) in
    let place : suc i * length all + j ≡ length (map (λ b. distance rule a b) all) + (i * length all + j) = omega (arith, long) in
    rw place (get_or-append-add (map (λ b. distance rule a b) all) (rows_of rule some all) (i * length all + j) 0 ∙ rows_at rule some all i j (omega arith) lj)

-- lists of numbers that agree at each place are equal
pub same_places : (xs ys : List ℕ) → length xs ≡ length ys → ((k : ℕ) → k < length xs → get_or xs k 0 ≡ get_or ys k 0) → xs ≡ ys
same_places [] [] e h = refl
same_places [] (y ∷ ys) e h = absurd (omega arith)
same_places (x ∷ xs) [] e h = absurd (omega arith)
same_places (x ∷ xs) (y ∷ ys) e h =
    let first : x ≡ y = h 0 (omega arith) in
    let rest : xs ≡ ys = same_places xs ys (omega arith) (λ k l. h (suc k) (omega arith)) in
    rw (first, rest) refl

pub some_row : (n k : ℕ) → k < n * n → 0 < n
some_row zero k l = absurd (omega arith)
some_row (suc n) k l = omega arith

pub filled : (rule : Rule) (points : List Point) (t : List ℕ) (u v : ℕ) → IsTable (length points) t → Fills rule points t u v → u ≡ length points → t ≡ distances rule points
unfolding rows_of
filled rule points t u v w f e = same_places t (distances rule points) (w.square ∙ sym (rows_length rule points points)) (λ k l.
    let n : ℕ = length points in
    let within : k < n * n = omega (arith, w.square) in
    let some : 0 < n = some_row n k within in
    let place : k / n * n + k % n ≡ k = div-add-mod' k n in
    let low : k / n < n = div_below k n n some within in
    let off : k % n < n = mod_below k n some in
    ap (λ x. get_or t x 0) (sym place)
    ∙ entry_at rule points t v w (rw e at f) (k / n) (k % n) low off
    ∙ sym (rows_at rule points points (k / n) (k % n) low off)
    ∙ ap (λ x. get_or (distances rule points) x 0) place)

-- the point that stands at a place
pub own_point : (points : List Point) (u : ℕ) (p : Point) → u < length points → p ≡ get_or points u p → p ≡ point_at points u
own_point points u p l e = e ∙ get_or_default points u p (pos 0, pos 0) l

pub ruleset fill_steps = (fill_none, fill_row, fill_step, filled)
