-- Rows, and what they say.
use Rattle.std.proofs.Common.{◌≡◌, ℕ, zero, suc, ◌+◌, ◌<◌, List, [], ◌∷◌, ◌++◌, length, map, get_or, take, refl, sym, ap, subst, ◌∙◌, arith}
use Rattle.std.specs.List.{All}
use Rattle.std.proofs.lemmas.List.{map-append, length-append, length-map, append_assoc}
use Rattle.std.proofs.lemmas.List.Elements.{All-push}
use Rattle.tspdef.specs.Paths.{Condition, fixed, absent, present, two, four}
use Rattle.branchx.specs.declared.cond.Cond.{Cond}
use Rattle.branchx.specs.Cond.{condition_of, conditions_of}
use Rattle.branchx.proofs.PathLemmas.{conditions-more}
use Rattle.lpcheck.specs.Rows.{IsSmall}
use Rattle.lpcheck.specs.declared.row.Row.{Row}
use Rattle.nodelp.specs.Shapes.{Shape, shape_of, degree_shape, degree_shapes, clique_shapes, two_shape, four_shape, first_shapes, cliques}

-- ---- one more row

pub shapes_push : (rows new : List Row) (r : Row) (s : Shape) → new ≡ rows ++ r ∷ [] → shape_of r ≡ s → map shape_of new ≡ map shape_of rows ++ s ∷ []
shapes_push rows new r s is same = ap (map shape_of) is ∙ (map-append shape_of rows (r ∷ []) ∙ ap (λ (q : Shape). map shape_of rows ++ q ∷ []) same)

pub small_push : (rows new : List Row) (r : Row) → new ≡ rows ++ r ∷ [] → All IsSmall rows → IsSmall r → All IsSmall new
small_push rows new r is all small = subst (All IsSmall) (sym is) (All-push IsSmall rows r all small)

-- ---- degree rows

pub degree_more : (n : ℕ) → degree_shapes (n + 1) ≡ degree_shapes n ++ degree_shape n ∷ []
degree_more n = let e : n + 1 ≡ suc n = omega arith in ap degree_shapes e

pub degree_length : (n : ℕ) → length (degree_shapes n) ≡ n
degree_length zero = refl
degree_length (suc n) = let l = length-append (degree_shapes n) (degree_shape n ∷ []) in let m = degree_length n in omega (arith, l, m)

-- ---- rows of conditions

clique_shapes-append : (a b : List Condition) → clique_shapes (a ++ b) ≡ clique_shapes a ++ clique_shapes b
clique_shapes-append [] b = refl
clique_shapes-append (fixed u v ∷ a) b = clique_shapes-append a b
clique_shapes-append (absent u v ∷ a) b = clique_shapes-append a b
clique_shapes-append (present u v ∷ a) b = clique_shapes-append a b
clique_shapes-append (two s ∷ a) b = ap (λ l. two_shape s ∷ l) (clique_shapes-append a b)
clique_shapes-append (four s ∷ a) b = ap (λ l. four_shape s ∷ l) (clique_shapes-append a b)

pub cliques_more : (before old new : List Shape) (xs : List Cond) (i : ℕ) (x : Cond) → i < length xs → x ≡ get_or xs i x → old ≡ before ++ clique_shapes (conditions_of (take i xs))
    → new ≡ old ++ clique_shapes (condition_of x ∷ []) → new ≡ before ++ clique_shapes (conditions_of (take (i + 1) xs))
cliques_more before old new xs i x inside is h n =
    n ∙ (ap (λ (l : List Shape). l ++ clique_shapes (condition_of x ∷ [])) h
    ∙ (append_assoc before (clique_shapes (conditions_of (take i xs))) (clique_shapes (condition_of x ∷ []))
    ∙ ap (λ (l : List Shape). before ++ l) (sym (ap clique_shapes (conditions-more xs i x inside is) ∙ clique_shapes-append (conditions_of (take i xs)) (condition_of x ∷ [])))))

-- how many rows a node begins with
pub first_many : (n : ℕ) (path : List Condition) (rows : List Row) → map shape_of rows ≡ first_shapes n path → length rows ≡ n + cliques path
first_many n path rows is =
    let a = length-map rows shape_of in
    let b = ap (λ (l : List Shape). length l) is in
    let c = length-append (degree_shapes n) (clique_shapes path) in
    let d = degree_length n in
    omega (arith, a, b, c, d)
