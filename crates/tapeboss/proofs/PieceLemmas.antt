-- Pieces, and what is left of them.
use Rattle.std.proofs.Common.{◌≡◌, ℕ, ◌<◌, List, [], ◌∷◌, ◌++◌, length, take, drop, Result, Ok, Err, refl, sym, ap, ◌∙◌, append_assoc, arith}
use Rattle.std.specs.Prelude.{◌==◌, false}
use Rattle.std.proofs.lemmas.Bool.Decides.{nat_tests}
use Rattle.std.proofs.lemmas.List.{take-append-drop}
use Rattle.tspdef.specs.Trees.{open_leaves}
use Rattle.treebook.specs.Tables.{tree_of}
use Rattle.treebook.specs.Tree.{Table}
use Rattle.bossx.specs.Books.{Book, best_length}
use Rattle.tapeboss.specs.Replies.{end_line}
use Rattle.tapeboss.specs.Tapes.{last_line}

abbrev err_or : {A E : Type 0} → E → Result A E → E
err_or d (Ok x) = d
err_or d (Err e) = e

pub err_is : {A E : Type 0} (a b : E) → ◌≡◌ {A = Result A E} (Err a) (Err b) → a ≡ b
err_is {A} {E} a b e = ap (err_or {A = A} {E = E} a) e

pub none_left : {X : Type 0} (xs : List X) → length xs ≡ 0 → xs ≡ []
none_left [] h = refl
none_left (x ∷ xs) h = absurd (omega arith)

pub both : (rest part more : List ℕ) (k : ℕ) → part ≡ take k rest → more ≡ drop k rest → part ++ more ≡ rest
both rest part more k e f = ap (λ (z : List ℕ). z ++ more) e ∙ (ap (λ (z : List ℕ). take k rest ++ z) f ∙ take-append-drop k rest)

pub goes_by : (piece done rest part more : List ℕ) → piece ≡ done ++ rest → part ++ more ≡ rest → piece ≡ (done ++ part) ++ more
goes_by piece done rest part more e f = e ∙ (ap (λ (z : List ℕ). done ++ z) (sym f) ∙ sym (append_assoc done part more))

pub put_more : (out mid new l m : List ℕ) → mid ≡ out ++ l → new ≡ mid ++ m → new ≡ out ++ (l ++ m)
put_more out mid new l m e f = f ∙ (ap (λ (z : List ℕ). z ++ m) e ∙ append_assoc out l m)

-- what is counted at the end
pub last_is : (b : Book) (s o l : ℕ) (t : Table) → s ≡ b.settled → o ≡ open_leaves (tree_of t.nodes) → t ≡ b.tree → l ≡ best_length b → end_line s o l ≡ last_line b
last_is b s o l t e f g h =
    ap (λ (j : ℕ). end_line j o l) e
    ∙ (ap (λ (j : ℕ). end_line b.settled j l) (f ∙ ap (λ (u : Table). open_leaves (tree_of u.nodes)) g) ∙ ap (λ (j : ℕ). end_line b.settled (open_leaves (tree_of b.tree.nodes)) j) h)

pub some_of : (n : ℕ) → (n == 0) ≡ false → 0 < n
some_of n h = grind (arith, nat_tests)
