-- Cuts that are read.
use Rattle.std.proofs.Common.{◌≡◌, ℕ, List, [], ◌∷◌, ◌++◌, map, Option, Some, None, cond, ap, ◌∙◌}
use Rattle.std.specs.Prelude.{IfSome}
use Rattle.std.specs.Option.{option_map, is_some}
use Rattle.std.proofs.lemmas.List.{map-append}
use Rattle.tspdef.specs.Cuts.{Cut}
use Rattle.certdef.specs.Proofs.{Listed, comb_cut, odd_cut}
use Rattle.certdef.specs.Accepted.{cut_of}
use Rattle.certdef.specs.Tests.{is_cut}
use Rattle.certtests.specs.Listed.{listed}
use Rattle.tapeboss.specs.Lines.{first_line, other_lines, set_of_handle}
use Rattle.tapeboss.specs.Messages.{onward, teeth_on, pairs_on, if_cut, comb_in, odd_in}

-- a cut is made exactly of what is one
pub made : (n : ℕ) (x : Listed) (text : List ℕ) (o : Option Cut) → is_some o ≡ is_cut n (cut_of n x) → IfSome o (λ c. listed c ≡ x) → option_map (λ (c : Cut). (listed c, text)) o ≡ if_cut n x text
made n x text None h e = ap (λ b. cond b (Some (x, text)) None) h
made n x text (Some c) h e = ap (λ (z : Listed). Some (z, text)) e ∙ ap (λ b. cond b (Some (x, text)) None) h

pub comb_read : (n t : ℕ) (text : List ℕ) (h : List ℕ) (r : List (List ℕ) × List ℕ) → set_of_handle (first_line n text) ≡ Some h → teeth_on n [] t (other_lines text) ≡ Some r
    → comb_in n t text ≡ if_cut n (comb_cut h r.0) r.1
comb_read n t text h r e f =
    ap (λ o. onward o (λ (s : List ℕ). onward (teeth_on n [] t (other_lines text)) (λ (q : List (List ℕ) × List ℕ). if_cut n (comb_cut s q.0) q.1))) e
    ∙ ap (λ o. onward o (λ (q : List (List ℕ) × List ℕ). if_cut n (comb_cut h q.0) q.1)) f

pub comb_without_handle : (n t : ℕ) (text : List ℕ) → set_of_handle (first_line n text) ≡ None → comb_in n t text ≡ None
comb_without_handle n t text e = ap (λ o. onward o (λ (s : List ℕ). onward (teeth_on n [] t (other_lines text)) (λ (q : List (List ℕ) × List ℕ). if_cut n (comb_cut s q.0) q.1))) e

pub comb_without_teeth : (n t : ℕ) (text : List ℕ) (h : List ℕ) → set_of_handle (first_line n text) ≡ Some h → teeth_on n [] t (other_lines text) ≡ None → comb_in n t text ≡ None
comb_without_teeth n t text h e f =
    ap (λ o. onward o (λ (s : List ℕ). onward (teeth_on n [] t (other_lines text)) (λ (q : List (List ℕ) × List ℕ). if_cut n (comb_cut s q.0) q.1))) e
    ∙ ap (λ o. onward o (λ (q : List (List ℕ) × List ℕ). if_cut n (comb_cut h q.0) q.1)) f

pub odd_read : (n t : ℕ) (text : List ℕ) (h : List ℕ) (r : List (ℕ × ℕ) × List ℕ) → set_of_handle (first_line n text) ≡ Some h → pairs_on n [] t (other_lines text) ≡ Some r
    → odd_in n t text ≡ if_cut n (odd_cut h r.0) r.1
odd_read n t text h r e f =
    ap (λ o. onward o (λ (s : List ℕ). onward (pairs_on n [] t (other_lines text)) (λ (q : List (ℕ × ℕ) × List ℕ). if_cut n (odd_cut s q.0) q.1))) e
    ∙ ap (λ o. onward o (λ (q : List (ℕ × ℕ) × List ℕ). if_cut n (odd_cut h q.0) q.1)) f

pub odd_without_handle : (n t : ℕ) (text : List ℕ) → set_of_handle (first_line n text) ≡ None → odd_in n t text ≡ None
odd_without_handle n t text e = ap (λ o. onward o (λ (s : List ℕ). onward (pairs_on n [] t (other_lines text)) (λ (q : List (ℕ × ℕ) × List ℕ). if_cut n (odd_cut s q.0) q.1))) e

pub odd_without_pairs : (n t : ℕ) (text : List ℕ) (h : List ℕ) → set_of_handle (first_line n text) ≡ Some h → pairs_on n [] t (other_lines text) ≡ None → odd_in n t text ≡ None
odd_without_pairs n t text h e f =
    ap (λ o. onward o (λ (s : List ℕ). onward (pairs_on n [] t (other_lines text)) (λ (q : List (ℕ × ℕ) × List ℕ). if_cut n (odd_cut s q.0) q.1))) e
    ∙ ap (λ o. onward o (λ (q : List (ℕ × ℕ) × List ℕ). if_cut n (odd_cut h q.0) q.1)) f

-- one more in a view
pub map_and_one : {X Y : Type 0} (view : Y → X) (ys new : List Y) (y : Y) → new ≡ ys ++ y ∷ [] → map view new ≡ map view ys ++ view y ∷ []
map_and_one view ys new y e = ap (map view) e ∙ map-append view ys (y ∷ [])
