-- `solve` with a budget and a seed. What stands at each option's end depends on the word before it, so the walk over the words is
-- taken in steps.
use Rattle.std.proofs.Common.{◌≡◌, Bool, true, false, cond, List, [], ◌∷◌, codes, fold, refl, sym, ap, subst, ◌∙◌, Some, None}
use Rattle.clap.specs.Kinds.{Kinds, or_else}
use Rattle.clap.specs.Faults.{check_fault, defaults_fault, level_fault, settle_fault, turn_fault, walk_fault}
use Rattle.clap.specs.Simple.{Shape}
use Rattle.clap.specs.Walk.{Held, Row, Text, Walk, finished, idle, nothing_held, settled, walk, walk_from, walked}
use Rattle.clap.specs.ValueTests.{is_unsigned_in}
use Rattle.clap.specs.declared.error.kind.ErrorKind.TheVariants as kind
use Rattle.clap.proofs.OnLiterals.{clap_on_literals}
use Rattle.tspwords.specs.Program.{IsTaken, command_word, rows_of_words, most_budget, most_seed}
use Rattle.tspwords.specs.Laws.{IsPlain, BudgetsAndSeedsAreTaken}
use Rattle.tspwords.proofs.Numbers.{in_unsigned}
use Rattle.tspwords.proofs.PlainWords.{given, default_resume_row, default_gap_row, default_team_rows, not_dashes, not_long, not_short, number_is_plain}
use Rattle.tspwords.proofs.Taken.{solve_built}

-- what may go wrong after the walk
abbrev pub end_fault : Shape → Held → Kinds
end_fault s h = or_else (settle_fault s.rules s.args_override_self h) (or_else (defaults_fault (settled s.rules h).rows s.rules) (check_fault s (finished s.rules h) false))

-- a level whose walk has no fault, and whose end has none
pub level_free : (s : Shape) (words : List Text) (w : Walk) → walk_fault s [] (walk_from nothing_held) words ≡ [] → walk s.rules [] nothing_held words ≡ w → end_fault s w.held ≡ []
    → level_fault s [] nothing_held words false [] ≡ []
level_free s words w walks ends free =
    subst (λ k. or_else k (end_fault s (walk s.rules [] nothing_held words).held) ≡ []) (sym walks) (subst (λ x. end_fault s x.held ≡ []) (sym ends) free)

abbrev pub path_rows : Text → Text → Text → List Row
path_rows a b c = given (codes "instance") a ∷ given (codes "proof") b ∷ given (codes "restart") c ∷ []

-- after the budget's word
abbrev at_budget : Text → Text → Text → Text → Walk
at_budget a b c d = record {
  held = record { rows = path_rows a b c; pending = Some (codes "budget", d ∷ []); skip = 0 };
  waiting = idle;
  position = 4;
  is_trailing = false;
  stopped = None;
}

-- after the seed's word
abbrev at_seed : Text → Text → Text → Text → Text → Walk
at_seed a b c d e = record {
  held = record { rows = given (codes "instance") a ∷ given (codes "proof") b ∷ given (codes "restart") c ∷ given (codes "budget") d ∷ []; pending = Some (codes "seed", e ∷ []); skip = 0 };
  waiting = idle;
  position = 4;
  is_trailing = false;
  stopped = None;
}

to_budget : (a b c d : Text) (rest : List Text) → IsPlain a → IsPlain b → IsPlain c → IsPlain d
    → fold (walked solve_built.rules []) (walk_from nothing_held) (a ∷ b ∷ c ∷ codes "--budget" ∷ d ∷ rest) ≡ fold (walked solve_built.rules []) (at_budget a b c d) rest
unfolding clap_on_literals
to_budget a b c d rest pa pb pc pd =
    rw (not_dashes a pa, not_long a pa, not_short a pa, not_dashes b pb, not_long b pb, not_short b pb, not_dashes c pc, not_long c pc, not_short c pc, not_dashes d pd, not_long d pd, not_short d pd) refl

free_to_budget : (a b c d : Text) (rest : List Text) → IsPlain a → IsPlain b → IsPlain c → IsPlain d
    → walk_fault solve_built [] (walk_from nothing_held) (a ∷ b ∷ c ∷ codes "--budget" ∷ d ∷ rest) ≡ walk_fault solve_built [] (at_budget a b c d) rest
unfolding clap_on_literals
free_to_budget a b c d rest pa pb pc pd =
    rw (not_dashes a pa, not_long a pa, not_short a pa, not_dashes b pb, not_long b pb, not_short b pb, not_dashes c pc, not_long c pc, not_short c pc, not_dashes d pd, not_long d pd, not_short d pd) refl

to_seed : (a b c d e : Text) → IsPlain e → fold (walked solve_built.rules []) (at_budget a b c d) (codes "--seed" ∷ e ∷ []) ≡ at_seed a b c d e
unfolding clap_on_literals
to_seed a b c d e pe = rw (not_dashes e pe, not_long e pe, not_short e pe) refl

-- the budget is used where the seed's option comes
free_at_seed : (a b c d : Text) → is_unsigned_in 0 most_budget d ≡ true → turn_fault solve_built [] (at_budget a b c d) (codes "--seed") ≡ []
unfolding clap_on_literals
free_at_seed a b c d is = subst (λ (x : Bool). or_else (or_else (cond x [] (kind.ValueValidation ∷ [])) []) [] ≡ []) (sym is) refl

free_from_seed : (a b c d e : Text) → IsPlain e → walk_fault solve_built [] (walked solve_built.rules [] (at_budget a b c d) (codes "--seed")) (e ∷ []) ≡ []
unfolding clap_on_literals
free_from_seed a b c d e pe = rw (not_dashes e pe, not_long e pe, not_short e pe) refl

walk_free : (a b c d e : Text) → is_unsigned_in 0 most_budget d ≡ true → IsPlain e → walk_fault solve_built [] (at_budget a b c d) (codes "--seed" ∷ e ∷ []) ≡ []
unfolding walk_fault
walk_free a b c d e is pe =
    subst (λ k. or_else k (walk_fault solve_built [] (walked solve_built.rules [] (at_budget a b c d) (codes "--seed")) (e ∷ [])) ≡ []) (sym (free_at_seed a b c d is)) (free_from_seed a b c d e pe)

-- the seed is used at the end
end_free : (a b c d e : Text) → is_unsigned_in 0 most_seed e ≡ true → end_fault solve_built (at_seed a b c d e).held ≡ []
unfolding clap_on_literals
end_free a b c d e is = subst (λ (x : Bool). or_else (or_else (cond x [] (kind.ValueValidation ∷ [])) []) [] ≡ []) (sym is) refl

both_level : (a b c d e : Text) → IsPlain a → IsPlain b → IsPlain c → IsPlain d → IsPlain e → is_unsigned_in 0 most_budget d ≡ true → is_unsigned_in 0 most_seed e ≡ true
    → level_fault solve_built [] nothing_held (a ∷ b ∷ c ∷ codes "--budget" ∷ d ∷ codes "--seed" ∷ e ∷ []) false [] ≡ []
both_level a b c d e pa pb pc pd pe is_d is_e =
    level_free solve_built (a ∷ b ∷ c ∷ codes "--budget" ∷ d ∷ codes "--seed" ∷ e ∷ []) (at_seed a b c d e)
    (free_to_budget a b c d (codes "--seed" ∷ e ∷ []) pa pb pc pd ∙ walk_free a b c d e is_d pe)
    (to_budget a b c d (codes "--seed" ∷ e ∷ []) pa pb pc pd ∙ to_seed a b c d e pe)
    (end_free a b c d e is_e)

both_fault_free : (name a b c d e : Text) → IsPlain a → IsPlain b → IsPlain c → IsPlain d → IsPlain e → is_unsigned_in 0 most_budget d ≡ true → is_unsigned_in 0 most_seed e ≡ true
    → IsTaken (name ∷ codes "solve" ∷ a ∷ b ∷ c ∷ codes "--budget" ∷ d ∷ codes "--seed" ∷ e ∷ [])
unfolding clap_on_literals
both_fault_free name a b c d e pa pb pc pd pe is_d is_e = ap (λ k. or_else k []) (both_level a b c d e pa pb pc pd pe is_d is_e)

both_rows_are : (name a b c d e : Text) → IsPlain a → IsPlain b → IsPlain c → IsPlain d → IsPlain e
    → rows_of_words (name ∷ codes "solve" ∷ a ∷ b ∷ c ∷ codes "--budget" ∷ d ∷ codes "--seed" ∷ e ∷ []) ≡ given (codes "instance") a ∷ given (codes "proof") b ∷ given (codes "restart") c ∷ given (codes "budget") d ∷ given (codes "seed") e ∷ default_resume_row ∷ default_gap_row ∷ default_team_rows
unfolding clap_on_literals
both_rows_are name a b c d e pa pb pc pd pe =
    ap (λ w. finished solve_built.rules w.held) (to_budget a b c d (codes "--seed" ∷ e ∷ []) pa pb pc pd ∙ to_seed a b c d e pe)

named_both : (name a b c d e : Text) → command_word (name ∷ codes "solve" ∷ a ∷ b ∷ c ∷ codes "--budget" ∷ d ∷ codes "--seed" ∷ e ∷ []) ≡ codes "solve"
unfolding clap_on_literals
named_both name a b c d e = refl

pub both_taken : BudgetsAndSeedsAreTaken
both_taken name a b c d e pa pb pc fits_d fits_e =
    let pd = number_is_plain 0 most_budget d fits_d in
    let pe = number_is_plain 0 most_seed e fits_e in
    let rows = both_rows_are name a b c d e pa pb pc pd pe in record {
      call = record { taken = both_fault_free name a b c d e pa pb pc pd pe (in_unsigned 0 most_budget d fits_d) (in_unsigned 0 most_seed e fits_e); named = named_both name a b c d e };
      instance_is = rw rows refl;
      proof_is = rw rows refl;
      restart_is = rw rows refl;
      budget_is = rw rows refl;
      seed_is = rw rows refl;
      resume_is = rw rows refl;
      gap_is = rw rows refl;
      grunts_is = rw rows refl;
      lose_is = rw rows refl;
      twice_is = rw rows refl;
      late_is = rw rows refl;
    }
