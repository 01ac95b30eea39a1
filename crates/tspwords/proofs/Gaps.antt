-- `solve` with `--resume`, and with a gap, alone and before a budget. The walk over the words is taken in steps.
use Rattle.std.proofs.Common.{◌≡◌, Bool, true, false, cond, List, [], ◌∷◌, ◌++◌, codes, fold, refl, sym, ap, subst, ◌∙◌, Some, None}
use Rattle.clap.specs.Kinds.{or_else}
use Rattle.clap.specs.Faults.{level_fault, turn_fault, walk_fault}
use Rattle.clap.specs.Walk.{Row, Text, Walk, finished, idle, nothing_held, walk_from, walked}
use Rattle.clap.specs.ValueTests.{is_unsigned_in}
use Rattle.clap.specs.declared.error.kind.ErrorKind.TheVariants as kind
use Rattle.clap.proofs.OnLiterals.{clap_on_literals}
use Rattle.tspwords.specs.Program.{IsTaken, command_word, rows_of_words, most_budget, most_gap}
use Rattle.tspwords.specs.Laws.{IsPlain, ResumeIsTaken, GapsAreTaken, ResumeAndBudgetsAreTaken, GapsAndBudgetsAreTaken}
use Rattle.tspwords.proofs.Numbers.{in_unsigned}
use Rattle.tspwords.proofs.Options.{end_fault, level_free, path_rows}
use Rattle.tspwords.proofs.PlainWords.{given, default_budget_row, default_seed_row, default_resume_row, default_gap_row, default_team_rows, not_dashes, not_long, not_short, number_is_plain}
use Rattle.tspwords.proofs.Taken.{solve_built}

none_left : (w : Walk) → walk_fault solve_built [] w [] ≡ []
unfolding walk_fault
none_left w = refl

-- ---- `--resume`

abbrev resume_rows : Text → Text → Text → List Row
resume_rows a b c = given (codes "instance") a ∷ given (codes "proof") b ∷ given (codes "restart") c ∷ given (codes "resume") (codes "true") ∷ []

-- after the switch, which is used at once
abbrev at_resume : Text → Text → Text → Walk
at_resume a b c = record {
  held = record { rows = resume_rows a b c; pending = None; skip = 0 };
  waiting = idle;
  position = 4;
  is_trailing = false;
  stopped = None;
}

to_resume : (a b c : Text) (rest : List Text) → IsPlain a → IsPlain b → IsPlain c
    → fold (walked solve_built.rules []) (walk_from nothing_held) (a ∷ b ∷ c ∷ codes "--resume" ∷ rest) ≡ fold (walked solve_built.rules []) (at_resume a b c) rest
unfolding clap_on_literals
to_resume a b c rest pa pb pc =
    rw (not_dashes a pa, not_long a pa, not_short a pa, not_dashes b pb, not_long b pb, not_short b pb, not_dashes c pc, not_long c pc, not_short c pc) refl

free_to_resume : (a b c : Text) (rest : List Text) → IsPlain a → IsPlain b → IsPlain c
    → walk_fault solve_built [] (walk_from nothing_held) (a ∷ b ∷ c ∷ codes "--resume" ∷ rest) ≡ walk_fault solve_built [] (at_resume a b c) rest
unfolding clap_on_literals
free_to_resume a b c rest pa pb pc =
    rw (not_dashes a pa, not_long a pa, not_short a pa, not_dashes b pb, not_long b pb, not_short b pb, not_dashes c pc, not_long c pc, not_short c pc) refl

resume_end_free : (a b c : Text) → end_fault solve_built (at_resume a b c).held ≡ []
unfolding clap_on_literals
resume_end_free a b c = refl

resume_level : (a b c : Text) → IsPlain a → IsPlain b → IsPlain c → level_fault solve_built [] nothing_held (a ∷ b ∷ c ∷ codes "--resume" ∷ []) false [] ≡ []
resume_level a b c pa pb pc =
    level_free solve_built (a ∷ b ∷ c ∷ codes "--resume" ∷ []) (at_resume a b c) (free_to_resume a b c [] pa pb pc ∙ none_left (at_resume a b c)) (to_resume a b c [] pa pb pc) (resume_end_free a b c)

resume_fault_free : (name a b c : Text) → IsPlain a → IsPlain b → IsPlain c → IsTaken (name ∷ codes "solve" ∷ a ∷ b ∷ c ∷ codes "--resume" ∷ [])
unfolding clap_on_literals
resume_fault_free name a b c pa pb pc = ap (λ k. or_else k []) (resume_level a b c pa pb pc)

resume_rows_are : (name a b c : Text) → IsPlain a → IsPlain b → IsPlain c
    → rows_of_words (name ∷ codes "solve" ∷ a ∷ b ∷ c ∷ codes "--resume" ∷ []) ≡ resume_rows a b c ++ default_budget_row ∷ default_seed_row ∷ default_gap_row ∷ default_team_rows
unfolding clap_on_literals
resume_rows_are name a b c pa pb pc = ap (λ w. finished solve_built.rules w.held) (to_resume a b c [] pa pb pc)

named_resume : (name a b c : Text) → command_word (name ∷ codes "solve" ∷ a ∷ b ∷ c ∷ codes "--resume" ∷ []) ≡ codes "solve"
unfolding clap_on_literals
named_resume name a b c = refl

pub resume_taken : ResumeIsTaken
resume_taken name a b c pa pb pc =
    let rows = resume_rows_are name a b c pa pb pc in record {
      call = record { taken = resume_fault_free name a b c pa pb pc; named = named_resume name a b c };
      instance_is = rw rows refl;
      proof_is = rw rows refl;
      restart_is = rw rows refl;
      budget_is = rw rows refl;
      seed_is = rw rows refl;
      resume_is = rw rows refl;
      gap_is = rw rows refl;
      grunts_is = rw rows refl;
      lose_is = rw rows refl;
      twice_is = rw rows refl;
      late_is = rw rows refl;
    }

-- ---- `--resume --budget N`

-- after the budget's word
abbrev at_resume_budget : Text → Text → Text → Text → Walk
at_resume_budget a b c d = record {
  held = record { rows = resume_rows a b c; pending = Some (codes "budget", d ∷ []); skip = 0 };
  waiting = idle;
  position = 4;
  is_trailing = false;
  stopped = None;
}

to_resume_budget : (a b c d : Text) → IsPlain d → fold (walked solve_built.rules []) (at_resume a b c) (codes "--budget" ∷ d ∷ []) ≡ at_resume_budget a b c d
unfolding clap_on_literals
to_resume_budget a b c d pd = rw (not_dashes d pd, not_long d pd, not_short d pd) refl

free_from_resume : (a b c d : Text) → IsPlain d → walk_fault solve_built [] (at_resume a b c) (codes "--budget" ∷ d ∷ []) ≡ []
unfolding clap_on_literals
free_from_resume a b c d pd = rw (not_dashes d pd, not_long d pd, not_short d pd) refl

resume_budget_end_free : (a b c d : Text) → is_unsigned_in 0 most_budget d ≡ true → end_fault solve_built (at_resume_budget a b c d).held ≡ []
unfolding clap_on_literals
resume_budget_end_free a b c d is = subst (λ (x : Bool). or_else (or_else (cond x [] (kind.ValueValidation ∷ [])) []) [] ≡ []) (sym is) refl

resume_budget_level : (a b c d : Text) → IsPlain a → IsPlain b → IsPlain c → IsPlain d → is_unsigned_in 0 most_budget d ≡ true
    → level_fault solve_built [] nothing_held (a ∷ b ∷ c ∷ codes "--resume" ∷ codes "--budget" ∷ d ∷ []) false [] ≡ []
resume_budget_level a b c d pa pb pc pd is =
    level_free solve_built (a ∷ b ∷ c ∷ codes "--resume" ∷ codes "--budget" ∷ d ∷ []) (at_resume_budget a b c d)
    (free_to_resume a b c (codes "--budget" ∷ d ∷ []) pa pb pc ∙ free_from_resume a b c d pd)
    (to_resume a b c (codes "--budget" ∷ d ∷ []) pa pb pc ∙ to_resume_budget a b c d pd)
    (resume_budget_end_free a b c d is)

resume_budget_fault_free : (name a b c d : Text) → IsPlain a → IsPlain b → IsPlain c → IsPlain d → is_unsigned_in 0 most_budget d ≡ true
    → IsTaken (name ∷ codes "solve" ∷ a ∷ b ∷ c ∷ codes "--resume" ∷ codes "--budget" ∷ d ∷ [])
unfolding clap_on_literals
resume_budget_fault_free name a b c d pa pb pc pd is = ap (λ k. or_else k []) (resume_budget_level a b c d pa pb pc pd is)

resume_budget_rows_are : (name a b c d : Text) → IsPlain a → IsPlain b → IsPlain c → IsPlain d
    → rows_of_words (name ∷ codes "solve" ∷ a ∷ b ∷ c ∷ codes "--resume" ∷ codes "--budget" ∷ d ∷ []) ≡ resume_rows a b c ++ given (codes "budget") d ∷ default_seed_row ∷ default_gap_row ∷ default_team_rows
unfolding clap_on_literals
resume_budget_rows_are name a b c d pa pb pc pd =
    ap (λ w. finished solve_built.rules w.held) (to_resume a b c (codes "--budget" ∷ d ∷ []) pa pb pc ∙ to_resume_budget a b c d pd)

named_resume_budget : (name a b c d : Text) → command_word (name ∷ codes "solve" ∷ a ∷ b ∷ c ∷ codes "--resume" ∷ codes "--budget" ∷ d ∷ []) ≡ codes "solve"
unfolding clap_on_literals
named_resume_budget name a b c d = refl

pub resume_budgets_taken : ResumeAndBudgetsAreTaken
resume_budgets_taken name a b c d pa pb pc fits =
    let pd = number_is_plain 0 most_budget d fits in
    let rows = resume_budget_rows_are name a b c d pa pb pc pd in record {
      call = record { taken = resume_budget_fault_free name a b c d pa pb pc pd (in_unsigned 0 most_budget d fits); named = named_resume_budget name a b c d };
      instance_is = rw rows refl;
      proof_is = rw rows refl;
      restart_is = rw rows refl;
      budget_is = rw rows refl;
      seed_is = rw rows refl;
      resume_is = rw rows refl;
      gap_is = rw rows refl;
      grunts_is = rw rows refl;
      lose_is = rw rows refl;
      twice_is = rw rows refl;
      late_is = rw rows refl;
    }

-- ---- `--gap G`

-- after the gap's word
abbrev at_gap : Text → Text → Text → Text → Walk
at_gap a b c d = record {
  held = record { rows = path_rows a b c; pending = Some (codes "gap", d ∷ []); skip = 0 };
  waiting = idle;
  position = 4;
  is_trailing = false;
  stopped = None;
}

to_gap : (a b c d : Text) (rest : List Text) → IsPlain a → IsPlain b → IsPlain c → IsPlain d
    → fold (walked solve_built.rules []) (walk_from nothing_held) (a ∷ b ∷ c ∷ codes "--gap" ∷ d ∷ rest) ≡ fold (walked solve_built.rules []) (at_gap a b c d) rest
unfolding clap_on_literals
to_gap a b c d rest pa pb pc pd =
    rw (not_dashes a pa, not_long a pa, not_short a pa, not_dashes b pb, not_long b pb, not_short b pb, not_dashes c pc, not_long c pc, not_short c pc, not_dashes d pd, not_long d pd, not_short d pd) refl

free_to_gap : (a b c d : Text) (rest : List Text) → IsPlain a → IsPlain b → IsPlain c → IsPlain d
    → walk_fault solve_built [] (walk_from nothing_held) (a ∷ b ∷ c ∷ codes "--gap" ∷ d ∷ rest) ≡ walk_fault solve_built [] (at_gap a b c d) rest
unfolding clap_on_literals
free_to_gap a b c d rest pa pb pc pd =
    rw (not_dashes a pa, not_long a pa, not_short a pa, not_dashes b pb, not_long b pb, not_short b pb, not_dashes c pc, not_long c pc, not_short c pc, not_dashes d pd, not_long d pd, not_short d pd) refl

gap_end_free : (a b c d : Text) → is_unsigned_in 0 most_gap d ≡ true → end_fault solve_built (at_gap a b c d).held ≡ []
unfolding clap_on_literals
gap_end_free a b c d is = subst (λ (x : Bool). or_else (or_else (cond x [] (kind.ValueValidation ∷ [])) []) [] ≡ []) (sym is) refl

gap_level : (a b c d : Text) → IsPlain a → IsPlain b → IsPlain c → IsPlain d → is_unsigned_in 0 most_gap d ≡ true → level_fault solve_built [] nothing_held (a ∷ b ∷ c ∷ codes "--gap" ∷ d ∷ []) false [] ≡ []
gap_level a b c d pa pb pc pd is =
    level_free solve_built (a ∷ b ∷ c ∷ codes "--gap" ∷ d ∷ []) (at_gap a b c d) (free_to_gap a b c d [] pa pb pc pd ∙ none_left (at_gap a b c d)) (to_gap a b c d [] pa pb pc pd) (gap_end_free a b c d is)

gap_fault_free : (name a b c d : Text) → IsPlain a → IsPlain b → IsPlain c → IsPlain d → is_unsigned_in 0 most_gap d ≡ true
    → IsTaken (name ∷ codes "solve" ∷ a ∷ b ∷ c ∷ codes "--gap" ∷ d ∷ [])
unfolding clap_on_literals
gap_fault_free name a b c d pa pb pc pd is = ap (λ k. or_else k []) (gap_level a b c d pa pb pc pd is)

gap_rows_are : (name a b c d : Text) → IsPlain a → IsPlain b → IsPlain c → IsPlain d
    → rows_of_words (name ∷ codes "solve" ∷ a ∷ b ∷ c ∷ codes "--gap" ∷ d ∷ []) ≡ path_rows a b c ++ given (codes "gap") d ∷ default_budget_row ∷ default_seed_row ∷ default_resume_row ∷ default_team_rows
unfolding clap_on_literals
gap_rows_are name a b c d pa pb pc pd = ap (λ w. finished solve_built.rules w.held) (to_gap a b c d [] pa pb pc pd)

named_gap : (name a b c d : Text) → command_word (name ∷ codes "solve" ∷ a ∷ b ∷ c ∷ codes "--gap" ∷ d ∷ []) ≡ codes "solve"
unfolding clap_on_literals
named_gap name a b c d = refl

pub gaps_taken : GapsAreTaken
gaps_taken name a b c d pa pb pc fits =
    let pd = number_is_plain 0 most_gap d fits in
    let rows = gap_rows_are name a b c d pa pb pc pd in record {
      call = record { taken = gap_fault_free name a b c d pa pb pc pd (in_unsigned 0 most_gap d fits); named = named_gap name a b c d };
      instance_is = rw rows refl;
      proof_is = rw rows refl;
      restart_is = rw rows refl;
      budget_is = rw rows refl;
      seed_is = rw rows refl;
      resume_is = rw rows refl;
      gap_is = rw rows refl;
      grunts_is = rw rows refl;
      lose_is = rw rows refl;
      twice_is = rw rows refl;
      late_is = rw rows refl;
    }

-- ---- `--gap G --budget N`

-- after the budget's word
abbrev at_budget : Text → Text → Text → Text → Text → Walk
at_budget a b c d e = record {
  held = record { rows = path_rows a b c ++ given (codes "gap") d ∷ []; pending = Some (codes "budget", e ∷ []); skip = 0 };
  waiting = idle;
  position = 4;
  is_trailing = false;
  stopped = None;
}

to_budget : (a b c d e : Text) → IsPlain e → fold (walked solve_built.rules []) (at_gap a b c d) (codes "--budget" ∷ e ∷ []) ≡ at_budget a b c d e
unfolding clap_on_literals
to_budget a b c d e pe = rw (not_dashes e pe, not_long e pe, not_short e pe) refl

-- the gap is used where the budget's option comes
free_at_budget : (a b c d : Text) → is_unsigned_in 0 most_gap d ≡ true → turn_fault solve_built [] (at_gap a b c d) (codes "--budget") ≡ []
unfolding clap_on_literals
free_at_budget a b c d is = subst (λ (x : Bool). or_else (or_else (cond x [] (kind.ValueValidation ∷ [])) []) [] ≡ []) (sym is) refl

free_from_budget : (a b c d e : Text) → IsPlain e → walk_fault solve_built [] (walked solve_built.rules [] (at_gap a b c d) (codes "--budget")) (e ∷ []) ≡ []
unfolding clap_on_literals
free_from_budget a b c d e pe = rw (not_dashes e pe, not_long e pe, not_short e pe) refl

walk_free : (a b c d e : Text) → is_unsigned_in 0 most_gap d ≡ true → IsPlain e → walk_fault solve_built [] (at_gap a b c d) (codes "--budget" ∷ e ∷ []) ≡ []
unfolding walk_fault
walk_free a b c d e is pe =
    subst (λ k. or_else k (walk_fault solve_built [] (walked solve_built.rules [] (at_gap a b c d) (codes "--budget")) (e ∷ [])) ≡ []) (sym (free_at_budget a b c d is)) (free_from_budget a b c d e pe)

-- the budget is used at the end
end_free : (a b c d e : Text) → is_unsigned_in 0 most_budget e ≡ true → end_fault solve_built (at_budget a b c d e).held ≡ []
unfolding clap_on_literals
end_free a b c d e is = subst (λ (x : Bool). or_else (or_else (cond x [] (kind.ValueValidation ∷ [])) []) [] ≡ []) (sym is) refl

gap_budget_level : (a b c d e : Text) → IsPlain a → IsPlain b → IsPlain c → IsPlain d → IsPlain e → is_unsigned_in 0 most_gap d ≡ true → is_unsigned_in 0 most_budget e ≡ true
    → level_fault solve_built [] nothing_held (a ∷ b ∷ c ∷ codes "--gap" ∷ d ∷ codes "--budget" ∷ e ∷ []) false [] ≡ []
gap_budget_level a b c d e pa pb pc pd pe is_d is_e =
    level_free solve_built (a ∷ b ∷ c ∷ codes "--gap" ∷ d ∷ codes "--budget" ∷ e ∷ []) (at_budget a b c d e)
    (free_to_gap a b c d (codes "--budget" ∷ e ∷ []) pa pb pc pd ∙ walk_free a b c d e is_d pe)
    (to_gap a b c d (codes "--budget" ∷ e ∷ []) pa pb pc pd ∙ to_budget a b c d e pe)
    (end_free a b c d e is_e)

gap_budget_fault_free : (name a b c d e : Text) → IsPlain a → IsPlain b → IsPlain c → IsPlain d → IsPlain e → is_unsigned_in 0 most_gap d ≡ true → is_unsigned_in 0 most_budget e ≡ true
    → IsTaken (name ∷ codes "solve" ∷ a ∷ b ∷ c ∷ codes "--gap" ∷ d ∷ codes "--budget" ∷ e ∷ [])
unfolding clap_on_literals
gap_budget_fault_free name a b c d e pa pb pc pd pe is_d is_e = ap (λ k. or_else k []) (gap_budget_level a b c d e pa pb pc pd pe is_d is_e)

gap_budget_rows_are : (name a b c d e : Text) → IsPlain a → IsPlain b → IsPlain c → IsPlain d → IsPlain e
    → rows_of_words (name ∷ codes "solve" ∷ a ∷ b ∷ c ∷ codes "--gap" ∷ d ∷ codes "--budget" ∷ e ∷ []) ≡ path_rows a b c ++ given (codes "gap") d ∷ given (codes "budget") e ∷ default_seed_row ∷ default_resume_row ∷ default_team_rows
unfolding clap_on_literals
gap_budget_rows_are name a b c d e pa pb pc pd pe =
    ap (λ w. finished solve_built.rules w.held) (to_gap a b c d (codes "--budget" ∷ e ∷ []) pa pb pc pd ∙ to_budget a b c d e pe)

named_gap_budget : (name a b c d e : Text) → command_word (name ∷ codes "solve" ∷ a ∷ b ∷ c ∷ codes "--gap" ∷ d ∷ codes "--budget" ∷ e ∷ []) ≡ codes "solve"
unfolding clap_on_literals
named_gap_budget name a b c d e = refl

pub gaps_budgets_taken : GapsAndBudgetsAreTaken
gaps_budgets_taken name a b c d e pa pb pc fits_d fits_e =
    let pd = number_is_plain 0 most_gap d fits_d in
    let pe = number_is_plain 0 most_budget e fits_e in
    let rows = gap_budget_rows_are name a b c d e pa pb pc pd pe in record {
      call = record { taken = gap_budget_fault_free name a b c d e pa pb pc pd pe (in_unsigned 0 most_gap d fits_d) (in_unsigned 0 most_budget e fits_e); named = named_gap_budget name a b c d e };
      instance_is = rw rows refl;
      proof_is = rw rows refl;
      restart_is = rw rows refl;
      budget_is = rw rows refl;
      seed_is = rw rows refl;
      resume_is = rw rows refl;
      gap_is = rw rows refl;
      grunts_is = rw rows refl;
      lose_is = rw rows refl;
      twice_is = rw rows refl;
      late_is = rw rows refl;
    }
