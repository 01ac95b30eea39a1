-- Words that do not begin with a hyphen are values.
use Rattle.std.proofs.Common.{◌≡◌, ℕ, Bool, true, false, cond, List, [], ◌∷◌, codes, refl, sym, ap, subst, Some, None, arith}
use Rattle.std.proofs.lemmas.Bool.{ne_eqb}
use Rattle.std.proofs.lemmas.Str.Parse.{digit_from_value, without_leading_plus_none}
use Rattle.std.specs.Str.{bytes_eq}
use Rattle.std.specs.Str.Parse.{IsNumeral, without_leading_plus}
use Rattle.clap.specs.Lexer.{strip_byte, long_of, short_of}
use Rattle.clap.specs.Walk.{Held, Row, Rule, Text, idle, value, word_met}
use Rattle.clap.specs.Kinds.{or_else}
use Rattle.clap.specs.declared.error.kind.ErrorKind.TheVariants as kind
use Rattle.clap.proofs.OnLiterals.{clap_on_literals}
use Rattle.clap.specs.declared.parser.matches.ValueSource.TheVariants.{DefaultValue, CommandLine}
use Rattle.clap.specs.declared.builder.value_parser.Reading.TheVariants as reading
use Rattle.clap.specs.Values.{IsUnsignedIn}
use Rattle.clap.specs.ValueTests.{is_unsigned_in}
use Rattle.clap.specs.Simple.{matches_of}
use Rattle.tspwords.specs.Program.{IsTaken, IsVerifierCall, command_word, rows_of_words, most_budget, most_seed, verifier}
use Rattle.tspwords.specs.Laws.{IsPlain, PathsAreTaken, BudgetsAreTaken, SeedsAreTaken, VerifyIsTaken, TourIsTaken, TourSeedsAreTaken, VerifierIsTaken}
use Rattle.tspwords.proofs.Numbers.{in_unsigned}

no_hyphen : (word : Text) → IsPlain word → strip_byte 45 word ≡ None
no_hyphen [] plain = refl
no_hyphen (x ∷ xs) plain = ap (λ b. cond b (Some xs) None) (ne_eqb x 45 plain)

pub not_long : (word : Text) → IsPlain word → long_of word ≡ None
not_long word plain = rw (no_hyphen word plain) refl

pub not_short : (word : Text) → IsPlain word → short_of word ≡ None
not_short word plain = rw (no_hyphen word plain) refl

pub not_dashes : (word : Text) → IsPlain word → bytes_eq word (45 ∷ 45 ∷ []) ≡ false
not_dashes [] plain = refl
not_dashes (x ∷ xs) plain = rw (ne_eqb x 45 plain) refl

-- the rows that are found
abbrev pub given : Text → Text → Row
given id word = record { id = id; values = word ∷ []; count = None; source = Some CommandLine; reading = reading.AsWritten }

abbrev pub filled : Text → Text → Row
filled id word = record { id = id; values = word ∷ []; count = None; source = Some DefaultValue; reading = reading.AsWritten }

abbrev pub default_budget_row : Row
default_budget_row = filled (codes "budget") (codes "65536")

abbrev pub default_seed_row : Row
default_seed_row = filled (codes "seed") (codes "1")

abbrev pub default_resume_row : Row
default_resume_row = filled (codes "resume") (codes "false")

abbrev pub default_gap_row : Row
default_gap_row = filled (codes "gap") (codes "0")

abbrev pub default_grunts_row : Row
default_grunts_row = filled (codes "grunts") (codes "4")

abbrev pub default_lose_row : Row
default_lose_row = filled (codes "lose") (codes "0")

abbrev pub default_twice_row : Row
default_twice_row = filled (codes "twice") (codes "false")

abbrev pub default_late_row : Row
default_late_row = filled (codes "late") (codes "false")

-- the rows of the options that have to do with grunts
abbrev pub default_team_rows : List Row
default_team_rows = default_grunts_row ∷ default_lose_row ∷ default_twice_row ∷ default_late_row ∷ []

pub met_plain : (c : List Rule) (position : ℕ) (word : Text) (h : Held) → IsPlain word → word_met c [] false idle position word h ≡ (h, value)
met_plain c position word h plain = rw (not_dashes word plain, not_long word plain, not_short word plain) refl

-- what is found for the paths, and for a budget
fault_free : (name a b c : Text) → IsPlain a → IsPlain b → IsPlain c → IsTaken (name ∷ codes "solve" ∷ a ∷ b ∷ c ∷ [])
unfolding clap_on_literals
fault_free name a b c pa pb pc =
    rw (not_dashes a pa, not_long a pa, not_short a pa, not_dashes b pb, not_long b pb, not_short b pb, not_dashes c pc, not_long c pc, not_short c pc) refl

rows_are : (name a b c : Text) → IsPlain a → IsPlain b → IsPlain c
    → rows_of_words (name ∷ codes "solve" ∷ a ∷ b ∷ c ∷ []) ≡ given (codes "instance") a ∷ given (codes "proof") b ∷ given (codes "restart") c ∷ default_budget_row ∷ default_seed_row ∷ default_resume_row ∷ default_gap_row ∷ default_team_rows
unfolding clap_on_literals
rows_are name a b c pa pb pc =
    rw (not_dashes a pa, not_long a pa, not_short a pa, not_dashes b pb, not_long b pb, not_short b pb, not_dashes c pc, not_long c pc, not_short c pc) refl

named_solve : (name a b c : Text) → command_word (name ∷ codes "solve" ∷ a ∷ b ∷ c ∷ []) ≡ codes "solve"
unfolding clap_on_literals
named_solve name a b c = refl

pub paths_taken : PathsAreTaken
paths_taken name a b c pa pb pc =
    let rows = rows_are name a b c pa pb pc in record {
      call = record { taken = fault_free name a b c pa pb pc; named = named_solve name a b c };
      instance_is = rw rows refl;
      proof_is = rw rows refl;
      restart_is = rw rows refl;
      budget_is = rw rows refl;
      seed_is = rw rows refl;
      resume_is = rw rows refl;
      gap_is = rw rows refl;
      grunts_is = rw rows refl;
      lose_is = rw rows refl;
      twice_is = rw rows refl;
      late_is = rw rows refl;
    }

-- a number does not begin with a hyphen
pub number_is_plain : (least most : ℕ) (word : Text) → IsUnsignedIn least most word → IsPlain word
number_is_plain least most [] h e = absurd (omega arith)
number_is_plain least most (x ∷ xs) h e =
    let same : without_leading_plus (x ∷ xs) ≡ x ∷ xs = without_leading_plus_none (x ∷ xs) (λ p. absurd (omega arith)) in
    let numeral : IsNumeral 10 (x ∷ xs) = subst (IsNumeral 10) same h.0 in
    absurd (omega (arith, digit_from_value x numeral.1.0))

budget_fault_free : (name a b c d : Text) → IsPlain a → IsPlain b → IsPlain c → IsPlain d → is_unsigned_in 0 most_budget d ≡ true
    → IsTaken (name ∷ codes "solve" ∷ a ∷ b ∷ c ∷ codes "--budget" ∷ d ∷ [])
unfolding clap_on_literals
budget_fault_free name a b c d pa pb pc pd is =
    rw (not_dashes a pa, not_long a pa, not_short a pa, not_dashes b pb, not_long b pb, not_short b pb, not_dashes c pc, not_long c pc, not_short c pc, not_dashes d pd, not_long d pd, not_short d pd)
    (subst (λ (b : Bool). or_else (or_else (or_else (cond b [] (kind.ValueValidation ∷ [])) []) []) [] ≡ []) (sym is) refl)

budget_rows_are : (name a b c d : Text) → IsPlain a → IsPlain b → IsPlain c → IsPlain d
    → rows_of_words (name ∷ codes "solve" ∷ a ∷ b ∷ c ∷ codes "--budget" ∷ d ∷ []) ≡ given (codes "instance") a ∷ given (codes "proof") b ∷ given (codes "restart") c ∷ given (codes "budget") d ∷ default_seed_row ∷ default_resume_row ∷ default_gap_row ∷ default_team_rows
unfolding clap_on_literals
budget_rows_are name a b c d pa pb pc pd =
    rw (not_dashes a pa, not_long a pa, not_short a pa, not_dashes b pb, not_long b pb, not_short b pb, not_dashes c pc, not_long c pc, not_short c pc, not_dashes d pd, not_long d pd, not_short d pd) refl

named_budget : (name a b c d : Text) → command_word (name ∷ codes "solve" ∷ a ∷ b ∷ c ∷ codes "--budget" ∷ d ∷ []) ≡ codes "solve"
unfolding clap_on_literals
named_budget name a b c d = refl

pub budgets_taken : BudgetsAreTaken
budgets_taken name a b c d pa pb pc fits =
    let pd = number_is_plain 0 most_budget d fits in
    let is = in_unsigned 0 most_budget d fits in
    let rows = budget_rows_are name a b c d pa pb pc pd in record {
      call = record { taken = budget_fault_free name a b c d pa pb pc pd is; named = named_budget name a b c d };
      instance_is = rw rows refl;
      proof_is = rw rows refl;
      restart_is = rw rows refl;
      budget_is = rw rows refl;
      seed_is = rw rows refl;
      resume_is = rw rows refl;
      gap_is = rw rows refl;
      grunts_is = rw rows refl;
      lose_is = rw rows refl;
      twice_is = rw rows refl;
      late_is = rw rows refl;
    }

-- `--seed S`
seed_fault_free : (name a b c d : Text) → IsPlain a → IsPlain b → IsPlain c → IsPlain d → is_unsigned_in 0 most_seed d ≡ true
    → IsTaken (name ∷ codes "solve" ∷ a ∷ b ∷ c ∷ codes "--seed" ∷ d ∷ [])
unfolding clap_on_literals
seed_fault_free name a b c d pa pb pc pd is =
    rw (not_dashes a pa, not_long a pa, not_short a pa, not_dashes b pb, not_long b pb, not_short b pb, not_dashes c pc, not_long c pc, not_short c pc, not_dashes d pd, not_long d pd, not_short d pd)
    (subst (λ (b : Bool). or_else (or_else (or_else (cond b [] (kind.ValueValidation ∷ [])) []) []) [] ≡ []) (sym is) refl)

seed_rows_are : (name a b c d : Text) → IsPlain a → IsPlain b → IsPlain c → IsPlain d
    → rows_of_words (name ∷ codes "solve" ∷ a ∷ b ∷ c ∷ codes "--seed" ∷ d ∷ []) ≡ given (codes "instance") a ∷ given (codes "proof") b ∷ given (codes "restart") c ∷ given (codes "seed") d ∷ default_budget_row ∷ default_resume_row ∷ default_gap_row ∷ default_team_rows
unfolding clap_on_literals
seed_rows_are name a b c d pa pb pc pd =
    rw (not_dashes a pa, not_long a pa, not_short a pa, not_dashes b pb, not_long b pb, not_short b pb, not_dashes c pc, not_long c pc, not_short c pc, not_dashes d pd, not_long d pd, not_short d pd) refl

named_seed : (name a b c d : Text) → command_word (name ∷ codes "solve" ∷ a ∷ b ∷ c ∷ codes "--seed" ∷ d ∷ []) ≡ codes "solve"
unfolding clap_on_literals
named_seed name a b c d = refl

pub seeds_taken : SeedsAreTaken
seeds_taken name a b c d pa pb pc fits =
    let pd = number_is_plain 0 most_seed d fits in
    let is = in_unsigned 0 most_seed d fits in
    let rows = seed_rows_are name a b c d pa pb pc pd in record {
      call = record { taken = seed_fault_free name a b c d pa pb pc pd is; named = named_seed name a b c d };
      instance_is = rw rows refl;
      proof_is = rw rows refl;
      restart_is = rw rows refl;
      budget_is = rw rows refl;
      seed_is = rw rows refl;
      resume_is = rw rows refl;
      gap_is = rw rows refl;
      grunts_is = rw rows refl;
      lose_is = rw rows refl;
      twice_is = rw rows refl;
      late_is = rw rows refl;
    }

-- ---- `tour`

tour_fault_free : (name a : Text) → IsPlain a → IsTaken (name ∷ codes "tour" ∷ a ∷ [])
unfolding clap_on_literals
tour_fault_free name a pa = rw (not_dashes a pa, not_long a pa, not_short a pa) refl

tour_rows_are : (name a : Text) → IsPlain a → rows_of_words (name ∷ codes "tour" ∷ a ∷ []) ≡ given (codes "instance") a ∷ default_seed_row ∷ []
unfolding clap_on_literals
tour_rows_are name a pa = rw (not_dashes a pa, not_long a pa, not_short a pa) refl

named_tour : (name a : Text) → command_word (name ∷ codes "tour" ∷ a ∷ []) ≡ codes "tour"
unfolding clap_on_literals
named_tour name a = refl

pub tour_taken : TourIsTaken
tour_taken name a pa =
    let rows = tour_rows_are name a pa in record {
      call = record { taken = tour_fault_free name a pa; named = named_tour name a };
      instance_is = rw rows refl;
      seed_is = rw rows refl;
    }

tour_seed_fault_free : (name a d : Text) → IsPlain a → IsPlain d → is_unsigned_in 0 most_seed d ≡ true → IsTaken (name ∷ codes "tour" ∷ a ∷ codes "--seed" ∷ d ∷ [])
unfolding clap_on_literals
tour_seed_fault_free name a d pa pd is =
    rw (not_dashes a pa, not_long a pa, not_short a pa, not_dashes d pd, not_long d pd, not_short d pd)
    (subst (λ (b : Bool). or_else (or_else (or_else (cond b [] (kind.ValueValidation ∷ [])) []) []) [] ≡ []) (sym is) refl)

tour_seed_rows_are : (name a d : Text) → IsPlain a → IsPlain d → rows_of_words (name ∷ codes "tour" ∷ a ∷ codes "--seed" ∷ d ∷ []) ≡ given (codes "instance") a ∷ given (codes "seed") d ∷ []
unfolding clap_on_literals
tour_seed_rows_are name a d pa pd = rw (not_dashes a pa, not_long a pa, not_short a pa, not_dashes d pd, not_long d pd, not_short d pd) refl

named_tour_seed : (name a d : Text) → command_word (name ∷ codes "tour" ∷ a ∷ codes "--seed" ∷ d ∷ []) ≡ codes "tour"
unfolding clap_on_literals
named_tour_seed name a d = refl

pub tour_seeds_taken : TourSeedsAreTaken
tour_seeds_taken name a d pa fits =
    let pd = number_is_plain 0 most_seed d fits in
    let rows = tour_seed_rows_are name a d pa pd in record {
      call = record { taken = tour_seed_fault_free name a d pa pd (in_unsigned 0 most_seed d fits); named = named_tour_seed name a d };
      instance_is = rw rows refl;
      seed_is = rw rows refl;
    }

-- ---- `verify` and the verifier

verify_fault_free : (name a b : Text) → IsPlain a → IsPlain b → IsTaken (name ∷ codes "verify" ∷ a ∷ b ∷ [])
unfolding clap_on_literals
verify_fault_free name a b pa pb = rw (not_dashes a pa, not_long a pa, not_short a pa, not_dashes b pb, not_long b pb, not_short b pb) refl

verify_rows_are : (name a b : Text) → IsPlain a → IsPlain b → rows_of_words (name ∷ codes "verify" ∷ a ∷ b ∷ []) ≡ given (codes "instance") a ∷ given (codes "proof") b ∷ []
unfolding clap_on_literals
verify_rows_are name a b pa pb = rw (not_dashes a pa, not_long a pa, not_short a pa, not_dashes b pb, not_long b pb, not_short b pb) refl

named_verify : (name a b : Text) → command_word (name ∷ codes "verify" ∷ a ∷ b ∷ []) ≡ codes "verify"
unfolding clap_on_literals
named_verify name a b = refl

pub verify_taken : VerifyIsTaken
verify_taken name a b pa pb =
    let rows = verify_rows_are name a b pa pb in record {
      call = record { taken = verify_fault_free name a b pa pb; named = named_verify name a b };
      instance_is = rw rows refl;
      proof_is = rw rows refl;
    }

verifier_fault_free : (name a b : Text) → IsPlain a → IsPlain b → IsVerifierCall (name ∷ a ∷ b ∷ [])
unfolding clap_on_literals
verifier_fault_free name a b pa pb = rw (not_dashes a pa, not_long a pa, not_short a pa, not_dashes b pb, not_long b pb, not_short b pb) refl

verifier_rows_are : (name a b : Text) → IsPlain a → IsPlain b → matches_of verifier (name ∷ a ∷ b ∷ []) ≡ given (codes "instance") a ∷ given (codes "proof") b ∷ []
unfolding clap_on_literals
verifier_rows_are name a b pa pb = rw (not_dashes a pa, not_long a pa, not_short a pa, not_dashes b pb, not_long b pb, not_short b pb) refl

pub verifier_words_taken : VerifierIsTaken
verifier_words_taken name a b pa pb =
    let rows = verifier_rows_are name a b pa pb in record {
      call = verifier_fault_free name a b pa pb;
      instance_is = rw rows refl;
      proof_is = rw rows refl;
    }
