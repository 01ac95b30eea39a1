-- `replay`, `bound` and `checkbound`.
use Rattle.std.proofs.Common.{◌≡◌, Bool, true, cond, [], ◌∷◌, codes, refl, sym, subst}
use Rattle.clap.specs.Kinds.{or_else}
use Rattle.clap.specs.Walk.{Row, Text}
use Rattle.clap.specs.ValueTests.{is_unsigned_in}
use Rattle.clap.specs.declared.error.kind.ErrorKind.TheVariants as kind
use Rattle.clap.proofs.OnLiterals.{clap_on_literals}
use Rattle.tspwords.proofs.Numbers.{in_unsigned}
use Rattle.tspwords.specs.Program.{IsTaken, command_word, rows_of_words, most_budget, least_grunts, most_grunts, most_steps}
use Rattle.tspwords.specs.Laws.{IsPlain, ReplayIsTaken, ReplayBudgetsAreTaken, ReplayGruntsAreTaken, BoundIsTaken, StepsAreTaken, CheckboundIsTaken}
use Rattle.tspwords.proofs.PlainWords.{given, filled, default_budget_row, default_grunts_row, not_dashes, not_long, not_short, number_is_plain}

abbrev default_steps_row : Row
default_steps_row = filled (codes "steps") (codes "100")

-- ---- `replay`

replay_fault_free : (name a b : Text) → IsPlain a → IsPlain b → IsTaken (name ∷ codes "replay" ∷ a ∷ b ∷ [])
unfolding clap_on_literals
replay_fault_free name a b pa pb = rw (not_dashes a pa, not_long a pa, not_short a pa, not_dashes b pb, not_long b pb, not_short b pb) refl

replay_rows_are : (name a b : Text) → IsPlain a → IsPlain b → rows_of_words (name ∷ codes "replay" ∷ a ∷ b ∷ []) ≡ given (codes "instance") a ∷ given (codes "tape") b ∷ default_budget_row ∷ default_grunts_row ∷ []
unfolding clap_on_literals
replay_rows_are name a b pa pb = rw (not_dashes a pa, not_long a pa, not_short a pa, not_dashes b pb, not_long b pb, not_short b pb) refl

named_replay : (name a b : Text) → command_word (name ∷ codes "replay" ∷ a ∷ b ∷ []) ≡ codes "replay"
unfolding clap_on_literals
named_replay name a b = refl

pub replay_taken : ReplayIsTaken
replay_taken name a b pa pb =
    let rows = replay_rows_are name a b pa pb in record {
      call = record { taken = replay_fault_free name a b pa pb; named = named_replay name a b };
      instance_is = rw rows refl;
      tape_is = rw rows refl;
      budget_is = rw rows refl;
      grunts_is = rw rows refl;
    }

-- `replay` with `--budget`

replay_budget_fault_free : (name a b d : Text) → IsPlain a → IsPlain b → IsPlain d → is_unsigned_in 0 most_budget d ≡ true → IsTaken (name ∷ codes "replay" ∷ a ∷ b ∷ codes "--budget" ∷ d ∷ [])
unfolding clap_on_literals
replay_budget_fault_free name a b d pa pb pd is =
    rw (not_dashes a pa, not_long a pa, not_short a pa, not_dashes b pb, not_long b pb, not_short b pb, not_dashes d pd, not_long d pd, not_short d pd)
    (subst (λ (b : Bool). or_else (or_else (or_else (cond b [] (kind.ValueValidation ∷ [])) []) []) [] ≡ []) (sym is) refl)

replay_budget_rows_are : (name a b d : Text) → IsPlain a → IsPlain b → IsPlain d → rows_of_words (name ∷ codes "replay" ∷ a ∷ b ∷ codes "--budget" ∷ d ∷ []) ≡ given (codes "instance") a ∷ given (codes "tape") b ∷ given (codes "budget") d ∷ default_grunts_row ∷ []
unfolding clap_on_literals
replay_budget_rows_are name a b d pa pb pd = rw (not_dashes a pa, not_long a pa, not_short a pa, not_dashes b pb, not_long b pb, not_short b pb, not_dashes d pd, not_long d pd, not_short d pd) refl

named_replay_budget : (name a b d : Text) → command_word (name ∷ codes "replay" ∷ a ∷ b ∷ codes "--budget" ∷ d ∷ []) ≡ codes "replay"
unfolding clap_on_literals
named_replay_budget name a b d = refl

pub replay_budget_taken : ReplayBudgetsAreTaken
replay_budget_taken name a b d pa pb fits =
    let pd = number_is_plain 0 most_budget d fits in
    let rows = replay_budget_rows_are name a b d pa pb pd in record {
      call = record { taken = replay_budget_fault_free name a b d pa pb pd (in_unsigned 0 most_budget d fits); named = named_replay_budget name a b d };
      instance_is = rw rows refl;
      tape_is = rw rows refl;
      budget_is = rw rows refl;
      grunts_is = rw rows refl;
    }

-- `replay` with `--grunts`

replay_grunts_fault_free : (name a b d : Text) → IsPlain a → IsPlain b → IsPlain d → is_unsigned_in least_grunts most_grunts d ≡ true → IsTaken (name ∷ codes "replay" ∷ a ∷ b ∷ codes "--grunts" ∷ d ∷ [])
unfolding clap_on_literals
replay_grunts_fault_free name a b d pa pb pd is =
    rw (not_dashes a pa, not_long a pa, not_short a pa, not_dashes b pb, not_long b pb, not_short b pb, not_dashes d pd, not_long d pd, not_short d pd)
    (subst (λ (b : Bool). or_else (or_else (or_else (cond b [] (kind.ValueValidation ∷ [])) []) []) [] ≡ []) (sym is) refl)

replay_grunts_rows_are : (name a b d : Text) → IsPlain a → IsPlain b → IsPlain d → rows_of_words (name ∷ codes "replay" ∷ a ∷ b ∷ codes "--grunts" ∷ d ∷ []) ≡ given (codes "instance") a ∷ given (codes "tape") b ∷ given (codes "grunts") d ∷ default_budget_row ∷ []
unfolding clap_on_literals
replay_grunts_rows_are name a b d pa pb pd = rw (not_dashes a pa, not_long a pa, not_short a pa, not_dashes b pb, not_long b pb, not_short b pb, not_dashes d pd, not_long d pd, not_short d pd) refl

named_replay_grunts : (name a b d : Text) → command_word (name ∷ codes "replay" ∷ a ∷ b ∷ codes "--grunts" ∷ d ∷ []) ≡ codes "replay"
unfolding clap_on_literals
named_replay_grunts name a b d = refl

pub replay_grunts_taken : ReplayGruntsAreTaken
replay_grunts_taken name a b d pa pb fits =
    let pd = number_is_plain least_grunts most_grunts d fits in
    let rows = replay_grunts_rows_are name a b d pa pb pd in record {
      call = record { taken = replay_grunts_fault_free name a b d pa pb pd (in_unsigned least_grunts most_grunts d fits); named = named_replay_grunts name a b d };
      instance_is = rw rows refl;
      tape_is = rw rows refl;
      budget_is = rw rows refl;
      grunts_is = rw rows refl;
    }

-- ---- `bound`

bound_fault_free : (name a b : Text) → IsPlain a → IsPlain b → IsTaken (name ∷ codes "bound" ∷ a ∷ b ∷ [])
unfolding clap_on_literals
bound_fault_free name a b pa pb = rw (not_dashes a pa, not_long a pa, not_short a pa, not_dashes b pb, not_long b pb, not_short b pb) refl

bound_rows_are : (name a b : Text) → IsPlain a → IsPlain b → rows_of_words (name ∷ codes "bound" ∷ a ∷ b ∷ []) ≡ given (codes "instance") a ∷ given (codes "cert") b ∷ default_steps_row ∷ []
unfolding clap_on_literals
bound_rows_are name a b pa pb = rw (not_dashes a pa, not_long a pa, not_short a pa, not_dashes b pb, not_long b pb, not_short b pb) refl

named_bound : (name a b : Text) → command_word (name ∷ codes "bound" ∷ a ∷ b ∷ []) ≡ codes "bound"
unfolding clap_on_literals
named_bound name a b = refl

pub bound_taken : BoundIsTaken
bound_taken name a b pa pb =
    let rows = bound_rows_are name a b pa pb in record {
      call = record { taken = bound_fault_free name a b pa pb; named = named_bound name a b };
      instance_is = rw rows refl;
      cert_is = rw rows refl;
      steps_is = rw rows refl;
    }

-- `bound` with `--steps`

steps_fault_free : (name a b d : Text) → IsPlain a → IsPlain b → IsPlain d → is_unsigned_in 0 most_steps d ≡ true → IsTaken (name ∷ codes "bound" ∷ a ∷ b ∷ codes "--steps" ∷ d ∷ [])
unfolding clap_on_literals
steps_fault_free name a b d pa pb pd is =
    rw (not_dashes a pa, not_long a pa, not_short a pa, not_dashes b pb, not_long b pb, not_short b pb, not_dashes d pd, not_long d pd, not_short d pd)
    (subst (λ (b : Bool). or_else (or_else (or_else (cond b [] (kind.ValueValidation ∷ [])) []) []) [] ≡ []) (sym is) refl)

steps_rows_are : (name a b d : Text) → IsPlain a → IsPlain b → IsPlain d → rows_of_words (name ∷ codes "bound" ∷ a ∷ b ∷ codes "--steps" ∷ d ∷ []) ≡ given (codes "instance") a ∷ given (codes "cert") b ∷ given (codes "steps") d ∷ []
unfolding clap_on_literals
steps_rows_are name a b d pa pb pd = rw (not_dashes a pa, not_long a pa, not_short a pa, not_dashes b pb, not_long b pb, not_short b pb, not_dashes d pd, not_long d pd, not_short d pd) refl

named_steps : (name a b d : Text) → command_word (name ∷ codes "bound" ∷ a ∷ b ∷ codes "--steps" ∷ d ∷ []) ≡ codes "bound"
unfolding clap_on_literals
named_steps name a b d = refl

pub steps_taken : StepsAreTaken
steps_taken name a b d pa pb fits =
    let pd = number_is_plain 0 most_steps d fits in
    let rows = steps_rows_are name a b d pa pb pd in record {
      call = record { taken = steps_fault_free name a b d pa pb pd (in_unsigned 0 most_steps d fits); named = named_steps name a b d };
      instance_is = rw rows refl;
      cert_is = rw rows refl;
      steps_is = rw rows refl;
    }

-- ---- `checkbound`

checkbound_fault_free : (name a b : Text) → IsPlain a → IsPlain b → IsTaken (name ∷ codes "checkbound" ∷ a ∷ b ∷ [])
unfolding clap_on_literals
checkbound_fault_free name a b pa pb = rw (not_dashes a pa, not_long a pa, not_short a pa, not_dashes b pb, not_long b pb, not_short b pb) refl

checkbound_rows_are : (name a b : Text) → IsPlain a → IsPlain b → rows_of_words (name ∷ codes "checkbound" ∷ a ∷ b ∷ []) ≡ given (codes "instance") a ∷ given (codes "cert") b ∷ []
unfolding clap_on_literals
checkbound_rows_are name a b pa pb = rw (not_dashes a pa, not_long a pa, not_short a pa, not_dashes b pb, not_long b pb, not_short b pb) refl

named_checkbound : (name a b : Text) → command_word (name ∷ codes "checkbound" ∷ a ∷ b ∷ []) ≡ codes "checkbound"
unfolding clap_on_literals
named_checkbound name a b = refl

pub checkbound_taken : CheckboundIsTaken
checkbound_taken name a b pa pb =
    let rows = checkbound_rows_are name a b pa pb in record {
      call = record { taken = checkbound_fault_free name a b pa pb; named = named_checkbound name a b };
      instance_is = rw rows refl;
      cert_is = rw rows refl;
    }
