-- `solve` with what has to do with grunts.
use Rattle.std.proofs.Common.{◌≡◌, Bool, true, cond, [], ◌∷◌, ◌++◌, codes, refl, sym, subst}
use Rattle.clap.specs.Kinds.{or_else}
use Rattle.clap.specs.Walk.{Text}
use Rattle.clap.specs.ValueTests.{is_unsigned_in}
use Rattle.clap.specs.declared.error.kind.ErrorKind.TheVariants as kind
use Rattle.clap.proofs.OnLiterals.{clap_on_literals}
use Rattle.tspwords.proofs.Numbers.{in_unsigned}
use Rattle.tspwords.specs.Program.{IsTaken, command_word, rows_of_words, least_grunts, most_grunts, most_lose}
use Rattle.tspwords.specs.Laws.{IsPlain, GruntsAreTaken, LoseIsTaken, TwiceIsTaken, LateIsTaken}
use Rattle.tspwords.proofs.Options.{path_rows}
use Rattle.tspwords.proofs.PlainWords.{given, default_budget_row, default_seed_row, default_resume_row, default_gap_row, default_grunts_row, default_lose_row, default_twice_row, default_late_row, not_dashes, not_long, not_short, number_is_plain}

-- ---- `--grunts`

grunts_fault_free : (name a b c d : Text) → IsPlain a → IsPlain b → IsPlain c → IsPlain d → is_unsigned_in least_grunts most_grunts d ≡ true
    → IsTaken (name ∷ codes "solve" ∷ a ∷ b ∷ c ∷ codes "--grunts" ∷ d ∷ [])
unfolding clap_on_literals
grunts_fault_free name a b c d pa pb pc pd is =
    rw (not_dashes a pa, not_long a pa, not_short a pa, not_dashes b pb, not_long b pb, not_short b pb, not_dashes c pc, not_long c pc, not_short c pc, not_dashes d pd, not_long d pd, not_short d pd)
    (subst (λ (b : Bool). or_else (or_else (or_else (cond b [] (kind.ValueValidation ∷ [])) []) []) [] ≡ []) (sym is) refl)

grunts_rows_are : (name a b c d : Text) → IsPlain a → IsPlain b → IsPlain c → IsPlain d
    → rows_of_words (name ∷ codes "solve" ∷ a ∷ b ∷ c ∷ codes "--grunts" ∷ d ∷ []) ≡ path_rows a b c ++ given (codes "grunts") d ∷ default_budget_row ∷ default_seed_row ∷ default_resume_row ∷ default_gap_row ∷ default_lose_row ∷ default_twice_row ∷ default_late_row ∷ []
unfolding clap_on_literals
grunts_rows_are name a b c d pa pb pc pd =
    rw (not_dashes a pa, not_long a pa, not_short a pa, not_dashes b pb, not_long b pb, not_short b pb, not_dashes c pc, not_long c pc, not_short c pc, not_dashes d pd, not_long d pd, not_short d pd) refl

named_grunts : (name a b c d : Text) → command_word (name ∷ codes "solve" ∷ a ∷ b ∷ c ∷ codes "--grunts" ∷ d ∷ []) ≡ codes "solve"
unfolding clap_on_literals
named_grunts name a b c d = refl

pub grunts_taken : GruntsAreTaken
grunts_taken name a b c d pa pb pc fits =
    let pd = number_is_plain least_grunts most_grunts d fits in
    let rows = grunts_rows_are name a b c d pa pb pc pd in record {
      call = record { taken = grunts_fault_free name a b c d pa pb pc pd (in_unsigned least_grunts most_grunts d fits); named = named_grunts name a b c d };
      instance_is = rw rows refl;
      proof_is = rw rows refl;
      restart_is = rw rows refl;
      budget_is = rw rows refl;
      seed_is = rw rows refl;
      resume_is = rw rows refl;
      gap_is = rw rows refl;
      grunts_is = rw rows refl;
      lose_is = rw rows refl;
      twice_is = rw rows refl;
      late_is = rw rows refl;
    }

-- ---- `--lose`

lose_fault_free : (name a b c d : Text) → IsPlain a → IsPlain b → IsPlain c → IsPlain d → is_unsigned_in 0 most_lose d ≡ true
    → IsTaken (name ∷ codes "solve" ∷ a ∷ b ∷ c ∷ codes "--lose" ∷ d ∷ [])
unfolding clap_on_literals
lose_fault_free name a b c d pa pb pc pd is =
    rw (not_dashes a pa, not_long a pa, not_short a pa, not_dashes b pb, not_long b pb, not_short b pb, not_dashes c pc, not_long c pc, not_short c pc, not_dashes d pd, not_long d pd, not_short d pd)
    (subst (λ (b : Bool). or_else (or_else (or_else (cond b [] (kind.ValueValidation ∷ [])) []) []) [] ≡ []) (sym is) refl)

lose_rows_are : (name a b c d : Text) → IsPlain a → IsPlain b → IsPlain c → IsPlain d
    → rows_of_words (name ∷ codes "solve" ∷ a ∷ b ∷ c ∷ codes "--lose" ∷ d ∷ []) ≡ path_rows a b c ++ given (codes "lose") d ∷ default_budget_row ∷ default_seed_row ∷ default_resume_row ∷ default_gap_row ∷ default_grunts_row ∷ default_twice_row ∷ default_late_row ∷ []
unfolding clap_on_literals
lose_rows_are name a b c d pa pb pc pd =
    rw (not_dashes a pa, not_long a pa, not_short a pa, not_dashes b pb, not_long b pb, not_short b pb, not_dashes c pc, not_long c pc, not_short c pc, not_dashes d pd, not_long d pd, not_short d pd) refl

named_lose : (name a b c d : Text) → command_word (name ∷ codes "solve" ∷ a ∷ b ∷ c ∷ codes "--lose" ∷ d ∷ []) ≡ codes "solve"
unfolding clap_on_literals
named_lose name a b c d = refl

pub lose_taken : LoseIsTaken
lose_taken name a b c d pa pb pc fits =
    let pd = number_is_plain 0 most_lose d fits in
    let rows = lose_rows_are name a b c d pa pb pc pd in record {
      call = record { taken = lose_fault_free name a b c d pa pb pc pd (in_unsigned 0 most_lose d fits); named = named_lose name a b c d };
      instance_is = rw rows refl;
      proof_is = rw rows refl;
      restart_is = rw rows refl;
      budget_is = rw rows refl;
      seed_is = rw rows refl;
      resume_is = rw rows refl;
      gap_is = rw rows refl;
      grunts_is = rw rows refl;
      lose_is = rw rows refl;
      twice_is = rw rows refl;
      late_is = rw rows refl;
    }

-- ---- `--twice`

twice_fault_free : (name a b c : Text) → IsPlain a → IsPlain b → IsPlain c → IsTaken (name ∷ codes "solve" ∷ a ∷ b ∷ c ∷ codes "--twice" ∷ [])
unfolding clap_on_literals
twice_fault_free name a b c pa pb pc =
    rw (not_dashes a pa, not_long a pa, not_short a pa, not_dashes b pb, not_long b pb, not_short b pb, not_dashes c pc, not_long c pc, not_short c pc) refl

twice_rows_are : (name a b c : Text) → IsPlain a → IsPlain b → IsPlain c
    → rows_of_words (name ∷ codes "solve" ∷ a ∷ b ∷ c ∷ codes "--twice" ∷ []) ≡ path_rows a b c ++ given (codes "twice") (codes "true") ∷ default_budget_row ∷ default_seed_row ∷ default_resume_row ∷ default_gap_row ∷ default_grunts_row ∷ default_lose_row ∷ default_late_row ∷ []
unfolding clap_on_literals
twice_rows_are name a b c pa pb pc =
    rw (not_dashes a pa, not_long a pa, not_short a pa, not_dashes b pb, not_long b pb, not_short b pb, not_dashes c pc, not_long c pc, not_short c pc) refl

named_twice : (name a b c : Text) → command_word (name ∷ codes "solve" ∷ a ∷ b ∷ c ∷ codes "--twice" ∷ []) ≡ codes "solve"
unfolding clap_on_literals
named_twice name a b c = refl

pub twice_taken : TwiceIsTaken
twice_taken name a b c pa pb pc =
    let rows = twice_rows_are name a b c pa pb pc in record {
      call = record { taken = twice_fault_free name a b c pa pb pc; named = named_twice name a b c };
      instance_is = rw rows refl;
      proof_is = rw rows refl;
      restart_is = rw rows refl;
      budget_is = rw rows refl;
      seed_is = rw rows refl;
      resume_is = rw rows refl;
      gap_is = rw rows refl;
      grunts_is = rw rows refl;
      lose_is = rw rows refl;
      twice_is = rw rows refl;
      late_is = rw rows refl;
    }

-- ---- `--late`

late_fault_free : (name a b c : Text) → IsPlain a → IsPlain b → IsPlain c → IsTaken (name ∷ codes "solve" ∷ a ∷ b ∷ c ∷ codes "--late" ∷ [])
unfolding clap_on_literals
late_fault_free name a b c pa pb pc =
    rw (not_dashes a pa, not_long a pa, not_short a pa, not_dashes b pb, not_long b pb, not_short b pb, not_dashes c pc, not_long c pc, not_short c pc) refl

late_rows_are : (name a b c : Text) → IsPlain a → IsPlain b → IsPlain c
    → rows_of_words (name ∷ codes "solve" ∷ a ∷ b ∷ c ∷ codes "--late" ∷ []) ≡ path_rows a b c ++ given (codes "late") (codes "true") ∷ default_budget_row ∷ default_seed_row ∷ default_resume_row ∷ default_gap_row ∷ default_grunts_row ∷ default_lose_row ∷ default_twice_row ∷ []
unfolding clap_on_literals
late_rows_are name a b c pa pb pc =
    rw (not_dashes a pa, not_long a pa, not_short a pa, not_dashes b pb, not_long b pb, not_short b pb, not_dashes c pc, not_long c pc, not_short c pc) refl

named_late : (name a b c : Text) → command_word (name ∷ codes "solve" ∷ a ∷ b ∷ c ∷ codes "--late" ∷ []) ≡ codes "solve"
unfolding clap_on_literals
named_late name a b c = refl

pub late_taken : LateIsTaken
late_taken name a b c pa pb pc =
    let rows = late_rows_are name a b c pa pb pc in record {
      call = record { taken = late_fault_free name a b c pa pb pc; named = named_late name a b c };
      instance_is = rw rows refl;
      proof_is = rw rows refl;
      restart_is = rw rows refl;
      budget_is = rw rows refl;
      seed_is = rw rows refl;
      resume_is = rw rows refl;
      gap_is = rw rows refl;
      grunts_is = rw rows refl;
      lose_is = rw rows refl;
      twice_is = rw rows refl;
      late_is = rw rows refl;
    }
