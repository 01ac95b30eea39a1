-- What words of a command say.
use Rattle.std.specs.Prelude.{◌≡◌, ◌≢◌, ℕ, Bool, true, false, ◌⊎◌, List, [], ◌∷◌, Some, codes, slice_index}
use Rattle.clap.specs.Values.{IsUnsignedIn}
use Rattle.clap.specs.Walk.{Text, first_of}
use Rattle.clap.specs.Simple.{matches_of}
use Rattle.tspwords.specs.Program.{IsTaken, IsSolveCall, IsVerifyCall, IsTourCall, IsBenchCall, IsReplayCall, IsBoundCall, IsCheckboundCall, IsVerifierCall, most_budget, least_cities, most_cities, most_seed, most_gap, least_grunts, most_grunts, most_lose, most_steps, default_seed, default_gap, default_grunts, default_lose, default_steps, instance_word, proof_word, restart_word, out_word, tape_word, cert_word, budget_of, cities_of, seed_of, resumes, gap_of, grunts_of, lose_of, is_twice, is_late, steps_of, number_of, rows_of_words, verifier, verifier_word, word_for}

-- a word that does not begin with a hyphen
abbrev pub IsPlain : Text → Type 0
IsPlain word = slice_index word 0 ≢ 45

-- what a call of `solve` says beside its paths
pub record Options : Type 0 where
  pub budget : ℕ
  pub seed : ℕ
  pub resume : Bool
  pub gap : ℕ
  pub grunts : ℕ
  pub lose : ℕ
  pub twice : Bool
  pub late : Bool

-- what holds where no option is given
abbrev pub no_options : Options
no_options = record {
  budget = most_budget;
  seed = default_seed;
  resume = false;
  gap = default_gap;
  grunts = default_grunts;
  lose = default_lose;
  twice = false;
  late = false;
}

-- the words are a call of `solve`, with these paths and these options
pub record AreTaken (words : List Text) (instance proof restart : Text) (options : Options) : Type 0 where
  pub call : IsSolveCall words
  pub instance_is : instance_word words ≡ instance
  pub proof_is : proof_word words ≡ proof
  pub restart_is : restart_word words ≡ restart
  pub budget_is : budget_of words ≡ options.budget
  pub seed_is : seed_of words ≡ options.seed
  pub resume_is : resumes words ≡ options.resume
  pub gap_is : gap_of words ≡ options.gap
  pub grunts_is : grunts_of words ≡ options.grunts
  pub lose_is : lose_of words ≡ options.lose
  pub twice_is : is_twice words ≡ options.twice
  pub late_is : is_late words ≡ options.late

-- `solve` with three paths has the greatest budget and the seed 1, goes on from nothing, leaves no gap, has four grunts, and
-- no report is lost, comes twice or comes late
abbrev pub PathsAreTaken : Type 0
PathsAreTaken = (name a b c : Text) → IsPlain a → IsPlain b → IsPlain c
    → AreTaken (name ∷ codes "solve" ∷ a ∷ b ∷ c ∷ []) a b c no_options

-- `solve` with three paths and `--budget N`
abbrev pub BudgetsAreTaken : Type 0
BudgetsAreTaken = (name a b c d : Text) → IsPlain a → IsPlain b → IsPlain c → IsUnsignedIn 0 most_budget d
    → AreTaken (name ∷ codes "solve" ∷ a ∷ b ∷ c ∷ codes "--budget" ∷ d ∷ []) a b c (record no_options { budget = number_of d })

-- `solve` with three paths and `--seed S`
abbrev pub SeedsAreTaken : Type 0
SeedsAreTaken = (name a b c d : Text) → IsPlain a → IsPlain b → IsPlain c → IsUnsignedIn 0 most_seed d
    → AreTaken (name ∷ codes "solve" ∷ a ∷ b ∷ c ∷ codes "--seed" ∷ d ∷ []) a b c (record no_options { seed = number_of d })

-- `solve` with three paths, `--budget N` and `--seed S`
abbrev pub BudgetsAndSeedsAreTaken : Type 0
BudgetsAndSeedsAreTaken = (name a b c d e : Text) → IsPlain a → IsPlain b → IsPlain c → IsUnsignedIn 0 most_budget d → IsUnsignedIn 0 most_seed e
    → AreTaken (name ∷ codes "solve" ∷ a ∷ b ∷ c ∷ codes "--budget" ∷ d ∷ codes "--seed" ∷ e ∷ []) a b c (record no_options { budget = number_of d; seed = number_of e })

-- `solve` with three paths and `--resume`
abbrev pub ResumeIsTaken : Type 0
ResumeIsTaken = (name a b c : Text) → IsPlain a → IsPlain b → IsPlain c
    → AreTaken (name ∷ codes "solve" ∷ a ∷ b ∷ c ∷ codes "--resume" ∷ []) a b c (record no_options { resume = true })

-- `solve` with three paths and `--gap G`
abbrev pub GapsAreTaken : Type 0
GapsAreTaken = (name a b c d : Text) → IsPlain a → IsPlain b → IsPlain c → IsUnsignedIn 0 most_gap d
    → AreTaken (name ∷ codes "solve" ∷ a ∷ b ∷ c ∷ codes "--gap" ∷ d ∷ []) a b c (record no_options { gap = number_of d })

-- `solve` with three paths, `--resume` and `--budget N`
abbrev pub ResumeAndBudgetsAreTaken : Type 0
ResumeAndBudgetsAreTaken = (name a b c d : Text) → IsPlain a → IsPlain b → IsPlain c → IsUnsignedIn 0 most_budget d
    → AreTaken (name ∷ codes "solve" ∷ a ∷ b ∷ c ∷ codes "--resume" ∷ codes "--budget" ∷ d ∷ []) a b c (record no_options { resume = true; budget = number_of d })

-- `solve` with three paths, `--gap G` and `--budget N`
abbrev pub GapsAndBudgetsAreTaken : Type 0
GapsAndBudgetsAreTaken = (name a b c d e : Text) → IsPlain a → IsPlain b → IsPlain c → IsUnsignedIn 0 most_gap d → IsUnsignedIn 0 most_budget e
    → AreTaken (name ∷ codes "solve" ∷ a ∷ b ∷ c ∷ codes "--gap" ∷ d ∷ codes "--budget" ∷ e ∷ []) a b c (record no_options { gap = number_of d; budget = number_of e })

-- `solve` with three paths and `--grunts K`
abbrev pub GruntsAreTaken : Type 0
GruntsAreTaken = (name a b c d : Text) → IsPlain a → IsPlain b → IsPlain c → IsUnsignedIn least_grunts most_grunts d
    → AreTaken (name ∷ codes "solve" ∷ a ∷ b ∷ c ∷ codes "--grunts" ∷ d ∷ []) a b c (record no_options { grunts = number_of d })

-- `solve` with three paths and `--lose N`
abbrev pub LoseIsTaken : Type 0
LoseIsTaken = (name a b c d : Text) → IsPlain a → IsPlain b → IsPlain c → IsUnsignedIn 0 most_lose d
    → AreTaken (name ∷ codes "solve" ∷ a ∷ b ∷ c ∷ codes "--lose" ∷ d ∷ []) a b c (record no_options { lose = number_of d })

-- `solve` with three paths and `--twice`
abbrev pub TwiceIsTaken : Type 0
TwiceIsTaken = (name a b c : Text) → IsPlain a → IsPlain b → IsPlain c
    → AreTaken (name ∷ codes "solve" ∷ a ∷ b ∷ c ∷ codes "--twice" ∷ []) a b c (record no_options { twice = true })

-- `solve` with three paths and `--late`
abbrev pub LateIsTaken : Type 0
LateIsTaken = (name a b c : Text) → IsPlain a → IsPlain b → IsPlain c
    → AreTaken (name ∷ codes "solve" ∷ a ∷ b ∷ c ∷ codes "--late" ∷ []) a b c (record no_options { late = true })

-- the words are a call of `verify`, with these paths
pub record AreVerifyTaken (words : List Text) (instance proof : Text) : Type 0 where
  pub call : IsVerifyCall words
  pub instance_is : instance_word words ≡ instance
  pub proof_is : proof_word words ≡ proof

-- `verify` with two paths
abbrev pub VerifyIsTaken : Type 0
VerifyIsTaken = (name a b : Text) → IsPlain a → IsPlain b → AreVerifyTaken (name ∷ codes "verify" ∷ a ∷ b ∷ []) a b

-- the words are a call of `tour`, with this path and this seed
pub record AreTourTaken (words : List Text) (instance : Text) (seed : ℕ) : Type 0 where
  pub call : IsTourCall words
  pub instance_is : instance_word words ≡ instance
  pub seed_is : seed_of words ≡ seed

-- `tour` with a path has the seed 1
abbrev pub TourIsTaken : Type 0
TourIsTaken = (name a : Text) → IsPlain a → AreTourTaken (name ∷ codes "tour" ∷ a ∷ []) a default_seed

-- `tour` with a path and `--seed S`
abbrev pub TourSeedsAreTaken : Type 0
TourSeedsAreTaken = (name a d : Text) → IsPlain a → IsUnsignedIn 0 most_seed d
    → AreTourTaken (name ∷ codes "tour" ∷ a ∷ codes "--seed" ∷ d ∷ []) a (number_of d)

-- the words are a call of `bench`, with this seed, this number of cities, this budget and this path
pub record AreBenchTaken (words : List Text) (seed cities budget : ℕ) (out : Text) : Type 0 where
  pub call : IsBenchCall words
  pub seed_is : seed_of words ≡ seed
  pub cities_is : cities_of words ≡ cities
  pub budget_is : budget_of words ≡ budget
  pub out_is : out_word words ≡ out

-- `bench` with three numbers within their ranges and a path
abbrev pub BenchIsTaken : Type 0
BenchIsTaken = (name a b c d : Text) → IsUnsignedIn 0 most_seed a → IsUnsignedIn least_cities most_cities b → IsUnsignedIn 0 most_budget c → IsPlain d
    → AreBenchTaken (name ∷ codes "bench" ∷ a ∷ b ∷ c ∷ d ∷ []) (number_of a) (number_of b) (number_of c) d

-- the words are a call of `replay`, with these paths, this budget and this number of grunts
pub record AreReplayTaken (words : List Text) (instance tape : Text) (budget grunts : ℕ) : Type 0 where
  pub call : IsReplayCall words
  pub instance_is : instance_word words ≡ instance
  pub tape_is : tape_word words ≡ tape
  pub budget_is : budget_of words ≡ budget
  pub grunts_is : grunts_of words ≡ grunts

-- `replay` with two paths has the greatest budget and four grunts
abbrev pub ReplayIsTaken : Type 0
ReplayIsTaken = (name a b : Text) → IsPlain a → IsPlain b → AreReplayTaken (name ∷ codes "replay" ∷ a ∷ b ∷ []) a b most_budget default_grunts

-- `replay` with two paths and `--budget N`
abbrev pub ReplayBudgetsAreTaken : Type 0
ReplayBudgetsAreTaken = (name a b d : Text) → IsPlain a → IsPlain b → IsUnsignedIn 0 most_budget d
    → AreReplayTaken (name ∷ codes "replay" ∷ a ∷ b ∷ codes "--budget" ∷ d ∷ []) a b (number_of d) default_grunts

-- `replay` with two paths and `--grunts K`
abbrev pub ReplayGruntsAreTaken : Type 0
ReplayGruntsAreTaken = (name a b d : Text) → IsPlain a → IsPlain b → IsUnsignedIn least_grunts most_grunts d
    → AreReplayTaken (name ∷ codes "replay" ∷ a ∷ b ∷ codes "--grunts" ∷ d ∷ []) a b most_budget (number_of d)

-- the words are a call of `bound`, with these paths and this number of steps
pub record AreBoundTaken (words : List Text) (instance cert : Text) (steps : ℕ) : Type 0 where
  pub call : IsBoundCall words
  pub instance_is : instance_word words ≡ instance
  pub cert_is : cert_word words ≡ cert
  pub steps_is : steps_of words ≡ steps

-- `bound` with two paths takes a hundred steps
abbrev pub BoundIsTaken : Type 0
BoundIsTaken = (name a b : Text) → IsPlain a → IsPlain b → AreBoundTaken (name ∷ codes "bound" ∷ a ∷ b ∷ []) a b default_steps

-- `bound` with two paths and `--steps K`
abbrev pub StepsAreTaken : Type 0
StepsAreTaken = (name a b d : Text) → IsPlain a → IsPlain b → IsUnsignedIn 0 most_steps d
    → AreBoundTaken (name ∷ codes "bound" ∷ a ∷ b ∷ codes "--steps" ∷ d ∷ []) a b (number_of d)

-- the words are a call of `checkbound`, with these paths
pub record AreCheckboundTaken (words : List Text) (instance cert : Text) : Type 0 where
  pub call : IsCheckboundCall words
  pub instance_is : instance_word words ≡ instance
  pub cert_is : cert_word words ≡ cert

-- `checkbound` with two paths
abbrev pub CheckboundIsTaken : Type 0
CheckboundIsTaken = (name a b : Text) → IsPlain a → IsPlain b → AreCheckboundTaken (name ∷ codes "checkbound" ∷ a ∷ b ∷ []) a b

-- the words are of the verifier's form, with these paths
pub record AreVerifierTaken (words : List Text) (instance proof : Text) : Type 0 where
  pub call : IsVerifierCall words
  pub instance_is : verifier_word (codes "instance") words ≡ instance
  pub proof_is : verifier_word (codes "proof") words ≡ proof

-- two paths
abbrev pub VerifierIsTaken : Type 0
VerifierIsTaken = (name a b : Text) → IsPlain a → IsPlain b → AreVerifierTaken (name ∷ a ∷ b ∷ []) a b

-- a call of `solve` gives each path, and a budget, a seed, a gap and numbers of grunts and of `--lose` within their ranges, or
-- none, for which the default stands
pub record AreGiven (words : List Text) : Type 0 where
  pub named : IsSolveCall words
  pub instance : first_of (codes "instance") (rows_of_words words) ≡ Some (instance_word words)
  pub proof : first_of (codes "proof") (rows_of_words words) ≡ Some (proof_word words)
  pub restart : first_of (codes "restart") (rows_of_words words) ≡ Some (restart_word words)
  pub budget : IsUnsignedIn 0 most_budget (word_for (codes "budget") words)
  pub seed : IsUnsignedIn 0 most_seed (word_for (codes "seed") words)
  pub gap : IsUnsignedIn 0 most_gap (word_for (codes "gap") words)
  pub grunts : IsUnsignedIn least_grunts most_grunts (word_for (codes "grunts") words)
  pub lose : IsUnsignedIn 0 most_lose (word_for (codes "lose") words)

-- a call of `verify` gives both paths
pub record AreVerifyGiven (words : List Text) : Type 0 where
  pub named : IsVerifyCall words
  pub instance : first_of (codes "instance") (rows_of_words words) ≡ Some (instance_word words)
  pub proof : first_of (codes "proof") (rows_of_words words) ≡ Some (proof_word words)

-- a call of `tour` gives its path, and a seed within its range, or none, for which the default stands
pub record AreTourGiven (words : List Text) : Type 0 where
  pub named : IsTourCall words
  pub instance : first_of (codes "instance") (rows_of_words words) ≡ Some (instance_word words)
  pub seed : IsUnsignedIn 0 most_seed (word_for (codes "seed") words)

-- a call of `bench` gives a seed, a number of cities and a budget within their ranges, and a path
pub record AreBenchGiven (words : List Text) : Type 0 where
  pub named : IsBenchCall words
  pub seed : IsUnsignedIn 0 most_seed (word_for (codes "seed") words)
  pub cities : IsUnsignedIn least_cities most_cities (word_for (codes "cities") words)
  pub budget : IsUnsignedIn 0 most_budget (word_for (codes "budget") words)
  pub out : first_of (codes "out") (rows_of_words words) ≡ Some (out_word words)

-- a call of `replay` gives both paths, and a budget and a number of grunts within their ranges, or none, for which the default
-- stands
pub record AreReplayGiven (words : List Text) : Type 0 where
  pub named : IsReplayCall words
  pub instance : first_of (codes "instance") (rows_of_words words) ≡ Some (instance_word words)
  pub tape : first_of (codes "tape") (rows_of_words words) ≡ Some (tape_word words)
  pub budget : IsUnsignedIn 0 most_budget (word_for (codes "budget") words)
  pub grunts : IsUnsignedIn least_grunts most_grunts (word_for (codes "grunts") words)

-- a call of `bound` gives both paths, and a number of steps within its range, or none, for which the default stands
pub record AreBoundGiven (words : List Text) : Type 0 where
  pub named : IsBoundCall words
  pub instance : first_of (codes "instance") (rows_of_words words) ≡ Some (instance_word words)
  pub cert : first_of (codes "cert") (rows_of_words words) ≡ Some (cert_word words)
  pub steps : IsUnsignedIn 0 most_steps (word_for (codes "steps") words)

-- a call of `checkbound` gives both paths
pub record AreCheckboundGiven (words : List Text) : Type 0 where
  pub named : IsCheckboundCall words
  pub instance : first_of (codes "instance") (rows_of_words words) ≡ Some (instance_word words)
  pub cert : first_of (codes "cert") (rows_of_words words) ≡ Some (cert_word words)

-- words that are taken are a call of a command
abbrev pub TakenWordsAreGiven : Type 0
TakenWordsAreGiven = (words : List Text) → IsTaken words
    → AreGiven words ⊎ (AreVerifyGiven words ⊎ (AreTourGiven words ⊎ (AreBenchGiven words ⊎ (AreReplayGiven words ⊎ (AreBoundGiven words ⊎ AreCheckboundGiven words)))))

-- words of the verifier's form give both paths
pub record AreVerifierGiven (words : List Text) : Type 0 where
  pub instance : first_of (codes "instance") (matches_of verifier words) ≡ Some (verifier_word (codes "instance") words)
  pub proof : first_of (codes "proof") (matches_of verifier words) ≡ Some (verifier_word (codes "proof") words)

abbrev pub VerifierWordsAreGiven : Type 0
VerifierWordsAreGiven = (words : List Text) → IsVerifierCall words → AreVerifierGiven words
