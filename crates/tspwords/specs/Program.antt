-- The command lines of the solver and of the verifier, as the parser of command lines is given them, and what words mean
-- there.
use Rattle.std.specs.Prelude.{◌≡◌, ℕ, Bool, List, [], ◌∷◌, ◌++◌, Some, codes, unwrap_or, true}
use Rattle.std.specs.Option.{option_map_or}
use Rattle.std.specs.Str.{bytes_eq}
use Rattle.std.specs.Str.Parse.{digits_value, without_leading_plus}
use Rattle.clap.specs.Walk.{Row, Rule, Text, first_of}
use Rattle.clap.specs.Simple.{App, Shape, matches_of, new_rule, new_shape, subcommand_of, with_subcommand}
use Rattle.clap.specs.Faults.{fault_of}
use Rattle.clap.specs.declared.builder.action.ArgAction.TheVariants.{SetTrue}
use Rattle.clap.specs.declared.builder.value_parser.ValueParser.TheVariants as parser

-- a word that has to be there
abbrev pub path_rule : Text → Rule
path_rule id = record (new_rule id) { required = true }

-- the greatest budget, which is also the one that holds where none is given
abbrev pub most_budget : ℕ
most_budget = 65536

-- the greatest seed, 2 ^ 64 - 1
abbrev pub most_seed : ℕ
most_seed = 18446744073709551615

-- the fewest and the most cities of an instance that `bench` makes
abbrev pub least_cities : ℕ
least_cities = 3

abbrev pub most_cities : ℕ
most_cities = 2000

-- the seed that holds where none is given
abbrev pub default_seed : ℕ
default_seed = 1

-- the greatest gap, 2 ^ 42
abbrev pub most_gap : ℕ
most_gap = 4398046511104

-- the gap that holds where none is given
abbrev pub default_gap : ℕ
default_gap = 0

-- the fewest and the most grunts, and how many work where no number is given
abbrev pub least_grunts : ℕ
least_grunts = 1

abbrev pub most_grunts : ℕ
most_grunts = 64

abbrev pub default_grunts : ℕ
default_grunts = 4

-- the greatest number of `--lose`, and the one that holds where none is given
abbrev pub most_lose : ℕ
most_lose = 65536

abbrev pub default_lose : ℕ
default_lose = 0

-- the most steps of an ascent, and how many are taken where no number is given
abbrev pub most_steps : ℕ
most_steps = 10000

abbrev pub default_steps : ℕ
default_steps = 100

-- `--id NUMBER`, the number from `least` to `most`
abbrev pub number_rule : Text → ℕ → ℕ → Text → Rule
number_rule id least most default = record (new_rule id) {
  long = Some id;
  parser = Some (parser.Unsigned least most);
  defaults = default ∷ [];
}

-- a number from `least` to `most` that has to be there
abbrev pub numeral_rule : Text → ℕ → ℕ → Rule
numeral_rule id least most = record (path_rule id) { parser = Some (parser.Unsigned least most) }

-- `--budget N`, N from 0 to 65536
abbrev pub budget_rule : Rule
budget_rule = number_rule (codes "budget") 0 most_budget (codes "65536")

-- `--seed S`, S from 0 to 2 ^ 64 - 1
abbrev pub seed_rule : Rule
seed_rule = number_rule (codes "seed") 0 most_seed (codes "1")

-- `--id`, a switch
abbrev pub switch_rule : Text → Rule
switch_rule id = record (new_rule id) { long = Some id; action = Some SetTrue }

-- `--resume`
abbrev pub resume_rule : Rule
resume_rule = switch_rule (codes "resume")

-- `--gap G`, G from 0 to 2 ^ 42
abbrev pub gap_rule : Rule
gap_rule = number_rule (codes "gap") 0 most_gap (codes "0")

-- `--grunts K`, K from 1 to 64
abbrev pub grunts_rule : Rule
grunts_rule = number_rule (codes "grunts") least_grunts most_grunts (codes "4")

-- `--lose N`, N from 0 to 65536
abbrev pub lose_rule : Rule
lose_rule = number_rule (codes "lose") 0 most_lose (codes "0")

-- `--twice`
abbrev pub twice_rule : Rule
twice_rule = switch_rule (codes "twice")

-- `--late`
abbrev pub late_rule : Rule
late_rule = switch_rule (codes "late")

-- `--steps K`, K from 0 to 10000
abbrev pub steps_rule : Rule
steps_rule = number_rule (codes "steps") 0 most_steps (codes "100")

-- `solve INSTANCE PROOF RESTART [--budget N] [--seed S]`, with no more options
abbrev pub solve_numbers : Shape
solve_numbers = record (new_shape (codes "solve")) {
  rules = path_rule (codes "instance") ∷ path_rule (codes "proof") ∷ path_rule (codes "restart") ∷ budget_rule ∷ seed_rule ∷ [];
}

-- with these and `[--resume] [--gap G]`
abbrev pub solve_alone : Shape
solve_alone = record solve_numbers { rules = solve_numbers.rules ++ resume_rule ∷ gap_rule ∷ [] }

-- with these and `[--grunts K] [--lose N]`
abbrev pub solve_in_threads : Shape
solve_in_threads = record solve_alone { rules = solve_alone.rules ++ grunts_rule ∷ lose_rule ∷ [] }

-- `solve INSTANCE PROOF RESTART [--budget N] [--seed S] [--resume] [--gap G] [--grunts K] [--lose N] [--twice] [--late]`
abbrev pub solve_shape : Shape
solve_shape = record (new_shape (codes "solve")) {
  rules = path_rule (codes "instance") ∷ path_rule (codes "proof") ∷ path_rule (codes "restart") ∷ budget_rule ∷ seed_rule ∷ resume_rule ∷ gap_rule ∷ grunts_rule ∷ lose_rule ∷ twice_rule ∷ late_rule ∷ [];
}

-- `verify INSTANCE PROOF`
abbrev pub verify_shape : Shape
verify_shape = record (new_shape (codes "verify")) {
  rules = path_rule (codes "instance") ∷ path_rule (codes "proof") ∷ [];
}

-- `tour INSTANCE [--seed S]`
abbrev pub tour_shape : Shape
tour_shape = record (new_shape (codes "tour")) { rules = path_rule (codes "instance") ∷ seed_rule ∷ [] }

-- `bench SEED N BUDGET OUT`, SEED from 0 to 2 ^ 64 - 1, N from 3 to 2000 and BUDGET from 0 to 65536
abbrev pub bench_shape : Shape
bench_shape = record (new_shape (codes "bench")) {
  rules = numeral_rule (codes "seed") 0 most_seed ∷ numeral_rule (codes "cities") least_cities most_cities ∷ numeral_rule (codes "budget") 0 most_budget ∷ path_rule (codes "out") ∷ [];
}

-- `replay INSTANCE TAPE [--budget N] [--grunts K]`
abbrev pub replay_shape : Shape
replay_shape = record (new_shape (codes "replay")) {
  rules = path_rule (codes "instance") ∷ path_rule (codes "tape") ∷ budget_rule ∷ grunts_rule ∷ [];
}

-- `bound INSTANCE CERT [--steps K]`
abbrev pub bound_shape : Shape
bound_shape = record (new_shape (codes "bound")) {
  rules = path_rule (codes "instance") ∷ path_rule (codes "cert") ∷ steps_rule ∷ [];
}

-- `checkbound INSTANCE CERT`
abbrev pub checkbound_shape : Shape
checkbound_shape = record (new_shape (codes "checkbound")) {
  rules = path_rule (codes "instance") ∷ path_rule (codes "cert") ∷ [];
}

-- the program with the commands that have to do with proofs
abbrev pub proving : App
proving = with_subcommand (with_subcommand (record {
  top = record (new_shape (codes "tspc")) { subcommand_required = true; disable_help_subcommand = true };
  subs = [];
}) solve_shape) verify_shape

-- with these, and the commands that make a tour or an instance
abbrev pub making : App
making = with_subcommand (with_subcommand proving tour_shape) bench_shape

-- with these, and `replay`
abbrev pub replaying : App
replaying = with_subcommand making replay_shape

-- the program: one of its commands has to be named
abbrev pub program : App
program = with_subcommand (with_subcommand replaying bound_shape) checkbound_shape

-- the words are of a command's form: the parser finds no fault with them, of which a call for help is one
abbrev pub IsTaken : List Text → Type 0
IsTaken words = fault_of program words ≡ []

-- the command that the words name
abbrev pub command_word : List Text → Text
command_word words = option_map_or (λ p. p.0) (subcommand_of program words) []

-- the words are a call of this command
pub record IsCallOf (command : Text) (words : List Text) : Type 0 where
  pub taken : IsTaken words
  pub named : command_word words ≡ command

abbrev pub IsSolveCall : List Text → Type 0
IsSolveCall words = IsCallOf (codes "solve") words

abbrev pub IsVerifyCall : List Text → Type 0
IsVerifyCall words = IsCallOf (codes "verify") words

abbrev pub IsTourCall : List Text → Type 0
IsTourCall words = IsCallOf (codes "tour") words

abbrev pub IsBenchCall : List Text → Type 0
IsBenchCall words = IsCallOf (codes "bench") words

abbrev pub IsReplayCall : List Text → Type 0
IsReplayCall words = IsCallOf (codes "replay") words

abbrev pub IsBoundCall : List Text → Type 0
IsBoundCall words = IsCallOf (codes "bound") words

abbrev pub IsCheckboundCall : List Text → Type 0
IsCheckboundCall words = IsCallOf (codes "checkbound") words

-- what the words say of the arguments of the command that they name
abbrev pub rows_of_words : List Text → List Row
rows_of_words words = option_map_or (λ p. p.1) (subcommand_of program words) []

-- the word that is given for an argument
abbrev pub word_in : Text → List Row → Text
word_in id rows = unwrap_or (first_of id rows) []

abbrev pub word_for : Text → List Text → Text
word_for id words = word_in id (rows_of_words words)

abbrev pub instance_word : List Text → Text
instance_word words = word_for (codes "instance") words

abbrev pub proof_word : List Text → Text
proof_word words = word_for (codes "proof") words

abbrev pub restart_word : List Text → Text
restart_word words = word_for (codes "restart") words

abbrev pub out_word : List Text → Text
out_word words = word_for (codes "out") words

abbrev pub tape_word : List Text → Text
tape_word words = word_for (codes "tape") words

abbrev pub cert_word : List Text → Text
cert_word words = word_for (codes "cert") words

-- the number that a word of digits says, with or without a `+`
abbrev pub number_of : Text → ℕ
number_of word = digits_value 10 (without_leading_plus word)

abbrev pub budget_of : List Text → ℕ
budget_of words = number_of (word_for (codes "budget") words)

abbrev pub cities_of : List Text → ℕ
cities_of words = number_of (word_for (codes "cities") words)

abbrev pub seed_of : List Text → ℕ
seed_of words = number_of (word_for (codes "seed") words)

-- a switch is on where its word is "true", and has the word "false" where it is not given
abbrev pub is_on : Text → Bool
is_on word = bytes_eq word (codes "true")

abbrev pub resumes : List Text → Bool
resumes words = is_on (word_for (codes "resume") words)

abbrev pub gap_of : List Text → ℕ
gap_of words = number_of (word_for (codes "gap") words)

abbrev pub grunts_of : List Text → ℕ
grunts_of words = number_of (word_for (codes "grunts") words)

abbrev pub lose_of : List Text → ℕ
lose_of words = number_of (word_for (codes "lose") words)

abbrev pub is_twice : List Text → Bool
is_twice words = is_on (word_for (codes "twice") words)

abbrev pub is_late : List Text → Bool
is_late words = is_on (word_for (codes "late") words)

abbrev pub steps_of : List Text → ℕ
steps_of words = number_of (word_for (codes "steps") words)

-- ---- the verifier, a program of its own

-- `tspverify INSTANCE PROOF`
abbrev pub verifier : App
verifier = record {
  top = record (new_shape (codes "tspverify")) { rules = path_rule (codes "instance") ∷ path_rule (codes "proof") ∷ [] };
  subs = [];
}

-- the words are of the verifier's form
abbrev pub IsVerifierCall : List Text → Type 0
IsVerifierCall words = fault_of verifier words ≡ []

-- the word that is given for an argument of the verifier
abbrev pub verifier_word : Text → List Text → Text
verifier_word id words = word_in id (matches_of verifier words)
