-- From what is found for words that are taken to what they say.
use Rattle.std.proofs.Common.{◌≡◌, ◌&&◌, ℕ, Bool, true, false, List, [], refl, sym, ap, subst, ◌∙◌, inl, inr, Option, Some, None, is_some, codes, Result, Ok, Err, IfOk}
use Rattle.std.specs.Prelude.{option_map}
use Rattle.std.specs.Option.{option_map_or}
use Rattle.std.specs.Str.{bytes_eq}
use Rattle.std.proofs.lemmas.Slice.Eq.{bytes_eq-Decides}
use Rattle.clap.specs.ValueTests.{is_unsigned_in}
use Rattle.clap.specs.Walk.{Row, Text, rows_of}
use Rattle.std.specs.Box.{box_value}
use Rattle.clap.specs.Matches.{found_of, has_subcommand, subcommand_name_of}
use Rattle.clap.specs.declared.parser.matches.ArgMatches.{ArgMatches}
use Rattle.clap.specs.declared.parser.matches.ArgMatches.TheViews.{out-ArgMatches, out-SubCommand}
use Rattle.clap.specs.Simple.{App, matches_of, subcommand_of, subcommand_rows_of}
use Rattle.clap.specs.Faults.{fault_of}
use Rattle.tspwords.specs.Program.{program, verifier, IsTaken, command_word, rows_of_words, word_in, word_for, number_of, is_on, most_budget, least_cities, most_cities, most_seed, most_gap, least_grunts, most_grunts, most_lose, most_steps, default_seed, default_gap, default_grunts, default_lose, default_steps}
use Rattle.tspwords.specs.Found.{IsSolveOf, IsVerifyOf, IsTourOf, IsBenchOf, IsReplayOf, IsBoundOf, IsCheckboundOf, number_in}
use Rattle.tspwords.specs.Says.{SaysSolve, SaysVerify, SaysTour, SaysBench, SaysReplay, SaysBound, SaysCheckbound, SaysPaths}
use Rattle.tspwords.specs.declared.words.BenchWords.{BenchWords}
use Rattle.tspwords.specs.declared.words.BoundWords.{BoundWords}
use Rattle.tspwords.specs.declared.words.CheckboundWords.{CheckboundWords}
use Rattle.tspwords.specs.declared.words.ReplayWords.{ReplayWords}
use Rattle.tspwords.specs.declared.words.Solve.{Solve}
use Rattle.tspwords.specs.declared.words.TourWords.{TourWords}
use Rattle.tspwords.specs.declared.words.VerifyWords.{VerifyWords}
use Rattle.tspwords.proofs.Numbers.{number_taken}
use Rattle.tspwords.proofs.Taken.{IsWhole, IsWholeTour, IsWholeBench, IsWholeReplay, IsWholeBound, IsWholeCall, taken_whole}

-- no command has another one's name
apart : (name a b : Text) → name ≡ a → name ≡ b → bytes_eq a b ≡ false → ⊥
apart name a b is also other = let e = (bytes_eq-Decides a b).1 (sym is ∙ also) in cc

-- the words name the command that was found
whole_solve : (words : List Text) → IsTaken words → command_word words ≡ codes "solve" → IsWhole (rows_of_words words)
whole_solve words taken is = elim (taken_whole words taken) [
  | inl solve ↦ solve.whole
  | inr (inl verify) ↦ absurd (apart (command_word words) (codes "solve") (codes "verify") is verify.named refl)
  | inr (inr (inl tour)) ↦ absurd (apart (command_word words) (codes "solve") (codes "tour") is tour.named refl)
  | inr (inr (inr (inl bench))) ↦ absurd (apart (command_word words) (codes "solve") (codes "bench") is bench.named refl)
  | inr (inr (inr (inr (inl replay)))) ↦ absurd (apart (command_word words) (codes "solve") (codes "replay") is replay.named refl)
  | inr (inr (inr (inr (inr (inl bound))))) ↦ absurd (apart (command_word words) (codes "solve") (codes "bound") is bound.named refl)
  | inr (inr (inr (inr (inr (inr checkbound))))) ↦ absurd (apart (command_word words) (codes "solve") (codes "checkbound") is checkbound.named refl)
]

whole_tour : (words : List Text) → IsTaken words → command_word words ≡ codes "tour" → IsWholeTour (rows_of_words words)
whole_tour words taken is = elim (taken_whole words taken) [
  | inl solve ↦ absurd (apart (command_word words) (codes "tour") (codes "solve") is solve.named refl)
  | inr (inl verify) ↦ absurd (apart (command_word words) (codes "tour") (codes "verify") is verify.named refl)
  | inr (inr (inl tour)) ↦ tour.whole
  | inr (inr (inr (inl bench))) ↦ absurd (apart (command_word words) (codes "tour") (codes "bench") is bench.named refl)
  | inr (inr (inr (inr (inl replay)))) ↦ absurd (apart (command_word words) (codes "tour") (codes "replay") is replay.named refl)
  | inr (inr (inr (inr (inr (inl bound))))) ↦ absurd (apart (command_word words) (codes "tour") (codes "bound") is bound.named refl)
  | inr (inr (inr (inr (inr (inr checkbound))))) ↦ absurd (apart (command_word words) (codes "tour") (codes "checkbound") is checkbound.named refl)
]

whole_bench : (words : List Text) → IsTaken words → command_word words ≡ codes "bench" → IsWholeBench (rows_of_words words)
whole_bench words taken is = elim (taken_whole words taken) [
  | inl solve ↦ absurd (apart (command_word words) (codes "bench") (codes "solve") is solve.named refl)
  | inr (inl verify) ↦ absurd (apart (command_word words) (codes "bench") (codes "verify") is verify.named refl)
  | inr (inr (inl tour)) ↦ absurd (apart (command_word words) (codes "bench") (codes "tour") is tour.named refl)
  | inr (inr (inr (inl bench))) ↦ bench.whole
  | inr (inr (inr (inr (inl replay)))) ↦ absurd (apart (command_word words) (codes "bench") (codes "replay") is replay.named refl)
  | inr (inr (inr (inr (inr (inl bound))))) ↦ absurd (apart (command_word words) (codes "bench") (codes "bound") is bound.named refl)
  | inr (inr (inr (inr (inr (inr checkbound))))) ↦ absurd (apart (command_word words) (codes "bench") (codes "checkbound") is checkbound.named refl)
]

whole_replay : (words : List Text) → IsTaken words → command_word words ≡ codes "replay" → IsWholeReplay (rows_of_words words)
whole_replay words taken is = elim (taken_whole words taken) [
  | inl solve ↦ absurd (apart (command_word words) (codes "replay") (codes "solve") is solve.named refl)
  | inr (inl verify) ↦ absurd (apart (command_word words) (codes "replay") (codes "verify") is verify.named refl)
  | inr (inr (inl tour)) ↦ absurd (apart (command_word words) (codes "replay") (codes "tour") is tour.named refl)
  | inr (inr (inr (inl bench))) ↦ absurd (apart (command_word words) (codes "replay") (codes "bench") is bench.named refl)
  | inr (inr (inr (inr (inl replay)))) ↦ replay.whole
  | inr (inr (inr (inr (inr (inl bound))))) ↦ absurd (apart (command_word words) (codes "replay") (codes "bound") is bound.named refl)
  | inr (inr (inr (inr (inr (inr checkbound))))) ↦ absurd (apart (command_word words) (codes "replay") (codes "checkbound") is checkbound.named refl)
]

whole_bound : (words : List Text) → IsTaken words → command_word words ≡ codes "bound" → IsWholeBound (rows_of_words words)
whole_bound words taken is = elim (taken_whole words taken) [
  | inl solve ↦ absurd (apart (command_word words) (codes "bound") (codes "solve") is solve.named refl)
  | inr (inl verify) ↦ absurd (apart (command_word words) (codes "bound") (codes "verify") is verify.named refl)
  | inr (inr (inl tour)) ↦ absurd (apart (command_word words) (codes "bound") (codes "tour") is tour.named refl)
  | inr (inr (inr (inl bench))) ↦ absurd (apart (command_word words) (codes "bound") (codes "bench") is bench.named refl)
  | inr (inr (inr (inr (inl replay)))) ↦ absurd (apart (command_word words) (codes "bound") (codes "replay") is replay.named refl)
  | inr (inr (inr (inr (inr (inl bound))))) ↦ bound.whole
  | inr (inr (inr (inr (inr (inr checkbound))))) ↦ absurd (apart (command_word words) (codes "bound") (codes "checkbound") is checkbound.named refl)
]

-- words that name none of the other commands name `verify`
pub verify_named : (words : List Text) → IsTaken words → (command_word words ≡ codes "solve" → ⊥) → (command_word words ≡ codes "tour" → ⊥) → (command_word words ≡ codes "bench" → ⊥) → (command_word words ≡ codes "replay" → ⊥) → (command_word words ≡ codes "bound" → ⊥) → (command_word words ≡ codes "checkbound" → ⊥)
    → command_word words ≡ codes "verify"
verify_named words taken no_solve no_tour no_bench no_replay no_bound no_checkbound = elim (taken_whole words taken) [
  | inl solve ↦ absurd (no_solve solve.named)
  | inr (inl verify) ↦ verify.named
  | inr (inr (inl tour)) ↦ absurd (no_tour tour.named)
  | inr (inr (inr (inl bench))) ↦ absurd (no_bench bench.named)
  | inr (inr (inr (inr (inl replay)))) ↦ absurd (no_replay replay.named)
  | inr (inr (inr (inr (inr (inl bound))))) ↦ absurd (no_bound bound.named)
  | inr (inr (inr (inr (inr (inr checkbound))))) ↦ absurd (no_checkbound checkbound.named)
]

-- the number of a word that a range took, found in the rows
number_says : (words : List Text) (rows : List Row) (id : Text) (least most default n : ℕ) → is_unsigned_in least most (word_for id words) ≡ true → rows ≡ rows_of_words words
    → n ≡ number_in least most default (word_in id rows) → n ≡ number_of (word_for id words)
number_says words rows id least most default n passes same found =
    found ∙ ap (λ r. number_in least most default (word_in id r)) same ∙ number_taken least most default (word_for id words) passes

-- a call that was found, where the words are taken
pub says_solve : (words : List Text) (rows : List Row) (s : Solve) → IsTaken words → command_word words ≡ codes "solve" → rows ≡ rows_of_words words → IsSolveOf rows s → SaysSolve words s
says_solve words rows s taken is same found =
    let whole = whole_solve words taken is in record {
      named = is;
      instance = found.instance ∙ ap (word_in (codes "instance")) same;
      proof = found.proof ∙ ap (word_in (codes "proof")) same;
      restart = found.restart ∙ ap (word_in (codes "restart")) same;
      budget = number_says words rows (codes "budget") 0 most_budget most_budget s.budget whole.budget same found.budget;
      few = found.few;
      seed = number_says words rows (codes "seed") 0 most_seed default_seed s.seed whole.seed same found.seed;
      resume = found.resume ∙ ap (λ r. is_on (word_in (codes "resume") r)) same;
      gap = number_says words rows (codes "gap") 0 most_gap default_gap s.gap whole.gap same found.gap;
      most = found.most;
      grunts = number_says words rows (codes "grunts") least_grunts most_grunts default_grunts s.grunts whole.grunts same found.grunts;
      some = found.some;
      team = found.team;
      lose = number_says words rows (codes "lose") 0 most_lose default_lose s.lose whole.lose same found.lose;
      lost = found.lost;
      twice = found.twice ∙ ap (λ r. is_on (word_in (codes "twice") r)) same;
      late = found.late ∙ ap (λ r. is_on (word_in (codes "late") r)) same;
    }

pub says_verify : (words : List Text) (rows : List Row) (v : VerifyWords) → IsTaken words → (command_word words ≡ codes "solve" → ⊥) → (command_word words ≡ codes "tour" → ⊥) → (command_word words ≡ codes "bench" → ⊥) → (command_word words ≡ codes "replay" → ⊥) → (command_word words ≡ codes "bound" → ⊥) → (command_word words ≡ codes "checkbound" → ⊥) → rows ≡ rows_of_words words
    → IsVerifyOf rows v → SaysVerify words v
says_verify words rows v taken no_solve no_tour no_bench no_replay no_bound no_checkbound same found = record {
  named = verify_named words taken no_solve no_tour no_bench no_replay no_bound no_checkbound;
  instance = found.instance ∙ ap (word_in (codes "instance")) same;
  proof = found.proof ∙ ap (word_in (codes "proof")) same;
}

pub says_tour : (words : List Text) (rows : List Row) (t : TourWords) → IsTaken words → command_word words ≡ codes "tour" → rows ≡ rows_of_words words → IsTourOf rows t → SaysTour words t
says_tour words rows t taken is same found = record {
  named = is;
  instance = found.instance ∙ ap (word_in (codes "instance")) same;
  seed = number_says words rows (codes "seed") 0 most_seed default_seed t.seed (whole_tour words taken is).seed same found.seed;
}

pub says_bench : (words : List Text) (rows : List Row) (b : BenchWords) → IsTaken words → command_word words ≡ codes "bench" → rows ≡ rows_of_words words → IsBenchOf rows b → SaysBench words b
says_bench words rows b taken is same found =
    let whole = whole_bench words taken is in record {
      named = is;
      seed = number_says words rows (codes "seed") 0 most_seed default_seed b.seed whole.seed same found.seed;
      cities = number_says words rows (codes "cities") least_cities most_cities least_cities b.cities whole.cities same found.cities;
      enough = found.enough;
      fits = found.fits;
      budget = number_says words rows (codes "budget") 0 most_budget most_budget b.budget whole.budget same found.budget;
      few = found.few;
      out = found.out ∙ ap (word_in (codes "out")) same;
    }

pub says_replay : (words : List Text) (rows : List Row) (r : ReplayWords) → IsTaken words → command_word words ≡ codes "replay" → rows ≡ rows_of_words words → IsReplayOf rows r → SaysReplay words r
says_replay words rows r taken is same found =
    let whole = whole_replay words taken is in record {
      named = is;
      instance = found.instance ∙ ap (word_in (codes "instance")) same;
      tape = found.tape ∙ ap (word_in (codes "tape")) same;
      budget = number_says words rows (codes "budget") 0 most_budget most_budget r.budget whole.budget same found.budget;
      few = found.few;
      grunts = number_says words rows (codes "grunts") least_grunts most_grunts default_grunts r.grunts whole.grunts same found.grunts;
      some = found.some;
      team = found.team;
    }

pub says_bound : (words : List Text) (rows : List Row) (b : BoundWords) → IsTaken words → command_word words ≡ codes "bound" → rows ≡ rows_of_words words → IsBoundOf rows b → SaysBound words b
says_bound words rows b taken is same found = record {
  named = is;
  instance = found.instance ∙ ap (word_in (codes "instance")) same;
  cert = found.cert ∙ ap (word_in (codes "cert")) same;
  steps = number_says words rows (codes "steps") 0 most_steps default_steps b.steps (whole_bound words taken is).steps same found.steps;
  few = found.few;
}

pub says_checkbound : (words : List Text) (rows : List Row) (b : CheckboundWords) → command_word words ≡ codes "checkbound" → rows ≡ rows_of_words words → IsCheckboundOf rows b → SaysCheckbound words b
says_checkbound words rows b is same found = record {
  named = is;
  instance = found.instance ∙ ap (word_in (codes "instance")) same;
  cert = found.cert ∙ ap (word_in (codes "cert")) same;
}

pub says_paths : (words : List Text) (rows : List Row) (v : VerifyWords) → rows ≡ matches_of verifier words → IsVerifyOf rows v → SaysPaths words v
says_paths words rows v same found = record {
  instance = found.instance ∙ ap (word_in (codes "instance")) same;
  proof = found.proof ∙ ap (word_in (codes "proof")) same;
}

-- the name and the rows of the subcommand that was found
pub found_name : (name : Text) (o : Option (Text × List Row)) → Some name ≡ option_map (λ p. p.0) o → name ≡ option_map_or (λ p. p.0) o []
found_name name None e = cc
found_name name (Some p) e = cc

pub found_rows : (rows : List Row) (o : Option (Text × List Row)) → Some rows ≡ option_map (λ p. p.1) o → rows ≡ option_map_or (λ p. p.1) o []
found_rows rows None e = cc
found_rows rows (Some p) e = cc

-- ---- what the parser gives

pub both_true : (a b : Bool) → (a && b) ≡ true → a ≡ true
both_true true b e = refl
both_true false b e = cc

command_there : (o : Option (Text × List Row)) → IsWholeCall o → is_some o ≡ true
command_there (Some p) whole = refl
command_there None whole = elim whole [
  | inl solve ↦ let e = solve.named in cc
  | inr (inl verify) ↦ let e = verify.named in cc
  | inr (inr (inl tour)) ↦ let e = tour.named in cc
  | inr (inr (inr (inl bench))) ↦ let e = bench.named in cc
  | inr (inr (inr (inr (inl replay)))) ↦ let e = replay.named in cc
  | inr (inr (inr (inr (inr (inl bound))))) ↦ let e = bound.named in cc
  | inr (inr (inr (inr (inr (inr checkbound))))) ↦ let e = checkbound.named in cc
]

rows_there : {A : Type 0} (f : A → Text × List Row) (o : Option A) → is_some (option_map f o) ≡ is_some o
rows_there f None = refl
rows_there f (Some a) = refl

-- a command was met where the words are taken
pub has_command : (words : List Text) (m : ArgMatches) → IsTaken words → subcommand_rows_of m ≡ subcommand_of program words → has_subcommand m ≡ true
has_command words m taken rows =
    sym (rows_there (λ b. ((out-SubCommand (box_value b)).name.now, rows_of (found_of (out-SubCommand (box_value b)).matches))) (out-ArgMatches m).subcommand)
    ∙ ap is_some rows ∙ command_there (subcommand_of program words) (taken_whole words taken)

pub commands_there : {E : Type 0} (words : List Text) (a : App) (r : Result ArgMatches E) → a ≡ program → IfOk r (λ m. fault_of a words ≡ [])
    → IfOk r (λ m. subcommand_rows_of m ≡ subcommand_of a words) → IfOk r (λ m. has_subcommand m ≡ true)
commands_there words a (Ok m) is free rows = has_command words m (subst (λ (x : App). fault_of x words ≡ []) is free) (subst (λ (x : App). subcommand_rows_of m ≡ subcommand_of x words) is rows)
commands_there words a (Err e) is free rows = tt

same_names : {A : Type 0} (f : A → Text) (g : A → List Row) (o : Option A) → option_map f o ≡ option_map (λ (p : Text × List Row). p.0) (option_map (λ b. (f b, g b)) o)
same_names f g None = refl
same_names f g (Some a) = refl

-- the name of the command that was met
pub name_of_rows : (words : List Text) (m : ArgMatches) → subcommand_rows_of m ≡ subcommand_of program words → subcommand_name_of m ≡ option_map (λ (p : Text × List Row). p.0) (subcommand_of program words)
name_of_rows words m rows =
    same_names (λ b. (out-SubCommand (box_value b)).name.now) (λ b. rows_of (found_of (out-SubCommand (box_value b)).matches)) (out-ArgMatches m).subcommand
    ∙ ap (λ o. option_map (λ (p : Text × List Row). p.0) o) rows
