-- What is made of the rows that are found, whether the words are taken or not.
use Rattle.std.specs.Prelude.{◌≡◌, ◌≤◌, ℕ, List, codes, string_bytes, if◌then◌else◌}
use Rattle.clap.specs.Walk.{Row, Text}
use Rattle.clap.specs.ValueTests.{is_unsigned_in}
use Rattle.tspwords.specs.declared.words.BenchWords.{BenchWords}
use Rattle.tspwords.specs.declared.words.BoundWords.{BoundWords}
use Rattle.tspwords.specs.declared.words.CheckboundWords.{CheckboundWords}
use Rattle.tspwords.specs.declared.words.ReplayWords.{ReplayWords}
use Rattle.tspwords.specs.declared.words.Solve.{Solve}
use Rattle.tspwords.specs.declared.words.TourWords.{TourWords}
use Rattle.tspwords.specs.declared.words.VerifyWords.{VerifyWords}
use Rattle.tspwords.specs.Program.{most_budget, least_cities, most_cities, most_seed, most_gap, least_grunts, most_grunts, most_lose, most_steps, default_seed, default_gap, default_grunts, default_lose, default_steps, number_of, is_on, word_in}

-- the number that a word says, where it is one from `least` to `most`
abbrev pub number_in : ℕ → ℕ → ℕ → Text → ℕ
number_in least most default word = if is_unsigned_in least most word then number_of word else default

-- the budget that a word says, where it is a number that a budget may be
abbrev pub budget_in : Text → ℕ
budget_in word = number_in 0 most_budget most_budget word

-- the number of cities that a word says, where it is one that an instance of `bench` may have
abbrev pub cities_in : Text → ℕ
cities_in word = number_in least_cities most_cities least_cities word

-- the seed that a word says, where it is a number that a seed may be
abbrev pub seed_in : Text → ℕ
seed_in word = number_in 0 most_seed default_seed word

-- the gap that a word says, where it is a number that a gap may be
abbrev pub gap_in : Text → ℕ
gap_in word = number_in 0 most_gap default_gap word

-- the number of grunts that a word says, where it is one that may work
abbrev pub grunts_in : Text → ℕ
grunts_in word = number_in least_grunts most_grunts default_grunts word

-- the number of `--lose` that a word says, where it is one that may be given
abbrev pub lose_in : Text → ℕ
lose_in word = number_in 0 most_lose default_lose word

-- the number of steps that a word says, where it is one that may be taken
abbrev pub steps_in : Text → ℕ
steps_in word = number_in 0 most_steps default_steps word

-- this call of `solve` is what was found for its arguments
pub record IsSolveOf (rows : List Row) (s : Solve) : Type 0 where
  pub instance : string_bytes s.instance ≡ word_in (codes "instance") rows
  pub proof : string_bytes s.proof ≡ word_in (codes "proof") rows
  pub restart : string_bytes s.restart ≡ word_in (codes "restart") rows
  pub budget : s.budget ≡ budget_in (word_in (codes "budget") rows)
  pub few : s.budget ≤ most_budget
  pub seed : s.seed ≡ seed_in (word_in (codes "seed") rows)
  pub resume : s.resume ≡ is_on (word_in (codes "resume") rows)
  pub gap : s.gap ≡ gap_in (word_in (codes "gap") rows)
  pub most : s.gap ≤ most_gap
  pub grunts : s.grunts ≡ grunts_in (word_in (codes "grunts") rows)
  pub some : least_grunts ≤ s.grunts
  pub team : s.grunts ≤ most_grunts
  pub lose : s.lose ≡ lose_in (word_in (codes "lose") rows)
  pub lost : s.lose ≤ most_lose
  pub twice : s.twice ≡ is_on (word_in (codes "twice") rows)
  pub late : s.late ≡ is_on (word_in (codes "late") rows)

-- this call of `tour` is what was found for its arguments
pub record IsTourOf (rows : List Row) (t : TourWords) : Type 0 where
  pub instance : string_bytes t.instance ≡ word_in (codes "instance") rows
  pub seed : t.seed ≡ seed_in (word_in (codes "seed") rows)

-- this call of `bench` is what was found for its arguments
pub record IsBenchOf (rows : List Row) (b : BenchWords) : Type 0 where
  pub seed : b.seed ≡ seed_in (word_in (codes "seed") rows)
  pub cities : b.cities ≡ cities_in (word_in (codes "cities") rows)
  pub enough : least_cities ≤ b.cities
  pub fits : b.cities ≤ most_cities
  pub budget : b.budget ≡ budget_in (word_in (codes "budget") rows)
  pub few : b.budget ≤ most_budget
  pub out : string_bytes b.out ≡ word_in (codes "out") rows

-- this call of `replay` is what was found for its arguments
pub record IsReplayOf (rows : List Row) (r : ReplayWords) : Type 0 where
  pub instance : string_bytes r.instance ≡ word_in (codes "instance") rows
  pub tape : string_bytes r.tape ≡ word_in (codes "tape") rows
  pub budget : r.budget ≡ budget_in (word_in (codes "budget") rows)
  pub few : r.budget ≤ most_budget
  pub grunts : r.grunts ≡ grunts_in (word_in (codes "grunts") rows)
  pub some : least_grunts ≤ r.grunts
  pub team : r.grunts ≤ most_grunts

-- this call of `bound` is what was found for its arguments
pub record IsBoundOf (rows : List Row) (b : BoundWords) : Type 0 where
  pub instance : string_bytes b.instance ≡ word_in (codes "instance") rows
  pub cert : string_bytes b.cert ≡ word_in (codes "cert") rows
  pub steps : b.steps ≡ steps_in (word_in (codes "steps") rows)
  pub few : b.steps ≤ most_steps

-- this call of `checkbound` is what was found for its arguments
pub record IsCheckboundOf (rows : List Row) (b : CheckboundWords) : Type 0 where
  pub instance : string_bytes b.instance ≡ word_in (codes "instance") rows
  pub cert : string_bytes b.cert ≡ word_in (codes "cert") rows

-- these paths are what was found for the arguments of `verify`, or of the verifier
pub record IsVerifyOf (rows : List Row) (v : VerifyWords) : Type 0 where
  pub instance : string_bytes v.instance ≡ word_in (codes "instance") rows
  pub proof : string_bytes v.proof ≡ word_in (codes "proof") rows
