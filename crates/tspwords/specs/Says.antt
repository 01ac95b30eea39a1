-- Which command the words say. The verifier's words say paths alone.
use Rattle.std.specs.Prelude.{◌≡◌, ◌≤◌, List, codes, string_bytes}
use Rattle.clap.specs.Walk.{Text}
use Rattle.tspwords.specs.declared.words.BenchWords.{BenchWords}
use Rattle.tspwords.specs.declared.words.BoundWords.{BoundWords}
use Rattle.tspwords.specs.declared.words.CheckboundWords.{CheckboundWords}
use Rattle.tspwords.specs.declared.words.ReplayWords.{ReplayWords}
use Rattle.tspwords.specs.declared.words.Solve.{Solve}
use Rattle.tspwords.specs.declared.words.TourWords.{TourWords}
use Rattle.tspwords.specs.declared.words.VerifyWords.{VerifyWords}
use Rattle.tspwords.specs.declared.words.Command.{Command}
use Rattle.tspwords.specs.declared.words.Command.TheVariants as command
use Rattle.tspwords.specs.Program.{most_budget, most_gap, least_cities, most_cities, least_grunts, most_grunts, most_lose, most_steps, command_word, instance_word, proof_word, restart_word, out_word, tape_word, cert_word, budget_of, cities_of, seed_of, resumes, gap_of, grunts_of, lose_of, is_twice, is_late, steps_of, verifier_word}

-- the words say this call of `solve`
pub record SaysSolve (words : List Text) (s : Solve) : Type 0 where
  pub named : command_word words ≡ codes "solve"
  pub instance : string_bytes s.instance ≡ instance_word words
  pub proof : string_bytes s.proof ≡ proof_word words
  pub restart : string_bytes s.restart ≡ restart_word words
  pub budget : s.budget ≡ budget_of words
  pub few : s.budget ≤ most_budget
  pub seed : s.seed ≡ seed_of words
  pub resume : s.resume ≡ resumes words
  pub gap : s.gap ≡ gap_of words
  pub most : s.gap ≤ most_gap
  pub grunts : s.grunts ≡ grunts_of words
  pub some : least_grunts ≤ s.grunts
  pub team : s.grunts ≤ most_grunts
  pub lose : s.lose ≡ lose_of words
  pub lost : s.lose ≤ most_lose
  pub twice : s.twice ≡ is_twice words
  pub late : s.late ≡ is_late words

-- the words say this call of `verify`
pub record SaysVerify (words : List Text) (v : VerifyWords) : Type 0 where
  pub named : command_word words ≡ codes "verify"
  pub instance : string_bytes v.instance ≡ instance_word words
  pub proof : string_bytes v.proof ≡ proof_word words

-- the words say this call of `tour`
pub record SaysTour (words : List Text) (t : TourWords) : Type 0 where
  pub named : command_word words ≡ codes "tour"
  pub instance : string_bytes t.instance ≡ instance_word words
  pub seed : t.seed ≡ seed_of words

-- the words say this call of `bench`
pub record SaysBench (words : List Text) (b : BenchWords) : Type 0 where
  pub named : command_word words ≡ codes "bench"
  pub seed : b.seed ≡ seed_of words
  pub cities : b.cities ≡ cities_of words
  pub enough : least_cities ≤ b.cities
  pub fits : b.cities ≤ most_cities
  pub budget : b.budget ≡ budget_of words
  pub few : b.budget ≤ most_budget
  pub out : string_bytes b.out ≡ out_word words

-- the words say this call of `replay`
pub record SaysReplay (words : List Text) (r : ReplayWords) : Type 0 where
  pub named : command_word words ≡ codes "replay"
  pub instance : string_bytes r.instance ≡ instance_word words
  pub tape : string_bytes r.tape ≡ tape_word words
  pub budget : r.budget ≡ budget_of words
  pub few : r.budget ≤ most_budget
  pub grunts : r.grunts ≡ grunts_of words
  pub some : least_grunts ≤ r.grunts
  pub team : r.grunts ≤ most_grunts

-- the words say this call of `bound`
pub record SaysBound (words : List Text) (b : BoundWords) : Type 0 where
  pub named : command_word words ≡ codes "bound"
  pub instance : string_bytes b.instance ≡ instance_word words
  pub cert : string_bytes b.cert ≡ cert_word words
  pub steps : b.steps ≡ steps_of words
  pub few : b.steps ≤ most_steps

-- the words say this call of `checkbound`
pub record SaysCheckbound (words : List Text) (b : CheckboundWords) : Type 0 where
  pub named : command_word words ≡ codes "checkbound"
  pub instance : string_bytes b.instance ≡ instance_word words
  pub cert : string_bytes b.cert ≡ cert_word words

-- the words of the verifier say these paths
pub record SaysPaths (words : List Text) (v : VerifyWords) : Type 0 where
  pub instance : string_bytes v.instance ≡ verifier_word (codes "instance") words
  pub proof : string_bytes v.proof ≡ verifier_word (codes "proof") words

-- the words say this command
abbrev pub Says : List Text → Command → Type 0
Says words (command.Solve s) = SaysSolve words s
Says words (command.Verify v) = SaysVerify words v
Says words (command.Tour t) = SaysTour words t
Says words (command.Bench b) = SaysBench words b
Says words (command.Replay r) = SaysReplay words r
Says words (command.Bound b) = SaysBound words b
Says words (command.Checkbound b) = SaysCheckbound words b
