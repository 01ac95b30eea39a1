-- How a call of `bench` ends.
use Rattle.std.specs.Prelude.{◌≡◌, ◌≤◌, ℕ, ◌⊎◌, List}
use Rattle.clap.specs.Walk.{Text}
use Rattle.tspdef.specs.Instances.{Instance}
use Rattle.tspdef.specs.Trees.{open_leaves}
use Rattle.treebook.specs.Tables.{tree_of}
use Rattle.certdef.specs.Proofs.{Proof, text}
use Rattle.certdef.specs.Accepted.{tree_in}
use Rattle.tspwords.specs.Program.{IsBenchCall, out_word, cities_of, budget_of}
use Rattle.bossx.specs.Books.{Book}
use Rattle.tspengine.specs.Calls.{Call, DeskMoved, SlotsKept, IsDeskCalm}
use Rattle.tspengine.specs.Steps.{TearsWriting}
use Rattle.tspengine.specs.Texts.{length_text, stopped_text}
use Rattle.tspengine.specs.Drawn.{drawn_by}
use Rattle.tspengine.specs.Starts.{Start, BeginsAnew}
use Rattle.tspengine.specs.Searches.{start_in, IsSearchOf}
use Rattle.tspengine.specs.Rounds.{HasEnded}
use Rattle.tspengine.specs.Outcomes.{IsOutcome, IsProved, IsStopped}
use Rattle.tspengine.specs.Headline.{Benched, BenchStopped}
use Rattle.tspengine.specs.declared.outcomes.Outcome.{Outcome}
use Rattle.tspengine.specs.declared.statuses.Status.{Status}
use Rattle.tspengine.specs.declared.statuses.Status.TheVariants as status

-- a search that began anew, without a gap, and has ended
pub record IsFound (i : Instance) (budget : ℕ) (b : Book) : Type 0 where
  pub search : IsSearchOf i budget 0 b
  pub anew : BeginsAnew i (start_in b)
  pub ended : HasEnded b
  pub small : i.n ≤ 5 → 2047 ≤ budget → open_leaves (tree_of b.tree.nodes) ≡ 0

-- what came of it
pub record IsBenchOutcome (i : Instance) (budget : ℕ) (o : Outcome) : Type 0 where
  pub start : Start
  pub anew : BeginsAnew i start
  pub outcome : IsOutcome i budget 0 start o

-- WriteFault after a search that left no node open: the outlet of proofs was not bound, or fronts were taken.
pub record TornBenched (c : Call) : Type 0 where
  pub start : Start
  pub tour : List ℕ
  pub length : ℕ
  pub proof : List ℕ
  pub anew : BeginsAnew (drawn_by c.words) start
  pub proved : IsProved (drawn_by c.words) (budget_of c.words) 0 start tour length length proof
  pub desk : DeskMoved (TearsWriting (out_word c.words) proof (length_text length)) c
  pub slots : SlotsKept c

-- WriteFault after the budget was settled: the same of the body.
pub record TornBenchStopped (c : Call) : Type 0 where
  pub start : Start
  pub body : Proof
  pub anew : BeginsAnew (drawn_by c.words) start
  pub stopped : IsStopped (drawn_by c.words) (budget_of c.words) 0 start body
  pub desk : DeskMoved (TearsWriting (out_word c.words) (text body) (stopped_text body.long (open_leaves (tree_in (drawn_by c.words).n body)))) c
  pub slots : SlotsKept c

-- NoMemory: nothing is done.
pub record Unbenched (c : Call) : Type 0 where
  pub desk : c.after.desk ≡ c.before.desk
  pub slots : SlotsKept c

-- five cities at most have ten pairs, so this budget is never spent while a node is open
pub record IsSmallBench (words : List Text) : Type 0 where
  pub few : cities_of words ≤ 5
  pub enough : 2047 ≤ budget_of words

-- It ends with one of these statuses, and so.
abbrev pub Benches : Status → Call → Type 0
Benches s c = ((s ≡ status.Benched) × Benched c)
    ⊎ ((s ≡ status.BenchStopped) × BenchStopped c × ¬ IsSmallBench c.words)
    ⊎ ((s ≡ status.WriteFault) × (TornBenched c ⊎ TornBenchStopped c))
    ⊎ ((s ≡ status.NoMemory) × Unbenched c)

-- Where nothing fails, it ends with Benched or BenchStopped, or for want of memory.
abbrev pub BenchCompletes : Status → Call → Type 0
BenchCompletes s c = IsBenchCall c.words → IsDeskCalm c → (s ≡ status.Benched) ⊎ (s ≡ status.BenchStopped) ⊎ (s ≡ status.NoMemory)

-- Where the instance is small as well, it ends with Benched, or for want of memory.
abbrev pub SmallBenchCompletes : Status → Call → Type 0
SmallBenchCompletes s c = IsBenchCall c.words → IsSmallBench c.words → IsDeskCalm c → (s ≡ status.Benched) ⊎ (s ≡ status.NoMemory)
