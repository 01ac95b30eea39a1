-- A boss that works for a command.
use Rattle.std.specs.Prelude.{◌≡◌, ℕ, ◌+◌, ◌*◌, ◌-◌, ◌≤◌, List, length}
use Rattle.tspdef.specs.Tours.{IsCanonicalForm}
use Rattle.tspdef.specs.Instances.{Instance}
use Rattle.tspdef.specs.Paths.{root}
use Rattle.tspdef.specs.Trees.{Covers, open_leaves, settled}
use Rattle.treebook.specs.Tables.{tree_of}
use Rattle.certdef.specs.Proofs.{Proof, text}
use Rattle.certdef.specs.Accepted.{HasForm, IsAcceptedText, from_zero, tree_in}
use Rattle.certdef.specs.Restarts.{IsSoundProof}
use Rattle.worker.specs.Splits.{IsNeededSplit}
use Rattle.bossx.specs.Books.{Book, best_length}
use Rattle.tspround.specs.Alone.{IsSplitBy}
use Rattle.tspengine.specs.Growth.{HasGrown}
use Rattle.tspengine.specs.Starts.{Start}
use Rattle.tspengine.specs.Outcomes.{Bears}

-- what the book began with
abbrev pub start_in : Book → Start
start_in b = record { tree = tree_of b.start.nodes; long = b.start.length }

-- There is room for what the budget lets settle, and each split since the start was needed.
pub record IsSearch (b : Book) : Type 0 where
  pub few : length b.start.nodes + 2 * b.budget ≤ 1048576
  pub splits : IsSplitBy IsNeededSplit b

-- A search of an instance, with this budget and gap.
pub record IsSearchOf (i : Instance) (budget gap : ℕ) (b : Book) : Type 0 where
  pub search : IsSearch b
  pub same_instance : b.instance ≡ i
  pub same_budget : b.budget ≡ budget
  pub same_gap : b.gap ≡ gap

-- The bytes are the text of a value that says the book: its best tour's length, a bound, and its tree.
pub record IsTextOfBook (b : Book) (bound : ℕ) (bytes : List ℕ) : Type 0 where
  pub value : Proof
  pub is_text : bytes ≡ text value
  pub tour : IsCanonicalForm b.best (from_zero value.tour)
  pub form : HasForm b.instance.n value
  pub sound : IsSoundProof b.instance value.long bound value
  pub long : value.long ≡ best_length b
  pub near : value.long ≤ bound + b.gap
  pub no_longer : value.long ≤ b.start.length
  pub covers : Covers b.instance (tree_in b.instance.n value) (value.long - b.gap)
  pub opened : open_leaves (tree_in b.instance.n value) ≡ open_leaves (tree_of b.tree.nodes)
  pub settled : settled (tree_in b.instance.n value) ≡ settled (tree_of b.start.nodes) + b.settled
  pub within : b.settled ≤ b.budget
  pub bears : Bears b.instance value.long bound value
  pub accepted : open_leaves (tree_of b.tree.nodes) ≡ 0 → IsAcceptedText b.instance (text value) value.long bound
  pub grown : HasGrown (λ path br. IsNeededSplit b.instance path b.start.length br b.gap) (root b.instance) (tree_of b.start.nodes) (tree_in b.instance.n value)
