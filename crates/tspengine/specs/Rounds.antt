-- The rounds of a search, and what they save.
use Rattle.std.specs.Prelude.{◌≡◌, ℕ, ◌+◌, ◌-◌, ◌<◌, List, [], ◌∷◌, Result, Ok, Err}
use Rattle.ports.specs.Slots.{SlotsTold}
use Rattle.ports.specs.Crash.{Moment, Since, moment_of}
use Rattle.tspdef.specs.Trees.{open_leaves}
use Rattle.treebook.specs.Tables.{tree_of}
use Rattle.certdef.specs.Proofs.{Proof}
use Rattle.bossx.specs.Books.{Book}
use Rattle.bossx.specs.Laws.{IsSameStart}
use Rattle.tspengine.specs.Saves.{IsBodyOn, AreBodiesOn, LoadsAsOrOneOf, HasSaved, HasFailed}
use Rattle.tspengine.specs.Searches.{start_in, IsSearch}
use Rattle.tspengine.specs.declared.starting.Halt.{Halt}
use Rattle.tspengine.specs.declared.starting.Halt.TheVariants as halt

-- no node is open, or the budget is settled
abbrev pub HasEnded : Book → Type 0
HasEnded b = 0 < open_leaves (tree_of b.tree.nodes) → b.settled ≡ b.budget

-- a search from the same start
pub record IsFurther (old new : Book) : Type 0 where
  pub start : IsSameStart old new
  pub search : IsSearch new

-- Where the search goes on, less is left of it: rounds, and nodes that the budget lets settle.
abbrev pub IsOnward : Book → ℕ → Book → ℕ → Type 0
IsOnward b left new fewer = 0 < open_leaves (tree_of new.tree.nodes) → new.settled < new.budget → fewer + (new.budget - new.settled) < left + (b.budget - b.settled)

-- leases were lost, and nothing else changed
pub record IsDismissed (b new : Book) : Type 0 where
  pub start : IsSameStart b new
  pub tree : new.tree ≡ b.tree
  pub settled : new.settled ≡ b.settled

-- a body on the way of a book's search
abbrev pub IsBodyFrom : Book → Proof → Type 0
IsBodyFrom b body = IsBodyOn b.instance b.budget b.gap (start_in b) body

abbrev pub AreBodiesFrom : Book → List Proof → Type 0
AreBodiesFrom b bodies = AreBodiesOn b.instance b.budget b.gap (start_in b) bodies

-- nothing was written to the slots
pub record KeepsSlots (past later : List Moment) (t u : SlotsTold) : Type 0 where
  pub slots : u ≡ t
  pub crash : Since (LoadsAsOrOneOf (moment_of t) []) past later u

-- one body was saved
pub record SavesOne (b : Book) (past later : List Moment) (t u : SlotsTold) : Type 0 where
  pub body : Proof
  pub is_body : IsBodyFrom b body
  pub saved : HasSaved (body ∷ []) past later t u

-- the save of one body failed
pub record FailsToSave (b : Book) (past later : List Moment) (t u : SlotsTold) : Type 0 where
  pub body : Proof
  pub is_body : IsBodyFrom b body
  pub failed : HasFailed [] body past later t u

-- bodies were saved, one after the other
pub record SavesSome (b : Book) (past later : List Moment) (t u : SlotsTold) : Type 0 where
  pub bodies : List Proof
  pub are_bodies : AreBodiesFrom b bodies
  pub saved : HasSaved bodies past later t u

-- bodies were saved, and the save of a last one failed
pub record SavesUntil (b : Book) (past later : List Moment) (t u : SlotsTold) : Type 0 where
  pub bodies : List Proof
  pub body : Proof
  pub are_bodies : AreBodiesFrom b (body ∷ bodies)
  pub failed : HasFailed bodies body past later t u

-- what a search does to the slots
abbrev pub Searches : Result Book Halt → Book → List Moment → List Moment → SlotsTold → SlotsTold → Type 0
Searches (Ok new) b past later t u = SavesSome b past later t u
Searches (Err halt.NoMemory) b past later t u = SavesSome b past later t u
Searches (Err halt.StoreFault) b past later t u = SavesUntil b past later t u
