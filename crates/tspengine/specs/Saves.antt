-- What a search saves on its way, and what a crash may leave then.
use Rattle.std.specs.Prelude.{◌≡◌, ℕ, ◌+◌, ◌-◌, ◌<◌, ◌≤◌, ◌⊎◌, List, [], ◌∷◌, Option, Some}
use Rattle.std.specs.List.{AllByRecursion}
use Rattle.ports.specs.Slots.{SlotsTold}
use Rattle.ports.specs.Crash.{Moment, MayLeave, Since, moment_of}
use Rattle.tspdef.specs.Instances.{Instance}
use Rattle.tspdef.specs.Paths.{root}
use Rattle.tspdef.specs.Trees.{Covers, open_leaves, settled}
use Rattle.certdef.specs.Proofs.{Proof, text}
use Rattle.certdef.specs.Accepted.{HasForm, tree_in}
use Rattle.certdef.specs.Restarts.{IsSoundProof}
use Rattle.worker.specs.Splits.{IsNeededSplit}
use Rattle.tspengine.specs.Growth.{HasGrown}
use Rattle.slotstore.specs.Store.{loaded, after_save, ChangesTarget}
use Rattle.slotstore.specs.Crashing.{Breaks, MayLoad, settled as synced}
use Rattle.tspengine.specs.Starts.{Start}

-- The tree of the body has grown from the start's by splits that were needed for the length of the start's tour, and is sound for a
-- bound that misses the body's length by no more than the gap. So each tour that is shorter than the body's by more than the gap lies
-- under an open leaf, and there is one. No more nodes than the budget are settled beside those of the start.
pub record IsBodyOn (i : Instance) (budget gap : ℕ) (s : Start) (body : Proof) : Type 0 where
  pub form : HasForm i.n body
  pub bound : ℕ
  pub sound : IsSoundProof i body.long bound body
  pub near : body.long ≤ bound + gap
  pub no_longer : body.long ≤ s.long
  pub covers : Covers i (tree_in i.n body) (body.long - gap)
  pub some_open : 0 < open_leaves (tree_in i.n body)
  pub few : settled (tree_in i.n body) ≤ settled s.tree + budget
  pub grown : HasGrown (λ path b. IsNeededSplit i path s.long b gap) (root i) s.tree (tree_in i.n body)

-- each of some bodies is one on the way
abbrev pub AreBodiesOn : Instance → ℕ → ℕ → Start → List Proof → Type 0
AreBodiesOn i budget gap s bodies = AllByRecursion (IsBodyOn i budget gap s) bodies

-- slots after some bodies were saved, the last first
abbrev pub after_saves : List Proof → SlotsTold → SlotsTold
after_saves [] t = t
after_saves (body ∷ older) t = after_save (text body) (synced (after_saves older t))

-- it is the text of one of some bodies
abbrev pub IsOneOf : List Proof → Option (List ℕ) → Type 0
IsOneOf [] bytes = ⊥
IsOneOf (body ∷ bodies) bytes = (bytes ≡ Some (text body)) ⊎ IsOneOf bodies bytes

-- a crash at a moment leaves what one at an earlier moment could have left, or one of some bodies
abbrev pub LoadsAsOrOneOf : Moment → List Proof → Moment → Type 0
LoadsAsOrOneOf before bodies m = (left : SlotsTold) → MayLeave m left → MayLoad before (loaded left) ⊎ IsOneOf bodies (loaded left)

-- Bodies were saved to slots, one after the other, the last first.
pub record HasSaved (bodies : List Proof) (past later : List Moment) (t u : SlotsTold) : Type 0 where
  pub slots : u ≡ after_saves bodies t
  pub crash : Since (LoadsAsOrOneOf (moment_of t) bodies) past later u

-- Bodies were saved, and then a save of one more failed; if a crash left what the slots gave before it, only the slot that a save writes
-- may have changed.
pub record HasFailed (bodies : List Proof) (body : Proof) (past later : List Moment) (t u : SlotsTold) : Type 0 where
  pub slots : Breaks ChangesTarget (after_saves bodies t) u
  pub crash : Since (LoadsAsOrOneOf (moment_of t) (body ∷ bodies)) past later u
