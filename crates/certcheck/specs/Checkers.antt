-- A checker that is fed a text in pieces.
use Rattle.std.specs.Prelude.{◌≡◌, ℕ, ◌+◌, Bool, not, List, ◌∷◌, length}
use Rattle.tspdef.specs.Instances.{Instance}
use Rattle.tspdef.specs.Paths.{branches}
use Rattle.branchx.specs.declared.cond.Cond.{Cond}
use Rattle.branchx.specs.Cond.{condition_of, is_fixed}
use Rattle.certdef.specs.Tests.{verifier}
use Rattle.certdef.specs.Verdicts.{no, Stage, wants_cut, wants_handle, wants_tooth, wants_odd_handle, wants_pair, wants_trees, wants_duals}
use Rattle.certdef.specs.Bytes.{Reading, reads, start, bytes_on, verdict}
use Rattle.certcheck.specs.declared.answer.Trouble.{Trouble}
use Rattle.certcheck.specs.declared.answer.Trouble.TheVariants as troubles
use Rattle.certcheck.specs.declared.sizes.Sizes.{Sizes}

-- what contracts see of a checker: its instance, and where the reading of the text stands
pub record Checking : Type 0 where
  pub instance : Instance
  pub reading : Reading

-- the checker has been fed these bytes, and nothing is refused in them
abbrev pub HasRead : Checking → List ℕ → Type 0
HasRead c fed = bytes_on (verifier c.instance) (reads start) fed ≡ reads c.reading

-- the verdict on the text is this refusal, or memory ran out
abbrev pub IsRefusalOf : Instance → Trouble → List ℕ → Type 0
IsRefusalOf i troubles.NoMemory text = Unit {0}
IsRefusalOf i (troubles.Refused k at) text = verdict i text ≡ no k at

-- the splits above the tree that comes next, or above the leaf that is read: those whose second child has not ended
abbrev pub depth_at : Stage → ℕ
depth_at (wants_trees h (p ∷ ps)) = length (branches p)
depth_at (wants_duals h ps o a b c) = length (branches o.path)
depth_at _ = 0

-- the condition is a split's, and no fixed pair
abbrev pub is_split : Cond → Bool
is_split c = not (is_fixed (condition_of c))

-- the cuts that are listed whole
abbrev pub cuts_at : Stage → ℕ
cuts_at (wants_cut h m) = length h.cuts
cuts_at (wants_handle h m from t) = length h.cuts
cuts_at (wants_tooth h m from t s ts) = length h.cuts
cuts_at (wants_odd_handle h m from t) = length h.cuts
cuts_at (wants_pair h m from t s ps) = length h.cuts
cuts_at (wants_trees h ps) = length h.cuts
cuts_at (wants_duals h ps o a b c) = length h.cuts
cuts_at _ = 0

-- of the leaf that is read the lines behind its first; of a comb its handle and its teeth so far, of an odd cut its handle and its
-- pairs so far
abbrev pub leaf_at : Stage → ℕ
leaf_at (wants_tooth h m from t s ts) = 1 + length ts
leaf_at (wants_pair h m from t s ps) = 1 + length ps
leaf_at (wants_duals h ps o a b c) = length o.duals.cities + (length o.duals.cuts + length o.duals.conds)
leaf_at _ = 0

abbrev pub sizes_of : Reading → Sizes
sizes_of r = record { depth = depth_at r.stage; cuts = cuts_at r.stage; leaf = leaf_at r.stage; line = length r.begun }
