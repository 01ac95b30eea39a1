-- Which nodes may be split: those that zero duals do not close, and where a pair is undecided.
use Rattle.std.specs.Prelude.{ℕ, ◌-◌, ◌<◌, ◌≤◌, List, ◌≤ℤ◌}
use Rattle.std.proofs.Common.{arith}
use Rattle.std.proofs.lemmas.Int.{ints}
use Rattle.tspdef.specs.Instances.{Instance}
use Rattle.tspdef.specs.Paths.{Condition, DecidesAll}
use Rattle.tspdef.specs.Bounds.{bound, needed}
use Rattle.tspdef.specs.Rays.{zero_closing}
use Rattle.treebook.specs.Tables.{Branch, on_edge, on_clique}

-- The length that closings are to show where tours of length l are known and a gap is allowed: no tour shorter than this is left. It
-- is 0 where the gap is greater.
abbrev pub level : ℕ → ℕ → ℕ
level l gap = l - gap

-- at a node with this path not every pair is decided, and all duals 0 do not close it for tours of length l
pub record IsOpenQuestion (i : Instance) (l : ℕ) (path : List Condition) : Type 0 where
  pub undecided : ¬ DecidesAll i.n path
  pub weak : bound i path (zero_closing i.n) ≤ℤ needed l

-- the branch is on a pair
abbrev pub IsEdge : Branch → Type 0
IsEdge (on_edge u v) = Unit {0}
IsEdge (on_clique s) = ⊥

-- a node whose split is needed, where tours of length l are known and for a gap: it is an open question at the level, and below six
-- cities the branch is on a pair
pub record IsNeededSplit (i : Instance) (path : List Condition) (l : ℕ) (b : Branch) (gap : ℕ) : Type 0 where
  pub question : IsOpenQuestion i (level l gap) path
  pub edge : i.n < 6 → IsEdge b

-- when a node of an instance with this path may be split by a branch, where tours of a length are known, and for a gap
abbrev pub Splits : Type 1
Splits = Instance → List Condition → ℕ → Branch → ℕ → Type 0

-- what may be split where tours of a length are known may be so where the known ones are longer
abbrev pub StayForMore : Splits → Type 0
StayForMore S = (i : Instance) (path : List Condition) (l m : ℕ) (b : Branch) (gap : ℕ) → l ≤ m → S i path l b gap → S i path m b gap

-- what zero duals do not close for a length they do not for a longer one
pub needed_splits_stay : StayForMore IsNeededSplit
needed_splits_stay i path l m b gap le q = record {
  question = record { undecided = q.question.undecided; weak = let w = q.question.weak in omega (arith, ints) };
  edge = q.edge;
}
