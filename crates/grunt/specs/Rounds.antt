-- What is known of a node's relaxation between its rounds.
use Rattle.std.specs.Prelude.{◌≡◌, ℕ, ◌+◌, ◌*◌, ◌≤◌, ◌⊎◌, true, List, length, None, ◌<ℤ◌, ◌≤ℤ◌}
use Rattle.tspdef.specs.Instances.{Instance}
use Rattle.tspdef.specs.Paths.{Condition}
use Rattle.tspdef.specs.Closings.{Fits}
use Rattle.tspdef.specs.Bounds.{bound, needed}
use Rattle.tspdef.specs.Rays.{zero_closing}
use Rattle.simplex.specs.Lp.{is_counted}
use Rattle.nodelp.specs.Node.{Node, IsNodeLp, IsClean}
use Rattle.nodelp.specs.Duals.{closing_of, newest_duals}
use Rattle.worker.specs.declared.work.OddAnswer.{OddAnswer}
use Rattle.grunt.specs.declared.rounds.Look.{Look}
use Rattle.grunt.specs.Whys.{LacksNothingOdd}

-- a node's relaxation before any solve, with few rows
pub record IsBegun (i : Instance) (path : List Condition) (node : Node) : Type 0 where
  pub is_lp : IsNodeLp i path node
  pub unsolved : node.program.last ≡ None
  pub rounds : node.program.rounds ≡ 0
  pub rows : length node.program.rows ≤ 2164688

-- The next solve counts, not all rounds are used up, and there is room for the rows of those that are left.
pub record IsReady (i : Instance) (path : List Condition) (node : Node) : Type 0 where
  pub is_lp : IsNodeLp i path node
  pub counted : is_counted node.program ≡ true
  pub rounds : node.program.rounds ≤ 199
  pub rows : length node.program.rows ≤ 2164688 + 4096 * node.program.rounds

-- the node is solved as it stands, and the look shows the closing of its duals and the bound of that
pub record IsLook (i : Instance) (path : List Condition) (node : Node) (look : Look) : Type 0 where
  pub is_lp : IsNodeLp i path node
  pub clean : IsClean node.program
  pub closing : look.closing ≡ closing_of i.n path node (newest_duals node.program.last)
  pub fits : Fits i.n path look.closing
  pub bound_is : look.bound ≡ bound i path look.closing

-- something was added that counts, at most 4,096 rows
pub record HasGrown (i : Instance) (path : List Condition) (old new : Node) : Type 0 where
  pub is_lp : IsNodeLp i path new
  pub counted : is_counted new.program ≡ true
  pub rounds : new.program.rounds ≡ old.program.rounds
  pub rows : length new.program.rows ≤ length old.program.rows + 4096

-- the bound closes the node for tours of length l, or nothing is missing, by this answer no odd cut either, or the rounds are used up
abbrev pub HasEnded : Instance → List Condition → ℕ → Node → Look → OddAnswer → Type 0
HasEnded i path l node look a = (needed l <ℤ look.bound) ⊎ LacksNothingOdd i path node.program a ⊎ (node.program.rounds ≡ 200)

-- a node that is solved as it stands and is to be split, for tours of length l, with what a search for odd cuts answered
pub record IsStuck (i : Instance) (path : List Condition) (l : ℕ) (node : Node) (a : OddAnswer) : Type 0 where
  pub is_lp : IsNodeLp i path node
  pub clean : IsClean node.program
  pub weak : bound i path (closing_of i.n path node (newest_duals node.program.last)) ≤ℤ needed l
  pub zeros_weak : bound i path (zero_closing i.n) ≤ℤ needed l
  pub ended : LacksNothingOdd i path node.program a ⊎ (node.program.rounds ≡ 200)
