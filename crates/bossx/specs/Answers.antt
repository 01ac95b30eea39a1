-- What the calls answer, one by one: the rows of the table of steps, for bodies that go through its cases.
use Rattle.std.specs.Prelude.{◌≡◌, ℕ, ◌+◌, ◌<◌, ◌≤◌, ◌==◌, ◌||◌, cond, List, length, Option, Some, None, ℤ, pos}
use Rattle.tspdef.specs.Bounds.{bound}
use Rattle.tournament.specs.Places.{Places, key_of}
use Rattle.treebook.specs.Tables.{Node, IsOpen, path_at, MaySplit}
use Rattle.treebook.specs.Tree.{branch_of}
use Rattle.treebook.specs.Tree as trees
use Rattle.tspdef.specs.Closings.{Fits}
use Rattle.pricer.specs.declared.closing.Report.{Report}
use Rattle.pricer.specs.declared.closing.Report.TheVariants.{Closed, Split}
use Rattle.bossx.specs.declared.brought.Brought.{Brought}
use Rattle.bossx.specs.declared.replies.Reported.{Reported}
use Rattle.bossx.specs.declared.replies.Reported.TheVariants as judged
use Rattle.bossx.specs.declared.replies.Asked.{Asked}
use Rattle.bossx.specs.declared.replies.Asked.TheVariants as told
use Rattle.bossx.specs.Books.{Book, best_length, path_in, node_of, granted, dropped, taken}
use Rattle.bossx.specs.Steps.{count_open, count_lost, IsAtWork, AllIsLent, IsNext}

-- the answers to a grunt that holds no lease
abbrev pub IsAnswer : Book → ℕ → Asked → Book → Type 0
IsAnswer b g told.Done new = (count_open b ≡ 0) × (new ≡ b)
IsAnswer b g told.Spent new = (0 < count_open b) × (b.settled ≡ b.budget) × (new ≡ b)
IsAnswer b g told.Home new = (0 < count_open b) × (b.settled < b.budget) × (256 ≤ count_lost b) × (new ≡ b)
IsAnswer b g told.NotYet new = IsAtWork b × AllIsLent b × (new ≡ b)
IsAnswer b g (told.Leased lease node best) new = IsNext b node × (lease ≡ length b.table.leases) × (best ≡ best_length b) × (new ≡ granted b g node)

-- what the answer to a report leaves
abbrev pub reported_after : Book → ℕ → Brought → Reported → Book
reported_after b l w judged.Unknown = b
reported_after b l w judged.Stale = b
reported_after b l w judged.Spent = dropped b l
reported_after b l w (judged.Misfit k) = dropped b l
reported_after b l w (judged.Weak it need) = dropped b l
reported_after b l w judged.Taken = taken b (Some l) (node_of b l) w

-- what the answer to a report of the boss itself leaves
abbrev pub own_after : Book → ℕ → Brought → Reported → Book
own_after b node w judged.Unknown = b
own_after b node w judged.Stale = b
own_after b node w judged.Spent = b
own_after b node w (judged.Misfit k) = b
own_after b node w (judged.Weak it need) = b
own_after b node w judged.Taken = taken b None node w

-- a node may be closed, or split, as a report says
abbrev pub MaySettle : trees.Table → ℕ → Report → Type 0
MaySettle t node (Closed c) = Fits t.n (path_at t.fixed t.nodes node) c
MaySettle t node (Split branch) = MaySplit t.n (path_at t.fixed t.nodes node) (branch_of branch)

-- the number is the bound of what is reported, a closing
abbrev pub IsBoundOf : Book → ℕ → Report → ℤ → Type 0
IsBoundOf b node (Closed c) y = y ≡ bound b.instance (path_in b node) c
IsBoundOf b node (Split branch) y = ⊥

-- the numbers that take part are the open nodes below a number, with key 0
pub record AreOpenBelow (nodes : List Node) (n : ℕ) (places : Places) : Type 0 where
  pub told : (k : ℕ) (y : ℤ) → key_of places k ≡ Some y → (k < n) × IsOpen nodes k × (y ≡ pos 0)
  pub all : (k : ℕ) → k < n → IsOpen nodes k → key_of places k ≡ Some (pos 0)

-- what a settled node does to who takes part: it does not any more, and its children do, with a key
abbrev pub key_after : Places → List Node → ℕ → Report → ℤ → ℕ → Option ℤ
key_after places nodes node (Closed c) key k = cond (k == node) None (key_of places k)
key_after places nodes node (Split branch) key k = cond ((k == length nodes) || (k == length nodes + 1)) (Some key) (cond (k == node) None (key_of places k))
