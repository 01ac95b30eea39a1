-- What is answered to a report on a node. The answers are tested in this order: the node is not open; the budget is spent; the
-- report does not fit; its bound is too small; and else it is taken.
use Rattle.std.specs.Prelude.{◌≡◌, ℕ, ◌<◌, false, List, ℤ, ◌<ℤ◌, ◌≤ℤ◌}
use Rattle.tspdef.specs.Sets.{IsProper}
use Rattle.tspdef.specs.Paths.{Condition, IsPair, is_decided, IsNew}
use Rattle.tspdef.specs.Closings.{Fits, IsMisfit}
use Rattle.tspdef.specs.Bounds.{bound, needed}
use Rattle.treebook.specs.Tables.{IsOpen}
use Rattle.branchx.specs.declared.branch.Branch.{Branch}
use Rattle.branchx.specs.declared.branch.Branch.TheVariants.{Edge, Clique}
use Rattle.cyc.specs.CitySet.{Members}
use Rattle.pricer.specs.declared.closing.Report.{Report}
use Rattle.pricer.specs.declared.closing.Report.TheVariants.{Closed, Split}
use Rattle.pricer.specs.Priced.{PricedClosing}
use Rattle.bossx.specs.declared.brought.Brought.{Brought}
use Rattle.bossx.specs.declared.brought.Brought.TheVariants.{Plain, Hinted, Weighed}
use Rattle.bossx.specs.declared.replies.Reported.{Reported}
use Rattle.bossx.specs.declared.replies.Reported.TheVariants as told
use Rattle.bossx.specs.Books.{Book, level, path_in, content_of}

-- two cities, the lower one first, of which the path says nothing yet
pub record IsUndecided (n : ℕ) (path : List Condition) (u v : ℕ) : Type 0 where
  pub pair : IsPair n u v
  pub undecided : is_decided path u v ≡ false

-- a proper set of the n cities, on which the path has no condition, nor on its complement
pub record IsNewSet (n : ℕ) (path : List Condition) (set : Members) : Type 0 where
  pub cities : set.n ≡ n
  pub proper : IsProper n set.cities
  pub is_new : IsNew n path set.cities

-- a branch by which a node with this path may be split
abbrev pub BranchFits : ℕ → List Condition → Branch → Type 0
BranchFits n path (Edge u v) = IsUndecided n path u v
BranchFits n path (Clique set) = IsNewSet n path set

-- what is wrong with a branch: 5 with a pair, 6 with a set
abbrev pub IsBranchMisfit : ℕ → List Condition → Branch → ℕ → Type 0
IsBranchMisfit n path (Edge u v) k = (k ≡ 5) × ¬ IsUndecided n path u v
IsBranchMisfit n path (Clique set) k = (k ≡ 6) × ¬ IsNewSet n path set

abbrev pub ReportFits : ℕ → List Condition → Report → Type 0
ReportFits n path (Closed c) = Fits n path c
ReportFits n path (Split branch) = BranchFits n path branch

-- the least that is wrong with a report: 1 to 4 with a closing, 5 and 6 with a branch
abbrev pub IsReportMisfit : ℕ → List Condition → Report → ℕ → Type 0
IsReportMisfit n path (Closed c) k = IsMisfit n path c k
IsReportMisfit n path (Split branch) k = IsBranchMisfit n path branch k

-- a closing was priced for the book's instance, and on the node's path
pub record IsAtHome (b : Book) (node : ℕ) (p : PricedClosing) : Type 0 where
  pub instance : p.instance ≡ b.instance
  pub path : p.path ≡ record { n = b.instance.n; conditions = path_in b node }

-- what is brought fits the node
abbrev pub BroughtFits : Book → ℕ → Brought → Type 0
BroughtFits b node (Plain r) = ReportFits b.instance.n (path_in b node) r
BroughtFits b node (Hinted branch hint) = BranchFits b.instance.n (path_in b node) branch
BroughtFits b node (Weighed p) = IsAtHome b node p × Fits b.instance.n (path_in b node) p.closing

-- the least that is wrong with it; 7: a closing was priced elsewhere
abbrev pub IsMisfitOf : Book → ℕ → Brought → ℕ → Type 0
IsMisfitOf b node (Plain r) k = IsReportMisfit b.instance.n (path_in b node) r k
IsMisfitOf b node (Hinted branch hint) k = IsBranchMisfit b.instance.n (path_in b node) branch k
IsMisfitOf b node (Weighed p) k = (k ≡ 7) × ¬ IsAtHome b node p

-- a closing's bound is no more than what is needed; both numbers are told
abbrev pub IsWeak : Book → ℕ → Report → ℤ → ℤ → Type 0
IsWeak b node (Closed c) it need = (it ≡ bound b.instance (path_in b node) c) × (need ≡ needed (level b)) × (it ≤ℤ need)
IsWeak b node (Split branch) it need = ⊥

-- a closing's bound is more than what is needed; a branch needs none
abbrev pub Suffices : Book → ℕ → Report → Type 0
Suffices b node (Closed c) = needed (level b) <ℤ (bound b.instance (path_in b node) c)
Suffices b node (Split branch) = Unit {0}

-- the node is open, and the budget not spent
pub record IsReady (b : Book) (node : ℕ) : Type 0 where
  pub is_open : IsOpen b.tree.nodes node
  pub left : b.settled < b.budget

-- the node is open, and the budget is spent
pub record IsSpent (b : Book) (node : ℕ) : Type 0 where
  pub is_open : IsOpen b.tree.nodes node
  pub spent : b.settled ≡ b.budget

pub record IsUnfit (b : Book) (node : ℕ) (what : Brought) (k : ℕ) : Type 0 where
  pub ready : IsReady b node
  pub misfit : IsMisfitOf b node what k

pub record IsTooWeak (b : Book) (node : ℕ) (what : Brought) (it need : ℤ) : Type 0 where
  pub ready : IsReady b node
  pub fits : BroughtFits b node what
  pub weak : IsWeak b node (content_of what) it need

pub record MayBeTaken (b : Book) (node : ℕ) (what : Brought) : Type 0 where
  pub ready : IsReady b node
  pub fits : BroughtFits b node what
  pub suffices : Suffices b node (content_of what)

-- what is brought for a node is answered so
abbrev pub IsJudged : Book → ℕ → Brought → Reported → Type 0
IsJudged b node what told.Unknown = ⊥
IsJudged b node what told.Stale = ¬ IsOpen b.tree.nodes node
IsJudged b node what told.Spent = IsSpent b node
IsJudged b node what (told.Misfit k) = IsUnfit b node what k
IsJudged b node what (told.Weak it need) = IsTooWeak b node what it need
IsJudged b node what told.Taken = MayBeTaken b node what
