-- Reports of a sure worker, and what taking them does.
use Rattle.std.proofs.Common.{ℕ, ◌<◌, ◌≤◌, List, None, refl, subst, arith}
use Rattle.std.proofs.lemmas.Int.{ints}
use Rattle.tspdef.specs.Instances.{Instance}
use Rattle.tspdef.specs.Paths.{Condition}
use Rattle.branchx.specs.declared.branch.Branch.TheVariants as branch
use Rattle.branchx.specs.declared.branch.Branch as branches
use Rattle.pricer.specs.declared.closing.Report.{Report}
use Rattle.pricer.specs.declared.closing.Report.TheVariants as content
use Rattle.treebook.specs.Tables.{IsOpen, MaySplit, path_at, tree_of}
use Rattle.treebook.specs.Tree.{branch_of}
use Rattle.treebook.specs.Laws.{OpenNodesAreOpenLeaves, ClosingKeepsTables, SplittingKeepsTables}
use Rattle.bossx.specs.declared.brought.Brought.TheVariants.{Plain}
use Rattle.bossx.specs.Books.{Book, level, path_in, taken}
use Rattle.bossx.specs.Judging.{BranchFits, ReportFits, Suffices, MayBeTaken}
use Rattle.bossx.specs.Kept.{IsTreeOf}
use Rattle.worker.specs.Splits.{Splits, StayForMore}
use Rattle.worker.specs.Works.{IsReport, SplitsOnly}
use Rattle.tspround.specs.Splits.{kinds_of}
use Rattle.tspround.specs.Alone.{IsSplitBy, HasProperSet, report_over}
use Rattle.tspround.proofs.Growing.{closing_grows, splitting_grows}

-- ---- they are taken

pub has_proper_set : (i : Instance) (path : List Condition) (l : ℕ) (r : Report) → IsReport i path l r → HasProperSet i.n r
has_proper_set i path l (content.Closed c) is = tt
has_proper_set i path l (content.Split (branch.Edge u v)) is = tt
has_proper_set i path l (content.Split (branch.Clique set)) is = is.0

pub report_fits : (i : Instance) (path : List Condition) (l : ℕ) (r : Report) → IsReport i path l r → ReportFits i.n path (report_over i.n r)
report_fits i path l (content.Closed c) is = is.fits
report_fits i path l (content.Split (branch.Edge u v)) is = record { pair = is.0; undecided = is.1 }
report_fits i path l (content.Split (branch.Clique set)) is = record { cities = refl; proper = is.0; is_new = is.1 }

report_suffices : (b : Book) (node : ℕ) (r : Report) → IsReport b.instance (path_in b node) (level b) r → Suffices b node (report_over b.instance.n r)
report_suffices b node (content.Closed c) is = is.exceeds
report_suffices b node (content.Split (branch.Edge u v)) is = tt
report_suffices b node (content.Split (branch.Clique set)) is = tt

pub may_be_taken : (b : Book) (node : ℕ) (r : Report) → IsOpen b.tree.nodes node → b.settled < b.budget → IsReport b.instance (path_in b node) (level b) r
    → MayBeTaken b node (Plain (report_over b.instance.n r))
may_be_taken b node r is_open left is = record {
  ready = record { is_open = is_open; left = left };
  fits = report_fits b.instance (path_in b node) (level b) r is;
  suffices = report_suffices b node r is;
}

-- what suffices for a length does for a shorter one
pub report_lower : (i : Instance) (path : List Condition) (l m : ℕ) (r : Report) → m ≤ l → IsReport i path l r → IsReport i path m r
report_lower i path l m (content.Closed c) le is = record { fits = is.fits; exceeds = let e = is.exceeds in omega (arith, ints) }
report_lower i path l m (content.Split b) le is = is

-- ---- and the tree grows

branch_may_split : (n : ℕ) (path : List Condition) (b : branches.Branch) → BranchFits n path b → MaySplit n path (branch_of b)
branch_may_split n path (branch.Edge u v) fits = (fits.pair, fits.undecided)
branch_may_split n path (branch.Clique set) fits = fits.proper

-- a set over other cities is the same one in a tree
pub over_splits : (S : Splits) (i : Instance) (path : List Condition) (l gap : ℕ) (r : Report) → SplitsOnly S i path l r gap → SplitsOnly S i path l (report_over i.n r) gap
over_splits S i path l gap (content.Closed c) may = tt
over_splits S i path l gap (content.Split (branch.Edge u v)) may = may
over_splits S i path l gap (content.Split (branch.Clique set)) may = may

-- a split that may be where tours of one length are known may be so where longer ones are
pub only_more : (S : Splits) → StayForMore S → (i : Instance) (path : List Condition) (l m gap : ℕ) (r : Report) → l ≤ m → SplitsOnly S i path l r gap → SplitsOnly S i path m r gap
only_more S stay i path l m gap (content.Closed c) le may = tt
only_more S stay i path l m gap (content.Split b) le may = stay i path l m (branch_of b) gap le may

pub taking_grows : OpenNodesAreOpenLeaves → ClosingKeepsTables → SplittingKeepsTables → (S : Splits) (b : Book) (node : ℕ) (r : Report) → IsTreeOf b.instance b.tree
    → MayBeTaken b node (Plain r) → SplitsOnly S b.instance (path_in b node) b.start.length r b.gap → IsSplitBy S b → IsSplitBy S (taken b None node (Plain r))
taking_grows leaves closing splitting S b node (content.Closed c) k may only g =
    let i = b.instance in
    let fits = subst (λ (pairs : List (ℕ × ℕ)). ReportFits i.n (path_at pairs b.tree.nodes node) (content.Closed c)) k.fixed may.fits in
    closing_grows leaves closing (kinds_of S i b.start.length b.gap) i.n i.fixed (tree_of b.start.nodes) b.tree.nodes node c k.is_table may.ready.is_open fits g
taking_grows leaves closing splitting S b node (content.Split by) k may only g =
    let i = b.instance in
    let fits = subst (λ (pairs : List (ℕ × ℕ)). ReportFits i.n (path_at pairs b.tree.nodes node) (content.Split by)) k.fixed may.fits in
    let so = subst (λ (pairs : List (ℕ × ℕ)). SplitsOnly S i (path_at pairs b.tree.nodes node) b.start.length (content.Split by) b.gap) k.fixed only in
    splitting_grows leaves splitting (kinds_of S i b.start.length b.gap) i.n i.fixed (tree_of b.start.nodes) b.tree.nodes node (branch_of by) k.is_table may.ready.is_open
    (branch_may_split i.n (path_at i.fixed b.tree.nodes node) by fits) so g
