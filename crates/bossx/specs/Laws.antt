-- The laws of books.
use Rattle.std.specs.Prelude.{◌≡◌, ℕ, ◌+◌, ◌-◌, ◌*◌, ◌<◌, ◌≤◌, ◌↔◌, ◌<ℤ◌, ℤ, min, List, length}
use Rattle.std.specs.List.{sum_by}
use Rattle.tspdef.specs.Closings.{Fits}
use Rattle.tspdef.specs.Bounds.{bound, needed}
use Rattle.tspdef.specs.Instances.{IsTourOf, length_in}
use Rattle.tspdef.specs.Trees.{Covers}
use Rattle.treebook.specs.Tables.{tree_of}
use Rattle.branchx.specs.declared.branch.Branch.{Branch}
use Rattle.pricer.specs.declared.closing.Report.{Report}
use Rattle.pricer.specs.declared.closing.Report.TheVariants.{Closed, Split}
use Rattle.pricer.specs.Priced.{PricedClosing, IsPriced}
use Rattle.bossx.specs.declared.brought.Brought.TheVariants.{Plain, Hinted, Weighed}
use Rattle.bossx.specs.declared.events.Event.{Event}
use Rattle.bossx.specs.declared.events.Event.TheVariants as event
use Rattle.bossx.specs.declared.events.Reply.{Reply}
use Rattle.bossx.specs.declared.events.Reply.TheVariants as heard
use Rattle.bossx.specs.declared.replies.Asked.{Asked}
use Rattle.bossx.specs.declared.replies.Asked.TheVariants as told
use Rattle.bossx.specs.declared.replies.Reported.{Reported}
use Rattle.bossx.specs.declared.replies.Reported.TheVariants as judged
use Rattle.bossx.specs.Books.{Book, best_length, level, path_in, node_of}
use Rattle.bossx.specs.Judging.{BranchFits, IsAtHome, IsReady}
use Rattle.bossx.specs.Steps.{Step, Run}
use Rattle.bossx.specs.Kept.{IsBook}

-- whatever the event and its data, a book that is one stays one
abbrev pub StepsKeepBooks : Type 0
StepsKeepBooks = (b new : Book) (e : Event) (r : Reply) → Step b e r new → IsBook b → IsBook new

-- and so for any list of events
abbrev pub RunsKeepBooks : Type 0
RunsKeepBooks = (b new : Book) (es : List Event) (rs : List Reply) → Run b es rs new → IsBook b → IsBook new

-- what a book counts stays within what its budget allows
pub record IsSmall (b : Book) : Type 0 where
  pub settled : b.settled ≤ b.budget
  pub grants : length b.table.leases ≤ b.budget + 256
  pub nodes : length b.tree.nodes ≤ length b.start.nodes + 2 * b.budget
  pub entries : length b.table.log ≤ 3 * b.budget + 512

abbrev pub BooksStaySmall : Type 0
BooksStaySmall = (b : Book) → IsBook b → IsSmall b

-- each tour below the level obeys the path of an open node
abbrev pub BooksCover : Type 0
BooksCover = (b : Book) → IsBook b → Covers b.instance (tree_of b.tree.nodes) (level b)

-- ---- what is charged

-- how many leases are granted with a reply
abbrev pub grants_of : Asked → ℕ
grants_of told.Done = 0
grants_of told.Spent = 0
grants_of told.Home = 0
grants_of told.NotYet = 0
grants_of (told.Leased lease node best) = 1

abbrev pub granted_with : Reply → ℕ
granted_with (heard.Asked a) = grants_of a
granted_with (heard.Reported a) = 0
granted_with (heard.Went a) = 0
granted_with (heard.Expired a) = 0
granted_with (heard.Offered a) = 0

-- how many reports are taken with a reply
abbrev pub takes_of : Reported → ℕ
takes_of judged.Unknown = 0
takes_of judged.Stale = 0
takes_of judged.Spent = 0
takes_of (judged.Misfit k) = 0
takes_of (judged.Weak it need) = 0
takes_of judged.Taken = 1

abbrev pub taken_with : Reply → ℕ
taken_with (heard.Asked a) = 0
taken_with (heard.Reported a) = takes_of a
taken_with (heard.Went a) = 0
taken_with (heard.Expired a) = 0
taken_with (heard.Offered a) = 0

-- what no event changes
pub record IsSameStart (b new : Book) : Type 0 where
  pub instance : new.instance ≡ b.instance
  pub budget : new.budget ≡ b.budget
  pub grunts : new.grunts ≡ b.grunts
  pub gap : new.gap ≡ b.gap
  pub start : new.start ≡ b.start

-- Settled nodes rise by one where a report is taken, and nothing else changes the tree; leases rise by one where one is granted. The
-- best tour never gets longer.
pub record IsChargedFor (b new : Book) (r : Reply) : Type 0 where
  pub settled : new.settled ≡ b.settled + taken_with r
  pub tree : taken_with r ≡ 0 → new.tree ≡ b.tree
  pub grants : length new.table.leases ≡ length b.table.leases + granted_with r
  pub no_longer : best_length new ≤ best_length b
  pub start : IsSameStart b new

abbrev pub StepsCharge : Type 0
StepsCharge = (b new : Book) (e : Event) (r : Reply) → Step b e r new → IsChargedFor b new r

-- and so for any list of events
pub record IsChargedForAll (b new : Book) (rs : List Reply) : Type 0 where
  pub settled : new.settled ≡ b.settled + sum_by taken_with rs
  pub grants : length new.table.leases ≡ length b.table.leases + sum_by granted_with rs
  pub no_longer : best_length new ≤ best_length b
  pub start : IsSameStart b new

abbrev pub RunsCharge : Type 0
RunsCharge = (b new : Book) (es : List Event) (rs : List Reply) → Run b es rs new → IsChargedForAll b new rs

-- ---- no choice

-- The book and the event determine the reply and the next book.
abbrev pub StepsHaveNoChoice : Type 0
StepsHaveNoChoice = (b n m : Book) (e : Event) (r s : Reply) → Step b e r n → Step b e s m → (r ≡ s) × (n ≡ m)

-- The book and the events determine the replies and the last book.
abbrev pub RunsHaveNoChoice : Type 0
RunsHaveNoChoice = (b n m : Book) (es : List Event) (rs ss : List Reply) → Run b es rs n → Run b es ss m → (rs ≡ ss) × (n ≡ m)

-- ---- reports of those who priced, or worked

-- A closing that was priced for the book's instance, and on the path of the lease's node, is answered as the closing alone is.
abbrev pub PricedAreReported : Type 0
PricedAreReported = (b new : Book) (l : ℕ) (p : PricedClosing) (r : Reply) → IsPriced p → IsAtHome b (node_of b l) p
    → Step b (event.Report l (Weighed p)) r new ↔ Step b (event.Report l (Plain (Closed p.closing))) r new

-- what is reported settles a node where tours of length l are sought to be beaten: a closing that fits and whose bound is more than
-- l needs, or a branch that fits
abbrev pub SettlesFor : Book → ℕ → ℕ → Report → Type 0
SettlesFor b node l (Closed c) = Fits b.instance.n (path_in b node) c × (needed l <ℤ (bound b.instance (path_in b node) c))
SettlesFor b node l (Split branch) = BranchFits b.instance.n (path_in b node) branch

-- a report on a node is taken, whoever brings it, with a hint or without
pub record IsTakenNow (b : Book) (node : ℕ) (r : Report) : Type 0 where
  pub by_lease : (l : ℕ) (s : Reply) (new : Book) → l < length b.table.leases → node_of b l ≡ node → Step b (event.Report l (Plain r)) s new → s ≡ heard.Reported judged.Taken
  pub hinted : (l : ℕ) (branch : Branch) (hint : ℤ) (s : Reply) (new : Book) → l < length b.table.leases → node_of b l ≡ node → r ≡ Split branch
      → Step b (event.Report l (Hinted branch hint)) s new → s ≡ heard.Reported judged.Taken
  pub by_boss : (s : Reply) (new : Book) → Step b (event.Own node r) s new → s ≡ heard.Reported judged.Taken

-- Where the best tour was no longer than some length when work on a node began, what the work reports is taken while the node is open
-- and the budget not spent: at once where no tour was found, and else once the tour is offered.
pub record SureReportsAreTaken : Type 0 where
  pub none : (b : Book) (node best : ℕ) (r : Report) → IsReady b node → best_length b ≤ best → SettlesFor b node (best - b.gap) r → IsTakenNow b node r
  pub found : (b mid : Book) (node best : ℕ) (tour : List ℕ) (r : Report) (s : Reply) → IsReady b node → best_length b ≤ best → IsTourOf b.instance tour
      → Step b (event.Offer tour) s mid → SettlesFor b node (min best (length_in b.instance tour) - b.gap) r → IsTakenNow mid node r
