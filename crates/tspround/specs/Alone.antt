-- What one worker does to a boss's book.
use Rattle.std.specs.Prelude.{◌≡◌, ℕ, ◌+◌, ◌≤◌, ◌⊎◌, List, Option, None}
use Rattle.tspdef.specs.Sets.{IsProper}
use Rattle.cyc.specs.CitySet.{Members}
use Rattle.branchx.specs.declared.branch.Branch.TheVariants as branch
use Rattle.pricer.specs.declared.closing.Report.{Report}
use Rattle.pricer.specs.declared.closing.Report.TheVariants as content
use Rattle.treebook.specs.Tables.{tree_of}
use Rattle.bossx.specs.declared.brought.Brought.TheVariants.{Plain}
use Rattle.bossx.specs.declared.events.Event.{Event}
use Rattle.bossx.specs.declared.events.Event.TheVariants as event
use Rattle.bossx.specs.declared.events.Reply.{Reply}
use Rattle.bossx.specs.declared.replies.Front.TheVariants as fronts
use Rattle.bossx.specs.Books.{Book, best_length, taken}
use Rattle.bossx.specs.Steps.{Run, run_ends, run_goes_on, IsInFront, count_open}
use Rattle.bossx.specs.Laws.{IsSameStart}
use Rattle.worker.specs.Splits.{Splits}
use Rattle.worker.specs.Works.{best_after}
use Rattle.tspround.specs.Splits.{SplitSince}

-- Of each node split since the start the branch is one that may be where tours are known of the length that the boss started with.
abbrev pub IsSplitBy : Splits → Book → Type 0
IsSplitBy S b = SplitSince S b.instance b.start.length b.gap (tree_of b.start.nodes) (tree_of b.tree.nodes)

-- a tour is offered, or the boss itself reports on the node that is in front: the open one with the least number
abbrev pub IsOwn : Book → Event → Type 0
IsOwn b (event.Ask grunt) = ⊥
IsOwn b (event.Report lease what) = ⊥
IsOwn b (event.Own node what) = IsInFront b (fronts.Node node)
IsOwn b (event.Gone grunt) = ⊥
IsOwn b (event.Expire lease) = ⊥
IsOwn b (event.Offer tour) = Unit {0}

-- each event is one of these where it comes
abbrev pub AllOwn : (b : Book) (es : List Event) (rs : List Reply) (new : Book) → Run b es rs new → Type 0
AllOwn b es rs new (run_ends b') = Unit {0}
AllOwn b es rs new (run_goes_on b' mid new' e r es' rs' step rest) = IsOwn b' e × AllOwn mid es' rs' new rest

-- events that lead from one book to another: tours that are offered, and reports of the boss itself on the node in front
pub record IsOwnRun (b new : Book) : Type 0 where
  pub events : List Event
  pub replies : List Reply
  pub run : Run b events replies new
  pub own : AllOwn b events replies new run

-- No node is open, or the budget is spent, or as many nodes more are settled as there were to be turns.
abbrev pub HasEnded : ℕ → Book → Book → Type 0
HasEnded turns b new = (count_open new ≡ 0) ⊎ ((new.settled ≡ new.budget) ⊎ (new.settled ≡ b.settled + turns))

-- What so many turns of a worker do to a book. Each turn settles a node.
pub record IsAlone (S : Splits) (turns : ℕ) (b new : Book) : Type 0 where
  pub run : IsOwnRun b new
  pub start : IsSameStart b new
  pub no_longer : best_length new ≤ best_length b
  pub least : b.settled ≤ new.settled
  pub most : new.settled ≤ b.settled + turns
  pub ended : HasEnded turns b new
  pub splits : IsSplitBy S new

-- what so many turns have done
pub record IsSoFar (S : Splits) (count : ℕ) (b new : Book) : Type 0 where
  pub run : IsOwnRun b new
  pub start : IsSameStart b new
  pub no_longer : best_length new ≤ best_length b
  pub settled : new.settled ≡ b.settled + count
  pub splits : IsSplitBy S new

-- what one turn does
pub record IsTurn (S : Splits) (b new : Book) : Type 0 where
  pub run : IsOwnRun b new
  pub start : IsSameStart b new
  pub no_longer : best_length new ≤ best_length b
  pub settled : new.settled ≡ b.settled + 1
  pub splits : IsSplitBy S b → IsSplitBy S new

-- what an offer of a tour does, if one was found
pub record IsOffered (tour : Option (List ℕ)) (b new : Book) : Type 0 where
  pub run : IsOwnRun b new
  pub start : IsSameStart b new
  pub tree : new.tree ≡ b.tree
  pub settled : new.settled ≡ b.settled
  pub best : best_length new ≡ best_after b.instance (best_length b) tour

-- what a report that is taken does
pub record IsReported (node : ℕ) (r : Report) (b new : Book) : Type 0 where
  pub run : IsOwnRun b new
  pub taken : new ≡ taken b None node (Plain r)

-- the set by which a report splits a node, if there is one, is a proper set of n cities
abbrev pub HasProperSet : ℕ → Report → Type 0
HasProperSet n (content.Closed c) = Unit {0}
HasProperSet n (content.Split (branch.Edge u v)) = Unit {0}
HasProperSet n (content.Split (branch.Clique set)) = IsProper n set.cities

-- the same cities as a set of n cities
abbrev pub set_over : ℕ → Members → Members
set_over n set = record { n = n; cities = set.cities }

-- A report with its set, if it splits by one, as a set of n cities.
abbrev pub report_over : ℕ → Report → Report
report_over n (content.Closed c) = content.Closed c
report_over n (content.Split (branch.Edge u v)) = content.Split (branch.Edge u v)
report_over n (content.Split (branch.Clique set)) = content.Split (branch.Clique (set_over n set))
