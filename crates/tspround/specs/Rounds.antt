-- Rounds in threads: what the lock of a boss keeps.
use Rattle.std.specs.Prelude.{◌≡◌, ℕ, ◌+◌, ◌<◌, ◌≤◌, ◌^◌, List, [], length, ℤ}
use Rattle.std.specs.List.{sum_by}
use Rattle.branchx.specs.Path.{Conditions}
use Rattle.pricer.specs.declared.closing.Report.{Report}
use Rattle.bossx.specs.declared.events.Event.{Event}
use Rattle.bossx.specs.declared.events.Event.TheVariants as event
use Rattle.bossx.specs.declared.events.Reply.{Reply}
use Rattle.bossx.specs.declared.events.Reply.TheVariants as heard
use Rattle.bossx.specs.declared.replies.Asked.TheVariants as told
use Rattle.bossx.specs.Books.{Book, best_length, path_in, node_of, content_of}
use Rattle.bossx.specs.Steps.{Run}
use Rattle.bossx.specs.Laws.{IsSameStart}
use Rattle.worker.specs.Splits.{Splits}
use Rattle.worker.specs.Works.{BeginsAt, SplitsOnly, cliques}
use Rattle.tspround.specs.declared.order.Order.{Order}
use Rattle.tspround.specs.declared.seat.Counts.{Counts}
use Rattle.tspround.specs.declared.serving.Given.{Given}
use Rattle.tspround.specs.declared.serving.Given.TheVariants.{Leave, Again, Work}
use Rattle.tspround.specs.Alone.{IsSplitBy}

-- a book that no boss has: what a name stands for before a round picks its own
abbrev pub no_book : Book
no_book = record {
  instance = record { n = 0; table = []; fixed = [] };
  tree = record { n = 0; fixed = []; nodes = []; room = 0 };
  keys = [];
  table = record { leases = []; log = []; lease_room = 0; entry_room = 0; grunts = 0; nodes = 0 };
  best = [];
  settled = 0;
  budget = 0;
  grunts = 0;
  gap = 0;
  start = record { nodes = []; length = 0 };
}

-- what the lock holds: the book, and how many leases were granted and reports taken since the round opened
pub record Holding : Type 0 where
  pub book : Book
  pub granted : ℕ
  pub taken : ℕ

-- events that lead from one book to another
pub record IsRun (b new : Book) : Type 0 where
  pub events : List Event
  pub replies : List Reply
  pub run : Run b events replies new

-- What holds of a book under the lock, where the round opened with another: events led to it, by so many grants and takes; its
-- start is the other's, and its best tour no longer; and each node split since the boss's start is one that the worker may split.
pub record IsReached (S : Splits) (opening b : Book) (grants takes : ℕ) : Type 0 where
  pub run : IsRun opening b
  pub start : IsSameStart opening b
  pub no_longer : best_length b ≤ best_length opening
  pub granted : length b.table.leases ≡ length opening.table.leases + grants
  pub taken : b.settled ≡ opening.settled + takes
  pub splits : IsSplitBy S b

-- an event may come where a split that it brings is one that the worker may make at the node, at the length that the boss started with
abbrev pub MayComeIn : Splits → Book → Event → Type 0
MayComeIn S b (event.Ask g) = Unit {0}
MayComeIn S b (event.Report l w) = l < length b.table.leases → SplitsOnly S b.instance (path_in b (node_of b l)) b.start.length (content_of w) b.gap
MayComeIn S b (event.Own node r) = SplitsOnly S b.instance (path_in b node) b.start.length r b.gap
MayComeIn S b (event.Gone g) = Unit {0}
MayComeIn S b (event.Expire l) = Unit {0}
MayComeIn S b (event.Offer t) = Unit {0}

-- where a node was lent, it is there, and the best length was told with it
abbrev pub WasLent : Reply → Book → Type 0
WasLent (heard.Asked told.Done) new = Unit {0}
WasLent (heard.Asked told.Spent) new = Unit {0}
WasLent (heard.Asked told.Home) new = Unit {0}
WasLent (heard.Asked told.NotYet) new = Unit {0}
WasLent (heard.Asked (told.Leased lease node best)) new = (node < length new.tree.nodes) × (best ≡ best_length new)
WasLent (heard.Reported a) new = Unit {0}
WasLent (heard.Went a) new = Unit {0}
WasLent (heard.Expired a) new = Unit {0}
WasLent (heard.Offered a) new = Unit {0}

-- a node that was lent in a round that opened with a book: its path is one of the instance, and the best length no longer than at the start
pub record IsOrder (opening : Book) (o : Order) : Type 0 where
  pub cities : o.path.n ≡ opening.instance.n
  pub begins : BeginsAt opening.instance o.path.conditions
  pub few : cliques o.path.conditions ≤ 2 ^ 21
  pub best : o.best ≤ opening.start.length
  pub short : o.best < 2 ^ 42

-- if there is a node to work on
abbrev pub IfWork : (Order → Type 0) → Given → Type 0
IfWork P Leave = Unit {0}
IfWork P Again = Unit {0}
IfWork P (Work order) = P order

-- a report, on its way
pub record Message : Type 0 where
  pub lease : ℕ
  pub node : ℕ
  pub path : Conditions
  pub report : Report
  pub hint : ℤ

-- the path is over the instance's cities, and a split is one that may be there, at the length that the boss started with
pub record IsFair (S : Splits) (opening : Book) (path : Conditions) (r : Report) : Type 0 where
  pub cities : path.n ≡ opening.instance.n
  pub splits : SplitsOnly S opening.instance path.conditions opening.start.length r opening.gap

-- how many leases grunts were granted in all, and how many of their reports were taken
abbrev pub granted_by : List Counts → ℕ
granted_by counts = sum_by (λ (c : Counts). c.granted) counts

abbrev pub taken_by : List Counts → ℕ
taken_by counts = sum_by (λ (c : Counts). c.taken) counts

-- What a round does to a book. The grants and takes of its log since the round opened are the sums of what the grunts count.
abbrev pub IsRound : Splits → Book → Book → List Counts → Type 0
IsRound S b new counts = IsReached S b new (granted_by counts) (taken_by counts)
