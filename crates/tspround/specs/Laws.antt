-- The laws of a worker's turns.
use Rattle.std.specs.Prelude.{◌≡◌, ℕ, ◌*◌, ◌≤◌, ◌⊎◌, List, Option, Some, None}
use Rattle.tspdef.specs.Trees.{open_leaves}
use Rattle.treebook.specs.Tables.{tree_of}
use Rattle.bossx.specs.declared.brought.Brought.TheVariants.{Plain}
use Rattle.bossx.specs.declared.events.Event.TheVariants as event
use Rattle.bossx.specs.declared.events.Reply.{Reply}
use Rattle.bossx.specs.declared.events.Reply.TheVariants as heard
use Rattle.bossx.specs.declared.replies.Offered.{Offered}
use Rattle.bossx.specs.declared.replies.Reported.TheVariants.{Taken}
use Rattle.bossx.specs.Books.{Book, best_length, path_in, taken}
use Rattle.bossx.specs.Judging.{IsReady}
use Rattle.bossx.specs.Steps.{Step, count_open}
use Rattle.bossx.specs.Kept.{IsBook}
use Rattle.worker.specs.Splits.{IsNeededSplit}
use Rattle.worker.specs.Works.{IsWork}
use Rattle.worker.specs.declared.work.Work.{Work}
use Rattle.tspround.specs.Alone.{IsSplitBy, report_over}

-- the tour that work found is offered, if it found one
abbrev pub IsOffer : Book → Option (List ℕ) → Book → Type 0
IsOffer b None mid = mid ≡ b
IsOffer b (Some tour) mid = (reply : Offered) × Step b (event.Offer tour) (heard.Offered reply) mid

-- What sure work on a node reports is taken while the node is open and the budget is not spent, once the tour that it found is offered:
-- also where the best tour became shorter since the work began.
abbrev pub SureWorkIsTaken : Type 0
SureWorkIsTaken = (b mid new : Book) (node best : ℕ) (w : Work) (reply : Reply) → IsReady b node → best_length b ≤ best → IsWork b.instance (path_in b node) best b.gap w
    → IsOffer b w.tour mid → Step mid (event.Own node (report_over b.instance.n w.report)) reply new
    → (reply ≡ heard.Reported Taken) × (new ≡ taken mid None node (Plain (report_over b.instance.n w.report)))

-- Five cities have ten pairs, so a tree that is split by undecided pairs alone has at most 2,047 nodes: a boss whose budget has so
-- many for each node that was open at the start ends with none open.
abbrev pub FewCitiesEnd : Type 0
FewCitiesEnd = (b : Book) → IsBook b → b.instance.n ≤ 5 → IsSplitBy IsNeededSplit b → 2047 * open_leaves (tree_of b.start.nodes) ≤ b.budget
    → (count_open b ≡ 0) ⊎ (b.settled ≡ b.budget) → count_open b ≡ 0
