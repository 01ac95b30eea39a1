-- What the boss answers to an event, and what it does to the book: a table with one row a line.
use Rattle.std.specs.Prelude.{◌≡◌, ◌≢◌, ℕ, ◌+◌, ◌<◌, ◌≤◌, ◌⊎◌, true, false, Some, None, List, [], ◌∷◌, length, ℤ, count_by, slice_get, take}
use Rattle.tspdef.specs.Tours.{steps, has_step}
use Rattle.tspdef.specs.Fixed.{AreSteps}
use Rattle.tspdef.specs.Trees.{open_leaves}
use Rattle.tspdef.specs.Instances.{IsTourOf, length_in}
use Rattle.treebook.specs.Tables.{IsOpen, IsLeastOpen, tree_of}
use Rattle.leasebook.specs.Leases.{is_held, is_lost, lease_at, of_grunt}
use Rattle.leasebook.specs.Log.{held}
use Rattle.tournament.specs.Places.{ComesFirst}
use Rattle.pricer.specs.declared.closing.Report.{Report}
use Rattle.bossx.specs.declared.brought.Brought.{Brought}
use Rattle.bossx.specs.declared.brought.Brought.TheVariants.{Plain}
use Rattle.bossx.specs.declared.replies.Asked.TheVariants as told
use Rattle.bossx.specs.declared.replies.Reported.TheVariants as judged
use Rattle.bossx.specs.declared.replies.Expiry.TheVariants as ends
use Rattle.bossx.specs.declared.replies.Offered.TheVariants as tours
use Rattle.bossx.specs.declared.replies.Front.{Front}
use Rattle.bossx.specs.declared.replies.Front.TheVariants as fronts
use Rattle.bossx.specs.Books.{Book, best_length, key_at, node_of, IsFree, released, granted, dropped, lost, taken, with_best}
use Rattle.bossx.specs.Judging.{IsSpent, IsUnfit, IsTooWeak, MayBeTaken}
use Rattle.bossx.specs.declared.events.Event.{Event}
use Rattle.bossx.specs.declared.events.Event.TheVariants as event
use Rattle.bossx.specs.declared.events.Reply.{Reply}
use Rattle.bossx.specs.declared.events.Reply.TheVariants as heard

-- a grunt that asks is one of so many, numbered from 1 on
abbrev pub IsCall : ℕ → Event → Type 0
IsCall grunts (event.Ask g) = (1 ≤ g) × (g ≤ grunts)
IsCall grunts (event.Report l w) = Unit {0}
IsCall grunts (event.Own node r) = Unit {0}
IsCall grunts (event.Gone g) = Unit {0}
IsCall grunts (event.Expire l) = Unit {0}
IsCall grunts (event.Offer t) = Unit {0}

-- ---- grunts that ask

abbrev pub count_open : Book → ℕ
count_open b = open_leaves (tree_of b.tree.nodes)

abbrev pub count_held : Book → ℕ
count_held b = held b.table

abbrev pub count_lost : Book → ℕ
count_lost b = count_by is_lost b.table.leases

-- of the free nodes the least by key and number
pub record IsFirstFree (b : Book) (node : ℕ) : Type 0 where
  pub is_free : IsFree b.tree.nodes b.table.leases node
  pub first : (j : ℕ) → IsFree b.tree.nodes b.table.leases j → ComesFirst (key_at b.keys node) node (key_at b.keys j) j

-- a node is open, the budget is not spent, and few leases were lost
pub record IsAtWork (b : Book) : Type 0 where
  pub some : 0 < count_open b
  pub left : b.settled < b.budget
  pub few : count_lost b < 256

-- every open node is held, or as many as the budget has left
abbrev pub AllIsLent : Book → Type 0
AllIsLent b = ((node : ℕ) → ¬ IsFree b.tree.nodes b.table.leases node) ⊎ (b.budget ≤ b.settled + count_held b)

-- a node may be lent, and which
pub record IsNext (b : Book) (node : ℕ) : Type 0 where
  pub work : IsAtWork b
  pub room : b.settled + count_held b < b.budget
  pub first : IsFirstFree b node

-- ---- tours that are offered

-- the first of the pairs that is no step
pub record IsFirstOff (es pairs : List (ℕ × ℕ)) (u v : ℕ) : Type 0 where
  pub place : ℕ
  pub here : slice_get pairs place ≡ Some (u, v)
  pub off : has_step es u v ≡ false
  pub before : AreSteps es (take place pairs)

-- ---- the table

-- A grunt that asks has lost the lease that it held. A report names a lease; where it is of no use although the node is open, the
-- lease is lost, if it was held. Reports of the boss itself name a node. No event has a choice.
pub data Step (b : Book) : Event → Reply → Book → Type 0 where
  ask_done : (g : ℕ) → count_open b ≡ 0 → Step b (event.Ask g) (heard.Asked told.Done) (released b g)
  ask_spent : (g : ℕ) → 0 < count_open b → b.settled ≡ b.budget → Step b (event.Ask g) (heard.Asked told.Spent) (released b g)
  ask_home : (g : ℕ) → 0 < count_open b → b.settled < b.budget → 256 ≤ count_lost (released b g) → Step b (event.Ask g) (heard.Asked told.Home) (released b g)
  ask_not_yet : (g : ℕ) → IsAtWork (released b g) → AllIsLent (released b g) → Step b (event.Ask g) (heard.Asked told.NotYet) (released b g)
  ask_leased : (g node : ℕ) → IsNext (released b g) node → Step b (event.Ask g) (heard.Asked (told.Leased (length b.table.leases) node (best_length b))) (granted (released b g) g node)
  report_unknown : (l : ℕ) (w : Brought) → length b.table.leases ≤ l → Step b (event.Report l w) (heard.Reported judged.Unknown) b
  report_stale : (l : ℕ) (w : Brought) → l < length b.table.leases → ¬ IsOpen b.tree.nodes (node_of b l) → Step b (event.Report l w) (heard.Reported judged.Stale) b
  report_spent : (l : ℕ) (w : Brought) → l < length b.table.leases → IsSpent b (node_of b l) → Step b (event.Report l w) (heard.Reported judged.Spent) (dropped b l)
  report_misfit : (l : ℕ) (w : Brought) (k : ℕ) → l < length b.table.leases → IsUnfit b (node_of b l) w k → Step b (event.Report l w) (heard.Reported (judged.Misfit k)) (dropped b l)
  report_weak : (l : ℕ) (w : Brought) (it need : ℤ) → l < length b.table.leases → IsTooWeak b (node_of b l) w it need → Step b (event.Report l w) (heard.Reported (judged.Weak it need)) (dropped b l)
  report_taken : (l : ℕ) (w : Brought) → l < length b.table.leases → MayBeTaken b (node_of b l) w → Step b (event.Report l w) (heard.Reported judged.Taken) (taken b (Some l) (node_of b l) w)
  own_stale : (node : ℕ) (r : Report) → ¬ IsOpen b.tree.nodes node → Step b (event.Own node r) (heard.Reported judged.Stale) b
  own_spent : (node : ℕ) (r : Report) → IsSpent b node → Step b (event.Own node r) (heard.Reported judged.Spent) b
  own_misfit : (node : ℕ) (r : Report) (k : ℕ) → IsUnfit b node (Plain r) k → Step b (event.Own node r) (heard.Reported (judged.Misfit k)) b
  own_weak : (node : ℕ) (r : Report) (it need : ℤ) → IsTooWeak b node (Plain r) it need → Step b (event.Own node r) (heard.Reported (judged.Weak it need)) b
  own_taken : (node : ℕ) (r : Report) → MayBeTaken b node (Plain r) → Step b (event.Own node r) (heard.Reported judged.Taken) (taken b None node (Plain r))
  gone_idle : (g : ℕ) → of_grunt b.table.leases g ≡ None → Step b (event.Gone g) (heard.Went None) b
  gone_lost : (g l : ℕ) → of_grunt b.table.leases g ≡ Some l → Step b (event.Gone g) (heard.Went (Some l)) (lost b l)
  expire_unknown : (l : ℕ) → length b.table.leases ≤ l → Step b (event.Expire l) (heard.Expired ends.Unknown) b
  expire_ended : (l : ℕ) → l < length b.table.leases → is_held (lease_at b.table.leases l) ≡ false → Step b (event.Expire l) (heard.Expired ends.NotHeld) b
  expire_lost : (l : ℕ) → l < length b.table.leases → is_held (lease_at b.table.leases l) ≡ true → Step b (event.Expire l) (heard.Expired ends.Expired) (lost b l)
  offer_other_size : (t : List ℕ) → length t ≢ b.instance.n → Step b (event.Offer t) (heard.Offered tours.OtherSize) b
  offer_off_fixed : (t : List ℕ) (u v : ℕ) → length t ≡ b.instance.n → IsFirstOff (steps t) b.instance.fixed u v → Step b (event.Offer t) (heard.Offered (tours.OffFixed u v)) b
  offer_not_shorter : (t : List ℕ) → IsTourOf b.instance t → best_length b ≤ length_in b.instance t → Step b (event.Offer t) (heard.Offered (tours.NotShorter (best_length b))) b
  offer_better : (t : List ℕ) → IsTourOf b.instance t → length_in b.instance t < best_length b → Step b (event.Offer t) (heard.Offered tours.Better) (with_best b t)

-- events in turn
pub data Run : Book → List Event → List Reply → Book → Type 0 where
  run_ends : (b : Book) → Run b [] [] b
  run_goes_on : (b mid new : Book) (e : Event) (r : Reply) (es : List Event) (rs : List Reply) → Step b e r mid → Run mid es rs new → Run b (e ∷ es) (r ∷ rs) new

-- what the boss would work on itself: the open node with the least number
abbrev pub IsInFront : Book → Front → Type 0
IsInFront b fronts.Done = count_open b ≡ 0
IsInFront b fronts.Spent = (0 < count_open b) × (b.settled ≡ b.budget)
IsInFront b (fronts.Node k) = (b.settled < b.budget) × IsLeastOpen b.tree.nodes k
