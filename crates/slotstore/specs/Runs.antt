-- Lists of calls of a store on slots that tell, with crashes anywhere, and what the slots may load after them.
use Rattle.std.specs.Prelude.{◌≡◌, ℕ, ◌⊎◌, List, [], ◌∷◌, ◌++◌, Option, Some, Result, Ok, Err, Contains}
use Rattle.std.specs.Global.{Vec}
use Rattle.ports.specs.Slots.{SlotsTold}
use Rattle.ports.specs.Crash.{Moment, MayLeave, Since, moment_of}
use Rattle.slotstore.specs.Crashing.{LoadsAs, LoadsAsOr, LoadsOnly, MayLoad}
use Rattle.slotstore.specs.Loads.{items_of}
use Rattle.slotstore.specs.Store.{loaded}

-- slots, and the moments before, the last first
pub record Point : Type 0 where
  pub slots : SlotsTold
  pub past : List Moment

abbrev pub point : SlotsTold → List Moment → Point
point t past = record { slots = t; past = past }

-- a call and its outcome: what a begin found, what a load gave, what a save was to write
pub data Call : Type 0 where
  Begun : Option (List ℕ) → Call
  NotBegun : Call
  Loaded : Option (List ℕ) → Call
  NotLoaded : Call
  Saved : List ℕ → Call
  NotSaved : List ℕ → Call

-- the calls by their results
abbrev pub begun : {T E : Type 0} → Result T E → Option (List ℕ) → Call
begun (Ok store) found = Begun found
begun (Err e) found = NotBegun

abbrev pub loads_so : {E : Type 0} → Result (Option (Vec ℕ)) E → Call
loads_so (Ok body) = Loaded (items_of body)
loads_so (Err e) = NotLoaded

abbrev pub saves_so : {T E : Type 0} → Result T E → List ℕ → Call
saves_so (Ok done) body = Saved body
saves_so (Err e) body = NotSaved body

-- a begin: every crash after it leaves what it found, and one at a moment of it what one at its start could have left
pub record Begins (found : Option (List ℕ)) (p q : Point) : Type 0 where
  pub finds : found ≡ loaded p.slots
  pub kept : LoadsOnly found q.slots
  pub crash : Since (LoadsAs (moment_of p.slots)) p.past q.past q.slots

-- a save: every crash after it leaves the body, and one at a moment of it also what one at its start could have left
pub record Saves (body : List ℕ) (p q : Point) : Type 0 where
  pub kept : LoadsOnly (Some body) q.slots
  pub crash : Since (LoadsAsOr (moment_of p.slots) body) p.past q.past q.slots

-- what a call does, as the clauses of `begin`, `load` and `save` say
abbrev pub Does : Call → Point → Point → Type 0
Does (Begun found) p q = Begins found p q
Does NotBegun p q = Since (LoadsAs (moment_of p.slots)) p.past q.past q.slots
Does (Loaded body) p q = (body ≡ loaded p.slots) × (q ≡ p)
Does NotLoaded p q = q ≡ p
Does (Saved body) p q = Saves body p q
Does (NotSaved body) p q = Since (LoadsAsOr (moment_of p.slots) body) p.past q.past q.slots

-- a moment of a call: one of those since it began, or the one at its end
pub record IsMomentOf (p q : Point) (m : Moment) : Type 0 where
  pub between : List Moment
  pub past : q.past ≡ between ++ p.past
  pub one : Contains between m ⊎ (m ≡ moment_of q.slots)

-- slots after a crash at a moment: none of what that may leave is added
abbrev pub IsLeft : Moment → Point → Type 0
IsLeft m q = (left : SlotsTold) → MayLeave (moment_of q.slots) left → MayLeave m left

-- a crash at one of the moments that a call would have had
pub record IsCutOff (call : Call) (p q : Point) : Type 0 where
  pub end : Point
  pub does : Does call p end
  pub at : Moment
  pub is_moment : IsMomentOf p end at
  pub left : IsLeft at q

-- a call returns, or a crash comes at a moment of it, or between two calls
pub data Event : Type 0 where
  Returned : Call → Event
  Cut : Call → Event
  Crash : Event

abbrev pub Happens : Event → Point → Point → Type 0
Happens (Returned call) p q = Does call p q
Happens (Cut call) p q = IsCutOff call p q
Happens Crash p q = IsLeft (moment_of p.slots) q

-- one event after another, the last first
abbrev pub Run : Point → List Event → Point → Type 0
Run first [] now = now ≡ first
Run first (event ∷ older) now = (mid : Point) × (Run first older mid × Happens event mid now)

-- The body last acknowledged, or what the last begin found, or one that was handed in after it; before both, what a crash at the
-- start could have left.
abbrev pub IsLast : Point → List Event → Option (List ℕ) → Type 0
IsLast first [] body = MayLoad (moment_of first.slots) body
IsLast first (Returned (Begun found) ∷ older) body = body ≡ found
IsLast first (Returned (Saved saved) ∷ older) body = body ≡ Some saved
IsLast first (Returned (NotSaved handed_in) ∷ older) body = (body ≡ Some handed_in) ⊎ IsLast first older body
IsLast first (Cut (Saved handed_in) ∷ older) body = (body ≡ Some handed_in) ⊎ IsLast first older body
IsLast first (Cut (NotSaved handed_in) ∷ older) body = (body ≡ Some handed_in) ⊎ IsLast first older body
IsLast first (Returned NotBegun ∷ older) body = IsLast first older body
IsLast first (Returned (Loaded given) ∷ older) body = IsLast first older body
IsLast first (Returned NotLoaded ∷ older) body = IsLast first older body
IsLast first (Cut (Begun found) ∷ older) body = IsLast first older body
IsLast first (Cut NotBegun ∷ older) body = IsLast first older body
IsLast first (Cut (Loaded given) ∷ older) body = IsLast first older body
IsLast first (Cut NotLoaded ∷ older) body = IsLast first older body
IsLast first (Crash ∷ older) body = IsLast first older body

-- Over every list of events: what a crash leaves after it, what the slots load, what a begin finds and what a load gives.
pub record NothingIsLost : Type 0 where
  pub a_crash_leaves : (first now : Point) (events : List Event) → Run first events now → (left : SlotsTold) → MayLeave (moment_of now.slots) left → IsLast first events (loaded left)
  pub slots_load : (first now : Point) (events : List Event) → Run first events now → IsLast first events (loaded now.slots)
  pub a_begin_finds : (first now : Point) (events : List Event) (found : Option (List ℕ)) → Run first (Returned (Begun found) ∷ events) now → IsLast first events found
  pub a_load_gives : (first now : Point) (events : List Event) (given : Option (List ℕ)) → Run first (Returned (Loaded given) ∷ events) now → IsLast first events given
