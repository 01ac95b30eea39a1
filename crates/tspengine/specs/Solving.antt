-- How a call of `solve` ends.
use Rattle.std.specs.Prelude.{◌≡◌, ◌≢◌, ℕ, true, ◌⊎◌, List, [], ◌∷◌, take, Some, None, Option}
use Rattle.ports.specs.Outside.{BothTell, WhereTold}
use Rattle.ports.specs.Desk.{Told, Adds}
use Rattle.ports.specs.declared.desk.Outlet.TheVariants as outlet
use Rattle.ports.specs.Slots.{SlotsTold, with_path}
use Rattle.ports.specs.Crash.{Moment, Since, moment_of}
use Rattle.tspdef.specs.Instances.{Instance}
use Rattle.tspdef.specs.Trees.{Tree, open_leaves}
use Rattle.tspinst.specs.Texts.{InstanceText}
use Rattle.certdef.specs.Proofs.{Proof, text}
use Rattle.certdef.specs.Accepted.{tree_in}
use Rattle.resume_form.specs.Resumed.{IsResumed, IsRefused}
use Rattle.slotstore.specs.Store.{loaded, ChangesTarget}
use Rattle.slotstore.specs.Crashing.{Breaks, LoadsAs, LoadsOnly, settled}
use Rattle.tspwords.specs.Program.{IsSolveCall, instance_word, proof_word, restart_word, budget_of, gap_of, resumes}
use Rattle.verification.specs.Counts.{IsTold}
use Rattle.verification.specs.Transfers.{TouchesInstance}
use Rattle.tspengine.specs.Calls.{Call, DeskHad, DeskIs, DeskMoved, DeskTold, SlotsAre, SlotsMoved, SlotsHold, SlotsPass, IsDeskCalm, AreSlotsCalm}
use Rattle.tspengine.specs.Steps.{reads, prints, writes, TearsWriting}
use Rattle.tspengine.specs.Texts.{closed_text, stopped_text, restart_text}
use Rattle.tspengine.specs.Starts.{Start, Begins}
use Rattle.tspengine.specs.Saves.{AreBodiesOn, LoadsAsOrOneOf, after_saves}
use Rattle.tspengine.specs.Outcomes.{IsProved, IsStopped}
use Rattle.tspengine.specs.Headline.{Optimal, Within, Stopped}
use Rattle.tspengine.specs.Readings.{Refuses, TornRefusal, Unread}
use Rattle.tspengine.specs.declared.outcomes.Closed.{Closed}
use Rattle.tspengine.specs.declared.statuses.Status.{Status}
use Rattle.tspengine.specs.declared.statuses.Status.TheVariants as status

-- the first refusal of what the slots load, where a body is wanted, and its line; without a body it is no body, at line 0
abbrev pub IsRefusedLoad : Instance → ℕ → ℕ → Option (List ℕ) → ℕ → ℕ → Type 0
IsRefusedLoad i budget gap None refusal line = (refusal ≡ 1) × (line ≡ 0)
IsRefusedLoad i budget gap (Some body) refusal line = IsRefused i budget gap body refusal line

-- BadRestart: a search was to go on, and the slots hold no body to go on from. The refusal is printed.
pub record BadRestart (c : Call) : Type 0 where
  pub instance : Instance
  pub refusal : ℕ
  pub line : ℕ
  pub bytes_read : DeskHad (λ t. InstanceText t.instance instance) c
  pub asked : resumes c.words ≡ true
  pub refused : WhereTold (λ t. IsRefusedLoad instance (budget_of c.words) (gap_of c.words) (loaded t) refusal line) c.before.slots
  pub desk : DeskIs (λ t. prints (restart_text refusal line) (reads (instance_word c.words) t)) c
  pub slots : SlotsAre (λ t. settled (with_path (restart_word c.words) t)) c
  pub a_crash_leaves_what_was_there : SlotsPass (λ t. LoadsAs (moment_of t)) c

-- WriteFault then: a front of the refusal is printed.
pub record TornRestart (c : Call) : Type 0 where
  pub instance : Instance
  pub refusal : ℕ
  pub line : ℕ
  pub front : ℕ
  pub bytes_read : DeskHad (λ t. InstanceText t.instance instance) c
  pub asked : resumes c.words ≡ true
  pub refused : WhereTold (λ t. IsRefusedLoad instance (budget_of c.words) (gap_of c.words) (loaded t) refusal line) c.before.slots
  pub desk : DeskIs (λ t. prints (take front (restart_text refusal line)) (reads (instance_word c.words) t)) c
  pub slots : SlotsAre (λ t. settled (with_path (restart_word c.words) t)) c
  pub a_crash_leaves_what_was_there : SlotsPass (λ t. LoadsAs (moment_of t)) c

-- WriteFault after a search that left no node open: the outlet of proofs was not bound, or fronts were taken.
pub record TornProof (c : Call) : Type 0 where
  pub instance : Instance
  pub start : Start
  pub tour : List ℕ
  pub length : ℕ
  pub bound : ℕ
  pub proof : List ℕ
  pub saved : List Proof
  pub bytes_read : DeskHad (λ t. InstanceText t.instance instance) c
  pub begins : Begins c instance start
  pub proved : IsProved instance (budget_of c.words) (gap_of c.words) start tour length bound proof
  pub desk : DeskMoved (λ t u. TearsWriting (proof_word c.words) proof (closed_text length bound tour) (reads (instance_word c.words) t) u) c
  pub saved_bodies_go_on : AreBodiesOn instance (budget_of c.words) (gap_of c.words) start saved
  pub slots : SlotsAre (λ t. after_saves saved (settled (with_path (restart_word c.words) t))) c
  pub a_crash_leaves_a_body : SlotsPass (λ t. LoadsAsOrOneOf (moment_of t) saved) c

-- WriteFault after the budget was settled: the body was saved, and a front of the text printed.
pub record TornStopped (c : Call) : Type 0 where
  pub instance : Instance
  pub start : Start
  pub body : Proof
  pub front : ℕ
  pub saved : List Proof
  pub bytes_read : DeskHad (λ t. InstanceText t.instance instance) c
  pub begins : Begins c instance start
  pub stopped : IsStopped instance (budget_of c.words) (gap_of c.words) start body
  pub desk : DeskIs (λ t. prints (take front (stopped_text body.long (open_leaves (tree_in instance.n body)))) (reads (instance_word c.words) t)) c
  pub saved_bodies_go_on : AreBodiesOn instance (budget_of c.words) (gap_of c.words) start saved
  pub slots : SlotsAre (λ t. after_saves (body ∷ saved) (settled (with_path (restart_word c.words) t))) c
  pub slots_hold_the_body : SlotsHold (λ t. loaded t ≡ Some (text body)) c
  pub each_crash_after_it_leaves_the_body : SlotsHold (LoadsOnly (Some (text body))) c
  pub a_crash_leaves_a_body : SlotsPass (λ t. LoadsAsOrOneOf (moment_of t) (body ∷ saved)) c

-- How the slots stand where the store failed: not bound; or bound, and the store not begun on them, or not read; or bodies were saved,
-- and then the save of another one failed. If a crash left what reads gave, only the slot that a save writes may have changed.
abbrev pub HasBroken : List Proof → List ℕ → SlotsTold → SlotsTold → Type 0
HasBroken saved path t u = (u ≡ t) ⊎ Breaks ChangesTarget (with_path path t) u ⊎ Breaks ChangesTarget (after_saves saved (settled (with_path path t))) u

-- what was handed in to be saved, if a search was begun: bodies on its way
abbrev pub AreHandedIn : Call → Instance → List Proof → Type 0
AreHandedIn c i bodies = (bodies ≡ []) ⊎ ((s : Start) × (Begins c i s × AreBodiesOn i (budget_of c.words) (gap_of c.words) s bodies))

-- StoreFault: the instance was read and nothing is written or printed. No body is lost: a crash at any moment of the call, its end with
-- it, leaves slots that load what a crash at its start could have left, or a body that was handed in.
pub record Unsaved (c : Call) : Type 0 where
  pub instance : Instance
  pub saved : List Proof
  pub handed_in : List Proof
  pub bytes_read : DeskHad (λ t. InstanceText t.instance instance) c
  pub desk : DeskIs (reads (instance_word c.words)) c
  pub slots : SlotsMoved (HasBroken saved (restart_word c.words)) c
  pub bodies_go_on : AreHandedIn c instance handed_in
  pub more : (handed_in ≡ saved) ⊎ ((body : Proof) × (handed_in ≡ body ∷ saved))
  pub nothing_is_lost : SlotsPass (λ t. LoadsAsOrOneOf (moment_of t) handed_in) c

-- NoMemory: nothing is written or printed; the instance was perhaps bound and a front of it taken, and the slots perhaps bound and
-- synced, and bodies saved.
pub record Short (c : Call) : Type 0 where
  pub saved : List Proof
  pub desk : DeskMoved (TouchesInstance (instance_word c.words)) c
  pub slots : SlotsMoved (λ t u. (u ≡ t) ⊎ (u ≡ after_saves saved (settled (with_path (restart_word c.words) t)))) c
  pub bodies_go_on : (saved ≡ []) ⊎ ((i : Instance) × (DeskHad (λ t. InstanceText t.instance i) c × AreHandedIn c i saved))
  pub a_crash_leaves_a_body : SlotsPass (λ t. LoadsAsOrOneOf (moment_of t) saved) c

-- the slots were bound to a path, and the store was begun on them
pub record IsBegun (path : List ℕ) (past later : List Moment) (t u : SlotsTold) : Type 0 where
  pub settled : u ≡ settled (with_path path t)
  pub crash : Since (LoadsAs (moment_of t)) past later u

-- The slots were bound to a path and the store begun on them, and bodies were saved.
pub record HasSavedOn (path : List ℕ) (saved : List Proof) (past later : List Moment) (t u : SlotsTold) : Type 0 where
  pub slots : u ≡ after_saves saved (settled (with_path path t))
  pub crash : Since (LoadsAsOrOneOf (moment_of t) saved) past later u

-- what a search from this start has done to the slots of a call
pub record IsSearched (c : Call) (i : Instance) (s : Start) (now : Option SlotsTold) (later : List Moment) : Type 0 where
  pub saved : List Proof
  pub go_on : AreBodiesOn i (budget_of c.words) (gap_of c.words) s saved
  pub slots : BothTell (HasSavedOn (restart_word c.words) saved c.before.moments later) c.before.slots now

-- the refusal of a body is printed, or a front of it, or nothing for want of memory
abbrev pub IsRefusedCall : ℕ → ℕ → Status → Option Told → Option Told → Type 0
IsRefusedCall refusal line s a b = ((s ≡ status.BadRestart) × BothTell (Adds outlet.Text (restart_text refusal line)) a b)
    ⊎ ((s ≡ status.WriteFault) × ((k : ℕ) × BothTell (Adds outlet.Text (take k (restart_text refusal line))) a b))
    ⊎ ((s ≡ status.NoMemory) × (b ≡ a))

-- a proof is written and its tour printed, or fronts
abbrev pub IsPublished : List ℕ → Closed → Status → Option Told → Option Told → Type 0
IsPublished path c s a b = ((s ≡ status.Optimal) × ((c.bound ≡ c.length) × BothTell (λ t u. u ≡ prints c.printed.items (writes path c.proof.items t)) a b))
    ⊎ ((s ≡ status.Within) × ((c.bound ≢ c.length) × BothTell (λ t u. u ≡ prints c.printed.items (writes path c.proof.items t)) a b))
    ⊎ ((s ≡ status.WriteFault) × BothTell (TearsWriting path c.proof.items c.printed.items) a b)

-- It ends with one of these statuses, and so.
abbrev pub Solves : Status → Call → Type 0
Solves s c = ((s ≡ status.Optimal) × Optimal c)
    ⊎ ((s ≡ status.Within) × Within c)
    ⊎ ((s ≡ status.Stopped) × Stopped c)
    ⊎ ((s ≡ status.BadInstance) × Refuses c)
    ⊎ ((s ≡ status.BadRestart) × BadRestart c)
    ⊎ ((s ≡ status.ReadFault) × Unread c)
    ⊎ ((s ≡ status.WriteFault) × (TornRefusal c ⊎ TornRestart c ⊎ TornProof c ⊎ TornStopped c))
    ⊎ ((s ≡ status.StoreFault) × Unsaved c)
    ⊎ ((s ≡ status.NoMemory) × Short c)

-- a search begins anew, or the slots hold a body that it may go on from
abbrev pub MayBegin : Call → Instance → Type 0
MayBegin c i = (resumes c.words ≡ true)
    → IsTold (λ t. (body : List ℕ) × ((loaded t ≡ Some body) × ((tree : Tree) × (tour : List ℕ) × IsResumed i (budget_of c.words) (gap_of c.words) body tree tour))) c.before.slots

-- Where the bytes are an instance's text, the search may begin and nothing fails, it ends with Optimal, Within or Stopped, or for want
-- of memory.
abbrev pub SolveCompletes : Status → Call → Type 0
SolveCompletes s c = (i : Instance) → IsSolveCall c.words → DeskTold (λ t. InstanceText t.instance i) c → MayBegin c i → IsDeskCalm c → AreSlotsCalm c
    → (s ≡ status.Optimal) ⊎ (s ≡ status.Within) ⊎ (s ≡ status.Stopped) ⊎ (s ≡ status.NoMemory)

-- Where it is to go on and what the slots load is refused, it ends with BadRestart, or for want of memory.
abbrev pub RefusedCompletes : Status → Call → Type 0
RefusedCompletes s c = (i : Instance) → (refusal line : ℕ) → IsSolveCall c.words → resumes c.words ≡ true → DeskTold (λ t. InstanceText t.instance i) c
    → IsTold (λ t. IsRefusedLoad i (budget_of c.words) (gap_of c.words) (loaded t) refusal line) c.before.slots → IsDeskCalm c → AreSlotsCalm c
    → (s ≡ status.BadRestart) ⊎ (s ≡ status.NoMemory)
