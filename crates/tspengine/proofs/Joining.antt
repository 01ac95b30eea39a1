-- From what the steps of `solve` say to what its ends say.
use Rattle.std.proofs.Common.{◌≡◌, ℕ, List, [], ◌∷◌, sym, ap, subst, ◌∙◌, ◌⊎◌, inl, inr, refl, Option, Some, None, Bool, true, false, Err}
use Rattle.ports.specs.Outside.{BothTell, WhereTold}
use Rattle.ports.specs.Desk.{Told}
use Rattle.ports.specs.Slots.{SlotsTold, with_path}
use Rattle.ports.specs.Crash.{Moment, Since, moment_of}
use Rattle.clap.specs.Walk.{Text}
use Rattle.tspdef.specs.Instances.{Instance}
use Rattle.certdef.specs.Proofs.{Proof}
use Rattle.slotstore.specs.Store.{loaded, after_save, ChangesTarget}
use Rattle.slotstore.specs.Crashing.{Breaks, LoadsAsOr, LoadsOnly, settled}
use Rattle.slotstore.proofs.Leaving.{by_bytes_is}
use Rattle.bossx.specs.Books.{Book}
use Rattle.bossx.specs.Laws.{IsSameStart}
use Rattle.tspwords.specs.Program.{instance_word, restart_word, budget_of, gap_of, resumes}
use Rattle.tspwords.specs.Says.{SaysSolve}
use Rattle.tspwords.specs.declared.words.Solve.{Solve}
use Rattle.verification.specs.Transfers.{ReadsInstance}
use Rattle.tspengine.specs.Calls.{Call, ending_with}
use Rattle.tspengine.specs.Starts.{Start, Begins, GoesOnWith}
use Rattle.tspengine.specs.Saves.{AreBodiesOn, IsBodyOn, HasSaved, HasFailed}
use Rattle.tspengine.specs.Searches.{start_in, IsSearchOf}
use Rattle.tspengine.specs.Rounds.{AreBodiesFrom, SavesSome, SavesUntil, Searches}
use Rattle.tspengine.specs.Begun.{IsBegunAnew, IsBegunWith}
use Rattle.tspengine.specs.Outcomes.{IsOutcome, IsBodyOf}
use Rattle.tspengine.specs.Solving.{IsBegun, IsSearched, IsRefusedLoad, Solves}
use Rattle.tspengine.specs.declared.starting.Search.{Search}
use Rattle.tspengine.specs.declared.starting.Begun.TheVariants as begun
use Rattle.tspengine.specs.declared.starting.Halt.{Halt}
use Rattle.tspengine.specs.declared.starting.Halt.TheVariants as halt
use Rattle.tspengine.specs.declared.outcomes.Outcome.{Outcome}
use Rattle.tspengine.specs.declared.statuses.Status.{Status}
use Rattle.tspengine.specs.declared.statuses.Status.TheVariants as status
use Rattle.tspengine.proofs.Storing.{saved_on, failed_on, last_saved, last_failed}
use Rattle.tspengine.proofs.Rounds.{same_start}
use Rattle.tspengine.proofs.Solves.{IsSaved, load_failed, save_failed, short_begin, short_search}

-- ---- what the slots load

loaded_same : (path : List ℕ) (t : SlotsTold) → loaded (settled (with_path path t)) ≡ loaded t
loaded_same path t = by_bytes_is (settled (with_path path t)) ∙ sym (by_bytes_is t)

-- once they are bound and synced, what they loaded before
loaded_before : (P : Option (List ℕ) → Type 0) (word : List ℕ) (past later : List Moment) (s u : Option SlotsTold) → BothTell (IsBegun word past later) s u
    → WhereTold (λ t. P (loaded t)) u → WhereTold (λ t. P (loaded t)) s
loaded_before P word past later None None b w = tt
loaded_before P word past later None (Some u) b w = absurd b
loaded_before P word past later (Some t) None b w = absurd b
loaded_before P word past later (Some t) (Some u) b w = subst P (ap loaded b.settled ∙ loaded_same word t) w

-- ---- how a search begins

pub begins_of : (c : Call) (w : Solve) (i : Instance) (s : Search) (later : List Moment) (m : Option SlotsTold) → SaysSolve c.words w
    → BothTell (IsBegun (restart_word c.words) c.before.moments later) c.before.slots m → (w.resume ≡ false → IsBegunAnew i (begun.Search s))
    → (w.resume ≡ true → WhereTold (λ t. IsBegunWith i w.budget w.gap (loaded t) (begun.Search s)) m) → Begins c i (start_in s.boss)
begins_of c w i s later m says is anew resumed = record {
  anew = λ off. anew (says.resume ∙ off);
  resumed = λ on. loaded_before (λ (o : Option (List ℕ)). (body : List ℕ) × ((o ≡ Some body) × GoesOnWith i (budget_of c.words) (gap_of c.words) body (start_in s.boss)))
      (restart_word c.words) c.before.moments later c.before.slots m is
      (subst (λ (n : ℕ). WhereTold (λ t. (body : List ℕ) × ((loaded t ≡ Some body) × GoesOnWith i n (gap_of c.words) body (start_in s.boss))) m) says.budget
      (subst (λ (g : ℕ). WhereTold (λ t. (body : List ℕ) × ((loaded t ≡ Some body) × GoesOnWith i w.budget g body (start_in s.boss))) m) says.gap (resumed (says.resume ∙ on))));
}

-- a refusal comes only where a search is to go on, and is of what the slots loaded
pub refused_of : (c : Call) (w : Solve) (i : Instance) (refusal line : ℕ) (later : List Moment) (m : Option SlotsTold) → SaysSolve c.words w
    → BothTell (IsBegun (restart_word c.words) c.before.moments later) c.before.slots m → (w.resume ≡ false → IsBegunAnew i (begun.Refused refusal line))
    → (w.resume ≡ true → WhereTold (λ t. IsBegunWith i w.budget w.gap (loaded t) (begun.Refused refusal line)) m)
    → (resumes c.words ≡ true) × WhereTold (λ t. IsRefusedLoad i (budget_of c.words) (gap_of c.words) (loaded t) refusal line) c.before.slots
refused_of c w i refusal line later m says is anew resumed = go w.resume refl
  where
    go : (x : Bool) → w.resume ≡ x → (resumes c.words ≡ true) × WhereTold (λ t. IsRefusedLoad i (budget_of c.words) (gap_of c.words) (loaded t) refusal line) c.before.slots
    go false e = absurd (anew e)
    go true e = (
      sym says.resume ∙ e,
      loaded_before (λ (o : Option (List ℕ)). IsRefusedLoad i (budget_of c.words) (gap_of c.words) o refusal line) (restart_word c.words) c.before.moments later c.before.slots m is
          (subst (λ (n : ℕ). WhereTold (λ t. IsRefusedLoad i n (gap_of c.words) (loaded t) refusal line) m) says.budget
          (subst (λ (g : ℕ). WhereTold (λ t. IsRefusedLoad i w.budget g (loaded t) refusal line) m) says.gap (resumed e))),
    )

-- ---- what a search saved

-- bodies of a book's search are bodies of the call's
bodies_of : (words : List Text) (w : Solve) (i : Instance) (b : Book) (bodies : List Proof) → SaysSolve words w → IsSearchOf i w.budget w.gap b → AreBodiesFrom b bodies
    → AreBodiesOn i (budget_of words) (gap_of words) (start_in b) bodies
bodies_of words w i b bodies says of are =
    subst (λ (g : ℕ). AreBodiesOn i (budget_of words) g (start_in b) bodies) (of.same_gap ∙ says.gap)
    (subst (λ (k : ℕ). AreBodiesOn i k b.gap (start_in b) bodies) (of.same_budget ∙ says.budget)
    (subst (λ (x : Instance). AreBodiesOn x b.budget b.gap (start_in b) bodies) of.same_instance are))

some_of : (b : Book) (past later : List Moment) (s u : Option SlotsTold) → BothTell (SavesSome b past later) s u → (bodies : List Proof) × (AreBodiesFrom b bodies × BothTell (HasSaved bodies past later) s u)
some_of b past later None None x = ([], (tt, tt))
some_of b past later None (Some u) x = absurd x
some_of b past later (Some t) None x = absurd x
some_of b past later (Some t) (Some u) x = (x.bodies, (x.are_bodies, x.saved))

-- slots that tell nothing, or the bodies
until_or : (b : Book) (past later : List Moment) (s u : Option SlotsTold) → BothTell (SavesUntil b past later) s u
    → ((s ≡ None) × (u ≡ None)) ⊎ ((bodies : List Proof) × ((body : Proof) × (AreBodiesFrom b (body ∷ bodies) × BothTell (HasFailed bodies body past later) s u)))
until_or b past later None None x = inl (refl, refl)
until_or b past later None (Some u) x = absurd x
until_or b past later (Some t) None x = absurd x
until_or b past later (Some t) (Some u) x = inr (x.bodies, (x.body, (x.are_bodies, x.failed)))

-- where slots tell nothing anything is so
untold : {T : Type 0} (P Q : T → T → Type 0) (s m u : Option T) → BothTell P s m → m ≡ None → u ≡ None → BothTell Q s u
untold P Q None m u x e f = subst (λ y. BothTell Q None y) (sym f) tt
untold P Q (Some t) m u x e f = absurd (subst (λ y. BothTell P (Some t) y) e x)

pub searched_of : (c : Call) (w : Solve) (i : Instance) (b : Book) (mid later : List Moment) (m u : Option SlotsTold) → SaysSolve c.words w → IsSearchOf i w.budget w.gap b
    → BothTell (IsBegun (restart_word c.words) c.before.moments mid) c.before.slots m → BothTell (SavesSome b mid later) m u → IsSearched c i (start_in b) u later
searched_of c w i b mid later m u says of is saves =
    let some = some_of b mid later m u saves in
    record {
      saved = some.0;
      go_on = bodies_of c.words w i b some.0 says of some.1.0;
      slots = saved_on (restart_word c.words) some.0 c.before.moments mid later c.before.slots m u is some.1.1;
    }

-- a save in the search failed
pub failed_search : (c : Call) (w : Solve) (i : Instance) (b : Book) (mid : List Moment) (m : Option SlotsTold) → SaysSolve c.words w → IsSearchOf i w.budget w.gap b
    → BothTell (ReadsInstance (instance_word c.words) i) c.before.desk c.after.desk → Begins c i (start_in b)
    → BothTell (IsBegun (restart_word c.words) c.before.moments mid) c.before.slots m → BothTell (SavesUntil b mid c.after.moments) m c.after.slots → Solves status.StoreFault c
failed_search c w i b mid m says of read begins is saves = elim (until_or b mid c.after.moments m c.after.slots saves) [
  | inl (e, f) ↦ load_failed c i read (untold (IsBegun (restart_word c.words) c.before.moments mid) (IsBegun (restart_word c.words) c.before.moments c.after.moments) c.before.slots m c.after.slots is e f)
  | inr (bodies, (body, (are, failed))) ↦ save_failed c i (start_in b) bodies body read begins (bodies_of c.words w i b (body ∷ bodies) says of are)
      (failed_on (restart_word c.words) bodies body c.before.moments mid c.after.moments c.before.slots m c.after.slots is failed)
]

-- ---- a search that does not go on

pub halted_begin : (c : Call) (i : Instance) (h : Halt) (s : Status) → (h ≡ halt.StoreFault → s ≡ status.StoreFault) → (h ≡ halt.NoMemory → s ≡ status.NoMemory)
    → BothTell (ReadsInstance (instance_word c.words) i) c.before.desk c.after.desk
    → BothTell (IsBegun (restart_word c.words) c.before.moments c.after.moments) c.before.slots c.after.slots → Solves s c
halted_begin c i halt.StoreFault s fault short read is = subst (λ (k : Status). Solves k c) (sym (fault refl)) (load_failed c i read is)
halted_begin c i halt.NoMemory s fault short read is = subst (λ (k : Status). Solves k c) (sym (short refl)) (short_begin c i read is)

pub halted_search : (c : Call) (w : Solve) (i : Instance) (b : Book) (h : Halt) (s : Status) (mid : List Moment) (m : Option SlotsTold) → (h ≡ halt.StoreFault → s ≡ status.StoreFault)
    → (h ≡ halt.NoMemory → s ≡ status.NoMemory) → SaysSolve c.words w → IsSearchOf i w.budget w.gap b → BothTell (ReadsInstance (instance_word c.words) i) c.before.desk c.after.desk
    → Begins c i (start_in b) → BothTell (IsBegun (restart_word c.words) c.before.moments mid) c.before.slots m
    → BothTell (Searches (Err h) b mid c.after.moments) m c.after.slots → Solves s c
halted_search c w i b halt.StoreFault s mid m fault short says of read begins is saves =
    subst (λ (k : Status). Solves k c) (sym (fault refl)) (failed_search c w i b mid m says of read begins is saves)
halted_search c w i b halt.NoMemory s mid m fault short says of read begins is saves =
    subst (λ (k : Status). Solves k c) (sym (short refl)) (short_search c i (start_in b) read begins (searched_of c w i b mid c.after.moments m c.after.slots says of is saves))

-- ---- what came of it

pub outcome_at : (i : Instance) (budget gap : ℕ) (old new : Book) (o : Outcome) → IsSearchOf i budget gap old → IsSameStart old new
    → IsOutcome new.instance new.budget new.gap (start_in new) o → IsOutcome i budget gap (start_in old) o
outcome_at i budget gap old new o of same is =
    subst (λ (s : Start). IsOutcome i budget gap s o) (same_start old new same)
    (subst (λ (g : ℕ). IsOutcome i budget g (start_in new) o) (same.gap ∙ of.same_gap)
    (subst (λ (k : ℕ). IsOutcome i k new.gap (start_in new) o) (same.budget ∙ of.same_budget)
    (subst (λ (x : Instance). IsOutcome x new.budget new.gap (start_in new) o) (same.instance ∙ of.same_instance) is)))

-- the same of the call at its end

pub begins_end : (c : Call) (desk : Option Told) (slots : Option SlotsTold) (later : List Moment) (i : Instance) (s : Start) → Begins c i s → Begins (ending_with desk slots later c) i s
begins_end c desk slots later i s b = record { anew = b.anew; resumed = b.resumed }

pub searched_end : (c : Call) (desk : Option Told) (slots : Option SlotsTold) (later : List Moment) (i : Instance) (s : Start) (m : Option SlotsTold) (mid : List Moment) → IsSearched c i s m mid
    → IsSearched (ending_with desk slots later c) i s m mid
searched_end c desk slots later i s m mid x = record { saved = x.saved; go_on = x.go_on; slots = x.slots }

-- ---- the last body

body_on : (words : List Text) (w : Solve) (i : Instance) (s : Start) (body : Proof) → SaysSolve words w → IsBodyOn i w.budget w.gap s body → IsBodyOn i (budget_of words) (gap_of words) s body
body_on words w i s body says on = subst (λ (g : ℕ). IsBodyOn i (budget_of words) g s body) says.gap (subst (λ (k : ℕ). IsBodyOn i k w.gap s body) says.budget on)

pub unsaved_end : (c : Call) (w : Solve) (i : Instance) (s : Start) (bytes printed : List ℕ) (mid : List Moment) (m : Option SlotsTold) → SaysSolve c.words w → IsBodyOf i w.budget w.gap s bytes printed
    → BothTell (ReadsInstance (instance_word c.words) i) c.before.desk c.after.desk → Begins c i s → IsSearched c i s m mid → BothTell (Breaks ChangesTarget) m c.after.slots
    → BothTell (λ t u. Since (LoadsAsOr (moment_of t) bytes) mid c.after.moments u) m c.after.slots → Solves status.StoreFault c
unsaved_end c w i s bytes printed mid m says is read begins done breaks crash =
    save_failed c i s done.saved is.body read begins (body_on c.words w i s is.body says is.stopped.on_the_way, done.go_on)
    (last_failed (restart_word c.words) done.saved is.body c.before.moments mid c.after.moments c.before.slots m c.after.slots done.slots breaks
    (subst (λ (x : List ℕ). BothTell (λ t u. Since (LoadsAsOr (moment_of t) x) mid c.after.moments u) m c.after.slots) is.is_text crash))

pub saved_end : (c : Call) (w : Solve) (i : Instance) (s : Start) (bytes printed : List ℕ) (mid : List Moment) (m : Option SlotsTold) (is : IsBodyOf i w.budget w.gap s bytes printed)
    (done : IsSearched c i s m mid) → BothTell (λ t u. u ≡ after_save bytes (settled t)) m c.after.slots → BothTell (λ t u. Since (LoadsAsOr (moment_of t) bytes) mid c.after.moments u) m c.after.slots
    → WhereTold (λ t. loaded t ≡ Some bytes) c.after.slots → WhereTold (LoadsOnly (Some bytes)) c.after.slots → IsSaved c i s done.saved is.body
saved_end c w i s bytes printed mid m is done written crash loads kept = record {
  go_on = done.go_on;
  slots = last_saved (restart_word c.words) done.saved is.body c.before.moments mid c.after.moments c.before.slots m c.after.slots done.slots
      (subst (λ (x : List ℕ). BothTell (λ t u. u ≡ after_save x (settled t)) m c.after.slots) is.is_text written)
      (subst (λ (x : List ℕ). BothTell (λ t u. Since (LoadsAsOr (moment_of t) x) mid c.after.moments u) m c.after.slots) is.is_text crash);
  loads = subst (λ (x : List ℕ). WhereTold (λ t. loaded t ≡ Some x) c.after.slots) is.is_text loads;
  kept = subst (λ (x : List ℕ). WhereTold (LoadsOnly (Some x)) c.after.slots) is.is_text kept;
}
