-- How a call of `solve` ends.
use Rattle.std.proofs.Common.{◌≡◌, ◌≢◌, ℕ, ◌+◌, ◌<◌, ◌≤◌, List, [], ◌∷◌, take, refl, ap, sym, subst, ◌∙◌, ◌⊎◌, inl, inr, Option, Some, Bool, true, false, string_bytes, arith, eq-eqb}
use Rattle.std.specs.Prelude.{◌==◌, nat_lt}
use Rattle.std.proofs.lemmas.Bool.{cond-true, cond-false, ne_eqb, ltb-true, ltb-false}
use Rattle.ports.specs.Outside.{BothTell, WhereTold}
use Rattle.ports.specs.Desk.{Told, Adds}
use Rattle.ports.specs.Slots.{SlotsTold, with_path}
use Rattle.ports.specs.declared.desk.Outlet.TheVariants as outlet
use Rattle.clap.specs.Walk.{Text}
use Rattle.tspdef.specs.Instances.{Instance, length_in}
use Rattle.tspdef.specs.Trees.{open_leaves, settled as settled_nodes}
use Rattle.certdef.specs.Accepted.{IsAcceptedText, IsTextOf, tree_in}
use Rattle.ports.specs.Crash.{Since, moment_of}
use Rattle.slotstore.specs.Store.{loaded}
use Rattle.slotstore.specs.Crashing.{Breaks, LoadsAs, LoadsOnly, settled}
use Rattle.certdef.specs.Proofs.{Proof, text}
use Rattle.tspwords.specs.Program.{instance_word, proof_word, restart_word, budget_of, gap_of, resumes}
use Rattle.tspwords.specs.Says.{SaysSolve}
use Rattle.tspwords.specs.declared.words.Solve.{Solve}
use Rattle.verification.specs.Transfers.{ReadsInstance}
use Rattle.verification.proofs.Tells.{both_to, both_then, both_same}
use Rattle.tspengine.specs.Calls.{Call, SlotsMoved}
use Rattle.tspengine.specs.Steps.{reads, writes, prints, TearsWriting}
use Rattle.tspengine.specs.Texts.{optimal_text, within_text, closed_text, stopped_text, restart_text}
use Rattle.tspengine.specs.Starts.{Start, Begins}
use Rattle.tspengine.specs.Saves.{AreBodiesOn, IsBodyOn, after_saves}
use Rattle.tspengine.specs.Outcomes.{IsProofOf, IsBodyOf, IsStopped}
use Rattle.tspengine.specs.Headline.{Optimal, Within, Stopped}
use Rattle.tspengine.specs.Readings.{Refuses, TornRefusal, Unread}
use Rattle.verification.specs.Transfers.{TouchesInstance}
use Rattle.tspengine.specs.Solving.{BadRestart, TornRestart, TornProof, TornStopped, Unsaved, Short, IsBegun, IsSearched, HasBroken, HasSavedOn, IsRefusedLoad, Solves, IsPublished, IsRefusedCall}
use Rattle.tspengine.specs.declared.outcomes.Closed.{Closed}
use Rattle.tspengine.specs.declared.statuses.Status.{Status}
use Rattle.tspengine.specs.declared.statuses.Status.TheVariants as status
use Rattle.tspengine.proofs.Storing.{no_moments, begun_slots, begun_moments, begun_saved, broken_begin, bound_moments, load_broken, BrokenOn, on_slots_of, on_moments_of, broken_slots_of, broken_moments_of}
use Rattle.tspengine.proofs.InstanceReads.{EndsRefused, bytes_read, read_whole, read_and_printed, read_touches}

-- ---- the ends

as_optimal : (s : Status) (c : Call) → s ≡ status.Optimal → Optimal c → Solves s c
as_optimal s c e x = inl (e, x)

as_within : (s : Status) (c : Call) → s ≡ status.Within → Within c → Solves s c
as_within s c e x = inr (inl (e, x))

as_stopped : (s : Status) (c : Call) → s ≡ status.Stopped → Stopped c → Solves s c
as_stopped s c e x = inr (inr (inl (e, x)))

as_refusal : (s : Status) (c : Call) → s ≡ status.BadInstance → Refuses c → Solves s c
as_refusal s c e x = inr (inr (inr (inl (e, x))))

as_bad_restart : (s : Status) (c : Call) → s ≡ status.BadRestart → BadRestart c → Solves s c
as_bad_restart s c e x = inr (inr (inr (inr (inl (e, x)))))

pub as_unread : (s : Status) (c : Call) → s ≡ status.ReadFault → Unread c → Solves s c
as_unread s c e x = inr (inr (inr (inr (inr (inl (e, x))))))

as_torn : (s : Status) (c : Call) → s ≡ status.WriteFault → TornRefusal c ⊎ TornRestart c ⊎ TornProof c ⊎ TornStopped c → Solves s c
as_torn s c e x = inr (inr (inr (inr (inr (inr (inl (e, x)))))))

as_unsaved : (s : Status) (c : Call) → s ≡ status.StoreFault → Unsaved c → Solves s c
as_unsaved s c e x = inr (inr (inr (inr (inr (inr (inr (inl (e, x))))))))

as_short : (s : Status) (c : Call) → s ≡ status.NoMemory → Short c → Solves s c
as_short s c e x = inr (inr (inr (inr (inr (inr (inr (inr (e, x))))))))

-- ---- before a search

kept_or_saved : (c : Call) → c.after.slots ≡ c.before.slots → SlotsMoved (λ t u. (u ≡ t) ⊎ (u ≡ after_saves [] (settled (with_path (restart_word c.words) t)))) c
kept_or_saved c kept = both_same (λ t u. (u ≡ t) ⊎ (u ≡ after_saves [] (settled (with_path (restart_word c.words) t)))) (λ (t : SlotsTold). inl refl) c.before.slots c.after.slots kept

pub silent_short : (c : Call) → BothTell (TouchesInstance (instance_word c.words)) c.before.desk c.after.desk → c.after.slots ≡ c.before.slots → c.after.moments ≡ c.before.moments → Solves status.NoMemory c
silent_short c touches kept none = as_short status.NoMemory c refl (record {
  saved = [];
  desk = touches;
  slots = kept_or_saved c kept;
  bodies_go_on = inl refl;
  a_crash_leaves_a_body = no_moments [] c kept none;
})

pub refused_solve : (s : Status) (c : Call) → c.after.moments ≡ c.before.moments → EndsRefused s c → Solves s c
refused_solve s c none ends = elim ends [
  | inl (e, x) ↦ as_refusal s c e x
  | inr (inl (e, x)) ↦ as_torn s c e (inl x)
  | inr (inr (e, x)) ↦ subst (λ (k : Status). Solves k c) (sym e) (silent_short c x.desk x.slots none)
]

pub unbound_slots : (c : Call) (i : Instance) → BothTell (ReadsInstance (instance_word c.words) i) c.before.desk c.after.desk → c.after.slots ≡ c.before.slots → c.after.moments ≡ c.before.moments
    → Solves status.StoreFault c
unbound_slots c i read kept none = as_unsaved status.StoreFault c refl (record {
  instance = i;
  saved = [];
  handed_in = [];
  bytes_read = bytes_read (instance_word c.words) i c.before.desk c.after.desk read;
  desk = read_whole (instance_word c.words) i c.before.desk c.after.desk read;
  slots = both_same (HasBroken [] (restart_word c.words)) (λ (t : SlotsTold). inl refl) c.before.slots c.after.slots kept;
  bodies_go_on = inl refl;
  more = inl refl;
  nothing_is_lost = no_moments [] c kept none;
})

pub begin_failed : (c : Call) (i : Instance) (m : Option SlotsTold) → BothTell (ReadsInstance (instance_word c.words) i) c.before.desk c.after.desk
    → BothTell (λ t u. u ≡ with_path (restart_word c.words) t) c.before.slots m → BothTell (Breaks (λ t u. u ≡ t)) m c.after.slots
    → BothTell (λ t u. Since (LoadsAs (moment_of t)) c.before.moments c.after.moments u) m c.after.slots → Solves status.StoreFault c
begin_failed c i m read bound breaks crash = as_unsaved status.StoreFault c refl (record {
  instance = i;
  saved = [];
  handed_in = [];
  bytes_read = bytes_read (instance_word c.words) i c.before.desk c.after.desk read;
  desk = read_whole (instance_word c.words) i c.before.desk c.after.desk read;
  slots = broken_begin (restart_word c.words) c.before.slots m c.after.slots bound breaks;
  bodies_go_on = inl refl;
  more = inl refl;
  nothing_is_lost = bound_moments (restart_word c.words) c.before.moments c.after.moments c.before.slots m c.after.slots bound crash;
})

-- the slots were not read
pub load_failed : (c : Call) (i : Instance) → BothTell (ReadsInstance (instance_word c.words) i) c.before.desk c.after.desk
    → SlotsMoved (IsBegun (restart_word c.words) c.before.moments c.after.moments) c → Solves status.StoreFault c
load_failed c i read begun = as_unsaved status.StoreFault c refl (record {
  instance = i;
  saved = [];
  handed_in = [];
  bytes_read = bytes_read (instance_word c.words) i c.before.desk c.after.desk read;
  desk = read_whole (instance_word c.words) i c.before.desk c.after.desk read;
  slots = load_broken (restart_word c.words) c.before.moments c.after.moments c.before.slots c.after.slots begun;
  bodies_go_on = inl refl;
  more = inl refl;
  nothing_is_lost = on_moments_of (restart_word c.words) [] c.before.moments c.after.moments c.before.slots c.after.slots (begun_saved (restart_word c.words) c.before.moments c.after.moments c.before.slots c.after.slots begun);
})

-- memory ran out in a search, or before it
pub short_search : (c : Call) (i : Instance) (s : Start) → BothTell (ReadsInstance (instance_word c.words) i) c.before.desk c.after.desk → Begins c i s
    → IsSearched c i s c.after.slots c.after.moments → Solves status.NoMemory c
short_search c i s read begins done = as_short status.NoMemory c refl (record {
  saved = done.saved;
  desk = read_touches (instance_word c.words) i c.before.desk c.after.desk read;
  slots = both_to (HasSavedOn (restart_word c.words) done.saved c.before.moments c.after.moments) (λ t u. (u ≡ t) ⊎ (u ≡ after_saves done.saved (settled (with_path (restart_word c.words) t)))) (λ t u x. inr x.slots) c.before.slots c.after.slots done.slots;
  bodies_go_on = inr (i, (bytes_read (instance_word c.words) i c.before.desk c.after.desk read, inr (s, (begins, done.go_on))));
  a_crash_leaves_a_body = on_moments_of (restart_word c.words) done.saved c.before.moments c.after.moments c.before.slots c.after.slots done.slots;
})

-- memory ran out before a search
pub short_begin : (c : Call) (i : Instance) → BothTell (ReadsInstance (instance_word c.words) i) c.before.desk c.after.desk
    → SlotsMoved (IsBegun (restart_word c.words) c.before.moments c.after.moments) c → Solves status.NoMemory c
short_begin c i read begun = as_short status.NoMemory c refl (record {
  saved = [];
  desk = read_touches (instance_word c.words) i c.before.desk c.after.desk read;
  slots = both_to (IsBegun (restart_word c.words) c.before.moments c.after.moments) (λ t u. (u ≡ t) ⊎ (u ≡ after_saves [] (settled (with_path (restart_word c.words) t)))) (λ t u x. inr x.settled) c.before.slots c.after.slots begun;
  bodies_go_on = inl refl;
  a_crash_leaves_a_body = on_moments_of (restart_word c.words) [] c.before.moments c.after.moments c.before.slots c.after.slots (begun_saved (restart_word c.words) c.before.moments c.after.moments c.before.slots c.after.slots begun);
})

-- the slots hold no body to go on from
pub body_refused : (c : Call) (i : Instance) (refusal line : ℕ) (b : Option Told) (s : Status) → BothTell (ReadsInstance (instance_word c.words) i) c.before.desk b
    → SlotsMoved (IsBegun (restart_word c.words) c.before.moments c.after.moments) c → resumes c.words ≡ true
    → WhereTold (λ t. IsRefusedLoad i (budget_of c.words) (gap_of c.words) (loaded t) refusal line) c.before.slots
    → IsRefusedCall refusal line s b c.after.desk → Solves s c
body_refused c i refusal line b s read begun asked refused ends = elim ends [
  | inl (e, adds) ↦ as_bad_restart s c e (record {
    instance = i;
    refusal = refusal;
    line = line;
    bytes_read = bytes_read (instance_word c.words) i c.before.desk b read;
    asked = asked;
    refused = refused;
    desk = read_and_printed (instance_word c.words) (restart_text refusal line) i c.before.desk b c.after.desk read adds;
    slots = begun_slots (restart_word c.words) c.before.moments c.after.moments c.before.slots c.after.slots begun;
    a_crash_leaves_what_was_there = begun_moments (restart_word c.words) c.before.moments c.after.moments c.before.slots c.after.slots begun;
  })
  | inr (inl (e, (k, adds))) ↦ as_torn s c e (inr (inl (record {
    instance = i;
    refusal = refusal;
    line = line;
    front = k;
    bytes_read = bytes_read (instance_word c.words) i c.before.desk b read;
    asked = asked;
    refused = refused;
    desk = read_and_printed (instance_word c.words) (take k (restart_text refusal line)) i c.before.desk b c.after.desk read adds;
    slots = begun_slots (restart_word c.words) c.before.moments c.after.moments c.before.slots c.after.slots begun;
    a_crash_leaves_what_was_there = begun_moments (restart_word c.words) c.before.moments c.after.moments c.before.slots c.after.slots begun;
  })))
  | inr (inr (e, same)) ↦ subst (λ (k : Status). Solves k c) (sym e) (short_begin c i (subst (λ (d : Option Told). BothTell (ReadsInstance (instance_word c.words) i) c.before.desk d) (sym same) read) begun)
]

-- ---- in a search

-- bodies were saved, and the save of one more failed
pub save_failed : (c : Call) (i : Instance) (s : Start) (bodies : List Proof) (body : Proof) → BothTell (ReadsInstance (instance_word c.words) i) c.before.desk c.after.desk
    → Begins c i s → AreBodiesOn i (budget_of c.words) (gap_of c.words) s (body ∷ bodies)
    → SlotsMoved (BrokenOn (restart_word c.words) bodies body c.before.moments c.after.moments) c → Solves status.StoreFault c
save_failed c i s bodies body read begins go_on broken = as_unsaved status.StoreFault c refl (record {
  instance = i;
  saved = bodies;
  handed_in = body ∷ bodies;
  bytes_read = bytes_read (instance_word c.words) i c.before.desk c.after.desk read;
  desk = read_whole (instance_word c.words) i c.before.desk c.after.desk read;
  slots = broken_slots_of (restart_word c.words) bodies body c.before.moments c.after.moments c.before.slots c.after.slots broken;
  bodies_go_on = inr (s, (begins, go_on));
  more = inr (body, refl);
  nothing_is_lost = broken_moments_of (restart_word c.words) bodies body c.before.moments c.after.moments c.before.slots c.after.slots broken;
})

-- ---- after it

read_and_written : (path word proof printed : List ℕ) (i : Instance) (a b c : Option Told) → BothTell (ReadsInstance path i) a b
    → BothTell (λ t u. u ≡ prints printed (writes word proof t)) b c → BothTell (λ t u. u ≡ prints printed (writes word proof (reads path t))) a c
read_and_written path word proof printed i a b c read wrote =
    both_then (ReadsInstance path i) (λ t u. u ≡ prints printed (writes word proof t)) (λ t u. u ≡ prints printed (writes word proof (reads path t)))
    (λ t u v x f. f ∙ ap (λ (y : Told). prints printed (writes word proof y)) x.others) a b c read wrote

read_and_torn : (path word proof printed : List ℕ) (i : Instance) (a b c : Option Told) → BothTell (ReadsInstance path i) a b
    → BothTell (TearsWriting word proof printed) b c → BothTell (λ t u. TearsWriting word proof printed (reads path t) u) a c
read_and_torn path word proof printed i a b c read tears =
    both_then (ReadsInstance path i) (TearsWriting word proof printed) (λ t u. TearsWriting word proof printed (reads path t) u)
    (λ t u v x f. subst (λ (y : Told). TearsWriting word proof printed y v) x.others f) a b c read tears

-- the text of an answer, by whether the bound is the length
text_equal : (l b : ℕ) (tour : List ℕ) → b ≡ l → closed_text l b tour ≡ optimal_text l tour
text_equal l b tour e = cond-true (b == l) (optimal_text l tour) (within_text l b tour) (eq-eqb b l e)

text_less : (l b : ℕ) (tour : List ℕ) → b ≢ l → closed_text l b tour ≡ within_text l b tour
text_less l b tour other = cond-false (b == l) (optimal_text l tour) (within_text l b tour) (ne_eqb b l other)

proof_of : (words : List Text) (w : Solve) (i : Instance) (s : Start) (closed : Closed) → SaysSolve words w → IsProofOf i w.budget w.gap s closed → IsProofOf i (budget_of words) (gap_of words) s closed
proof_of words w i s closed says is = subst (λ (g : ℕ). IsProofOf i (budget_of words) g s closed) says.gap (subst (λ (n : ℕ). IsProofOf i n w.gap s closed) says.budget is)

-- a proof was published, or fronts of it
pub proof_published : (c : Call) (w : Solve) (i : Instance) (s : Start) (closed : Closed) (b : Option Told) (end : Status) → SaysSolve c.words w → IsProofOf i w.budget w.gap s closed
    → BothTell (ReadsInstance (instance_word c.words) i) c.before.desk b → Begins c i s → IsSearched c i s c.after.slots c.after.moments
    → IsPublished (string_bytes w.proof) closed end b c.after.desk → Solves end c
proof_published c w i s closed b end says is read begins done ends =
    let p = proof_of c.words w i s closed says is in
    let l = closed.length in
    let proof = closed.proof.items in
    let slots = on_slots_of (restart_word c.words) done.saved c.before.moments c.after.moments c.before.slots c.after.slots done.slots in
    let moments = on_moments_of (restart_word c.words) done.saved c.before.moments c.after.moments c.before.slots c.after.slots done.slots in
    elim ends [
      | inl (e, (equal, wrote)) ↦ as_optimal end c e (record {
        instance = i;
        start = s;
        tour = p.tour;
        length = l;
        proof = proof;
        value = p.proved.value;
        saved = done.saved;
        bytes_read = bytes_read (instance_word c.words) i c.before.desk b read;
        begins = begins;
        tour_visits_each_city_once = (p.proved.is_tour, p.proved.canonical);
        tour_has_this_length = p.proved.long;
        no_tour_is_shorter = λ other o. subst (λ (k : ℕ). k ≤ length_in i other) equal (p.proved.no_shorter other o);
        proof_is_accepted = subst (λ (k : ℕ). IsAcceptedText i proof l k) equal p.proved.accepted;
        proof_text = (subst (λ (k : ℕ). IsTextOf i proof l k p.proved.value) equal p.proved.written, p.proved.same);
        within_budget = p.proved.few;
        desk = read_and_written (instance_word c.words) (proof_word c.words) proof (optimal_text l p.tour) i c.before.desk b c.after.desk read
            (subst (λ (x : List ℕ). BothTell (λ t u. u ≡ prints x (writes (proof_word c.words) proof t)) b c.after.desk) (p.prints ∙ text_equal l closed.bound p.tour equal)
            (subst (λ (x : List ℕ). BothTell (λ t u. u ≡ prints closed.printed.items (writes x proof t)) b c.after.desk) says.proof wrote));
        saved_bodies_go_on = done.go_on;
        slots = slots;
        a_crash_leaves_a_body = moments;
      })
      | inr (inl (e, (other, wrote))) ↦ as_within end c e (record {
        instance = i;
        start = s;
        tour = p.tour;
        length = l;
        bound = closed.bound;
        proof = proof;
        value = p.proved.value;
        saved = done.saved;
        bytes_read = bytes_read (instance_word c.words) i c.before.desk b read;
        begins = begins;
        tour_visits_each_city_once = (p.proved.is_tour, p.proved.canonical);
        tour_has_this_length = p.proved.long;
        bound_is_below = (strictly closed.bound l p.proved.below other, p.proved.near);
        no_tour_is_shorter = p.proved.no_shorter;
        proof_is_accepted = p.proved.accepted;
        proof_text = (p.proved.written, p.proved.same);
        bound_is_greatest = p.proved.bears;
        within_budget = p.proved.few;
        desk = read_and_written (instance_word c.words) (proof_word c.words) proof (within_text l closed.bound p.tour) i c.before.desk b c.after.desk read
            (subst (λ (x : List ℕ). BothTell (λ t u. u ≡ prints x (writes (proof_word c.words) proof t)) b c.after.desk) (p.prints ∙ text_less l closed.bound p.tour other)
            (subst (λ (x : List ℕ). BothTell (λ t u. u ≡ prints closed.printed.items (writes x proof t)) b c.after.desk) says.proof wrote));
        saved_bodies_go_on = done.go_on;
        slots = slots;
        a_crash_leaves_a_body = moments;
      })
      | inr (inr (e, tears)) ↦ as_torn end c e (inr (inr (inl (record {
        instance = i;
        start = s;
        tour = p.tour;
        length = l;
        bound = closed.bound;
        proof = proof;
        saved = done.saved;
        bytes_read = bytes_read (instance_word c.words) i c.before.desk b read;
        begins = begins;
        proved = p.proved;
        desk = read_and_torn (instance_word c.words) (proof_word c.words) proof (closed_text l closed.bound p.tour) i c.before.desk b c.after.desk read
            (subst (λ (x : List ℕ). BothTell (TearsWriting (proof_word c.words) proof x) b c.after.desk) p.prints
            (subst (λ (x : List ℕ). BothTell (TearsWriting x proof closed.printed.items) b c.after.desk) says.proof tears));
        saved_bodies_go_on = done.go_on;
        slots = slots;
        a_crash_leaves_a_body = moments;
      }))))
    ]
  where
    strictly : (b l : ℕ) → b ≤ l → b ≢ l → b < l
    strictly b l le other = go (nat_lt b l) refl
      where
        go : (x : Bool) → nat_lt b l ≡ x → b < l
        go true e = ltb-true b l e
        go false e = absurd (other (let g = ltb-false b l e in omega arith))

-- a last body was saved
pub record IsSaved (c : Call) (i : Instance) (s : Start) (older : List Proof) (body : Proof) : Type 0 where
  pub go_on : AreBodiesOn i (budget_of c.words) (gap_of c.words) s older
  pub slots : SlotsMoved (HasSavedOn (restart_word c.words) (body ∷ older) c.before.moments c.after.moments) c
  pub loads : WhereTold (λ t. loaded t ≡ Some (text body)) c.after.slots
  pub kept : WhereTold (LoadsOnly (Some (text body))) c.after.slots

pub body_saved : (c : Call) (w : Solve) (i : Instance) (s : Start) (body printed : List ℕ) (older : List Proof) (b : Option Told) (says : SaysSolve c.words w) (is : IsBodyOf i w.budget w.gap s body printed)
    → BothTell (ReadsInstance (instance_word c.words) i) c.before.desk b → BothTell (Adds outlet.Text printed) b c.after.desk → Begins c i s
    → IsSaved c i s older is.body → Solves status.Stopped c
body_saved c w i s body printed older b says is read adds begins saved =
    let p = is.stopped in
    let on : IsBodyOn i (budget_of c.words) (gap_of c.words) s is.body = subst (λ (g : ℕ). IsBodyOn i (budget_of c.words) g s is.body) says.gap (subst (λ (n : ℕ). IsBodyOn i n w.gap s is.body) says.budget p.on_the_way) in
    as_stopped status.Stopped c refl (record {
      instance = i;
      start = s;
      body = is.body;
      bound = on.bound;
      saved = older;
      bytes_read = bytes_read (instance_word c.words) i c.before.desk b read;
      begins = begins;
      body_is_sound = (on.form, on.sound);
      bound_is_near = on.near;
      no_longer_than_start = on.no_longer;
      a_node_is_open = on.some_open;
      budget_is_settled = p.settled ∙ ap (λ (k : ℕ). settled_nodes s.tree + k) says.budget;
      new_splits_were_needed = on.grown;
      each_better_tour_is_under_an_open_node = on.covers;
      desk = read_and_printed (instance_word c.words) (stopped_text is.body.long (open_leaves (tree_in i.n is.body))) i c.before.desk b c.after.desk read
          (subst (λ (x : List ℕ). BothTell (Adds outlet.Text x) b c.after.desk) is.prints adds);
      saved_bodies_go_on = saved.go_on;
      slots = on_slots_of (restart_word c.words) (is.body ∷ older) c.before.moments c.after.moments c.before.slots c.after.slots saved.slots;
      slots_hold_the_body = saved.loads;
      each_crash_after_it_leaves_the_body = saved.kept;
      a_crash_leaves_a_body = on_moments_of (restart_word c.words) (is.body ∷ older) c.before.moments c.after.moments c.before.slots c.after.slots saved.slots;
    })

pub body_torn : (c : Call) (w : Solve) (i : Instance) (s : Start) (body printed : List ℕ) (older : List Proof) (k : ℕ) (b : Option Told) (says : SaysSolve c.words w) (is : IsBodyOf i w.budget w.gap s body printed)
    → BothTell (ReadsInstance (instance_word c.words) i) c.before.desk b → BothTell (Adds outlet.Text (take k printed)) b c.after.desk → Begins c i s
    → IsSaved c i s older is.body → Solves status.WriteFault c
body_torn c w i s body printed older k b says is read adds begins saved =
    as_torn status.WriteFault c refl (inr (inr (inr (record {
      instance = i;
      start = s;
      body = is.body;
      front = k;
      saved = older;
      bytes_read = bytes_read (instance_word c.words) i c.before.desk b read;
      begins = begins;
      stopped = subst (λ (g : ℕ). IsStopped i (budget_of c.words) g s is.body) says.gap (subst (λ (n : ℕ). IsStopped i n w.gap s is.body) says.budget is.stopped);
      desk = read_and_printed (instance_word c.words) (take k (stopped_text is.body.long (open_leaves (tree_in i.n is.body)))) i c.before.desk b c.after.desk read
          (subst (λ (x : List ℕ). BothTell (Adds outlet.Text (take k x)) b c.after.desk) is.prints adds);
      saved_bodies_go_on = saved.go_on;
      slots = on_slots_of (restart_word c.words) (is.body ∷ older) c.before.moments c.after.moments c.before.slots c.after.slots saved.slots;
      slots_hold_the_body = saved.loads;
      each_crash_after_it_leaves_the_body = saved.kept;
      a_crash_leaves_a_body = on_moments_of (restart_word c.words) (is.body ∷ older) c.before.moments c.after.moments c.before.slots c.after.slots saved.slots;
    }))))
