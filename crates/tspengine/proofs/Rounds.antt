-- Rounds of a search, and what they save.
use Rattle.std.proofs.Common.{◌≡◌, ℕ, ◌+◌, ◌-◌, ◌*◌, ◌<◌, ◌≤◌, List, [], ◌∷◌, length, refl, sym, ap, subst, ◌∙◌, inl, inr, Option, Result, Ok, Err, arith}
use Rattle.std.specs.Prelude.{IsErrAnd}
use Rattle.ports.specs.Outside.{BothTell}
use Rattle.ports.specs.Slots.{SlotsTold}
use Rattle.ports.specs.Crash.{Moment, Since, moment_of}
use Rattle.tspdef.specs.Instances.{Instance}
use Rattle.tspdef.specs.Trees.{open_leaves}
use Rattle.treebook.specs.Tables.{tree_of}
use Rattle.treebook.specs.Tree as trees
use Rattle.certdef.specs.Proofs.{Proof, text}
use Rattle.slotstore.specs.Store.{after_save, ChangesTarget}
use Rattle.slotstore.specs.Crashing.{Breaks, LoadsAsOr, settled}
use Rattle.slotstore.proofs.Told.{both_both}
use Rattle.verification.proofs.Tells.{both_to, both_then, both_same}
use Rattle.worker.specs.Splits.{Splits, IsNeededSplit}
use Rattle.bossx.specs.Books.{Book, Start}
use Rattle.bossx.specs.declared.events.Reply.{Reply}
use Rattle.bossx.specs.Laws.{IsSameStart, IsChargedFor, taken_with}
use Rattle.tspround.specs.Splits.{SplitSince}
use Rattle.tspround.specs.Alone.{IsAlone, IsSplitBy}
use Rattle.tspround.specs.Rounds.{IsRound}
use Rattle.tspround.specs.declared.seat.Counts.{Counts}
use Rattle.tspengine.specs.Starts as starts
use Rattle.tspengine.specs.Saves.{IsBodyOn}
use Rattle.tspengine.specs.Searches.{start_in, IsSearch, IsTextOfBook}
use Rattle.tspengine.specs.Rounds.{IsBodyFrom, IsDismissed, IsFurther, KeepsSlots, SavesOne, FailsToSave, SavesSome, SavesUntil, Searches}
use Rattle.tspengine.specs.declared.starting.Halt.{Halt}
use Rattle.tspengine.specs.declared.starting.Halt.TheVariants as halt
use Rattle.tspengine.proofs.Storing.{none_saved, saved_more, failed_more, since_both}
use Rattle.tspengine.proofs.Writing.{body_of}

-- ---- one save

pub keeps_now : (past : List Moment) (s : Option SlotsTold) → BothTell (KeepsSlots past past) s s
keeps_now past s = both_same (KeepsSlots past past) (λ (t : SlotsTold). record { slots = refl; crash = (none_saved past t).crash }) s s refl

abbrev pub Written : List ℕ → List Moment → List Moment → SlotsTold → SlotsTold → Type 0
Written bytes past later t u = (u ≡ after_save bytes (settled t)) × Since (LoadsAsOr (moment_of t) bytes) past later u

one_saved_now : (b : Book) (bound : ℕ) (bytes : List ℕ) (w : IsTextOfBook b bound bytes) → 0 < open_leaves (tree_of b.tree.nodes) → (past later : List Moment) (t u : SlotsTold) → Written bytes past later t u → SavesOne b past later t u
one_saved_now b bound bytes w some past later t u done =
    let (e, crash) = subst (λ (x : List ℕ). Written x past later t u) w.is_text done in
    record { body = w.value; is_body = body_of b bound bytes w some; saved = saved_more w.value [] past past later t t u (none_saved past t) e crash }

pub one_saved : (b : Book) (bound : ℕ) (bytes : List ℕ) (w : IsTextOfBook b bound bytes) → 0 < open_leaves (tree_of b.tree.nodes) → (past later : List Moment) (s u : Option SlotsTold)
    → BothTell (λ t u. u ≡ after_save bytes (settled t)) s u → BothTell (λ t u. Since (LoadsAsOr (moment_of t) bytes) past later u) s u → BothTell (SavesOne b past later) s u
one_saved b bound bytes w some past later s u written crash =
    both_to (Written bytes past later) (SavesOne b past later) (one_saved_now b bound bytes w some past later) s u
    (both_both (λ t u. u ≡ after_save bytes (settled t)) (λ t u. Since (LoadsAsOr (moment_of t) bytes) past later u) s u written crash)

abbrev pub Failed : List ℕ → List Moment → List Moment → SlotsTold → SlotsTold → Type 0
Failed bytes past later t u = Breaks ChangesTarget t u × Since (LoadsAsOr (moment_of t) bytes) past later u

one_failed_now : (b : Book) (bound : ℕ) (bytes : List ℕ) (w : IsTextOfBook b bound bytes) → 0 < open_leaves (tree_of b.tree.nodes) → (past later : List Moment) (t u : SlotsTold) → Failed bytes past later t u → FailsToSave b past later t u
one_failed_now b bound bytes w some past later t u done =
    let (breaks, crash) = subst (λ (x : List ℕ). Failed x past later t u) w.is_text done in
    record { body = w.value; is_body = body_of b bound bytes w some; failed = failed_more w.value [] past past later t t u (none_saved past t) breaks crash }

pub one_failed : (b : Book) (bound : ℕ) (bytes : List ℕ) (w : IsTextOfBook b bound bytes) → 0 < open_leaves (tree_of b.tree.nodes) → (past later : List Moment) (s u : Option SlotsTold)
    → BothTell (Breaks ChangesTarget) s u → BothTell (λ t u. Since (LoadsAsOr (moment_of t) bytes) past later u) s u → BothTell (FailsToSave b past later) s u
one_failed b bound bytes w some past later s u breaks crash =
    both_to (Failed bytes past later) (FailsToSave b past later) (one_failed_now b bound bytes w some past later) s u
    (both_both (Breaks ChangesTarget) (λ t u. Since (LoadsAsOr (moment_of t) bytes) past later u) s u breaks crash)

-- ---- the start stays

-- a book with the same start and tree has the same splits since
pub splits_kept : (S : Splits) (b new : Book) → IsSameStart b new → new.tree ≡ b.tree → IsSplitBy S b → IsSplitBy S new
splits_kept S b new same tree by =
    subst (λ (t : trees.Table). SplitSince S new.instance new.start.length new.gap (tree_of new.start.nodes) (tree_of t.nodes)) (sym tree)
    (subst (λ (s : Start). SplitSince S new.instance s.length new.gap (tree_of s.nodes) (tree_of b.tree.nodes)) (sym same.start)
    (subst (λ (g : ℕ). SplitSince S new.instance b.start.length g (tree_of b.start.nodes) (tree_of b.tree.nodes)) (sym same.gap)
    (subst (λ (i : Instance). SplitSince S i b.start.length b.gap (tree_of b.start.nodes) (tree_of b.tree.nodes)) (sym same.instance) by)))

pub same_start : (b new : Book) → IsSameStart b new → start_in new ≡ start_in b
same_start b new same = ap (λ (s : Start). record { tree = tree_of s.nodes; long = s.length }) same.start

pub same_then : (b mid new : Book) → IsSameStart b mid → IsSameStart mid new → IsSameStart b new
same_then b mid new first second = record {
  instance = second.instance ∙ first.instance;
  budget = second.budget ∙ first.budget;
  grunts = second.grunts ∙ first.grunts;
  gap = second.gap ∙ first.gap;
  start = second.start ∙ first.start;
}

pub few_kept : (b new : Book) → IsSameStart b new → length b.start.nodes + 2 * b.budget ≤ 1048576 → length new.start.nodes + 2 * new.budget ≤ 1048576
few_kept b new same few = subst (λ (s : Start). length s.nodes + 2 * new.budget ≤ 1048576) (sym same.start) (subst (λ (k : ℕ). length b.start.nodes + 2 * k ≤ 1048576) (sym same.budget) few)

-- a search that went on by turns
pub search_on : (turns : ℕ) (b new : Book) → IsSearch b → IsAlone IsNeededSplit turns b new → IsSearch new
search_on turns b new search went = record { few = few_kept b new went.start search.few; splits = went.splits }

-- one part of a search after another
pub further_then : (b mid new : Book) → IsFurther b mid → IsFurther mid new → IsFurther b new
further_then b mid new p q = record { start = same_then b mid new p.start q.start; search = q.search }

-- what a round and the end of its leases leave is a search from the same start
pub round_further : (b mid new : Book) (counts : List Counts) → IsSearch b → IsRound IsNeededSplit b mid counts → IsDismissed mid new → IsFurther b new
round_further b mid new counts search went gone =
    let start = same_then b mid new went.start gone.start in
    record { start = start; search = record { few = few_kept b new start search.few; splits = splits_kept IsNeededSplit mid new gone.start gone.tree went.splits } }

pub not_dismissed : (b : Book) → IsDismissed b b
not_dismissed b = record { start = record { instance = refl; budget = refl; grunts = refl; gap = refl; start = refl }; tree = refl; settled = refl }

-- one grunt more is gone
pub dismissed_more : (b mid new : Book) (r : Reply) → taken_with r ≡ 0 → IsDismissed b mid → IsChargedFor mid new r → IsDismissed b new
dismissed_more b mid new r none was c =
    let settles = c.settled in
    let before = was.settled in
    record { start = same_then b mid new was.start c.start; tree = c.tree none ∙ was.tree; settled = omega (arith, settles, before, none) }

-- bodies of a search that went on are bodies of the one before
pub body_before : (b new : Book) → IsSameStart b new → (body : Proof) → IsBodyFrom new body → IsBodyFrom b body
body_before b new same body is =
    subst (λ (s : starts.Start). IsBodyOn b.instance b.budget b.gap s body) (same_start b new same)
    (subst (λ (g : ℕ). IsBodyOn b.instance b.budget g (start_in new) body) same.gap
    (subst (λ (k : ℕ). IsBodyOn b.instance k new.gap (start_in new) body) same.budget
    (subst (λ (i : Instance). IsBodyOn i new.budget new.gap (start_in new) body) same.instance is)))

-- ---- saves in turn

none_saves : (b : Book) (past : List Moment) (t : SlotsTold) → SavesSome b past past t t
none_saves b past t = record { bodies = []; are_bodies = tt; saved = none_saved past t }

pub nothing_saved : (b : Book) (past : List Moment) (s : Option SlotsTold) → BothTell (SavesSome b past past) s s
nothing_saved b past s = both_same (SavesSome b past past) (none_saves b past) s s refl

one_more_now : (first b : Book) → IsSameStart first b → (past mid later : List Moment) (t m u : SlotsTold) → SavesSome first past mid t m → SavesOne b mid later m u → SavesSome first past later t u
one_more_now first b same past mid later t m u some one = record {
  bodies = one.body ∷ some.bodies;
  are_bodies = (body_before first b same one.body one.is_body, some.are_bodies);
  saved = record {
    slots = one.saved.slots ∙ ap (λ (x : SlotsTold). after_save (text one.body) (settled x)) some.saved.slots;
    crash = since_both (one.body ∷ []) some.bodies (moment_of t) past mid later m u some.saved.crash one.saved.crash;
  };
}

pub one_more : (first b : Book) → IsSameStart first b → (past mid later : List Moment) (s m u : Option SlotsTold) → BothTell (SavesSome first past mid) s m → BothTell (SavesOne b mid later) m u → BothTell (SavesSome first past later) s u
one_more first b same past mid later s m u some one = both_then (SavesSome first past mid) (SavesOne b mid later) (SavesSome first past later) (one_more_now first b same past mid later) s m u some one

until_now : (first b : Book) → IsSameStart first b → (past mid later : List Moment) (t m u : SlotsTold) → SavesSome first past mid t m → FailsToSave b mid later m u → SavesUntil first past later t u
until_now first b same past mid later t m u some one = record {
  bodies = some.bodies;
  body = one.body;
  are_bodies = (body_before first b same one.body one.is_body, some.are_bodies);
  failed = record {
    slots = subst (λ (x : SlotsTold). Breaks ChangesTarget x u) some.saved.slots one.failed.slots;
    crash = since_both (one.body ∷ []) some.bodies (moment_of t) past mid later m u some.saved.crash one.failed.crash;
  };
}

pub until : (first b : Book) → IsSameStart first b → (past mid later : List Moment) (s m u : Option SlotsTold) → BothTell (SavesSome first past mid) s m → BothTell (FailsToSave b mid later) m u → BothTell (SavesUntil first past later) s u
until first b same past mid later s m u some one = both_then (SavesSome first past mid) (FailsToSave b mid later) (SavesUntil first past later) (until_now first b same past mid later) s m u some one

-- nothing was saved at the last
kept_now : (first : Book) (past mid later : List Moment) (t m u : SlotsTold) → SavesSome first past mid t m → KeepsSlots mid later m u → SavesSome first past later t u
kept_now first past mid later t m u some kept = record {
  bodies = some.bodies;
  are_bodies = some.are_bodies;
  saved = record {
    slots = kept.slots ∙ some.saved.slots;
    crash = since_both [] some.bodies (moment_of t) past mid later m u some.saved.crash kept.crash;
  };
}

pub kept_on : (first : Book) (past mid later : List Moment) (s m u : Option SlotsTold) → BothTell (SavesSome first past mid) s m → BothTell (KeepsSlots mid later) m u → BothTell (SavesSome first past later) s u
kept_on first past mid later s m u some kept = both_then (SavesSome first past mid) (KeepsSlots mid later) (SavesSome first past later) (kept_now first past mid later) s m u some kept

-- the save of a body on the way did not succeed
pub stopped_by : (first b : Book) → IsSameStart first b → (h : Halt) (past mid later : List Moment) (s m u : Option SlotsTold) → BothTell (SavesSome first past mid) s m
    → (h ≡ halt.StoreFault → BothTell (FailsToSave b mid later) m u) → (h ≡ halt.NoMemory → BothTell (KeepsSlots mid later) m u) → BothTell (Searches (Err h) first past later) s u
stopped_by first b same halt.StoreFault past mid later s m u some failed kept = until first b same past mid later s m u some (failed refl)
stopped_by first b same halt.NoMemory past mid later s m u some failed kept = kept_on first past mid later s m u some (kept refl)

-- the error that is passed on
pub told_on : (r : Result Book Halt) (h : Halt) → IsErrAnd r (λ e. e ≡ h) → r ≡ Err h
told_on (Ok b) h is = absurd is
told_on (Err e) h is = ap Err is

pub err_is : (r : Result Book Halt) (h k : Halt) → IsErrAnd r (λ e. e ≡ h) → r ≡ Err k → h ≡ k
err_is (Ok b) h k is was = absurd is
err_is (Err e) h k is was = cc (is, was)

-- ---- turns in a search

pub not_yet_further : (b : Book) → IsSearch b → IsFurther b b
not_yet_further b search = record { start = record { instance = refl; budget = refl; grunts = refl; gap = refl; start = refl }; search = search }

pub further_on : (turns : ℕ) (first b new : Book) → IsFurther first b → IsAlone IsNeededSplit turns b new → IsFurther first new
further_on turns first b new so_far went = record { start = same_then first b new so_far.start went.start; search = search_on turns b new so_far.search went }

-- after turns that were not the last fewer are left
pub less_left : (turns : ℕ) (b new : Book) → 0 < turns → IsAlone IsNeededSplit turns b new → 0 < open_leaves (tree_of new.tree.nodes) → new.settled < new.budget
    → new.budget - new.settled < b.budget - b.settled
less_left turns b new some_turns went some left = let same = went.start.budget in elim went.ended [
  | inl e ↦ absurd (omega arith)
  | inr (inl e) ↦ absurd (omega arith)
  | inr (inr e) ↦ omega arith
]
