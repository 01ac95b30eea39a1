-- Tapes that are lists of events have no fault.
use Rattle.std.proofs.Common.{◌≡◌, ℕ, ◌+◌, ◌<◌, ◌≤◌, List, ◌++◌, length, take, drop, refl, sym, ap, subst, ◌∙◌, inl, inr, Option, Some, None, Ok, Err, append_assoc, length-append, arith}
use Rattle.std.proofs.Math.Seq.{take-append_seam, drop-append_seam, take-append-le}
use Rattle.std.specs.Int.{w32, from_be_bytes}
use Rattle.ports.specs.Outside.{BothTell, WhereTold}
use Rattle.ports.specs.Desk.{Told}
use Rattle.tspdef.specs.Instances.{Instance}
use Rattle.tspinst.specs.Texts.{InstanceText}
use Rattle.bossx.specs.Books.{Book}
use Rattle.bossx.specs.Laws.{StepsCharge}
use Rattle.bossx.specs.declared.events.Event.{Event}
use Rattle.tapeboss.specs.Frames.{IsSize, IsFrame, IsBegun, word_of, heard}
use Rattle.tapeboss.specs.Tapes.{most_bytes, Plays, none, one_more, IsFault, bad_length, truncated, bad_frame, too_long, IsPlayedTape, stops}
use Rattle.tapeboss.specs.declared.error.Fault.{Fault}
use Rattle.tspwords.specs.Program.{grunts_of}
use Rattle.verification.specs.Counts.{IsTold}
use Rattle.tspengine.specs.Calls.{Call, DeskTold}
use Rattle.tspengine.specs.Replaying.{AreEvents, no_event, event_more, IsGoodTape, PlaysToFault, BadTape}

-- ---- frames

same_word : (xs ys : List ℕ) → 4 ≤ length xs → word_of (xs ++ ys) ≡ word_of xs
same_word xs ys h = ap (λ (z : List ℕ). from_be_bytes w32 z) (take-append-le 4 xs ys h)

-- the frame in front of bytes is one
same_frame : (f r g s : List ℕ) → IsFrame f → IsFrame g → f ++ r ≡ g ++ s → (f ≡ g) × (r ≡ s)
same_frame f r g s p q e =
    let word : word_of f ≡ word_of g = sym (same_word f r p.header) ∙ (ap word_of e ∙ same_word g s q.header) in
    let long : length f ≡ length g = p.whole ∙ (ap (λ (k : ℕ). 4 + k) word ∙ sym q.whole) in (
      sym (take-append_seam f r) ∙ (ap (take (length f)) e ∙ (ap (λ (k : ℕ). take k (g ++ s)) long ∙ take-append_seam g s)),
      sym (drop-append_seam f r) ∙ (ap (drop (length f)) e ∙ (ap (λ (k : ℕ). drop k (g ++ s)) long ∙ drop-append_seam g s)),
    )

-- what stands in front of events
pub record HasFirst (n grunts : ℕ) (tape : List ℕ) : Type 0 where
  pub frame : List ℕ
  pub rest : List ℕ
  pub event : Event
  pub parts : tape ≡ frame ++ rest
  pub is_frame : IsFrame frame
  pub is_heard : heard n grunts (drop 4 frame) ≡ Ok event
  pub events : AreEvents n grunts rest

first_of : (n grunts : ℕ) (tape : List ℕ) → 0 < length tape → AreEvents n grunts tape → HasFirst n grunts tape
first_of n grunts tape some no_event = absurd (omega (arith, some))
first_of n grunts tape some (event_more frame rest e is h more) = record { frame = frame; rest = rest; event = e; parts = refl; is_frame = is; is_heard = h; events = more }

longer : (f r : List ℕ) → length f ≤ length (f ++ r)
longer f r = let all = length-append f r in omega arith

some_in : (f r : List ℕ) → IsFrame f → 0 < length (f ++ r)
some_in f r is = let h = is.header in let l = longer f r in omega arith

-- a frame in front is an event, and so are those behind it
behind : (n grunts : ℕ) (f r : List ℕ) → IsFrame f → AreEvents n grunts (f ++ r) → ((e : Event) × (heard n grunts (drop 4 f) ≡ Ok e)) × AreEvents n grunts r
behind n grunts f r is events =
    let x = first_of n grunts (f ++ r) (some_in f r is) events in
    let (same, rest) = same_frame f r x.frame x.rest is x.is_frame x.parts in (
      (x.event, subst (λ (z : List ℕ). heard n grunts (drop 4 z) ≡ Ok x.event) (sym same) x.is_heard),
      subst (AreEvents n grunts) (sym rest) x.events,
    )

-- ---- what was played leaves events

pub record Leaves (n grunts : ℕ) (rest : List ℕ) (b : Book) : Type 0 where
  pub cities : b.instance.n ≡ n
  pub team : b.grunts ≡ grunts
  pub events : AreEvents n grunts rest

played_leaves : StepsCharge → (start : Book) (k : ℕ) (front lines : List ℕ) (b : Book) (rest : List ℕ) → Plays start k front lines b
    → AreEvents start.instance.n start.grunts (front ++ rest) → Leaves start.instance.n start.grunts rest b
played_leaves charge start k front lines b rest none events = record { cities = refl; team = refl; events = events }
played_leaves charge start k front lines b rest (one_more j bytes said frame old new e r plays is h step) events =
    let ih = played_leaves charge start j bytes said old (frame ++ rest) plays (subst (AreEvents start.instance.n start.grunts) (append_assoc bytes frame rest) events) in
    let same = (charge old new e r step).start in
    record {
      cities = ap (λ (i : Instance). i.n) same.instance ∙ ih.cities;
      team = same.grunts ∙ ih.team;
      events = (behind start.instance.n start.grunts frame rest is ih.events).1;
    }

-- ---- no fault

not_begun : (frame rest : List ℕ) → IsFrame frame → IsBegun (frame ++ rest) → ⊥
not_begun frame rest is begun =
    let l = longer frame rest in
    let header = is.header in
    let whole = is.whole in
    let word = same_word frame rest is.header in
    elim begun [ inl few ↦ absurd (omega (arith, few, l, header)) | inr more ↦ (let left = more.left in absurd (omega (arith, left, l, whole, word))) ]

no_fault_behind : (n grunts before : ℕ) (b : Book) (rest : List ℕ) (f : Fault) → b.instance.n ≡ n → b.grunts ≡ grunts → AreEvents n grunts rest → before + length rest ≤ most_bytes
    → IsFault b before rest f → ⊥
no_fault_behind n grunts before b rest f cities some events few (bad_length long header room size) =
    let x = first_of n grunts rest (omega (arith, header)) events in
    let word : word_of rest ≡ word_of x.frame = ap word_of x.parts ∙ same_word x.frame x.rest x.is_frame.header in
    size (subst IsSize (sym word) x.is_frame.size)
no_fault_behind n grunts before b rest f cities some events few (truncated left more begun room) =
    let x = first_of n grunts rest more events in
    not_begun x.frame x.rest x.is_frame (subst IsBegun x.parts begun)
no_fault_behind n grunts before b rest f cities some events few (bad_frame frame more g is room told) =
    let ((e, h), other) = behind n grunts frame more is events in
    let bad : heard n grunts (drop 4 frame) ≡ Err f = subst (λ (k : ℕ). heard n k (drop 4 frame) ≡ Err f) some (subst (λ (m : ℕ). heard m b.grunts (drop 4 frame) ≡ Err f) cities told) in
    let clash : Ok e ≡ Err f = sym h ∙ bad in cc
no_fault_behind n grunts before b rest f cities some events few (too_long left begun over) = absurd (omega (arith, few, over))

pub faulty_is_bad : StepsCharge → (start : Book) (tape lines : List ℕ) (fault : Fault × ℕ) → IsPlayedTape start tape lines (Some fault) → ¬ IsGoodTape start.instance.n start.grunts tape
faulty_is_bad charge start tape lines fault (stops k front rest said b f plays is) good =
    let left = played_leaves charge start k front said b rest plays good.events in
    let all = length-append front rest in
    let few = good.few in
    no_fault_behind start.instance.n start.grunts (length front) b rest f left.cities left.team left.events (omega (arith, all, few)) is

-- ---- on a desk that tells

pub told_instance : (i : Instance) (grunts : ℕ) (a : Option Told) → IsTold (λ t. InstanceText t.instance i × IsGoodTape i.n grunts t.proof_in) a → IsTold (λ t. InstanceText t.instance i) a
told_instance i grunts None told = told
told_instance i grunts (Some t) told = told.0

one_instance : (bytes : List ℕ) (i j : Instance) → InstanceText bytes i → InstanceText bytes j → i ≡ j
one_instance bytes i j p q = let e : Ok i ≡ Ok j = sym p ∙ q in cc

pub told_good : (i : Instance) (c : Call) → BadTape c → DeskTold (λ t. InstanceText t.instance i × IsGoodTape i.n (grunts_of c.words) t.proof_in) c → ⊥
told_good i c x told = go c.before.desk c.after.desk told x.bytes_read x.desk
  where
    go : (a b : Option Told) → IsTold (λ t. InstanceText t.instance i × IsGoodTape i.n (grunts_of c.words) t.proof_in) a → WhereTold (λ t. InstanceText t.instance x.instance) a
        → BothTell (PlaysToFault c.words x.start) a b → ⊥
    go None b good read plays = good
    go (Some t) None good read plays = plays
    go (Some t) (Some u) good read plays =
        let same : x.start.instance ≡ i = x.begins.start.instance ∙ one_instance t.instance x.instance i read good.0 in
        plays.is_bad (subst (λ (n : ℕ). IsGoodTape n x.start.grunts t.proof_in) (sym (ap (λ (j : Instance). j.n) same))
        (subst (λ (k : ℕ). IsGoodTape i.n k t.proof_in) (sym x.begins.start.grunts) good.1))
