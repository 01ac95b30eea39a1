-- How a call of `replay` ends.
use Rattle.std.proofs.Common.{◌≡◌, ℕ, ◌+◌, List, [], length, ◌∷◌, ◌++◌, take, drop, refl, sym, ap, subst, ◌∙◌, ◌⊎◌, inl, inr, Option, Some, None}
use Rattle.std.proofs.Math.Seq.{drop-length}
use Rattle.clap.specs.Walk.{Text}
use Rattle.ports.specs.Outside.{BothTell}
use Rattle.ports.specs.Desk.{Told, with_inlet_path}
use Rattle.ports.specs.declared.desk.Inlet.TheVariants as inlet
use Rattle.tspdef.specs.Instances.{Instance}
use Rattle.bossx.specs.Books.{Book}
use Rattle.bossx.specs.Laws.{StepsCharge}
use Rattle.tspwords.specs.Program.{instance_word, tape_word, budget_of, grunts_of}
use Rattle.verification.specs.Transfers.{ReadsInstance, TouchesInstance}
use Rattle.verification.proofs.Tells.{both_then, both_same, both_to}
use Rattle.tspengine.specs.Calls.{Call, SlotsKept}
use Rattle.tspengine.specs.Steps.{reads}
use Rattle.tspengine.specs.Readings.{Unread}
use Rattle.tspengine.specs.Playing.{Goes, IsFirstBook, EndsWhole, EndsAtFault, BreaksOff, IsPlayed, IsPlayStatus}
use Rattle.tspengine.specs.Replaying.{replay_told, PlaysWhole, PlaysToFault, PlaysFront, ReplaysBy, BrokenOff, Replays, IsReplay}
use Rattle.tspengine.specs.declared.statuses.Status.{Status}
use Rattle.tspengine.specs.declared.statuses.Status.TheVariants as status
use Rattle.tspengine.proofs.Tapes.{faulty_is_bad}
use Rattle.tspengine.proofs.InstanceReads.{EndsRefused, bytes_read}

pub refused_replay : (s : Status) (c : Call) → EndsRefused s c → Replays s c
refused_replay s c ends = elim ends [
  | inl (e, x) ↦ inr (inr (inl (e, x)))
  | inr (inl (e, x)) ↦ inr (inr (inr (inr (inl (e, inl x)))))
  | inr (inr (e, x)) ↦ inr (inr (inr (inr (inr (e, inl x)))))
]

-- the inlet was bound, and the tape played
pub bound_and_played : (start : Book) (path : List ℕ) (s : Status) (a b c : Option Told) → BothTell (λ t u. u ≡ with_inlet_path inlet.Proof path t) a b
    → BothTell (IsPlayed start s) b c → BothTell (IsReplay start path s) a c
bound_and_played start path s a b c bound played =
    both_then (λ t u. u ≡ with_inlet_path inlet.Proof path t) (IsPlayed start s) (IsReplay start path s)
    (λ t u v e x. inr (subst (λ (w : Told). IsPlayed start s w v) e x)) a b c bound played

pub not_bound : (start : Book) (path : List ℕ) (a b : Option Told) → b ≡ a → BothTell (IsReplay start path status.ReadFault) a b
not_bound start path a b e = both_same (IsReplay start path status.ReadFault) (λ t. inl (refl, refl)) a b e

none_behind : (xs ys : List ℕ) → xs ≡ xs ++ ys → ys ≡ []
none_behind [] ys e = sym e
none_behind (x ∷ xs) ys e = none_behind xs ys (ap (drop 1) e)

-- what a tape that goes leaves
left_told : (c : Call) (t v : Told) (bytes lines : List ℕ) → Goes bytes lines (with_inlet_path inlet.Proof (tape_word c.words) (reads (instance_word c.words) t)) v
    → v ≡ replay_told c.words v.proof_in lines t
left_told c t v bytes lines goes = goes.others

whole_told : (c : Call) (start : Book) (t v : Told) → EndsWhole start [] [] (with_inlet_path inlet.Proof (tape_word c.words) (reads (instance_word c.words) t)) v
    → PlaysWhole c.words start t v
whole_told c start t v x = record {
  lines = x.lines;
  answered = x.played;
  desk = left_told c t v t.proof_in x.lines x.goes ∙ ap (λ (r : List ℕ). replay_told c.words r x.lines t) (none_behind t.proof_in v.proof_in x.goes.taken);
}

fault_told : StepsCharge → (c : Call) (start : Book) (t v : Told) → EndsAtFault start [] [] (with_inlet_path inlet.Proof (tape_word c.words) (reads (instance_word c.words) t)) v
    → PlaysToFault c.words start t v
fault_told charge c start t v x = record {
  bytes = x.bytes;
  rest = v.proof_in;
  lines = x.lines;
  fault = x.fault;
  taken = x.goes.taken;
  answered = x.played;
  is_bad = faulty_is_bad charge start t.proof_in x.lines x.fault x.played;
  desk = left_told c t v x.bytes x.lines x.goes;
}

front_told : (c : Call) (start : Book) (t v : Told) → BreaksOff start [] [] (with_inlet_path inlet.Proof (tape_word c.words) (reads (instance_word c.words) t)) v
    → PlaysFront c.words start t v
front_told c start t v x = record {
  bytes = x.bytes;
  rest = v.proof_in;
  lines = x.lines;
  printed = x.printed;
  taken = x.goes.taken;
  answered = x.answered;
  desk = left_told c t v x.bytes (take x.printed x.lines) x.goes;
}

-- ---- by the status

-- what a tape that is played from a bound inlet does to a desk whose instance was read
abbrev pub Follows : Call → Book → Status → Told → Told → Type 0
Follows c start s t v = IsReplay start (tape_word c.words) s (reads (instance_word c.words) t) v

-- no status is two
differs : (s a b : Status) → (a ≡ b → ⊥) → s ≡ a → s ≡ b → ⊥
differs s a b never e f = never (sym e ∙ f)

replayed_is : (c : Call) (start : Book) (s : Status) (t v : Told) → s ≡ status.Replayed → Follows c start s t v → PlaysWhole c.words start t v
replayed_is c start s t v e x = elim x [
  | inl (f, y) ↦ absurd (differs s status.Replayed status.ReadFault (λ (g : status.Replayed ≡ status.ReadFault). cc) e f)
  | inr (inl (f, y)) ↦ whole_told c start t v y
  | inr (inr (inl (f, y))) ↦ absurd (differs s status.Replayed status.BadTape (λ (g : status.Replayed ≡ status.BadTape). cc) e f)
  | inr (inr (inr (inl f, y))) ↦ absurd (differs s status.Replayed status.ReadFault (λ (g : status.Replayed ≡ status.ReadFault). cc) e f)
  | inr (inr (inr (inr (inl f), y))) ↦ absurd (differs s status.Replayed status.WriteFault (λ (g : status.Replayed ≡ status.WriteFault). cc) e f)
  | inr (inr (inr (inr (inr f), y))) ↦ absurd (differs s status.Replayed status.NoMemory (λ (g : status.Replayed ≡ status.NoMemory). cc) e f)
]

bad_tape_is : StepsCharge → (c : Call) (start : Book) (s : Status) (t v : Told) → s ≡ status.BadTape → Follows c start s t v → PlaysToFault c.words start t v
bad_tape_is charge c start s t v e x = elim x [
  | inl (f, y) ↦ absurd (differs s status.BadTape status.ReadFault (λ (g : status.BadTape ≡ status.ReadFault). cc) e f)
  | inr (inl (f, y)) ↦ absurd (differs s status.BadTape status.Replayed (λ (g : status.BadTape ≡ status.Replayed). cc) e f)
  | inr (inr (inl (f, y))) ↦ fault_told charge c start t v y
  | inr (inr (inr (inl f, y))) ↦ absurd (differs s status.BadTape status.ReadFault (λ (g : status.BadTape ≡ status.ReadFault). cc) e f)
  | inr (inr (inr (inr (inl f), y))) ↦ absurd (differs s status.BadTape status.WriteFault (λ (g : status.BadTape ≡ status.WriteFault). cc) e f)
  | inr (inr (inr (inr (inr f), y))) ↦ absurd (differs s status.BadTape status.NoMemory (λ (g : status.BadTape ≡ status.NoMemory). cc) e f)
]

-- else it is broken off, unless the tape was not bound
broken_is : (c : Call) (start : Book) (s : Status) (t v : Told) → (s ≡ status.Replayed → ⊥) → (s ≡ status.BadTape → ⊥) → Follows c start s t v
    → (v ≡ reads (instance_word c.words) t) ⊎ PlaysFront c.words start t v
broken_is c start s t v a b x = elim x [
  | inl (f, y) ↦ inl y
  | inr (inl (f, y)) ↦ absurd (a f)
  | inr (inr (inl (f, y))) ↦ absurd (b f)
  | inr (inr (inr (f, y))) ↦ inr (front_told c start t v y)
]

written_is : (c : Call) (start : Book) (s : Status) (t v : Told) → s ≡ status.WriteFault → Follows c start s t v → PlaysFront c.words start t v
written_is c start s t v e x = elim x [
  | inl (f, y) ↦ absurd (differs s status.WriteFault status.ReadFault (λ (g : status.WriteFault ≡ status.ReadFault). cc) e f)
  | inr (inl (f, y)) ↦ absurd (differs s status.WriteFault status.Replayed (λ (g : status.WriteFault ≡ status.Replayed). cc) e f)
  | inr (inr (inl (f, y))) ↦ absurd (differs s status.WriteFault status.BadTape (λ (g : status.WriteFault ≡ status.BadTape). cc) e f)
  | inr (inr (inr (f, y))) ↦ front_told c start t v y
]

either : {T : Type 0} (P Q : T → T → Type 0) (a b : Option T) → BothTell (λ t u. P t u ⊎ Q t u) a b → BothTell P a b ⊎ BothTell Q a b
either P Q None None x = inl tt
either P Q None (Some u) x = absurd x
either P Q (Some t) None x = absurd x
either P Q (Some t) (Some u) x = elim x [ inl y ↦ inl y | inr y ↦ inr y ]

follows : (c : Call) (i : Instance) (start : Book) (s : Status) (b : Option Told) → BothTell (ReadsInstance (instance_word c.words) i) c.before.desk b
    → BothTell (IsReplay start (tape_word c.words) s) b c.after.desk → BothTell (Follows c start s) c.before.desk c.after.desk
follows c i start s b read plays = both_then (ReadsInstance (instance_word c.words) i) (IsReplay start (tape_word c.words) s) (Follows c start s)
    (λ t u v x y. subst (λ (w : Told). IsReplay start (tape_word c.words) s w v) x.others y) c.before.desk b c.after.desk read plays

by : (Way : List Text → Book → Told → Told → Type 0) (c : Call) (i : Instance) (start : Book) (b : Option Told) → IsFirstBook i (budget_of c.words) (grunts_of c.words) start → SlotsKept c
    → BothTell (ReadsInstance (instance_word c.words) i) c.before.desk b → BothTell (Way c.words start) c.before.desk c.after.desk → ReplaysBy Way c
by Way c i start b first kept read way = record {
  instance = i;
  start = start;
  bytes_read = bytes_read (instance_word c.words) i c.before.desk b read;
  begins = first;
  desk = way;
  slots = kept;
}

broken : (c : Call) (i : Instance) (start : Book) (s : Status) (b : Option Told) → (s ≡ status.Replayed → ⊥) → (s ≡ status.BadTape → ⊥)
    → IsFirstBook i (budget_of c.words) (grunts_of c.words) start → SlotsKept c → BothTell (ReadsInstance (instance_word c.words) i) c.before.desk b
    → BothTell (Follows c start s) c.before.desk c.after.desk → Unread c ⊎ BrokenOff c
broken c i start s b unended unfaulty first kept read plays =
    let Rest : Told → Told → Type 0 = λ t v. v ≡ reads (instance_word c.words) t in
    elim (either Rest (PlaysFront c.words start) c.before.desk c.after.desk
    (both_to (Follows c start s) (λ t v. Rest t v ⊎ PlaysFront c.words start t v) (λ t v x. broken_is c start s t v unended unfaulty x) c.before.desk c.after.desk plays)) [
      | inl x ↦ inl (record {
        desk = both_to Rest (TouchesInstance (instance_word c.words)) (λ t v e. inr (
          length t.instance,
          e ∙ ap (λ (rest : List ℕ). record t { instance = rest; instance_path = Some (instance_word c.words); instance_binds = t.instance_binds + 1 }) (sym (drop-length t.instance)),
        )) c.before.desk c.after.desk x;
        slots = kept;
      })
      | inr x ↦ inr (by PlaysFront c i start b first kept read x)
    ]

pub replays_so : StepsCharge → (s : Status) (c : Call) (i : Instance) (start : Book) (b : Option Told) → IsPlayStatus s → IsFirstBook i (budget_of c.words) (grunts_of c.words) start → SlotsKept c
    → BothTell (ReadsInstance (instance_word c.words) i) c.before.desk b → BothTell (IsReplay start (tape_word c.words) s) b c.after.desk → Replays s c
replays_so charge s c i start b is first kept read plays =
    let on = follows c i start s b read plays in
    elim is [
      | inl e ↦ inl (
        e,
        by PlaysWhole c i start b first kept read
            (both_to (Follows c start s) (PlaysWhole c.words start) (λ t v x. replayed_is c start s t v e x) c.before.desk c.after.desk on),
      )
      | inr (inl e) ↦ inr (inl (
        e,
        by PlaysToFault c i start b first kept read
            (both_to (Follows c start s) (PlaysToFault c.words start) (λ t v x. bad_tape_is charge c start s t v e x) c.before.desk c.after.desk on),
      ))
      | inr (inr (inl e)) ↦ inr (inr (inr (inl (
        e,
        broken c i start s b
            (λ f. differs s status.ReadFault status.Replayed (λ (g : status.ReadFault ≡ status.Replayed). cc) e f)
            (λ f. differs s status.ReadFault status.BadTape (λ (g : status.ReadFault ≡ status.BadTape). cc) e f) first kept read on,
      ))))
      | inr (inr (inr (inl e))) ↦ inr (inr (inr (inr (inl (
        e,
        inr (by PlaysFront c i start b first kept read
            (both_to (Follows c start s) (PlaysFront c.words start) (λ t v x. written_is c start s t v e x) c.before.desk c.after.desk on)),
      )))))
      | inr (inr (inr (inr e))) ↦ inr (inr (inr (inr (inr (
        e,
        broken c i start s b
            (λ f. differs s status.NoMemory status.Replayed (λ (g : status.NoMemory ≡ status.Replayed). cc) e f)
            (λ f. differs s status.NoMemory status.BadTape (λ (g : status.NoMemory ≡ status.BadTape). cc) e f) first kept read on,
      )))))
    ]
