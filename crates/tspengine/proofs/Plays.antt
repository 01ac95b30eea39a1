-- A tape that is played from an inlet.
use Rattle.std.proofs.Common.{◌≡◌, ℕ, ◌+◌, ◌<◌, List, [], ◌++◌, length, take, refl, sym, ap, subst, ◌∙◌, ◌⊎◌, inl, inr, Option, Some, None, append_assoc, ◌-◌, length-append, arith, Result, Ok, Err, IfOk}
use Rattle.std.proofs.lemmas.List.{append-nil}
use Rattle.std.proofs.Math.Seq.{take-append-add}
use Rattle.ports.specs.Outside.{BothTell, WhereTold}
use Rattle.ports.specs.Desk.{Told, Takes, Adds, IsAtEnd}
use Rattle.ports.specs.declared.desk.Inlet.TheVariants as inlet
use Rattle.ports.specs.declared.desk.Outlet.TheVariants as outlet
use Rattle.tspdef.specs.Instances.{Instance}
use Rattle.treebook.specs.Tree as trees
use Rattle.treebook.specs.Tables.{fresh}
use Rattle.opening.specs.Openings.{IsOpening}
use Rattle.opening.specs.declared.Opening.{Opening}
use Rattle.bossx.specs.Books.{Book}
use Rattle.bossx.specs.Kept.{IsStart}
use Rattle.verification.proofs.Tells.{both_to, both_then, both_same}
use Rattle.tapeboss.specs.Tapes.{most_bytes, none, IsPlayedTape, Playing, HasPlayed, GoesOn, StopsAt, EndsAs}
use Rattle.tapeboss.specs.declared.error.Fault.{Fault}
use Rattle.tspengine.specs.Playing.{first_table, IsFirstBook, AreLinesOf, Goes, BreaksOff, EndsSo, IsPlayed, IsEndOf, GoesFurther}
use Rattle.tspengine.specs.declared.statuses.Status.{Status}
use Rattle.tspengine.specs.declared.statuses.Status.TheVariants as status

-- ---- what goes

goes_so : (bytes lines rest : List ℕ) (t u : Told) → t.proof_in ≡ bytes ++ rest → u ≡ record t { proof_in = rest; text = t.text ++ lines } → Goes bytes lines t u
goes_so bytes lines rest t u e f =
    let left : u.proof_in ≡ rest = ap (λ (x : Told). x.proof_in) f in
    record {
      taken = e ∙ ap (λ (x : List ℕ). bytes ++ x) (sym left);
      others = f ∙ ap (λ (x : List ℕ). record t { proof_in = x; text = t.text ++ lines }) (sym left);
    }

-- bytes are taken, and then lines printed
goes_by : (bytes lines : List ℕ) (t u v : Told) → Takes inlet.Proof bytes t u → Adds outlet.Text lines u v → Goes bytes lines t v
goes_by bytes lines t u v takes adds = goes_so bytes lines u.proof_in t v takes.front
    (adds ∙ ap (λ (x : Told). record x { text = x.text ++ lines }) takes.others)

-- or nothing is
pub goes_none : (bytes : List ℕ) (t u : Told) → Takes inlet.Proof bytes t u → Goes bytes [] t u
goes_none bytes t u takes = goes_so bytes [] u.proof_in t u takes.front
    (takes.others ∙ ap (λ (x : List ℕ). record t { proof_in = u.proof_in; text = x }) (sym (append-nil t.text)))

pub goes_nowhere : (t : Told) → Goes [] [] t t
goes_nowhere t = record { taken = refl; others = ap (λ (x : List ℕ). record t { text = x }) (sym (append-nil t.text)) }

goes_on : (xs ys l m : List ℕ) (t u v : Told) → Goes xs l t u → Goes ys m u v → Goes (xs ++ ys) (l ++ m) t v
goes_on xs ys l m t u v p q = goes_so (xs ++ ys) (l ++ m) v.proof_in t v
    (p.taken ∙ (ap (λ (x : List ℕ). xs ++ x) q.taken ∙ sym (append_assoc xs ys v.proof_in)))
    (q.others ∙ (ap (λ (x : Told). record x { proof_in = v.proof_in; text = x.text ++ m }) p.others
    ∙ ap (λ (x : List ℕ). record t { proof_in = v.proof_in; text = x }) (append_assoc t.text l m)))

-- ---- how it ends

pub lines_so_far : (start : Book) (fed said more : List ℕ) (tape : Playing) → HasPlayed start fed said tape → AreLinesOf start (fed ++ more) said
lines_so_far start fed said more tape h = inl (
  tape.frames,
  h.front,
  tape.begun ++ more,
  tape.book,
  ap (λ (x : List ℕ). x ++ more) h.fed_is ∙ append_assoc h.front tape.begun more,
  h.plays,
)

-- nothing more is printed
pub breaks_silent : (tape : Playing) (bytes : List ℕ) (t u : Told) → Goes bytes [] t u → (start : Book) (fed said : List ℕ) → HasPlayed start fed said tape → BreaksOff start fed said t u
breaks_silent tape bytes t u goes start fed said h = record {
  bytes = bytes;
  lines = [];
  printed = 0;
  answered = subst (AreLinesOf start (fed ++ t.proof_in)) (sym (append-nil said)) (lines_so_far start fed said t.proof_in tape h);
  goes = goes;
}

same_tape : (start : Book) (fed lines : List ℕ) (bytes rest tape : List ℕ) (e : Option (Fault × ℕ)) → tape ≡ bytes ++ rest → IsPlayedTape start ((fed ++ bytes) ++ rest) lines e → IsPlayedTape start (fed ++ tape) lines e
same_tape start fed lines bytes rest tape e is played =
    subst (λ (x : List ℕ). IsPlayedTape start x lines e) (append_assoc fed bytes rest ∙ ap (λ (x : List ℕ). fed ++ x) (sym is)) played

-- ---- one state behind the other

abbrev IsBroken : Status → Type 0
IsBroken s = (s ≡ status.ReadFault) ⊎ (s ≡ status.WriteFault) ⊎ (s ≡ status.NoMemory)

longer : (start : Book) (s : Status) (fed said : List ℕ) (t u v : Told) → Goes fed said t u → EndsSo start fed said s u v → EndsSo start [] [] s t v
longer start s fed said t u v goes ends =
    let back : fed ++ u.proof_in ≡ t.proof_in = sym goes.taken in
    elim ends [
      | inl (e, x) ↦ inl (
        e,
        record {
          lines = said ++ x.lines;
          played = subst (λ (z : List ℕ). IsPlayedTape start z (said ++ x.lines) None) back x.played;
          goes = subst (λ (z : List ℕ). Goes z (said ++ x.lines) t v) back (goes_on fed u.proof_in said x.lines t u v goes x.goes);
        },
      )
      | inr (inl (e, x)) ↦ inr (inl (
        e,
        record {
          bytes = fed ++ x.bytes;
          lines = said ++ x.lines;
          fault = x.fault;
          played = subst (λ (z : List ℕ). IsPlayedTape start z (said ++ x.lines) (Some x.fault)) back x.played;
          goes = goes_on fed x.bytes said x.lines t u v goes x.goes;
        },
      ))
      | inr (inr (e, x)) ↦ inr (inr (
        e,
        record {
          bytes = fed ++ x.bytes;
          lines = said ++ x.lines;
          printed = length said + x.printed;
          answered = subst (λ (z : List ℕ). AreLinesOf start z (said ++ x.lines)) back x.answered;
          goes = subst (λ (z : List ℕ). Goes (fed ++ x.bytes) z t v) (sym (take-append-add said x.lines x.printed))
              (goes_on fed x.bytes said (take x.printed x.lines) t u v goes x.goes);
        },
      ))
    ]

-- ---- on two desks that tell

both_at : {T : Type 0} (P Q R : T → T → Type 0) (W : T → Type 0) → ((t u v : T) → P t u → W t → Q u v → R t v) → (a b c : Option T) → BothTell P a b → WhereTold W a → BothTell Q b c → BothTell R a c
both_at P Q R W f None None None p w q = tt
both_at P Q R W f None None (Some v) p w q = absurd q
both_at P Q R W f None (Some u) c p w q = absurd p
both_at P Q R W f (Some t) None c p w q = absurd p
both_at P Q R W f (Some t) (Some u) None p w q = absurd q
both_at P Q R W f (Some t) (Some u) (Some v) p w q = f t u v p w q

-- ---- a piece is fed

pub further : (old new : Playing) (piece lines text : List ℕ) (a b c : Option Told) → text ≡ lines → 0 < length piece → GoesOn old piece lines new
    → BothTell (Takes inlet.Proof piece) a b → BothTell (Adds outlet.Text text) b c → GoesFurther old new a c
further old new piece lines text a b c is some on takes adds = record {
  bytes = piece;
  lines = lines;
  some = some;
  on = on;
  desk = both_then (Takes inlet.Proof piece) (Adds outlet.Text text) (Goes piece lines)
      (λ t u v x y. subst (λ (z : List ℕ). Goes piece z t v) is (goes_by piece text t u v x y)) a b c takes adds;
}

torn_told : (old new : Playing) (piece lines : List ℕ) (k : ℕ) (t u v : Told) → GoesOn old piece lines new → Takes inlet.Proof piece t u → Goes piece (take k lines) t v
    → IsEndOf old status.WriteFault t v
torn_told old new piece lines k t u v on takes goes start fed said h = inr (inr (
  inr (inl refl),
  record {
    bytes = piece;
    lines = lines;
    printed = k;
    answered = subst (λ (x : List ℕ). AreLinesOf start x (said ++ lines)) (append_assoc fed piece u.proof_in ∙ ap (λ (x : List ℕ). fed ++ x) (sym takes.front))
        (lines_so_far start (fed ++ piece) (said ++ lines) u.proof_in new (on start fed said h));
    goes = goes;
  },
))

pub torn_on : (old new : Playing) (piece lines text : List ℕ) (k : ℕ) (a b c : Option Told) → text ≡ lines → GoesOn old piece lines new
    → BothTell (Takes inlet.Proof piece) a b → BothTell (Adds outlet.Text (take k text)) b c → BothTell (IsEndOf old status.WriteFault) a c
torn_on old new piece lines text k a b c is on takes adds =
    both_then (Takes inlet.Proof piece) (Adds outlet.Text (take k text)) (IsEndOf old status.WriteFault)
    (λ t u v x y. torn_told old new piece lines k t u v on x (subst (λ (z : List ℕ). Goes piece (take k z) t v) is (goes_by piece (take k text) t u v x y)))
    a b c takes adds

-- the first fault lies in it
fault_told : (old : Playing) (piece lines : List ℕ) (f : Fault) (k : ℕ) (t u : Told) → StopsAt old piece lines f k → Takes inlet.Proof piece t u
    → (start : Book) (fed said : List ℕ) → HasPlayed start fed said old → IsPlayedTape start (fed ++ t.proof_in) (said ++ lines) (Some (f, k))
fault_told old piece lines f k t u at takes start fed said h =
    same_tape start fed (said ++ lines) piece u.proof_in t.proof_in (Some (f, k)) takes.front (at start fed said u.proof_in h)

pub stops_with : (old : Playing) (piece lines text : List ℕ) (f : Fault) (k : ℕ) (a b c : Option Told) → text ≡ lines → StopsAt old piece lines f k
    → BothTell (Takes inlet.Proof piece) a b → BothTell (Adds outlet.Text text) b c → BothTell (IsEndOf old status.BadTape) a c
stops_with old piece lines text f k a b c is at takes adds =
    both_then (Takes inlet.Proof piece) (Adds outlet.Text text) (IsEndOf old status.BadTape)
    (λ t u v x y start fed said h. inr (inl (
      refl,
      record {
        bytes = piece;
        lines = lines;
        fault = (f, k);
        played = fault_told old piece lines f k t u at x start fed said h;
        goes = subst (λ (z : List ℕ). Goes piece z t v) is (goes_by piece text t u v x y);
      },
    )))
    a b c takes adds

pub torn_stop : (old : Playing) (piece lines text : List ℕ) (f : Fault) (k j : ℕ) (a b c : Option Told) → text ≡ lines → StopsAt old piece lines f k
    → BothTell (Takes inlet.Proof piece) a b → BothTell (Adds outlet.Text (take j text)) b c → BothTell (IsEndOf old status.WriteFault) a c
torn_stop old piece lines text f k j a b c is at takes adds =
    both_then (Takes inlet.Proof piece) (Adds outlet.Text (take j text)) (IsEndOf old status.WriteFault)
    (λ t u v x y start fed said h. inr (inr (
      inr (inl refl),
      record {
        bytes = piece;
        lines = lines;
        printed = j;
        answered = inr (Some (f, k), fault_told old piece lines f k t u at x start fed said h);
        goes = subst (λ (z : List ℕ). Goes piece (take j z) t v) is (goes_by piece (take j text) t u v x y);
      },
    )))
    a b c takes adds

-- or memory is wanting
pub breaks : (old : Playing) (s : Status) (bytes : List ℕ) (a b : Option Told) → IsBroken s → BothTell (Takes inlet.Proof bytes) a b → BothTell (IsEndOf old s) a b
breaks old s bytes a b is takes =
    both_to (Takes inlet.Proof bytes) (IsEndOf old s)
    (λ t u x start fed said h. inr (inr (is, breaks_silent old bytes t u (goes_none bytes t u x) start fed said h))) a b takes

-- nothing could be read
pub unread : (old : Playing) (a b : Option Told) → b ≡ a → BothTell (IsEndOf old status.ReadFault) a b
unread old a b e = both_same (IsEndOf old status.ReadFault) (λ t start fed said h. inr (inr (inl refl, breaks_silent old [] t t (goes_nowhere t) start fed said h))) a b e

-- ---- the tape ends

at_its_end : (old : Playing) (lines : List ℕ) (e : Option (Fault × ℕ)) (t : Told) → EndsAs old lines e → t.proof_in ≡ []
    → (start : Book) (fed said : List ℕ) → HasPlayed start fed said old → IsPlayedTape start (fed ++ t.proof_in) (said ++ lines) e
at_its_end old lines e t ends over start fed said h =
    subst (λ (x : List ℕ). IsPlayedTape start x (said ++ lines) e) (sym (ap (λ (x : List ℕ). fed ++ x) over ∙ append-nil fed)) (ends start fed said h)

pub ends_whole : (old : Playing) (lines text : List ℕ) (a b c : Option Told) → text ≡ lines → EndsAs old lines None
    → BothTell (Takes inlet.Proof []) a b → WhereTold (IsAtEnd inlet.Proof) a → BothTell (Adds outlet.Text text) b c → BothTell (IsEndOf old status.Replayed) a c
ends_whole old lines text a b c is ends takes over adds =
    both_at (Takes inlet.Proof []) (Adds outlet.Text text) (IsEndOf old status.Replayed) (IsAtEnd inlet.Proof)
    (λ t u v x w y start fed said h. inl (
      refl,
      record {
        lines = lines;
        played = at_its_end old lines None t ends w start fed said h;
        goes = subst (λ (z : List ℕ). Goes z lines t v) (sym w) (subst (λ (z : List ℕ). Goes [] z t v) is (goes_by [] text t u v x y));
      },
    ))
    a b c takes over adds

pub ends_at_fault : (old : Playing) (lines text : List ℕ) (f : Fault) (k : ℕ) (a b c : Option Told) → text ≡ lines → EndsAs old lines (Some (f, k))
    → BothTell (Takes inlet.Proof []) a b → WhereTold (IsAtEnd inlet.Proof) a → BothTell (Adds outlet.Text text) b c → BothTell (IsEndOf old status.BadTape) a c
ends_at_fault old lines text f k a b c is ends takes over adds =
    both_at (Takes inlet.Proof []) (Adds outlet.Text text) (IsEndOf old status.BadTape) (IsAtEnd inlet.Proof)
    (λ t u v x w y start fed said h. inr (inl (
      refl,
      record {
        bytes = [];
        lines = lines;
        fault = (f, k);
        played = at_its_end old lines (Some (f, k)) t ends w start fed said h;
        goes = subst (λ (z : List ℕ). Goes [] z t v) is (goes_by [] text t u v x y);
      },
    )))
    a b c takes over adds

pub torn_end : (old : Playing) (lines text : List ℕ) (e : Option (Fault × ℕ)) (j : ℕ) (a b c : Option Told) → text ≡ lines → EndsAs old lines e
    → BothTell (Takes inlet.Proof []) a b → WhereTold (IsAtEnd inlet.Proof) a → BothTell (Adds outlet.Text (take j text)) b c → BothTell (IsEndOf old status.WriteFault) a c
torn_end old lines text e j a b c is ends takes over adds =
    both_at (Takes inlet.Proof []) (Adds outlet.Text (take j text)) (IsEndOf old status.WriteFault) (IsAtEnd inlet.Proof)
    (λ t u v x w y start fed said h. inr (inr (
      inr (inl refl),
      record {
        bytes = [];
        lines = lines;
        printed = j;
        answered = inr (e, at_its_end old lines e t ends w start fed said h);
        goes = subst (λ (z : List ℕ). Goes [] (take j z) t v) is (goes_by [] (take j text) t u v x y);
      },
    )))
    a b c takes over adds

-- ---- pieces behind each other

-- what was taken and printed on the way
abbrev pub IsOnWay : Book → Playing → Option Told → Option Told → Type 0
IsOnWay start tape a b = (fed : List ℕ) × (said : List ℕ) × HasPlayed start fed said tape × BothTell (Goes fed said) a b

pub on_way_from : (start : Book) (tape : Playing) (a : Option Told) → HasPlayed start [] [] tape → IsOnWay start tape a a
on_way_from start tape a h = ([], [], h, both_same (Goes [] []) goes_nowhere a a refl)

pub on_way_on : (start : Book) (old new : Playing) (a b c : Option Told) → IsOnWay start old a b → GoesFurther old new b c → IsOnWay start new a c
on_way_on start old new a b c way g = (
  way.0 ++ g.bytes,
  way.1 ++ g.lines,
  g.on start way.0 way.1 way.2,
  both_then (Goes way.0 way.1) (Goes g.bytes g.lines) (Goes (way.0 ++ g.bytes) (way.1 ++ g.lines)) (goes_on way.0 g.bytes way.1 g.lines) a b c way.3 g.desk,
)

pub less_left : (start : Book) (old new : Playing) (a b c : Option Told) → IsOnWay start old a b → GoesFurther old new b c → most_bytes - new.read < most_bytes - old.read
less_left start old new a b c way g =
    let h = way.2 in
    let k = g.on start way.0 way.1 way.2 in
    let was = h.read in
    let is = k.read in
    let few = k.few in
    let some = g.some in
    let all = length-append way.0 g.bytes in
    omega arith

pub played_so : (start : Book) (tape : Playing) (s : Status) (a b c : Option Told) → IsOnWay start tape a b → BothTell (IsEndOf tape s) b c → BothTell (IsPlayed start s) a c
played_so start tape s a b c way ends =
    both_then (Goes way.0 way.1) (IsEndOf tape s) (IsPlayed start s) (λ t u v x y. longer start s way.0 way.1 t u v x (y start way.0 way.1 way.2)) a b c way.3 ends

-- nothing was begun
pub played_none : (start : Book) (s : Status) (a b : Option Told) → IsBroken s → b ≡ a → BothTell (IsPlayed start s) a b
played_none start s a b is e = both_same (IsPlayed start s)
    (λ t. inr (inr (is, record { bytes = []; lines = []; printed = 0; answered = inl (0, [], t.proof_in, start, refl, none); goes = goes_nowhere t }))) a b e

-- ---- the boss at the start

pub same_table : (i : Instance) (n : ℕ) (fixed : List (ℕ × ℕ)) (t : trees.Table) → t ≡ record { n = n; fixed = fixed; nodes = fresh; room = 0 } → n ≡ i.n → fixed ≡ i.fixed → t ≡ first_table i
same_table i n fixed t e f g =
    let at : ℕ → List (ℕ × ℕ) → trees.Table = λ m p. record { n = m; fixed = p; nodes = fresh; room = 0 } in
    e ∙ (ap (λ (m : ℕ). at m fixed) f ∙ ap (λ (p : List (ℕ × ℕ)). at i.n p) g)

pub first_book : (i : Instance) (o : Opening) (t : trees.Table) (budget grunts : ℕ) (b : Book) → IsOpening i o → t ≡ first_table i
    → IsStart i t o.tour budget grunts 0 b → IsFirstBook i budget grunts b
first_book i o t budget grunts b opening e is = record {
  tour = o.tour;
  is_opening = record { is_tour = opening.is_tour; no_longer = opening.no_longer; near = o.near; lists = opening.lists; rests = opening.rests };
  start = subst (λ (x : trees.Table). IsStart i x o.tour budget grunts 0 b) e is;
}

pub ok_to : {A E : Type 0} (P Q : A → Type 0) → ((a : A) → P a → Q a) → (r : Result A E) → IfOk r P → IfOk r Q
ok_to P Q f (Ok a) h = f a h
ok_to P Q f (Err e) h = tt
