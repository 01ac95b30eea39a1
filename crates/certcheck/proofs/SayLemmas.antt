-- What the bytes of a restart body say, as they are read.
use Rattle.std.proofs.Common.{◌≡◌, ◌≢◌, ℕ, suc, ◌+◌, false, cond, List, [], ◌∷◌, ◌++◌, length, refl, sym, ap, subst, ◌∙◌, append_assoc, drop, arith, Result, Ok, Err, OnOk}
use Rattle.std.specs.Prelude.{◌==◌}
use Rattle.std.proofs.lemmas.Bool.Decides.{nat_tests}
use Rattle.certdef.specs.Items.{item_of}
use Rattle.certdef.specs.Tests.{Tests}
use Rattle.certdef.specs.Bytes.{Reading, Read, reads, stops, byte_on, bytes_on}
use Rattle.verdict.specs.Parts.{Part, line_says, byte_says, bytes_say}
use Rattle.certcheck.specs.Readings.{reading_of, HasNoLineEnd, HasRoom, SaysMore}
use Rattle.tspdef.specs.Instances.{Instance}
use Rattle.certcheck.specs.Keeping.{Keeps}
use Rattle.certcheck.specs.Purposes.{tests_by}
use Rattle.certcheck.specs.declared.part.Parts.{Parts}
use Rattle.certcheck.specs.declared.purpose.Purpose.TheVariants as purposes
use Rattle.certcheck.specs.declared.reading.Reading as readings
use Rattle.certcheck.proofs.ReadingLemmas.{run_on, done}

append_nil : {X : Type 0} (xs : List X) → xs ++ [] ≡ xs
append_nil [] = refl
append_nil (x ∷ xs) = ap (λ ys. x ∷ ys) (append_nil xs)

-- bytes in pieces say what they say together
pub in_pieces : (j : Tests) (r : Read) (xs ys : List ℕ) → bytes_say j r (xs ++ ys) ≡ bytes_say j r xs ++ bytes_say j (bytes_on j r xs) ys
in_pieces j (stops k at) [] ys = refl
in_pieces j (stops k at) (x ∷ xs) ys = refl
in_pieces j (reads r) [] ys = refl
in_pieces j (reads r) (x ∷ xs) ys =
    ap (λ q. byte_says j.n r x ++ q) (in_pieces j (byte_on j r x) xs ys) ∙ sym (append_assoc (byte_says j.n r x) (bytes_say j (byte_on j r x) xs) (bytes_say j (bytes_on j (byte_on j r x) xs) ys))

-- a byte that ends no line says nothing
quiet_byte : (n : ℕ) (r : Reading) (b : ℕ) → b ≢ 10 → byte_says n r b ≡ []
quiet_byte n r b e = let no_end : (b == 10) ≡ false = grind (arith, nat_tests) in ap (λ x. cond x (line_says n r.stage (item_of n r.begun)) []) no_end

shift : (b : ℕ) (bs : List ℕ) → HasNoLineEnd (b ∷ bs) → HasNoLineEnd bs
shift b bs h k l = h (suc k) (omega arith)

quiet : (j : Tests) (x : Read) (bs : List ℕ) → HasNoLineEnd bs → bytes_say j x bs ≡ []
quiet j (stops k at) bs h = refl
quiet j (reads r) [] h = refl
quiet j (reads r) (b ∷ bs) h = ap (λ q. q ++ bytes_say j (byte_on j r b) bs) (quiet_byte j.n r b (h 0 (omega arith))) ∙ quiet j (byte_on j r b) bs (shift b bs h)

-- one byte more
pub one_said : (j : Tests) (r : Reading) (b : ℕ) → bytes_say j (reads r) (b ∷ []) ≡ byte_says j.n r b
one_said j r b = ap (λ q. byte_says j.n r b ++ q) (end_said j (byte_on j r b)) ∙ append_nil (byte_says j.n r b) where
  end_said : (j : Tests) (x : Read) → bytes_say j x [] ≡ []
  end_said j (stops k at) = refl
  end_said j (reads r) = refl

-- bytes that end no line
pub run_said : (j : Tests) (r : Reading) (bs : List ℕ) → HasNoLineEnd bs → bytes_say j (reads r) bs ≡ []
run_said j r bs h = quiet j (reads r) bs h

-- a whole line
pub line_said : (j : Tests) (r : Reading) (bs : List ℕ) → r.begun ≡ [] → HasNoLineEnd bs → HasRoom (length bs) r → bytes_say j (reads r) (bs ++ 10 ∷ []) ≡ line_says j.n r.stage (item_of j.n bs)
line_said j r bs e n h =
    let q : Reading = record { at = r.at; read = r.read + length bs; stage = r.stage; begun = r.begun ++ bs } in
    in_pieces j (reads r) bs (10 ∷ [])
    ∙ (ap (λ x. x ++ bytes_say j (bytes_on j (reads r) bs) (10 ∷ [])) (run_said j r bs n)
    ∙ (ap (λ x. bytes_say j x (10 ∷ [])) (run_on j r bs n h)
    ∙ (one_said j q 10
    ∙ ap (λ xs. line_says j.n r.stage (item_of j.n (xs ++ bs))) e)))

-- what is said so far goes on with what a piece says, and with the rest
pub further : (j : Tests) (r q : Reading) (xs ys zs : List ℕ) (mid all : List Part) → zs ≡ xs ++ ys → bytes_on j (reads r) xs ≡ reads q → mid ++ bytes_say j (reads r) zs ≡ all
    → (mid ++ bytes_say j (reads r) xs) ++ bytes_say j (reads q) ys ≡ all
further j r q xs ys zs mid all e f h =
    append_assoc mid (bytes_say j (reads r) xs) (bytes_say j (reads q) ys)
    ∙ (ap (λ x. mid ++ (bytes_say j (reads r) xs ++ bytes_say j x ys)) (sym f)
    ∙ (ap (λ x. mid ++ x) (sym (in_pieces j (reads r) xs ys) ∙ ap (bytes_say j (reads r)) (sym e)) ∙ h))

-- nothing is left
pub all_said : (j : Tests) (q : Reading) (mid all : List Part) → mid ++ bytes_say j (reads q) [] ≡ all → mid ≡ all
all_said j q mid all h = sym (append_nil mid) ∙ h

-- ---- what is kept of a body

-- a piece that ends no line
pub kept_quietly : (j : Tests) (r : Reading) (bs : List ℕ) (p : Parts) (said : List Part) → HasNoLineEnd bs → Keeps p said → Keeps p (said ++ bytes_say j (reads r) bs)
kept_quietly j r bs p said h k = subst (Keeps p) (sym (ap (λ x. said ++ x) (run_said j r bs h) ∙ append_nil said)) k

-- a byte that ends no line
pub kept_at_byte : (n : ℕ) (r : Reading) (b : ℕ) (p : Parts) (said : List Part) → b ≢ 10 → Keeps p said → Keeps p (said ++ byte_says n r b)
kept_at_byte n r b p said e k = subst (Keeps p) (sym (ap (λ x. said ++ x) (quiet_byte n r b e) ∙ append_nil said)) k

-- Where a body that was read from `old` on stands, with the rest left of the whole: what is kept and what the rest says are what was kept
-- at first and what the whole says.
abbrev pub Saying : Tests → readings.Reading → List ℕ → readings.Reading → List ℕ → Type 0
Saying j old whole now rest = old.progress.purpose ≡ purposes.Resume → (said : List Part) → Keeps old.parts said
    → (mid : List Part) × (Keeps now.parts mid × (mid ++ bytes_say j (reads (reading_of now)) rest ≡ said ++ bytes_say j (reads (reading_of old)) whole))

-- at first
pub said_at_first : (j : Tests) (r : readings.Reading) (bs : List ℕ) → Saying j r bs r bs
said_at_first j r bs = λ h said k. (said, (k, refl))

-- a piece later
pub said_on : (i : Instance) (old now next : readings.Reading) (whole rest piece left : List ℕ) → rest ≡ piece ++ left
    → now.progress.purpose ≡ old.progress.purpose
    → bytes_on (tests_by now.progress.purpose i) (reads (reading_of now)) piece ≡ reads (reading_of next)
    → SaysMore now next (bytes_say (tests_by now.progress.purpose i) (reads (reading_of now)) piece)
    → Saying (tests_by old.progress.purpose i) old whole now rest → Saying (tests_by old.progress.purpose i) old whole next left
said_on i old now next whole rest piece left e s f m h = λ u said k.
    let j = tests_by old.progress.purpose i in
    let g : bytes_on j (reads (reading_of now)) piece ≡ reads (reading_of next) = subst (λ w. bytes_on (tests_by w i) (reads (reading_of now)) piece ≡ reads (reading_of next)) s f in
    let more : SaysMore now next (bytes_say j (reads (reading_of now)) piece) = subst (λ w. SaysMore now next (bytes_say (tests_by w i) (reads (reading_of now)) piece)) s m in
    let before = h u said k in
    let mid = before.0 in
    (mid ++ bytes_say j (reads (reading_of now)) piece, (more (s ∙ u) mid before.1.0, further j (reading_of now) (reading_of next) piece left rest mid (said ++ bytes_say j (reads (reading_of old)) whole) e g before.1.1))

-- nothing is left
pub said_whole : (j : Tests) (old now : readings.Reading) (whole : List ℕ) → Saying j old whole now [] → SaysMore old now (bytes_say j (reads (reading_of old)) whole)
said_whole j old now whole h = λ u said k.
    let before = h u said k in
    subst (Keeps now.parts) (all_said j (reading_of now) before.0 (said ++ bytes_say j (reads (reading_of old)) whole) before.1.1) before.1.0

-- with the last piece
pub said_last : (i : Instance) (old now next : readings.Reading) (whole rest : List ℕ)
    → now.progress.purpose ≡ old.progress.purpose
    → SaysMore now next (bytes_say (tests_by now.progress.purpose i) (reads (reading_of now)) rest)
    → Saying (tests_by old.progress.purpose i) old whole now rest → SaysMore old next (bytes_say (tests_by old.progress.purpose i) (reads (reading_of old)) whole)
said_last i old now next whole rest s m h = λ u said k.
    let j = tests_by old.progress.purpose i in
    let more : SaysMore now next (bytes_say j (reads (reading_of now)) rest) = subst (λ w. SaysMore now next (bytes_say (tests_by w i) (reads (reading_of now)) rest)) s m in
    let before = h u said k in
    subst (Keeps next.parts) before.1.1 (more (s ∙ u) before.0 before.1.0)

-- a byte later
pub said_on_byte : (i : Instance) (old now next : readings.Reading) (whole : List ℕ) (k b : ℕ) → drop k whole ≡ b ∷ drop (k + 1) whole
    → now.progress.purpose ≡ old.progress.purpose
    → byte_on (tests_by now.progress.purpose i) (reading_of now) b ≡ reads (reading_of next)
    → SaysMore now next (byte_says i.n (reading_of now) b)
    → Saying (tests_by old.progress.purpose i) old whole now (drop k whole) → Saying (tests_by old.progress.purpose i) old whole next (drop (k + 1) whole)
said_on_byte i old now next whole k b d s e m h =
    let j = tests_by now.progress.purpose i in
    said_on i old now next whole (drop k whole) (b ∷ []) (drop (k + 1) whole) d s (done j (byte_on j (reading_of now) b) ∙ e) (subst (SaysMore now next) (sym (one_said j (reading_of now) b)) m) h

-- a piece, and the byte that ends the line
pub then_line_end : (i : Instance) (old mid new : readings.Reading) (run : List ℕ) → mid.progress.purpose ≡ old.progress.purpose
    → bytes_on (tests_by old.progress.purpose i) (reads (reading_of old)) run ≡ reads (reading_of mid)
    → SaysMore old mid (bytes_say (tests_by old.progress.purpose i) (reads (reading_of old)) run) → SaysMore mid new (byte_says i.n (reading_of mid) 10)
    → SaysMore old new (bytes_say (tests_by old.progress.purpose i) (reads (reading_of old)) (run ++ 10 ∷ []))
then_line_end i old mid new run s e m b = λ u said k.
    let j = tests_by old.progress.purpose i in
    let front = bytes_say j (reads (reading_of old)) run in
    let last = byte_says i.n (reading_of mid) 10 in
    let joined : bytes_say j (reads (reading_of old)) (run ++ 10 ∷ []) ≡ front ++ last =
    in_pieces j (reads (reading_of old)) run (10 ∷ []) ∙ (ap (λ x. front ++ bytes_say j x (10 ∷ [])) e ∙ ap (λ x. front ++ x) (one_said j (reading_of mid) 10)) in
    subst (Keeps new.parts) (append_assoc said front last ∙ ap (λ x. said ++ x) (sym joined)) (b (s ∙ u) (said ++ front) (m u said k))

pub on_ok_then : {X E : Type 0} (r : Result X E) (P Q : Type 0) → OnOk r P → (P → Q) → OnOk r Q
on_ok_then (Ok v) P Q p f = f p
on_ok_then (Err e) P Q p f = tt
