-- Bytes taken together as one by one.
use Rattle.std.proofs.Common.{◌≡◌, ◌≢◌, ℕ, zero, suc, ◌+◌, ◌-◌, ◌<◌, ◌≤◌, true, false, List, [], ◌∷◌, ◌++◌, length, refl, sym, ap, subst, ◌∙◌, append_assoc, length-append, arith, Result, Ok, Err, IsErrAnd, take, drop}
use Rattle.std.specs.Prelude.{nat_le, nat_lt, ◌==◌, slice_index}
use Rattle.std.proofs.lemmas.Bool.Decides.{nat_tests}
use Rattle.std.proofs.lemmas.List.{take_all, length-drop}
use Rattle.certdef.specs.Items.{item_of, longest}
use Rattle.certdef.specs.Accepted.{most_bytes}
use Rattle.certdef.specs.Tests.{Tests}
use Rattle.certdef.specs.Verdicts.{Stage, Outcome, line_step}
use Rattle.certdef.specs.Bytes.{Reading, Read, reads, stops, byte_on, bytes_on, line_on}
use Rattle.verdict.proofs.Bytes.{reads_in_pieces}
use Rattle.certcheck.specs.Readings.{HasNoLineEnd, HasRoom, Reads}
use Rattle.std.specs.Prelude.{Option}
use Rattle.certcheck.specs.declared.part.Part.{Part}
use Rattle.certcheck.specs.Stages.{Goes}
use Rattle.certcheck.specs.declared.progress.Progress.{Progress}
use Rattle.certcheck.specs.declared.reading.Reading as readings
use Rattle.certcheck.specs.declared.answer.Trouble.{Trouble}
use Rattle.certcheck.specs.declared.answer.Trouble.TheVariants as troubles

-- a byte that ends no line
one_on : (j : Tests) (r : Reading) (b : ℕ) (more : ℕ) → b ≢ 10 → HasRoom (suc more) r
    → byte_on j r b ≡ reads (record { at = r.at; read = r.read + 1; stage = r.stage; begun = r.begun ++ b ∷ [] })
one_on j r b more e h =
    rw (most, h.goes_on, no_end, room) refl where
      most : nat_le most_bytes r.read ≡ false
      most = let t = h.text in grind (arith, nat_tests)

      no_end : (b == 10) ≡ false
      no_end = grind (arith, nat_tests)

      room : nat_lt (length r.begun) longest ≡ true
      room = let t = h.line in grind (arith, nat_tests)

-- what is left of a list of bytes without a line end has none
shift : (b : ℕ) (bs : List ℕ) → HasNoLineEnd (b ∷ bs) → HasNoLineEnd bs
shift b bs h k l = h (suc k) (omega arith)

pub same_place : {at to a b : ℕ} {xs ys : List ℕ} (s : Stage) → at ≡ to → a ≡ b → xs ≡ ys
    → reads (record { at = at; read = a; stage = s; begun = xs }) ≡ reads (record { at = to; read = b; stage = s; begun = ys })
same_place {at} {to} {a} {b} {xs} {ys} s d e f =
    ap (λ k. reads (record { at = k; read = a; stage = s; begun = xs })) d
    ∙ (ap (λ k. reads (record { at = to; read = k; stage = s; begun = xs })) e
    ∙ ap (λ zs. reads (record { at = to; read = b; stage = s; begun = zs })) f)

-- bytes that end no line, where there is room for them
pub run_on : (j : Tests) (r : Reading) (bs : List ℕ) → HasNoLineEnd bs → HasRoom (length bs) r
    → bytes_on j (reads r) bs ≡ reads (record { at = r.at; read = r.read + length bs; stage = r.stage; begun = r.begun ++ bs })
run_on j r [] n h = rw (nothing r.begun) (ap (λ k. reads (record { at = r.at; read = k; stage = r.stage; begun = r.begun })) (omega arith)) where
  nothing : (xs : List ℕ) → xs ++ [] ≡ xs
  nothing [] = refl
  nothing (x ∷ xs) = ap (λ ys. x ∷ ys) (nothing xs)
run_on j r (b ∷ bs) n h =
    let q : Reading = record { at = r.at; read = r.read + 1; stage = r.stage; begun = r.begun ++ b ∷ [] } in
    let long : length (r.begun ++ b ∷ []) ≡ length r.begun + 1 = length-append r.begun (b ∷ []) in
    let line : length (r.begun ++ b ∷ []) + length bs ≤ longest = let t = h.line in omega arith in
    let text : (r.read + 1) + length bs < most_bytes = let t = h.text in omega arith in
    let room : HasRoom (length bs) q = record { goes_on = h.goes_on; line = line; text = text } in
    ap (λ x. bytes_on j x bs) (one_on j r b (length bs) (n 0 (omega arith)) h)
    ∙ (run_on j q bs (shift b bs n) room
    ∙ same_place r.stage refl (omega arith) (append_assoc r.begun (b ∷ []) bs))

stays : (n : ℕ) (t : Trouble) (c d : readings.Reading) (j : Tests) (q p : Read) (ys : List ℕ) → Reads n (Err t) c q → p ≡ bytes_on j q ys → Reads n (Err t) d p
stays n troubles.NoMemory c d j q p ys h e = tt
stays n (troubles.Refused k at) c d j q p ys h e = e ∙ ap (λ x. bytes_on j x ys) h

-- a text that is refused stays so
pub refused_on : (n : ℕ) (t : Trouble) (r : Result (Unit {0}) Trouble) (c d : readings.Reading) (j : Tests) (q p : Read) (ys : List ℕ) → IsErrAnd r (λ e. e ≡ t) → Reads n (Err t) c q → p ≡ bytes_on j q ys → Reads n r d p
refused_on n t (Ok x) c d j q p ys is h e = absurd is
refused_on n t (Err x) c d j q p ys is h e = subst (λ y. Reads n (Err y) d p) (sym is) (stays n t c d j q p ys h e)

stops-line : (n : ℕ) (t : Trouble) (s : Progress) (o : Outcome) (d : readings.Reading) (at read : ℕ) (p : Read) → Goes {X = Option Part} n (Err t) s o → p ≡ line_on at read o → Reads n (Err t) d p
stops-line n troubles.NoMemory s o d at read p h e = tt
stops-line n (troubles.Refused k from) s o d at read p h e = e ∙ ap (line_on at read) h

-- a text whose line is refused
pub line_refused : (n : ℕ) (t : Trouble) (r : Result (Unit {0}) Trouble) (s : Progress) (o : Outcome) (d : readings.Reading) (at read : ℕ) (p : Read) → IsErrAnd r (λ e. e ≡ t) → Goes {X = Option Part} n (Err t) s o → p ≡ line_on at read o → Reads n r d p
line_refused n t (Ok x) s o d at read p is h e = absurd is
line_refused n t (Err x) s o d at read p is h e = subst (λ y. Reads n (Err y) d p) (sym is) (stops-line n t s o d at read p h e)

pub empty_list : (xs : List ℕ) → length xs ≡ 0 → xs ≡ []
empty_list [] e = refl
empty_list (x ∷ xs) e = absurd (omega arith)

-- a piece at its first line end
pub first_line : (bytes : List ℕ) (k : ℕ) → k < length bytes → slice_index bytes k ≡ 10 → bytes ≡ (take k bytes ++ 10 ∷ []) ++ drop 1 (drop k bytes)
first_line [] k l e = absurd (omega arith)
first_line (b ∷ bs) zero l e = ap (λ x. x ∷ bs) e
first_line (b ∷ bs) (suc k) l e = ap (λ xs. b ∷ xs) (first_line bs k (omega arith) e)

-- bytes that are read on are read on in turn
pub in_turn : (j : Tests) (r : Read) (xs ys zs : List ℕ) (q : Read) → zs ≡ xs ++ ys → bytes_on j r xs ≡ q → bytes_on j r zs ≡ bytes_on j q ys
in_turn j r xs ys zs q e f = ap (bytes_on j r) e ∙ (reads_in_pieces j r xs ys ∙ ap (λ x. bytes_on j x ys) f)

pub done : (j : Tests) (q : Read) → bytes_on j q [] ≡ q
done j (reads r) = refl
done j (stops k at) = refl

-- a line that comes whole
pub line_whole : (j : Tests) (r : Reading) (bs : List ℕ) → r.begun ≡ [] → HasNoLineEnd bs → HasRoom (length bs) r
    → bytes_on j (reads r) (bs ++ 10 ∷ []) ≡ line_on r.at (r.read + length bs) (line_step j r.at r.stage (item_of j.n bs))
line_whole j r bs e n h =
    let q : Reading = record { at = r.at; read = r.read + length bs; stage = r.stage; begun = r.begun ++ bs } in
    let most : nat_le most_bytes (r.read + length bs) ≡ false = let t = h.text in grind (arith, nat_tests) in
    let ended : byte_on j q 10 ≡ line_on r.at (r.read + length bs) (line_step j r.at r.stage (item_of j.n (r.begun ++ bs))) = rw (most, h.goes_on) refl in
    in_turn j (reads r) bs (10 ∷ []) (bs ++ 10 ∷ []) (reads q) refl (run_on j r bs n h)
    ∙ (done j (byte_on j q 10)
    ∙ (ended
    ∙ ap (λ xs. line_on r.at (r.read + length bs) (line_step j r.at r.stage (item_of j.n (xs ++ bs)))) e))

-- the first line of a piece, and what is behind it
pub at_first_line : (bytes run tail : List ℕ) (k : ℕ) → run ≡ take k bytes → tail ≡ drop k bytes → k < length bytes → slice_index bytes k ≡ 10
    → bytes ≡ (run ++ 10 ∷ []) ++ take (length tail - 1) (drop 1 tail)
at_first_line bytes run tail k e f l g =
    first_line bytes k l g
    ∙ (ap (λ xs. (xs ++ 10 ∷ []) ++ drop 1 (drop k bytes)) (sym e)
    ∙ (ap (λ xs. (run ++ 10 ∷ []) ++ drop 1 xs) (sym f)
    ∙ ap (λ xs. (run ++ 10 ∷ []) ++ xs) (sym (take_all (length tail - 1) (drop 1 tail) (rw (length-drop 1 tail) (omega arith))))))

pub is_line_end : (b : ℕ) → (b == 10) ≡ true → b ≡ 10
is_line_end b e = grind (arith, nat_tests)
