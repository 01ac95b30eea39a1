-- What a checker that is fed pieces has read.
use Rattle.std.proofs.Common.{◌≡◌, ℕ, ◌+◌, ◌≤◌, List, [], ◌∷◌, ◌++◌, length, refl, sym, ap, subst, ◌∙◌, length-append, arith, Result, Ok, Err, IsErrAnd, Bool, true, false}
use Rattle.std.specs.Prelude.{IfErr, ◌==◌, nat_le, nat_lt, if◌then◌else◌}
use Rattle.std.proofs.lemmas.Bool.Decides.{nat_tests}
use Rattle.tspdef.specs.Instances.{Instance}
use Rattle.certdef.specs.Items.{item_of, longest}
use Rattle.certdef.specs.Accepted.{most_bytes}
use Rattle.certdef.specs.Tests.{Tests, verifier}
use Rattle.certdef.specs.Verdicts.{Verdict, Outcome, go, refused, is_end, line_step}
use Rattle.certdef.specs.Bytes.{Reading, Read, reads, stops, start, line_on, byte_on, bytes_on, end_of, verdict, verdict_at_end}
use Rattle.certcheck.specs.Checkers.{Checking, HasRead, IsRefusalOf}
use Rattle.certcheck.specs.Readings.{Reads}
use Rattle.certcheck.specs.declared.reading.Reading as readings
use Rattle.certcheck.specs.declared.answer.Trouble.{Trouble}
use Rattle.certcheck.specs.declared.answer.Trouble.TheVariants as troubles
use Rattle.certcheck.proofs.ReadingLemmas.{in_turn}

-- ---- a line that is begun has at most 16,384 bytes

abbrev begun_of : Read → List ℕ
begun_of (reads r) = r.begun
begun_of (stops k at) = []

abbrev Short : Read → Type 0
Short x = length (begun_of x) ≤ longest

short_if : (b : Bool) (x y : Read) → Short x → Short y → Short (if b then x else y)
short_if true x y f g = f
short_if false x y f g = g

short_line : (at read : ℕ) (o : Outcome) → Short (line_on at read o)
short_line at read (go s) = omega arith
short_line at read (refused k from) = omega arith

short_more : (r : Reading) (b : ℕ) (t : Bool) → nat_lt (length r.begun) longest ≡ t
    → Short (if t then reads (record { at = r.at; read = r.read + 1; stage = r.stage; begun = r.begun ++ b ∷ [] }) else stops 1 r.at)
short_more r b true e =
    let room : length r.begun + 1 ≤ longest = grind (arith, nat_tests) in
    let more : length (r.begun ++ b ∷ []) ≡ length r.begun + 1 = length-append r.begun (b ∷ []) in
    omega (arith, room, more)
short_more r b false e = omega arith

short_stop : (k at : ℕ) → Short (stops k at)
short_stop k at = omega arith

short_byte : (j : Tests) (r : Reading) (b : ℕ) → Short (byte_on j r b)
short_byte j r b =
    short_if (nat_le most_bytes r.read) _ _ (short_stop 10 r.at)
    (short_if (is_end r.stage) _ _ (short_stop 9 r.at)
    (short_if (b == 10) _ _ (short_line r.at r.read (line_step j r.at r.stage (item_of j.n r.begun)))
    (short_more r b (nat_lt (length r.begun) longest) refl)))

short_from : (j : Tests) (x : Read) (bs : List ℕ) → Short x → Short (bytes_on j x bs)
short_from j (stops k at) bs h = h
short_from j (reads r) [] h = h
short_from j (reads r) (b ∷ bs) h = short_from j (byte_on j r b) bs (short_byte j r b)

pub stays_short : (j : Tests) (r q : Reading) (bs : List ℕ) → length r.begun ≤ longest → bytes_on j (reads r) bs ≡ reads q → length q.begun ≤ longest
stays_short j r q bs h e = subst Short e (short_from j (reads r) bs h)

-- ---- the answers

-- a piece more was read
pub read_on : (i : Instance) (r : Reading) (fed piece : List ℕ) (x : Read) → bytes_on (verifier i) (reads start) fed ≡ reads r → x ≡ bytes_on (verifier i) (reads r) piece
    → bytes_on (verifier i) (reads start) (fed ++ piece) ≡ x
read_on i r fed piece x h e = in_turn (verifier i) (reads start) fed piece (fed ++ piece) (reads r) refl h ∙ sym e

refused_always : (i : Instance) (n : ℕ) (t : Trouble) (d : readings.Reading) (r : Reading) (piece : List ℕ) → Reads n (Err t) d (bytes_on (verifier i) (reads r) piece)
    → (fed more : List ℕ) → bytes_on (verifier i) (reads start) fed ≡ reads r → IsRefusalOf i t ((fed ++ piece) ++ more)
refused_always i n troubles.NoMemory d r piece f fed more h = tt
refused_always i n (troubles.Refused k at) d r piece f fed more h =
    ap verdict_at_end (in_turn (verifier i) (reads start) (fed ++ piece) more ((fed ++ piece) ++ more) (stops k at) refl (read_on i r fed piece (stops k at) h (sym f)))

-- a refusal is that of each text that begins so
pub refused_for_good : {X : Type 0} (n : ℕ) (c : Checking) (t : Trouble) (result : Result X Trouble) (d : readings.Reading) (piece : List ℕ)
    → IsErrAnd result (λ e. e ≡ t) → Reads n (Err t) d (bytes_on (verifier c.instance) (reads c.reading) piece)
    → IfErr result (λ e. (fed more : List ℕ) → HasRead c fed → IsRefusalOf c.instance e ((fed ++ piece) ++ more))
refused_for_good n c t (Ok x) d piece is f = absurd is
refused_for_good n c t (Err e) d piece is f = λ fed more h. subst (λ y. IsRefusalOf c.instance y ((fed ++ piece) ++ more)) (sym is) (refused_always c.instance n t d c.reading piece f fed more h)

-- the verdict where the bytes end
pub judged_at_end : (c : Checking) (v : Verdict) (fed : List ℕ) → v ≡ end_of c.reading → HasRead c fed → v ≡ verdict c.instance fed
judged_at_end c v fed e h = e ∙ sym (ap verdict_at_end h)

-- ---- the same for a checker of this instance

pub fed_on : (i : Instance) (c d : Checking) (fed piece : List ℕ) → c.instance ≡ i → d.instance ≡ c.instance → ((fed : List ℕ) → HasRead c fed → HasRead d (fed ++ piece))
    → bytes_on (verifier i) (reads start) fed ≡ reads c.reading → bytes_on (verifier i) (reads start) (fed ++ piece) ≡ reads d.reading
fed_on i c d fed piece e f h l =
    subst (λ k. bytes_on (verifier k) (reads start) (fed ++ piece) ≡ reads d.reading) (f ∙ e) (h fed (subst (λ k. bytes_on (verifier k) (reads start) fed ≡ reads c.reading) (sym e) l))

pub refused_of : (i : Instance) (c : Checking) (t : Trouble) (fed piece : List ℕ) → c.instance ≡ i → ((fed more : List ℕ) → HasRead c fed → IsRefusalOf c.instance t ((fed ++ piece) ++ more))
    → bytes_on (verifier i) (reads start) fed ≡ reads c.reading → (more : List ℕ) → IsRefusalOf i t ((fed ++ piece) ++ more)
refused_of i c t fed piece e h l more =
    subst (λ k. IsRefusalOf k t ((fed ++ piece) ++ more)) e (h fed more (subst (λ k. bytes_on (verifier k) (reads start) fed ≡ reads c.reading) (sym e) l))

pub ended_of : (i : Instance) (c : Checking) (v : Verdict) (fed : List ℕ) → c.instance ≡ i → ((fed : List ℕ) → HasRead c fed → v ≡ verdict c.instance fed)
    → bytes_on (verifier i) (reads start) fed ≡ reads c.reading → v ≡ verdict i fed
ended_of i c v fed e h l = subst (λ k. v ≡ verdict k fed) e (h fed (subst (λ k. bytes_on (verifier k) (reads start) fed ≡ reads c.reading) (sym e) l))
