-- what the bytes of a restart body say
use Rattle.std.proofs.Common.{◌≡◌, ℕ, suc, ◌+◌, ◌<◌, ◌≤◌, ◌^◌, Bool, true, false, cond, List, [], ◌∷◌, ◌++◌, length, map, Option, Some, None, refl, sym, ap, ◌∙◌, subst, arith, append_assoc}
use Rattle.std.specs.Prelude.{nat_le, nat_lt, ◌==◌}
use Rattle.std.specs.List.{AllByRecursion}
use Rattle.std.proofs.lemmas.Bool.{and_parts, ne_eqb, leb-true, lt-leb, lt-ltb}
use Rattle.certdef.specs.Items.{Item, line, longest, in_bounds, item_of}
use Rattle.certdef.specs.Proofs.{ended, text_of, items, lines}
use Rattle.certdef.specs.Accepted.{most_bytes}
use Rattle.certdef.specs.Tests.{Tests}
use Rattle.certdef.specs.Verdicts.{Stage, wants_title, yes, Outcome, go, refused, line_step, step, is_end, run}
use Rattle.certdef.specs.Bytes.{Read, reads, stops, start, line_on, byte_on}
use Rattle.verdict.specs.Bodies.{resumer}
use Rattle.verdict.specs.Parts.{Part, parts_of, line_says, byte_says, bytes_say, body_says, BodiesSayTheirParts}
use Rattle.verdict.proofs.CutSteps.{append_nil}
use Rattle.verdict.proofs.Lines.{InLine, item_again, line_plain, small_if}
use Rattle.verdict.proofs.Runs.{AreOfForm}
use Rattle.verdict.proofs.Bytes.{begins, line_begins, goes_on, length_more, text_length}
use Rattle.verdict.proofs.Bodies.{body_is_good, yes_is_body}
use Rattle.verdict.proofs.Saying.{lines_say, good_said}

-- the bytes of a line, from some byte of it on, say what the line says
whole_line : (j : Tests) (at read : ℕ) (s : Stage) (begun w rest : List ℕ) → is_end s ≡ false → AllByRecursion InLine w → length begun + length w ≤ longest → read + length w < most_bytes
    → bytes_say j (reads (record { at = at; read = read; stage = s; begun = begun })) (ended w ++ rest)
    ≡ line_says j.n s (item_of j.n (begun ++ w)) ++ bytes_say j (line_on at (read + length w) (line_step j at s (item_of j.n (begun ++ w)))) rest
whole_line j at read s begun [] rest e p l f =
    let few : nat_le most_bytes read ≡ false = lt-leb most_bytes read (omega arith) in
    let same : read ≡ read + 0 = omega arith in
    let said = line_says j.n s (item_of j.n begun) in
    ap (λ x. said ++ bytes_say j (cond x (stops 10 at) (cond (is_end s) (stops 9 at) (line_on at read (line_step j at s (item_of j.n begun))))) rest) few
    ∙ ap (λ x. said ++ bytes_say j (cond x (stops 9 at) (line_on at read (line_step j at s (item_of j.n begun)))) rest) e
    ∙ ap (λ x. line_says j.n s (item_of j.n x) ++ bytes_say j (line_on at read (line_step j at s (item_of j.n x))) rest) (sym (append_nil begun))
    ∙ ap (λ x. line_says j.n s (item_of j.n (begun ++ [])) ++ bytes_say j (line_on at x (line_step j at s (item_of j.n (begun ++ [])))) rest) same
whole_line j at read s begun (b ∷ w) rest e p l f =
    let few : nat_le most_bytes read ≡ false = lt-leb most_bytes read (omega arith) in
    let lf : (b == 10) ≡ false = ne_eqb b 10 (λ g. let low = p.0.0 in omega arith) in
    let room : nat_lt (length begun) longest ≡ true = lt-ltb (length begun) longest (omega arith) in
    let long = length_more begun b in
    let next : Read = reads (record { at = at; read = read + 1; stage = s; begun = begun ++ b ∷ [] }) in
    let line : Read = line_on at read (line_step j at s (item_of j.n begun)) in
    let said = line_says j.n s (item_of j.n begun) in
    let same : (read + 1) + length w ≡ read + length (b ∷ w) = omega arith in
    ap (λ x. cond x said [] ++ bytes_say j (byte_on j (record { at = at; read = read; stage = s; begun = begun }) b) (ended w ++ rest)) lf
    ∙ ap (λ x. bytes_say j (cond x (stops 10 at) (cond (is_end s) (stops 9 at) (cond (b == 10) line (cond (nat_lt (length begun) longest) next (stops 1 at))))) (ended w ++ rest)) few
    ∙ ap (λ x. bytes_say j (cond x (stops 9 at) (cond (b == 10) line (cond (nat_lt (length begun) longest) next (stops 1 at)))) (ended w ++ rest)) e
    ∙ ap (λ x. bytes_say j (cond x line (cond (nat_lt (length begun) longest) next (stops 1 at))) (ended w ++ rest)) lf
    ∙ ap (λ x. bytes_say j (cond x next (stops 1 at)) (ended w ++ rest)) room
    ∙ whole_line j at (read + 1) s (begun ++ b ∷ []) w rest e p.1 (omega arith) (omega arith)
    ∙ ap (λ x. line_says j.n s (item_of j.n ((begun ++ b ∷ []) ++ w)) ++ bytes_say j (line_on at x (line_step j at s (item_of j.n ((begun ++ b ∷ []) ++ w)))) rest) same
    ∙ ap (λ x. line_says j.n s (item_of j.n x) ++ bytes_say j (line_on at (read + length (b ∷ w)) (line_step j at s (item_of j.n x))) rest) (append_assoc begun (b ∷ []) w)

-- the bytes of lines that lead to a yes say what the lines say
lines_said : (j : Tests) (l : ℕ × ℕ) (at read : ℕ) (o : Outcome) (xs : List Item) → j.n < 2 ^ 32 → AreOfForm j.n xs → read + length (text_of (map line xs)) ≤ most_bytes → run j at o (map (item_of j.n) (map line xs)) ≡ yes l.0 l.1
    → bytes_say j (begins at read o) (text_of (map line xs)) ≡ lines_say j at o xs
lines_said j l at read (refused k from) xs h f few e = cc
lines_said j l at read (go s) [] h f few e = refl
lines_said j l at read (go s) (x ∷ xs) h f few e =
    let w = line x in
    let ws = map line xs in
    let again : item_of j.n w ≡ Some x = item_again j.n x h f.0 in
    let p = and_parts (in_bounds j.n x) (nat_le (length w) longest) f.0 in
    let short = leb-true (length w) longest p.1 in
    let long = text_length w ws in
    let e' : run j (at + 1) (step j at s x) (map (item_of j.n) ws) ≡ yes l.0 l.1 = ap (λ r. run j (at + 1) (line_step j at s r) (map (item_of j.n) ws)) (sym again) ∙ e in
    whole_line j at read s [] w (text_of ws) (goes_on j l at s (item_of j.n w) (map (item_of j.n) ws) e) (line_plain x (small_if j.n x h f.0)) (omega arith) (omega arith)
    ∙ ap (λ r. line_says j.n s r ++ bytes_say j (line_on at (read + length w) (line_step j at s r)) (text_of ws)) again
    ∙ ap (λ r. line_says j.n s (Some x) ++ bytes_say j r (text_of ws)) (line_begins at (read + length w) (step j at s x))
    ∙ ap (λ r. line_says j.n s (Some x) ++ r) (lines_said j l (at + 1) (read + length w + 1) (step j at s x) xs h f.1 (omega arith) e')

pub bodies_say_their_parts : BodiesSayTheirParts
bodies_say_their_parts i bytes l b p h few k =
    let same = ap length k.text in
    let e = (yes_is_body i (lines p) l b h).1 (p, record { lines = refl; form = k.form; body = k.body }) in
    ap (λ x. bytes_say (resumer i) (reads start) x) k.text
    ∙ (lines_said (resumer i) (l, b) 1 0 (go wants_title) (items p) h k.form.readable.lines (omega arith) e
    ∙ good_said (resumer i) (l, b) p (body_is_good i l b p k.form k.body))
