use Rattle.std.proofs.Common.{◌≡◌, ℕ, suc, ◌+◌, ◌<◌, ◌≤◌, ◌^◌, Bool, true, false, cond, List, [], ◌∷◌, ◌++◌, length, length-append, map, Option, Some, None, refl, sym, ap, ◌∙◌, subst, arith, append_assoc, ◌⊎◌, inl, inr, ⊎_elim}
use Rattle.std.specs.Prelude.{nat_le, nat_lt, ◌==◌}
use Rattle.std.specs.List.{AllByRecursion}
use Rattle.std.proofs.lemmas.Bool.{and_parts, eqb-true, ne_eqb, leb-true, leb-false, lt-leb, lt-ltb}
use Rattle.certdef.specs.Items.{Item, line, longest, in_bounds, item_of}
use Rattle.certdef.specs.Proofs.{ended, text_of, lines}
use Rattle.certdef.specs.Tests.{Tests, verifier}
use Rattle.certdef.specs.Verdicts.{Stage, wants_title, wants_size, wants_length, wants_bound, wants_tour, wants_count, wants_cut, wants_handle, wants_tooth, wants_odd_handle, wants_pair, wants_trees, wants_duals, yes, no, Outcome, go, refused, line_step, is_end, at_end, run}
use Rattle.certdef.specs.Bytes.{Reading, Read, reads, stops, start, line_on, byte_on, bytes_on, verdict_at_end}
use Rattle.certdef.specs.Accepted.{most_bytes}
use Rattle.verdict.proofs.Lines.{InLine, item_said, line_plain, small_if}
use Rattle.verdict.specs.Laws.{YesIsAcceptedText, ReadsInPieces}
use Rattle.verdict.proofs.Values.{yes_is_accepted}

pub reads_in_pieces : ReadsInPieces
reads_in_pieces j (stops k at) xs ys = refl
reads_in_pieces j (reads r) [] ys = refl
reads_in_pieces j (reads r) (x ∷ xs) ys = reads_in_pieces j (byte_on j r x) xs ys

-- ---- from bytes to lines

-- the bytes from here on complete the line that is begun, and are lines on which the machine says yes, and not too many
pub record Lines (j : Tests) (l : ℕ × ℕ) (r : Reading) (bs : List ℕ) : Type 0 where
  pub lines : List (List ℕ)
  pub said : r.begun ++ bs ≡ text_of lines
  pub verdict : run j r.at (go r.stage) (map (item_of j.n) lines) ≡ yes l.0 l.1
  pub few : 0 < length bs → r.read + length bs ≤ most_bytes

few_more : (n : ℕ) (bs : List ℕ) → n < most_bytes → (0 < length bs → (n + 1) + length bs ≤ most_bytes) → n + suc (length bs) ≤ most_bytes
few_more n [] l f = omega arith
few_more n (b ∷ bs) l f = let g = f (omega arith) in omega arith

end_line : (j : Tests) (l : ℕ × ℕ) (r : Reading) (e : Bool) → nat_lt 0 (length r.begun) ≡ e → cond e (no 1 r.at) (at_end r.at r.stage) ≡ yes l.0 l.1 → (b : List ℕ) → r.begun ≡ b → Lines j l r []
end_line j l r true t h b e = cc
end_line j l r false t h [] e = record { lines = []; said = ap (λ x. x ++ []) e; verdict = h; few = λ p. absurd (omega arith) }
end_line j l r false t h (x ∷ xs) e = let n = ap length e in let f = lt-ltb 0 (length r.begun) (omega arith) in cc

lf_line : (j : Tests) (l : ℕ × ℕ) (r : Reading) (bs : List ℕ) (o : Outcome) → r.read < most_bytes → line_step j r.at r.stage (item_of j.n r.begun) ≡ o
    → ((q : Reading) → verdict_at_end (bytes_on j (reads q) bs) ≡ yes l.0 l.1 → Lines j l q bs) → verdict_at_end (bytes_on j (line_on r.at r.read o) bs) ≡ yes l.0 l.1 → Lines j l r (10 ∷ bs)
lf_line j l r bs (refused k from) few e more h = cc
lf_line j l r bs (go s) few e more h =
    let k = more (record { at = r.at + 1; read = r.read + 1; stage = s; begun = [] }) h in
    record {
      lines = r.begun ∷ k.lines;
      said = sym (append_assoc r.begun (10 ∷ []) bs) ∙ ap (λ x. ended r.begun ++ x) k.said;
      verdict = ap (λ o. run j (r.at + 1) o (map (item_of j.n) k.lines)) e ∙ k.verdict;
      few = λ p. few_more r.read bs few k.few;
    }

byte_lines : (j : Tests) (l : ℕ × ℕ) (r : Reading) (b : ℕ) (bs : List ℕ) (d e f g : Bool) → nat_le most_bytes r.read ≡ d → (b == 10) ≡ f → ((q : Reading) → verdict_at_end (bytes_on j (reads q) bs) ≡ yes l.0 l.1 → Lines j l q bs)
    → verdict_at_end (bytes_on j (cond d (stops 10 r.at) (cond e (stops 9 r.at) (cond f (line_on r.at r.read (line_step j r.at r.stage (item_of j.n r.begun)))
    (cond g (reads (record { at = r.at; read = r.read + 1; stage = r.stage; begun = r.begun ++ b ∷ [] })) (stops 1 r.at))))) bs) ≡ yes l.0 l.1 → Lines j l r (b ∷ bs)
byte_lines j l r b bs true e f g u t more h = cc
byte_lines j l r b bs false true f g u t more h = cc
byte_lines j l r b bs false false true g u t more h =
    subst (λ x. Lines j l r (x ∷ bs)) (sym (eqb-true b 10 t)) (lf_line j l r bs (line_step j r.at r.stage (item_of j.n r.begun)) (leb-false most_bytes r.read u) refl more h)
byte_lines j l r b bs false false false true u t more h =
    let few = leb-false most_bytes r.read u in
    let k = more (record { at = r.at; read = r.read + 1; stage = r.stage; begun = r.begun ++ b ∷ [] }) h in
    record { lines = k.lines; said = sym (append_assoc r.begun (b ∷ []) bs) ∙ k.said; verdict = k.verdict; few = λ p. few_more r.read bs few k.few }
byte_lines j l r b bs false false false false u t more h = cc

pub bytes_lines : (j : Tests) (l : ℕ × ℕ) (r : Reading) (bs : List ℕ) → verdict_at_end (bytes_on j (reads r) bs) ≡ yes l.0 l.1 → Lines j l r bs
bytes_lines j l r [] h = end_line j l r (nat_lt 0 (length r.begun)) refl h r.begun refl
bytes_lines j l r (b ∷ bs) h = byte_lines j l r b bs (nat_le most_bytes r.read) (is_end r.stage) (b == 10) (nat_lt (length r.begun) longest) refl refl (λ q k. bytes_lines j l q bs k) h

-- ---- from lines to bytes

pub goes_on : (j : Tests) (l : ℕ × ℕ) (at : ℕ) (s : Stage) (r : Option Item) (xs : List (Option Item)) → run j (at + 1) (line_step j at s r) xs ≡ yes l.0 l.1 → is_end s ≡ false
goes_on j l at (wants_trees h []) None xs e = cc
goes_on j l at (wants_trees h []) (Some x) xs e = cc
goes_on j l at (wants_trees h (p ∷ ps)) r xs e = refl
goes_on j l at wants_title r xs e = refl
goes_on j l at (wants_size v) r xs e = refl
goes_on j l at (wants_length v) r xs e = refl
goes_on j l at (wants_bound k) r xs e = refl
goes_on j l at (wants_tour k b) r xs e = refl
goes_on j l at (wants_count k b) r xs e = refl
goes_on j l at (wants_cut h m) r xs e = refl
goes_on j l at (wants_handle h m from t) r xs e = refl
goes_on j l at (wants_tooth h m from t q qs) r xs e = refl
goes_on j l at (wants_odd_handle h m from t) r xs e = refl
goes_on j l at (wants_pair h m from t q qs) r xs e = refl
goes_on j l at (wants_duals h ps o a b c) r xs e = refl

append_nil : {X : Type 0} (xs : List X) → xs ++ [] ≡ xs
append_nil [] = refl
append_nil (x ∷ xs) = ap (λ r. x ∷ r) (append_nil xs)

pub length_more : (xs : List ℕ) (x : ℕ) → length (xs ++ x ∷ []) ≡ length xs + 1
length_more [] x = refl
length_more (y ∷ ys) x = let r = length_more ys x in omega arith

pub whole_line : (j : Tests) (at read : ℕ) (s : Stage) (begun w rest : List ℕ) → is_end s ≡ false → AllByRecursion InLine w → length begun + length w ≤ longest → read + length w < most_bytes
    → bytes_on j (reads (record { at = at; read = read; stage = s; begun = begun })) (ended w ++ rest) ≡ bytes_on j (line_on at (read + length w) (line_step j at s (item_of j.n (begun ++ w)))) rest
whole_line j at read s begun [] rest e p l f =
    let few : nat_le most_bytes read ≡ false = lt-leb most_bytes read (omega arith) in
    let same : read ≡ read + 0 = omega arith in
    ap (λ x. bytes_on j (cond x (stops 10 at) (cond (is_end s) (stops 9 at) (line_on at read (line_step j at s (item_of j.n begun))))) rest) few
    ∙ ap (λ x. bytes_on j (cond x (stops 9 at) (line_on at read (line_step j at s (item_of j.n begun)))) rest) e
    ∙ ap (λ x. bytes_on j (line_on at read (line_step j at s (item_of j.n x))) rest) (sym (append_nil begun))
    ∙ ap (λ x. bytes_on j (line_on at x (line_step j at s (item_of j.n (begun ++ [])))) rest) same
whole_line j at read s begun (b ∷ w) rest e p l f =
    let few : nat_le most_bytes read ≡ false = lt-leb most_bytes read (omega arith) in
    let lf : (b == 10) ≡ false = ne_eqb b 10 (λ g. let low = p.0.0 in omega arith) in
    let room : nat_lt (length begun) longest ≡ true = lt-ltb (length begun) longest (omega arith) in
    let long = length_more begun b in
    let next : Read = reads (record { at = at; read = read + 1; stage = s; begun = begun ++ b ∷ [] }) in
    let line : Read = line_on at read (line_step j at s (item_of j.n begun)) in
    let same : (read + 1) + length w ≡ read + length (b ∷ w) = omega arith in
    ap (λ x. bytes_on j (cond x (stops 10 at) (cond (is_end s) (stops 9 at) (cond (b == 10) line (cond (nat_lt (length begun) longest) next (stops 1 at))))) (ended w ++ rest)) few
    ∙ ap (λ x. bytes_on j (cond x (stops 9 at) (cond (b == 10) line (cond (nat_lt (length begun) longest) next (stops 1 at)))) (ended w ++ rest)) e
    ∙ ap (λ x. bytes_on j (cond x line (cond (nat_lt (length begun) longest) next (stops 1 at))) (ended w ++ rest)) lf
    ∙ ap (λ x. bytes_on j (cond x next (stops 1 at)) (ended w ++ rest)) room
    ∙ whole_line j at (read + 1) s (begun ++ b ∷ []) w rest e p.1 (omega arith) (omega arith)
    ∙ ap (λ x. bytes_on j (line_on at x (line_step j at s (item_of j.n ((begun ++ b ∷ []) ++ w)))) rest) same
    ∙ ap (λ x. bytes_on j (line_on at (read + length (b ∷ w)) (line_step j at s (item_of j.n x))) rest) (append_assoc begun (b ∷ []) w)

-- a line that is an item's has only bytes of lines, and not too many
plain_line : (n : ℕ) (w : List ℕ) (r : Option Item) → n < 2 ^ 32 → item_of n w ≡ r → (r ≡ None) ⊎ (AllByRecursion InLine w × (length w ≤ longest))
plain_line n w None h e = inl refl
plain_line n w (Some x) h e =
    let s = item_said n w x e in
    let p = and_parts (in_bounds n x) (nat_le (length (line x)) longest) s.1 in
    let l = leb-true (length (line x)) longest p.1 in
    let same = ap length s.0 in
    inr (subst (λ v. AllByRecursion InLine v) (sym s.0) (line_plain x (small_if n x h s.1)), omega arith)

none_stops : (j : Tests) (l : ℕ × ℕ) (at : ℕ) (s : Stage) (r : Option Item) (xs : List (Option Item)) → r ≡ None → run j (at + 1) (line_step j at s r) xs ≡ yes l.0 l.1 → ⊥
none_stops j l at s None xs e h = cc
none_stops j l at s (Some x) xs e h = cc

pub text_length : (w : List ℕ) (ws : List (List ℕ)) → length (text_of (w ∷ ws)) ≡ length w + 1 + length (text_of ws)
text_length w ws = length-append (ended w) (text_of ws) ∙ ap (λ k. k + length (text_of ws)) (length_more w 10)

-- a reading at the start of a line, unless the text was refused
abbrev pub begins : ℕ → ℕ → Outcome → Read
begins at read (go s) = reads (record { at = at; read = read; stage = s; begun = [] })
begins at read (refused k from) = stops k from

pub line_begins : (at read : ℕ) (o : Outcome) → line_on at read o ≡ begins (at + 1) (read + 1) o
line_begins at read (go s) = refl
line_begins at read (refused k from) = refl

pub lines_bytes : (j : Tests) (l : ℕ × ℕ) (at read : ℕ) (o : Outcome) (ls : List (List ℕ)) → j.n < 2 ^ 32 → read + length (text_of ls) ≤ most_bytes → run j at o (map (item_of j.n) ls) ≡ yes l.0 l.1 → verdict_at_end (bytes_on j (begins at read o) (text_of ls)) ≡ yes l.0 l.1
lines_bytes j l at read (refused k from) ls h f e = cc
lines_bytes j l at read (go s) [] h f e = e
lines_bytes j l at read (go s) (w ∷ ws) h f e = ⊎_elim
    (λ none. absurd (none_stops j l at s (item_of j.n w) (map (item_of j.n) ws) none e))
    (λ p. let long = text_length w ws in
    let short = p.1 in
    ap verdict_at_end (whole_line j at read s [] w (text_of ws) (goes_on j l at s (item_of j.n w) (map (item_of j.n) ws) e) p.0 (omega arith) (omega arith)
    ∙ ap (λ r. bytes_on j r (text_of ws)) (line_begins at (read + length w) (line_step j at s (item_of j.n w))))
    ∙ lines_bytes j l (at + 1) (read + length w + 1) (line_step j at s (item_of j.n w)) ws h (omega arith) e)
    (plain_line j.n w (item_of j.n w) h refl)

-- ---- whole texts

pub none_or_some : (bs : List ℕ) → (0 < length bs → 0 + length bs ≤ most_bytes) → length bs ≤ most_bytes
none_or_some [] f = omega arith
none_or_some (b ∷ bs) f = let g = f (omega arith) in omega arith

pub yes_is_accepted_text : YesIsAcceptedText
yes_is_accepted_text i bytes l b h = (
  λ e. let k = bytes_lines (verifier i) (l, b) start bytes e in
      let a = (yes_is_accepted i k.lines l b h).0 k.verdict in
      (none_or_some bytes k.few, a.0, record { text = k.said ∙ ap text_of a.1.lines; form = a.1.form; accepted = a.1.accepted }),
  λ a. let p = a.1 in
      let e = (yes_is_accepted i (lines p) l b h).1 (p, record { lines = refl; form = a.2.form; accepted = a.2.accepted }) in
      let few = a.0 in
      let same = ap length a.2.text in
      ap (λ x. verdict_at_end (bytes_on (verifier i) (reads start) x)) a.2.text ∙ lines_bytes (verifier i) (l, b) 1 0 (go wants_title) (lines p) h (omega arith) e,
)
