-- a refusal is told once a line is read
use Rattle.std.proofs.Common.{◌≡◌, ℕ, zero, suc, ◌+◌, ◌-◌, ◌^◌, ◌<◌, ◌≤◌, Bool, true, false, cond, List, [], ◌∷◌, ◌++◌, length, length-append, Option, Some, None, refl, sym, ap, ◌∙◌, subst, arith, append_assoc, ◌⊎◌, inl, inr, ⊎_elim}
use Rattle.std.specs.Prelude.{nat_le, nat_lt, ◌==◌}
use Rattle.std.proofs.lemmas.Bool.{and_parts, leb-true, leb-false, eqb-true}
use Rattle.tspdef.specs.Instances.{Instance}
use Rattle.certdef.specs.Items.{Item, line, longest, in_bounds, fits, item_of}
use Rattle.certdef.specs.Tests.{Tests, verifier}
use Rattle.certdef.specs.Verdicts.{Stage, wants_title, wants_size, wants_length, wants_bound, wants_tour, wants_count, wants_cut, wants_handle, wants_tooth, wants_odd_handle, wants_pair, wants_trees, wants_duals, yes, no, Outcome, go, refused, line_step, is_end, at_end}
use Rattle.certdef.specs.Bytes.{Reading, Read, reads, stops, start, line_on, byte_on, bytes_on, end_of, verdict_at_end, verdict}
use Rattle.certdef.specs.Accepted.{IsAcceptedText, most_bytes}
use Rattle.verdict.specs.Faults.{Fault, not_a_proof, other_size, not_a_tour, wrong_length, set_of_all, not_a_comb, not_an_odd_cut, decided_edge, weak_leaf, open_leaf, trailing, wrong_bound}
use Rattle.verdict.specs.Refusals.{first_lines, line_behind, ended_lines, NothingIsRefused, IsRefusedFrom, IsTold, EndsEarly, IsTooLong, RefusalsAreOfTheFront, TrailingIsBehindAccepted}
use Rattle.verdict.proofs.Lines.{item_said, no_item}
use Rattle.verdict.proofs.CutSteps.{append_nil}
use Rattle.verdict.proofs.Bytes.{reads_in_pieces, yes_is_accepted_text}
use Rattle.verdict.proofs.Stands.{StandsAt, StandsAfter, step_stands}
use Rattle.verdict.proofs.Faults.{fault, IsPlaced, placed}

-- ---- one byte

-- a byte past the most
byte_past : (j : Tests) (r : Reading) (b : ℕ) → nat_le most_bytes r.read ≡ true → byte_on j r b ≡ stops 10 r.at
byte_past j r b d = ap (λ x. cond x (stops 10 r.at) (cond (is_end r.stage) (stops 9 r.at) (cond (b == 10) (line_on r.at r.read (line_step j r.at r.stage (item_of j.n r.begun)))
    (cond (nat_lt (length r.begun) longest) (reads (record { at = r.at; read = r.read + 1; stage = r.stage; begun = r.begun ++ b ∷ [] })) (stops 1 r.at))))) d

-- a byte behind the tree
byte_behind : (j : Tests) (r : Reading) (b : ℕ) → nat_le most_bytes r.read ≡ false → is_end r.stage ≡ true → byte_on j r b ≡ stops 9 r.at
byte_behind j r b d e =
    ap (λ x. cond x (stops 10 r.at) (cond (is_end r.stage) (stops 9 r.at) (cond (b == 10) (line_on r.at r.read (line_step j r.at r.stage (item_of j.n r.begun)))
    (cond (nat_lt (length r.begun) longest) (reads (record { at = r.at; read = r.read + 1; stage = r.stage; begun = r.begun ++ b ∷ [] })) (stops 1 r.at))))) d
    ∙ ap (λ x. cond x (stops 9 r.at) (cond (b == 10) (line_on r.at r.read (line_step j r.at r.stage (item_of j.n r.begun)))
    (cond (nat_lt (length r.begun) longest) (reads (record { at = r.at; read = r.read + 1; stage = r.stage; begun = r.begun ++ b ∷ [] })) (stops 1 r.at)))) e

-- any other byte
byte_plain : (j : Tests) (r : Reading) (b : ℕ) → nat_le most_bytes r.read ≡ false → is_end r.stage ≡ false → byte_on j r b ≡ cond (b == 10) (line_on r.at r.read (line_step j r.at r.stage (item_of j.n r.begun)))
    (cond (nat_lt (length r.begun) longest) (reads (record { at = r.at; read = r.read + 1; stage = r.stage; begun = r.begun ++ b ∷ [] })) (stops 1 r.at))
byte_plain j r b d e =
    ap (λ x. cond x (stops 10 r.at) (cond (is_end r.stage) (stops 9 r.at) (cond (b == 10) (line_on r.at r.read (line_step j r.at r.stage (item_of j.n r.begun)))
    (cond (nat_lt (length r.begun) longest) (reads (record { at = r.at; read = r.read + 1; stage = r.stage; begun = r.begun ++ b ∷ [] })) (stops 1 r.at))))) d
    ∙ ap (λ x. cond x (stops 9 r.at) (cond (b == 10) (line_on r.at r.read (line_step j r.at r.stage (item_of j.n r.begun)))
    (cond (nat_lt (length r.begun) longest) (reads (record { at = r.at; read = r.read + 1; stage = r.stage; begun = r.begun ++ b ∷ [] })) (stops 1 r.at)))) e

-- a LF
byte_lf : (j : Tests) (r : Reading) → nat_le most_bytes r.read ≡ false → is_end r.stage ≡ false → byte_on j r 10 ≡ line_on r.at r.read (line_step j r.at r.stage (item_of j.n r.begun))
byte_lf j r d e = byte_plain j r 10 d e

-- a byte of a line
byte_of_line : (j : Tests) (r : Reading) (b : ℕ) (g : Bool) → nat_le most_bytes r.read ≡ false → is_end r.stage ≡ false → (b == 10) ≡ false → nat_lt (length r.begun) longest ≡ g
    → byte_on j r b ≡ cond g (reads (record { at = r.at; read = r.read + 1; stage = r.stage; begun = r.begun ++ b ∷ [] })) (stops 1 r.at)
byte_of_line j r b g d e f room =
    byte_plain j r b d e
    ∙ ap (λ x. cond x (line_on r.at r.read (line_step j r.at r.stage (item_of j.n r.begun))) (cond (nat_lt (length r.begun) longest) (reads (record { at = r.at; read = r.read + 1; stage = r.stage; begun = r.begun ++ b ∷ [] })) (stops 1 r.at))) f
    ∙ ap (λ x. cond x (reads (record { at = r.at; read = r.read + 1; stage = r.stage; begun = r.begun ++ b ∷ [] })) (stops 1 r.at)) room

-- ---- lines of bytes

more_of_line : (m b : ℕ) (bs : List ℕ) → (b == 10) ≡ false → first_lines (suc m) (b ∷ bs) ≡ b ∷ first_lines (suc m) bs
more_of_line m b bs f = ap (λ x. b ∷ first_lines (cond x m (suc m)) bs) f

behind_of_line : (m b : ℕ) (bs : List ℕ) → (b == 10) ≡ false → line_behind (suc m) (b ∷ bs) ≡ line_behind (suc m) bs
behind_of_line m b bs f = ap (λ x. line_behind (cond x m (suc m)) bs) f

lines_then : (m : ℕ) (bs : List ℕ) → (rest : List ℕ) × (bs ≡ first_lines m bs ++ rest)
lines_then zero bs = (bs, refl)
lines_then (suc m) [] = ([], refl)
lines_then (suc m) (b ∷ bs) = let w = lines_then (cond (b == 10) m (suc m)) bs in (w.0, ap (λ x. b ∷ x) w.1)

this_line : (b : ℕ) (bs : List ℕ) → (b == 10) ≡ false → line_behind zero (b ∷ bs) ≡ b ∷ line_behind zero bs
this_line b bs f = ap (λ x. cond x [] (b ∷ line_behind zero bs)) f

-- a line that is too long is not of the form
too_long : (n : ℕ) (w : List ℕ) → longest < length w → item_of n w ≡ None
too_long n w l = no_item n w (λ i f e.
    let p = and_parts (in_bounds n i) (nat_le (length (line i)) longest) f in
    let few = leb-true (length (line i)) longest p.1 in
    let same = ap length e in
    omega arith)

-- ---- where a reading stops

-- the reading goes through p lines
pub record IsFront (j : Tests) (r : Reading) (bs : List ℕ) (p : ℕ) (t : Reading) : Type 0 where
  pub comes : bytes_on j (reads r) (first_lines p bs) ≡ reads t
  pub number : t.at ≡ r.at + p
  pub here : p ≡ 0 → t ≡ r
  pub begins : 0 < p → t.begun ≡ []

pub record Told (j : Tests) (k at : ℕ) (r : Reading) (bs : List ℕ) : Type 0 where
  pub lines : ℕ
  pub to : Reading
  pub front : IsFront j r bs lines to
  pub fronts : (p : ℕ) → p ≤ lines → (t : Reading) × IsFront j r bs p t
  pub stop : bytes_on j (reads r) (first_lines (suc lines) bs) ≡ stops k at
  pub step : line_step j to.at to.stage (item_of j.n (to.begun ++ line_behind lines bs)) ≡ refused k at

pub record Long (j : Tests) (k at : ℕ) (r : Reading) (bs : List ℕ) : Type 0 where
  pub refusal : k ≡ 10
  pub front : List ℕ
  pub rest : List ℕ
  pub split : bs ≡ front ++ rest
  pub some : 0 < length rest
  pub most : r.read ≤ most_bytes → r.read + length front ≡ most_bytes
  pub to : Reading
  pub comes : bytes_on j (reads r) front ≡ reads to
  pub number : to.at ≡ at

abbrev pub Stopped : Tests → ℕ → ℕ → Reading → List ℕ → Type 0
Stopped j k at r bs = Told j k at r bs ⊎ Long j k at r bs

no_lines : (j : Tests) (r : Reading) (bs : List ℕ) → IsFront j r bs 0 r
no_lines j r bs = record { comes = refl; number = omega arith; here = λ e. refl; begins = λ l. absurd (omega arith) }

at_most_none : (j : Tests) (r : Reading) (bs : List ℕ) (p : ℕ) → p ≤ 0 → (t : Reading) × IsFront j r bs p t
at_most_none j r bs zero l = (r, no_lines j r bs)
at_most_none j r bs (suc p) l = absurd (omega arith)

end_step : (j : Tests) (at : ℕ) (s : Stage) (x : Option Item) → is_end s ≡ true → line_step j at s x ≡ refused 9 at
end_step j at (wants_trees h []) None e = refl
end_step j at (wants_trees h []) (Some x) e = refl
end_step j at wants_title x e = cc
end_step j at (wants_size v) x e = cc
end_step j at (wants_length v) x e = cc
end_step j at (wants_bound l) x e = cc
end_step j at (wants_tour l b) x e = cc
end_step j at (wants_count l b) x e = cc
end_step j at (wants_cut h c) x e = cc
end_step j at (wants_handle h c from t) x e = cc
end_step j at (wants_tooth h c from t s ts) x e = cc
end_step j at (wants_odd_handle h c from t) x e = cc
end_step j at (wants_pair h c from t s ps) x e = cc
end_step j at (wants_trees h (p ∷ ps)) x e = cc
end_step j at (wants_duals h ps o a b c) x e = cc

none_step : (j : Tests) (at : ℕ) (s : Stage) (x : Option Item) → is_end s ≡ false → x ≡ None → line_step j at s x ≡ refused 1 at
none_step j at s None e d = ap (λ b. refused (cond b 9 1) at) e
none_step j at s (Some x) e d = cc

-- the reading stops at the first byte of this list
stops_here : (j : Tests) (k at : ℕ) (r : Reading) (b : ℕ) (bs : List ℕ) → byte_on j r b ≡ stops k at → line_step j r.at r.stage (item_of j.n (r.begun ++ line_behind 0 (b ∷ bs))) ≡ refused k at → Told j k at r (b ∷ bs)
stops_here j k at r b bs e s = record {
  lines = 0;
  to = r;
  front = no_lines j r (b ∷ bs);
  fronts = at_most_none j r (b ∷ bs);
  stop = ap (λ x. bytes_on j x (first_lines (cond (b == 10) 0 1) bs)) e;
  step = s;
}

-- a whole line is read, and the reading goes on behind it
behind_line : (j : Tests) (r q : Reading) (bs : List ℕ) (p : ℕ) (t : Reading) → byte_on j r 10 ≡ reads q → q.at ≡ r.at + 1 → q.begun ≡ [] → IsFront j q bs p t → IsFront j r (10 ∷ bs) (suc p) t
behind_line j r q bs zero t e n g f = record {
  comes = ap (λ x. bytes_on j x (first_lines 0 bs)) e ∙ f.comes;
  number = let m = f.number in omega arith;
  here = λ z. absurd (omega arith);
  begins = λ l. ap (λ (u : Reading). u.begun) (f.here refl) ∙ g;
}
behind_line j r q bs (suc p) t e n g f = record {
  comes = ap (λ x. bytes_on j x (first_lines (suc p) bs)) e ∙ f.comes;
  number = let m = f.number in omega arith;
  here = λ z. absurd (omega arith);
  begins = λ l. f.begins (omega arith);
}

behind_lines : (j : Tests) (r q : Reading) (bs : List ℕ) (m : ℕ) → byte_on j r 10 ≡ reads q → q.at ≡ r.at + 1 → q.begun ≡ [] → ((p : ℕ) → p ≤ m → (t : Reading) × IsFront j q bs p t)
    → (p : ℕ) → p ≤ suc m → (t : Reading) × IsFront j r (10 ∷ bs) p t
behind_lines j r q bs m e n g f zero l = (r, no_lines j r (10 ∷ bs))
behind_lines j r q bs m e n g f (suc p) l = let t = f p (omega arith) in (t.0, behind_line j r q bs p t.0 e n g t.1)

lf_stopped : (j : Tests) (k at : ℕ) (r q : Reading) (bs : List ℕ) → byte_on j r 10 ≡ reads q → q.at ≡ r.at + 1 → q.read ≡ r.read + 1 → r.read < most_bytes → q.begun ≡ [] → Stopped j k at q bs → Stopped j k at r (10 ∷ bs)
lf_stopped j k at r q bs e n m few g s = ⊎_elim
    (λ t. inl (record {
      lines = suc t.lines;
      to = t.to;
      front = behind_line j r q bs t.lines t.to e n g t.front;
      fronts = behind_lines j r q bs t.lines e n g t.fronts;
      stop = ap (λ x. bytes_on j x (first_lines (suc t.lines) bs)) e ∙ t.stop;
      step = t.step;
    }))
    (λ t. inr (record {
      refusal = t.refusal;
      front = 10 ∷ t.front;
      rest = t.rest;
      split = ap (λ x. 10 ∷ x) t.split;
      some = t.some;
      most = λ l. let z = t.most (omega arith) in omega arith;
      to = t.to;
      comes = ap (λ x. bytes_on j x t.front) e ∙ t.comes;
      number = t.number;
    }))
    s

-- one more byte of a line is read
on_line : (j : Tests) (r q : Reading) (b : ℕ) (bs : List ℕ) (p : ℕ) (t : Reading) → byte_on j r b ≡ reads q → (b == 10) ≡ false → q.at ≡ r.at → IsFront j q bs (suc p) t → IsFront j r (b ∷ bs) (suc p) t
on_line j r q b bs p t e f n w = record {
  comes = ap (bytes_on j (reads r)) (more_of_line p b bs f) ∙ ap (λ x. bytes_on j x (first_lines (suc p) bs)) e ∙ w.comes;
  number = let m = w.number in omega arith;
  here = λ z. absurd (omega arith);
  begins = w.begins;
}

on_lines : (j : Tests) (r q : Reading) (b : ℕ) (bs : List ℕ) (m : ℕ) → byte_on j r b ≡ reads q → (b == 10) ≡ false → q.at ≡ r.at → ((p : ℕ) → p ≤ m → (t : Reading) × IsFront j q bs p t)
    → (p : ℕ) → p ≤ m → (t : Reading) × IsFront j r (b ∷ bs) p t
on_lines j r q b bs m e f n w zero l = (r, no_lines j r (b ∷ bs))
on_lines j r q b bs m e f n w (suc p) l = let t = w (suc p) l in (t.0, on_line j r q b bs p t.0 e f n t.1)

next_stop : (j : Tests) (k at : ℕ) (r q : Reading) (b : ℕ) (bs : List ℕ) (m : ℕ) → byte_on j r b ≡ reads q → (b == 10) ≡ false → bytes_on j (reads q) (first_lines (suc m) bs) ≡ stops k at
    → bytes_on j (reads r) (first_lines (suc m) (b ∷ bs)) ≡ stops k at
next_stop j k at r q b bs m e f s = ap (bytes_on j (reads r)) (more_of_line m b bs f) ∙ ap (λ x. bytes_on j x (first_lines (suc m) bs)) e ∙ s

next_told : (j : Tests) (k at : ℕ) (r : Reading) (b : ℕ) (bs : List ℕ) (m : ℕ) (to : Reading) → (let q : Reading = record { at = r.at; read = r.read + 1; stage = r.stage; begun = r.begun ++ b ∷ [] } in
    byte_on j r b ≡ reads q → (b == 10) ≡ false → IsFront j q bs m to → ((p : ℕ) → p ≤ m → (t : Reading) × IsFront j q bs p t) → bytes_on j (reads q) (first_lines (suc m) bs) ≡ stops k at
    → line_step j to.at to.stage (item_of j.n (to.begun ++ line_behind m bs)) ≡ refused k at → Told j k at r (b ∷ bs))
next_told j k at r b bs zero to e f front fronts stop step =
    let q : Reading = record { at = r.at; read = r.read + 1; stage = r.stage; begun = r.begun ++ b ∷ [] } in
    let here : line_step j r.at r.stage (item_of j.n ((r.begun ++ b ∷ []) ++ line_behind 0 bs)) ≡ refused k at = subst (λ (t : Reading). line_step j t.at t.stage (item_of j.n (t.begun ++ line_behind 0 bs)) ≡ refused k at) (front.here refl) step in
    record {
      lines = 0;
      to = r;
      front = no_lines j r (b ∷ bs);
      fronts = at_most_none j r (b ∷ bs);
      stop = next_stop j k at r q b bs 0 e f stop;
      step = ap (λ w. line_step j r.at r.stage (item_of j.n (r.begun ++ w))) (this_line b bs f)
          ∙ ap (λ w. line_step j r.at r.stage (item_of j.n w)) (sym (append_assoc r.begun (b ∷ []) (line_behind 0 bs))) ∙ here;
    }
next_told j k at r b bs (suc m) to e f front fronts stop step =
    let q : Reading = record { at = r.at; read = r.read + 1; stage = r.stage; begun = r.begun ++ b ∷ [] } in
    record {
      lines = suc m;
      to = to;
      front = on_line j r q b bs m to e f refl front;
      fronts = on_lines j r q b bs (suc m) e f refl fronts;
      stop = next_stop j k at r q b bs (suc m) e f stop;
      step = ap (λ w. line_step j to.at to.stage (item_of j.n (to.begun ++ w))) (behind_of_line m b bs f) ∙ step;
    }

next_stopped : (j : Tests) (k at : ℕ) (r : Reading) (b : ℕ) (bs : List ℕ) → (let q : Reading = record { at = r.at; read = r.read + 1; stage = r.stage; begun = r.begun ++ b ∷ [] } in
    byte_on j r b ≡ reads q → (b == 10) ≡ false → r.read < most_bytes → Stopped j k at q bs → Stopped j k at r (b ∷ bs))
next_stopped j k at r b bs e f few s = ⊎_elim
    (λ t. inl (next_told j k at r b bs t.lines t.to e f t.front t.fronts t.stop t.step))
    (λ t. inr (record {
      refusal = t.refusal;
      front = b ∷ t.front;
      rest = t.rest;
      split = ap (λ x. b ∷ x) t.split;
      some = t.some;
      most = λ l. let z = t.most (omega arith) in omega arith;
      to = t.to;
      comes = ap (λ x. bytes_on j x t.front) e ∙ t.comes;
      number = t.number;
    }))
    s

line_stopped : (j : Tests) (k at : ℕ) (r : Reading) (bs : List ℕ) (o : Outcome) → byte_on j r 10 ≡ line_on r.at r.read o → line_step j r.at r.stage (item_of j.n r.begun) ≡ o → r.read < most_bytes
    → ((q : Reading) → bytes_on j (reads q) bs ≡ stops k at → Stopped j k at q bs) → bytes_on j (line_on r.at r.read o) bs ≡ stops k at → Stopped j k at r (10 ∷ bs)
line_stopped j k at r bs (refused l from) e s few more h =
    let this : stops l from ≡ stops k at = h in
    let same : refused l from ≡ refused k at = cc in
    inl (stops_here j k at r 10 bs (e ∙ this) (ap (λ w. line_step j r.at r.stage (item_of j.n w)) (append_nil r.begun) ∙ s ∙ same))
line_stopped j k at r bs (go t) e s few more h =
    let q : Reading = record { at = r.at + 1; read = r.read + 1; stage = t; begun = [] } in
    lf_stopped j k at r q bs e refl refl few refl (more q h)

past_most : (j : Tests) (k at : ℕ) (r : Reading) (b : ℕ) (bs : List ℕ) → nat_le most_bytes r.read ≡ true → stops 10 r.at ≡ stops k at → Long j k at r (b ∷ bs)
past_most j k at r b bs d e = record {
  refusal = cc;
  front = [];
  rest = b ∷ bs;
  split = refl;
  some = omega arith;
  most = λ l. let z = leb-true most_bytes r.read d in omega arith;
  to = r;
  comes = refl;
  number = cc;
}

long_line : (j : Tests) (k at : ℕ) (r : Reading) (b : ℕ) (bs : List ℕ) → byte_on j r b ≡ stops 1 r.at → is_end r.stage ≡ false → (b == 10) ≡ false → nat_lt (length r.begun) longest ≡ false → stops 1 r.at ≡ stops k at → Told j k at r (b ∷ bs)
long_line j k at r b bs e d f g h =
    let w : List ℕ = r.begun ++ (b ∷ line_behind 0 bs) in
    let size : length w ≡ length r.begun + length (b ∷ line_behind 0 bs) = length-append r.begun (b ∷ line_behind 0 bs) in
    let full = leb-false (suc (length r.begun)) longest g in
    let same : refused 1 r.at ≡ refused k at = cc in
    stops_here j k at r b bs (e ∙ h)
    (ap (λ v. line_step j r.at r.stage (item_of j.n (r.begun ++ v))) (this_line b bs f) ∙ none_step j r.at r.stage (item_of j.n w) d (too_long j.n w (omega arith)) ∙ same)

byte_stopped : (j : Tests) (k at : ℕ) (r : Reading) (b : ℕ) (bs : List ℕ) (d e f g : Bool) → nat_le most_bytes r.read ≡ d → is_end r.stage ≡ e → (b == 10) ≡ f → nat_lt (length r.begun) longest ≡ g
    → ((q : Reading) → bytes_on j (reads q) bs ≡ stops k at → Stopped j k at q bs) → bytes_on j (byte_on j r b) bs ≡ stops k at → Stopped j k at r (b ∷ bs)
byte_stopped j k at r b bs true e f g p q s t more h =
    inr (past_most j k at r b bs p (sym (ap (λ x. bytes_on j x bs) (byte_past j r b p)) ∙ h))
byte_stopped j k at r b bs false true f g p q s t more h =
    let byte = byte_behind j r b p q in
    let this : stops 9 r.at ≡ stops k at = sym (ap (λ x. bytes_on j x bs) byte) ∙ h in
    let same : refused 9 r.at ≡ refused k at = cc in
    inl (stops_here j k at r b bs (byte ∙ this) (end_step j r.at r.stage (item_of j.n (r.begun ++ line_behind 0 (b ∷ bs))) q ∙ same))
byte_stopped j k at r b bs false false true g p q s t more h =
    let ten : b ≡ 10 = eqb-true b 10 s in
    let o : Outcome = line_step j r.at r.stage (item_of j.n r.begun) in
    let byte = byte_lf j r p q in
    subst (λ x. Stopped j k at r (x ∷ bs)) (sym ten) (line_stopped j k at r bs o byte refl (leb-false most_bytes r.read p) more
    (sym (ap (λ x. bytes_on j x bs) byte) ∙ ap (λ x. bytes_on j (byte_on j r x) bs) (sym ten) ∙ h))
byte_stopped j k at r b bs false false false true p q s t more h =
    let byte = byte_of_line j r b true p q s t in
    next_stopped j k at r b bs byte s (leb-false most_bytes r.read p)
    (more (record { at = r.at; read = r.read + 1; stage = r.stage; begun = r.begun ++ b ∷ [] }) (sym (ap (λ x. bytes_on j x bs) byte) ∙ h))
byte_stopped j k at r b bs false false false false p q s t more h =
    let byte = byte_of_line j r b false p q s t in
    inl (long_line j k at r b bs byte q s t (sym (ap (λ x. bytes_on j x bs) byte) ∙ h))

pub stopped : (j : Tests) (k at : ℕ) (r : Reading) (bs : List ℕ) → bytes_on j (reads r) bs ≡ stops k at → Stopped j k at r bs
stopped j k at r [] e = cc
stopped j k at r (b ∷ bs) e = byte_stopped j k at r b bs (nat_le most_bytes r.read) (is_end r.stage) (b == 10) (nat_lt (length r.begun) longest) refl refl refl refl (λ q h. stopped j k at q bs h) e

-- ---- where a reading goes on

is_reads : (r q : Reading) → reads r ≡ reads q → r ≡ q
is_reads r q e = cc

-- the lines are counted, and the stage wants the line that is begun
pub record Goes (r : Reading) (bs : List ℕ) (q : Reading) : Type 0 where
  pub number : q.at ≡ r.at + ended_lines bs
  pub stands : StandsAt r.stage r.at → StandsAt q.stage q.at

line_goes : (i : Instance) (r q : Reading) (o : Outcome) → line_step (verifier i) r.at r.stage (item_of i.n r.begun) ≡ o → line_on r.at r.read o ≡ reads q → (q.at ≡ r.at + 1) × (StandsAt r.stage r.at → StandsAt q.stage q.at)
line_goes i r q (refused k from) s e = cc
line_goes i r q (go t) s e =
    let same = is_reads (record { at = r.at + 1; read = r.read + 1; stage = t; begun = [] }) q e in (
      sym (ap (λ (u : Reading). u.at) same),
      λ st. subst (λ (u : Reading). StandsAt u.stage u.at) same (subst (λ o. StandsAfter o (r.at + 1)) s (step_stands i r.stage r.at (item_of i.n r.begun) st)),
    )

room_goes : (r q : Reading) (b : ℕ) (g : Bool) → cond g (reads (record { at = r.at; read = r.read + 1; stage = r.stage; begun = r.begun ++ b ∷ [] })) (stops 1 r.at) ≡ reads q → (q.at ≡ r.at) × (StandsAt r.stage r.at → StandsAt q.stage q.at)
room_goes r q b true e =
    let same = is_reads (record { at = r.at; read = r.read + 1; stage = r.stage; begun = r.begun ++ b ∷ [] }) q e in
    (sym (ap (λ (u : Reading). u.at) same), λ st. subst (λ (u : Reading). StandsAt u.stage u.at) same st)
room_goes r q b false e = cc

byte_goes : (i : Instance) (r q : Reading) (b : ℕ) (d e f : Bool) → nat_le most_bytes r.read ≡ d → is_end r.stage ≡ e → (b == 10) ≡ f → byte_on (verifier i) r b ≡ reads q → (q.at ≡ r.at + cond f 1 0) × (StandsAt r.stage r.at → StandsAt q.stage q.at)
byte_goes i r q b true e f p s t h = let past = byte_past (verifier i) r b p in cc
byte_goes i r q b false true f p s t h = let past = byte_behind (verifier i) r b p s in cc
byte_goes i r q b false false true p s t h =
    line_goes i r q (line_step (verifier i) r.at r.stage (item_of i.n r.begun)) refl
    (sym (byte_plain (verifier i) r b p s ∙ ap (λ x. cond x (line_on r.at r.read (line_step (verifier i) r.at r.stage (item_of i.n r.begun)))
    (cond (nat_lt (length r.begun) longest) (reads (record { at = r.at; read = r.read + 1; stage = r.stage; begun = r.begun ++ b ∷ [] })) (stops 1 r.at))) t) ∙ h)
byte_goes i r q b false false false p s t h =
    let g = room_goes r q b (nat_lt (length r.begun) longest) (sym (byte_of_line (verifier i) r b (nat_lt (length r.begun) longest) p s t refl) ∙ h) in
    let same = g.0 in
    (omega arith, g.1)

through : (i : Instance) (r t : Reading) (b : ℕ) (bs : List ℕ) (x : Read) → byte_on (verifier i) r b ≡ x → ((q : Reading) → bytes_on (verifier i) (reads q) bs ≡ reads t → Goes q bs t) → bytes_on (verifier i) x bs ≡ reads t → Goes r (b ∷ bs) t
through i r t b bs (stops k at) e more h = cc
through i r t b bs (reads q) e more h =
    let g = byte_goes i r q b (nat_le most_bytes r.read) (is_end r.stage) (b == 10) refl refl refl e in
    let w = more q h in
    let here = g.0 in
    let there = w.number in
    record { number = omega arith; stands = λ st. w.stands (g.1 st) }

pub goes : (i : Instance) (r t : Reading) (bs : List ℕ) → bytes_on (verifier i) (reads r) bs ≡ reads t → Goes r bs t
goes i r t [] e =
    let same = is_reads r t e in
    let at = ap (λ (u : Reading). u.at) same in
    record { number = omega arith; stands = λ st. subst (λ (u : Reading). StandsAt u.stage u.at) same st }
goes i r t (b ∷ bs) e = through i r t b bs (byte_on (verifier i) r b) refl (λ q h. goes i q t bs h) e

-- ---- where the bytes end

stage_end : (at : ℕ) (s : Stage) → (at_end at s ≡ no 1 at) ⊎ ((l : ℕ) × (b : ℕ) × (at_end at s ≡ yes l b))
stage_end at wants_title = inl refl
stage_end at (wants_size v) = inl refl
stage_end at (wants_length v) = inl refl
stage_end at (wants_bound l) = inl refl
stage_end at (wants_tour l b) = inl refl
stage_end at (wants_count l b) = inl refl
stage_end at (wants_cut h c) = inl refl
stage_end at (wants_handle h c from t) = inl refl
stage_end at (wants_tooth h c from t s ts) = inl refl
stage_end at (wants_odd_handle h c from t) = inl refl
stage_end at (wants_pair h c from t s ps) = inl refl
stage_end at (wants_trees h []) = inr (h.long, h.bound, refl)
stage_end at (wants_trees h (p ∷ ps)) = inl refl
stage_end at (wants_duals h ps o a b c) = inl refl

begun_end : (at : ℕ) (s : Stage) (e : Bool) → (cond e (no 1 at) (at_end at s) ≡ no 1 at) ⊎ ((l : ℕ) × (b : ℕ) × (cond e (no 1 at) (at_end at s) ≡ yes l b))
begun_end at s true = inl refl
begun_end at s false = stage_end at s

end_is : (t : Reading) → (end_of t ≡ no 1 t.at) ⊎ ((l : ℕ) × (b : ℕ) × (end_of t ≡ yes l b))
end_is t = begun_end t.at t.stage (nat_lt 0 (length t.begun))

end_refusal : (t : Reading) (k at : ℕ) → end_of t ≡ no k at → (k ≡ 1) × (at ≡ t.at)
end_refusal t k at e = ⊎_elim
    (λ a. let same : no k at ≡ no 1 t.at = sym e ∙ a in (cc, cc))
    (λ b. let never : no k at ≡ yes b.0 b.1 = sym e ∙ b.2 in cc)
    (end_is t)

-- ---- refusals

line_fits : (n : ℕ) (w : List ℕ) (y : Item) → item_of n w ≡ Some y → fits n y ≡ true
line_fits n w y e = (item_said n w y e).1

told_fault : (i : Instance) (k at : ℕ) (r : Reading) (bs : List ℕ) → StandsAt r.stage r.at → (t : Told (verifier i) k at r bs) → Fault i t.to.stage t.to.at (item_of i.n (t.to.begun ++ line_behind t.lines bs)) k at
told_fault i k at r bs st t =
    fault i t.to.stage t.to.at (item_of i.n (t.to.begun ++ line_behind t.lines bs)) k at (line_fits i.n (t.to.begun ++ line_behind t.lines bs))
    ((goes i r t.to (first_lines t.lines bs) t.front.comes).stands st) t.step

told_placed : (i : Instance) (k at : ℕ) (r : Reading) (bs : List ℕ) → StandsAt r.stage r.at → (t : Told (verifier i) k at r bs) → IsPlaced t.to.at k at
told_placed i k at r bs st t =
    placed i t.to.stage t.to.at (item_of i.n (t.to.begun ++ line_behind t.lines bs)) k at ((goes i r t.to (first_lines t.lines bs) t.front.comes).stands st) (told_fault i k at r bs st t)

-- a refusal behind a reading is not told before it
stops_from : (i : Instance) (k at : ℕ) (u : Reading) (bs : List ℕ) → StandsAt u.stage u.at → Stopped (verifier i) k at u bs → (u.at ≤ at) ⊎ (k ≡ 5) ⊎ (k ≡ 7)
stops_from i k at u bs st s = ⊎_elim
    (λ t. let p = told_placed i k at u bs st t in let number = t.front.number in ⊎_elim (λ e. inl (omega arith)) (λ w. inr w) p.line)
    (λ t. let g = (goes i u t.to t.front t.comes).number in let number = t.number in inl (omega arith))
    s

ends_from : (i : Instance) (k at : ℕ) (u : Reading) (bs : List ℕ) (x : Read) → StandsAt u.stage u.at → bytes_on (verifier i) (reads u) bs ≡ x → verdict_at_end x ≡ no k at → (u.at ≤ at) ⊎ (k ≡ 5) ⊎ (k ≡ 7)
ends_from i k at u bs (stops l from) st e h =
    let same : stops l from ≡ stops k at = cc in
    stops_from i k at u bs st (stopped (verifier i) k at u bs (e ∙ same))
ends_from i k at u bs (reads t) st e h =
    let z = end_refusal t k at h in
    let line = z.1 in
    let g = (goes i u t bs e).number in
    inl (omega arith)

lower : (a b line k : ℕ) → a ≤ b → (b ≤ line) ⊎ (k ≡ 5) ⊎ (k ≡ 7) → (a ≤ line) ⊎ (k ≡ 5) ⊎ (k ≡ 7)
lower a b line k l w = ⊎_elim (λ e. inl (omega arith)) (λ z. inr z) w

begun_title : StandsAt start.stage start.at
begun_title = refl

refused_from : (i : Instance) (front : List ℕ) (at : ℕ) (u : Reading) → bytes_on (verifier i) (reads start) front ≡ reads u → at ≤ u.at → IsRefusedFrom i front at
refused_from i front at u e l = λ more k line h.
    let st = (goes i start u front e).stands begun_title in
    lower at u.at line k l (ends_from i k line u more (bytes_on (verifier i) (reads u) more) st refl
    (sym (ap verdict_at_end (reads_in_pieces (verifier i) (reads start) front more ∙ ap (λ x. bytes_on (verifier i) x more) e)) ∙ h))

-- a front of whole lines ends at the begin of a line
front_begun : (j : Tests) (bs : List ℕ) (q : ℕ) (t : Reading) → IsFront j start bs q t → t.begun ≡ []
front_begun j bs zero t f = ap (λ (u : Reading). u.begun) (f.here refl)
front_begun j bs (suc q) t f = f.begins (omega arith)

front_nothing : (i : Instance) (bs : List ℕ) (q : ℕ) (t : Reading) → IsFront (verifier i) start bs q t → NothingIsRefused i q bs
front_nothing i bs q t f =
    let e : verdict i (first_lines q bs) ≡ end_of t = ap verdict_at_end f.comes in
    let number = f.number in
    let line : t.at ≡ q + 1 = omega arith in
    ⊎_elim
    (λ a. inl (e ∙ a ∙ ap (no 1) line))
    (λ b. inr (b.0, b.1, e ∙ b.2))
    (end_is t)

told : (i : Instance) (k at : ℕ) (bytes : List ℕ) → i.n < 2 ^ 32 → Told (verifier i) k at start bytes → (m : ℕ) × IsTold i bytes k at m
told i k at bytes h t =
    let m = suc t.lines in
    let always : (more : List ℕ) → verdict i (first_lines m bytes ++ more) ≡ no k at = λ more. ap verdict_at_end (reads_in_pieces (verifier i) (reads start) (first_lines m bytes) more ∙ ap (λ x. bytes_on (verifier i) x more) t.stop) in
    let p = told_placed i k at start bytes begun_title t in
    let number = t.front.number in
    let line : t.to.at ≡ m = omega arith in
    let lines : t.lines ≡ m - 1 = omega arith in
    let ends = p.ends in
    let before = t.fronts (at - 1) (omega arith) in
    let count = before.1.number in (
      m,
      record {
        same = λ other e. let w = lines_then m other in ap (verdict i) (w.1 ∙ ap (λ x. x ++ w.0) e) ∙ always w.0;
        always = always;
        never = λ more l b a. let yes_too = (yes_is_accepted_text i (first_lines m bytes ++ more) l b h).1 a in let never : no k at ≡ yes l b = sym (always more) ∙ yes_too in cc;
        first = λ q l. let u = t.fronts q (omega arith) in front_nothing i bytes q u.0 u.1;
        begins = p.begins;
        ends = omega arith;
        line = ⊎_elim (λ e. inl (e ∙ line)) (λ w. inr w) p.line;
        later = refused_from i (first_lines (at - 1) bytes) at before.0 before.1.comes (omega arith);
        before = t.to;
        clean = front_begun (verifier i) bytes t.lines t.to t.front;
        stands = subst (λ q. bytes_on (verifier i) (reads start) (first_lines q bytes) ≡ reads t.to) lines t.front.comes;
        fault = subst (λ q. Fault i t.to.stage m (item_of i.n (line_behind q bytes)) k at) lines
            (subst (λ w. Fault i t.to.stage m (item_of i.n (w ++ line_behind t.lines bytes)) k at) (front_begun (verifier i) bytes t.lines t.to t.front)
            (subst (λ z. Fault i t.to.stage z (item_of i.n (t.to.begun ++ line_behind t.lines bytes)) k at) line (told_fault i k at start bytes begun_title t)));
      },
    )

long : (i : Instance) (k at : ℕ) (bytes : List ℕ) → Long (verifier i) k at start bytes → IsTooLong i bytes k at
long i k at bytes t =
    let e : verdict i t.front ≡ end_of t.to = ap verdict_at_end t.comes in
    let g = (goes i start t.to t.front t.comes).number in
    let number = t.number in
    let most = t.most (omega arith) in
    record {
      refusal = t.refusal;
      front = t.front;
      rest = t.rest;
      split = t.split;
      most = omega arith;
      some = t.some;
      line = omega arith;
      nothing = ⊎_elim (λ a. inl (e ∙ a ∙ ap (no 1) number)) (λ b. inr (b.0, b.1, e ∙ b.2)) (end_is t.to);
    }

-- as many lines as asked for, where there are so many
ended_if : (q : ℕ) (bs : List ℕ) (b : Bool) → suc q ≤ cond b 1 0 + ended_lines bs → ((p : ℕ) → p ≤ ended_lines bs → ended_lines (first_lines p bs) ≡ p) → cond b 1 0 + ended_lines (first_lines (cond b q (suc q)) bs) ≡ suc q
ended_if q bs true l more = let r = more q (omega arith) in omega arith
ended_if q bs false l more = let r = more (suc q) (omega arith) in omega arith

ended_first : (q : ℕ) (bs : List ℕ) → q ≤ ended_lines bs → ended_lines (first_lines q bs) ≡ q
ended_first zero bs l = refl
ended_first (suc q) [] l = absurd (omega arith)
ended_first (suc q) (b ∷ bs) l = ended_if q bs (b == 10) l (λ p m. ended_first p bs m)

-- what is read through was read through before
was_read : (j : Tests) (x : Read) (rest : List ℕ) (t : Reading) → bytes_on j x rest ≡ reads t → (u : Reading) × (x ≡ reads u)
was_read j (reads u) rest t e = (u, refl)
was_read j (stops k at) rest t e = cc

read_nothing : (i : Instance) (bytes : List ℕ) (t : Reading) (q : ℕ) → bytes_on (verifier i) (reads start) bytes ≡ reads t → q ≤ ended_lines bytes → NothingIsRefused i q bytes
read_nothing i bytes t q e l =
    let w = lines_then q bytes in
    let u = was_read (verifier i) (bytes_on (verifier i) (reads start) (first_lines q bytes)) w.0 t
    (sym (reads_in_pieces (verifier i) (reads start) (first_lines q bytes) w.0) ∙ sym (ap (bytes_on (verifier i) (reads start)) w.1) ∙ e) in
    let v : verdict i (first_lines q bytes) ≡ end_of u.0 = ap verdict_at_end u.1 in
    let number = (goes i start u.0 (first_lines q bytes) u.1).number in
    let count = ended_first q bytes l in
    let line : u.0.at ≡ q + 1 = omega arith in
    ⊎_elim (λ a. inl (v ∙ a ∙ ap (no 1) line)) (λ b. inr (b.0, b.1, v ∙ b.2)) (end_is u.0)

early : (i : Instance) (k at : ℕ) (bytes : List ℕ) (t : Reading) → bytes_on (verifier i) (reads start) bytes ≡ reads t → end_of t ≡ no k at → EndsEarly i bytes k at
early i k at bytes t e h =
    let z = end_refusal t k at h in
    let line = z.1 in
    let g = (goes i start t bytes e).number in
    record {
      refusal = z.0;
      line = omega arith;
      first = λ q l. read_nothing i bytes t q e (omega arith);
      later = refused_from i bytes at t e (omega arith);
    }

by_reading : (i : Instance) (k at : ℕ) (bytes : List ℕ) (x : Read) → i.n < 2 ^ 32 → bytes_on (verifier i) (reads start) bytes ≡ x → verdict_at_end x ≡ no k at → ((m : ℕ) × IsTold i bytes k at m) ⊎ EndsEarly i bytes k at ⊎ IsTooLong i bytes k at
by_reading i k at bytes (stops l from) h e v =
    let same : stops l from ≡ stops k at = cc in
    ⊎_elim (λ t. inl (told i k at bytes h t)) (λ t. inr (inr (long i k at bytes t))) (stopped (verifier i) k at start bytes (e ∙ same))
by_reading i k at bytes (reads t) h e v = inr (inl (early i k at bytes t e v))

pub refusals_are_of_the_front : RefusalsAreOfTheFront
refusals_are_of_the_front i bytes k at h e = by_reading i k at bytes (bytes_on (verifier i) (reads start) bytes) h refl e

-- ---- bytes behind the tree

end_yes : (at : ℕ) (s : Stage) → is_end s ≡ true → (l : ℕ) × (b : ℕ) × (at_end at s ≡ yes l b)
end_yes at (wants_trees h []) e = (h.long, h.bound, refl)
end_yes at wants_title e = cc
end_yes at (wants_size v) e = cc
end_yes at (wants_length v) e = cc
end_yes at (wants_bound l) e = cc
end_yes at (wants_tour l b) e = cc
end_yes at (wants_count l b) e = cc
end_yes at (wants_cut h c) e = cc
end_yes at (wants_handle h c from t) e = cc
end_yes at (wants_tooth h c from t s ts) e = cc
end_yes at (wants_odd_handle h c from t) e = cc
end_yes at (wants_pair h c from t s ps) e = cc
end_yes at (wants_trees h (p ∷ ps)) e = cc
end_yes at (wants_duals h ps o a b c) e = cc

-- only an end is refused as 9
only_end : (i : Instance) (s : Stage) (m : ℕ) (x : Option Item) (at : ℕ) → Fault i s m x 9 at → (is_end s ≡ true) × (at ≡ m)
only_end i s m x at (not_a_proof f) = let k = f.refusal in absurd (omega arith)
only_end i s m x at (other_size f) = let k = f.refusal in absurd (omega arith)
only_end i s m x at (not_a_tour f) = let k = f.refusal in absurd (omega arith)
only_end i s m x at (wrong_length f) = let k = f.refusal in absurd (omega arith)
only_end i s m x at (set_of_all f) = let k = f.refusal in absurd (omega arith)
only_end i s m x at (not_a_comb f) = let k = f.refusal in absurd (omega arith)
only_end i s m x at (not_an_odd_cut f) = let k = f.refusal in absurd (omega arith)
only_end i s m x at (decided_edge f) = let k = f.refusal in absurd (omega arith)
only_end i s m x at (weak_leaf f) = let k = f.refusal in absurd (omega arith)
only_end i s m x at (open_leaf f) = let k = f.refusal in absurd (omega arith)
only_end i s m x at (trailing f) = (f.behind, f.line)
only_end i s m x at (wrong_bound f) = let k = f.refusal in absurd (omega arith)

behind_accepted : (i : Instance) (bytes : List ℕ) (at m : ℕ) → i.n < 2 ^ 32 → IsTold i bytes 9 at m → (l : ℕ) × (b : ℕ) × IsAcceptedText i (first_lines (at - 1) bytes) l b
behind_accepted i bytes at m h t =
    let f = only_end i t.before.stage m (item_of i.n (line_behind (m - 1) bytes)) at t.fault in
    let y = end_yes t.before.at t.before.stage f.0 in
    let ends : verdict i (first_lines (m - 1) bytes) ≡ yes y.0 y.1 = ap verdict_at_end t.stands ∙ ap (λ w. cond (nat_lt 0 (length w)) (no 1 t.before.at) (at_end t.before.at t.before.stage)) t.clean ∙ y.2 in
    let same : verdict i (first_lines (at - 1) bytes) ≡ yes y.0 y.1 = ap (λ q. verdict i (first_lines (q - 1) bytes)) f.1 ∙ ends in
    (y.0, y.1, (yes_is_accepted_text i (first_lines (at - 1) bytes) y.0 y.1 h).0 same)

pub trailing_is_behind_accepted : TrailingIsBehindAccepted
trailing_is_behind_accepted i bytes at h e = ⊎_elim
    (λ t. behind_accepted i bytes at t.0 h t.1)
    (λ r. ⊎_elim
    (λ t. let k = t.refusal in absurd (omega arith))
    (λ t. let k = t.refusal in absurd (omega arith))
    r)
    (refusals_are_of_the_front i bytes 9 at h e)
