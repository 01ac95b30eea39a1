-- Tapes that go on, that stop, and that end.
use Rattle.std.proofs.Common.{◌≡◌, ℕ, ◌+◌, ◌-◌, ◌<◌, ◌≤◌, inl, inr, List, [], ◌++◌, length, take, Some, None, sym, ap, ◌∙◌, subst, append_assoc, length-append, arith}
use Rattle.std.proofs.lemmas.List.{append-nil, take-append-le}
use Rattle.std.proofs.Math.Seq.{take-append_seam}
use Rattle.std.specs.Int.{w32, from_be_bytes}
use Rattle.bossx.specs.Books.{Book}
use Rattle.tapeboss.specs.Frames.{IsSize, IsFrame, IsBegun, word_of, number_of}
use Rattle.tapeboss.specs.Replies.{fault_line}
use Rattle.tapeboss.specs.Tapes.{most_bytes, Plays, none, one_more, IsFault, bad_length, truncated, bad_frame, too_long, last_line, IsPlayedTape, ends, stops, Playing, HasPlayed, GoesOn, StopsAt, EndsAs}
use Rattle.tapeboss.specs.Turns.{IsRoom, IsLongEnough, IsAnswered, FaultIn}
use Rattle.tapeboss.specs.declared.error.Fault.{Fault}
use Rattle.tapeboss.specs.declared.error.Fault.TheVariants.{Truncated, TooLong}

-- ---- pieces behind each other

pub started : (b : Book) (t : Playing) → t.frames ≡ 0 → t.read ≡ 0 → t.begun ≡ [] → t.book ≡ b → HasPlayed b [] [] t
started b t k r e same = record {
  front = [];
  plays = subst (λ (j : ℕ). Plays b j [] [] t.book) (sym k) (subst (λ (c : Book). Plays b 0 [] [] c) (sym same) none);
  fed_is = sym e;
  begun = subst IsBegun (sym e) (inl (omega arith));
  read = r;
  few = omega arith;
}

pub goes_nowhere : (t : Playing) → GoesOn t [] [] t
goes_nowhere t start before said h =
    subst (λ (x : List ℕ). HasPlayed start x (said ++ []) t) (sym (append-nil before)) (subst (λ (y : List ℕ). HasPlayed start before y t) (sym (append-nil said)) h)

pub goes_further : (a b c : Playing) (xs ys l m : List ℕ) → GoesOn a xs l b → GoesOn b ys m c → GoesOn a (xs ++ ys) (l ++ m) c
goes_further a b c xs ys l m f g start before said h =
    subst (λ (z : List ℕ). HasPlayed start z (said ++ (l ++ m)) c) (append_assoc before xs ys)
    (subst (λ (z : List ℕ). HasPlayed start ((before ++ xs) ++ ys) z c) (append_assoc said l m)
    (g start (before ++ xs) (said ++ l) (f start before said h)))

pub stops_further : (a b : Playing) (xs ys l m : List ℕ) (f : Fault) (k : ℕ) → GoesOn a xs l b → StopsAt b ys m f k → StopsAt a (xs ++ ys) (l ++ m) f k
stops_further a b xs ys l m f k goes at start before said more h =
    subst (λ (z : List ℕ). IsPlayedTape start (z ++ more) (said ++ (l ++ m)) (Some (f, k))) (append_assoc before xs ys)
    (subst (λ (z : List ℕ). IsPlayedTape start (((before ++ xs) ++ ys) ++ more) z (Some (f, k))) (append_assoc said l m)
    (at start (before ++ xs) (said ++ l) more (goes start before said h)))

-- a fault is that of each tape that begins so
pub stops_before : (a : Playing) (ys zs m : List ℕ) (f : Fault) (k : ℕ) → StopsAt a ys m f k → StopsAt a (ys ++ zs) m f k
stops_before a ys zs m f k at start before said more h =
    subst (λ (z : List ℕ). IsPlayedTape start z (said ++ m) (Some (f, k)))
    (sym (append_assoc (before ++ ys) zs more) ∙ ap (λ (z : List ℕ). z ++ more) (append_assoc before ys zs))
    (at start before said (zs ++ more) h)

-- ---- a frame that is begun

-- the length of a frame stands in its first four bytes
same_word : (xs ys : List ℕ) → 4 ≤ length xs → word_of (xs ++ ys) ≡ word_of xs
same_word xs ys h = ap (λ (z : List ℕ). from_be_bytes w32 z) (take-append-le 4 xs ys h)

-- no more than the frame was taken
pub frame_ends : (begun part : List ℕ) → IsRoom begun (length part) → IsLongEnough (begun ++ part) → IsFrame (begun ++ part)
frame_ends begun part room long =
    let size = long.size in
    let low = size.0 in
    let whole = long.whole in
    let all = length-append begun part in
    record {
      header = long.header;
      size = size;
      whole = elim room [
        | inl few ↦ absurd (omega (arith, low, whole, all, few))
        | inr some ↦ (let word = same_word begun part some.0 in let few = some.1 in omega (arith, word, whole, all, few))
      ];
    }

pub part_is_begun : (old new : Playing) (part : List ℕ) → new.frames ≡ old.frames → new.book ≡ old.book → new.begun ≡ old.begun ++ part → new.read ≡ old.read + length part
    → old.read + length part ≤ most_bytes → IsBegun (old.begun ++ part) → GoesOn old part [] new
part_is_begun old new part k same e r few begun start before said h =
    let all = length-append before part in
    let read = h.read in
    record {
      front = h.front;
      plays = subst (λ (b : Book). Plays start new.frames h.front (said ++ []) b) (sym same)
          (subst (λ (j : ℕ). Plays start j h.front (said ++ []) old.book) (sym k)
          (subst (λ (z : List ℕ). Plays start old.frames h.front z old.book) (sym (append-nil said)) h.plays));
      fed_is = ap (λ (z : List ℕ). z ++ part) h.fed_is ∙ (append_assoc h.front old.begun part ∙ ap (λ (z : List ℕ). h.front ++ z) (sym e));
      begun = subst IsBegun (sym e) begun;
      read = omega (arith, all, read, r);
      few = omega (arith, all, read, few);
    }

pub frame_is_played : (old new : Playing) (part lines : List ℕ) → new.frames ≡ old.frames + 1 → new.begun ≡ [] → new.read ≡ old.read + length part
    → old.read + length part ≤ most_bytes → IsFrame (old.begun ++ part) → IsAnswered old.book (old.begun ++ part) lines new.book → GoesOn old part lines new
frame_is_played old new part lines k e r few frame a start before said h =
    let all = length-append before part in
    let read = h.read in
    let whole = old.begun ++ part in
    record {
      front = h.front ++ whole;
      plays = subst (λ (j : ℕ). Plays start j (h.front ++ whole) (said ++ lines) new.book) (sym k)
          (subst (λ (z : List ℕ). Plays start (old.frames + 1) (h.front ++ whole) (said ++ z) new.book) (sym a.line)
          (one_more old.frames h.front said whole old.book new.book a.event a.reply h.plays frame a.is_heard a.step));
      fed_is = ap (λ (z : List ℕ). z ++ part) h.fed_is ∙ (append_assoc h.front old.begun part
          ∙ (sym (append-nil (h.front ++ whole)) ∙ ap (λ (z : List ℕ). (h.front ++ whole) ++ z) (sym e)));
      begun = subst IsBegun (sym e) (inl (omega arith));
      read = omega (arith, all, read, r);
      few = omega (arith, all, read, few);
    }

-- ---- faults

-- the bytes that came, the frame that is begun and what follows
seam : (start : Book) (before said part more : List ℕ) (old : Playing) (h : HasPlayed start before said old) → h.front ++ ((old.begun ++ part) ++ more) ≡ (before ++ part) ++ more
seam start before said part more old h =
    sym (append_assoc h.front (old.begun ++ part) more)
    ∙ ap (λ (z : List ℕ). z ++ more) (sym (append_assoc h.front old.begun part) ∙ ap (λ (z : List ℕ). z ++ part) (sym h.fed_is))

-- the fault of a part, as that of what stands behind the whole frames
fault_behind : (b : Book) (before : ℕ) (begun part more : List ℕ) (f : Fault) → before + (length begun + length part) ≤ most_bytes → IsRoom begun (length part)
    → FaultIn b (begun ++ part) f → IsFault b before ((begun ++ part) ++ more) f
fault_behind b before begun part more f few room (inl bad) =
    let header = bad.header in
    let all = length-append begun part in
    let more_all = length-append (begun ++ part) more in
    subst (λ (g : Fault). IsFault b before ((begun ++ part) ++ more) g) (sym bad.fault)
    (bad_length ((begun ++ part) ++ more) (omega (arith, header, more_all)) (omega (arith, header, all, few))
    (λ size. bad.size (subst IsSize (same_word (begun ++ part) more header) size)))
fault_behind b before begun part more f few room (inr bad) =
    let all = length-append begun part in
    bad_frame (begun ++ part) more f (frame_ends begun part room bad.0) (omega (arith, all, few)) bad.1

-- how many bytes stand before the frame that is begun
before_begun : (start : Book) (before said : List ℕ) (old : Playing) (h : HasPlayed start before said old) → length h.front + length old.begun ≡ old.read
before_begun start before said old h = sym (length-append h.front old.begun) ∙ (ap length (sym h.fed_is) ∙ sym h.read)

pub fault_is_told : (old : Playing) (part lines : List ℕ) (f : Fault) (k : ℕ) → k ≡ old.frames + 1 → lines ≡ fault_line (number_of f) (old.frames + 1)
    → old.read + length part ≤ most_bytes → IsRoom old.begun (length part) → FaultIn old.book (old.begun ++ part) f → StopsAt old part lines f k
fault_is_told old part lines f k at line few room bad start before said more h =
    let sums = before_begun start before said old h in
    subst (λ (j : ℕ). IsPlayedTape start ((before ++ part) ++ more) (said ++ lines) (Some (f, j))) (sym at)
    (subst (λ (z : List ℕ). IsPlayedTape start ((before ++ part) ++ more) (said ++ z) (Some (f, old.frames + 1))) (sym line)
    (subst (λ (z : List ℕ). IsPlayedTape start z (said ++ fault_line (number_of f) (old.frames + 1)) (Some (f, old.frames + 1))) (seam start before said part more old h)
    (stops old.frames h.front ((old.begun ++ part) ++ more) said old.book f h.plays
    (fault_behind old.book (length h.front) old.begun part more f (omega (arith, sums, few)) room bad))))

pub too_long_is_told : (old : Playing) (rest lines : List ℕ) (k : ℕ) → k ≡ old.frames + 1 → lines ≡ fault_line (number_of TooLong) (old.frames + 1)
    → old.read ≡ most_bytes → 0 < length rest → StopsAt old rest lines TooLong k
too_long_is_told old rest lines k at line full some start before said more h =
    let sums = before_begun start before said old h in
    let all = length-append (old.begun ++ rest) more in
    let both = length-append old.begun rest in
    let left : most_bytes - length h.front ≡ length old.begun = omega (arith, sums, full) in
    let front : take (most_bytes - length h.front) ((old.begun ++ rest) ++ more) ≡ old.begun =
    ap (λ (j : ℕ). take j ((old.begun ++ rest) ++ more)) left ∙ (ap (take (length old.begun)) (append_assoc old.begun rest more) ∙ take-append_seam old.begun (rest ++ more)) in
    subst (λ (j : ℕ). IsPlayedTape start ((before ++ rest) ++ more) (said ++ lines) (Some (TooLong, j))) (sym at)
    (subst (λ (z : List ℕ). IsPlayedTape start ((before ++ rest) ++ more) (said ++ z) (Some (TooLong, old.frames + 1))) (sym line)
    (subst (λ (z : List ℕ). IsPlayedTape start z (said ++ fault_line (number_of TooLong) (old.frames + 1)) (Some (TooLong, old.frames + 1))) (seam start before said rest more old h)
    (stops old.frames h.front ((old.begun ++ rest) ++ more) said old.book TooLong h.plays
    (too_long ((old.begun ++ rest) ++ more) (subst IsBegun (sym front) h.begun) (omega (arith, all, both, sums, full, some))))))

-- ---- the end

pub truncated_is_told : (old : Playing) (lines : List ℕ) (k : ℕ) → k ≡ old.frames + 1 → lines ≡ fault_line (number_of Truncated) (old.frames + 1)
    → 0 < length old.begun → EndsAs old lines (Some (Truncated, k))
truncated_is_told old lines k at line some start tape said h =
    let sums = before_begun start tape said old h in
    let few = h.few in
    let read = h.read in
    subst (λ (j : ℕ). IsPlayedTape start tape (said ++ lines) (Some (Truncated, j))) (sym at)
    (subst (λ (z : List ℕ). IsPlayedTape start tape (said ++ z) (Some (Truncated, old.frames + 1))) (sym line)
    (subst (λ (z : List ℕ). IsPlayedTape start z (said ++ fault_line (number_of Truncated) (old.frames + 1)) (Some (Truncated, old.frames + 1))) (sym h.fed_is)
    (stops old.frames h.front old.begun said old.book Truncated h.plays
    (truncated old.begun some h.begun (omega (arith, sums, read, few))))))

pub end_is_told : (old : Playing) (lines : List ℕ) → lines ≡ last_line old.book → old.begun ≡ [] → EndsAs old lines None
end_is_told old lines line none_left start tape said h =
    let front : tape ≡ h.front = h.fed_is ∙ (ap (λ (z : List ℕ). h.front ++ z) none_left ∙ append-nil h.front) in
    subst (λ (z : List ℕ). IsPlayedTape start tape (said ++ z) None) (sym line)
    (ends old.frames tape said old.book (subst (λ (z : List ℕ). Plays start old.frames z said old.book) (sym front) h.plays) h.few)
