-- What is kept is the front of the last line.
use Rattle.std.proofs.Common.{◌≡◌, ◌≤◌, ℕ, zero, suc, Bool, true, false, cond, ◌||◌, ◌==◌, List, [], ◌∷◌, ◌++◌, length, take, nat_lt, sym, ap, ◌∙◌, refl, append_assoc, arith}
use Rattle.std.proofs.lemmas.List.{take_at, take_all, length-take, length-append}
use Rattle.std.proofs.lemmas.Bool.{ltb-true, ltb-false}
use Rattle.wording.specs.LastLine.{Line, kept, with_byte, with_bytes, goes_on, last_line, nothing, KeptIsTheLastLine}

-- a front of a text that is cut off first
front_again : (m : ℕ) (xs ys : List ℕ) → take m (take m xs ++ ys) ≡ take m (xs ++ ys)
front_again zero xs ys = refl
front_again (suc m) [] ys = refl
front_again (suc m) (x ∷ xs) ys = ap (λ s. x ∷ s) (front_again m xs ys)

-- a byte more is kept where there is room
one_more : (m : ℕ) (k : List ℕ) (b : ℕ) → length k ≤ m → cond (nat_lt (length k) m) (k ++ b ∷ []) k ≡ take m (k ++ b ∷ [])
one_more m k b h = by_room (nat_lt (length k) m) refl
  where
    by_room : (t : Bool) → nat_lt (length k) m ≡ t → cond t (k ++ b ∷ []) k ≡ take m (k ++ b ∷ [])
    by_room true e = let some = ltb-true (length k) m e in sym (take_all m (k ++ b ∷ []) (omega (arith, length-append k (b ∷ []))))
    by_room false e = let none = ltb-false (length k) m e in sym (take_at k (b ∷ []) m (omega arith))

-- what is kept at the next byte is no longer than what was kept
kept_few : (l : Line) → length l.bytes ≤ 256 → length (kept l) ≤ 256
kept_few l h = by_end l.is_ended
  where
    by_end : (t : Bool) → length (cond t [] l.bytes) ≤ 256
    by_end true = omega arith
    by_end false = h

-- nor than 256 bytes after it
few : (l : Line) (b : ℕ) → length l.bytes ≤ 256 → length (with_byte l b).bytes ≤ 256
few l b h = omega (arith, ap length (one_more 256 (kept l) b (kept_few l h)), length-take 256 (kept l ++ b ∷ []))

-- one step, by whether the byte ends a line, and whether a line ends in what follows
step : (ends more : Bool) (k : List ℕ) (b c : ℕ) (cs got : List ℕ) → length k ≤ 256
    → got ≡ cond more (take 256 (last_line cs)) (take 256 (cond ends [] (cond (nat_lt (length k) 256) (k ++ b ∷ []) k) ++ c ∷ cs))
    → got ≡ cond (ends || more) (take 256 (cond more (last_line cs) (c ∷ cs))) (take 256 (k ++ b ∷ c ∷ cs))
step true true k b c cs got h e = e
step true false k b c cs got h e = e
step false true k b c cs got h e = e
step false false k b c cs got h e =
    e ∙ ap (λ s. take 256 (s ++ c ∷ cs)) (one_more 256 k b h) ∙ front_again 256 (k ++ b ∷ []) (c ∷ cs) ∙ ap (take 256) (append_assoc k (b ∷ []) (c ∷ cs))

-- what is kept once bytes follow
followed : (l : Line) (b : ℕ) (bs : List ℕ) → length l.bytes ≤ 256
    → (with_bytes l (b ∷ bs)).bytes ≡ cond (goes_on (b ∷ bs)) (take 256 (last_line bs)) (take 256 (kept l ++ b ∷ bs))
followed l b [] h = one_more 256 (kept l) b (kept_few l h)
followed l b (c ∷ cs) h =
    step (b == 10) (goes_on (c ∷ cs)) (kept l) b c cs (with_bytes l (b ∷ c ∷ cs)).bytes (kept_few l h) (followed (with_byte l b) c cs (few l b h))

-- the front of either of two texts
front_of : (t : Bool) (xs ys : List ℕ) → cond t (take 256 xs) (take 256 ys) ≡ take 256 (cond t xs ys)
front_of true xs ys = refl
front_of false xs ys = refl

pub kept_last : KeptIsTheLastLine
kept_last [] = refl
kept_last (b ∷ bs) = followed nothing b bs (omega arith) ∙ front_of (goes_on (b ∷ bs)) (last_line bs) (b ∷ bs)
