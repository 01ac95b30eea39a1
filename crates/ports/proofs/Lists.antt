-- Parts of byte lists.
use Rattle.std.proofs.Common.{◌≡◌, ◌≤◌, ◌<◌, ℕ, ◌+◌, ◌-◌, zero, suc, List, [], ◌∷◌, ◌++◌, length, take, drop, replicate, sym, ap, ◌∙◌, append_assoc, arith}
use Rattle.std.proofs.lemmas.List.{take_at, take_all, drop_all, append-nil, drop-drop, take-append-drop, take-replicate, length-replicate}
use Rattle.ports.specs.Slots.{put_at}

-- what a read from the front leaves
pub moved_front : (bytes buf : List ℕ) (at n : ℕ) → take n buf ≡ take n (drop at bytes) → drop at bytes ≡ take n buf ++ drop (at + n) bytes
moved_front bytes buf at n same =
    let back = drop-drop n at bytes in
    let whole = take-append-drop n (drop at bytes) in cc

-- what was copied to the front of a buffer
pub copied_front : (bytes got rest : List ℕ) (at n m : ℕ) → got ≡ take m (drop at bytes) → m ≡ n → length got ≡ n → take n (got ++ rest) ≡ take n (drop at bytes)
copied_front bytes got rest at n m same e len =
    take_at got rest n len ∙ same ∙ ap (λ k. take k (drop at bytes)) e

take_zeros : (old : List ℕ) (pos m : ℕ) → pos ≤ length old + m → take pos (old ++ replicate m 0) ≡ take pos old ++ replicate (pos - length old) 0
take_zeros [] pos m le =
    let some : pos ≤ m = omega arith in
    let all : pos - 0 ≡ pos = omega arith in
    let none : take {A = ℕ} pos [] ≡ [] = take_all pos [] (omega arith) in
    take-replicate pos m 0 some ∙ sym (ap (λ s. s ++ replicate (pos - 0) 0) none ∙ ap (λ k. replicate k 0) all)
take_zeros (x ∷ xs) zero m le =
    let none : 0 - suc (length xs) ≡ 0 = omega arith in ap (λ k. replicate k 0) (sym none)
take_zeros (x ∷ xs) (suc pos) m le =
    let e : suc pos - suc (length xs) ≡ pos - length xs = omega arith in
    ap (λ s. x ∷ s) (take_zeros xs pos m (omega arith)) ∙ ap (λ k. x ∷ (take pos xs ++ replicate k 0)) (sym e)

drop_zeros : (old : List ℕ) (n m : ℕ) → m ≤ n - length old → drop n (old ++ replicate m 0) ≡ drop n old
drop_zeros [] n m le =
    drop_all n (replicate m 0) (omega (arith, length-replicate {A = ℕ} m 0)) ∙ sym (drop_all n [] (omega arith))
drop_zeros (x ∷ xs) zero m le =
    let none : m ≡ 0 = omega arith in
    ap (λ k. x ∷ (xs ++ replicate k 0)) none ∙ ap (λ s. x ∷ s) (append-nil xs)
drop_zeros (x ∷ xs) (suc n) m le = drop_zeros xs n m (omega arith)

-- a write over a list that zeros have made long enough
pub put_over_zeros : (old piece : List ℕ) (pos m : ℕ) → 0 < length piece → m ≡ pos + length piece - length old → take pos (old ++ replicate m 0) ++ (piece ++ drop (pos + length piece) (old ++ replicate m 0)) ≡ put_at pos piece old
put_over_zeros old [] pos m some e = absurd (omega arith)
put_over_zeros old (b ∷ bs) pos m some e =
    let front = take_zeros old pos m (omega arith) in
    let back = drop_zeros old (pos + suc (length bs)) m (omega arith) in
    ap (λ s. s ++ (b ∷ bs ++ drop (pos + suc (length bs)) (old ++ replicate m 0))) front ∙ ap (λ s. take pos old ++ replicate (pos - length old) 0 ++ (b ∷ bs ++ s)) back
    ∙ append_assoc (take pos old) (replicate (pos - length old) 0) (b ∷ bs ++ drop (pos + suc (length bs)) old)
