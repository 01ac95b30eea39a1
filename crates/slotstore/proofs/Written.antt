-- The bytes of a slot after each step of a save.
use Rattle.std.proofs.Common.{◌≡◌, ℕ, ◌+◌, ◌-◌, ◌≤◌, suc, List, [], ◌∷◌, ◌++◌, length, take, drop, replicate, sym, ap, ◌∙◌, append_assoc, length-append, arith}
use Rattle.std.proofs.lemmas.List.{drop-drop, take-append-drop, take_at}
use Rattle.std.proofs.Math.Seq.{drop-append-add}
use Rattle.ports.specs.Slots.{put_at}
use Rattle.byteorder.specs.Numbers.{length-bytes_high_first}
use Rattle.slotstore.specs.Slot.{label, whole_slot}
use Rattle.slotstore.specs.Writing.{with_gate, with_body}

-- a piece that is put within a list
put_within : (pos : ℕ) (piece old : List ℕ) → pos ≤ length old → put_at pos piece old ≡ take pos old ++ (piece ++ drop (pos + length piece) old)
put_within pos [] old within =
    let same : pos + 0 ≡ pos = omega arith in
    sym (ap (λ k. take pos old ++ drop k old) same ∙ take-append-drop pos old)
put_within pos (b ∷ bs) old within =
    let none : pos - length old ≡ 0 = omega arith in
    ap (λ k. take pos old ++ (replicate k 0 ++ (b ∷ bs ++ drop (pos + length (b ∷ bs)) old))) none

pub label-length : (n : ℕ) (body : List ℕ) → length (label n body) ≡ 9
label-length n body = ap suc (length-bytes_high_first 8 (length body))

pub gate_is : (value : ℕ) (old : List ℕ) → with_gate value old ≡ value ∷ drop 1 old
gate_is value old = put_within 0 (value ∷ []) old (omega arith)

labelled : (g n : ℕ) (body old : List ℕ) → put_at 1 (label n body) (g ∷ drop 1 old) ≡ (g ∷ label n body) ++ drop 10 old
labelled g n body old =
    let len = label-length n body in
    let past : drop (1 + length (label n body)) (g ∷ drop 1 old) ≡ drop 10 old = ap (λ k. drop (1 + k) (g ∷ drop 1 old)) len ∙ drop-drop 9 1 old in
    put_within 1 (label n body) (g ∷ drop 1 old) (omega arith) ∙ ap (λ s. g ∷ (label n body ++ s)) past

filled : (g n : ℕ) (body old : List ℕ) → put_at 10 body ((g ∷ label n body) ++ drop 10 old) ≡ (g ∷ label n body) ++ (body ++ drop (10 + length body) old)
filled g n body old =
    let front = g ∷ label n body in
    let len : length front ≡ 10 = ap suc (label-length n body) in
    let taken : take 10 (front ++ drop 10 old) ≡ front = take_at front (drop 10 old) 10 len in
    let past : drop (10 + length body) (front ++ drop 10 old) ≡ drop (10 + length body) old =
    ap (λ k. drop (k + length body) (front ++ drop 10 old)) (sym len) ∙ drop-append-add front (drop 10 old) (length body) ∙ drop-drop (length body) 10 old in
    put_within 10 body (front ++ drop 10 old) (omega (arith, length-append front (drop 10 old)))
    ∙ ap (λ s. s ++ (body ++ drop (10 + length body) (front ++ drop 10 old))) taken
    ∙ ap (λ s. front ++ (body ++ s)) past

-- a slot that was filled behind its gate
pub filled_whole : (g n : ℕ) (body old : List ℕ) → with_body n body (g ∷ drop 1 old) ≡ (g ∷ label n body) ++ (body ++ drop (10 + length body) old)
filled_whole g n body old = ap (put_at 10 body) (labelled g n body old) ∙ filled g n body old

-- and whose gate was opened
pub opened : (g n : ℕ) (body old : List ℕ) → with_gate 1 (with_body n body (g ∷ drop 1 old)) ≡ whole_slot n body ++ drop (10 + length body) old
opened g n body old =
    let rest = drop (10 + length body) old in
    ap (with_gate 1) (filled_whole g n body old) ∙ gate_is 1 ((g ∷ label n body) ++ (body ++ rest)) ∙ ap (λ s. 1 ∷ s) (sym (append_assoc (label n body) body rest))
