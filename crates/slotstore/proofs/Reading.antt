-- Reading the front of a slot piece by piece.
use Rattle.std.proofs.Common.{◌≡◌, ℕ, ◌+◌, ◌-◌, ◌≤◌, List, ◌++◌, length, take, drop, sym, ap, ◌∙◌, arith, Option}
use Rattle.std.proofs.lemmas.List.{take-take, drop-take, drop-drop, take-append-drop, length-take}
use Rattle.std.proofs.Math.Seq.{take-append-add}
use Rattle.ports.specs.Outside.{WhereTold}
use Rattle.ports.specs.Slots.{SlotsTold, slot_of}
use Rattle.slotstore.proofs.Changes.{where_both, where_moved}

pub take_on : (bytes : List ℕ) (done k : ℕ) → take (done + k) bytes ≡ take done bytes ++ take k (drop done bytes)
take_on bytes done k =
    let front = take-take done (done + k) bytes (omega arith) in
    let back = drop-take done k bytes in
    let whole = take-append-drop done (take (done + k) bytes) in cc

read_on : (bytes front buf : List ℕ) (done k : ℕ) → done ≤ length front → take done front ≡ take done bytes → take k buf ≡ take k (drop done bytes)
    → take (done + k) (take done front ++ buf) ≡ take (done + k) bytes
read_on bytes front buf done k within so_far read =
    let len : length (take done front) ≡ done = omega (arith, length-take done front) in
    ap (λ n. take (n + k) (take done front ++ buf)) (sym len) ∙ take-append-add (take done front) buf k ∙ ap (λ s. s ++ take k buf) so_far
    ∙ ap (λ s. take done bytes ++ s) read ∙ sym (take_on bytes done k)

-- one read more
pub reads_on : (slot : ℕ) (front buf : List ℕ) (done k : ℕ) (t : Option SlotsTold) → done ≤ length front
    → WhereTold (λ t. take done front ≡ take done (slot_of slot t).bytes) t
    → WhereTold (λ t. take k buf ≡ take k (drop done (slot_of slot t).bytes)) t
    → WhereTold (λ t. take (done + k) (take done front ++ buf) ≡ take (done + k) (slot_of slot t).bytes) t
reads_on slot front buf done k t within = where_both (λ t. take done front ≡ take done (slot_of slot t).bytes) (λ t. take k buf ≡ take k (drop done (slot_of slot t).bytes))
    (λ t. take (done + k) (take done front ++ buf) ≡ take (done + k) (slot_of slot t).bytes) (λ t. read_on (slot_of slot t).bytes front buf done k within) t

-- behind the front, a piece more
read_more : (bytes items new buf : List ℕ) (pos k : ℕ) → 10 ≤ pos → new ≡ items ++ take k buf → items ≡ take (pos - 10) (drop 10 bytes) → take k buf ≡ take k (drop pos bytes)
    → new ≡ take (pos + k - 10) (drop 10 bytes)
read_more bytes items new buf pos k front more so_far read =
    let at : 10 + (pos - 10) ≡ pos = omega arith in
    let size : pos - 10 + k ≡ pos + k - 10 = omega arith in
    let rest : drop (pos - 10) (drop 10 bytes) ≡ drop pos bytes = drop-drop (pos - 10) 10 bytes ∙ ap (λ n. drop n bytes) at in
    more
    ∙ ap (λ s. s ++ take k buf) so_far
    ∙ ap (λ s. take (pos - 10) (drop 10 bytes) ++ s) (read ∙ ap (take k) (sym rest))
    ∙ sym (take_on (drop 10 bytes) (pos - 10) k)
    ∙ ap (λ n. take n (drop 10 bytes)) size

pub reads_more : (slot : ℕ) (items new buf : List ℕ) (pos k : ℕ) (t u : Option SlotsTold) → 10 ≤ pos → new ≡ items ++ take k buf → u ≡ t
    → WhereTold (λ t. items ≡ take (pos - 10) (drop 10 (slot_of slot t).bytes)) t
    → WhereTold (λ t. take k buf ≡ take k (drop pos (slot_of slot t).bytes)) u
    → WhereTold (λ t. new ≡ take (pos + k - 10) (drop 10 (slot_of slot t).bytes)) t
reads_more slot items new buf pos k t u front more e so_far read =
    where_both (λ t. items ≡ take (pos - 10) (drop 10 (slot_of slot t).bytes)) (λ t. take k buf ≡ take k (drop pos (slot_of slot t).bytes))
    (λ t. new ≡ take (pos + k - 10) (drop 10 (slot_of slot t).bytes)) (λ t x y. read_more (slot_of slot t).bytes items new buf pos k front more x y) t
    so_far (where_moved (λ t. take k buf ≡ take k (drop pos (slot_of slot t).bytes)) t u e read)
