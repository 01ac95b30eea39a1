-- How much of a desk's proof is taken.
use Rattle.std.proofs.Common.{◌≡◌, ℕ, ◌+◌, ◌-◌, ◌^◌, ◌≤◌, List, [], ◌++◌, length, take, drop, refl, sym, ap, subst, ◌∙◌, append_assoc, length-append, arith, Option, Some, None}
use Rattle.std.proofs.lemmas.List.{take-append-drop, take-append-le}
use Rattle.ports.specs.Outside.{BothTell}
use Rattle.ports.specs.Desk.{Told, Takes}
use Rattle.ports.specs.declared.desk.Inlet.TheVariants as inlet
use Rattle.ports.proofs.Transfers.{takes_none, takes_more}
use Rattle.tspdef.specs.Instances.{Instance}
use Rattle.certdef.specs.Tests.{Tests, verifier}
use Rattle.certdef.specs.Bytes.{Reading, Read, reads, stops, start, bytes_on}
use Rattle.verdict.proofs.Bytes.{reads_in_pieces}
use Rattle.certcheck.specs.Answers.{count_taken, HasNoRefusal}
use Rattle.certcheck.proofs.CheckLemmas.{read_grows}

-- where no refusal stands in a whole, none stands in its front
went_on : (j : Tests) (x : Read) (bs : List ℕ) (r : Reading) → bytes_on j x bs ≡ reads r → (q : Reading) × (x ≡ reads q)
went_on j (reads q) bs r e = (q, refl)
went_on j (stops k at) bs r e = absurd (cc)

front_clean : (i : Instance) (xs : List ℕ) (r : Reading) (n : ℕ) → bytes_on (verifier i) (reads start) xs ≡ reads r → HasNoRefusal i (take n xs)
front_clean i xs r n e =
    went_on (verifier i) (bytes_on (verifier i) (reads start) (take n xs)) (drop n xs) r
    (sym (reads_in_pieces (verifier i) (reads start) (take n xs) (drop n xs)) ∙ (ap (bytes_on (verifier i) (reads start)) (take-append-drop n xs) ∙ e))

-- at most so many bytes were taken
few_taken : (a : List ℕ) (most : ℕ) (t u : Option Told) → length a ≤ most → BothTell (Takes inlet.Proof a) t u → BothTell (λ t u. count_taken t u ≤ most) t u
few_taken a most None None few x = tt
few_taken a most None (Some u) few x = x
few_taken a most (Some t) None few x = x
few_taken a most (Some t) (Some u) few x = omega (arith, ap length x.front, length-append a u.proof_in)

-- the bytes c were taken, in which no refusal stands, and then a piece
clean_taken : (i : Instance) (c b : List ℕ) (r : Reading) (t u : Option Told) → length b ≤ 65536 → bytes_on (verifier i) (reads start) c ≡ reads r → BothTell (Takes inlet.Proof (c ++ b)) t u
    → BothTell (λ t u. HasNoRefusal i (take (count_taken t u - 65536) t.proof_in)) t u
clean_taken i c b r None None few e x = tt
clean_taken i c b r None (Some u) few e x = x
clean_taken i c b r (Some t) None few e x = x
clean_taken i c b r (Some t) (Some u) few e x =
    let n : ℕ = count_taken t u - 65536 in
    let all : t.proof_in ≡ c ++ (b ++ u.proof_in) = x.front ∙ append_assoc c b u.proof_in in
    let front : n ≤ length c = omega (arith, ap length all, length-append c (b ++ u.proof_in), length-append b u.proof_in) in
    subst (HasNoRefusal i) (sym (ap (take n) all ∙ take-append-le n c (b ++ u.proof_in) front)) (front_clean i c r n e)

-- a piece more was taken
pub taken_after : (i : Instance) (c b : List ℕ) (r : Reading) (t u v : Option Told) → BothTell (Takes inlet.Proof c) t u → BothTell (Takes inlet.Proof b) u v → bytes_on (verifier i) (reads start) c ≡ reads r
    → length b ≤ 65536 → r.read + length b ≤ 2 ^ 60 + 1
    → BothTell (λ t u. count_taken t u ≤ 2 ^ 60 + 1) t v × BothTell (λ t u. HasNoRefusal i (take (count_taken t u - 65536) t.proof_in)) t v
taken_after i c b r t u v x y e small few =
    let both = takes_more inlet.Proof c b (c ++ b) t u v x y refl in
    let so_far = read_grows (verifier i) start r c e in
    (few_taken (c ++ b) (2 ^ 60 + 1) t v (omega (arith, so_far, length-append c b)) both, clean_taken i c b r t v small e both)

-- the next read fails
pub taken_before : (i : Instance) (c : List ℕ) (r : Reading) (t u v : Option Told) → BothTell (Takes inlet.Proof c) t u → v ≡ u → bytes_on (verifier i) (reads start) c ≡ reads r → r.read ≤ 2 ^ 60
    → BothTell (λ t u. count_taken t u ≤ 2 ^ 60 + 1) t v × BothTell (λ t u. HasNoRefusal i (take (count_taken t u - 65536) t.proof_in)) t v
taken_before i c r t u v x same e few =
    taken_after i c [] r t u v x (subst (λ w. BothTell (Takes inlet.Proof []) u w) (sym same) (takes_none inlet.Proof u)) e (omega arith) (omega arith)

-- nothing was taken
pub none_taken : (i : Instance) (t : Option Told) → BothTell (λ t u. HasNoRefusal i (take (count_taken t u - 65536) t.proof_in)) t t
none_taken i t = (taken_before i [] start t t t (takes_none inlet.Proof t) refl refl (omega arith)).1
