-- What the best side weighs as a cut: entries are chosen as is cheaper, and one may be turned over.
use Rattle.std.proofs.Common.{◌≡◌, ℕ, ◌+◌, ◌≤◌, Bool, true, false, not, cond, ◌&&◌, ◌||◌, List, [], ◌∷◌, refl, sym, ap, ◌∙◌, arith, ⊎_elim}
use Rattle.std.specs.List.{AllByRecursion}
use Rattle.std.proofs.lemmas.Bool.{cases_Bool, false≢true, cond-true, cond-false, or_parts}
use Rattle.tspdef.specs.Tours.{joins, crosses}
use Rattle.cyc.specs.declared.frac.Entry.{Entry}
use Rattle.cyc.specs.Frac.{value_of, is_listed, ArePairsDistinct}
use Rattle.cyc.proofs.EntryLemmas.{listed_same}
use Rattle.sepodd.specs.Folding.{is_over, turning, differ, is_odd, folded_crossing}
use Rattle.sepodd.proofs.ParityLemmas.{differ_none}
use Rattle.sepodd.proofs.ChoiceLemmas.{AreSmall, cost, count, chosen_odd, joins_turn, crosses_joined, folded_more, as_cheaper, as_turned}
use Rattle.sepodd.proofs.DegreeLemmas.{overs}

-- the choice at each crossing entry
abbrev pub IsChoice : (ℕ → Bool) → (ℕ → ℕ → Bool) → (Entry → Bool) → List Entry → Type 0
IsChoice p chosen turned es = AllByRecursion (λ e. crosses p (e.u, e.v) ≡ true → chosen e.u e.v ≡ differ (is_over e.x) (turned e)) es

parity_same : (c b o x y : Bool) → (c ≡ true → b ≡ o) → x ≡ y → differ (c && b) x ≡ differ (o && c) y
parity_same true b true x y h e = ap (λ i. differ i x) (h refl) ∙ ap not e
parity_same true b false x y h e = ap (λ i. differ i x) (h refl) ∙ e
parity_same false b true x y h e = e
parity_same false b false x y h e = e

count_case : (c b o : Bool) → (c ≡ true → b ≡ o) → cond {A = ℕ} (c && b) 1 0 ≤ cond {A = ℕ} o 1 0
count_case true b true h = rw (h refl) (omega arith)
count_case true b false h = rw (h refl) (omega arith)
count_case false b true h = omega arith
count_case false b false h = omega arith

-- where no entry is turned over
pub record IsCheaper (es : List Entry) (p : ℕ → Bool) (chosen : ℕ → ℕ → Bool) : Type 0 where
  pub weighs : cost es p chosen ≡ folded_crossing es p
  pub parity : chosen_odd es p chosen ≡ is_odd es p
  pub few : count es p chosen ≤ overs es

pub none_turned : (es : List Entry) (p : ℕ → Bool) (chosen : ℕ → ℕ → Bool) (turned : Entry → Bool) → AreSmall es → IsChoice p chosen turned es → AllByRecursion (λ e. turned e ≡ false) es → IsCheaper es p chosen
none_turned [] p chosen turned s c f = record { weighs = refl; parity = refl; few = omega arith }
none_turned (e ∷ es) p chosen turned s c f =
    let rest = none_turned es p chosen turned s.1 c.1 f.1 in
    let here : crosses p (e.u, e.v) ≡ true → chosen e.u e.v ≡ is_over e.x = λ h. c.0 h ∙ ap (λ b. differ (is_over e.x) b) f.0 ∙ differ_none (is_over e.x) in
    let at = as_cheaper p e (chosen e.u e.v) s.0 here in
    let more = folded_more es e p in
    let w = rest.weighs in
    let n = rest.few in
    let k = count_case (crosses p (e.u, e.v)) (chosen e.u e.v) (is_over e.x) here in
    record {
      weighs = omega (arith, at, more, w);
      parity = parity_same (crosses p (e.u, e.v)) (chosen e.u e.v) (is_over e.x) (chosen_odd es p chosen) (is_odd es p) here rest.parity;
      few = omega (arith, n, k);
    }

-- where the entry of one pair is
pub record IsTurned (es : List Entry) (p : ℕ → Bool) (chosen : ℕ → ℕ → Bool) (f : ℕ × ℕ) : Type 0 where
  pub weighs : cost es p chosen ≡ folded_crossing es p + turning (value_of es f.0 f.1)
  pub parity : chosen_odd es p chosen ≡ not (is_odd es p)
  pub few : count es p chosen ≤ overs es + 1

turned_parity : (b o x y : Bool) → b ≡ not o → x ≡ y → differ (true && b) x ≡ not (differ (o && true) y)
turned_parity b true true y h e = ap (λ i. differ i true) h ∙ ap (λ i. not (not i)) e
turned_parity b true false y h e = ap (λ i. differ i false) h ∙ ap (λ i. not (not i)) e
turned_parity b false x y h e = ap (λ i. differ i x) h ∙ ap not e

kept_parity : (c b o x y : Bool) → (c ≡ true → b ≡ o) → x ≡ not y → differ (c && b) x ≡ not (differ (o && c) y)
kept_parity true b true x true h e = ap (λ i. differ i x) (h refl) ∙ ap not e
kept_parity true b true x false h e = ap (λ i. differ i x) (h refl) ∙ ap not e
kept_parity true b false x y h e = ap (λ i. differ i x) (h refl) ∙ e
kept_parity false b true x y h e = e
kept_parity false b false x y h e = e

differ_on : (o t : Bool) → t ≡ true → differ o t ≡ not o
differ_on true true h = refl
differ_on false true h = refl
differ_on o false h = absurd (false≢true h)

or_off : (a b : Bool) → a ≡ false → (a || b) ≡ true → b ≡ true
or_off true b f h = absurd (false≢true (sym f))
or_off false b f h = h

count_one : (c b : Bool) → cond {A = ℕ} (c && b) 1 0 ≤ 1
count_one true true = omega arith
count_one true false = omega arith
count_one false b = omega arith

others_unturned : (es : List Entry) (f : ℕ × ℕ) → is_listed es f.0 f.1 ≡ false → AllByRecursion (λ e. joins e.u e.v f ≡ false) es
others_unturned [] f h = tt
others_unturned (e ∷ es) f h =
    let parts = or_parts (joins f.0 f.1 (e.u, e.v)) (is_listed es f.0 f.1) h in
    (joins_turn e.u e.v f.0 f.1 ∙ parts.0, others_unturned es f parts.1)

pub one_turned : (es : List Entry) (p : ℕ → Bool) (chosen : ℕ → ℕ → Bool) (f : ℕ × ℕ) → AreSmall es → ArePairsDistinct es → IsChoice p chosen (λ e. joins e.u e.v f) es → crosses p f ≡ true
    → is_listed es f.0 f.1 ≡ true → IsTurned es p chosen f
one_turned [] p chosen f s d c x l = absurd (false≢true l)
one_turned (e ∷ es) p chosen f s d c x l = ⊎_elim
    (λ (j : joins f.0 f.1 (e.u, e.v) ≡ true).
    let cross : crosses p (e.u, e.v) ≡ true = crosses_joined p f.0 f.1 e.u e.v j ∙ x in
    let here : chosen e.u e.v ≡ not (is_over e.x) = c.0 cross ∙ differ_on (is_over e.x) (joins e.u e.v f) (joins_turn e.u e.v f.0 f.1 ∙ j) in
    let rest = none_turned es p chosen (λ e. joins e.u e.v f) s.1 c.1 (others_unturned es f (listed_same es f.0 f.1 e.u e.v j ∙ d.0)) in
    let at = as_turned p e (chosen e.u e.v) s.0 cross here in
    let more = folded_more es e p in
    let w = rest.weighs in
    let n = rest.few in
    let k = count_one (crosses p (e.u, e.v)) (chosen e.u e.v) in
    let v : turning (value_of (e ∷ es) f.0 f.1) ≡ turning e.x = ap turning (cond-true (joins f.0 f.1 (e.u, e.v)) e.x (value_of es f.0 f.1) j) in
    record {
      weighs = omega (arith, at, more, w, v);
      parity =
          ap (λ i. differ (i && chosen e.u e.v) (chosen_odd es p chosen)) cross
          ∙ turned_parity (chosen e.u e.v) (is_over e.x) (chosen_odd es p chosen) (is_odd es p) here rest.parity
          ∙ ap (λ i. not (differ (is_over e.x && i) (is_odd es p))) (sym cross);
      few = omega (arith, n, k);
    })
    (λ (j : joins f.0 f.1 (e.u, e.v) ≡ false).
    let here : crosses p (e.u, e.v) ≡ true → chosen e.u e.v ≡ is_over e.x = λ h. c.0 h ∙ ap (λ b. differ (is_over e.x) b) (joins_turn e.u e.v f.0 f.1 ∙ j) ∙ differ_none (is_over e.x) in
    let rest = one_turned es p chosen f s.1 d.1 c.1 x (or_off (joins f.0 f.1 (e.u, e.v)) (is_listed es f.0 f.1) j l) in
    let at = as_cheaper p e (chosen e.u e.v) s.0 here in
    let more = folded_more es e p in
    let w = rest.weighs in
    let n = rest.few in
    let k = count_case (crosses p (e.u, e.v)) (chosen e.u e.v) (is_over e.x) here in
    let v : turning (value_of (e ∷ es) f.0 f.1) ≡ turning (value_of es f.0 f.1) = ap turning (cond-false (joins f.0 f.1 (e.u, e.v)) e.x (value_of es f.0 f.1) j) in
    record {
      weighs = omega (arith, at, more, w, v);
      parity = kept_parity (crosses p (e.u, e.v)) (chosen e.u e.v) (is_over e.x) (chosen_odd es p chosen) (is_odd es p) here rest.parity;
      few = omega (arith, n, k);
    })
    (cases_Bool (joins f.0 f.1 (e.u, e.v)))
