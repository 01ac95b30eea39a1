-- No odd cut weighs less than the best of the odd sides and of those with a pair turned over (Letchford, Reinelt and Theis 2008).
use Rattle.std.proofs.Common.{◌≡◌, ℕ, ◌+◌, ◌*◌, ◌<◌, ◌≤◌, Bool, true, false, List, [], ◌∷◌, pos, refl, sym, ap, ◌∙◌, arith, ⊎_elim}
use Rattle.std.specs.List.{AllByRecursion}
use Rattle.std.proofs.lemmas.Int.{ints}
use Rattle.std.proofs.lemmas.Bool.{cases_Bool, cases_eq}
use Rattle.tspdef.specs.Sets.{has}
use Rattle.tspdef.specs.Tours.{crosses, has_step}
use Rattle.tspdef.specs.Fixed.{AreRisingPairs}
use Rattle.cyc.specs.declared.frac.Entry.{Entry}
use Rattle.cyc.specs.Frac.{Values, AreEntries}
use Rattle.maxflow.specs.Crossings.{crossing}
use Rattle.maxflow.proofs.CrossingLemmas.{weight_by_entries}
use Rattle.sepodd.specs.Folding.{one, differ, is_odd, folded_crossing, turning}
use Rattle.sepodd.specs.Odd.{odd_weight, IsBelowAll}
use Rattle.sepodd.specs.Sides.{IsBelowOdd, IsBelowTurned}
use Rattle.sepodd.proofs.ChoiceLemmas.{AreSmall, cost, chosen_odd, unlisted, pairs_cost, pairs_count, rising_are_distinct, odd_by_count, folded_less, turned_bound}

-- the weight of an odd cut, entry by entry
pub weight_is_cost : (x : Values) (handle : List ℕ) (ps : List (ℕ × ℕ)) (p : ℕ → Bool) → AreEntries x.n x.entries → AreSmall x.entries
    → AllByRecursion (λ q. (q.0 < q.1) × (q.1 < x.n)) ps → AllByRecursion (λ q. crosses p q ≡ true) ps → (is : crossing x.entries (has handle) ≡ crossing x.entries p)
    → AreRisingPairs ps → odd_weight x handle ps ≡ pos (cost x.entries p (has_step ps) + one * unlisted x.entries ps)
weight_is_cost x handle ps p a s below crossed is rising =
    let c = pairs_cost x.entries p ps a.distinct s (rising_are_distinct x.n ps below rising) crossed in
    let w = weight_by_entries x (has handle) a in
    omega (arith, ints, c, w, is)

some_turned : (es : List Entry) (p : ℕ → Bool) (w : ℕ) (folded : ℕ) → folded ≡ folded_crossing es p → (all : List Entry)
    → AllByRecursion (λ e. (q : ℕ → Bool) → crosses q (e.u, e.v) ≡ true → w ≤ folded_crossing es q + turning e.x) all
    → AllByRecursion (λ e. crosses p (e.u, e.v) ≡ true → w ≤ folded + turning e.x) all
some_turned es p w folded is [] a = tt
some_turned es p w folded is (e ∷ all) a = (λ c. let z = a.0 p c in omega (arith, z, is), some_turned es p w folded is all a.1)

turned_differ : (b : Bool) → b ≡ false → differ true b ≡ true
turned_differ true h = sym h
turned_differ false h = refl

pub below_all : (x : Values) (w : ℕ) → AreEntries x.n x.entries → AreSmall x.entries → w ≤ one → IsBelowOdd x (λ k. k) w → AllByRecursion (λ e. IsBelowTurned x e w) x.entries → IsBelowAll x w
below_all x w a s most odd turned handle ps is =
    let es = x.entries in
    let p = has handle in
    let weight = weight_is_cost x handle ps p a s is.below is.crossed refl is.rising in
    let n = pairs_count es p ps a.distinct (rising_are_distinct x.n ps is.below is.rising) is.crossed in
    ⊎_elim
    (λ (none : unlisted es ps ≡ 0).
    let number = is.odd in
    let chosen : chosen_odd es p (has_step ps) ≡ true = odd_by_count es p (has_step ps) (omega (arith, n, none, number)) in
    let less : w ≤ cost es p (has_step ps) = ⊎_elim
    (λ (o : is_odd es p ≡ true). let z = odd p o in let y = folded_less es p (has_step ps) in omega (arith, z, y))
    (λ (o : is_odd es p ≡ false).
    let z = turned_bound es p (has_step ps) w (folded_crossing es p) s (some_turned es p w (folded_crossing es p) refl es turned) (ap (λ b. differ b (is_odd es p)) chosen ∙ turned_differ (is_odd es p) o) in
    omega (arith, z))
    (cases_Bool (is_odd es p)) in
    omega (arith, ints, weight, less))
    (λ (some : unlisted es ps ≡ 0 → ⊥). omega (arith, ints, weight, most, some))
    (cases_eq (unlisted es ps) 0)
