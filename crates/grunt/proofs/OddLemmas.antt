-- Odd cuts that values violate by less than 2^10 units, and values cut down to one length.
use Rattle.std.proofs.Common.{◌≡◌, ℕ, ◌^◌, ◌≤◌, ◌==◌, ◌&&◌, min, Bool, true, false, List, [], ◌∷◌, ℤ, int_le, pos, ◌<ℤ◌, refl, ap, subst, arith}
use Rattle.std.proofs.lemmas.Bool.Decides.{nat_tests}
use Rattle.std.proofs.lemmas.Int.{ints}
use Rattle.std.specs.List.{AllByRecursion}
use Rattle.tspdef.specs.Bounds.{violation}
use Rattle.tspdef.specs.Cuts.{cities_of}
use Rattle.cyc.specs.declared.frac.Entry.{Entry}
use Rattle.cyc.specs.Frac.{Values, value_of, is_listed, IsEntry, ArePairsDistinct, AreEntries}
use Rattle.cutpool.specs.Pool.{is_worth, misses}
use Rattle.sepodd.specs.Odd.{IsLeastOdd}
use Rattle.sepodd.specs.declared.OddCut.{OddCut}
use Rattle.grunt.specs.Odds.{lowered_entries, at_most_one}

above : (a b : ℤ) → int_le a b ≡ false → b <ℤ a
above a b e = omega (arith, ints, e)

second : (p q : Bool) → p ≡ true → (p && q) ≡ false → q ≡ false
second p q e f = subst (λ b. (b && q) ≡ false) e f

same_test : (m n : ℕ) → m ≡ n → (m == n) ≡ true
same_test m n e = grind (arith, nat_tests)

pub hardly_violated : (x : Values) (o : OddCut) → IsLeastOdd (at_most_one x) o → is_worth x o.cut ≡ false → violation (value_of x.entries) x.n o.cut <ℤ pos (2 ^ 10)
hardly_violated x o least w =
    let e : cities_of o.cut ≡ x.n = ap cities_of least.is_cut in
    let m : misses x o.cut ≡ false = second (cities_of o.cut == x.n) (misses x o.cut) (same_test (cities_of o.cut) x.n e) w in
    above (pos (2 ^ 10)) (violation (value_of x.entries) x.n o.cut) m

-- ---- lowered entries are entries

listed_lowered : (es : List Entry) (u v : ℕ) → is_listed (lowered_entries es) u v ≡ is_listed es u v
listed_lowered [] u v = refl
listed_lowered (e ∷ es) u v = let ih = listed_lowered es u v in rw ih refl

distinct_lowered : (es : List Entry) → ArePairsDistinct es → ArePairsDistinct (lowered_entries es)
distinct_lowered [] d = tt
distinct_lowered (e ∷ es) d = (let z = listed_lowered es e.u e.v in rw z d.0, distinct_lowered es d.1)

lowered_small : (x : ℕ) → min x 1048576 ≤ 2 ^ 30
lowered_small x = omega arith

each_lowered : (n : ℕ) (es : List Entry) → AllByRecursion (IsEntry n) es → AllByRecursion (IsEntry n) (lowered_entries es)
each_lowered n [] a = tt
each_lowered n (e ∷ es) a = (record { u_below = a.0.u_below; v_below = a.0.v_below; apart = a.0.apart; small = lowered_small e.x }, each_lowered n es a.1)

pub lowered_are_entries : (n : ℕ) (es : List Entry) → AreEntries n es → AreEntries n (lowered_entries es)
lowered_are_entries n es a = record { each = each_lowered n es a.each; distinct = distinct_lowered es a.distinct }
