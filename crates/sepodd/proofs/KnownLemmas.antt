-- Entries and what is told of their pairs.
use Rattle.std.proofs.Common.{◌≡◌, ℕ, true, false, List, [], ◌∷◌, sym, ◌∙◌, ⊎_elim}
use Rattle.std.specs.List.{AllByRecursion}
use Rattle.std.proofs.lemmas.Bool.{cases_Bool, false≢true, cond-true, cond-false, or_left, or_right}
use Rattle.std.proofs.lemmas.Bool.Decides.{nat_tests}
use Rattle.std.proofs.Common.{arith}
use Rattle.tspdef.specs.Tours.{joins}
use Rattle.cyc.specs.declared.frac.Entry.{Entry}
use Rattle.cyc.specs.Frac.{Values, value_of, is_listed, IsEntry, ArePairsDistinct, AreEntries}
use Rattle.cyc.proofs.EntryLemmas.{listed_same}
use Rattle.sepodd.proofs.ChoiceLemmas.{AreSmall}
use Rattle.sepodd.specs.Sides.{IsKnown}

joins_self : (u v : ℕ) → joins u v (u, v) ≡ true
joins_self u v = grind (arith, nat_tests)

-- the pair of an entry has its value
pub record IsTold (es : List Entry) (e : Entry) : Type 0 where
  pub listed : is_listed es e.u e.v ≡ true
  pub value : value_of es e.u e.v ≡ e.x

told_more : (f : Entry) (es rest : List Entry) → is_listed es f.u f.v ≡ false → AllByRecursion (IsTold es) rest → AllByRecursion (IsTold (f ∷ es)) rest
told_more f es [] fresh a = tt
told_more f es (e ∷ rest) fresh a = (
  ⊎_elim
      (λ (j : joins e.u e.v (f.u, f.v) ≡ true). absurd (false≢true (sym (listed_same es e.u e.v f.u f.v j ∙ fresh) ∙ a.0.listed)))
      (λ (j : joins e.u e.v (f.u, f.v) ≡ false). record {
        listed = or_right (joins e.u e.v (f.u, f.v)) (is_listed es e.u e.v) a.0.listed;
        value = cond-false (joins e.u e.v (f.u, f.v)) f.x (value_of es e.u e.v) j ∙ a.0.value;
      })
      (cases_Bool (joins e.u e.v (f.u, f.v))),
  told_more f es rest fresh a.1,
)

pub all_told : (es : List Entry) → ArePairsDistinct es → AllByRecursion (IsTold es) es
all_told [] d = tt
all_told (e ∷ es) d = (
  record {
    listed = or_left (joins e.u e.v (e.u, e.v)) (is_listed es e.u e.v) (joins_self e.u e.v);
    value = cond-true (joins e.u e.v (e.u, e.v)) e.x (value_of es e.u e.v) (joins_self e.u e.v);
  },
  told_more e es es d.0 (all_told es d.1),
)

known_from : (x : Values) (es : List Entry) → AllByRecursion (IsEntry x.n) es → AreSmall es → AllByRecursion (IsTold x.entries) es → AllByRecursion (IsKnown x) es
known_from x [] a s t = tt
known_from x (e ∷ es) a s t = (record { u_below = a.0.u_below; v_below = a.0.v_below; apart = a.0.apart; small = s.0; listed = t.0.listed; value = t.0.value }, known_from x es a.1 s.1 t.1)

pub entries_known : (x : Values) → AreEntries x.n x.entries → AreSmall x.entries → AllByRecursion (IsKnown x) x.entries
entries_known x a s = known_from x x.entries a.each s (all_told x.entries a.distinct)
