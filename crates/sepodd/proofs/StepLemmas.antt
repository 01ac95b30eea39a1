-- The steps that part odd sets: what a flow found, and the groups that are left.
use Rattle.std.proofs.Common.{◌≡◌, ℕ, ◌<◌, ◌≤◌, Bool, true, false, not, cond, ◌==◌, List, length, slice_index, pos, refl, sym, ap, ◌∙◌, subst, arith, ⊎_elim}
use Rattle.std.specs.List.{AllByRecursion}
use Rattle.std.proofs.lemmas.Int.{ints}
use Rattle.std.proofs.lemmas.Bool.{cases_eq, cases_lt, false≢true, cond_both, ne_eqb}
use Rattle.tspdef.specs.Sets.{has}
use Rattle.cyc.specs.Frac.{Values, IsEntry, AreEntries}
use Rattle.maxflow.specs.Crossings.{crossing_weight, crossing}
use Rattle.maxflow.specs.Flows.{is_stop, LacksStops, IsBelowAll, IsLeastFlow}
use Rattle.maxflow.specs.declared.LeastSide.{LeastSide}
use Rattle.maxflow.proofs.CrossingLemmas.{weight_by_entries}
use Rattle.sepodd.specs.Folding.{differ, is_odd, folded_entries, folded_crossing, joined}
use Rattle.sepodd.specs.Sides.{is_marked, IsBelowOdd, IsBelowParting, IsEvenLeast, AreGroups}
use Rattle.sepodd.proofs.ParityLemmas.{odd_same, odd_none, odd_not}
use Rattle.sepodd.proofs.SubmodularLemmas.{folded_are_entries}
use Rattle.sepodd.proofs.UncrossingLemmas.{none_odd}
use Rattle.sepodd.proofs.GroupLemmas.{weight_same, least_through, merged_least, merged_odd, joined_odd, split_least}

-- a lesser weight is below too
pub parting_less : (x : Values) (number : ℕ → ℕ) (s t old new : ℕ) → new ≤ old → IsBelowParting x number s t old → IsBelowParting x number s t new
parting_less x number s t old new l below p holds lacks = let z = below p holds lacks in omega (arith, z, l)

module _ (x folded w : Values) (numbers : List ℕ) (size : folded.n ≡ x.n) (entries : folded.entries ≡ folded_entries x.entries) (all : AreEntries x.n x.entries)
    (weights : (p : ℕ → Bool) → crossing_weight folded (λ k. p (slice_index numbers k)) ≡ pos (crossing w.entries p)) where
  -- the network's crossing weight of groups is that of their union
  pub union_weight : (p : ℕ → Bool) → crossing w.entries p ≡ folded_crossing x.entries (λ k. p (slice_index numbers k))
  union_weight p =
      let q : ℕ → Bool = λ k. p (slice_index numbers k) in
      let a = weights p in
      let b = weight_by_entries folded q (subst (λ n. AreEntries n folded.entries) (sym size) (subst (λ es. AreEntries x.n es) (sym entries) (folded_are_entries x.n x.entries all))) in
      let c : crossing folded.entries q ≡ folded_crossing x.entries q = ap (λ es. crossing es q) entries in
      omega (arith, ints, a, b, c)

  module _ (s t : ℕ) (stops : List Bool) (others : (k : ℕ) → (k ≡ t → ⊥) → is_stop stops k ≡ false) where
    lacks_stops : (p : ℕ → Bool) → p t ≡ false → LacksStops w.n stops p
    lacks_stops p lacks k h stop = ⊎_elim
        (λ (e : k ≡ t). ap p e ∙ lacks)
        (λ (ne : k ≡ t → ⊥). absurd (false≢true (sym (others k ne) ∙ stop)))
        (cases_eq k t)

    pub below_parting : (limit : ℕ) → IsBelowAll w s stops limit → IsBelowParting x (slice_index numbers) s t limit
    below_parting limit below p holds lacks = subst (λ v. limit ≤ v) (union_weight p) (below p holds (lacks_stops p lacks))

    -- what the side of a flow is, once its groups are marked, and then their cities
    module _ (cities : w.n ≡ x.n) (few : (k : ℕ) → k < x.n → slice_index numbers k < x.n) (here : is_stop stops t ≡ true) (first : s < x.n) (second : t < x.n)
        (f : LeastSide) (flow : IsLeastFlow w s stops f) (members side : List Bool) (member : (k : ℕ) → k < x.n → is_marked members k ≡ has f.side.cities k)
        (marks : (k : ℕ) → k < x.n → is_marked side k ≡ is_marked members (slice_index numbers k)) where
      pub side_odd : is_odd x.entries (is_marked side) ≡ is_odd x.entries (λ k. is_marked members (slice_index numbers k))
      side_odd = odd_same x.n x.entries (is_marked side) (λ k. is_marked members (slice_index numbers k)) all.each marks

      members_weight : folded_crossing x.entries (λ k. is_marked members (slice_index numbers k)) ≡ f.value
      members_weight =
          weight_same x.n x.entries all.each (λ k. is_marked members (slice_index numbers k)) (λ k. has f.side.cities (slice_index numbers k)) (λ k h. member (slice_index numbers k) (few k h))
          ∙ sym (union_weight (has f.side.cities)) ∙ flow.crossed

      pub side_weight : folded_crossing x.entries (is_marked side) ≡ f.value
      side_weight = weight_same x.n x.entries all.each (is_marked side) (λ k. is_marked members (slice_index numbers k)) marks ∙ members_weight

      pub even_least : is_odd x.entries (is_marked side) ≡ false → IsEvenLeast x (slice_index numbers) s t (is_marked members)
      even_least even = record {
        holds = member s first ∙ flow.holds;
        lacks = member t second ∙ flow.lacks t (let e = cities in omega (arith, e, second)) here;
        even = sym side_odd ∙ even;
        least = λ p holds lacks. let z = below_parting f.value flow.least p holds lacks in let e = members_weight in omega (arith, z, e);
      }

-- ---- the groups that are left

marks_case : (b c : Bool) → not (differ b c) ≡ false → differ b (not c) ≡ false
marks_case true true h = absurd (false≢true (sym h))
marks_case true false h = refl
marks_case false true h = refl
marks_case false false h = absurd (false≢true (sym h))

differ_off : (b : Bool) → b ≡ false → differ b false ≡ false
differ_off true h = absurd (false≢true (sym h))
differ_off false h = refl

joined_below : (n : ℕ) (kind : ℕ → Bool) (to g : ℕ) → to < n → g < n → joined kind to g < n
joined_below n kind to g a b = cond_both (kind g) to g (λ v. v < n) (λ h. a) (λ h. b)

pub groups_merged : (x : Values) (numbers groups now rest : List ℕ) (s t : ℕ) (stops : List Bool) → AllByRecursion (IsEntry x.n) x.entries → AreGroups x numbers groups
    → has groups s ≡ true → has groups t ≡ true → (s ≡ t → ⊥) → ((k : ℕ) → (k ≡ t → ⊥) → is_stop stops k ≡ false)
    → length now ≡ length numbers → ((k : ℕ) → k < length numbers → slice_index now k ≡ joined (λ g. g == t) s (slice_index numbers k))
    → ((g : ℕ) → has groups g ≡ true → differ (is_marked stops g) false ≡ false → has rest g ≡ true) → ((g : ℕ) → has rest g ≡ true → has groups g ≡ true) → AreGroups x now rest
groups_merged x numbers groups now rest s t stops all old has_s has_t apart others size each kept known =
    let step : (k : ℕ) → k < x.n → slice_index now k ≡ joined (λ g. g == t) s (slice_index numbers k) = λ k h. each k (let e = old.size in omega (arith, e, h)) in
    record {
      size = size ∙ old.size;
      below = λ k h. subst (λ v. v < x.n) (sym (step k h)) (joined_below x.n (λ g. g == t) s (slice_index numbers k) (old.known s has_s) (old.below k h));
      known = λ g h. old.known g (known g h);
      odd = λ g o.
          let m = merged_odd x.n x.entries all (slice_index numbers) (slice_index now) s t step apart g o in
          kept g (⊎_elim (λ (e : g ≡ s). ap (has groups) e ∙ has_s) (λ z. old.odd g z) m.1) (differ_off (is_marked stops g) (others g m.0));
    }

pub groups_joined : (x : Values) (numbers groups now rest : List ℕ) (side : List Bool) (marked : Bool) (to : ℕ) → AllByRecursion (IsEntry x.n) x.entries → AreGroups x numbers groups
    → to < x.n → not (differ (is_marked side to) marked) ≡ true → is_odd x.entries (λ k. not (differ (is_marked side (slice_index numbers k)) marked)) ≡ false
    → length now ≡ length numbers → ((k : ℕ) → k < length numbers → slice_index now k ≡ joined (λ g. not (differ (is_marked side g) marked)) to (slice_index numbers k))
    → ((g : ℕ) → has groups g ≡ true → differ (is_marked side g) (not marked) ≡ false → has rest g ≡ true) → ((g : ℕ) → has rest g ≡ true → has groups g ≡ true) → AreGroups x now rest
groups_joined x numbers groups now rest side marked to all old below home even size each kept known =
    let kind : ℕ → Bool = λ g. not (differ (is_marked side g) marked) in
    let step : (k : ℕ) → k < x.n → slice_index now k ≡ joined kind to (slice_index numbers k) = λ k h. each k (let e = old.size in omega (arith, e, h)) in
    record {
      size = size ∙ old.size;
      below = λ k h. subst (λ v. v < x.n) (sym (step k h)) (joined_below x.n kind to (slice_index numbers k) below (old.below k h));
      known = λ g h. old.known g (known g h);
      odd = λ g o.
          let m = joined_odd x.n x.entries all (slice_index numbers) (slice_index now) kind to step home even g o in
          kept g (old.odd g m.1) (marks_case (is_marked side g) marked m.0);
    }

-- without two odd groups no union is odd
pub none_below : (x : Values) (numbers groups : List ℕ) (w : ℕ) → AllByRecursion (IsEntry x.n) x.entries → AreGroups x numbers groups
    → ((g h : ℕ) → has groups g ≡ true → has groups h ≡ true → g ≡ h) → IsBelowOdd x (slice_index numbers) w
none_below x numbers groups w all old alone p o =
    absurd (none_odd x.n x.entries (slice_index numbers) all p old.below (λ g h a b. alone g h (old.odd g a) (old.odd h b)) o)

-- the cities alone are groups
pub groups_alone : (x : Values) (numbers groups : List ℕ) → AllByRecursion (IsEntry x.n) x.entries → length numbers ≡ x.n → ((k : ℕ) → k < x.n → slice_index numbers k ≡ k)
    → ((k : ℕ) → k < x.n → has groups k ≡ is_odd x.entries (λ j. j == k)) → ((k : ℕ) → x.n ≤ k → has groups k ≡ false) → AreGroups x numbers groups
groups_alone x numbers groups all size each odd past = record {
  size = size;
  below = λ k h. subst (λ v. v < x.n) (sym (each k h)) h;
  known = λ g h. ⊎_elim (λ (l : g < x.n). l) (λ (l : x.n ≤ g). absurd (false≢true (sym (past g l) ∙ h))) (cases_lt g x.n);
  odd = λ g o. ⊎_elim
      (λ (l : g < x.n). odd g l ∙ odd_same x.n x.entries (λ j. j == g) (λ k. slice_index numbers k == g) all (λ k h. ap (λ j. j == g) (sym (each k h))) ∙ o)
      (λ (l : x.n ≤ g). absurd (false≢true (sym (odd_none x.n x.entries (λ k. slice_index numbers k == g) all
      (λ k h. ne_eqb (slice_index numbers k) g (λ e. let z = each k h in omega (arith, e, z, h, l)))) ∙ o)))
      (cases_lt g x.n);
}

pub below_alone : (x : Values) (numbers : List ℕ) (w : ℕ) → AllByRecursion (IsEntry x.n) x.entries → ((k : ℕ) → k < x.n → slice_index numbers k ≡ k)
    → IsBelowOdd x (slice_index numbers) w → IsBelowOdd x (λ k. k) w
below_alone x numbers w all each least p o = least_through x.n x.entries all (λ k. k) (slice_index numbers) w least p (λ k h. ap p (each k h)) o

-- ---- what is found

pub merged_below : (x : Values) (numbers now : List ℕ) (s t old new : ℕ) → AllByRecursion (IsEntry x.n) x.entries → length numbers ≡ x.n
    → ((k : ℕ) → k < length numbers → slice_index now k ≡ joined (λ g. g == t) s (slice_index numbers k)) → IsBelowParting x (slice_index numbers) s t old → new ≤ old
    → IsBelowOdd x (slice_index now) new → IsBelowOdd x (slice_index numbers) new
merged_below x numbers now s t old new all size each parting less least =
    merged_least x.n x.entries all (slice_index numbers) (slice_index now) s t (λ k h. each k (omega (arith, size, h))) old new less parting least

differ_none_case : (b : Bool) → not (differ b false) ≡ not b
differ_none_case true = refl
differ_none_case false = refl

differ_all_case : (b : Bool) → not (differ b true) ≡ b
differ_all_case true = refl
differ_all_case false = refl

pub split_below : (x : Values) (numbers inner outer : List ℕ) (side : List Bool) (s t first last : ℕ) → AllByRecursion (IsEntry x.n) x.entries → length numbers ≡ x.n
    → IsEvenLeast x (slice_index numbers) s t (is_marked side)
    → ((k : ℕ) → k < length numbers → slice_index inner k ≡ joined (λ g. not (differ (is_marked side g) false)) t (slice_index numbers k))
    → ((k : ℕ) → k < length numbers → slice_index outer k ≡ joined (λ g. not (differ (is_marked side g) true)) s (slice_index numbers k))
    → IsBelowOdd x (slice_index inner) first → last ≤ first → IsBelowOdd x (slice_index outer) last → IsBelowOdd x (slice_index numbers) last
split_below x numbers inner outer side s t first last all size even each_inner each_outer one less other =
    split_least x.n x.entries all (slice_index numbers) (slice_index inner) (slice_index outer) (is_marked side) s t first last even.holds even.lacks even.even even.least
    (λ k h. each_inner k (omega (arith, size, h)) ∙ ap (λ b. cond b t (slice_index numbers k)) (differ_none_case (is_marked side (slice_index numbers k))))
    (λ k h. each_outer k (omega (arith, size, h)) ∙ ap (λ b. cond b s (slice_index numbers k)) (differ_all_case (is_marked side (slice_index numbers k))))
    one less other

-- the other groups of an even set are even together
pub even_others : (x : Values) (numbers : List ℕ) (side : List Bool) (s t : ℕ) → AllByRecursion (IsEntry x.n) x.entries → IsEvenLeast x (slice_index numbers) s t (is_marked side)
    → is_odd x.entries (λ k. not (differ (is_marked side (slice_index numbers k)) false)) ≡ false
even_others x numbers side s t all even =
    odd_same x.n x.entries (λ k. not (differ (is_marked side (slice_index numbers k)) false)) (λ k. not (is_marked side (slice_index numbers k))) all (λ k h. differ_none_case (is_marked side (slice_index numbers k)))
    ∙ odd_not x.entries (λ k. is_marked side (slice_index numbers k)) ∙ even.even

pub even_members : (x : Values) (numbers : List ℕ) (side : List Bool) (s t : ℕ) → AllByRecursion (IsEntry x.n) x.entries → IsEvenLeast x (slice_index numbers) s t (is_marked side)
    → is_odd x.entries (λ k. not (differ (is_marked side (slice_index numbers k)) true)) ≡ false
even_members x numbers side s t all even =
    odd_same x.n x.entries (λ k. not (differ (is_marked side (slice_index numbers k)) true)) (λ k. is_marked side (slice_index numbers k)) all (λ k h. differ_all_case (is_marked side (slice_index numbers k)))
    ∙ even.even

pub home_others : (b : Bool) → b ≡ false → not (differ b false) ≡ true
home_others true h = absurd (false≢true (sym h))
home_others false h = refl

pub home_members : (b : Bool) → b ≡ true → not (differ b true) ≡ true
home_members true h = refl
home_members false h = absurd (false≢true h)
