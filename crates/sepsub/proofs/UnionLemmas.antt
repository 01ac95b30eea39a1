-- Groups by number, and sets of groups as sets of cities.
use Rattle.std.proofs.Common.{◌≡◌, ℕ, zero, suc, ◌+◌, ◌<◌, ◌≤◌, ◌⊎◌, Bool, true, false, not, cond, ◌==◌, List, [], ◌∷◌, ◌++◌, length, get_or, pos, inl, inr, refl, sym, ◌∙◌, ap, subst, arith, ⊎_elim}
use Rattle.std.specs.Prelude.{◌≤ℤ◌}
use Rattle.std.specs.List.{All}
use Rattle.std.proofs.Math.Seq.{get_or-append_seam}
use Rattle.std.proofs.lemmas.Int.{ints}
use Rattle.std.proofs.lemmas.List.Elements.{All-append}
use Rattle.std.proofs.lemmas.Bool.{cases_Bool, cases_eq, cond-true, cond-false, eq-eqb, ne_eqb}
use Rattle.std.proofs.lemmas.List.{get_or_append_left, length-append}
use Rattle.tspdef.specs.Sets.{has, IsSet, IsProper}
use Rattle.tspdef.proofs.CrossingLemmas.{within_rising}
use Rattle.cyc.specs.CitySet.{Members}
use Rattle.cyc.specs.Frac.{Values, AreEntries}
use Rattle.maxflow.specs.declared.shrinking.Shrunk.{Shrunk}
use Rattle.maxflow.specs.Crossings.{crossing_weight, crossing}
use Rattle.maxflow.specs.Shrinking.{AreGroups, in_group, IsFirst, IsSome, IsMatched, IsWeighed, IsShrinking}
use Rattle.maxflow.proofs.CrossingLemmas.{weight_by_entries}
use Rattle.maxflow.proofs.ShrinkLemmas.{crossing_within, flipped}
use Rattle.sepsub.specs.declared.LeastSet.{LeastSet}
use Rattle.sepsub.specs.declared.growth.Found.{Found}
use Rattle.sepsub.specs.declared.groups.Numbered.{Numbered}
use Rattle.sepsub.specs.Growth.{IsLight, IsAway, IsFoundOfAll}
use Rattle.sepsub.specs.Grouping.{IsNumberOf, IsFirstOf, IsNumbered, IsJoined, IsAlone, IsWithCity, IsTurned, IsLeastUnion, IsMapped, IsGroupNetwork}
use Rattle.sepsub.specs.LeastSets.{IsLeastSet, IsViolated}
use Rattle.sepsub.proofs.SetLemmas.{first_in, lacking, proper_from}
use Rattle.sepsub.proofs.WeightLemmas.{weight_turned}

-- ---- one city more

before_last : (xs ys : List ℕ) (y j : ℕ) → ys ≡ xs ++ y ∷ [] → j < length xs → get_or ys j 0 ≡ get_or xs j 0
before_last xs ys y j e h = ap (λ v. get_or v j 0) e ∙ get_or_append_left xs (y ∷ []) 0 j h

at_last : (xs ys : List ℕ) (y j : ℕ) → ys ≡ xs ++ y ∷ [] → j ≡ length xs → get_or ys j 0 ≡ y
at_last xs ys y j e h = ap (λ v. get_or v j 0) e ∙ ap (λ i. get_or (xs ++ y ∷ []) i 0) h ∙ get_or-append_seam xs y [] 0

one_longer : (xs ys : List ℕ) (y : ℕ) → ys ≡ xs ++ y ∷ [] → length ys ≡ length xs + 1
one_longer xs ys y e = ap (λ (v : List ℕ). length v) e ∙ length-append xs (y ∷ [])

joined_to : (k group : ℕ) (groups : List ℕ) (old g : Numbered) → IsNumbered k groups old → group ≡ get_or groups k 0 → get_or groups group 0 ≡ group → group < k → IsJoined old group g
    → IsNumbered (k + 1) groups g
joined_to k group groups old g a at own before j =
    let size = a.size in
    let old_at : (i : ℕ) → i < k → get_or g.numbers.items i 0 ≡ get_or old.numbers.items i 0 =
    λ i h. before_last old.numbers.items g.numbers.items (get_or old.numbers.items group 0) i j.numbers (omega (arith, h, size)) in
    let new_at : get_or g.numbers.items k 0 ≡ get_or old.numbers.items group 0 = at_last old.numbers.items g.numbers.items (get_or old.numbers.items group 0) k j.numbers (sym size) in
    let same : length g.firsts.items ≡ length old.firsts.items = ap (λ (v : List ℕ). length v) j.firsts in
    record {
      size = (let l = one_longer old.numbers.items g.numbers.items (get_or old.numbers.items group 0) j.numbers in omega (arith, l, size));
      few = (let f = a.few in omega (arith, f, same));
      each = λ i h. ⊎_elim
          (λ (e : i ≡ k). subst (λ i. IsNumberOf groups g i) (sym e) (record {
            below = (let b = (a.each group before).below in omega (arith, b, new_at, same));
            first = ap (λ v. get_or v (get_or g.numbers.items k 0) 0) j.firsts ∙ ap (λ m. get_or old.firsts.items m 0) new_at ∙ (a.each group before).first ∙ own ∙ at;
          }))
          (λ (ne : i ≡ k → ⊥).
          let below : i < k = omega (arith, h, ne) in
          let o = old_at i below in
          record {
            below = (let b = (a.each i below).below in omega (arith, b, o, same));
            first = ap (λ v. get_or v (get_or g.numbers.items i 0) 0) j.firsts ∙ ap (λ m. get_or old.firsts.items m 0) o ∙ (a.each i below).first;
          })
          (cases_eq i k);
      firsts = λ i h.
          let b : i < length old.firsts.items = omega (arith, h, same) in
          let f = a.firsts i b in
          let e : get_or g.firsts.items i 0 ≡ get_or old.firsts.items i 0 = ap (λ v. get_or v i 0) j.firsts in
          record {
            below = (let l = f.below in omega (arith, l, e));
            number = ap (λ m. get_or g.numbers.items m 0) e ∙ old_at (get_or old.firsts.items i 0) f.below ∙ f.number;
          };
    }

alone_as : (k group : ℕ) (groups : List ℕ) (old g : Numbered) → IsNumbered k groups old → group ≡ get_or groups k 0 → group ≡ k → IsAlone old k g → IsNumbered (k + 1) groups g
alone_as k group groups old g a at own j =
    let size = a.size in
    let m = length old.firsts.items in
    let old_at : (i : ℕ) → i < k → get_or g.numbers.items i 0 ≡ get_or old.numbers.items i 0 =
    λ i h. before_last old.numbers.items g.numbers.items m i j.numbers (omega (arith, h, size)) in
    let new_at : get_or g.numbers.items k 0 ≡ m = at_last old.numbers.items g.numbers.items m k j.numbers (sym size) in
    let first_at : (i : ℕ) → i < m → get_or g.firsts.items i 0 ≡ get_or old.firsts.items i 0 = λ i h. before_last old.firsts.items g.firsts.items k i j.firsts h in
    let first_new : get_or g.firsts.items m 0 ≡ k = at_last old.firsts.items g.firsts.items k m j.firsts refl in
    let longer : length g.firsts.items ≡ m + 1 = one_longer old.firsts.items g.firsts.items k j.firsts in
    record {
      size = (let l = one_longer old.numbers.items g.numbers.items m j.numbers in omega (arith, l, size));
      few = (let f = a.few in omega (arith, f, longer));
      each = λ i h. ⊎_elim
          (λ (e : i ≡ k). subst (λ i. IsNumberOf groups g i) (sym e) (record {
            below = omega (arith, new_at, longer);
            first = ap (λ i. get_or g.firsts.items i 0) new_at ∙ first_new ∙ sym own ∙ at;
          }))
          (λ (ne : i ≡ k → ⊥).
          let below : i < k = omega (arith, h, ne) in
          let o = old_at i below in
          let b = (a.each i below).below in
          record {
            below = omega (arith, b, o, longer);
            first = ap (λ i. get_or g.firsts.items i 0) o ∙ first_at (get_or old.numbers.items i 0) b ∙ (a.each i below).first;
          })
          (cases_eq i k);
      firsts = λ i h. ⊎_elim
          (λ (e : i ≡ m). subst (λ i. IsFirstOf (k + 1) g i) (sym e) (record {
            below = omega (arith, first_new);
            number = ap (λ i. get_or g.numbers.items i 0) first_new ∙ new_at;
          }))
          (λ (ne : i ≡ m → ⊥).
          let b : i < m = omega (arith, h, ne, longer) in
          let f = a.firsts i b in
          let e = first_at i b in
          record {
            below = (let l = f.below in omega (arith, l, e));
            number = ap (λ i. get_or g.numbers.items i 0) e ∙ old_at (get_or old.firsts.items i 0) f.below ∙ f.number;
          })
          (cases_eq i m);
    }

pub numbered_on : (n k group : ℕ) (groups : List ℕ) (old g : Numbered) → AreGroups n groups → k < n → IsNumbered k groups old → group ≡ get_or groups k 0 → IsWithCity old k group g → IsNumbered (k + 1) groups g
numbered_on n k group groups old g all h a at = ⊎_elim
    (λ (w : (group < k) × IsJoined old group g). joined_to k group groups old g a at (ap (λ i. get_or groups i 0) at ∙ all.own k h ∙ sym at) w.0 w.1)
    (λ (w : (k ≤ group) × IsAlone old k g). alone_as k group groups old g a at (let l = all.least k h in let b = w.0 in omega (arith, l, at, b)) w.1)

pub numbered_none : (groups : List ℕ) (g : Numbered) → g.numbers.items ≡ [] → g.firsts.items ≡ [] → IsNumbered 0 groups g
numbered_none groups g a b =
    let l : length g.firsts.items ≡ 0 = ap (λ (v : List ℕ). length v) b in
    record {
      size = ap (λ (v : List ℕ). length v) a;
      few = omega (arith, l);
      each = λ k h. absurd (omega (arith, h));
      firsts = λ j h. absurd (omega (arith, h, l));
    }

-- ---- unions of groups

-- of two groups at most the first is as heavy as any union
pub least_of_two : (x : Values) (s : Shrunk) (g : Numbered) → AreEntries x.n x.entries → IsShrinking x.n x.entries s → IsNumbered x.n s.groups.items g → length g.firsts.items < 3 → IsLeastUnion x s.groups.items s.best
least_of_two x s g entries shrunk numbered few = λ q some whole.
    let groups = s.groups.items in
    let n = x.n in
    let a = get_or groups some.inside 0 in
    let b = get_or groups some.outside 0 in
    let i = numbered.each some.inside some.in_below in
    let o = numbered.each some.outside some.out_below in
    let qa : q a ≡ true = sym (whole some.inside some.in_below) ∙ some.holds in
    let qb : q b ≡ false = sym (whole some.outside some.out_below) ∙ some.lacks in
    let apart : a ≡ b → ⊥ = λ e. let z = sym qa ∙ ap q e ∙ qb in absurd cc in
    let far : get_or g.numbers.items some.inside 0 ≡ get_or g.numbers.items some.outside 0 → ⊥ = λ e. apart (sym i.first ∙ ap (λ m. get_or g.firsts.items m 0) e ∙ o.first) in
    let fa : IsFirst n groups a = record { below = (let l = shrunk.groups.least some.inside some.in_below in let h = some.in_below in omega (arith, l, h)); own = shrunk.groups.own some.inside some.in_below } in
    let fb : IsFirst n groups b = record { below = (let l = shrunk.groups.least some.outside some.out_below in let h = some.out_below in omega (arith, l, h)); own = shrunk.groups.own some.outside some.out_below } in
    let same : (k : ℕ) → k < n → q k ≡ in_group groups a k = λ k h.
    let c = numbered.each k h in
    ⊎_elim
    (λ (e : get_or groups k 0 ≡ a). whole k h ∙ ap q e ∙ qa ∙ sym (eq-eqb (get_or groups k 0) a e))
    (λ (ne : get_or groups k 0 ≡ a → ⊥).
    let off : get_or g.numbers.items k 0 ≡ get_or g.numbers.items some.inside 0 → ⊥ = λ e. ne (sym c.first ∙ ap (λ m. get_or g.firsts.items m 0) e ∙ i.first) in
    let cl = c.below in
    let il = i.below in
    let ol = o.below in
    let on : get_or g.numbers.items k 0 ≡ get_or g.numbers.items some.outside 0 = omega (arith, off, far, cl, il, ol, few) in
    let e : get_or groups k 0 ≡ b = sym c.first ∙ ap (λ m. get_or g.firsts.items m 0) on ∙ o.first in
    whole k h ∙ ap q e ∙ qb ∙ sym (ne_eqb (get_or groups k 0) a ne))
    (cases_eq (get_or groups k 0) a) in
    let e = crossing_within n x.entries q (in_group groups a) entries.each same in
    let l = shrunk.light a b fa fb apart in
    omega (arith, e, l)

-- what crosses a set of groups crosses its cities
mapped_crossing : (x w : Values) (g : Numbered) (p q : ℕ → Bool) → AreEntries x.n x.entries → IsGroupNetwork x g w → ((k : ℕ) → k < x.n → q k ≡ p (get_or g.numbers.items k 0)) → crossing x.entries q ≡ crossing w.entries p
mapped_crossing x w g p q entries network same =
    let a = network.weights p in
    let b = weight_by_entries x (λ k. p (get_or g.numbers.items k 0)) entries in
    let c = crossing_within x.n x.entries q (λ k. p (get_or g.numbers.items k 0)) entries.each same in
    omega (arith, ints, a, b, c)

-- flows between groups find the least union
pub least_union : (x w : Values) (groups : List ℕ) (g : Numbered) (f : Found) → AreEntries x.n x.entries → IsNumbered x.n groups g → IsGroupNetwork x g w → IsFoundOfAll w f → IsLeastUnion x groups f.best.value
least_union x w groups g f entries numbered network found = λ q some whole.
    let p : ℕ → Bool = λ j. q (get_or g.firsts.items j 0) in
    let cities = network.cities in
    let same : (k : ℕ) → k < x.n → q k ≡ p (get_or g.numbers.items k 0) = λ k h. whole k h ∙ ap q (sym (numbered.each k h).first) in
    let e = mapped_crossing x w g p q entries network same in
    let i = get_or g.numbers.items some.inside 0 in
    let o = get_or g.numbers.items some.outside 0 in
    let ib : i < w.n = (let b = (numbered.each some.inside some.in_below).below in omega (arith, b, cities)) in
    let ob : o < w.n = (let b = (numbered.each some.outside some.out_below).below in omega (arith, b, cities)) in
    let pi : p i ≡ true = sym (same some.inside some.in_below) ∙ some.holds in
    let po : p o ≡ false = sym (same some.outside some.out_below) ∙ some.lacks in
    ⊎_elim
    (λ (t : p 0 ≡ true).
    let l = found.least (λ k. cond (p k) false (not false)) o ob refl (cond-true (p 0) false true t) (cond-false (p o) false true po) in
    let y = flipped w.entries p false in
    omega (arith, e, l, y))
    (λ (t : p 0 ≡ false). let l = found.least p i ib refl t pi in omega (arith, e, l))
    (cases_Bool (p 0))

-- ---- sets of groups as sets of cities

pub mapped_weight : (x w : Values) (g : Numbered) (side s : Members) → AreEntries x.n x.entries → IsGroupNetwork x g w → IsMapped x.n g.numbers.items side s → crossing_weight x (has s.cities) ≡ pos (crossing w.entries (has side.cities))
mapped_weight x w g side s entries network m =
    weight_by_entries x (has s.cities) entries ∙ ap pos (mapped_crossing x w g (has side.cities) (has s.cities) entries network m.members)

mapped_proper : (x w : Values) (g : Numbered) (side s : Members) (i o : ℕ) → IsGroupNetwork x g w → IsMapped x.n g.numbers.items side s → i < w.n → has side.cities i ≡ true → o < w.n → has side.cities o ≡ false → IsProper x.n s.cities
mapped_proper x w g side s i o network m ib it ob of =
    let cities = network.cities in
    let fi = network.firsts i (omega (arith, ib, cities)) in
    let fo = network.firsts o (omega (arith, ob, cities)) in
    proper_from x.n (get_or g.firsts.items i 0) (get_or g.firsts.items o 0) s.cities m.set
    (m.members (get_or g.firsts.items i 0) fi.below ∙ ap (has side.cities) fi.number ∙ it) fo.below
    (m.members (get_or g.firsts.items o 0) fo.below ∙ ap (has side.cities) fo.number ∙ of)

-- a light set of groups is one of cities
pub mapped_light : (x w : Values) (g : Numbered) (side s : Members) → AreEntries x.n x.entries → IsGroupNetwork x g w → IsLight w side → IsMapped x.n g.numbers.items side s → IsViolated x s
mapped_light x w g side s entries network l m =
    let p = l.proper in
    let i = first_in side.cities p.some in
    let o = lacking w.n 0 side.cities p.set (let a = p.not_all in omega (arith, a)) in
    record {
      cities = m.cities;
      proper = mapped_proper x w g side s i.0 o.0 network m (within_rising 0 side.cities w.n i.0 p.set i.1) i.1 (let b = o.1.1.0 in omega (arith, b)) o.1.1.1;
      light = let e = mapped_weight x w g side s entries network m in let h = l.light in omega (arith, ints, e, h);
    }

pub mapped_away : (x w : Values) (g : Numbered) (side s : Members) → 0 < w.n → IsGroupNetwork x g w → IsAway w.n side → IsMapped x.n g.numbers.items side s → IsProper x.n s.cities
mapped_away x w g side s some network a m =
    mapped_proper x w g side s a.member 0 network m (within_rising 0 side.cities w.n a.member a.set a.holds) a.holds some a.away

-- the set that holds city 0 is crossed by the same
pub turned_weight : (x : Values) (side s : Members) → side.n ≡ x.n → AreEntries x.n x.entries → IsTurned side s → crossing_weight x (has s.cities) ≡ crossing_weight x (has side.cities)
turned_weight x side s cities entries t = ⊎_elim
    (λ (e : (k : ℕ) → k < side.n → has s.cities k ≡ has side.cities k).
    weight_by_entries x (has s.cities) entries ∙ ap pos (crossing_within x.n x.entries (has s.cities) (has side.cities) entries.each (λ k h. e k (omega (arith, h, cities)))) ∙ sym (weight_by_entries x (has side.cities) entries))
    (λ (e : (k : ℕ) → k < side.n → has s.cities k ≡ not (has side.cities k)). weight_turned x (has side.cities) (has s.cities) (λ k h. e k (omega (arith, h, cities))))
    t.either

-- ---- the least set

least_below : (a b c d : ℕ) → a ≤ b → b ≤ c → c ≤ d → a ≤ d
least_below a b c d h i j = omega arith

-- what is no more than the best group and the least union is the least of all
pub least_by_groups : (x : Values) (s : Shrunk) (l : LeastSet) → AreEntries x.n x.entries → IsShrinking x.n x.entries s → l.set.n ≡ x.n → IsProper x.n l.set.cities → has l.set.cities 0 ≡ true
    → crossing_weight x (has l.set.cities) ≡ pos l.weight → l.weight ≤ s.best → IsLeastUnion x s.groups.items l.weight → IsLeastSet x l
least_by_groups x s l entries shrunk cities proper home crossed best unions = record {
  cities = cities;
  proper = proper;
  home = home;
  crossed = crossed;
  least = λ other p.
      let i = first_in other p.some in
      let o = lacking x.n 0 other p.set (let a = p.not_all in omega (arith, a)) in
      let some : IsSome x.n (has other) = record {
        inside = i.0;
        in_below = within_rising 0 other x.n i.0 p.set i.1;
        holds = i.1;
        outside = o.0;
        out_below = (let b = o.1.1.0 in omega (arith, b));
        lacks = o.1.1.1;
      } in
      let e = weight_by_entries x (has other) entries in
      let less : l.weight ≤ crossing x.entries (has other) = ⊎_elim
      (λ (h : s.best ≤ crossing x.entries (has other)). omega (arith, best, h))
      (λ (m : IsMatched x.n x.entries s.groups.items (has other)).
      let u = unions m.union m.some m.whole in
      let v = m.no_more in
      omega (arith, u, v))
      (shrunk.covered (has other) some) in
      omega (arith, ints, e, less);
}

-- the complement of a proper set without city 0
pub turned_other : (side s : Members) → s.n ≡ side.n → IsSet side.n s.cities → ((k : ℕ) → k < side.n → has s.cities k ≡ not (has side.cities k)) → IsProper side.n side.cities → has side.cities 0 ≡ false → IsTurned side s
turned_other side s cities set opposite p away =
    let i = first_in side.cities p.some in
    let a = p.not_all in
    let inside = within_rising 0 side.cities side.n i.0 p.set i.1 in
    let home : has s.cities 0 ≡ true = opposite 0 (omega (arith, a)) ∙ ap not away in
    record {
      cities = cities;
      proper = proper_from side.n 0 i.0 s.cities set home inside (opposite i.0 inside ∙ ap not i.1);
      home = home;
      either = inr opposite;
    }

-- a proper set of a small weight
pub weighed_light : (x : Values) (weight : ℕ) (s : Members) → AreEntries x.n x.entries → IsWeighed x.n x.entries weight s → weight < 2096128 → IsViolated x s
weighed_light x weight s entries w h =
    let e = weight_by_entries x (has s.cities) entries in
    let c = w.crossed in
    record { cities = w.cities; proper = w.proper; light = omega (arith, ints, e, c, h) }

pub all_of_both : (x : Values) (xs ys zs : List Members) → zs ≡ xs ++ ys → All (IsViolated x) xs → All (IsViolated x) ys → All (IsViolated x) zs
all_of_both x xs ys zs e a b = subst (λ (v : List Members). All (IsViolated x) v) (sym e) (All-append (IsViolated x) xs ys a b)

pub some_of_both : (xs ys zs : List Members) → zs ≡ xs ++ ys → (0 < length xs) ⊎ (0 < length ys) → 0 < length zs
some_of_both xs ys zs e h =
    let l : length zs ≡ length xs + length ys = ap (λ (v : List Members). length v) e ∙ length-append xs ys in
    ⊎_elim (λ (a : 0 < length xs). omega (arith, a, l)) (λ (b : 0 < length ys). omega (arith, b, l)) h

-- the set that holds city 0, and what crosses it
pub turned_crossed : (x : Values) (side s : Members) (weight : ℕ) → side.n ≡ x.n → AreEntries x.n x.entries → IsTurned side s → crossing_weight x (has side.cities) ≡ pos weight → crossing_weight x (has s.cities) ≡ pos weight
turned_crossed x side s weight cities entries t w = turned_weight x side s cities entries t ∙ w

pub union_less : (x : Values) (groups : List ℕ) (weight less : ℕ) → less ≤ weight → IsLeastUnion x groups weight → IsLeastUnion x groups less
union_less x groups weight less h least = λ q some whole. (let l = least q some whole in omega (arith, h, l))
