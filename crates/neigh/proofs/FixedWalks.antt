-- The nearest-neighbour walk is a tour of its instance: it visits each city once, and each fixed pair is a step of it.
use Rattle.std.proofs.Common.{◌≡◌, ℕ, zero, suc, ◌-◌, ◌<◌, ◌≤◌, ◌⊎◌, inl, inr, true, false, eqb, List, [], ◌∷◌, length, refl, sym, ◌∙◌, ap, subst, arith, ⊎_elim}
use Rattle.std.specs.List.{AllByRecursion, range_with_len, filter}
use Rattle.std.proofs.lemmas.Bool.{cases_Bool, or_cases, or_left, or_right, or_from, and_from, eq-eqb, ne_eqb, eqb-true, eqb-false}
use Rattle.tspdef.specs.Sets.{has}
use Rattle.tspdef.specs.Tours.{AreDistinct, has_step, walk}
use Rattle.tspdef.specs.Fixed.{pairs_at, AreFixable}
use Rattle.tspdef.specs.Instances.{Instance, IsInstance, IsTourOf}
use Rattle.tspdef.proofs.Steps.{has_step_swap, tour_has}
use Rattle.neigh.specs.Walk.{without, is_end, lowest_of, next_city, walk_on, start_city, nearest_walk}
use Rattle.neigh.proofs.PairLemmas.{three_partners, two_partners, other_partner, no_pair_with_itself, partner_below, all_steps, none_leaves}
use Rattle.neigh.proofs.WalkLemmas.{lacks_without, lacks_itself, distinct_without, all_without, length-without, has_without, has_of_without, not_itself, lacks_of_without, has_filter, filter_has, one_or_none, none_filtered, goes_to_partner, goes_to_end, end_of, range_is_tour, AreOthers, others_are}

clash : {A : Type 0} (xs : List ℕ) (z : ℕ) → has xs z ≡ true → has xs z ≡ false → A
clash xs z h k = let x : true ≡ false = sym h ∙ k in absurd (cc)

apart_from : (xs : List ℕ) (u v : ℕ) → has xs u ≡ true → has xs v ≡ false → u ≡ v → ⊥
apart_from xs u v h k e = clash xs v (subst (λ z. has xs z ≡ true) e h) k

-- ---- walks that go on to cities of the rest

-- Each next city is one of the rest. The pairs that it has with visited cities are with the one before it, or where it is the
-- last with the walk's home.
abbrev pub GoesOn : Instance → ℕ → ℕ → ℕ → List ℕ → Type 0
GoesOn i home zero here rest = Unit {0}
GoesOn i home (suc m) here rest =
    (has rest (next_city i here rest) ≡ true)
    × ((v : ℕ) → has_step i.fixed (next_city i here rest) v ≡ true → has rest v ≡ false → (v ≡ here) ⊎ ((m ≡ 0) × (v ≡ home)))
    × GoesOn i home m (next_city i here rest) (without (next_city i here rest) rest)

record IsWalkOf (n m : ℕ) (rest walk : List ℕ) : Type 0 where
  pub many : length walk ≡ m
  pub below : AllByRecursion (λ c. c < n) walk
  pub distinct : AreDistinct walk
  pub lacks : (z : ℕ) → has rest z ≡ false → has walk z ≡ false

all_has : (P : ℕ → Type 0) (xs : List ℕ) (z : ℕ) → AllByRecursion P xs → has xs z ≡ true → P z
all_has P [] z a h = absurd (let e : false ≡ true = h in cc)
all_has P (x ∷ xs) z a h = ⊎_elim
    (λ (e : eqb x z ≡ true). subst P (eqb-true x z e) a.0)
    (λ (e : has xs z ≡ true). all_has P xs z a.1 e)
    (or_cases (eqb x z) (has xs z) h)

-- it visits cities of the rest, each once
walk_is : (i : Instance) (n home m here : ℕ) (rest : List ℕ) → AllByRecursion (λ c. c < n) rest → AreDistinct rest → GoesOn i home m here rest → IsWalkOf n m rest (walk_on i m here rest)
walk_is i n home zero here rest a d g = record { many = refl; below = tt; distinct = tt; lacks = λ z h. refl }
walk_is i n home (suc m) here rest a d g =
    let c = next_city i here rest in
    let there = g.0 in
    let w = walk_is i n home m c (without c rest) (all_without _ c rest a) (distinct_without c rest d) g.2 in
    record {
      many = ap suc w.many;
      below = (all_has _ rest c a there, w.below);
      distinct = (w.lacks c (lacks_itself c rest), w.distinct);
      lacks = λ z h. or_from _ _ (ne_eqb c z (apart_from rest c z there h)) (w.lacks z (lacks_without c z rest h));
    }

step_here : (here c u v : ℕ) (es : List (ℕ × ℕ)) → c ≡ u → v ≡ here → has_step ((here, c) ∷ es) u v ≡ true
step_here here c u v es e f = or_left _ _ (or_right _ _ (and_from _ _ (eq-eqb here v (sym f)) (eq-eqb c u e)))

step_home : (home c u v : ℕ) → c ≡ u → v ≡ home → has_step ((c, home) ∷ []) u v ≡ true
step_home home c u v e f = or_left _ _ (or_left _ _ (and_from _ _ (eq-eqb c u e) (eq-eqb home v (sym f))))

no_city : (rest : List ℕ) (u : ℕ) → length rest ≡ 0 → has rest u ≡ true → ⊥
no_city [] u e h = absurd (let f : false ≡ true = h in cc)
no_city (x ∷ xs) u e h = absurd (omega arith)

-- each fixed pair of a city of the rest is a step of it, also of that home
holds_pairs : (i : Instance) (n home m here : ℕ) (rest : List ℕ) → AreFixable n i.fixed → AreDistinct rest → length rest ≡ m → GoesOn i home m here rest
    → (u v : ℕ) → has_step i.fixed u v ≡ true → has rest u ≡ true → has_step (walk home here (walk_on i m here rest)) u v ≡ true
holds_pairs i n home zero here rest f d l g u v s h = absurd (no_city rest u l h)
holds_pairs i n home (suc m) here rest f d l g u v s h =
    let c = next_city i here rest in
    let more = without c rest in
    let size = length-without c rest d g.0 in
    let ih = holds_pairs i n home m c more f (distinct_without c rest d) (omega arith) g.2 in
    let es = walk home c (walk_on i m c more) in ⊎_elim
    (λ (e : eqb c u ≡ true).
    let at = eqb-true c u e in
    let sc : has_step i.fixed c v ≡ true = subst (λ z. has_step i.fixed z v ≡ true) (sym at) s in ⊎_elim
    (λ (k : has rest v ≡ true).
    let apart : v ≡ c → ⊥ = λ q. no_pair_with_itself n i.fixed c f.below (subst (λ z. has_step i.fixed c z ≡ true) q sc) in
    or_right _ _ (has_step_swap es u v ∙ ih v u (has_step_swap i.fixed v u ∙ s) (has_without c v rest k apart)))
    (λ (k : has rest v ≡ false). ⊎_elim
    (λ (q : v ≡ here). step_here here c u v es at q)
    (λ q. or_right _ _ (subst (λ j. has_step (walk home c (walk_on i j c more)) u v ≡ true) (sym q.0) (step_home home c u v at q.1)))
    (g.1 v sc k))
    (cases_Bool (has rest v)))
    (λ (e : eqb c u ≡ false). or_right _ _ (ih u v s (has_without c u rest h (λ q. eqb-false c u e (sym q)))))
    (cases_Bool (eqb c u))

-- ---- walks from a city with at most one pair

-- A walk that stands at a city: the pairs that leave the rest are of this city, and there is one at most.
record IsOpen (i : Instance) (here : ℕ) (rest : List ℕ) : Type 0 where
  pub gone : has rest here ≡ false
  pub leaving : (u v : ℕ) → has_step i.fixed u v ≡ true → has rest u ≡ true → has rest v ≡ false → v ≡ here
  pub one : (u v : ℕ) → has_step i.fixed here u ≡ true → has rest u ≡ true → has_step i.fixed here v ≡ true → has rest v ≡ true → u ≡ v

-- of two partners there is one, where two more would be too many
one_of : (u v : ℕ) → ((u ≡ v → ⊥) → ⊥) → u ≡ v
one_of u v f = ⊎_elim
    (λ (e : eqb u v ≡ true). eqb-true u v e)
    (λ (e : eqb u v ≡ false). absurd (f (eqb-false u v e)))
    (cases_Bool (eqb u v))

open_from_partner : (i : Instance) (here c : ℕ) (rest : List ℕ) → AreFixable i.n i.fixed → IsOpen i here rest → has rest c ≡ true → has_step i.fixed here c ≡ true → IsOpen i c (without c rest)
open_from_partner i here c rest f o there s = record {
  gone = lacks_itself c rest;
  leaving = λ u v p h k. ⊎_elim
      (λ (e : v ≡ c). e)
      (λ (e : has rest v ≡ false).
      let hu = has_of_without c u rest h in
      let at = o.leaving u v p hu e in
      let back : has_step i.fixed here u ≡ true = has_step_swap i.fixed here u ∙ subst (λ z. has_step i.fixed u z ≡ true) at p in
      absurd (not_itself c u rest h (o.one u c back hu s there)))
      (lacks_of_without c v rest k);
  one = λ u v p h q k. one_of u v (λ ne.
      let hu = has_of_without c u rest h in
      let hv = has_of_without c v rest k in
      let back : has_step i.fixed c here ≡ true = has_step_swap i.fixed c here ∙ s in
      let many = three_partners i.fixed c u v here ne (apart_from rest u here hu o.gone) (apart_from rest v here hv o.gone) p q back in
      let few = f.few c in omega arith);
}

few_of : (pairs : List (ℕ × ℕ)) (c : ℕ) → is_end pairs c ≡ true → pairs_at pairs c ≤ 1
few_of pairs c h = grind arith

open_from_end : (i : Instance) (here c : ℕ) (rest : List ℕ) → IsOpen i here rest → is_end i.fixed c ≡ true → ((v : ℕ) → has rest v ≡ true → has_step i.fixed here v ≡ false) → IsOpen i c (without c rest)
open_from_end i here c rest o ends none = record {
  gone = lacks_itself c rest;
  leaving = λ u v p h k. ⊎_elim
      (λ (e : v ≡ c). e)
      (λ (e : has rest v ≡ false).
      let hu = has_of_without c u rest h in
      let at = o.leaving u v p hu e in
      let back : has_step i.fixed here u ≡ true = has_step_swap i.fixed here u ∙ subst (λ z. has_step i.fixed u z ≡ true) at p in
      let x : true ≡ false = sym back ∙ none u hu in absurd (cc))
      (lacks_of_without c v rest k);
  one = λ u v p h q k. one_of u v (λ ne.
      let many = two_partners i.fixed c u v ne p q in
      let few = few_of i.fixed c ends in omega arith);
}

record IsEndIn (i : Instance) (rest : List ℕ) (c : ℕ) : Type 0 where
  pub there : has rest c ≡ true
  pub ends : is_end i.fixed c ≡ true

-- where no pair leaves the rest there is a city with at most one pair in it
end_there : (i : Instance) (here u : ℕ) (rest : List ℕ) → AreFixable i.n i.fixed → here < i.n → u < i.n → has rest here ≡ false → has rest u ≡ true
    → ((a b : ℕ) → has_step i.fixed a b ≡ true → has rest a ≡ true → has rest b ≡ true) → (c : ℕ) × IsEndIn i rest c
end_there i here u rest f lh lu gone there none =
    let e = f.open_ended (has rest) u here lu there lh gone (none_leaves i.fixed (has rest) none) in
    (e.0, record { there = e.1.inside; ends = end_of i.fixed e.0 e.1.few })

first_city : (rest : List ℕ) → 0 < length rest → (u : ℕ) × (has rest u ≡ true)
first_city [] h = absurd (omega arith)
first_city (x ∷ xs) h = (x, or_left _ _ (eq-eqb x x refl))

open_goes_on : (i : Instance) (home m here : ℕ) (rest : List ℕ) → AreFixable i.n i.fixed → here < i.n → AllByRecursion (λ c. c < i.n) rest → AreDistinct rest → length rest ≡ m
    → IsOpen i here rest → GoesOn i home m here rest
open_goes_on i home zero here rest f lh below d l o = tt
open_goes_on i home (suc m) here rest f lh below d l o = ⊎_elim
    (λ w.
    let c = next_city i here rest in
    let to = goes_to_partner i here rest w.0 w.1.0 w.1.1 in
    let size = length-without c rest d to.0 in (
      to.0,
      (λ v p k. inl (o.leaving c v p to.0 k)),
      open_goes_on i home m c (without c rest) f (all_has _ rest c below to.0) (all_without _ c rest below) (distinct_without c rest d) (omega arith) (open_from_partner i here c rest f o to.0 to.1),
    ))
    (λ none.
    let c = next_city i here rest in
    let any = first_city rest (omega arith) in
    let stays : (a b : ℕ) → has_step i.fixed a b ≡ true → has rest a ≡ true → has rest b ≡ true = λ a b p h. ⊎_elim
    (λ (k : has rest b ≡ true). k)
    (λ (k : has rest b ≡ false).
    let at = o.leaving a b p h k in
    let back : has_step i.fixed here a ≡ true = has_step_swap i.fixed here a ∙ subst (λ z. has_step i.fixed a z ≡ true) at p in
    let x : true ≡ false = sym back ∙ none a h in absurd (cc))
    (cases_Bool (has rest b)) in
    let e = end_there i here any.0 rest f lh (all_has _ rest any.0 below any.1) o.gone any.1 stays in
    let to = goes_to_end i here rest e.0 e.1.there e.1.ends none in
    let size = length-without c rest d to.0 in (
      to.0,
      (λ v p k. inl (o.leaving c v p to.0 k)),
      open_goes_on i home m c (without c rest) f (all_has _ rest c below to.0) (all_without _ c rest below) (distinct_without c rest d) (omega arith) (open_from_end i here c rest o to.1 none),
    ))
    (one_or_none (has_step i.fixed here) rest)

-- ---- walks along a whole tour of fixed pairs

-- A walk that stands at a city, with a partner not visited yet, and that comes home from another one: the pairs that leave the rest
-- are of these two.
record IsRound (i : Instance) (home last here : ℕ) (rest : List ℕ) : Type 0 where
  pub gone : has rest here ≡ false
  pub home_gone : has rest home ≡ false
  pub away : here ≡ home → ⊥
  pub there : has rest last ≡ true
  pub closes : has_step i.fixed last home ≡ true
  pub leaving : (u v : ℕ) → has_step i.fixed u v ≡ true → has rest u ≡ true → has rest v ≡ false → (v ≡ here) ⊎ ((u ≡ last) × (v ≡ home))
  pub one : (u v : ℕ) → has_step i.fixed here u ≡ true → has rest u ≡ true → has_step i.fixed here v ≡ true → has rest v ≡ true → u ≡ v
  pub partner : ℕ
  pub ahead : has rest partner ≡ true
  pub joined : has_step i.fixed here partner ≡ true

abbrev pub AllHaveTwo : Instance → Type 0
AllHaveTwo i = (c : ℕ) → c < i.n → 2 ≤ pairs_at i.fixed c

-- at the last city nothing is left
nothing_left : (i : Instance) (home last here : ℕ) (rest : List ℕ) → AreFixable i.n i.fixed → AllHaveTwo i → last < i.n → AllByRecursion (λ c. c < i.n) rest → IsRound i home last here rest
    → has_step i.fixed here last ≡ true → length (without last rest) ≡ 0
nothing_left i home last here rest f two ll below o s =
    let more = without last rest in
    let none_there : 0 < length more → ⊥ = λ some.
    let any = first_city more some in
    let stays : (a b : ℕ) → has_step i.fixed a b ≡ true → has more a ≡ true → has more b ≡ true = λ a b p h. ⊎_elim
    (λ (k : has more b ≡ true). k)
    (λ (k : has more b ≡ false).
    let ha = has_of_without last a rest h in absurd (⊎_elim
    (λ (e : b ≡ last).
    let ends : has_step i.fixed last a ≡ true = has_step_swap i.fixed last a ∙ subst (λ z. has_step i.fixed a z ≡ true) e p in
    let back : has_step i.fixed last here ≡ true = has_step_swap i.fixed last here ∙ s in
    let many = three_partners i.fixed last a here home (apart_from rest a here ha o.gone) (apart_from rest a home ha o.home_gone) o.away ends back o.closes in
    let few = f.few last in omega arith)
    (λ (e : has rest b ≡ false). ⊎_elim
    (λ (q : b ≡ here).
    let back : has_step i.fixed here a ≡ true = has_step_swap i.fixed here a ∙ subst (λ z. has_step i.fixed a z ≡ true) q p in
    not_itself last a rest h (o.one a last back ha s o.there))
    (λ q. not_itself last a rest h q.0)
    (o.leaving a b p ha e))
    (lacks_of_without last b rest k)))
    (cases_Bool (has more b)) in
    let e = end_there i last any.0 more f ll (all_has _ rest any.0 below (has_of_without last any.0 rest any.1)) (lacks_itself last rest) any.1 stays in
    let lc = all_has _ rest e.0 below (has_of_without last e.0 rest e.1.there) in
    let most = few_of i.fixed e.0 e.1.ends in
    let least = two e.0 lc in omega arith in
    omega (arith, none_there)

round_more : (i : Instance) (home last here c : ℕ) (rest : List ℕ) → AreFixable i.n i.fixed → AllHaveTwo i → AllByRecursion (λ z. z < i.n) rest → IsRound i home last here rest
    → has rest c ≡ true → has_step i.fixed here c ≡ true → (c ≡ last → ⊥) → IsRound i home last c (without c rest)
round_more i home last here c rest f two below o there s ne =
    let w = other_partner i.n i.fixed c here f.below f.rising (two c (all_has _ rest c below there)) in
    let back : has_step i.fixed c here ≡ true = has_step_swap i.fixed c here ∙ s in
    let itself : w.0 ≡ c → ⊥ = λ q. no_pair_with_itself i.n i.fixed c f.below (subst (λ z. has_step i.fixed c z ≡ true) q w.1.joined) in
    let new : has rest w.0 ≡ true = ⊎_elim
    (λ (k : has rest w.0 ≡ true). k)
    (λ (k : has rest w.0 ≡ false). absurd (⊎_elim
    (λ (q : w.0 ≡ here). w.1.other q)
    (λ q. ne q.0)
    (o.leaving c w.0 w.1.joined there k)))
    (cases_Bool (has rest w.0)) in
    record {
      gone = lacks_itself c rest;
      home_gone = lacks_without c home rest o.home_gone;
      away = apart_from rest c home there o.home_gone;
      there = has_without c last rest o.there (λ q. ne (sym q));
      closes = o.closes;
      leaving = λ u v p h k. ⊎_elim
          (λ (e : v ≡ c). inl e)
          (λ (e : has rest v ≡ false).
          let hu = has_of_without c u rest h in ⊎_elim
          (λ (q : v ≡ here).
          let to : has_step i.fixed here u ≡ true = has_step_swap i.fixed here u ∙ subst (λ z. has_step i.fixed u z ≡ true) q p in
          absurd (not_itself c u rest h (o.one u c to hu s there)))
          (λ q. inr q)
          (o.leaving u v p hu e))
          (lacks_of_without c v rest k);
      one = λ u v p h q k. one_of u v (λ apart.
          let hu = has_of_without c u rest h in
          let hv = has_of_without c v rest k in
          let many = three_partners i.fixed c u v here apart (apart_from rest u here hu o.gone) (apart_from rest v here hv o.gone) p q back in
          let few = f.few c in omega arith);
      partner = w.0;
      ahead = has_without c w.0 rest new itself;
      joined = w.1.joined;
    }

round_goes_on : (i : Instance) (home last m here : ℕ) (rest : List ℕ) → AreFixable i.n i.fixed → AllHaveTwo i → AllByRecursion (λ c. c < i.n) rest → AreDistinct rest → length rest ≡ m
    → IsRound i home last here rest → GoesOn i home m here rest
round_goes_on i home last zero here rest f two below d l o = tt
round_goes_on i home last (suc m) here rest f two below d l o =
    let c = next_city i here rest in
    let to = goes_to_partner i here rest o.partner o.ahead o.joined in
    let size = length-without c rest d to.0 in ⊎_elim
    (λ (e : eqb c last ≡ true).
    let at = eqb-true c last e in
    let ll = all_has _ rest last below o.there in
    let left = nothing_left i home last here rest f two ll below o (subst (λ z. has_step i.fixed here z ≡ true) at to.1) in
    let none : length (without c rest) ≡ 0 = ap (λ z. length (without z rest)) at ∙ left in
    let m0 : m ≡ 0 = omega arith in (
      to.0,
      (λ v p k. ⊎_elim (λ (q : v ≡ here). inl q) (λ q. inr (m0, q.1)) (o.leaving c v p to.0 k)),
      subst (λ j. GoesOn i home j c (without c rest)) (sym m0) tt,
    ))
    (λ (e : eqb c last ≡ false).
    let ne = eqb-false c last e in (
      to.0,
      (λ v p k. ⊎_elim (λ (q : v ≡ here). inl q) (λ q. absurd (ne q.0)) (o.leaving c v p to.0 k)),
      round_goes_on i home last m c (without c rest) f two (all_without _ c rest below) (distinct_without c rest d) (omega arith) (round_more i home last here c rest f two below o to.0 to.1 ne),
    ))
    (cases_Bool (eqb c last))

-- ---- where walks begin

open_at_start : (i : Instance) (s : ℕ) (rest : List ℕ) → AreFixable i.n i.fixed → AreOthers i.n s rest → is_end i.fixed s ≡ true → IsOpen i s rest
open_at_start i s rest f o ends = record {
  gone = o.lacks;
  leaving = λ u v p h k. one_of v s (λ ne. clash rest v (o.others v (partner_below i.n i.fixed u v f.below p) ne) k);
  one = λ u v p h q k. one_of u v (λ ne.
      let many = two_partners i.fixed s u v ne p q in
      let few = few_of i.fixed s ends in omega arith);
}

-- the second state of a walk along a whole tour
round_at_start : (i : Instance) (s c last : ℕ) (rest : List ℕ) → AreFixable i.n i.fixed → AllHaveTwo i → AreOthers i.n s rest → has rest c ≡ true → has_step i.fixed s c ≡ true
    → has_step i.fixed s last ≡ true → (last ≡ c → ⊥) → c < i.n → IsRound i s last c (without c rest)
round_at_start i s c last rest f two o there sc sl ne lc =
    let w = other_partner i.n i.fixed c s f.below f.rising (two c lc) in
    let back : has_step i.fixed c s ≡ true = has_step_swap i.fixed c s ∙ sc in
    let itself : w.0 ≡ c → ⊥ = λ q. no_pair_with_itself i.n i.fixed c f.below (subst (λ z. has_step i.fixed c z ≡ true) q w.1.joined) in
    let last_off : last ≡ s → ⊥ = λ q. no_pair_with_itself i.n i.fixed s f.below (subst (λ z. has_step i.fixed s z ≡ true) q sl) in
    record {
      gone = lacks_itself c rest;
      home_gone = lacks_without c s rest o.lacks;
      away = apart_from rest c s there o.lacks;
      there = has_without c last rest (o.others last (partner_below i.n i.fixed s last f.below sl) last_off) ne;
      closes = has_step_swap i.fixed last s ∙ sl;
      leaving = λ u v p h k. ⊎_elim
          (λ (e : v ≡ c). inl e)
          (λ (e : has rest v ≡ false).
          let at : v ≡ s = one_of v s (λ apart. clash rest v (o.others v (partner_below i.n i.fixed u v f.below p) apart) e) in
          let to : has_step i.fixed s u ≡ true = has_step_swap i.fixed s u ∙ subst (λ z. has_step i.fixed u z ≡ true) at p in
          inr (
            one_of u last (λ apart.
                let many = three_partners i.fixed s u last c apart (not_itself c u rest h) ne to sl sc in
                let few = f.few s in omega arith),
            at,
          ))
          (lacks_of_without c v rest k);
      one = λ u v p h q k. one_of u v (λ apart.
          let hu = has_of_without c u rest h in
          let hv = has_of_without c v rest k in
          let many = three_partners i.fixed c u v s apart (apart_from rest u s hu o.lacks) (apart_from rest v s hv o.lacks) p q back in
          let few = f.few c in omega arith);
      partner = w.0;
      ahead = has_without c w.0 rest (o.others w.0 (partner_below i.n i.fixed c w.0 f.below w.1.joined) w.1.other) itself;
      joined = w.1.joined;
    }

whole_goes_on : (i : Instance) (s m : ℕ) (rest : List ℕ) → AreFixable i.n i.fixed → AllHaveTwo i → s < i.n → AreOthers i.n s rest → length rest ≡ suc m → GoesOn i s (suc m) s rest
whole_goes_on i s m rest f two ls o l =
    let c = next_city i s rest in
    let w = other_partner i.n i.fixed s s f.below f.rising (two s ls) in
    let to = goes_to_partner i s rest w.0 (o.others w.0 (partner_below i.n i.fixed s w.0 f.below w.1.joined) w.1.other) w.1.joined in
    let lc = all_has _ rest c o.below to.0 in
    let z = other_partner i.n i.fixed s c f.below f.rising (two s ls) in
    let size = length-without c rest o.distinct to.0 in (
      to.0,
      (λ v p k. inl (one_of v s (λ ne. clash rest v (o.others v (partner_below i.n i.fixed c v f.below p) ne) k))),
      round_goes_on i s z.0 m c (without c rest) f two (all_without _ c rest o.below) (distinct_without c rest o.distinct) (omega arith) (round_at_start i s c z.0 rest f two o to.0 to.1 z.1.joined z.1.other lc),
    )

record IsStart (i : Instance) (s : ℕ) : Type 0 where
  pub below : s < i.n
  pub either : (is_end i.fixed s ≡ true) ⊎ AllHaveTwo i

first_in : (xs : List ℕ) (z : ℕ) → has xs z ≡ true → has xs (lowest_of xs) ≡ true
first_in [] z h = h
first_in (x ∷ xs) z h = or_left _ _ (eq-eqb x x refl)

two_from : (pairs : List (ℕ × ℕ)) (c : ℕ) → is_end pairs c ≡ false → 2 ≤ pairs_at pairs c
two_from pairs c h = grind arith

start_is : (i : Instance) → IsInstance i → IsStart i (start_city i)
start_is i is =
    let r = range_with_len 0 i.n in
    let t = range_is_tour i.n is.many is.few in ⊎_elim
    (λ w.
    let ends = filter (is_end i.fixed) r in
    let at = first_in ends w.0 (filter_has (is_end i.fixed) r w.0 w.1.1 w.1.0) in
    let p = has_filter (is_end i.fixed) r (lowest_of ends) at in
    record { below = all_has _ r (lowest_of ends) t.below p.1; either = inl p.0 })
    (λ none.
    let nothing : filter (is_end i.fixed) r ≡ [] = none_filtered (is_end i.fixed) r none in
    let home : 0 ≡ start_city i = ap lowest_of (sym nothing) in
    let m = is.many in
    subst (λ s. IsStart i s) home (record { below = omega arith; either = inr (λ c h. two_from i.fixed c (none c (tour_has i.n r t c h))) }))
    (one_or_none (is_end i.fixed) r)

start_goes_on : (i : Instance) (s : ℕ) (rest : List ℕ) → IsInstance i → IsStart i s → AreOthers i.n s rest → GoesOn i s (i.n - 1) s rest
start_goes_on i s rest is st o =
    let l = o.many in
    let m = is.many in
    let size : length rest ≡ i.n - 1 = omega arith in
    let more : length rest ≡ suc (i.n - 2) = omega arith in
    let same : suc (i.n - 2) ≡ i.n - 1 = omega arith in ⊎_elim
    (λ (e : is_end i.fixed s ≡ true). open_goes_on i s (i.n - 1) s rest is.fixed st.below o.below o.distinct size (open_at_start i s rest is.fixed o e))
    (λ (two : AllHaveTwo i). subst (λ j. GoesOn i s j s rest) same (whole_goes_on i s (i.n - 2) rest is.fixed two st.below o more))
    st.either

-- ---- the walk

pub walk_is_tour : (i : Instance) → IsInstance i → IsTourOf i (nearest_walk i)
walk_is_tour i is =
    let s = start_city i in
    let st = start_is i is in
    let rest = without s (range_with_len 0 i.n) in
    let o = others_are i.n s is.many is.few st.below in
    let g = start_goes_on i s rest is st o in
    let l = o.many in
    let size : length rest ≡ i.n - 1 = omega arith in
    let ws = walk_on i (i.n - 1) s rest in
    let w = walk_is i i.n s (i.n - 1) s rest o.below o.distinct g in
    let wl = w.many in
    let below = is.fixed.below in
    let held = holds_pairs i i.n s (i.n - 1) s rest is.fixed o.distinct size g in
    record {
      is_tour = record { all = omega arith; below = (st.below, w.below); distinct = (w.lacks s o.lacks, w.distinct) };
      holds_fixed = all_steps (walk s s ws) i.fixed (λ u v p. ⊎_elim
          (λ (e : eqb u s ≡ true).
          let at = eqb-true u s e in
          let off : v ≡ s → ⊥ = λ q. no_pair_with_itself i.n i.fixed s below (subst (λ z. has_step i.fixed s z ≡ true) q (subst (λ z. has_step i.fixed z v ≡ true) at p)) in
          has_step_swap (walk s s ws) u v ∙ held v u (has_step_swap i.fixed v u ∙ p) (o.others v (partner_below i.n i.fixed u v below p) off))
          (λ (e : eqb u s ≡ false). held u v p (o.others u (partner_below i.n i.fixed v u below (has_step_swap i.fixed v u ∙ p)) (eqb-false u s e)))
          (cases_Bool (eqb u s)));
    }
