-- The tests that refusals go by, as plain true or false. The first of them say again what definitions of `tspdef` say, since a
-- machine that tells refusals must compute them; the law `tests_decide` of the crate `verdict` ties each to its definition.
use Rattle.std.specs.Prelude.{ℕ, ◌-◌, ◌%◌, Bool, true, false, not, ◌&&◌, ◌==◌, nat_lt, nat_le, List, [], ◌∷◌, length}
use Rattle.std.specs.Int.Signed.{lt_z}
use Rattle.tspdef.specs.Sets.{has, meet, meets_any, leaves}
use Rattle.tspdef.specs.Tours.{steps, has_step, last_city, crosses}
use Rattle.tspdef.specs.Instances.{Instance, length_in}
use Rattle.tspdef.specs.Cuts.{Cut, subtour, comb, odd, most_pairs}
use Rattle.tspdef.specs.Paths.{Condition, condition_at, is_decided, root}
use Rattle.tspdef.specs.Bounds.{bound, needed}
use Rattle.certdef.specs.Items.{rises, each_below, pairs_rise}
use Rattle.certdef.specs.Proofs.{Listed, Duals}
use Rattle.certdef.specs.Accepted.{from_zero, cut_of, cuts_of, closing_of, is_clique}

abbrev pub each_positive : List ℕ → Bool
each_positive [] = true
each_positive (c ∷ cs) = nat_lt 0 c && each_positive cs

abbrev pub are_distinct : List ℕ → Bool
are_distinct [] = true
are_distinct (c ∷ cs) = not (has cs c) && are_distinct cs

-- each of the cities 0 to n - 1 once
abbrev pub is_tour : ℕ → List ℕ → Bool
is_tour n cs = (length cs == n) && (each_below n cs && are_distinct cs)

-- each of the pairs is one of the steps
abbrev pub are_steps : List (ℕ × ℕ) → List (ℕ × ℕ) → Bool
are_steps es [] = true
are_steps es (p ∷ ps) = has_step es p.0 p.1 && are_steps es ps

-- a tour of the instance: of its cities, and with each fixed pair as a step
abbrev pub is_tour_of : Instance → List ℕ → Bool
is_tour_of i cs = is_tour i.n cs && are_steps (steps cs) i.fixed

-- city 0 comes first, and the second city is less than the last
abbrev pub is_canonical : List ℕ → Bool
is_canonical [] = false
is_canonical (a ∷ []) = false
is_canonical (a ∷ b ∷ cs) = (a == 0) && nat_lt b (last_city b cs)

-- a set that is neither empty nor all n cities
abbrev pub is_proper : ℕ → List ℕ → Bool
is_proper n s = rises 0 (n - 1) s && (nat_lt 0 (length s) && nat_lt (length s) n)

abbrev pub are_disjoint : List (List ℕ) → Bool
are_disjoint [] = true
are_disjoint (t ∷ ts) = not (meets_any t ts) && are_disjoint ts

abbrev pub are_teeth : ℕ → List ℕ → List (List ℕ) → Bool
are_teeth n h [] = true
are_teeth n h (t ∷ ts) = (rises 0 (n - 1) t && (meet t h && leaves t h)) && are_teeth n h ts

-- pairs u < v below n
abbrev pub are_pairs : ℕ → List (ℕ × ℕ) → Bool
are_pairs n [] = true
are_pairs n (p ∷ ps) = (nat_lt p.0 p.1 && nat_lt p.1 n) && are_pairs n ps

-- each pair has one end in the handle
abbrev pub each_crosses : List ℕ → List (ℕ × ℕ) → Bool
each_crosses h [] = true
each_crosses h (p ∷ ps) = crosses (has h) p && each_crosses h ps

-- an odd number of different pairs, each with one end in the handle
abbrev pub are_odd_pairs : ℕ → List ℕ → List (ℕ × ℕ) → Bool
are_odd_pairs n h ps = (length ps % 2 == 1) && (nat_le (length ps) most_pairs && (are_pairs n ps && (pairs_rise ps && each_crosses h ps)))

-- a cut of n cities
abbrev pub is_cut : ℕ → Cut → Bool
is_cut n (subtour m s) = (m == n) && is_proper n s
is_cut n (comb m h ts) = (m == n) && (is_proper n h && ((length ts % 2 == 1) && (nat_le 3 (length ts) && (are_teeth n h ts && are_disjoint ts))))
is_cut n (odd m h ps) = (m == n) && (is_proper n h && are_odd_pairs n h ps)

-- what lines are judged by, beside their form
pub record Tests : Type 0 where
  -- the number of cities that the form goes by
  pub n : ℕ
  -- the number of cities that a text may have
  pub size : ℕ → Bool
  -- the path with which the tree begins
  pub root : List Condition
  pub tour : List ℕ → Bool
  pub has_length : List ℕ → ℕ → Bool
  -- a bound may be told with a length
  pub below : ℕ → ℕ → Bool
  pub cut : Listed → Bool
  -- two cities from 0 are decided on a path
  pub decided : List Condition → ℕ → ℕ → Bool
  -- a set to branch on
  pub proper : List ℕ → Bool
  -- the depth names a condition on a set of the path
  pub names : List Condition → ℕ → Bool
  -- the duals close a leaf with this path for a bound, where these cuts are listed
  pub closes : ℕ → List Listed → List Condition → Duals → Bool
  -- a leaf may be open
  pub opens : Bool

-- a canonical tour of the instance, of cities from 1
abbrev pub is_tour_from_one : Instance → List ℕ → Bool
is_tour_from_one i cs = each_positive cs && (is_tour_of i (from_zero cs) && is_canonical (from_zero cs))

-- the bound of the duals exceeds what a bound of b for all tours needs
abbrev pub closes_leaf : Instance → ℕ → List Listed → List Condition → Duals → Bool
closes_leaf i b cs path d = lt_z (needed b) (bound i path (closing_of i.n (cuts_of i.n cs) d))

-- a verifier's
abbrev pub verifier : Instance → Tests
verifier i = record {
  n = i.n;
  size = λ m. m == i.n;
  root = root i;
  tour = is_tour_from_one i;
  has_length = λ cs l. length_in i (from_zero cs) == l;
  below = λ b l. nat_lt b l;
  cut = λ c. is_cut i.n (cut_of i.n c);
  decided = is_decided;
  proper = λ s. is_proper i.n (from_zero s);
  names = λ path d. is_clique (condition_at path d);
  closes = closes_leaf i;
  opens = false;
}
