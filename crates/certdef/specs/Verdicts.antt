-- The verdict on the lines of a text, line by line: what may come next, and which refusal is told at which line.
use Rattle.std.specs.Prelude.{ℕ, zero, suc, ◌+◌, ◌-◌, Bool, true, false, ◌&&◌, ◌==◌, nat_le, if◌then◌else◌, List, [], ◌∷◌, ◌++◌, length, map, Option, Some, None, ℤ}
use Rattle.tspdef.specs.Paths.{Condition, absent, present, two, four}
use Rattle.certdef.specs.Items.{Item, title_line, size_line, length_line, bound_line, tour_line, cuts_line, subtour_line, comb_line, handle_line, tooth_line, odd_line, pair_line, edge_line, clique_line, leaf_line, city_line, cut_line, condition_line, open_line, is_before, item_of}
use Rattle.certdef.specs.Proofs.{Listed, subtour_cut, comb_cut, odd_cut, Duals}
use Rattle.certdef.specs.Accepted.{from_zero}
use Rattle.certdef.specs.Tests.{Tests}

-- what was read in the head: the length and the bound, which are equal where none is told; and the cuts so far
pub record Head : Type 0 where
  pub long : ℕ
  pub bound : ℕ
  pub cuts : List Listed

-- A closed leaf of which some lines are to come: the number of its L line, its path, and the duals so far.
pub record OpenDuals : Type 0 where
  pub at : ℕ
  pub path : List Condition
  pub duals : Duals

-- Which line must come. A tree is still to come on each path of a list; with none left the text is at its end. No
-- tree is kept, so a verdict needs room for a path, the cuts and one leaf alone.
pub data Stage : Type 0 where
  wants_title : Stage
  wants_size : (version : ℕ) → Stage
  wants_length : (version : ℕ) → Stage
  -- the bound, in a text of the second version
  wants_bound : (long : ℕ) → Stage
  wants_tour : (long bound : ℕ) → Stage
  wants_count : (long bound : ℕ) → Stage
  -- a cut, and so many after it
  wants_cut : (head : Head) → (more : ℕ) → Stage
  -- a comb's handle: so many cuts after it, the number of its C line, and how many teeth
  wants_handle : (head : Head) → (more at teeth : ℕ) → Stage
  -- a tooth, and so many after it; the handle and the teeth so far
  wants_tooth : (head : Head) → (more at teeth : ℕ) → (handle : List ℕ) → (so_far : List (List ℕ)) → Stage
  -- an odd cut's handle: so many cuts after it, the number of its B line, and how many pairs
  wants_odd_handle : (head : Head) → (more at pairs : ℕ) → Stage
  -- a pair, and so many after it; the handle and the pairs so far
  wants_pair : (head : Head) → (more at pairs : ℕ) → (handle : List ℕ) → (so_far : List (ℕ × ℕ)) → Stage
  -- a tree on each of these paths in turn; with none, the end
  wants_trees : (head : Head) → (paths : List (List Condition)) → Stage
  -- so many lines P, Y and Z of a leaf, and then trees
  wants_duals : (head : Head) → (paths : List (List Condition)) → (leaf : OpenDuals) → (a b c : ℕ) → Stage

-- yes with a length and a bound, or the first refusal and its line
pub data Verdict : Type 0 where
  yes : (long bound : ℕ) → Verdict
  no : (refusal at : ℕ) → Verdict

pub data Outcome : Type 0 where
  go : (stage : Stage) → Outcome
  refused : (refusal at : ℕ) → Outcome

-- after the cuts comes the tree
abbrev pub cuts_on : Tests → Head → ℕ → Stage
cuts_on j h zero = wants_trees h (j.root ∷ [])
cuts_on j h (suc m) = wants_cut h m

abbrev pub with_cut : Head → Listed → Head
with_cut h c = record { long = h.long; bound = h.bound; cuts = h.cuts ++ c ∷ [] }

-- a cut is whole; its first line is `at`
abbrev pub cut_end : Tests → ℕ → Head → ℕ → Listed → Outcome
cut_end j at h m c = if j.cut c then go (cuts_on j (with_cut h c) m) else refused 5 at

abbrev pub teeth_on : Tests → ℕ → Head → ℕ → ℕ → List ℕ → List (List ℕ) → Outcome
teeth_on j at h m zero s ts = cut_end j at h m (comb_cut s ts)
teeth_on j at h m (suc t) s ts = go (wants_tooth h m at t s ts)

abbrev pub pairs_on : Tests → ℕ → Head → ℕ → ℕ → List ℕ → List (ℕ × ℕ) → Outcome
pairs_on j at h m zero s ps = cut_end j at h m (odd_cut s ps)
pairs_on j at h m (suc t) s ps = go (wants_pair h m at t s ps)

-- a pair that may come next, where pairs rise strictly
abbrev pub may_follow : List (ℕ × ℕ) → (ℕ × ℕ) → Bool
may_follow [] q = true
may_follow (p ∷ []) q = is_before p q
may_follow (p ∷ r ∷ ps) q = may_follow (r ∷ ps) q

-- a leaf is priced once all its lines are read, and refused at its first
abbrev pub duals_on : Tests → Head → List (List Condition) → OpenDuals → ℕ → ℕ → ℕ → Outcome
duals_on j h ps o zero zero zero = if j.closes h.bound h.cuts o.path o.duals then go (wants_trees h ps) else refused 7 o.at
duals_on j h ps o (suc a) b c = go (wants_duals h ps o (suc a) b c)
duals_on j h ps o zero (suc b) c = go (wants_duals h ps o zero (suc b) c)
duals_on j h ps o zero zero (suc c) = go (wants_duals h ps o zero zero (suc c))

-- the least number that may come next, where numbers rise
abbrev pub after : {X : Type 0} → List (ℕ × X) → ℕ
after [] = 1
after (p ∷ []) = p.0 + 1
after (p ∷ q ∷ qs) = after (q ∷ qs)

abbrev pub with_city : OpenDuals → ℕ → ℤ → OpenDuals
with_city o v x = record o { duals = record { cities = o.duals.cities ++ (v, x) ∷ []; cuts = o.duals.cuts; conds = o.duals.conds } }

abbrev pub with_cut_dual : OpenDuals → ℕ → ℕ → OpenDuals
with_cut_dual o k y = record o { duals = record { cities = o.duals.cities; cuts = o.duals.cuts ++ (k, y) ∷ []; conds = o.duals.conds } }

abbrev pub with_condition : OpenDuals → ℕ → ℕ → OpenDuals
with_condition o d z = record o { duals = record { cities = o.duals.cities; cuts = o.duals.cuts; conds = o.duals.conds ++ (d, z) ∷ [] } }

-- line `at` says this, where the stage wants a line
abbrev pub on_title : ℕ → Item → Outcome
on_title at (title_line v) = go (wants_size v)
on_title at _ = refused 1 at

abbrev pub on_size : Tests → ℕ → ℕ → Item → Outcome
on_size j v at (size_line m) = if j.size m then go (wants_length v) else refused 2 at
on_size j v at _ = refused 1 at

-- the first version proves that no tour is shorter than its length
abbrev pub on_length : ℕ → ℕ → Item → Outcome
on_length v at (length_line l) = if v == 1 then go (wants_tour l l) else go (wants_bound l)
on_length v at _ = refused 1 at

abbrev pub on_bound : Tests → ℕ → ℕ → Item → Outcome
on_bound j l at (bound_line b) = if j.below b l then go (wants_tour l b) else refused 11 at
on_bound j l at _ = refused 1 at

abbrev pub on_tour : Tests → ℕ → ℕ → ℕ → Item → Outcome
on_tour j l b at (tour_line cs) =
    if j.tour cs then (if j.has_length cs l then go (wants_count l b) else refused 4 at) else refused 3 at
on_tour j l b at _ = refused 1 at

abbrev pub on_count : Tests → ℕ → ℕ → ℕ → Item → Outcome
on_count j l b at (cuts_line k) = go (cuts_on j (record { long = l; bound = b; cuts = [] }) k)
on_count j l b at _ = refused 1 at

abbrev pub on_cut : Tests → Head → ℕ → ℕ → Item → Outcome
on_cut j h m at (subtour_line s) = cut_end j at h m (subtour_cut s)
on_cut j h m at (comb_line t) = go (wants_handle h m at t)
on_cut j h m at (odd_line t) = go (wants_odd_handle h m at t)
on_cut j h m at _ = refused 1 at

abbrev pub on_handle : Tests → Head → ℕ → ℕ → ℕ → ℕ → Item → Outcome
on_handle j h m from t at (handle_line s) = teeth_on j from h m t s []
on_handle j h m from t at _ = refused 1 at

abbrev pub on_tooth : Tests → Head → ℕ → ℕ → ℕ → List ℕ → List (List ℕ) → ℕ → Item → Outcome
on_tooth j h m from t s ts at (tooth_line q) = teeth_on j from h m t s (ts ++ q ∷ [])
on_tooth j h m from t s ts at _ = refused 1 at

abbrev pub on_odd_handle : Tests → Head → ℕ → ℕ → ℕ → ℕ → Item → Outcome
on_odd_handle j h m from t at (handle_line s) = pairs_on j from h m t s []
on_odd_handle j h m from t at _ = refused 1 at

abbrev pub on_pair : Tests → Head → ℕ → ℕ → ℕ → List ℕ → List (ℕ × ℕ) → ℕ → Item → Outcome
on_pair j h m from t s ps at (pair_line u v) = if may_follow ps (u, v) then pairs_on j from h m t s (ps ++ (u, v) ∷ []) else refused 1 at
on_pair j h m from t s ps at _ = refused 1 at

-- a leaf of which no dual is read yet
abbrev pub fresh_duals : ℕ → List Condition → OpenDuals
fresh_duals at path = record { at = at; path = path; duals = record { cities = []; cuts = []; conds = [] } }

abbrev pub on_tree : Tests → Head → List Condition → List (List Condition) → ℕ → Item → Outcome
on_tree j h path ps at (edge_line u v) =
    if j.decided path (u - 1) (v - 1) then refused 6 at
    else go (wants_trees h ((path ++ absent (u - 1) (v - 1) ∷ []) ∷ (path ++ present (u - 1) (v - 1) ∷ []) ∷ ps))
on_tree j h path ps at (clique_line s) =
    if j.proper s
    then go (wants_trees h ((path ++ two (from_zero s) ∷ []) ∷ (path ++ four (from_zero s) ∷ []) ∷ ps))
    else refused 5 at
on_tree j h path ps at (leaf_line a b c) = duals_on j h ps (fresh_duals at path) a b c
on_tree j h path ps at open_line = if j.opens then go (wants_trees h ps) else refused 8 at
on_tree j h path ps at _ = refused 1 at

abbrev pub on_dual : Tests → Head → List (List Condition) → OpenDuals → ℕ → ℕ → ℕ → ℕ → Item → Outcome
on_dual j h ps o (suc a) b c at (city_line v x) =
    if nat_le (after o.duals.cities) v then duals_on j h ps (with_city o v x) a b c else refused 1 at
on_dual j h ps o zero (suc b) c at (cut_line k y) =
    if nat_le (after o.duals.cuts) k && nat_le k (length h.cuts) then duals_on j h ps (with_cut_dual o k y) zero b c else refused 1 at
on_dual j h ps o zero zero (suc c) at (condition_line d z) =
    if nat_le (after o.duals.conds) d && j.names o.path d then duals_on j h ps (with_condition o d z) zero zero c else refused 1 at
on_dual j h ps o _ _ _ at _ = refused 1 at

abbrev pub step : Tests → ℕ → Stage → Item → Outcome
step j at wants_title x = on_title at x
step j at (wants_size v) x = on_size j v at x
step j at (wants_length v) x = on_length v at x
step j at (wants_bound l) x = on_bound j l at x
step j at (wants_tour l b) x = on_tour j l b at x
step j at (wants_count l b) x = on_count j l b at x
step j at (wants_cut h m) x = on_cut j h m at x
step j at (wants_handle h m from t) x = on_handle j h m from t at x
step j at (wants_tooth h m from t s ts) x = on_tooth j h m from t s ts at x
step j at (wants_odd_handle h m from t) x = on_odd_handle j h m from t at x
step j at (wants_pair h m from t s ps) x = on_pair j h m from t s ps at x
step j at (wants_trees h []) x = refused 9 at
step j at (wants_trees h (p ∷ ps)) x = on_tree j h p ps at x
step j at (wants_duals h ps o a b c) x = on_dual j h ps o a b c at x

-- the tree has ended
abbrev pub is_end : Stage → Bool
is_end (wants_trees h []) = true
is_end _ = false

-- a line that may not be of the form
abbrev pub line_step : Tests → ℕ → Stage → Option Item → Outcome
line_step j at s (Some x) = step j at s x
line_step j at s None = refused (if is_end s then 9 else 1) at

-- the text ends where line `at` would come
abbrev pub at_end : ℕ → Stage → Verdict
at_end at (wants_trees h []) = yes h.long h.bound
at_end at _ = no 1 at

-- the verdict on the lines from line `at` on
abbrev pub run : Tests → ℕ → Outcome → List (Option Item) → Verdict
run j at (refused k from) xs = no k from
run j at (go s) [] = at_end at s
run j at (go s) (x ∷ xs) = run j (at + 1) (line_step j at s x) xs

-- the verdict on lines, by tests
abbrev pub verdict_by : Tests → List (List ℕ) → Verdict
verdict_by j ls = run j 1 (go wants_title) (map (item_of j.n) ls)
