-- How long tours are, and how many conditions on sets a node's path has.
use Rattle.std.proofs.Common.{◌≡◌, ◌==◌, ℕ, zero, suc, ◌+◌, ◌*◌, ◌^◌, ◌<◌, ◌≤◌, Bool, true, false, cond, List, [], ◌∷◌, ◌++◌, length, map, refl, ap, arith}
use Rattle.std.proofs.lemmas.List.{length-append, length-map}
use Rattle.tspdef.specs.Paths.{Condition, fixed, absent, present, two, four, fixed_conditions}
use Rattle.treebook.specs.Tables.{Node, IsOpen, way, way_within, parent_at, own_condition, path_at}
use Rattle.worker.specs.Works.{BeginsAt, cliques}
use Rattle.tspdef.specs.Tours.{walk, steps, travelled}
use Rattle.tspdef.specs.Instances.{Instance, IsInstance, dist, length_in}
use Rattle.bossx.specs.Books.{Book, best_length, path_in}
use Rattle.bossx.specs.Kept.{IsBook}

walk_length : (d : ℕ → ℕ → ℕ) → ((u v : ℕ) → d u v < 2 ^ 30) → (home here : ℕ) (cs : List ℕ) → travelled d (walk home here cs) ≤ (length cs + 1) * 2 ^ 30
walk_length d small home here [] = let s = small here home in omega arith
walk_length d small home here (c ∷ cs) = let s = small here c in let ih = walk_length d small home c cs in omega arith

steps_length : (d : ℕ → ℕ → ℕ) → ((u v : ℕ) → d u v < 2 ^ 30) → (cs : List ℕ) → travelled d (steps cs) ≤ length cs * 2 ^ 30
steps_length d small [] = omega arith
steps_length d small (c ∷ cs) = let w = walk_length d small c c cs in omega arith

-- a tour is shorter than 2^42
pub tour_is_short : (i : Instance) (tour : List ℕ) → IsInstance i → length tour ≡ i.n → length_in i tour < 2 ^ 42
tour_is_short i tour is e =
    let few = is.few in
    let s = steps_length (dist i) (λ u v. is.small _) tour in
    omega arith

-- ---- paths

way_step : (fuel : ℕ) (b : Bool) (above : List ℕ) (k : ℕ) → length above ≤ fuel → length (cond b [] (above ++ k ∷ [])) ≤ suc fuel
way_step fuel true above k le = omega arith
way_step fuel false above k le = let e : length (above ++ k ∷ []) ≡ length above + 1 = length-append above (k ∷ []) in omega arith

way_is_short : (fuel : ℕ) (nodes : List Node) (k : ℕ) → length (way_within fuel nodes k) ≤ fuel
way_is_short zero nodes k = omega arith
way_is_short (suc fuel) nodes k = way_step fuel (k == 0) (way_within fuel nodes (parent_at nodes k)) k (way_is_short fuel nodes (parent_at nodes k))

-- a path has no more conditions on sets than conditions
few_cliques : (path : List Condition) → cliques path ≤ length path
few_cliques [] = omega arith
few_cliques (fixed u v ∷ path) = let ih = few_cliques path in omega arith
few_cliques (absent u v ∷ path) = let ih = few_cliques path in omega arith
few_cliques (present u v ∷ path) = let ih = few_cliques path in omega arith
few_cliques (two s ∷ path) = let ih = few_cliques path in omega arith
few_cliques (four s ∷ path) = let ih = few_cliques path in omega arith

-- and the fixed pairs are none of them
behind_pairs : (pairs : List (ℕ × ℕ)) (path : List Condition) → cliques (fixed_conditions pairs ++ path) ≡ cliques path
behind_pairs [] path = refl
behind_pairs (p ∷ ps) path = behind_pairs ps path

-- a node's path has no more conditions on sets than the node's number
pub cliques_are_few : (pairs : List (ℕ × ℕ)) (nodes : List Node) (k : ℕ) → cliques (path_at pairs nodes k) ≤ k
cliques_are_few pairs nodes k =
    let own = map (own_condition nodes) (way nodes k) in
    let b = behind_pairs pairs own in
    let f = few_cliques own in
    let e : length own ≡ length (way nodes k) = length-map (way nodes k) (own_condition nodes) in
    let s = way_is_short k nodes k in
    omega arith

-- ---- in a book

-- the best tour is short
pub best_is_short : (b : Book) → IsBook b → best_length b < 2 ^ 42
best_is_short b k = tour_is_short b.instance b.best k.instance k.tour.is_tour.all

-- each path begins with the fixed pairs
pub path_begins : (b : Book) (node : ℕ) → IsBook b → BeginsAt b.instance (path_in b node)
path_begins b node k = (
  map (own_condition b.tree.nodes) (way b.tree.nodes node),
  ap (λ (pairs : List (ℕ × ℕ)). path_at pairs b.tree.nodes node) k.tree.fixed,
)

-- and has few conditions on sets, since there are few nodes
pub path_is_few : (b : Book) (node : ℕ) → IsBook b → node < length b.tree.nodes → length b.start.nodes + 2 * b.budget ≤ 1048576 → cliques (path_in b node) ≤ 2 ^ 21
path_is_few b node k here few =
    let some = cliques_are_few b.tree.fixed b.tree.nodes node in
    let made = k.charged.made in
    let within = k.charged.within in
    omega arith

pub path_is_short : (b : Book) (node : ℕ) → IsBook b → IsOpen b.tree.nodes node → length b.start.nodes + 2 * b.budget ≤ 1048576 → cliques (path_in b node) ≤ 2 ^ 21
path_is_short b node k is_open few = path_is_few b node k is_open.within few
