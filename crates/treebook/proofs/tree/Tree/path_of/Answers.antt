use Rattle.std.proofs.Common.{ℕ, ◌<◌, List, ◌++◌, length, map, take, get_or, sym, ◌∙◌, subst}
use Rattle.tspdef.specs.Paths.{Condition, IsPath, MayFollow, fixed_conditions}
use Rattle.treebook.specs.Tables.{own_condition}
use Rattle.treebook.proofs.TreeLemmas.{are_behind}
use Rattle.treebook.proofs.WalkLemmas.{way_item, follows_item}
use Rattle.treebook.proofs.tree.Tree.path_of.Goals as goal

-- the number at hand is that of a node below the root
item : (c : goal.After-row_known-1) → (0 < get_or c.deref-k-items.result.now c.loop-k.k-index 0) × (get_or c.deref-k-items.result.now c.loop-k.k-index 0 < length c.args.self.now.nodes)
item c =
    let nodes = c.args.self.now.nodes in
    let same = c.loop-k.invariant.items in
    subst (λ (ws : List ℕ). (0 < get_or ws c.loop-k.k-index 0) × (get_or ws c.loop-k.k-index 0 < length nodes)) (sym same)
    (way_item nodes c.args.node c.loop-k.k-index 0 (are_behind c.n.result c.args.self.now.fixed nodes c.n.ensures.is_table) c.requires (subst (λ (ws : List ℕ). c.loop-k.k-index < length ws) same c.loop-k-test.true))

pub grow-requires-clause-within : goal.grow-requires-clause-within
grow-requires-clause-within c = (item c).1

pub grow-requires-clause-below : goal.grow-requires-clause-below
grow-requires-clause-below c = (item c).0

pub grow-requires-clause-follows : goal.grow-requires-clause-follows
grow-requires-clause-follows c =
    let nodes = c.args.self.now.nodes in
    let f = own_condition nodes in
    let front = fixed_conditions c.args.self.now.fixed in
    let ws = c.deref-k-items.result.now in
    let same = c.loop-k.invariant.items in
    let path : IsPath c.n.result (front ++ map f ws) = subst (λ (w : List ℕ). IsPath c.n.result (front ++ map f w)) (sym same) (c.n.ensures.paths c.args.node c.requires) in
    subst (λ (p : List Condition). MayFollow c.loop-k.path.n p (f (get_or ws c.loop-k.k-index 0))) (sym c.loop-k.invariant.conditions)
    (subst (λ (n : ℕ). MayFollow n (front ++ map f (take c.loop-k.k-index ws)) (f (get_or ws c.loop-k.k-index 0))) (c.n.ensures.value ∙ sym c.loop-k.invariant.cities)
    (follows_item c.n.result front f ws c.loop-k.k-index path c.loop-k-test.true))
