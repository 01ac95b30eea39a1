use Rattle.std.proofs.Common.{◌≡◌, ℕ, zero, suc, ◌<◌, List, [], ◌∷◌, length, get_or, set, refl, sym, ◌∙◌, ap, arith}
use Rattle.std.proofs.lemmas.List.{map-set}
use Rattle.treebook.specs.Tables as defs
use Rattle.treebook.specs.Tables.{node_at, parent_at, state_at, with_state}
use Rattle.treebook.specs.Tree.{state_of, node_of, nodes_of}
use Rattle.treebook.specs.declared.node.Node.{Node}
use Rattle.treebook.specs.declared.node.NodeState.{NodeState}

-- a node of the code as that of the table
pub node_at-nodes_of : (ks : List Node) (k : ℕ) (d : Node) → k < length ks → node_at (nodes_of ks) k ≡ node_of (get_or ks k d)
node_at-nodes_of [] k d m = absurd (omega arith)
node_at-nodes_of (x ∷ xs) zero d m = refl
node_at-nodes_of (x ∷ xs) (suc k) d m = node_at-nodes_of xs k d (omega arith)

-- a node that was read
pub node_read : (ks : List Node) (k : ℕ) (x : Node) → k < length ks → x ≡ get_or ks k x → node_at (nodes_of ks) k ≡ node_of x
node_read ks k x m is = node_at-nodes_of ks k x m ∙ ap node_of (sym is)

-- a write of a state
pub nodes_of-set : (ks : List Node) (k : ℕ) (x : Node) (s : NodeState) → k < length ks → x ≡ get_or ks k x
    → nodes_of (set ks k (record { parent = x.parent; state = s })) ≡ with_state (nodes_of ks) k (state_of s)
nodes_of-set ks k x s m is =
    map-set node_of ks k (record { parent = x.parent; state = s })
    ∙ ap (λ (p : ℕ). set (nodes_of ks) k (record { parent = p; state = state_of s })) (ap (λ (y : defs.Node). y.parent) (sym (node_read ks k x m is)))
