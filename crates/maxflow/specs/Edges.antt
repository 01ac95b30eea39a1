-- Edges, and the room that flows leave on them.
use Rattle.std.specs.Prelude.{◌≡◌, ℕ, ◌≤◌, ◌⊎◌, Bool, cond, List, sum_by, slice_index_or}
use Rattle.std.proofs.Common.{lit<}
use Rattle.maxflow.specs.declared.residual.Edge.{Edge}

-- what more an edge may carry out of the set
abbrev pub room_at : (ℕ → Bool) → Edge → ℕ
room_at s e = cond (s e.u) (cond (s e.v) 0 e.ahead) (cond (s e.v) e.back 0)

-- the room that is left out of the set
abbrev pub room : List Edge → (ℕ → Bool) → ℕ
room es s = sum_by (room_at s) es

abbrev pub nothing : Edge
nothing = record { u = 0; v = 0; ahead = 0; back = 0; whole = lit< tt }

abbrev pub edge_at : List Edge → ℕ → Edge
edge_at es i = slice_index_or es i nothing

-- the edge leads from a to b, and so much more can go over it that way
abbrev pub Leads : Edge → ℕ → ℕ → ℕ → Type 0
Leads e a b amount = ((e.u ≡ a) × ((e.v ≡ b) × (amount ≤ e.ahead))) ⊎ ((e.v ≡ a) × ((e.u ≡ b) × (amount ≤ e.back)))

-- so much more can go over the edge to its end b
pub record LeadsTo (e : Edge) (b amount : ℕ) : Type 0 where
  pub from : ℕ
  pub apart : from ≡ b → ⊥
  pub leads : Leads e from b amount
