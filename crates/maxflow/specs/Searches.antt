-- A search through a network: which cities it met, in which order, over which edges.
use Rattle.std.specs.Prelude.{◌≡◌, ℕ, ◌+◌, ◌<◌, ◌≤◌, Bool, nat_lt, cond, List, sum_by, length, slice_index}
use Rattle.maxflow.specs.declared.residual.Edge.{Edge}
use Rattle.maxflow.specs.declared.search.Search.{Search}
use Rattle.maxflow.specs.Edges.{edge_at, Leads}

-- How a city was met: over an edge that leads there from a city that was met before, to which at least as much can be sent.
pub record IsMetBy (es : List Edge) (n : ℕ) (rank parent amount : List ℕ) (v : ℕ) : Type 0 where
  pub from : ℕ
  pub from_in : from < n
  pub inside : slice_index parent v < length es
  pub known : 0 < slice_index rank from
  pub before : slice_index rank from < slice_index rank v
  pub shrinks : slice_index amount v ≤ slice_index amount from
  pub leads : Leads (edge_at es (slice_index parent v)) from v (slice_index amount v)

-- how many cities were not met
abbrev pub unmet : List ℕ → ℕ
unmet rank = sum_by (λ r. cond (nat_lt 0 r) 0 1) rank

-- a city was met
abbrev pub is_met : List ℕ → ℕ → Bool
is_met rank v = nat_lt 0 (slice_index rank v)

-- from the start, each city was met over an edge from one that was met before
pub record IsSearch (es : List Edge) (start n met : ℕ) (rank parent amount : List ℕ) : Type 0 where
  pub start_in : start < n
  pub start_met : 0 < slice_index rank start
  pub top : (v : ℕ) → v < n → slice_index rank v ≤ met
  pub counted : met + unmet rank ≡ n
  pub some : (v : ℕ) → v < n → 0 < slice_index rank v → 0 < slice_index amount v
  pub via : (v : ℕ) → v < n → 0 < slice_index rank v → (v ≡ start → ⊥) → IsMetBy es n rank parent amount v

abbrev pub IsTree : List Edge → Search → Type 0
IsTree es t = IsSearch es t.start t.n t.met t.rank.items t.parent.items t.amount.items
