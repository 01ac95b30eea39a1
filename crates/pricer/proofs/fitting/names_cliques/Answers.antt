use Rattle.std.proofs.Common.{subst, sym, ◌↔◌, ◌≡◌, List, ℕ, ◌++◌, ◌∷◌, []}
use Rattle.tspdef.specs.Paths.{Condition, IsClique, condition_at}
use Rattle.tspdef.specs.Closings as defs
use Rattle.pricer.proofs.ListLemmas.{all_push, all_front}
use Rattle.pricer.proofs.fitting.names_cliques.Goals as goal

-- one depth less is left
step : (path : List Condition) (all rest more : List (ℕ × ℕ)) (q : ℕ × ℕ) → rest ≡ more ++ q ∷ [] → IsClique (condition_at path q.0) → (defs.NamesCliques path all ↔ defs.NamesCliques path rest)
    → defs.NamesCliques path all ↔ defs.NamesCliques path more
step path all rest more q e is h = (
  λ a. all_front (λ q. IsClique (condition_at path q.0)) more q (subst (defs.NamesCliques path) e (h.0 a)),
  λ a. h.1 (subst (defs.NamesCliques path) (sym e) (all_push (λ q. IsClique (condition_at path q.0)) more q a is)),
)

pub loop-q-preserved : goal.loop-q-preserved
loop-q-preserved g c = record {
  left = step (g.T.Trail.conditions c.args.trail) c.args.conds.now c.loop-q.rest.now c.in-Some.more.now c.in-Some.q.now c.in-Some.ensures.cases.0 (subst IsClique c.step_at-there.ensures.step (c.is_clique.ensures.0 c.if-not-is_clique.false)) c.loop-q.invariant.left;
  near = c.step_at-there.ensures.near;
  cities = c.step_at-there.ensures.cities;
}
