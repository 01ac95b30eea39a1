use Rattle.std.proofs.Common.{◌≡◌, List, All, take, sym, ap, subst, ◌∙◌}
use Rattle.std.proofs.lemmas.List.Elements.{All-filter, All-take}
use Rattle.tspdef.specs.Cuts.{Cut, IsCut}
use Rattle.cutpool.specs.Pool.{Pool, misses}
use Rattle.cutpool.proofs.pool.CutPool.violated.Goals as goal

pub returns-clause-cuts : goal.returns-clause-cuts
returns-clause-cuts c =
    let x = c.args.x.now in
    let keys = c.as_slice-cut-items.result.now in
    let n : c.self.inside.n ≡ x.n = ap (λ (p : Pool). p.n) c.self.view_is ∙ sym c.requires in
    let all = subst (λ k. All (IsCut k) keys) n (subst (λ (ks : List Cut). All (IsCut c.self.inside.n) ks) (sym c.as_slice-cut-items.ensures.keys) c.self.invariant.cuts) in
    subst (λ (cs : List Cut). All (IsCut x.n) cs) (sym c.loop-cut.invariant) (All-filter (misses x) (IsCut x.n) (take c.loop-cut.cut-index keys) (All-take (IsCut x.n) c.loop-cut.cut-index keys all))
