use Rattle.std.proofs.Common.{◌≡◌, ◌+◌, ◌*◌, true, List, Bool, set, sym, ap, ◌∙◌}
use Rattle.branchx.specs.Cond.{condition_of}
use Rattle.branchx.specs.Table.{tabled}
use Rattle.branchx.proofs.PathLemmas.{pair-at, pair_of-is, decides-pair, decides-none}
use Rattle.branchx.proofs.TableLemmas.{tabled-next, tabled-kept}
use Rattle.certcheck.proofs.marked.mark_each.Goals as goal
use Rattle.certcheck.proofs.marked.mark_each.Goals.{in-Some, in_default}

pub place-requires : goal.place-requires
place-requires c =
    pair_of-is c.args.n (condition_of c.cond-item.result) c.in-Some.u c.in-Some.v
    (pair-at c.args.n c.args.conditions.now c.loop-cond.cond-index c.cond-item.result c.loop-cond-test.true c.cond-item.is c.requires.is_path)
    (sym c.pair.ensures ∙ c.in-Some.is)

pub loop-cond-preserved : goal.loop-cond-preserved
loop-cond-preserved c =
    let n = c.args.n in
    let xs = c.args.conditions.now in
    let i = c.loop-cond.cond-index in
    let x = c.cond-item.result in
    let long = c.loop-cond.auto.table ∙ c.requires.square in
    elim c.match-pair.branch [
      | in-Some w ↦
          let pair = sym c.pair.ensures ∙ w.in-Some.is in
          let apart = pair_of-is n (condition_of x) w.in-Some.u w.in-Some.v (pair-at n xs i x c.loop-cond-test.true c.cond-item.is c.requires.is_path) pair in
          let marked : c.match-pair.table ≡ set c.loop-cond.table (w.in-Some.u * n + w.in-Some.v) true = w.table-is ∙ ap (λ k. set c.loop-cond.table k true) w.place.ensures.value in
          λ u v low high. ap (λ (t : List Bool). tabled n t u v) marked
          ∙ tabled-next n c.loop-cond.table xs i x w.in-Some.u w.in-Some.v long c.loop-cond-test.true c.cond-item.is apart (λ u v. decides-pair (condition_of x) w.in-Some.u w.in-Some.v u v pair) c.loop-cond.invariant u v low high
      | in_default w ↦
          λ u v low high. ap (λ (t : List Bool). tabled n t u v) w.table-is
          ∙ tabled-kept n c.loop-cond.table xs i x c.loop-cond-test.true c.cond-item.is (λ u v. decides-none (condition_of x) u v (λ p e. w.in_default.not-Some p (c.pair.ensures ∙ e))) c.loop-cond.invariant u v low high
    ]
