use Rattle.std.proofs.Common.{arith, sym, ◌∙◌, ap, subst, slice_set}
use Rattle.maxflow.specs.Searches.{IsSearch}
use Rattle.maxflow.proofs.SearchLemmas.{search_begins, zeros}
use Rattle.maxflow.proofs.search.Search.restart.Goals as goal

pub returns-clause-tree : goal.returns-clause-tree
returns-clause-tree c = λ es.
    let t = c.args.self.now in
    let f = search_begins es t.start t.n t.parent.items t.amount.items (omega (arith, t.amount_size)) c.requires in
    subst (λ v. IsSearch es t.start t.n 1 (slice_set v t.start 1) t.parent.items (slice_set t.amount.items t.start 4294967295)) (sym (c.fill.ensures.items (λ y e. e) ∙ ap zeros t.rank_size)) f
