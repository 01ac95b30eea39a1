use Rattle.std.proofs.Common.{◌≡◌, ◌+◌, arith, get_or, sym, ◌∙◌, subst, min}
use Rattle.std.proofs.lemmas.Grind.{get_or_default_zero}
use Rattle.std.proofs.Math.ListN.{set}
use Rattle.maxflow.specs.Searches.{IsSearch}
use Rattle.maxflow.proofs.SearchLemmas.{search_meets}
use Rattle.maxflow.proofs.search.Search.meet.Goals as goal

pub returns-clause-tree : goal.returns-clause-tree
returns-clause-tree c =
    let t = c.args.self.now in
    let es = c.args.residual.now.edges.items in
    let q = c.requires in
    let e = c.index-reach.ensures ∙ get_or_default_zero t.amount.items c.args.from c.index-reach.result.now (omega (arith, t.amount_size, q.from_in)) in
    let f = search_meets es t.start t.n t.met t.rank.items t.parent.items t.amount.items c.args.place c.args.from c.args.to c.args.room
    (omega (arith, t.rank_size)) (omega (arith, t.parent_size)) (omega (arith, t.amount_size)) q.tree q.inside q.from_in q.to_in q.known q.fresh q.some q.leads in
    let m : c.min.result ≡ min c.args.room (get_or t.amount.items c.args.from 0) = omega (arith, c.min.ensures, e) in
    subst (λ v. IsSearch es t.start t.n (t.met + 1) (set t.rank.items c.args.to (t.met + 1)) (set t.parent.items c.args.to c.args.place) (set t.amount.items c.args.to v)) (sym m) f
