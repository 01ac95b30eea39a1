use Rattle.std.proofs.Common.{◌≡◌, sym, ap, ◌∙◌, arith}
use Rattle.fracgraph.specs.Labels.{root_of, merged}
use Rattle.fracgraph.proofs.RootLemmas.{merged_roots}
use Rattle.fracgraph.proofs.labels.merge.Goals as goal

pub returns-then-a-b-clause-roots : goal.returns-then-a-b-clause-roots
returns-then-a-b-clause-roots c = λ k h.
    let ps = c.args.parents.now in
    let short = c.shorten-2.new.parents in
    let a = c.root-a in
    let b = c.root-b in
    let u = c.requires.u_below in
    let v = c.requires.v_below in
    let same : root_of short k ≡ root_of ps k = c.shorten-2.ensures.roots k (omega arith) ∙ c.shorten.ensures.roots k h in
    rw (c.max.ensures, c.min.ensures, sym a.ensures.value, sym b.ensures.value)
    (merged_roots short a.result b.result c.shorten-2.ensures.fall c.if-a-b.true (let l = a.ensures.least in omega arith) (let l = b.ensures.least in omega arith)
    (c.shorten-2.ensures.own a.result (c.shorten.ensures.own a.result a.ensures.own)) (c.shorten-2.ensures.own b.result (c.shorten.ensures.own b.result b.ensures.own)) k (omega arith)
    ∙ ap (merged a.result b.result) same)
