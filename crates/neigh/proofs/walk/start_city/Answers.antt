use Rattle.std.proofs.Common.{◌≡◌, ◌<◌, true, false, sym, ◌∙◌, arith}
use Rattle.neigh.specs.Walk.{is_end}
use Rattle.neigh.proofs.WalkLemmas.{start_at, start_behind, end_of, no_end_of}
use Rattle.neigh.proofs.walk.start_city.Goals as goal

pub returns-then-counts-city-le1-clause-start : goal.returns-then-counts-city-le1-clause-start
returns-then-counts-city-le1-clause-start c =
    let i = c.args.instance.now in
    let k = c.loop-city.city in
    let below : k < i.n = omega arith in
    let count = c.requires.counts k below in
    let ends : is_end i.fixed k ≡ true = end_of i.fixed k (omega arith) in
    sym (start_at (is_end i.fixed) k i.n below ends) ∙ c.loop-city.invariant

pub loop-city-preserved : goal.loop-city-preserved
loop-city-preserved c =
    let i = c.args.instance.now in
    let k = c.loop-city.city in
    let below : k < i.n = omega arith in
    let count = c.requires.counts k below in
    let ends : is_end i.fixed k ≡ false = no_end_of i.fixed k (omega arith) in
    sym (start_behind (is_end i.fixed) k i.n below ends) ∙ c.loop-city.invariant
