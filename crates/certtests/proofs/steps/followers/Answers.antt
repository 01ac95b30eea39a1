use Rattle.std.proofs.Common.{arith}
use Rattle.certtests.proofs.StepLemmas.{laid_within, laid_more}
use Rattle.certtests.proofs.steps.followers.Goals as goal

pub index_mut-requires : goal.index_mut-requires
index_mut-requires c =
    let low = laid_within c.args.cities.now c.loop-city.followers.items c.loop-city.behind c.loop-city.rest.now c.in-Some.before.now c.in-Some.city.now c.requires c.loop-city.invariant c.in-Some.ensures.cases.0 in
    let long = c.loop-city.followers.ok.0 in omega arith

pub loop-city-preserved : goal.loop-city-preserved
loop-city-preserved c =
    laid_more c.args.cities.now c.loop-city.followers.items c.loop-city.behind c.loop-city.rest.now c.in-Some.before.now c.in-Some.city.now c.requires c.loop-city.invariant c.in-Some.ensures.cases.0
