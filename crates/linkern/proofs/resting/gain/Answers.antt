use Rattle.std.proofs.Common.{ℕ, ◌≡◌, true, length, arith}
use borrow.Author.Count.{below_more}
use Rattle.tspdef.specs.Sets.{has}
use Rattle.neigh.specs.Near.{near_to}
use Rattle.linkern.specs.Exchanges.{IsPairAtRest}
use Rattle.linkern.proofs.RestLemmas.{rest_from}
use Rattle.linkern.proofs.resting.gain.Goals as goal

pub loop-a-preserved : goal.loop-a-preserved
loop-a-preserved c = below_more (λ b. (z : ℕ) → has (near_to c.args.near.now b) z ≡ true → IsPairAtRest c.args.instance.now c.args.tour.now b z) c.loop-a.a c.loop-a.invariant c.in_default.ensures

pub returns-clause-found : goal.returns-clause-found
returns-clause-found c = rest_from c.args.instance.now c.args.near.now (length c.args.tour.now) c.args.tour.now c.n-a-end.ensures.tour (λ a z h l. c.loop-a.invariant a (omega arith) z l)
