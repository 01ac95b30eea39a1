use Rattle.std.proofs.Common.{◌≤◌, ◌<◌, ◌^◌, ℕ, ◌==◌, arith}
use Rattle.maxflow.specs.Crossings.{crossing}
use Rattle.maxflow.proofs.CrossingLemmas.{one_holds, one_free}
use Rattle.maxflow.proofs.route.flow.Goals as goal

too_much : (whole : ℕ) → 18446744073709551615 ≤ whole → whole < 2 ^ 53 → ⊥
too_much whole h l = omega arith

pub unreachable-requires : goal.unreachable-requires
unreachable-requires c =
    let p = λ (k : ℕ). k == c.args.s in
    let all = rw c.in-None.is at c.in_ok-side.ensures in
    too_much (crossing c.args.pairs.now p) (all p (one_holds c.args.s) (one_free c.args.n c.args.s c.args.stops.now c.requires.free)) (c.requires.small p)
