use Rattle.std.proofs.Common.{arith}
use Rattle.std.proofs.lemmas.Result.{IfOk-weaker}
use Rattle.branchx.specs.Cond.{conditions_of}
use Rattle.tspdef.specs.Rays.{zero_closing, IsRay}
use Rattle.std.proofs.Common.{◌≡◌}
use Rattle.pricer.proofs.DegreeLemmas.{tour_ray}
use Rattle.pricer.proofs.rays.ray_of_cycles.Goals as goal

pub returns-else-len-n : goal.returns-else-len-n
returns-else-len-n c = IfOk-weaker c.zero_closing.result (λ k. k ≡ zero_closing c.args.n) (IsRay c.args.n (conditions_of c.args.conditions.now) c.args.best)
    (λ k e. tour_ray c.args.n (conditions_of c.args.conditions.now) c.in_ok-cycle.cycle.items c.args.best k c.requires.many c.requires.is_path c.requires.pairs c.in_ok-cycle.ensures (let long = c.len.ensures in omega arith) e)
    c.zero_closing.ensures
