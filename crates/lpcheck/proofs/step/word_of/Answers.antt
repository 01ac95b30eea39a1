use Rattle.std.proofs.Common.{arith, ◌≤◌, ◌^◌}
use Rattle.std.proofs.Math.Pow.{pow_mono}
use Rattle.lpcheck.proofs.step.word_of.Goals as goal

pub returns-clause-most : goal.returns-clause-most
returns-clause-most c =
    let low : 2 ^ c.args.power ≤ 2 ^ 61 = pow_mono {i = c.args.power} {j = 61} c.requires in
    grind (arith, low)
