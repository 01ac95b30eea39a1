use Rattle.std.proofs.Common.{pos, get_or, refl, arith}
use Rattle.std.proofs.lemmas.Int.{ints}
use Rattle.lpcheck.proofs.Sums.{pushed_is}
use Rattle.lpcheck.proofs.step.add_piece.Goals as goal

pub returns-clause-gains : goal.returns-clause-gains
returns-clause-gains c = λ d.
    let cell = c.args.cell.now in
    let r = get_or c.args.rs.now cell.column (pos 0) in
    let size = c.requires.sizes cell.column (pos 0) c.requires.in_rs in
    pushed_is c.push.new.self.items c.args.pieces.now.items _ d r cell.coef c.in_ok-push.ensures.items (omega (arith, ints, size.low, size.high)) refl
