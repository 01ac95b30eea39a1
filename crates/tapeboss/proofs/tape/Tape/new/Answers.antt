use Rattle.std.proofs.Common.{refl}
use Rattle.tapeboss.proofs.Playing.{started}
use Rattle.tapeboss.proofs.tape.Tape.new.Goals as goal

pub returns-clause-nothing : goal.returns-clause-nothing
returns-clause-nothing c = started c.args.boss _ refl refl c.new.ensures.items refl
