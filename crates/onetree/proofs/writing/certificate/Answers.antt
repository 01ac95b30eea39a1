use Rattle.std.proofs.Common.{length, refl}
use Rattle.onetree.proofs.LineLemmas.{parts_put}
use Rattle.onetree.proofs.writing.certificate.Goals as goal

pub returns : goal.returns
returns c =
    parts_put c.new-out.result.items c.put_title.new.out.items c.put_size.new.out.items c.put_bound.new.out.items c.put_duals.new.out.items c.args.duals.now (length c.args.duals.now) c.args.bound
    c.new-out.ensures.items refl c.in_ok-put_title.ensures c.in_ok-put_size.ensures c.in_ok-put_bound.ensures c.in_ok-put_duals.ensures
