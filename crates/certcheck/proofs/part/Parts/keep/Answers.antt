use Rattle.std.proofs.Common.{◌≤◌, length, arith}
use Rattle.certcheck.proofs.PartLemmas.{one_kept, one_too_many}
use Rattle.certcheck.proofs.part.Parts.keep.Goals as goal

pub returns-in_ok-push_back : goal.returns-in_ok-push_back
returns-in_ok-push_back c = λ said k.
    one_kept c.args.self.now.kept.items c.push_back.new.self.items c.args.self.now.full c.args.part said c.in_ok-push_back.ensures.items k

pub returns-else-len-lt-MOST : goal.returns-else-len-lt-MOST
returns-else-len-lt-MOST c = λ said k.
    let long = c.len.ensures in
    let test = c.if-len-lt-MOST.false in
    let many : 1048577 ≤ length c.args.self.now.kept.items = omega arith in
    one_too_many c.args.self.now.kept.items c.args.self.now.full c.args.part said many k
