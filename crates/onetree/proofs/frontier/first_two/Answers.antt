use Rattle.std.proofs.Common.{◌≡◌, rules, false, replicate}
use Rattle.onetree.proofs.Growing.{two_marked}
use Rattle.onetree.proofs.frontier.first_two.Goals as goal

pub returns-clause-outside : goal.returns-clause-outside
returns-clause-outside c =
    let e : c.in_ok-inside.inside.items ≡ replicate c.args.n false = search rules in
    two_marked c.in_ok-inside.inside.items c.args.n c.requires e
