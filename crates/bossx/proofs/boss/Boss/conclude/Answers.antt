use Rattle.std.proofs.Common.{rules, ℕ, Some, ◌≡◌, ◌∙◌, sym, ap}
use Rattle.bossx.specs.Books.{node_of, taken}
use Rattle.bossx.specs.Answers.{reported_after}
use Rattle.bossx.proofs.boss.Boss.conclude.Goals as goal

pub returns-in-Taken : goal.returns-in-Taken
returns-in-Taken c =
    let b = c.args.self.now in
    let at : c.node_of-node.result ≡ node_of b c.args.lease = search rules in
    c.settle.ensures ∙ ap (λ (n : ℕ). taken b (Some c.args.lease) n c.args.brought) at ∙ ap (reported_after b c.args.lease c.args.brought) (sym c.in-Taken.is)
