use Rattle.std.proofs.Common.{◌≡◌, ℕ, sym, subst, ◌∙◌}
use Rattle.tspdef.specs.Cuts.{Cut, IsCut}
use Rattle.nodelp.specs.Node.{Node}
use Rattle.nodelp.proofs.NodeLemmas.{added_further}
use Rattle.nodelp.proofs.node.NodeLp.begin_with_one.Goals as goal

pub returns-then-n : goal.returns-then-n
returns-then-n c =
    let old = c.self.inside in
    let copy = c.in_ok-copy.field-0 in
    let cities : c.n.result ≡ old.lp.n = c.if-n.true ∙ c.n-2.ensures.value in
    let here : IsCut old.lp.n c.args.cut.now = subst (λ (n : ℕ). IsCut n c.args.cut.now) cities c.n.ensures.is_cut in
    let copied : IsCut old.lp.n copy = subst (λ (k : Cut). IsCut old.lp.n k) (sym c.in_ok-copy.ensures) here in
    added_further c.args.self.now c.add_cut.new.self copy (subst (λ (m : Node). IsCut m.program.n copy) c.self.view_is copied) c.in_ok-add_cut.ensures
