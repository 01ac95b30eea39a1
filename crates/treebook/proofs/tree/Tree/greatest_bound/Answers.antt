use Rattle.std.proofs.Common.{ℕ, List, subst, ◌∙◌}
use Rattle.treebook.specs.Tables.{IsTable}
use Rattle.treebook.proofs.BornLemmas.{one_further}
use Rattle.treebook.proofs.tree.Tree.greatest_bound.Goals as goal

pub borne_at-most-requires-clause-closes : goal.borne_at-most-requires-clause-closes
borne_at-most-requires-clause-closes c =
    let i = c.args.instance.now in
    let t = c.args.self.now in
    let is_table : IsTable i.n i.fixed t.nodes =
    subst (λ (ps : List (ℕ × ℕ)). IsTable i.n ps t.nodes) c.requires.fixed (subst (λ (n : ℕ). IsTable n t.fixed t.nodes) (c.n-n.ensures.value ∙ c.requires.cities) c.n-n.ensures.is_table) in
    c.tables_are_sound.ensures.closes i t.nodes 0 is_table c.requires.sound

pub loop-k-preserved : goal.loop-k-preserved
loop-k-preserved c =
    one_further c.args.instance.now c.args.self.now.nodes c.args.length c.loop-k.k c.loop-k.most c.loop-k.invariant c.borne_at-most.result c.borne_at-most.ensures
