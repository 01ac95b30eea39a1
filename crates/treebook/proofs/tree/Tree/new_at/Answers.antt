use Rattle.std.proofs.Common.{ℕ, refl, subst, arith}
use Rattle.tspdef.specs.Paths.{IsApartFrom}
use Rattle.pricer.specs.Trails.{condition_of}
use Rattle.treebook.proofs.WalkLemmas.{new_up, new_down, new_at_root}
use Rattle.treebook.proofs.tree.Tree.new_at.Goals as goal

pub loop-parent-preserved : goal.loop-parent-preserved
loop-parent-preserved c =
    let nodes = c.args.self.now.nodes in
    let d = condition_of c.in-Some.step in
    let n = c.args.self.now.n in
    let s = c.args.set.now.cities in
    let behind = c.in-Some.ensures.behind in let within = c.loop-parent.invariant.within in
    let apart : IsApartFrom n s d = subst (λ (m : ℕ). IsApartFrom m s d) c.n.ensures.value (c.is_apart_from.ensures.0 c.if-not-is_apart_from.false) in
    record {
      within = omega arith;
      down = λ h. c.loop-parent.invariant.down (new_down n c.args.self.now.fixed nodes c.loop-parent.here c.in-Some.parent d s c.in-Some.ensures h apart);
      up = λ h. (new_up n c.args.self.now.fixed nodes c.loop-parent.here c.in-Some.parent d s c.in-Some.ensures (c.loop-parent.invariant.up h)).0;
    }

pub returns : goal.returns
returns c = (
  λ e. c.loop-parent.invariant.down (new_at_root c.args.self.now.n c.args.self.now.fixed c.args.self.now.nodes c.loop-parent.here c.args.set.now.cities c.in_default.ensures),
  λ h. refl,
)
