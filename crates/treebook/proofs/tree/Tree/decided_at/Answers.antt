use Rattle.std.proofs.Common.{ℕ, List, sym, ◌∙◌, ap, arith, ◌||◌}
use Rattle.std.specs.Prelude.{Bool}
use Rattle.std.proofs.Math.Bool.{or-false}
use Rattle.std.proofs.lemmas.Bool.{or_right}
use Rattle.tspdef.specs.Tours.{has_step}
use Rattle.tspdef.specs.Paths.{is_decided}
use Rattle.branchx.specs.Cond.{decides}
use Rattle.pricer.specs.Trails.{condition_of}
use Rattle.treebook.specs.Tables.{path_at}
use Rattle.treebook.proofs.WalkLemmas.{decided_step, decided_at_root}
use Rattle.treebook.proofs.tree.Tree.decided_at.Goals as goal

pub returns-then-decides : goal.returns-then-decides
returns-then-decides c =
    let nodes = c.args.self.now.nodes in
    let d = condition_of c.in-Some.step in
    sym (sym c.loop-parent.invariant.so_far ∙ decided_step c.args.self.now.fixed nodes c.loop-parent.here c.in-Some.parent d c.args.u c.args.v c.in-Some.ensures
    ∙ or_right (is_decided (path_at c.args.self.now.fixed nodes c.in-Some.parent) c.args.u c.args.v) (decides d c.args.u c.args.v) (sym c.decides.ensures ∙ c.if-decides.true))

pub loop-parent-preserved : goal.loop-parent-preserved
loop-parent-preserved c =
    let nodes = c.args.self.now.nodes in
    let d = condition_of c.in-Some.step in
    let behind = c.in-Some.ensures.behind in let within = c.loop-parent.invariant.within in
    let before = is_decided (path_at c.args.self.now.fixed nodes c.in-Some.parent) c.args.u c.args.v in
    record {
      within = omega arith;
      so_far = sym (or-false before) ∙ ap (λ (b : Bool). before || b) (sym (sym c.decides.ensures ∙ c.if-decides.false))
          ∙ sym (decided_step c.args.self.now.fixed nodes c.loop-parent.here c.in-Some.parent d c.args.u c.args.v c.in-Some.ensures) ∙ c.loop-parent.invariant.so_far;
    }

pub returns : goal.returns
returns c =
    let nodes = c.args.self.now.nodes in
    let fixed = c.args.self.now.fixed in
    c.join.ensures ∙ ap (λ (ps : List (ℕ × ℕ)). has_step ps c.args.u c.args.v) c.fixed.ensures
    ∙ sym (decided_at_root fixed nodes c.loop-parent.here c.args.u c.args.v c.in_default.ensures) ∙ c.loop-parent.invariant.so_far
