use Rattle.std.proofs.Common.{rules, ◌≡◌, ℕ, ◌+◌, ◌-◌, List, [], ◌∷◌, ◌++◌, length, subst, ap, ◌∙◌, arith}
use Rattle.std.proofs.lemmas.List.{length-append}
use Rattle.tspdef.specs.Cuts.{Cut, IsCut}
use Rattle.simplex.specs.Columns.{AreColumns}
use Rattle.nodelp.specs.Cuts.{AreCutRows}
use Rattle.nodelp.specs.Node.{Node, IsMissed}
use Rattle.nodelp.specs.Adding.{AreAdded}
use Rattle.nodelp.proofs.NodeLemmas.{one_added, fine, all_last, all_front}
use Rattle.nodelp.proofs.node.NodeLp.add_cuts.Goals as goal

pub loop-cut-preserved : goal.loop-cut-preserved
loop-cut-preserved c =
    let before = c.args.self.now in
    let now = c.loop-cut.self in
    let after = c.add_cut.new.self in
    let cut = c.in-Some.cut in
    let rest = c.loop-cut.rest.items in
    let left = c.pop.new.self.items in
    let top : rest ≡ left ++ cut ∷ [] = search rules in
    let longer : length rest ≡ length left + 1 = ap (λ (l : List Cut). length l) top ∙ length-append left (cut ∷ []) in
    let fewer = c.loop-cut.invariant.fewer in
    let is_cut : IsCut before.program.n cut = all_last (IsCut before.program.n) rest left cut top c.loop-cut.invariant.cuts in
    let missed : IsMissed before.program cut = all_last (IsMissed before.program) rest left cut top c.loop-cut.invariant.missed in
    let columns = subst (λ (m : Node). AreColumns m.program.n m.program.cols) c.self.view_is c.cols.ensures.distinct in
    let rows = subst (λ (m : Node). AreCutRows m.program.n m.program.rows m.cuts) c.self.view_is c.self.invariant in
    let more : length c.args.cuts.items - length rest + 1 ≡ length c.args.cuts.items - length left = omega arith in
    record {
      fewer = omega arith;
      added = subst (λ (k : ℕ). AreAdded k before after) more
          (one_added (length c.args.cuts.items - length rest) before now after cut columns (fine before.program c.requires.clean c.requires.solved) missed is_cut rows c.loop-cut.invariant.added c.in_ok-add_cut.ensures);
      cuts = all_front (IsCut before.program.n) rest left cut top c.loop-cut.invariant.cuts;
      missed = all_front (IsMissed before.program) rest left cut top c.loop-cut.invariant.missed;
    }
