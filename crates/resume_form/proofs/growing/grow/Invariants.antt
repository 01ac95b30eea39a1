use Rattle.std.proofs.Common.{length}
use Rattle.tspdef.specs.Bounds.{needed}
use Rattle.tspdef.specs.Trees as trees
use Rattle.verdict.specs.Bodies.{reopened_for}
use Rattle.certcheck.specs.Parts.{parts_of}
use Rattle.resume_form.specs.Growing.{IsGrowing, IsSaid}
use Rattle.resume_form.proofs.growing.grow.Given as goal

abbrev pub invariant-loop-part : goal.invariant-loop-part
invariant-loop-part l = (said : trees.Tree) → IsSaid l.instance l.told (parts_of l.initial.parts.items) said
    → IsGrowing l.instance (needed l.told) (needed l.level) (reopened_for l.instance l.level said) (length (parts_of l.initial.parts.items)) l.tree l.waiting.items (parts_of l.parts.items)

abbrev pub decreases-loop-part : goal.decreases-loop-part
decreases-loop-part l = length l.parts.items
