use Rattle.std.proofs.Common.{ℕ, ◌∷◌, length, ap, sym, subst, ◌∙◌}
use Rattle.tspdef.specs.Bounds.{needed}
use Rattle.treebook.specs.Tables.{fresh}
use Rattle.verdict.specs.Bodies.{reopened_for}
use Rattle.verdict.specs.Parts as parts
use Rattle.certcheck.specs.Parts.{parts_of}
use Rattle.resume_form.specs.Growing.{IsGrowing}
use Rattle.resume_form.proofs.Taking.{starts, ends}
use Rattle.resume_form.proofs.growing.grow.Goals as goal

pub loop-part-init : goal.loop-part-init
loop-part-init c =
    starts c.args.instance.now c.args.told c.args.level c.in_ok-tree.tree c.args.parts.items c.push_front.new.self.items c.seedling.ensures.pairs
    (c.in_ok-push_front.ensures.items ∙ ap (λ q. 0 ∷ q) c.new-waiting.ensures.items) (c.in_ok-tree.ensures.table ∙ ap (λ (r : ℕ). record { n = c.args.instance.now.n; fixed = c.args.instance.now.fixed; nodes = fresh; room = r }) (c.len.ensures ∙ c.args.parts.ok.0))

pub take-requires : goal.take-requires
take-requires c = let said = c.requires.said.0 in (
  parts_of c.pop_front.new.self.items,
  (
    reopened_for c.args.instance.now c.args.level said,
    length (parts_of c.args.parts.items),
    subst (λ q. IsGrowing c.args.instance.now (needed c.args.told) (needed c.args.level) (reopened_for c.args.instance.now c.args.level said) (length (parts_of c.args.parts.items)) c.loop-part.tree c.loop-part.waiting.items (parts_of q))
        c.in-Some.ensures.items (c.loop-part.invariant said c.requires.said.1),
  ),
)

pub loop-part-preserved : goal.loop-part-preserved
loop-part-preserved c = λ said h.
    c.in_ok-take.ensures (reopened_for c.args.instance.now c.args.level said) (length (parts_of c.args.parts.items)) (parts_of c.pop_front.new.self.items)
    (subst (λ q. IsGrowing c.args.instance.now (needed c.args.told) (needed c.args.level) (reopened_for c.args.instance.now c.args.level said) (length (parts_of c.args.parts.items)) c.loop-part.tree c.loop-part.waiting.items (parts_of q))
    c.in-Some.ensures.items (c.loop-part.invariant said h))

pub returns : goal.returns
returns c = ends c.args.instance.now c.args.told c.args.level c.loop-part.tree c.args.parts.items c.loop-part.parts.items c.loop-part.waiting.items (sym c.loop-part.parts.ok.0 ∙ c.in_default.ensures.cases.0) c.loop-part.invariant
