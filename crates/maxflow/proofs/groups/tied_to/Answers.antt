use Rattle.std.proofs.Common.{◌≡◌, slice_index, ◌∙◌, subst, arith, ⊎_elim}
use Rattle.std.proofs.lemmas.Bool.{cases_eq}
use Rattle.std.proofs.lemmas.Grind.{get_or_default_zero}
use Rattle.maxflow.specs.Shrinking.{AreTied}
use Rattle.maxflow.proofs.groups.tied_to.Goals as goal
use Rattle.maxflow.proofs.groups.tied_to.Goals.{then-b-a+then-group_of-b+else-weight-value, else-weight-value-via-then-weight-value+else-degrees-b, else-weight-value-via-else-weight-value, else-b-a, else-b-a-via-then-b-a+else-group_of-b, else-b-a-via-else-b-a}

pub loop-b-preserved : goal.loop-b-preserved
loop-b-preserved c =
    let es = c.args.entries.now in
    let groups = c.args.groups.now in
    let a = c.args.a in
    let b = c.loop-b.b in
    λ k f other below tied. ⊎_elim
    (λ (e : k ≡ b).
    let own : slice_index groups b ≡ b = subst (λ j. slice_index groups j ≡ j) e f.own in
    let t : AreTied es groups a b = subst (AreTied es groups a) e tied in
    let apart : b ≡ a → ⊥ = λ q. other (e ∙ q) in
    let one = t.one in
    let two = t.other in
    elim c.if-b-a.branch [
      | then-b-a+then-group_of-b+else-weight-value w ↦
          let h = c.loop-b-test.true in
          let size = c.in_ok-values.ensures.size in
          let value = w.index-value.ensures ∙ get_or_default_zero c.in_ok-values.values.items b w.index-value.result.now (omega (arith, size, h)) ∙ c.in_ok-values.ensures.values b h apart in
          elim w.else-weight-value.branch [
            | else-weight-value-via-then-weight-value+else-degrees-b v ↦
                let l = v.if-degrees-b.false in
                let d = c.requires.degrees b (record { below = h; own = own }) in
                absurd (omega (arith, l, d, value, two))
            | else-weight-value-via-else-weight-value v ↦
                let l = v.if-weight-value.false in
                let d = c.requires.degrees a c.requires.first in
                absurd (omega (arith, l, d, value, one))
          ]
      | else-b-a w ↦ elim w.else-b-a.branch [
        | else-b-a-via-then-b-a+else-group_of-b v ↦ absurd (v.if-group_of-b.false (v.group_of.ensures ∙ own))
        | else-b-a-via-else-b-a v ↦ absurd (apart v.if-b-a.false)
      ]
    ])
    (λ (d : k ≡ b → ⊥). c.loop-b.invariant k f other (omega (arith, below, d)) tied)
    (cases_eq k b)
