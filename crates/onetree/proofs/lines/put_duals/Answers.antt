use Rattle.std.proofs.Common.{◌≡◌, ◌+◌, ◌++◌, ◌∷◌, [], get_or, pos, ap, ◌∙◌, rules}
use mir.Syntax.{w64}
use mir.Val.{SFits}
use Rattle.std.proofs.lemmas.Int.{to_z-of_z}
use Rattle.std.proofs.lemmas.List.{get_or_default}
use Rattle.certdef.specs.Items.{city_line}
use Rattle.onetree.specs.Certificates.{said}
use Rattle.onetree.proofs.LineLemmas.{city_put, city_passed, dual_lines, bits_zero, zero_bits}
use Rattle.onetree.proofs.lines.put_duals.Goals as goal
use Rattle.onetree.proofs.lines.put_duals.Goals.{then-dual-ne0+in_ok-put_city, else-dual-ne0}

pub loop-place-preserved : goal.loop-place-preserved
loop-place-preserved c =
    let duals = c.args.duals.now in
    let i = c.loop-place.place in
    let y = get_or duals i (pos 0) in
    let fits : SFits w64 y = search rules in
    let at : y ≡ get_or duals i y = get_or_default duals i (pos 0) y c.loop-place-test.true in
    elim c.if-dual-ne0.branch [
      | then-dual-ne0+in_ok-put_city w ↦
          city_put c.loop-place.out.items c.if-dual-ne0.out.items (c.args.out.now.items ++ dual_lines 1 duals) duals i y c.loop-place-test.true at
          (λ e. w.if-dual-ne0.true (bits_zero y e))
          (ap (λ v. v.items) w.out-is ∙ w.in_ok-put_city.ensures ∙ ap (λ x. c.loop-place.out.items ++ said (city_line (i + 1) x ∷ [])) (to_z-of_z w64 y fits))
          c.loop-place.invariant
      | else-dual-ne0 w ↦
          city_passed c.loop-place.out.items c.if-dual-ne0.out.items (c.args.out.now.items ++ dual_lines 1 duals) duals i y c.loop-place-test.true at
          (zero_bits y fits w.if-dual-ne0.false) (ap (λ v. v.items) w.out-is) c.loop-place.invariant
    ]
