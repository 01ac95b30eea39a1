use Rattle.std.proofs.Common.{[], drop, sym, ap, ◌∙◌, subst}
use Rattle.std.specs.Prelude.{nat_abs}
use Rattle.certline.specs.Spelling.{first_is, BeginsWith}
use Rattle.certline.proofs.Signed.{negative_spelled}
use Rattle.certline.proofs.shapes.signed_dual.Goals as goal

pub returns-in-None-clause-none : goal.returns-in-None-clause-none
returns-in-None-clause-none c x d e =
    let minus = ap (first_is 45) (sym c.tail-word.ensures.same) ∙ sym c.begins-2.ensures.same ∙ c.if-begins.true in
    c.in-None.ensures.none (nat_abs x) d (subst (λ t. BeginsWith t (nat_abs x) []) (ap (drop 1) (sym c.tail-word.ensures.same) ∙ sym c.tail.ensures.same) (negative_spelled c.args.text.now x d e minus))
