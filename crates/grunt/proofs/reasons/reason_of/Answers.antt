use Rattle.std.proofs.Common.{◌≡◌, sym, ◌∙◌, ap, subst}
use Rattle.simplex.specs.Lp.{Program}
use Rattle.nodelp.specs.Node.{HasSolved}
use Rattle.grunt.specs.Whys.{HasRough}
use Rattle.grunt.proofs.ReasonLemmas.{had_rounds, is_checked, is_rough}
use Rattle.grunt.proofs.reasons.reason_of.Goals as goal

pub returns-then-rounds-eq-ROUNDS : goal.returns-then-rounds-eq-ROUNDS
returns-then-rounds-eq-ROUNDS c = λ i path l s.
    let rounds : c.args.node.program.rounds ≡ 200 = ap (λ (p : Program). p.rounds) (sym c.lp.ensures) ∙ sym c.rounds.ensures ∙ c.if-rounds-eq-ROUNDS.true in
    had_rounds i path l c.args.node c.args.odd c.into_lp.result c.into_lp.ensures rounds s

pub returns-then-is_solved : goal.returns-then-is_solved
returns-then-is_solved c = λ i path l s.
    let rounds : c.args.node.program.rounds ≡ 200 → ⊥ = λ e. c.if-rounds-eq-ROUNDS.false (c.rounds.ensures ∙ ap (λ (p : Program). p.rounds) c.lp.ensures ∙ e) in
    is_checked i path l c.args.node c.args.odd c.into_lp-then-is_solved.result c.into_lp-then-is_solved.ensures rounds
    (subst (λ (p : Program). HasSolved p.last) c.lp-2.ensures (c.is_solved.ensures.solved c.if-is_solved.true)) s

pub returns-else-is_solved : goal.returns-else-is_solved
returns-else-is_solved c = λ i path l s.
    let rounds : c.args.node.program.rounds ≡ 200 → ⊥ = λ e. c.if-rounds-eq-ROUNDS.false (c.rounds.ensures ∙ ap (λ (p : Program). p.rounds) c.lp.ensures ∙ e) in
    is_rough i path l c.args.node c.args.odd c.into_lp-else-is_solved.result c.into_lp-else-is_solved.ensures rounds
    (subst (λ (p : Program). HasRough p.last) c.lp-2.ensures (c.is_solved.ensures.rough c.if-is_solved.false)) s
