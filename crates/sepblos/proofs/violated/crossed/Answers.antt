use Rattle.std.proofs.Common.{sym, ◌∙◌}
use Rattle.tspdef.specs.Cuts.{sets_of}
use Rattle.sepblos.proofs.MarkLemmas.{crosses_none}
use Rattle.sepblos.proofs.violated.crossed.Goals as goal

pub returns-then-not-is_marked-2-clause-value : goal.returns-then-not-is_marked-2-clause-value
returns-then-not-is_marked-2-clause-value c =
    let e = c.args.entry in
    let marks = c.requires.marks in
    sym (crosses_none (sets_of c.args.cut.now) e.u e.v
    (sym (marks e.u c.requires.entry.u_below) ∙ (sym c.is_marked.ensures ∙ c.if-not-is_marked.true))
    (sym (marks e.v c.requires.entry.v_below) ∙ (sym c.is_marked-then-not-is_marked.ensures ∙ c.if-not-is_marked-2.true)))
