use Rattle.std.proofs.Common.{sym, ◌∙◌, arith}
use Rattle.tapeboss.proofs.LineLemmas.{behind_line}
use Rattle.tapeboss.proofs.lines.Lines.next.Goals as goal

pub returns-clause-rest : goal.returns-clause-rest
returns-clause-rest c =
    let e = behind_line c.args.self.now.rest.now c.split_at.result.1.now c.in-Some.end c.split_at.ensures.back (sym c.line_end.ensures ∙ c.in-Some.is) in
    grind (arith, e)
