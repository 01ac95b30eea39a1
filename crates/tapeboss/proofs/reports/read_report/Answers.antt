use Rattle.std.proofs.Common.{◌≡◌, List, Some, true, map, length, sym, ap, ◌∙◌, arith}
use Rattle.std.proofs.lemmas.List.{length-map}
use Rattle.tspdef.specs.Cuts.{Cut}
use Rattle.certtests.specs.Listed.{listed}
use Rattle.tapeboss.specs.Lines.{first_line, other_lines, are_over, count_of}
use Rattle.tapeboss.proofs.ReportLemmas.{report_read, cuts_here, content_here}
use Rattle.tapeboss.proofs.reports.read_report.Goals as goal

pub returns : goal.returns
returns c =
    let n = c.args.n in
    let text = c.args.text.now in
    let k = c.in-Some.count in
    let rest = c.read_cuts.new.lines.rest.now in
    let end = c.read_content.new.lines.rest.now in
    let cs = map listed c.deref.result.now in
    let line : count_of (first_line n text) ≡ Some k = grind (arith, c.in_ok-count.ensures.value, c.in-Some.is, c.new-lines.ensures) in
    let same = c.in_ok-count.ensures.same ∙ c.new-lines.ensures.cities in
    let cuts = cuts_here n c.count.new.self.n k text c.count.new.self.rest.now (Some (map listed c.in-Some-2.cuts.items, rest)) same (c.in_ok-count.ensures.rest ∙ ap other_lines c.new-lines.ensures.rest)
    (rw c.in-Some-2.is at c.in_ok-cuts.ensures.value) in
    let over : are_over end ≡ true = grind (arith, c.are_over.ensures, c.if-not-are_over.false) in
    report_read n k text rest end cs (length c.deref.result.now) c.in-Some-3.report line
    (cuts ∙ ap (λ (v : List Cut). Some (map listed v, rest)) (sym c.deref.ensures.value)) (length-map c.deref.result.now listed)
    (content_here n c.read_cuts.new.lines.n cs (length c.deref.result.now) rest (Some (c.in-Some-3.report, end)) (c.in_ok-cuts.ensures.same ∙ same) (rw c.in-Some-3.is at c.in_ok-report.ensures.value)) over
