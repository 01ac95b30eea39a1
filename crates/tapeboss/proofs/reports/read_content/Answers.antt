use Rattle.std.proofs.Common.{◌≡◌, Some, length, arith}
use Rattle.certdef.specs.Items.{leaf_line}
use Rattle.tapeboss.specs.Lines.{first_line}
use Rattle.tapeboss.proofs.ReportLemmas.{leaf_read}
use Rattle.tapeboss.proofs.reports.read_content.Goals as goal

pub returns-in-Some : goal.returns-in-Some
returns-in-Some c =
    let line : first_line c.args.lines.now.n c.args.lines.now.rest.now ≡ Some (leaf_line c.in-Some-Leaf.cities c.in-Some-Leaf.named c.in-Some-Leaf.conditions) =
    grind (arith, c.in_ok-cities.ensures.item, c.in-Some-Leaf.is, c.in-Some-Leaf.field-0-is) in
    record {
      value = leaf_read c.args.lines.now.n c.next.new.self.n (length c.args.cuts.now) c.in-Some-Leaf.cities c.in-Some-Leaf.named c.in-Some-Leaf.conditions c.args.cuts.now c.args.lines.now.rest.now c.next.new.self.rest.now
          c.read_closing.new.lines.rest.now c.in-Some.closing c.in_ok-cities.ensures.same c.in_ok-cities.ensures.rest line c.requires.cuts (rw c.in-Some.is at c.in_ok-closing-in-Some-Leaf.ensures.value);
    }
