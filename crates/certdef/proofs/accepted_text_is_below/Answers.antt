use Rattle.certdef.specs.Accepted.{from_zero, tree_in}
use Rattle.certdef.proofs.accepted_text_is_below.Goals as goal

pub returns : goal.returns
returns c = λ i bytes l b h t tour is. c.accepted_is_below.ensures i (from_zero t.1.tour) tour l b (tree_in i.n t.1) h t.2.accepted.accepted is
