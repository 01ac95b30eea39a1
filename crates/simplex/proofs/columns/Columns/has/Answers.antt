use Rattle.std.proofs.Common.{◌<◌, ℕ, map, not, nat_eq, ap, sym, subst, ◌∙◌}
use Rattle.cyc.specs.Frac.{is_listed, value_of}
use Rattle.cyc.proofs.EntryLemmas.{mark_read}
use Rattle.simplex.specs.Columns.{Pairs, blank, is_col}
use Rattle.simplex.proofs.ColumnLemmas.{mark_is}
use Rattle.simplex.proofs.columns.Columns.has.Goals as goal

pub returns : goal.returns
returns c =
    let inside = c.self.inside in
    let es = map blank inside.cols.items in
    let u_below : c.args.u < inside.n = subst (λ (p : Pairs). c.args.u < p.n) (sym c.self.view_is) c.requires.u_below in
    let v_below : c.args.v < inside.n = subst (λ (p : Pairs). c.args.v < p.n) (sym c.self.view_is) c.requires.v_below in
    ap (λ (m : ℕ). not (nat_eq m 0))
    (mark_read inside.n es inside.table.items c.args.u c.args.v c.cell_of.result c.index.result.now c.self.invariant.table u_below v_below c.cell_of.ensures.cell c.cell_of.ensures.within c.index.ensures)
    ∙ mark_is (is_listed es c.args.u c.args.v) (value_of es c.args.u c.args.v)
    ∙ ap (λ (p : Pairs). is_col p.cols c.args.u c.args.v) c.self.view_is
