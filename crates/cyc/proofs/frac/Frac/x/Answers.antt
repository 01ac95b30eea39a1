use Rattle.std.proofs.Common.{◌≡◌, ◌-◌, ◌<◌, ap, sym, subst, ◌∙◌}
use Rattle.cyc.specs.Frac.{Values, value_of}
use Rattle.cyc.proofs.EntryLemmas.{mark_read, mark_value, value_small}
use Rattle.cyc.proofs.frac.Frac.x.Goals as goal

value : (c : goal.After-saturating_sub) → c.saturating_sub.result ≡ value_of c.self.inside.entries.items c.args.u c.args.v
value c =
    let inside = c.self.inside in
    let es = inside.entries.items in
    let u_below : c.args.u < inside.n = subst (λ (x : Values). c.args.u < x.n) (sym c.self.view_is) c.requires.u_below in
    let v_below : c.args.v < inside.n = subst (λ (x : Values). c.args.v < x.n) (sym c.self.view_is) c.requires.v_below in
    c.saturating_sub.ensures
    ∙ ap (λ k. k - 1) (mark_read inside.n es inside.table.items c.args.u c.args.v c.cell_of.result c.index.result.now c.self.invariant.table u_below v_below c.cell_of.ensures.cell c.cell_of.ensures.within c.index.ensures)
    ∙ mark_value es c.args.u c.args.v

pub returns-clause-value : goal.returns-clause-value
returns-clause-value c = value c ∙ ap (λ (x : Values). value_of x.entries c.args.u c.args.v) c.self.view_is

pub returns-clause-small : goal.returns-clause-small
returns-clause-small c = rw (value c) (value_small c.self.inside.n c.self.inside.entries.items c.args.u c.args.v c.self.invariant.entries.each)
