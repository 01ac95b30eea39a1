use Rattle.std.proofs.Common.{false, ◌≡◌, ℕ, List, [], ◌∷◌, length, inr, subst, sym, arith}
use Rattle.std.proofs.lemmas.Grind.{common_steps}
use Rattle.tspdef.specs.Cuts.{Cut, IsCut}
use Rattle.simplex.specs.Lp.{Program}
use Rattle.nodelp.specs.Cuts.{AreCutRows, is_listed, put}
use Rattle.nodelp.specs.Node.{Node}
use Rattle.nodelp.specs.Adding.{IsAdded}
use Rattle.nodelp.proofs.CutLemmas.{cut_rows_put, cut_rows_more}
use Rattle.nodelp.proofs.node.NodeLp.add_cut.Goals as goal

pub invariant_of-self-in_err-insert : goal.invariant_of-self-in_err-insert
invariant_of-self-in_err-insert c =
    let old = c.self.inside in
    let same : c.insert.new.self.items ≡ old.cuts.items = grind (arith, common_steps, c.in_err-insert.ensures.items, c.in_err-insert.is) in
    subst (λ (l : List (Cut × ℕ)). AreCutRows c.add_row.new.self.n c.add_row.new.self.rows l) (sym same)
    (subst (λ (p : Program). AreCutRows p.n p.rows old.cuts.items) (sym c.in_ok-add_row.ensures.ok) (cut_rows_more old.lp.n old.lp.rows (c.in_ok-row.row ∷ []) old.cuts.items c.self.invariant))

pub invariant_of-self-2 : goal.invariant_of-self-2
invariant_of-self-2 c =
    let old = c.self.inside in
    let new : is_listed old.cuts.items c.args.cut ≡ false = grind (arith, c.has_cut.ensures, c.if-has_cut.false, c.deref.ensures.value) in
    let cuts : c.insert.new.self.items ≡ put (c.args.cut, length old.lp.rows) old.cuts.items =
    grind (arith, common_steps, c.in_ok-insert.ensures.items, c.place_of-at.ensures.put (length old.lp.rows), c.deref-2.ensures.value, c.rows.ensures.value) in
    let cut : IsCut old.lp.n c.args.cut = subst (λ (m : Node). IsCut m.program.n c.args.cut) (sym c.self.view_is) c.requires.cut in
    subst (λ (l : List (Cut × ℕ)). AreCutRows c.add_row.new.self.n c.add_row.new.self.rows l) (sym cuts)
    (subst (λ (p : Program). AreCutRows p.n p.rows (put (c.args.cut, length old.lp.rows) old.cuts.items)) (sym c.in_ok-add_row.ensures.ok)
    (cut_rows_put old.lp.n old.lp.rows c.in_ok-row.row c.args.cut old.cuts.items c.self.invariant cut c.in_ok-row.ensures.shape new))

pub returns : goal.returns
returns c =
    let old = c.self.inside in
    let new : is_listed old.cuts.items c.args.cut ≡ false = grind (arith, c.has_cut.ensures, c.if-has_cut.false, c.deref.ensures.value) in
    let cuts : c.insert.new.self.items ≡ put (c.args.cut, length old.lp.rows) old.cuts.items =
    grind (arith, common_steps, c.in_ok-insert.ensures.items, c.place_of-at.ensures.put (length old.lp.rows), c.deref-2.ensures.value, c.rows.ensures.value) in
    subst (λ (m : Node). IsAdded c.args.cut m (record { program = c.add_row.new.self; cuts = c.insert.new.self.items })) c.self.view_is
    (inr (c.in_ok-row.row, record { shape = c.in_ok-row.ensures.shape; new = new; program = c.in_ok-add_row.ensures.ok; cuts = cuts }))
