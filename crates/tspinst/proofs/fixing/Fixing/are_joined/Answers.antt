use Rattle.std.proofs.Common.{◌≡◌, ◌<◌, ◌∙◌, ℕ, length}
use Rattle.std.proofs.lemmas.Grind.{get_or_default_zero}
use Rattle.tspinst.specs.Fixings.{name_at}
use Rattle.tspinst.proofs.PartLemmas.{names_tell}
use Rattle.tspinst.proofs.fixing.Fixing.are_joined.Goals as goal

pub returns : goal.returns
returns c =
    let f = c.self.inside in
    let named = c.self.invariant.1.named in
    let from = rw (← c.self.view_is) at c.requires.from in
    let to = rw (← c.self.view_is) at c.requires.to in
    let lu : c.args.u < length f.names.items = rw named.all from in
    let lv : c.args.v < length f.names.items = rw named.all to in
    let first : c.index.result.now ≡ name_at f.names.items c.args.u = c.index.ensures ∙ get_or_default_zero _ _ _ lu in
    let second : c.index-2.result.now ≡ name_at f.names.items c.args.v = c.index-2.ensures ∙ get_or_default_zero _ _ _ lv in
    rw (first, second, ← c.self.view_is) (names_tell f.n f.pairs.items f.names.items named c.args.u c.args.v from to)
