use Rattle.std.proofs.Common.{◌≡◌, ◌/◌, ◌||◌, eqb, get_or, ap, ◌∙◌, arith}
use Rattle.std.proofs.lemmas.Grind.{common_steps}
use Rattle.cyc.specs.Marks.{is_marked}
use Rattle.cyc.proofs.MarkLemmas.{marked_more}
use Rattle.cyc.proofs.marks.Marks.mark.Goals as goal

pub returns-clause-marked : goal.returns-clause-marked
returns-clause-marked c = λ other.
    let items = c.self.inside.bits.items in
    let read : c.index_mut.result.now ≡ get_or items (c.args.city / 64) 0 = grind (arith, common_steps) in
    let h = c.index_mut in
    let more = marked_more items c.args.city other (let e = c.self.view_is in let r = c.requires in grind arith) in
    rw read (more ∙ ap (λ m. eqb c.args.city other || is_marked m other) c.self.view_is)
