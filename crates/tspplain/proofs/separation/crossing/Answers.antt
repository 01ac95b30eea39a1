use Rattle.std.proofs.Common.{pos, ◌≡◌, ◌+◌, ◌%◌, ◌^◌, get_or, take, refl, sym, ap, subst, ◌∙◌, arith}
use Rattle.std.specs.Prelude.{bit_or}
use Rattle.std.proofs.lemmas.Grind.{common_steps}
use Rattle.cyc.specs.declared.frac.Entry.{Entry}
use Rattle.cyc.specs.Frac.{AreEntries}
use Rattle.tspplain.specs.Bits.{bit_of, has_part}
use Rattle.tspplain.specs.Crossings.{crossing_of}
use Rattle.tspplain.proofs.CrossingLemmas.{crossing_small, crossing_part, sum_with, sum_without, by_pairs}
use Rattle.tspplain.proofs.separation.crossing.Goals.{then-parts, else-parts}
use Rattle.tspplain.proofs.separation.crossing.Goals as goal

pub loop-entry-init : goal.loop-entry-init
unfolding crossing_of
loop-entry-init c = refl

pub loop-entry-preserved : goal.loop-entry-preserved
loop-entry-preserved c =
    let entries = c.entries-entry-items.result.now in
    let i = c.loop-entry.entry-index in
    let none : Entry = record { u = 0; v = 0; x = 0 } in
    let e = get_or entries i none in
    let all : AreEntries c.args.x.now.n entries = subst (AreEntries c.args.x.now.n) (sym c.entries-entry-items.ensures.value) c.entries-entry-items.ensures.entries in
    let so_far : c.loop-entry.sum ≡ crossing_of (take i entries) c.args.set = c.loop-entry.invariant in
    let test : has_part c.args.set (bit_or (bit_of e.u) (bit_of e.v)) ≡ c.parts.result =
    sym (c.parts.ensures.value ∙ ap (λ k. has_part c.args.set (bit_or k c.bit-in-loop-entry.result)) c.bit.ensures ∙ ap (λ k. has_part c.args.set (bit_or (bit_of e.u) k)) c.bit-in-loop-entry.ensures) in
    elim c.if-parts.branch [
      | then-parts w ↦
          w.sum-is ∙ ap (λ k. (c.loop-entry.sum + k) % 2 ^ 64) w.from-sum.ensures
          ∙ sum_with c.args.x.now.n entries c.args.set i none c.loop-entry.sum all c.loop-entry-test.true so_far (test ∙ w.if-parts.true)
      | else-parts w ↦ w.sum-is ∙ sum_without entries c.args.set i none c.loop-entry.sum c.loop-entry-test.true so_far (test ∙ w.if-parts.false)
    ]

pub returns-clause-small : goal.returns-clause-small
returns-clause-small c =
    let entries = c.entries-entry-items.result.now in
    let all : AreEntries c.args.x.now.n entries = subst (AreEntries c.args.x.now.n) (sym c.entries-entry-items.ensures.value) c.entries-entry-items.ensures.entries in
    let so_far : c.loop-entry.sum ≡ crossing_of (take c.loop-entry.entry-index entries) c.args.set = c.loop-entry.invariant in
    omega (arith, so_far, crossing_part entries c.args.set c.loop-entry.entry-index, crossing_small c.args.x.now.n entries c.args.set all)

pub returns-clause-pairs : goal.returns-clause-pairs
returns-clause-pairs c = λ few.
    let value : c.loop-entry.sum ≡ crossing_of c.args.x.now.entries c.args.set = grind (arith, common_steps) in
    ap pos value ∙ by_pairs c.args.x.now c.args.set c.entries-entry-items.ensures.entries few
