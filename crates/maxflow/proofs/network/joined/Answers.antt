use Rattle.std.proofs.Common.{◌≡◌, ℕ, ◌+◌, take, slice_index, slice_index_or, refl, sym, ◌∙◌, subst, arith}
use Rattle.std.specs.List.{All}
use Rattle.std.proofs.lemmas.List.Elements.{All-push}
use Rattle.cyc.specs.declared.frac.Entry.{Entry}
use Rattle.maxflow.specs.Crossings.{crossing, IsPair}
use Rattle.maxflow.proofs.NetworkLemmas.{pair_kept, pair_of_nothing, pair_within}
use Rattle.maxflow.proofs.network.joined.Goals as goal
use Rattle.maxflow.proofs.network.joined.Goals.{then-pair-gt0+then-pair+in_ok-push, else-pair-gt0, else-pair-gt0-via-then-pair-gt0+else-pair, else-pair-gt0-via-else-pair-gt0}

abbrev none : Entry
none = record { u = 0; v = 0; x = 0 }

pub loop-entry-preserved : goal.loop-entry-preserved
loop-entry-preserved c =
    let es = c.args.entries.now in
    let i = c.loop-entry.entry-index in
    let h = c.loop-entry-test.true in
    let f : ℕ → ℕ = slice_index c.args.numbers.now in
    let old = c.loop-entry.invariant in
    let e : Entry = slice_index_or es i none in
    elim c.if-pair-gt0.branch [
      | then-pair-gt0+then-pair+in_ok-push w ↦
          let pair : Entry = record { u = c.number_of.result; v = c.number_of-in-loop-entry.result; x = e.x } in
          let all = c.requires.pairs i none h in
          let u = c.requires.numbers e.u all.0 in
          let v = c.requires.numbers e.v all.1.0 in
          let eu = c.number_of.ensures in
          let ev = c.number_of-in-loop-entry.ensures in
          record {
            within = subst (λ ps. All (IsPair c.args.count) ps.items) (sym w.pairs-is)
                (subst (λ ps. All (IsPair c.args.count) ps) (sym w.in_ok-push.ensures.items)
                (All-push (IsPair c.args.count) c.loop-entry.pairs.items pair old.within (omega (arith, u, eu), (omega (arith, v, ev), all.1.1))));
            crossings = λ p. subst (λ ps. crossing ps.items p ≡ crossing (take (i + 1) es) (λ k. p (f k))) (sym w.pairs-is)
                (subst (λ ps. crossing ps p ≡ crossing (take (i + 1) es) (λ k. p (f k))) (sym w.in_ok-push.ensures.items)
                (pair_kept es c.loop-entry.pairs.items i none pair f p h eu ev refl (old.crossings p)));
          }
      | else-pair-gt0 w ↦ record {
        within = subst (λ ps. All (IsPair c.args.count) ps.items) (sym w.pairs-is) old.within;
        crossings = λ p. subst (λ ps. crossing ps.items p ≡ crossing (take (i + 1) es) (λ k. p (f k))) (sym w.pairs-is)
            (old.crossings p ∙ elim w.else-pair-gt0.branch [
              | else-pair-gt0-via-then-pair-gt0+else-pair v ↦ pair_within es i none f p h (sym c.number_of.ensures ∙ v.if-pair.false ∙ c.number_of-in-loop-entry.ensures)
              | else-pair-gt0-via-else-pair-gt0 v ↦ pair_of_nothing es i none (λ k. p (f k)) h v.if-pair-gt0.false
            ]);
      }
    ]
