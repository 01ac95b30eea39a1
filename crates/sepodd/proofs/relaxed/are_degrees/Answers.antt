use Rattle.std.proofs.Common.{◌≡◌, ◌==◌, List, pos, sym, ap, ◌∙◌, subst, arith, ⊎_elim}
use Rattle.std.specs.Prelude.{◌≤ℤ◌}
use Rattle.std.proofs.lemmas.Int.{ints}
use Rattle.std.proofs.lemmas.Bool.{cases_eq, false≢true}
use Rattle.cyc.specs.declared.frac.Entry.{Entry}
use Rattle.maxflow.specs.Crossings.{crossing_weight, crossing}
use Rattle.maxflow.proofs.CrossingLemmas.{weight_by_entries}
use Rattle.sepodd.proofs.relaxed.are_degrees.Goals as goal

pub returns-then-degree-gt-DEGREE : goal.returns-then-degree-gt-DEGREE
returns-then-degree-gt-DEGREE c =
    let x = c.args.x.now in
    let k = c.loop-k.k in
    let more = c.if-degree-gt-DEGREE.true in
    let size = c.n-n.ensures.value in
    let test = c.loop-k-test.true in
    let value : c.degree.result ≡ crossing x.entries (λ j. j == k) = c.degree.ensures ∙ ap (λ (es : List Entry). crossing es (λ j. j == k)) c.entries-entries.ensures.value in
    let w = weight_by_entries x (λ j. j == k) c.entries-entries.ensures.entries in
    (λ t. absurd (false≢true t), λ all. let z = all k (omega (arith, size, test)) in absurd (omega (arith, ints, z, more, value, w)))

pub loop-k-preserved : goal.loop-k-preserved
loop-k-preserved c =
    let x = c.args.x.now in
    let k = c.loop-k.k in
    let few = c.if-degree-gt-DEGREE.false in
    let value : c.degree.result ≡ crossing x.entries (λ j. j == k) = c.degree.ensures ∙ ap (λ (es : List Entry). crossing es (λ j. j == k)) c.entries-entries.ensures.value in
    let w = weight_by_entries x (λ j. j == k) c.entries-entries.ensures.entries in
    let here : crossing_weight x (λ j. j == k) ≤ℤ pos 2098176 = omega (arith, ints, few, value, w) in
    λ j h. ⊎_elim
    (λ (e : j ≡ k). subst (λ i. crossing_weight x (λ l. l == i) ≤ℤ pos 2098176) (sym e) here)
    (λ (ne : j ≡ k → ⊥). c.loop-k.invariant j (omega (arith, h, ne)))
    (cases_eq j k)
