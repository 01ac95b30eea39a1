use Rattle.std.proofs.Common.{Vec, Global, ◌≡◌, ◌<◌, ℕ, List, length, get_or, ap, subst, ◌∙◌, arith}
use Rattle.std.proofs.lemmas.List.{get_or_default, with_items_is}
use Rattle.cyc.specs.declared.frac.Entry.{Entry}
use Rattle.fracgraph.specs.Labels.{root_of}
use Rattle.fracgraph.proofs.LabelLemmas.{labels_linked, labels_kept}
use Rattle.fracgraph.proofs.labels.of.Goals as goal
use Rattle.fracgraph.proofs.labels.of.Goals.{then-low-entry+then-entry-high, else-low-entry, else-low-entry-via-then-low-entry+else-entry-high, else-low-entry-via-else-low-entry}

abbrev none : Entry
none = record { u = 0; v = 0; x = 0 }

-- an entry as it is read, and in its place
read : (es fs : List Entry) (i : ℕ) → fs ≡ es → i < length fs → get_or fs i none ≡ get_or es i (get_or fs i none)
read es fs i e h = get_or_default fs i none (get_or fs i none) h ∙ ap (λ gs. get_or gs i (get_or fs i none)) e

pub loop-entry-preserved : goal.loop-entry-preserved
loop-entry-preserved c =
    let x = c.args.x.now in
    let i = c.loop-entry.entry-index in
    let fs = c.entries-entry-items.result.now in
    let e = get_or fs i none in
    let is = read x.entries fs i c.entries-entry-items.ensures.value c.loop-entry-test.true in
    let within = subst (λ (es : List Entry). i < length es) c.entries-entry-items.ensures.value c.loop-entry-test.true in
    let old = c.loop-entry.invariant in
    let parents = c.loop-entry.parents.items in
    elim c.if-low-entry.branch [
      | then-low-entry+then-entry-high w ↦
          let same = w.deref_mut.ensures.value in
          let long' : length w.merge.new.parents ≡ length w.deref_mut.result.now = w.merge.auto.parents in
          let long : length w.merge.new.parents ≡ x.n = long' ∙ (ap length same ∙ old.long) in
          let items = ap (λ (v : Vec ℕ Global). v.items) w.parents-is ∙ with_items_is c.loop-entry.parents w.merge.new.parents (omega (arith, long', c.loop-entry.parents.ok.0, same)) in
          rw items (record {
            long = long;
            fall = w.merge.ensures.fall;
            each = labels_linked x c.args.low c.args.high i e (root_of parents) (root_of w.merge.new.parents) c.entries-entry-items.ensures.entries within is
                w.if-low-entry.true w.if-entry-high.true (λ k h. rw same at (w.merge.ensures.roots k (omega arith))) old.each;
          })
      | else-low-entry w ↦
          rw w.parents-is (record {
            long = old.long;
            fall = old.fall;
            each = labels_kept x c.args.low c.args.high i e (root_of parents) within is
                (λ l h. elim w.else-low-entry.branch [
                  | else-low-entry-via-then-low-entry+else-entry-high v ↦ let f = v.if-entry-high.false in omega arith
                  | else-low-entry-via-else-low-entry v ↦ let f = v.if-low-entry.false in omega arith
                ]) old.each;
          })
    ]
