use Rattle.std.proofs.Common.{◌≡◌, ◌+◌, ◌<◌, false, length, get_or, take, ap, sym, subst, ◌∙◌, arith}
use Rattle.std.proofs.lemmas.List.{take_more, get_or_read}
use Rattle.cyc.specs.declared.frac.Entry.{Entry}
use Rattle.cyc.specs.Frac.{is_listed, IsEntry, AreEntries, IsFirstBad}
use Rattle.cyc.specs.Table.{mark_of}
use Rattle.cyc.proofs.EntryLemmas.{entries_push, entries_last, entries_take, mark_read, mark_unlisted, unlisted_from_mark, table_push, marked_more}
use Rattle.cyc.proofs.frac.table_of.Goals as goal
use Rattle.cyc.proofs.frac.table_of.Goals.{After-index}

abbrev nothing : Entry
nothing = record { u = 0; v = 0; x = 0 }

abbrev entry : After-index → Entry
entry c = get_or c.args.entries.now c.loop-place.place nothing

is : (c : After-index) → IsEntry c.args.n (entry c)
is c = c.is_entry.ensures.0 c.if-not-is_entry.false

-- what the table has of the pair
mark : (c : After-index) → c.index.result.now ≡ mark_of (take c.loop-place.place c.args.entries.now) (entry c).u (entry c).v
mark c =
    let e = entry c in
    let h = is c in
    mark_read c.args.n (take c.loop-place.place c.args.entries.now) c.loop-place.table.items e.u e.v c.cell_of-cell.result c.index.result.now
    c.loop-place.invariant.table h.u_below h.v_below c.cell_of-cell.ensures.cell c.cell_of-cell.ensures.within c.index.ensures

-- with an entry of a pair that has a mark the entries are not in order
wrong : (c : After-index) → (c.index.result.now ≡ 0 → ⊥) → AreEntries c.args.n (take (c.loop-place.place + 1) c.args.entries.now) → ⊥
wrong c marked_before entries =
    let es = c.args.entries.now in
    let i = c.loop-place.place in
    let e = entry c in
    let last = entries_last c.args.n (take i es) e (rw (take_more es i nothing c.loop-place-test.true) at entries) in
    marked_before (mark c ∙ mark_unlisted (take i es) e.u e.v last.1)

pub returns-then-index-ne0-clause-complete : goal.returns-then-index-ne0-clause-complete
returns-then-index-ne0-clause-complete c = λ entries.
    absurd (wrong (goal.at.returns-then-index-ne0-clause-complete c).After-index c.if-index-ne0.true (entries_take c.args.n (c.loop-place.place + 1) c.args.entries.now entries))

pub returns-then-index-ne0-clause-bad_entry : goal.returns-then-index-ne0-clause-bad_entry
returns-then-index-ne0-clause-bad_entry c = λ place e.
    let same : c.loop-place.place ≡ place = cc in
    subst (IsFirstBad c.args.n c.args.entries.now) same (record {
      within = c.loop-place-test.true;
      before = c.loop-place.invariant.entries;
      with_it = wrong (goal.at.returns-then-index-ne0-clause-bad_entry c).After-index c.if-index-ne0.true;
    })

pub loop-place-preserved : goal.loop-place-preserved
loop-place-preserved c =
    let es = c.args.entries.now in
    let i = c.loop-place.place in
    let here = (goal.at.loop-place-preserved c).After-index in
    let e = entry here in
    let h = is here in
    let t = c.loop-place.table.items in
    let cell = c.cell_of-cell.result in
    let inv = c.loop-place.invariant in
    let more = take_more es i nothing c.loop-place-test.true in
    let fresh : is_listed (take i es) e.u e.v ≡ false = unlisted_from_mark (take i es) e.u e.v (sym (mark here) ∙ c.if-index-ne0.false) in
    let within : cell < length t = (let s = inv.table.size in let w = c.cell_of-cell.ensures.within in omega arith) in
    let none : get_or t cell 0 ≡ 0 = sym (get_or_read t cell c.index.result.now within c.index.ensures 0) ∙ c.if-index-ne0.false in
    record {
      entries = rw more (entries_push c.args.n (take i es) e inv.entries h fresh);
      table = rw (more, c.cell_of-cell.ensures.cell) (table_push c.args.n (take i es) e t inv.table h fresh);
      count = marked_more t cell e.x within none ∙ ap (λ k. k + 1) inv.count;
    }
