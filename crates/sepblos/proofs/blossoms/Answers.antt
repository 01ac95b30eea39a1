use Rattle.std.proofs.Common.{sym, subst}
use Rattle.std.proofs.lemmas.List.Elements.{All-push}
use Rattle.std.proofs.lemmas.List.{drop_all}
use Rattle.std.proofs.lemmas.Option.{MatchOption-at_some}
use Rattle.fracgraph.specs.Components.{AreComponents}
use Rattle.sepblos.specs.Violated.{IsWorth}
use Rattle.sepblos.specs.Blossoms.{IsBlossom}
use Rattle.sepblos.proofs.MadeLemmas.{go_on_with, go_on_without, gone_through, none_at}
use Rattle.sepblos.proofs.blossoms.Goals as goal
use Rattle.sepblos.proofs.blossoms.Goals.{in-Some+in_ok-push, in_default}

pub loop-set-preserved : goal.loop-set-preserved
loop-set-preserved c =
    let x = c.args.x.now in
    let sets = c.deref-set-items.result.now in
    let s = c.set-item.result in
    let i = c.loop-set.set-index in
    let cuts = c.loop-set.cuts.items in
    let old = c.loop-set.invariant in
    elim c.match-branch-3.branch [
      | in-Some+in_ok-push w ↦
          let cut = w.in-Some.cut in
          let made = MatchOption-at_some _ (IsBlossom x s) cut w.in-Some.is c.in_ok-cut.ensures.blossom in
          let worth = rw w.in-Some.is at c.in_ok-cut.ensures.worth in
          record {
            made = rw (w.cuts-is, w.in_ok-push.ensures.items) (go_on_with (IsBlossom x) sets i s cuts cut c.loop-set-test.true c.set-item.is made old.made);
            worth = rw (w.cuts-is, w.in_ok-push.ensures.items) (All-push (IsWorth x) cuts cut old.worth worth);
          }
      | in_default w ↦
          let none = none_at c.in_ok-cut.field-0 _ (IsBlossom x s) w.in_default.not-Some c.in_ok-cut.ensures.blossom in
          record {
            made = rw w.cuts-is (go_on_without (IsBlossom x) sets i s cuts c.loop-set-test.true c.set-item.is none old.made);
            worth = rw w.cuts-is old.worth;
          }
    ]

pub returns-clause-blossoms : goal.returns-clause-blossoms
returns-clause-blossoms c =
    let x = c.args.x.now in
    let sets = c.deref-set-items.result.now in (
      sets,
      (
        subst (AreComponents x 1024 1047552) (sym c.deref-set-items.ensures.value) c.in_ok-sets.ensures,
        gone_through (IsBlossom x) sets c.loop-set.set-index c.loop-set.cuts.items (drop_all c.loop-set.set-index sets c.loop-set-test.false) c.loop-set.invariant.made,
      ),
    )
