use Rattle.std.proofs.Common.{[], ◌∷◌, ◌++◌, sym, subst}
use Rattle.std.proofs.lemmas.List.{append-nil, drop_all}
use Rattle.std.proofs.lemmas.List.Elements.{All-push}
use Rattle.std.proofs.lemmas.Option.{MatchOption-at_some}
use Rattle.fracgraph.specs.Components.{AreComponents}
use Rattle.sepblos.specs.Violated.{IsWorth}
use Rattle.sepblos.proofs.MadeLemmas.{go_on_with, go_on_without, gone_through, none_at}
use Rattle.sepcomb.specs.Combs.{IsCombOf}
use Rattle.sepcomb.proofs.CombLemmas.{append_more}
use Rattle.sepcomb.proofs.combs_above.Goals as goal
use Rattle.sepcomb.proofs.combs_above.Goals.{in-Some+in_ok-push, in_default}

pub loop-set-init : goal.loop-set-init
loop-set-init c = record {
  made = ([], (sym (append-nil c.args.others.items), λ rest made. made));
  worth = c.requires.worth;
}

pub loop-set-preserved : goal.loop-set-preserved
loop-set-preserved c =
    let x = c.args.x.now in
    let sets = c.deref-set-items.result.now in
    let s = c.set-item.result in
    let i = c.loop-set.set-index in
    let cuts = c.loop-set.cuts.items in
    let old = c.loop-set.invariant in
    let more = old.made.0 in
    elim c.match-branch-3.branch [
      | in-Some+in_ok-push w ↦
          let cut = w.in-Some.cut in
          let made = MatchOption-at_some _ (IsCombOf x s) cut w.in-Some.is c.in_ok-cut.ensures.comb in
          let worth = rw w.in-Some.is at c.in_ok-cut.ensures.worth in
          record {
            made = rw (w.cuts-is, w.in_ok-push.ensures.items)
                (more ++ cut ∷ [], (append_more cuts c.args.others.items more cut old.made.1.0, go_on_with (IsCombOf x) sets i s more cut c.loop-set-test.true c.set-item.is made old.made.1.1));
            worth = rw (w.cuts-is, w.in_ok-push.ensures.items) (All-push (IsWorth x) cuts cut old.worth worth);
          }
      | in_default w ↦
          let none = none_at c.in_ok-cut.field-0 _ (IsCombOf x s) w.in_default.not-Some c.in_ok-cut.ensures.comb in
          record {
            made = rw w.cuts-is (more, (old.made.1.0, go_on_without (IsCombOf x) sets i s more c.loop-set-test.true c.set-item.is none old.made.1.1));
            worth = rw w.cuts-is old.worth;
          }
    ]

pub returns-clause-combs : goal.returns-clause-combs
returns-clause-combs c =
    let x = c.args.x.now in
    let sets = c.deref-set-items.result.now in
    let made = c.loop-set.invariant.made in (
      sets,
      made.0,
      subst (AreComponents x c.args.limit 1047552) (sym c.deref-set-items.ensures.value) c.in_ok-sets.ensures,
      gone_through (IsCombOf x) sets c.loop-set.set-index made.0 (drop_all c.loop-set.set-index sets c.loop-set-test.false) made.1.1,
      made.1.0,
    )
