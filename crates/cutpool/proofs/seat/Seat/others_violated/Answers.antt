use Rattle.std.proofs.Common.{rules, ◌≡◌, true, List, [], ◌∷◌, ◌++◌, sym, ap, subst, ◌∙◌}
use Rattle.std.specs.List.{All}
use Rattle.std.proofs.lemmas.Grind.{common_steps}
use Rattle.std.proofs.lemmas.List.Elements.{All-push}
use Rattle.tspdef.specs.Cuts.{Cut, IsCut}
use Rattle.cutpool.specs.Pool.{misses, IsWorthAdding}
use Rattle.cutpool.proofs.SeatLemmas.{worth_when}
use Rattle.cutpool.proofs.seat.Seat.others_violated.Goals as goal

pub loop-cut-preserved-then-is_none : goal.loop-cut-preserved-then-is_none
loop-cut-preserved-then-is_none g c =
    let x = c.args.x.now in
    let cut = c.in-Some.cut.now in
    let old = c.loop-cut.found.items in
    let is : IsCut x.n cut = search (rules, common_steps) in
    let missed : misses x cut ≡ true = sym c.is_violated.ensures ∙ c.if-is_violated.true in
    let items : c.push.new.self.items ≡ old ++ cut ∷ [] = c.in_ok-push.ensures.items ∙ ap (λ (d : Cut). old ++ d ∷ []) c.in_ok-copy.ensures in
    record {
      tag = search (rules, common_steps);
      worth = subst (λ (cs : List Cut). All (IsWorthAdding x) cs) (sym items) (All-push (IsWorthAdding x) old cut c.loop-cut.invariant.worth (worth_when x cut is missed));
    }
