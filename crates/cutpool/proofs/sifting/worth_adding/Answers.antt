use Rattle.std.proofs.Common.{rules, ◌≡◌, true, List, [], ◌∷◌, ◌++◌, sym, ap, subst, ◌∙◌}
use Rattle.std.specs.List.{All, filter}
use Rattle.std.proofs.lemmas.Grind.{common_steps}
use Rattle.std.proofs.lemmas.List.Elements.{All-append, filter-append}
use Rattle.tspdef.specs.Cuts.{Cut}
use Rattle.cutpool.specs.Pool.{is_worth, IsWorthAdding}
use Rattle.cutpool.proofs.sifting.worth_adding.Goals as goal

pub loop-cut-preserved-in-Continue-branch-2 : goal.loop-cut-preserved-in-Continue-branch-2
loop-cut-preserved-in-Continue-branch-2 c =
    let x = c.args.x.now in
    let cut = c.in-Some.cut in
    let old = c.loop-cut.found.items in
    let items : c.push.new.self.items ≡ old ++ cut ∷ [] = c.in_ok-push.ensures.items in
    let passes : is_worth x cut ≡ true = sym c.is_worth.ensures.value ∙ c.if-is_worth.true in
    let one : filter (is_worth x) (cut ∷ []) ≡ cut ∷ [] = rw passes in
    record {
      found = items ∙ ap (λ (cs : List Cut). cs ++ cut ∷ []) c.loop-cut.invariant.found ∙ ap (λ (cs : List Cut). filter (is_worth x) c.loop-cut.yielded ++ cs) (sym one) ∙ sym (filter-append (is_worth x) c.loop-cut.yielded (cut ∷ []));
      worth = subst (λ (cs : List Cut). All (IsWorthAdding x) cs) (sym items) (All-append (IsWorthAdding x) old (cut ∷ []) c.loop-cut.invariant.worth (search (rules, common_steps)));
    }
