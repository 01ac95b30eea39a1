use Rattle.std.proofs.Common.{rules, List, Some, sym, subst}
use Rattle.std.specs.List.{All}
use Rattle.std.proofs.lemmas.List.Elements.{All-pop, All-push}
use Rattle.tspdef.specs.Cuts.{Cut}
use Rattle.sepsub.specs.LeastSets.{IsViolated}
use Rattle.sepblos.specs.Violated.{IsWorth}
use Rattle.grunt.proofs.light.cuts_of.Goals as goal

pub loop-set-preserved : goal.loop-set-preserved
loop-set-preserved c =
    let x = c.args.x.now in record {
      rest = (All-pop (IsViolated x) c.loop-set.rest.items c.pop.new.self.items (Some c.in-Some.set) c.in-Some.ensures.items c.loop-set.invariant.rest).0;
      cuts = subst (All (IsWorth x)) (sym {A = List Cut} c.in_ok-push.ensures.items) (All-push (IsWorth x) c.loop-set.cuts.items c.in_ok-cut_of.field-0 c.loop-set.invariant.cuts c.in_ok-cut_of.ensures);
      many = search rules;
    }
