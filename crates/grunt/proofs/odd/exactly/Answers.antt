use Rattle.std.proofs.Common.{subst}
use Rattle.std.specs.Prelude.{MatchOption}
use Rattle.tspdef.specs.Bounds.{scale}
use Rattle.sepodd.specs.Odd.{IsBelowAll, IsLeastOdd}
use Rattle.grunt.specs.Odds.{at_most_one}
use Rattle.grunt.proofs.OddLemmas.{hardly_violated}
use Rattle.grunt.proofs.odd.exactly.Goals as goal

pub returns-in_ok-cuts-in-Some-clause-answer : goal.returns-in_ok-cuts-in-Some-clause-answer
returns-in_ok-cuts-in-Some-clause-answer c = λ none.
    let x = c.args.x.now in
    let o = c.in-Some.least in
    let is = c.in-Some.is in
    let least : IsLeastOdd (at_most_one x) o = subst (λ v. IsLeastOdd v o) c.requires (subst (λ m. MatchOption m (IsBelowAll c.args.newest.now scale) (IsLeastOdd c.args.newest.now)) is c.in_ok-least.ensures.least) in
    (least, hardly_violated x o least (c.in_ok-cuts-in-Some.ensures.first none))
