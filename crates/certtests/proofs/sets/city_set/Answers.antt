use Rattle.std.proofs.Common.{sym, ap, ◌∙◌, subst, Err}
use Rattle.tspdef.specs.Sets.{IsSet}
use Rattle.cyc.specs.CitySet.{Members}
use Rattle.certtests.specs.Listed.{to_one}
use Rattle.certtests.proofs.Listing.{set_is_set, set_again}
use Rattle.certtests.proofs.sets.city_set.Goals as goal

pub returns-in-Ok-clause-again : goal.returns-in-Ok-clause-again
returns-in-Ok-clause-again c =
    ap (λ (s : Members). to_one s.cities) c.in-Ok.ensures.ok.0 ∙ (ap to_one c.from_zero.ensures ∙ set_again c.args.n c.args.set.items c.requires.set)

pub unreachable-requires : goal.unreachable-requires
unreachable-requires c =
    c.new.ensures.not_rising (c.in-Err-NotRising.is ∙ ap Err c.in-Err-NotRising.field-0-is) (subst (IsSet c.args.n) (sym c.from_zero.ensures) (set_is_set c.args.n c.args.set.items c.requires.set))
