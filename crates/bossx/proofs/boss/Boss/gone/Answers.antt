use Rattle.std.proofs.Common.{ℕ, Option, refl, sym, subst}
use Rattle.bossx.specs.Books.{released}
use Rattle.bossx.specs.Steps.{Step}
use Rattle.bossx.proofs.Rows.{gone_row}
use Rattle.bossx.proofs.boss.Boss.gone.Goals as goal
use Rattle.bossx.specs.declared.events.Event.TheVariants as event
use Rattle.bossx.specs.declared.events.Reply.TheVariants as heard

pub returns : goal.returns
returns c =
    let b = c.args.self.now in
    let g = c.args.grunt in
    subst (Step b (event.Gone g) (heard.Went c.let_go.result)) (sym c.let_go.ensures.after)
    (subst (λ (o : Option ℕ). Step b (event.Gone g) (heard.Went o) (released b g)) (sym c.let_go.ensures.lease) (gone_row b g _ refl))
