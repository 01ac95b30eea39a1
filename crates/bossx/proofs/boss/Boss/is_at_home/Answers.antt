use Rattle.std.proofs.Common.{◌≡◌, ◌↔◌, ◌∙◌, IsTrue, sym, subst}
use Rattle.std.proofs.lemmas.Bool.{false≢true}
use Rattle.branchx.specs.Path.{Conditions}
use Rattle.bossx.specs.Books.{Book, path_in}
use Rattle.bossx.specs.Judging.{IsAtHome}
use Rattle.bossx.specs.BossInside.{book_of}
use Rattle.bossx.proofs.Kept.{home_path}
use Rattle.bossx.proofs.boss.Boss.is_at_home.Goals as goal

pub returns-then-are_same-clause-home : goal.returns-then-are_same-clause-home
returns-then-are_same-clause-home c =
    let b = book_of c.self.inside in
    let same = sym c.instance.ensures ∙ c.are_same.ensures.0 c.if-are_same.true in
    let on = subst (λ (p : Conditions). IsTrue c.on_path.result ↔ (p ≡ record { n = b.tree.n; conditions = path_in b c.args.node })) c.path-path.ensures.value c.on_path.ensures in
    subst (λ (m : Book). IsTrue c.on_path.result ↔ IsAtHome m c.args.node c.args.priced.now) c.self.view_is
    (home_path b c.args.node c.args.priced.now c.on_path.result c.self.invariant.book.tree.cities same on)

pub returns-clause-home : goal.returns-clause-home
returns-clause-home c = (
  λ e. absurd (false≢true e),
  λ h.
      let home = subst (λ (m : Book). IsAtHome m c.args.node c.args.priced.now) (sym c.self.view_is) h in
      absurd (false≢true (sym c.if-are_same.false ∙ c.are_same.ensures.1 (c.instance.ensures ∙ home.instance))),
)
