use Rattle.std.proofs.Common.{rules, ◌↔◌, IsTrue, subst}
use Rattle.bossx.specs.Books.{Book, path_in}
use Rattle.bossx.specs.Judging.{IsNewSet}
use Rattle.bossx.specs.BossInside.{book_of}
use Rattle.bossx.proofs.Kept.{set_new}
use Rattle.bossx.proofs.boss.Boss.is_new.Goals as goal

pub returns : goal.returns
returns c =
    subst (λ (b : Book). IsTrue c.new_at.result ↔ IsNewSet b.instance.n (path_in b c.args.node) c.args.set.now) c.self.view_is
    (set_new (book_of c.self.inside) c.args.node c.args.set.now c.new_at.result c.self.invariant.book.tree.cities (search rules) (search rules) c.new_at.ensures)
