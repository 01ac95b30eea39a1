use Rattle.std.proofs.Common.{subst}
use Rattle.tspdef.specs.Trees.{Covers}
use Rattle.treebook.specs.Tables.{tree_of}
use Rattle.bossx.specs.Books.{Book, level}
use Rattle.bossx.proofs.Kept.{book_covers}
use Rattle.bossx.proofs.boss.Boss.snapshot.Goals as goal

pub returns-clause-covers : goal.returns-clause-covers
returns-clause-covers c = subst (λ (b : Book). Covers b.instance (tree_of b.tree.nodes) (level b)) c.self.view_is (book_covers _ c.self.invariant.book)
