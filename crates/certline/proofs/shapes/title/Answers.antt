use Rattle.std.proofs.Common.{[], ◌∷◌, codes, refl, arith}
use Rattle.std.proofs.lemmas.Bool.{and_parts, and_from, lt-ltb, ltb-true, le-leb, leb-true}
use Rattle.std.specs.Prelude.{nat_lt, nat_le}
use Rattle.certdef.specs.Items.{title_line}
use Rattle.certline.proofs.Lines.{numbers_read, no_title}
use Rattle.certline.proofs.shapes.title.Goals as goal

pub returns-in-Some : goal.returns-in-Some
returns-in-Some c =
    let x = c.in-Some.version in
    let small = c.in-Some.ensures.small in
    numbers_read c.args.n (title_line x) (codes "TSPCERT") c.args.tail.now (x ∷ []) (omega arith) refl c.in-Some.ensures.some
    (and_from (nat_lt 0 x) (nat_le x 2) (lt-ltb 0 x small.0) (le-leb x 2 small.1)) c.requires.short

pub returns-in-None : goal.returns-in-None
returns-in-None c = no_title c.args.n c.args.tail.now c.requires.tail (λ m b e.
    let p = and_parts (nat_lt 0 m) (nat_le m 2) b in
    c.in-None.ensures.none m (ltb-true 0 m p.0) (leb-true m 2 p.1) e)
