use Rattle.std.proofs.Common.{◌∷◌, ◌++◌, codes, sym, ap, ◌∙◌, arith}
use Rattle.std.proofs.lemmas.Bool.{and_parts, and_from, leb-true}
use Rattle.std.specs.Prelude.{nat_lt, nat_le, nat_abs, ◌&&◌}
use Rattle.certdef.specs.Items.{city_line, is_dual}
use Rattle.certline.proofs.Numbers.{spells_once}
use Rattle.certline.proofs.Lines.{no_city, read_as}
use Rattle.std.proofs.Common.{decimal, Some}
use Rattle.std.specs.Fmt.{signed_decimal}
use Rattle.certline.proofs.Signed.{city_spells, narrow_same}
use Rattle.certline.proofs.shapes.city.Goals as goal

pub returns-in_default : goal.returns-in_default
returns-in_default c = no_city c.args.n c.args.tail.now c.requires.tail (λ v x b e.
    let p = and_parts (nat_lt 0 v && nat_le v c.args.n) (is_dual (nat_abs x)) b in
    let most = leb-true v c.args.n (and_parts (nat_lt 0 v) (nat_le v c.args.n) p.0).1 in
    c.in_default.ensures.none v (32 ∷ signed_decimal x) (city_spells c.args.tail.now v x (omega arith) e))

pub returns-in_default-signed_dual : goal.returns-in_default-signed_dual
returns-in_default-signed_dual c = no_city c.args.n c.args.tail.now c.requires.tail (λ v x b e.
    let p = and_parts (nat_lt 0 v && nat_le v c.args.n) (is_dual (nat_abs x)) b in
    let most = leb-true v c.args.n (and_parts (nat_lt 0 v) (nat_le v c.args.n) p.0).1 in
    let same = spells_once c.args.tail.now c.in-Some.city v c.in-Some.rest.now (32 ∷ signed_decimal x) c.in-Some.ensures.some (city_spells c.args.tail.now v x (omega arith) e) in
    c.in_default-signed_dual.ensures.none x p.1 same.1)

pub returns-then-is_city : goal.returns-then-is_city
returns-then-is_city c =
    let v = c.in-Some.city in
    let x = c.in-Some-signed_dual.dual in
    let h = c.in-Some.ensures.some in
    let said = h.said ∙ ap (λ r. 32 ∷ decimal v ++ r) c.in-Some-signed_dual.ensures.some in
    let bounds = and_from (nat_lt 0 v && nat_le v c.args.n) (is_dual (nat_abs x)) (sym c.is_city.ensures.same ∙ c.if-is_city.true) c.in-Some-signed_dual.ensures.dual in
    ap (λ z. Some (city_line v z)) (narrow_same x c.in-Some-signed_dual.ensures.dual)
    ∙ read_as c.args.n (city_line v x) (codes "P" ++ c.args.tail.now) (omega arith) (ap (λ r. codes "P" ++ r) said) bounds c.requires.short

pub returns-else-is_city : goal.returns-else-is_city
returns-else-is_city c = no_city c.args.n c.args.tail.now c.requires.tail (λ v x b e.
    let p = and_parts (nat_lt 0 v && nat_le v c.args.n) (is_dual (nat_abs x)) b in
    let most = leb-true v c.args.n (and_parts (nat_lt 0 v) (nat_le v c.args.n) p.0).1 in
    let same = (spells_once c.args.tail.now c.in-Some.city v c.in-Some.rest.now (32 ∷ signed_decimal x) c.in-Some.ensures.some (city_spells c.args.tail.now v x (omega arith) e)).0 in
    let yes = p.0 in
    let was = c.is_city.ensures.same in
    let no = c.if-is_city.false in
    cc)
