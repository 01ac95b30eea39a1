use Rattle.std.proofs.Common.{◌≡◌, ◌++◌, ◌∙◌, ap, length, map, arith}
use Rattle.std.proofs.lemmas.Result.{on_ok_weaker}
use Rattle.certdef.specs.Proofs.{city_item, cut_item, condition_item}
use Rattle.certform.specs.Written.{written_cities, written_cuts, written_leaf}
use Rattle.certform.specs.Lines.{said}
use Rattle.certform.proofs.LineLemmas.{leaf_puts}
use Rattle.certform.proofs.Loops.{cuts_in}
use Rattle.certform.proofs.leaf.put_closing.Goals as goal

pub returns : goal.returns
returns c =
    let keys = cuts_in c.args.cuts.now.keys in
    let numbers : c.in_ok-numbers.numbers.items ≡ written_cuts keys c.args.closing.now.cuts = c.in_ok-numbers.ensures ∙ ap (written_cuts keys) c.cuts.ensures in
    on_ok_weaker c.put_condition_duals.result
    (λ h. leaf_puts c.args.out.now.items c.put_leaf.new.out.items c.put_city_duals.new.out.items c.put_cut_duals.new.out.items c.put_condition_duals.new.out.items (written_leaf keys c.args.closing.now)
    c.count.result c.len.result (length c.conds.result.now)
    (c.count.ensures ∙ ap (λ ys. length (written_cities 1 ys)) c.city.ensures)
    (let n = ap length numbers in omega (arith, n, c.len.ensures, c.in_ok-numbers.numbers.ok.0)) (ap length c.conds.ensures)
    c.in_ok-put_leaf.ensures
    (c.in_ok-put_city_duals.ensures ∙ ap (λ ys. c.put_leaf.new.out.items ++ said (map city_item (written_cities 1 ys))) c.city-2.ensures)
    (c.in_ok-put_cut_duals.ensures ∙ ap (λ ys. c.put_city_duals.new.out.items ++ said (map cut_item ys)) (c.deref.ensures.value ∙ numbers))
    (h ∙ ap (λ ys. c.put_cut_duals.new.out.items ++ said (map condition_item ys)) c.conds-2.ensures))
    c.put_condition_duals.ensures
