use Rattle.std.proofs.lemmas.Result.{on_ok_weaker}
use Rattle.certform.proofs.LineLemmas.{tour_puts}
use Rattle.certform.proofs.lines.put_tour.Goals as goal

pub returns : goal.returns
returns c = on_ok_weaker c.put_end.result
    (λ h. tour_puts c.args.out.now.items c.put_word.new.out.items c.put_cities.new.out.items c.put_end.new.out.items c.args.cities.now c.in_ok-put_word.ensures c.in_ok-put_cities.ensures h)
    c.put_end.ensures
