use Rattle.std.proofs.Common.{◌≡◌, IfOk, Some, ap, sym, subst, ◌∙◌}
use Rattle.certdef.specs.Items.{Item, city_line, cut_line, condition_line}
use Rattle.verdict.specs.Forms.{form_dual}
use Rattle.certline.specs.Said.{said}
use Rattle.certform.specs.Reading.{left_of, form_of}
use Rattle.certform.proofs.PlaceLemmas.{at_dual}
use Rattle.certform.proofs.place.after_dual.Goals as goal

pub returns-in-City-clause-next : goal.returns-in-City-clause-next
returns-in-City-clause-next c =
    let d = left_of c.args.left in
    let e : said c.args.item.now ≡ city_line c.in-City.city c.in-City.field-1 = ap said c.in-City.is in
    subst (λ (x : Item). IfOk c.after_city.result (λ p. form_dual c.args.trees c.args.listed d x ≡ Some (form_of p))) (sym e)
    (at_dual (λ p dual. form_dual c.args.trees c.args.listed d (city_line c.in-City.city dual) ≡ Some (form_of p)) c.after_city.result c.in-City.field-1 c.after_city.ensures.next)

pub returns-in-City-clause-refused : goal.returns-in-City-clause-refused
returns-in-City-clause-refused c =
    let e : said c.args.item.now ≡ city_line c.in-City.city c.in-City.field-1 = ap said c.in-City.is in
    λ h. ap (form_dual c.args.trees c.args.listed (left_of c.args.left)) e ∙ c.after_city.ensures.refused h c.in-City.field-1

pub returns-in-CutDual-clause-next : goal.returns-in-CutDual-clause-next
returns-in-CutDual-clause-next c =
    let d = left_of c.args.left in
    let e : said c.args.item.now ≡ cut_line c.in-CutDual.cut c.in-CutDual.field-1 = ap said c.in-CutDual.is in
    subst (λ (x : Item). IfOk c.after_cut_dual.result (λ p. form_dual c.args.trees c.args.listed d x ≡ Some (form_of p))) (sym e)
    (at_dual (λ p dual. form_dual c.args.trees c.args.listed d (cut_line c.in-CutDual.cut dual) ≡ Some (form_of p)) c.after_cut_dual.result c.in-CutDual.field-1 c.after_cut_dual.ensures.next)

pub returns-in-CutDual-clause-refused : goal.returns-in-CutDual-clause-refused
returns-in-CutDual-clause-refused c =
    let e : said c.args.item.now ≡ cut_line c.in-CutDual.cut c.in-CutDual.field-1 = ap said c.in-CutDual.is in
    λ h. ap (form_dual c.args.trees c.args.listed (left_of c.args.left)) e ∙ c.after_cut_dual.ensures.refused h c.in-CutDual.field-1

pub returns-in-CondDual-clause-next : goal.returns-in-CondDual-clause-next
returns-in-CondDual-clause-next c =
    let d = left_of c.args.left in
    let e : said c.args.item.now ≡ condition_line c.in-CondDual.depth c.in-CondDual.field-1 = ap said c.in-CondDual.is in
    subst (λ (x : Item). IfOk c.after_condition.result (λ p. form_dual c.args.trees c.args.listed d x ≡ Some (form_of p))) (sym e)
    (at_dual (λ p dual. form_dual c.args.trees c.args.listed d (condition_line c.in-CondDual.depth dual) ≡ Some (form_of p)) c.after_condition.result c.in-CondDual.field-1 c.after_condition.ensures.next)

pub returns-in-CondDual-clause-refused : goal.returns-in-CondDual-clause-refused
returns-in-CondDual-clause-refused c =
    let e : said c.args.item.now ≡ condition_line c.in-CondDual.depth c.in-CondDual.field-1 = ap said c.in-CondDual.is in
    λ h. ap (form_dual c.args.trees c.args.listed (left_of c.args.left)) e ∙ c.after_condition.ensures.refused h c.in-CondDual.field-1
