use Rattle.std.proofs.Common.{◌≡◌, ◌∙◌, sym, ap, arith, None, take}
use Rattle.std.specs.Option.{option_map}
use Rattle.certdef.specs.Items.{item_of}
use Rattle.certline.specs.Said.{said}
use Rattle.verdict.proofs.Lines.{item_said}
use Rattle.onetree.proofs.CertificateLemmas.{first_item, no_item_there, is_line_end, line_end_is}
use Rattle.onetree.proofs.heading.next_item.Goals as goal

pub returns-in-Some-2-clause-some : goal.returns-in-Some-2-clause-some
returns-in-Some-2-clause-some c =
    let here = c.in-Some.ensures in
    let is = sym (ap (option_map said) c.in-Some-2.is) ∙ c.in_ok-item.ensures.item in (
      first_item c.args.n c.args.text.now c.split_at.result.0.now c.split_at.result.1.now c.in-Some.end (said c.in-Some-2.item) c.split_at.ensures.front c.split_at.ensures.back here.0.high here.1 is,
      (item_said c.args.n c.split_at.result.0.now (said c.in-Some-2.item) (sym is)).1,
    )

pub returns-in-None-clause-none : goal.returns-in-None-clause-none
returns-in-None-clause-none c = λ x more h.
    let here = c.in-Some.ensures in
    let few = c.requires in
    let none : item_of c.args.n (take c.in-Some.end c.args.text.now) ≡ None = sym (ap (item_of c.args.n) c.split_at.ensures.front) ∙ (sym c.in_ok-item.ensures.item ∙ ap (option_map said) c.in-None.is) in
    no_item_there c.args.n c.args.text.now c.in-Some.end x more (omega arith) here.0.high (is_line_end _ here.1) (λ j l m e. here.0.before j (omega arith) l (line_end_is _ e)) none h
