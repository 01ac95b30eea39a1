use Rattle.std.proofs.Common.{rules, ◌^◌, ◌<◌, refl, sym, ◌∙◌, inr}
use Rattle.viewing.proofs.Parts.{IsWhole, whole, too_many, whole_begins, was_said, test_refuses}
use Rattle.viewing.proofs.saying.read_said.Goals as goal

pub returns-in-Err-clause-refused : goal.returns-in-Err-clause-refused
returns-in-Err-clause-refused c =
    let few : c.args.instance.now.n < 2 ^ 32 = search rules in
    test_refuses c.args.instance.now c.args.bytes.now c.in-Err.trouble c.yes_is_body_text.ensures.exact few c.in-Err.ensures.refused

pub returns-then-not-are_few-clause-refused : goal.returns-then-not-are_few-clause-refused
returns-then-not-are_few-clause-refused c =
    let i = c.args.instance.now in
    let said = c.in-Ok.said in
    let few : i.n < 2 ^ 32 = search rules in
    inr (
      refl,
      refl,
      too_many i c.args.bytes.now said.length said.bound said.parts.items said.full c.yes_is_body_text.ensures.exact c.yes_is_body_text.ensures.parts few
          c.in-Ok.ensures.judged c.in-Ok.ensures.said (sym c.are_few.ensures ∙ c.if-not-are_few.true),
    )

pub take_tour-tour-requires : goal.take_tour-tour-requires
take_tour-tour-requires c =
    let i = c.args.instance.now in
    let said = c.in-Ok.said in
    let few : i.n < 2 ^ 32 = search rules in
    whole_begins i c.args.bytes.now said.length said.bound said.parts.items
    (whole i c.args.bytes.now said.length said.bound said.parts.items said.full c.yes_is_body_text.ensures.exact c.yes_is_body_text.ensures.parts few
    c.in-Ok.ensures.judged c.in-Ok.ensures.said (sym c.are_few.ensures ∙ c.if-not-are_few.false))

pub returns-clause-said : goal.returns-clause-said
returns-clause-said c =
    let i = c.args.instance.now in
    let said = c.in-Ok.said in
    let few : i.n < 2 ^ 32 = search rules in
    let w : IsWhole i c.args.bytes.now said.length said.bound said.parts.items =
    whole i c.args.bytes.now said.length said.bound said.parts.items said.full c.yes_is_body_text.ensures.exact c.yes_is_body_text.ensures.parts few
    c.in-Ok.ensures.judged c.in-Ok.ensures.said (sym c.are_few.ensures ∙ c.if-not-are_few.false) in
    was_said i c.args.bytes.now said.length said.bound said.parts.items c.take_tour-tour.new.parts.items c.take_tour-tour.result c.in_ok-nodes.nodes.items w c.take_tour-tour.ensures c.in_ok-nodes.ensures
