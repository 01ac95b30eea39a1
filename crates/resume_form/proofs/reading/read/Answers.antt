use Rattle.std.proofs.Common.{rules, ◌≡◌, ◌^◌, ◌<◌, length, sym, ◌∙◌}
use Rattle.certdef.specs.Accepted.{tree_in}
use Rattle.verdict.specs.Bodies.{merged}
use Rattle.resume_form.proofs.Taken.{IsWhole, whole, too_many, whole_begins, taken, taken_said, was_read, few_read}
use Rattle.resume_form.proofs.reading.read.Goals as goal

pub returns-then-not-has_room-clause-refused : goal.returns-then-not-has_room-clause-refused
returns-then-not-has_room-clause-refused c = λ k at is.
    let i = c.args.instance.now in
    let said = c.in-Ok.said in
    let few : i.n < 2 ^ 32 = search rules in
    let five : k ≡ 5 = cc in
    let none : at ≡ 0 = cc in
    too_many i c.args.body.now said.length said.bound c.args.budget c.args.gap k at said.parts.items said.full c.yes_is_body_text.ensures.exact c.yes_is_body_text.ensures.parts few
    c.in-Ok.ensures.judged c.in-Ok.ensures.said (sym c.has_room.ensures ∙ c.if-not-has_room.true) five none

pub take_tour-tour-requires : goal.take_tour-tour-requires
take_tour-tour-requires c =
    let i = c.args.instance.now in
    let said = c.in-Ok.said in
    let few : i.n < 2 ^ 32 = search rules in
    whole_begins i c.args.body.now said.length said.bound c.args.budget said.parts.items
    (whole i c.args.body.now said.length said.bound c.args.budget said.parts.items said.full c.yes_is_body_text.ensures.exact c.yes_is_body_text.ensures.parts few c.in-Ok.ensures.judged c.in-Ok.ensures.said (sym c.has_room.ensures ∙ c.if-not-has_room.false))

pub grow-requires-clause-said : goal.grow-requires-clause-said
grow-requires-clause-said c =
    let i = c.args.instance.now in
    let said = c.in-Ok.said in
    let few : i.n < 2 ^ 32 = search rules in
    let w : IsWhole i c.args.body.now said.length said.bound c.args.budget said.parts.items =
    whole i c.args.body.now said.length said.bound c.args.budget said.parts.items said.full c.yes_is_body_text.ensures.exact c.yes_is_body_text.ensures.parts few c.in-Ok.ensures.judged c.in-Ok.ensures.said (sym c.has_room.ensures ∙ c.if-not-has_room.false) in
    let t = taken i c.args.body.now said.length said.bound c.args.budget said.parts.items c.take_tour-tour.new.parts.items c.take_tour-tour.result w c.take_tour-tour.ensures in
    (merged (tree_in i.n w.value), taken_said i c.args.body.now said.length said.bound c.args.budget said.parts.items c.take_tour-tour.new.parts.items c.take_tour-tour.result w t)

pub returns-clause-read : goal.returns-clause-read
returns-clause-read c =
    let i = c.args.instance.now in
    let said = c.in-Ok.said in
    let few : i.n < 2 ^ 32 = search rules in
    let w : IsWhole i c.args.body.now said.length said.bound c.args.budget said.parts.items =
    whole i c.args.body.now said.length said.bound c.args.budget said.parts.items said.full c.yes_is_body_text.ensures.exact c.yes_is_body_text.ensures.parts few c.in-Ok.ensures.judged c.in-Ok.ensures.said (sym c.has_room.ensures ∙ c.if-not-has_room.false) in
    let t = taken i c.args.body.now said.length said.bound c.args.budget said.parts.items c.take_tour-tour.new.parts.items c.take_tour-tour.result w c.take_tour-tour.ensures in
    let s = taken_said i c.args.body.now said.length said.bound c.args.budget said.parts.items c.take_tour-tour.new.parts.items c.take_tour-tour.result w t in
    was_read i c.args.budget c.args.gap c.saturating_sub-level.result c.args.body.now said.length said.bound said.parts.items c.take_tour-tour.new.parts.items c.take_tour-tour.result c.in_ok-tree.tree
    c.yes_is_body_text.ensures.sound w t c.saturating_sub-level.ensures (c.in_ok-tree.ensures (merged (tree_in i.n w.value)) s)

pub returns-clause-cities : goal.returns-clause-cities
returns-clause-cities c =
    let i = c.args.instance.now in
    let said = c.in-Ok.said in
    let few : i.n < 2 ^ 32 = search rules in
    let w : IsWhole i c.args.body.now said.length said.bound c.args.budget said.parts.items =
    whole i c.args.body.now said.length said.bound c.args.budget said.parts.items said.full c.yes_is_body_text.ensures.exact c.yes_is_body_text.ensures.parts few c.in-Ok.ensures.judged c.in-Ok.ensures.said (sym c.has_room.ensures ∙ c.if-not-has_room.false) in
    let t = taken i c.args.body.now said.length said.bound c.args.budget said.parts.items c.take_tour-tour.new.parts.items c.take_tour-tour.result w c.take_tour-tour.ensures in
    let s = taken_said i c.args.body.now said.length said.bound c.args.budget said.parts.items c.take_tour-tour.new.parts.items c.take_tour-tour.result w t in
    (c.in_ok-tree.ensures (merged (tree_in i.n w.value)) s).cities

pub returns-clause-fixed : goal.returns-clause-fixed
returns-clause-fixed c =
    let i = c.args.instance.now in
    let said = c.in-Ok.said in
    let few : i.n < 2 ^ 32 = search rules in
    let w : IsWhole i c.args.body.now said.length said.bound c.args.budget said.parts.items =
    whole i c.args.body.now said.length said.bound c.args.budget said.parts.items said.full c.yes_is_body_text.ensures.exact c.yes_is_body_text.ensures.parts few c.in-Ok.ensures.judged c.in-Ok.ensures.said (sym c.has_room.ensures ∙ c.if-not-has_room.false) in
    let t = taken i c.args.body.now said.length said.bound c.args.budget said.parts.items c.take_tour-tour.new.parts.items c.take_tour-tour.result w c.take_tour-tour.ensures in
    let s = taken_said i c.args.body.now said.length said.bound c.args.budget said.parts.items c.take_tour-tour.new.parts.items c.take_tour-tour.result w t in
    (c.in_ok-tree.ensures (merged (tree_in i.n w.value)) s).fixed

pub returns-clause-few : goal.returns-clause-few
returns-clause-few c =
    let i = c.args.instance.now in
    let said = c.in-Ok.said in
    let few : i.n < 2 ^ 32 = search rules in
    let w : IsWhole i c.args.body.now said.length said.bound c.args.budget said.parts.items =
    whole i c.args.body.now said.length said.bound c.args.budget said.parts.items said.full c.yes_is_body_text.ensures.exact c.yes_is_body_text.ensures.parts few c.in-Ok.ensures.judged c.in-Ok.ensures.said (sym c.has_room.ensures ∙ c.if-not-has_room.false) in
    let t = taken i c.args.body.now said.length said.bound c.args.budget said.parts.items c.take_tour-tour.new.parts.items c.take_tour-tour.result w c.take_tour-tour.ensures in
    let s = taken_said i c.args.body.now said.length said.bound c.args.budget said.parts.items c.take_tour-tour.new.parts.items c.take_tour-tour.result w t in
    few_read i c.args.budget c.args.body.now said.length said.bound said.parts.items c.take_tour-tour.new.parts.items c.take_tour-tour.result _ c.in_ok-tree.tree w t (c.in_ok-tree.ensures (merged (tree_in i.n w.value)) s)
