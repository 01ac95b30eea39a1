use Rattle.std.proofs.Common.{length, sym, ◌∙◌, subst}
use Rattle.std.proofs.lemmas.Bool.{eqb-true}
use Rattle.certline.proofs.Runs.{NumbersRead, one_read, stuck, too_great, only_read, some_left}
use Rattle.certline.proofs.lists.numbers.Goals as goal

pub returns-in_default-clause-none : goal.returns-in_default-clause-none
returns-in_default-clause-none c ns b e =
    stuck c.args.tail.now c.loop-rest.rest.now c.loop-rest.numbers.items ns (some_left c.loop-rest.rest.now (sym c.is_empty.ensures ∙ c.loop-rest-test.true)) c.in_default.ensures.none c.loop-rest.invariant b e

pub returns-then-number-ge-TOUR_NUMBERS-clause-none :
    goal.returns-then-number-ge-TOUR_NUMBERS-clause-none
returns-then-number-ge-TOUR_NUMBERS-clause-none c ns b e =
    too_great c.args.tail.now c.loop-rest.rest.now c.loop-rest.numbers.items ns c.in-Some.number c.in-Some.more.now c.in-Some.ensures.some c.if-number-ge-TOUR_NUMBERS.true c.loop-rest.invariant b e

pub loop-rest-preserved : goal.loop-rest-preserved
loop-rest-preserved c = subst (λ read. NumbersRead c.args.tail.now c.in-Some.more.now read) (sym c.in_ok-push.ensures.items)
    (one_read c.args.tail.now c.loop-rest.rest.now c.loop-rest.numbers.items c.in-Some.number c.in-Some.more.now c.in-Some.ensures.some c.if-number-ge-TOUR_NUMBERS.false c.loop-rest.invariant)

pub returns-clause-only : goal.returns-clause-only
returns-clause-only c ns b e = only_read c.args.tail.now c.loop-rest.rest.now c.loop-rest.numbers.items ns (eqb-true (length c.loop-rest.rest.now) 0 (sym c.is_empty.ensures ∙ c.loop-rest-test.false)) c.loop-rest.invariant b e
