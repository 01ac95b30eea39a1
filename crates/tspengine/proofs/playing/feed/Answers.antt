use Rattle.std.proofs.Common.{◌++◌, ap, ◌∙◌, refl, inl, inr, Err}
use Rattle.tspengine.specs.declared.statuses.Status.TheVariants as status
use Rattle.tspengine.proofs.Plays.{further, torn_on, stops_with, torn_stop, breaks}
use Rattle.tspengine.proofs.playing.feed.Goals as goal

pub returns-in-Ok-write_all-clause-turn : goal.returns-in-Ok-write_all-clause-turn
returns-in-Ok-write_all-clause-turn g c = λ before takes.
    let got = c.in-Ok.ensures.played in
    further c.args.tape c.in-Ok.next c.args.piece.now got.0 c.deref.result.now before _ _
    (c.deref.ensures.value ∙ (got.1 ∙ ap (λ x. x ++ got.0) c.new-lines.ensures.items)) c.requires.some got.2 takes c.in-Ok-write_all.ensures.all

pub returns-in-Ok-write_all-clause-writes : goal.returns-in-Ok-write_all-clause-writes
returns-in-Ok-write_all-clause-writes g c = record { later = c.write_all.ensures.cause.later; rose = λ e. absurd cc }

pub returns-in-Ok-clause-turn : goal.returns-in-Ok-clause-turn
returns-in-Ok-clause-turn g c = λ before takes.
    let got = c.in-Ok.ensures.played in
    let front = c.in-Err.ensures.front in
    torn_on c.args.tape c.in-Ok.next c.args.piece.now got.0 c.deref.result.now front.0 before _ _
    (c.deref.ensures.value ∙ (got.1 ∙ ap (λ x. x ++ got.0) c.new-lines.ensures.items)) got.2 takes front.2

pub returns-in-Ok-clause-writes : goal.returns-in-Ok-clause-writes
returns-in-Ok-clause-writes g c = record { later = c.write_all.ensures.cause.later; rose = λ e. c.in-Err.ensures.cause.rose refl }

pub returns-in-Ok-write_all-2-clause-turn : goal.returns-in-Ok-write_all-2-clause-turn
returns-in-Ok-write_all-2-clause-turn g c = λ before takes.
    let got = c.in-Err-Bad.ensures.bad c.in-Err-Bad.field-0-0 c.in-Err-Bad.field-0-1 (ap Err c.in-Err-Bad.field-0-is) in
    stops_with c.args.tape c.args.piece.now got.0 c.deref-in-Err-Bad.result.now c.in-Err-Bad.field-0-0 c.in-Err-Bad.field-0-1 before _ _
    (c.deref-in-Err-Bad.ensures.value ∙ (got.1 ∙ ap (λ x. x ++ got.0) c.new-lines.ensures.items)) got.2 takes c.in-Ok-write_all-2.ensures.all

pub returns-in-Err-Bad-clause-turn : goal.returns-in-Err-Bad-clause-turn
returns-in-Err-Bad-clause-turn g c = λ before takes.
    let got = c.in-Err-Bad.ensures.bad c.in-Err-Bad.field-0-0 c.in-Err-Bad.field-0-1 (ap Err c.in-Err-Bad.field-0-is) in
    let front = c.in-Err-write_all.ensures.front in
    torn_stop c.args.tape c.args.piece.now got.0 c.deref-in-Err-Bad.result.now c.in-Err-Bad.field-0-0 c.in-Err-Bad.field-0-1 front.0 before _ _
    (c.deref-in-Err-Bad.ensures.value ∙ (got.1 ∙ ap (λ x. x ++ got.0) c.new-lines.ensures.items)) got.2 takes front.2

pub returns-clause-turn : goal.returns-clause-turn
returns-clause-turn g c = λ before takes. breaks c.args.tape status.NoMemory c.args.piece.now before _ (inr (inr refl)) takes

pub returns-in-Ok-write_all-clause-status : goal.returns-in-Ok-write_all-clause-status
returns-in-Ok-write_all-clause-status g c = tt

pub returns-in-Ok-clause-status : goal.returns-in-Ok-clause-status
returns-in-Ok-clause-status g c = inr (inr (inr (inl refl)))

pub returns-in-Ok-write_all-2-clause-status : goal.returns-in-Ok-write_all-2-clause-status
returns-in-Ok-write_all-2-clause-status g c = inr (inl refl)

pub returns-in-Err-Bad-clause-status : goal.returns-in-Err-Bad-clause-status
returns-in-Err-Bad-clause-status g c = inr (inr (inr (inl refl)))

pub returns-clause-status : goal.returns-clause-status
returns-clause-status g c = inr (inr (inr (inr refl)))
