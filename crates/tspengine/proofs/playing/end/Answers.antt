use Rattle.std.proofs.Common.{◌++◌, [], None, Some, ap, ◌∙◌, refl, inl, inr, Err}
use Rattle.tspengine.specs.declared.statuses.Status.TheVariants as status
use Rattle.tspengine.proofs.Plays.{ends_whole, ends_at_fault, torn_end, breaks}
use Rattle.tspengine.proofs.playing.end.Goals as goal

pub returns-in-Ok-write_all-clause-ends : goal.returns-in-Ok-write_all-clause-ends
returns-in-Ok-write_all-clause-ends g c = λ before takes none.
    let got = c.in-Ok.ensures.ended in
    ends_whole c.args.tape got.0 c.deref.result.now before _ _
    (c.deref.ensures.value ∙ (got.1 ∙ ap (λ x. x ++ got.0) c.new-line.ensures.items)) got.2 takes none c.in-Ok-write_all.ensures.all

pub returns-in-Ok-clause-ends : goal.returns-in-Ok-clause-ends
returns-in-Ok-clause-ends g c = λ before takes none.
    let got = c.in-Ok.ensures.ended in
    let front = c.in-Err.ensures.front in
    torn_end c.args.tape got.0 c.deref.result.now None front.0 before _ _
    (c.deref.ensures.value ∙ (got.1 ∙ ap (λ x. x ++ got.0) c.new-line.ensures.items)) got.2 takes none front.2

pub returns-in-Ok-write_all-2-clause-ends : goal.returns-in-Ok-write_all-2-clause-ends
returns-in-Ok-write_all-2-clause-ends g c = λ before takes none.
    let got = c.in-Err-Bad.ensures.bad c.in-Err-Bad.field-0-0 c.in-Err-Bad.field-0-1 (ap Err c.in-Err-Bad.field-0-is) in
    ends_at_fault c.args.tape got.0 c.deref-in-Err-Bad.result.now c.in-Err-Bad.field-0-0 c.in-Err-Bad.field-0-1 before _ _
    (c.deref-in-Err-Bad.ensures.value ∙ (got.1 ∙ ap (λ x. x ++ got.0) c.new-line.ensures.items)) got.2 takes none c.in-Ok-write_all-2.ensures.all

pub returns-in-Err-Bad-clause-ends : goal.returns-in-Err-Bad-clause-ends
returns-in-Err-Bad-clause-ends g c = λ before takes none.
    let got = c.in-Err-Bad.ensures.bad c.in-Err-Bad.field-0-0 c.in-Err-Bad.field-0-1 (ap Err c.in-Err-Bad.field-0-is) in
    let front = c.in-Err-write_all.ensures.front in
    torn_end c.args.tape got.0 c.deref-in-Err-Bad.result.now (Some (c.in-Err-Bad.field-0-0, c.in-Err-Bad.field-0-1)) front.0 before _ _
    (c.deref-in-Err-Bad.ensures.value ∙ (got.1 ∙ ap (λ x. x ++ got.0) c.new-line.ensures.items)) got.2 takes none front.2

pub returns-clause-ends : goal.returns-clause-ends
returns-clause-ends g c = λ before takes none. breaks c.args.tape status.NoMemory [] before _ (inr (inr refl)) takes

pub returns-in-Ok-write_all-clause-status : goal.returns-in-Ok-write_all-clause-status
returns-in-Ok-write_all-clause-status g c = inl refl

pub returns-in-Ok-clause-status : goal.returns-in-Ok-clause-status
returns-in-Ok-clause-status g c = inr (inr (inr (inl refl)))

pub returns-in-Ok-write_all-2-clause-status : goal.returns-in-Ok-write_all-2-clause-status
returns-in-Ok-write_all-2-clause-status g c = inr (inl refl)

pub returns-in-Err-Bad-clause-status : goal.returns-in-Err-Bad-clause-status
returns-in-Err-Bad-clause-status g c = inr (inr (inr (inl refl)))

pub returns-clause-status : goal.returns-clause-status
returns-clause-status g c = inr (inr (inr (inr refl)))
