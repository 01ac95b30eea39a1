use Rattle.std.proofs.Common.{◌≡◌, ◌+◌, ◌<◌, [], length, vec_len, Some, sym, ap, ◌∙◌, subst, arith}
use Rattle.std.proofs.lemmas.Bool.{eqb-true}
use Rattle.tapeboss.specs.Frames.{number_of}
use Rattle.tapeboss.specs.Replies.{fault_line}
use Rattle.tapeboss.specs.Tapes.{Playing, EndsAs, last_line}
use Rattle.tapeboss.specs.declared.error.Fault.{Fault}
use Rattle.tapeboss.specs.declared.error.Fault.TheVariants.{Truncated}
use Rattle.tapeboss.specs.declared.error.TapeError.TheVariants.{Bad}
use Rattle.tapeboss.proofs.Playing.{truncated_is_told, end_is_told}
use Rattle.tapeboss.proofs.PieceLemmas.{err_is, none_left, last_is, some_of}
use Rattle.tapeboss.proofs.tape.Tape.finish.Goals as goal

pub returns-then-not-is_empty-clause-bad : goal.returns-then-not-is_empty-clause-bad
returns-then-not-is_empty-clause-bad c = λ f k e.
    let h = c.stop.ensures f k (err_is c.stop.result (Bad f k) e) in
    let view = c.self.view_is in
    let line = fault_line (number_of Truncated) (c.self.inside.frames + 1) in
    let some : 0 < length c.self.inside.begun.items = (let left = some_of (vec_len c.self.inside.begun) (sym c.is_empty.ensures ∙ c.if-not-is_empty.true) in let ok = c.self.inside.begun.ok.0 in omega (arith, ok, left)) in (
      line,
      h.2,
      subst (λ (g : Fault). EndsAs c.args.self line (Some (g, k))) (sym h.0)
          (truncated_is_told c.args.self line k (h.1 ∙ ap (λ (t : Playing). t.frames + 1) view) (ap (λ (t : Playing). fault_line (number_of Truncated) (t.frames + 1)) view)
          (subst (λ (t : Playing). 0 < length t.begun) view some)),
    )

pub returns-clause-ended : goal.returns-clause-ended
returns-clause-ended c =
    let view = c.self.view_is in
    let none : length c.self.inside.begun.items ≡ 0 = (let left = eqb-true (vec_len c.self.inside.begun) 0 (sym c.is_empty.ensures ∙ c.if-not-is_empty.false) in let ok = c.self.inside.begun.ok.0 in omega (arith, ok, left)) in
    let empty : c.self.inside.begun.items ≡ [] = none_left c.self.inside.begun.items none in
    let line : c.deref.result.now ≡ last_line c.self.inside.boss = c.deref.ensures.value ∙ (c.in_ok-line.ensures
    ∙ last_is c.self.inside.boss c.settled.result c.open_nodes.result c.best_length.result c.snapshot.result.1.now c.settled.ensures.value c.open_nodes.ensures c.snapshot.ensures.tree c.best_length.ensures) in (
      c.deref.result.now,
      c.in_ok-extend_from_slice.ensures.items,
      end_is_told c.args.self c.deref.result.now (line ∙ ap (λ (t : Playing). last_line t.book) view) (sym (ap (λ (t : Playing). t.begun) view) ∙ empty),
    )
