use Rattle.std.proofs.Common.{◌≡◌, ℕ, ◌+◌, List, [], ◌++◌, length, Err, sym, ap, ◌∙◌, subst, length-append, arith}
use Rattle.std.proofs.lemmas.List.{append-nil}
use Rattle.bossx.specs.Books.{Book}
use Rattle.tapeboss.specs.Frames.{IsBegun, number_of}
use Rattle.tapeboss.specs.Replies.{fault_line}
use Rattle.tapeboss.specs.Tapes.{Playing}
use Rattle.tapeboss.specs.Turns.{IsLongEnough, IsAnswered, FaultIn}
use Rattle.tapeboss.specs.declared.error.TapeError.TheVariants.{Bad}
use Rattle.tapeboss.proofs.PieceLemmas.{err_is}
use Rattle.tapeboss.proofs.Playing.{frame_ends, part_is_begun, frame_is_played, fault_is_told}
use Rattle.tapeboss.proofs.tape.Tape.go_on.Goals as goal

pub returns-in-Err-clause-bad : goal.returns-in-Err-clause-bad
returns-in-Err-clause-bad c = λ f k e.
    let h = c.in-Err.ensures.bad f k (ap Err (err_is c.in-Err.error (Bad f k) e)) in
    let view = c.self.view_is in
    let old = c.args.self in
    let part = c.args.part.now in
    let begun : c.deref.result.now ≡ old.begun ++ part = c.deref.ensures.value ∙ (c.in_ok-extend_from_slice.ensures.items ∙ ap (λ (t : Playing). t.begun ++ part) view) in (
      fault_line (number_of f) (c.self.inside.frames + 1),
      h.put,
      fault_is_told old part _ f k (h.at ∙ ap (λ (t : Playing). t.frames + 1) view) (ap (λ (t : Playing). fault_line (number_of f) (t.frames + 1)) view) c.requires.room c.requires.part
          (subst (λ (b : Book). FaultIn b (old.begun ++ part) f) (ap (λ (t : Playing). t.book) view) (subst (λ (z : List ℕ). FaultIn c.self.inside.boss z f) begun h.fault)),
    )

pub returns-then-whole-clause-played : goal.returns-then-whole-clause-played
returns-then-whole-clause-played c =
    let got = c.in-Ok.ensures.whole c.if-whole.true in
    let view = c.self.view_is in
    let old = c.args.self in
    let part = c.args.part.now in
    let begun : c.deref.result.now ≡ old.begun ++ part = c.deref.ensures.value ∙ (c.in_ok-extend_from_slice.ensures.items ∙ ap (λ (t : Playing). t.begun ++ part) view) in (
      got.1.0,
      got.1.1,
      frame_is_played old _ part got.1.0 (ap (λ (t : Playing). t.frames + 1) view) c.clear.ensures.items (ap (λ (t : Playing). t.read + length part) view) c.requires.room
          (frame_ends old.begun part c.requires.part (subst IsLongEnough begun got.0))
          (subst (λ (b : Book). IsAnswered b (old.begun ++ part) got.1.0 c.turn.new.boss) (ap (λ (t : Playing). t.book) view) (subst (λ (z : List ℕ). IsAnswered c.self.inside.boss z got.1.0 c.turn.new.boss) begun got.1.2)),
    )

pub invariant_of-result-2 : goal.invariant_of-result-2
invariant_of-result-2 c =
    let got = c.in-Ok.ensures.part c.if-whole.false in
    let read = ap (λ (t : Playing). t.read) c.self.view_is in
    let all = length-append c.self.inside.begun.items c.args.part.now in
    let items = ap length c.in_ok-extend_from_slice.ensures.items in
    let room = c.requires.room in
    let few = c.self.invariant.2 in
    (subst IsBegun c.deref.ensures.value got.0, omega (arith, read, room), omega (arith, all, items, few))

pub returns-clause-played : goal.returns-clause-played
returns-clause-played c =
    let got = c.in-Ok.ensures.part c.if-whole.false in
    let view = c.self.view_is in
    let old = c.args.self in
    let part = c.args.part.now in
    let begun : c.deref.result.now ≡ old.begun ++ part = c.deref.ensures.value ∙ (c.in_ok-extend_from_slice.ensures.items ∙ ap (λ (t : Playing). t.begun ++ part) view) in (
      [],
      got.2 ∙ sym (append-nil c.args.out.now.items),
      part_is_begun old _ part (ap (λ (t : Playing). t.frames) view) (got.1 ∙ ap (λ (t : Playing). t.book) view) (c.in_ok-extend_from_slice.ensures.items ∙ ap (λ (t : Playing). t.begun ++ part) view)
          (ap (λ (t : Playing). t.read + length part) view) c.requires.room (subst IsBegun begun got.0),
    )
