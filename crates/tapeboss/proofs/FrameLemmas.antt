-- Frames that are heard.
use Rattle.std.proofs.Common.{◌≡◌, ℕ, ◌≤◌, List, length, drop, Option, Some, true, cond, ◌&&◌, Ok, Err, sym, ap, ◌∙◌, eq-eqb, arith}
use Rattle.std.specs.Prelude.{nat_le}
use Rattle.std.proofs.lemmas.Bool.Decides.{nat_tests}
use Rattle.pricer.specs.declared.closing.Report.{Report}
use Rattle.bossx.specs.declared.brought.Brought.TheVariants.{Plain}
use Rattle.bossx.specs.declared.events.Event.{Event}
use Rattle.bossx.specs.declared.events.Event.TheVariants as event
use Rattle.tapeboss.specs.Frames.{word_of, with_grunt, with_report, told_report}
use Rattle.tapeboss.specs.Messages.{report_in}
use Rattle.tapeboss.specs.declared.error.Fault.TheVariants.{BadKind, BadGrunt}

within : (a b : ℕ) → a ≤ b → nat_le a b ≡ true
within a b h = grind (arith, nat_tests)

pub grunt_heard : (grunts : ℕ) (call : ℕ → Event) (args : List ℕ) (g : ℕ) → length args ≡ 4 → g ≡ word_of args → 1 ≤ g → g ≤ grunts → with_grunt grunts call args ≡ Ok (call g)
grunt_heard grunts call args g four e low high =
    let low' : 1 ≤ word_of args = omega (arith, e, low) in
    let high' : word_of args ≤ grunts = omega (arith, e, high) in
    ap (λ b. cond b (cond (nat_le 1 (word_of args) && nat_le (word_of args) grunts) (Ok (call (word_of args))) (Err BadGrunt)) (Err BadKind)) (eq-eqb (length args) 4 four)
    ∙ (ap (λ b. cond (b && nat_le (word_of args) grunts) (Ok (call (word_of args))) (Err BadGrunt)) (within 1 (word_of args) low')
    ∙ (ap (λ b. cond b (Ok (call (word_of args))) (Err BadGrunt)) (within (word_of args) grunts high') ∙ ap (λ j. Ok (call j)) (sym e)))

pub report_heard : (n : ℕ) (args text : List ℕ) (l : ℕ) (o : Option Report) (r : Report) → 4 ≤ length args → text ≡ drop 4 args → l ≡ word_of args → o ≡ report_in n text → o ≡ Some r
    → with_report n args ≡ Ok (event.Report l (Plain r))
report_heard n args text l o r long e f told is =
    ap (λ b. cond b (told_report (word_of args) (report_in n (drop 4 args))) (Err BadKind)) (within 4 (length args) long)
    ∙ (ap (told_report (word_of args)) (ap (report_in n) (sym e) ∙ (sym told ∙ is)) ∙ ap (λ j. Ok (event.Report j (Plain r))) (sym f))
