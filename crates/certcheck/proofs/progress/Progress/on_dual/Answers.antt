use Rattle.std.proofs.Common.{◌≡◌, ℕ, suc, ◌-◌, subst, arith}
use Rattle.certline.specs.Said.{said}
use Rattle.certcheck.specs.Purposes.{tests_by}
use Rattle.certdef.specs.Verdicts.{on_dual}
use Rattle.certcheck.specs.Paths.{later}
use Rattle.std.specs.Prelude.{IfOk}
use Rattle.verdict.specs.Parts.{dual_says}
use Rattle.certcheck.specs.Purposes.{parts_in}
use Rattle.certcheck.specs.declared.purpose.Purpose.TheVariants as purposes
use Rattle.certcheck.specs.Stages.{head, duals, open_duals, Goes}
use Rattle.certcheck.proofs.progress.Progress.on_dual.Goals as goal

pub returns-then-a-ne0-clause-goes : goal.returns-then-a-ne0-clause-goes
returns-then-a-ne0-clause-goes c =
    let s = c.args.self.now in
    let e : suc (c.args.a - 1) ≡ c.args.a = omega arith in
    subst (λ (k : ℕ). Goes c.args.instance.now.n c.on_city.result c.on_city.new.self (on_dual (tests_by c.args.self.now.purpose c.args.instance.now) (head s) (later s.path.conditions) (open_duals s c.args.from) k c.args.b c.args.c c.args.at (said c.args.item))) e c.on_city.ensures.goes

pub returns-then-b-ne0-clause-goes : goal.returns-then-b-ne0-clause-goes
returns-then-b-ne0-clause-goes c =
    let s = c.args.self.now in
    let z : 0 ≡ c.args.a = omega arith in
    let e : suc (c.args.b - 1) ≡ c.args.b = omega arith in
    let P = λ (j k : ℕ). Goes c.args.instance.now.n c.on_cut_dual.result c.on_cut_dual.new.self (on_dual (tests_by c.args.self.now.purpose c.args.instance.now) (head s) (later s.path.conditions) (open_duals s c.args.from) j k c.args.c c.args.at (said c.args.item)) in
    subst (λ (j : ℕ). P j c.args.b) z (subst (λ (k : ℕ). P 0 k) e c.on_cut_dual.ensures.goes)

pub returns-then-c-ne0-clause-goes : goal.returns-then-c-ne0-clause-goes
returns-then-c-ne0-clause-goes c =
    let s = c.args.self.now in
    let y : 0 ≡ c.args.a = omega arith in
    let z : 0 ≡ c.args.b = omega arith in
    let e : suc (c.args.c - 1) ≡ c.args.c = omega arith in
    let P = λ (i j k : ℕ). Goes c.args.instance.now.n c.on_condition_dual.result c.on_condition_dual.new.self (on_dual (tests_by c.args.self.now.purpose c.args.instance.now) (head s) (later s.path.conditions) (open_duals s c.args.from) i j k c.args.at (said c.args.item)) in
    subst (λ (i : ℕ). P i c.args.b c.args.c) y (subst (λ (j : ℕ). P 0 j c.args.c) z (subst (λ (k : ℕ). P 0 0 k) e c.on_condition_dual.ensures.goes))

pub returns-then-a-ne0-clause-says : goal.returns-then-a-ne0-clause-says
returns-then-a-ne0-clause-says c =
    let s = c.args.self.now in
    let e : suc (c.args.a - 1) ≡ c.args.a = omega arith in
    subst (λ (k : ℕ). IfOk c.on_city.result (λ o. s.purpose ≡ purposes.Resume → parts_in o ≡ dual_says c.args.instance.now.n (head s) (duals s) k c.args.b c.args.c (said c.args.item))) e c.on_city.ensures.says

pub returns-then-b-ne0-clause-says : goal.returns-then-b-ne0-clause-says
returns-then-b-ne0-clause-says c =
    let s = c.args.self.now in
    let z : 0 ≡ c.args.a = omega arith in
    let e : suc (c.args.b - 1) ≡ c.args.b = omega arith in
    let P = λ (j k : ℕ). IfOk c.on_cut_dual.result (λ o. s.purpose ≡ purposes.Resume → parts_in o ≡ dual_says c.args.instance.now.n (head s) (duals s) j k c.args.c (said c.args.item)) in
    subst (λ (j : ℕ). P j c.args.b) z (subst (λ (k : ℕ). P 0 k) e c.on_cut_dual.ensures.says)

pub returns-then-c-ne0-clause-says : goal.returns-then-c-ne0-clause-says
returns-then-c-ne0-clause-says c =
    let s = c.args.self.now in
    let y : 0 ≡ c.args.a = omega arith in
    let z : 0 ≡ c.args.b = omega arith in
    let e : suc (c.args.c - 1) ≡ c.args.c = omega arith in
    let P = λ (i j k : ℕ). IfOk c.on_condition_dual.result (λ o. s.purpose ≡ purposes.Resume → parts_in o ≡ dual_says c.args.instance.now.n (head s) (duals s) i j k (said c.args.item)) in
    subst (λ (i : ℕ). P i c.args.b c.args.c) y (subst (λ (j : ℕ). P 0 j c.args.c) z (subst (λ (k : ℕ). P 0 0 k) e c.on_condition_dual.ensures.says))
