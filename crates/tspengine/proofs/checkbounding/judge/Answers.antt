use Rattle.std.proofs.Common.{◌≡◌, List, ℕ, refl, sym, subst, ◌∙◌, inl, inr}
use Rattle.ports.specs.Outside.{BothTell}
use Rattle.ports.specs.Desk.{with_inlet_path}
use Rattle.ports.specs.declared.desk.Inlet.TheVariants as inlet
use Rattle.tspwords.specs.Program.{cert_word}
use Rattle.verification.proofs.Tells.{on_ok, on_err}
use Rattle.tspengine.specs.Calls.{on_desk}
use Rattle.tspengine.proofs.Checkbounds.{answered, judged, unopened, unread_certificate}
use Rattle.tspengine.proofs.checkbounding.judge.Goals as goal

pub returns-in-Ok-clause-ends : goal.returns-in-Ok-clause-ends
returns-in-Ok-clause-ends g c = λ call path kept read.
    let i = c.args.instance.now in
    let b = g.D.Desk.told c.args.desk.now in
    let d = g.D.Desk.told c.bind_in.new.self in
    let e = g.D.Desk.told c.check.new.desk in
    let f = g.D.Desk.told c.say.new.desk in
    let bind = subst (λ (w : List ℕ). BothTell (λ t u. u ≡ with_inlet_path inlet.Proof w t) b d) path
    (on_ok c.bind_in.result (sym c.is_err.ensures.value ∙ c.if-is_err.false) c.bind_in.ensures.bound) in
    let (k, taken) = c.check.ensures.taken in
    answered c.answers_are_one.ensures c.say.result c.in-Ok.answer (on_desk call.before.desk f call) i b e c.n-known.ensures.instance.few c.in-Ok.ensures.shorter kept read
    (judged i (cert_word call.words) c.in-Ok.answer k b d e bind c.in-Ok.ensures.judged c.in-Ok.ensures.accepted c.in-Ok.ensures.whole taken)
    c.say.ensures.status c.say.ensures.said c.say.ensures.torn c.say.ensures.silent

pub returns-in-Err-Failed-clause-ends : goal.returns-in-Err-Failed-clause-ends
returns-in-Err-Failed-clause-ends g c = λ call path kept read.
    let i = c.args.instance.now in
    let b = g.D.Desk.told c.args.desk.now in
    let d = g.D.Desk.told c.bind_in.new.self in
    let e = g.D.Desk.told c.check.new.desk in
    let bind = subst (λ (w : List ℕ). BothTell (λ t u. u ≡ with_inlet_path inlet.Proof w t) b d) path
    (on_ok c.bind_in.result (sym c.is_err.ensures.value ∙ c.if-is_err.false) c.bind_in.ensures.bound) in
    let (k, taken) = c.check.ensures.taken in
    inr (inr (inr (inl (refl, unread_certificate (on_desk call.before.desk e call) i k b d kept read bind taken))))

pub returns-in-Err-NoMemory-clause-ends : goal.returns-in-Err-NoMemory-clause-ends
returns-in-Err-NoMemory-clause-ends g c = λ call path kept read.
    let i = c.args.instance.now in
    let b = g.D.Desk.told c.args.desk.now in
    let d = g.D.Desk.told c.bind_in.new.self in
    let e = g.D.Desk.told c.check.new.desk in
    let bind = subst (λ (w : List ℕ). BothTell (λ t u. u ≡ with_inlet_path inlet.Proof w t) b d) path
    (on_ok c.bind_in.result (sym c.is_err.ensures.value ∙ c.if-is_err.false) c.bind_in.ensures.bound) in
    let (k, taken) = c.check.ensures.taken in
    inr (inr (inr (inr (inr (refl, unread_certificate (on_desk call.before.desk e call) i k b d kept read bind taken)))))

pub returns-then-is_err-clause-ends : goal.returns-then-is_err-clause-ends
returns-then-is_err-clause-ends g c = λ call path kept read.
    let b = g.D.Desk.told c.args.desk.now in
    let d = g.D.Desk.told c.bind_in.new.self in
    inr (inr (inr (inl (
      refl,
      unopened (on_desk call.before.desk d call) c.args.instance.now b kept read
          (on_err c.bind_in.result (sym c.is_err.ensures.value ∙ c.if-is_err.true) c.bind_in.ensures.err),
    ))))
