use Rattle.std.proofs.Common.{◌≡◌, List, ℕ, ℤ, take, Err, ap, sym, subst, ◌∙◌}
use Rattle.ports.specs.Outside.{BothTell}
use Rattle.ports.specs.Desk.{Adds, with_outlet_path}
use Rattle.ports.specs.declared.desk.Outlet.TheVariants as outlet
use Rattle.verification.proofs.Tells.{on_ok, on_err}
use Rattle.onetree.specs.Told.{AddsCertificate, AddsFront}
use Rattle.tspengine.specs.Calls.{on_desk}
use Rattle.tspengine.proofs.Bounds.{bounded, unbound, torn_certificate, torn_line, unwritten}
use Rattle.tspengine.proofs.bounding.certify.Goals as goal

pub returns-then-is_err-clause-ends : goal.returns-then-is_err-clause-ends
returns-then-is_err-clause-ends g c = λ call is path kept read.
    let b = g.D.Desk.told c.args.desk.now in
    let d = g.D.Desk.told c.bind_out.new.self in
    unbound (on_desk call.before.desk d call) c.args.instance.now c.args.raised.now b is kept read
    (on_err c.bind_out.result (sym c.is_err.ensures.value ∙ c.if-is_err.true) c.bind_out.ensures.err)

pub returns-in-Ok-write_all-clause-ends : goal.returns-in-Ok-write_all-clause-ends
returns-in-Ok-write_all-clause-ends g c = λ call is path kept read.
    let b = g.D.Desk.told c.args.desk.now in
    let d = g.D.Desk.told c.bind_out.new.self in
    let e = g.D.Desk.told c.write.new.desk in
    let f = g.D.Desk.told c.write_all.new.desk in
    let bind = subst (λ (w : List ℕ). BothTell (λ t u. u ≡ with_outlet_path w t) b d) path
    (on_ok c.bind_out.result (sym c.is_err.ensures.value ∙ c.if-is_err.false) c.bind_out.ensures.bound) in
    let adds = subst (λ (p : List ℤ). AddsCertificate c.args.instance.now p c.in-Ok.field-0 d e) c.deref.ensures.value c.in-Ok.ensures.written in
    bounded c.tours_are_one_trees.ensures.one c.tours_are_one_trees.ensures.shorter (on_desk call.before.desk f call) c.args.instance.now c.args.raised.now
    c.in-Ok.field-0 b d e c.n-known.ensures.instance.many is kept
    (c.written_is_accepted.ensures c.args.instance.now c.args.raised.now.duals.items c.in-Ok.field-0 c.n-known.ensures.instance c.requires.duals adds.0)
    read bind adds (subst (λ (l : List ℕ). BothTell (Adds outlet.Text l) e f) c.deref-in-Ok.ensures.value c.in-Ok-write_all.ensures.all)

pub returns-in-Err-clause-ends : goal.returns-in-Err-clause-ends
returns-in-Err-clause-ends g c = λ call is path kept read.
    let (k, less, front) = c.in-Err.ensures.front in
    let b = g.D.Desk.told c.args.desk.now in
    let d = g.D.Desk.told c.bind_out.new.self in
    let e = g.D.Desk.told c.write.new.desk in
    let f = g.D.Desk.told c.write_all.new.desk in
    let bind = subst (λ (w : List ℕ). BothTell (λ t u. u ≡ with_outlet_path w t) b d) path
    (on_ok c.bind_out.result (sym c.is_err.ensures.value ∙ c.if-is_err.false) c.bind_out.ensures.bound) in
    let adds = subst (λ (p : List ℤ). AddsCertificate c.args.instance.now p c.in-Ok.field-0 d e) c.deref.ensures.value c.in-Ok.ensures.written in
    torn_line c.tours_are_one_trees.ensures.one (on_desk call.before.desk f call) c.args.instance.now c.args.raised.now c.in-Ok.field-0 k b d e is kept read bind adds
    (subst (λ (l : List ℕ). BothTell (Adds outlet.Text (take k l)) e f) c.deref-in-Ok.ensures.value front)

pub returns-in-Err-NoMemory-clause-ends : goal.returns-in-Err-NoMemory-clause-ends
returns-in-Err-NoMemory-clause-ends g c = λ call is path kept read.
    let b = g.D.Desk.told c.args.desk.now in
    let d = g.D.Desk.told c.bind_out.new.self in
    let e = g.D.Desk.told c.write.new.desk in
    let bind = subst (λ (w : List ℕ). BothTell (λ t u. u ≡ with_outlet_path w t) b d) path
    (on_ok c.bind_out.result (sym c.is_err.ensures.value ∙ c.if-is_err.false) c.bind_out.ensures.bound) in
    unwritten (on_desk call.before.desk e call) c.args.instance.now b d kept read bind (c.in-Err-NoMemory.ensures.no_memory (ap Err c.in-Err-NoMemory.field-0-is))

pub returns-in-Err-Failed-clause-ends : goal.returns-in-Err-Failed-clause-ends
returns-in-Err-Failed-clause-ends g c = λ call is path kept read.
    let b = g.D.Desk.told c.args.desk.now in
    let d = g.D.Desk.told c.bind_out.new.self in
    let e = g.D.Desk.told c.write.new.desk in
    let bind = subst (λ (w : List ℕ). BothTell (λ t u. u ≡ with_outlet_path w t) b d) path
    (on_ok c.bind_out.result (sym c.is_err.ensures.value ∙ c.if-is_err.false) c.bind_out.ensures.bound) in
    torn_certificate (on_desk call.before.desk e call) c.args.instance.now c.args.raised.now b d is kept read bind
    (subst (λ (p : List ℤ). AddsFront c.args.instance.now p d e) c.deref.ensures.value (c.in-Err-Failed.ensures.front (ap Err c.in-Err-Failed.field-0-is)))
