use Rattle.std.proofs.Common.{subst, ◌≡◌, ◌-◌, take}
use Rattle.std.specs.Prelude.{IfOk}
use Rattle.ports.specs.Outside.{BothTell, WhereTold}
use Rattle.tspdef.specs.Instances.{Instance}
use Rattle.certdef.specs.Bytes.{verdict}
use Rattle.certcheck.specs.Answers.{verdict_of, count_taken, HasNoRefusal}
use Rattle.certcheck.proofs.TakenLemmas.{none_taken}
use Rattle.certcheck.proofs.checking.judge.Goals as goal

pub returns-in_err-block-clause-needed : goal.returns-in_err-block-clause-needed
returns-in_err-block-clause-needed g c = none_taken c.args.instance.now (g.D.Desk.told c.args.desk.now)

pub returns-clause-judged : goal.returns-clause-judged
returns-clause-judged g c =
    subst (λ (i : Instance). IfOk c.read_through.result (λ a. WhereTold (λ t. verdict_of a ≡ verdict i t.proof_in) (g.D.Desk.told c.args.desk.now))) c.new.ensures.instance c.read_through.ensures.judged

pub returns-clause-needed : goal.returns-clause-needed
returns-clause-needed g c =
    subst (λ (i : Instance). BothTell (λ t u. HasNoRefusal i (take (count_taken t u - 65536) t.proof_in)) (g.D.Desk.told c.args.desk.now) (g.D.Desk.told c.read_through.new.desk)) c.new.ensures.instance c.read_through.ensures.needed
