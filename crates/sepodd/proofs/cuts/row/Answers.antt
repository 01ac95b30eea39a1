use Rattle.std.proofs.Common.{◌+◌, sym, ◌∙◌, subst, arith}
use Rattle.std.proofs.lemmas.Bool.{and_parts, and_from, false≢true}
use Rattle.tspdef.specs.Tours.{crosses}
use Rattle.sepodd.specs.Sides.{is_marked, is_chosen}
use Rattle.sepodd.specs.Cuts.{ArePairsTo}
use Rattle.sepodd.proofs.PairLemmas.{pairs_begin, pairs_push, pairs_skip, pairs_end}
use Rattle.sepodd.proofs.cuts.row.Goals as goal
use Rattle.sepodd.proofs.cuts.row.Goals.{then-is_wanted+in_ok-push, else-is_wanted}

pub loop-v-init : goal.loop-v-init
loop-v-init c = pairs_begin c.args.x.now.n (is_marked c.args.side.now) (is_chosen c.args.x.now.entries c.args.turned) c.args.u c.args.pairs.now.items c.requires.pairs

pub loop-v-preserved : goal.loop-v-preserved
loop-v-preserved c =
    let n = c.args.x.now.n in
    let p = is_marked c.args.side.now in
    let chosen = is_chosen c.args.x.now.entries c.args.turned in
    let u = c.args.u in
    let v = c.loop-v.v in
    let ps = c.loop-v.pairs.items in
    let below = c.loop-v-test.true in
    let size = c.n-n.ensures.value in
    let rises = c.loop-v.auto.v in
    elim c.if-is_wanted.branch [
      | then-is_wanted+in_ok-push w ↦
          let both = and_parts (crosses p (u, v)) (chosen u v) (sym c.is_wanted.ensures ∙ w.if-is_wanted.true) in
          subst (λ qs. ArePairsTo n p chosen (u, v + 1) qs.items) (sym w.pairs-is)
          (subst (λ qs. ArePairsTo n p chosen (u, v + 1) qs) (sym w.in_ok-push.ensures.items)
          (pairs_push n p chosen u v ps c.loop-v.invariant (omega arith) (omega arith) both.0 both.1))
      | else-is_wanted w ↦
          subst (λ qs. ArePairsTo n p chosen (u, v + 1) qs.items) (sym w.pairs-is)
          (pairs_skip n p chosen u v ps c.loop-v.invariant (λ a b. false≢true (sym w.if-is_wanted.false ∙ c.is_wanted.ensures ∙ and_from (crosses p (u, v)) (chosen u v) a b)))
    ]

pub returns : goal.returns
returns c =
    let done = c.loop-v-test.false in
    let size = c.n-n.ensures.value in
    record { pairs = pairs_end c.args.x.now.n (is_marked c.args.side.now) (is_chosen c.args.x.now.entries c.args.turned) c.args.u c.loop-v.v c.loop-v.pairs.items (omega arith) c.loop-v.invariant }
