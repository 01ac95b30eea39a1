use Rattle.std.proofs.Common.{Bool, not, List, sym, ap, ◌∙◌, subst, arith}
use Rattle.tspdef.specs.Sets.{IsSet}
use Rattle.tspdef.specs.Cuts.{odd, IsOdd}
use Rattle.sepodd.specs.Folding.{differ}
use Rattle.sepodd.specs.Sides.{is_marked, is_chosen}
use Rattle.sepodd.specs.Cuts.{ArePairsTo}
use Rattle.sepodd.proofs.CutLemmas.{IsHandle, IsCutOfSide, cut_of_side}
use Rattle.sepodd.proofs.cuts.cut_of.Goals as goal
use Rattle.sepodd.proofs.cuts.cut_of.Goals.{In-Err, In-Ok}

side_if_err : (c : In-Err) → IsCutOfSide c.args.x.now c.in_ok-handle.handle.cities c.in_ok-pairs.pairs.items c.args.best.now.weight
side_if_err c =
    let x = c.args.x.now in
    let side = c.args.best.now.side.items in
    let h = c.in_ok-handle.handle.cities in
    let size = c.n-n.ensures.value in
    let many = c.n-n.ensures.many in
    let few = c.n-n.ensures.few in
    let handle : IsHandle x.n (is_marked side) h = record {
      set = subst (λ n. IsSet n h) size c.in_ok-handle.ensures.set;
      members = λ k l. c.in_ok-handle.ensures.members k (omega (arith, size, l))
          ∙ ap (λ (m : List Bool). not (differ (is_marked m k) (is_marked m 0))) c.deref.ensures.value;
    } in
    cut_of_side x (is_marked side) h c.in_ok-pairs.pairs.items c.args.best.now.weight c.args.best.now.turned (omega (arith, size, many)) (omega (arith, size, few)) c.entries-entries.ensures.entries c.requires.relaxed
    handle (subst (λ (m : List Bool). ArePairsTo x.n (is_marked m) (is_chosen x.entries c.args.best.now.turned) (x.n, 0) c.in_ok-pairs.pairs.items) c.deref-2.ensures.value c.in_ok-pairs.ensures.pairs)
    (c.requires.best.has_weight c.requires.light)

side_if_ok : (c : In-Ok) → IsCutOfSide c.args.x.now c.in_ok-handle.handle.cities c.in_ok-pairs.pairs.items c.args.best.now.weight
side_if_ok c =
    let x = c.args.x.now in
    let side = c.args.best.now.side.items in
    let h = c.in_ok-handle.handle.cities in
    let size = c.n-n.ensures.value in
    let many = c.n-n.ensures.many in
    let few = c.n-n.ensures.few in
    let handle : IsHandle x.n (is_marked side) h = record {
      set = subst (λ n. IsSet n h) size c.in_ok-handle.ensures.set;
      members = λ k l. c.in_ok-handle.ensures.members k (omega (arith, size, l))
          ∙ ap (λ (m : List Bool). not (differ (is_marked m k) (is_marked m 0))) c.deref.ensures.value;
    } in
    cut_of_side x (is_marked side) h c.in_ok-pairs.pairs.items c.args.best.now.weight c.args.best.now.turned (omega (arith, size, many)) (omega (arith, size, few)) c.entries-entries.ensures.entries c.requires.relaxed
    handle (subst (λ (m : List Bool). ArePairsTo x.n (is_marked m) (is_chosen x.entries c.args.best.now.turned) (x.n, 0) c.in_ok-pairs.pairs.items) c.deref-2.ensures.value c.in_ok-pairs.ensures.pairs)
    (c.requires.best.has_weight c.requires.light)

pub no_memory-requires : goal.no_memory-requires
no_memory-requires c =
    let is = (side_if_err c).is_odd in
    c.in-Err.ensures.complete (subst (λ n. IsOdd n c.in_ok-handle.handle.cities c.in_ok-pairs.pairs.items) (sym (c.in_ok-handle.ensures.cities ∙ c.n-n.ensures.value)) is)

pub returns-in-Ok : goal.returns-in-Ok
returns-in-Ok c =
    let side = side_if_ok c in
    record {
      handle = c.in_ok-handle.handle.cities;
      pairs = c.in_ok-pairs.pairs.items;
      is_odd = side.is_odd;
      is_cut = c.in-Ok.ensures.made ∙ ap (λ n. odd n c.in_ok-handle.handle.cities c.in_ok-pairs.pairs.items) (c.in_ok-handle.ensures.cities ∙ c.n-n.ensures.value);
      home = side.home;
      weighs = side.weighs;
    }
