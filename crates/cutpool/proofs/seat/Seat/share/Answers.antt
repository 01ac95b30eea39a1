use Rattle.std.proofs.Common.{◌≡◌, ◌<◌, List, [], ◌∷◌, ◌++◌, length, refl, sym, ap, subst, ◌∙◌, arith, inl, inr}
use Rattle.boxcar.specs.Table.{Where}
use Rattle.tspdef.specs.Cuts.{Cut, IsCut}
use Rattle.cutpool.specs.Pool.{Pool}
use Rattle.cutpool.specs.Seat.{AreSeatsOwn}
use Rattle.cutpool.proofs.PoolLemmas.{found_is, missing_is}
use Rattle.cutpool.proofs.SeatLemmas.{kept_own, inserted, kept_is}
use Rattle.cutpool.proofs.seat.Seat.share.Goals as goal

pub returns-in-Some-clause-seated : goal.returns-in-Some-clause-seated
returns-in-Some-clause-seated g c =
    let f = found_is c.args.cut.now c.self.inside.cuts.keys c.in-Some.place (sym c.get_index_of.ensures.index ∙ c.in-Some.is) in
    rw (← c.self.view_is) (inl (record { there = f.1; same = refl }))

pub returns-then-place-ge-MOST-clause-seated : goal.returns-then-place-ge-MOST-clause-seated
returns-then-place-ge-MOST-clause-seated g c =
    let most = c.self.invariant.few in
    let len = c.len-place.ensures.len in
    let many = c.if-place-ge-MOST.true in
    rw (← c.self.view_is) (record {
      missing = missing_is c.args.cut.now c.self.inside.cuts.keys (sym c.in_default.ensures.found);
      many = omega arith;
      same = refl;
    })

pub invariant_of-self-2 : goal.invariant_of-self-2
invariant_of-self-2 g c =
    let shelf = c.self.inside.pool.now in
    let cuts = c.self.inside.cuts.keys in
    let cut = c.args.cut.now in
    let token = c.in_ok-token.token in
    let len = c.len-place.ensures.len in
    let below = c.if-place-ge-MOST.false in
    let room : length cuts < 4096 = omega arith in
    let n = c.n-n.ensures.value ∙ c.requires ∙ sym (ap (λ (p : Pool). p.n) c.self.view_is) in
    let is = subst (λ k. IsCut k cut) n c.n-n.ensures.is_cut in
    let last = c.in_ok-insert.ensures.keys ∙ inserted cuts c.in_ok-copy.copy cut c.in_ok-copy.ensures (sym c.in_default.ensures.found) in
    let tokens = c.push_reserved.ensures.items ∙ ap (λ (ts : List (Where Cut)). ts ++ token ∷ []) c.in_ok-reserve.ensures.items in
    let own = kept_own shelf cuts c.self.inside.tokens.items cut token c.self.invariant is c.in_ok-token.ensures.shown c.in_ok-token.ensures.value room in
    subst (λ (cs : List Cut). AreSeatsOwn shelf cs c.push_reserved.new.self.items) (sym last) (subst (λ (ts : List (Where Cut)). AreSeatsOwn shelf (cuts ++ cut ∷ []) ts) (sym tokens) own)

pub returns-clause-seated : goal.returns-clause-seated
returns-clause-seated g c =
    let cuts = c.self.inside.cuts.keys in
    let cut = c.args.cut.now in
    let none = sym c.in_default.ensures.found in
    let len = c.len-place.ensures.len in
    let below = c.if-place-ge-MOST.false in
    let last = c.in_ok-insert.ensures.keys ∙ inserted cuts c.in_ok-copy.copy cut c.in_ok-copy.ensures none in
    rw (← c.self.view_is) (inr (kept_is c.self.inside.pool.now.n cuts c.insert.new.self.keys cut c.len-place.result none len (omega arith) last))
