use Rattle.std.proofs.Common.{◌≡◌, ◌<◌, ◌∙◌, ℕ, List, length, sym, arith}
use Rattle.std.specs.Prelude.{slice_index}
use Rattle.std.proofs.lemmas.Grind.{get_or_default_zero}
use Rattle.tspinst.specs.Fixings.{with_pair, name_at, renamed}
use Rattle.tspinst.proofs.KeepLemmas.{collected_with}
use Rattle.tspinst.proofs.fixing.Fixing.keep.Goals as goal

pub invariant_of-self-2 : goal.invariant_of-self-2
invariant_of-self-2 c =
    let f = c.self.inside in
    let h = c.self.invariant.1 in
    let names : List ℕ = f.names.items in
    let after : List ℕ = c.rename.new.names.items in
    let rising = c.requires.rising in
    let below = rw (← c.self.view_is) at c.requires.below in
    let new = rw (← c.self.view_is) at c.requires.new in
    let free = rw (← c.self.view_is) at c.requires.free in
    let closed = rw (← c.self.view_is) at c.requires.open_ended in
    let high_in : c.args.high < length names = rw h.named.all below in
    let low_in : c.args.low < length names = (let a = rising in let b = high_in in omega arith) in
    let from_is : c.index-from.result.now ≡ name_at names c.args.low = c.index-from.ensures ∙ get_or_default_zero _ _ _ low_in in
    let to_is : c.index-to.result.now ≡ name_at names c.args.high = c.index-to.ensures ∙ get_or_default_zero _ _ _ high_in in
    let long : length after ≡ length names = c.rename.ensures.all in
    let name_after : (k : ℕ) → k < f.n → name_at after k ≡ renamed (name_at names c.args.low) (name_at names c.args.high) (name_at names k) =
    (λ k l.
    let within : k < length names = rw h.named.all l in
    let within_after : k < length after = rw long within in
    let old_is : slice_index names k ≡ name_at names k = get_or_default_zero names k _ within in
    let new_is : slice_index after k ≡ name_at after k = get_or_default_zero after k _ within_after in
    let told : slice_index after k ≡ renamed c.index-from.result.now c.index-to.result.now (slice_index names k) = c.rename.ensures.named k within in
    sym new_is ∙ rw (← old_is, ← from_is, ← to_is) told) in
    let items : c.insert.new.self.items ≡ with_pair (c.args.low, c.args.high) f.pairs.items = c.in_ok-insert.ensures.items ∙ (rw c.deref.ensures.value at c.place_of-place.ensures.place) in (
      c.self.invariant.0,
      rw (items, c.join_to-2.ensures, c.join_to.ensures)
          (collected_with f.n f.pairs.items f.partners.items names h c.args.low c.args.high rising below new free.0 free.1 closed after long name_after),
    )
