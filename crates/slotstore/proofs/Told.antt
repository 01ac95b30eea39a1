-- The moments of a call, where slots may tell.
use Rattle.std.proofs.Common.{◌≡◌, ℕ, ◌+◌, List, ◌∷◌, length, ap, arith, Option, Some, None, Result, Ok, Err, OnOk, OnErr}
use Rattle.byteorder.specs.Endian.{big_bytes}
use Rattle.byteorder.specs.Numbers.{length-bytes_high_first}
use Rattle.ports.specs.Outside.{BothTell, WhereTold}
use Rattle.ports.specs.Slots.{SlotsTold, slot_of, with_slot, after_write, after_sync, IsTorn, IsScrambled, ChangesSlot}
use Rattle.ports.specs.Crash.{Moment, Passes, Since}
use Rattle.slotstore.specs.Crashing.{IsKept, IsStray, Leaves}
use Rattle.slotstore.proofs.Changes.{both_then}
use Rattle.slotstore.proofs.Strays.{IsIn, range_of}
use Rattle.slotstore.proofs.Walks.{Walk, walk_start, walk_write, walk_torn, walk_scrambled, walk_synced}

pub both_both : (P Q : SlotsTold → SlotsTold → Type 0) (t u : Option SlotsTold) → BothTell P t u → BothTell Q t u → BothTell (λ t u. P t u × Q t u) t u
both_both P Q None None x y = tt
both_both P Q None (Some u) x y = x
both_both P Q (Some t) None x y = x
both_both P Q (Some t) (Some u) x y = (x, y)

pub both_where : (P : SlotsTold → Type 0) (Q : SlotsTold → SlotsTold → Type 0) (t u : Option SlotsTold) → WhereTold P t → BothTell Q t u → BothTell (λ t u. P t × Q t u) t u
both_where P Q None None x y = tt
both_where P Q None (Some u) x y = y
both_where P Q (Some t) None x y = y
both_where P Q (Some t) (Some u) x y = (x, y)

abbrev pub Walks : ℕ → ℕ → ℕ → List Moment → List Moment → SlotsTold → SlotsTold → Type 0
Walks slot from size before after t u = IsKept slot t → Walk slot from size before after t u

abbrev pub Strays : ℕ → ℕ → ℕ → List Moment → List Moment → SlotsTold → SlotsTold → Type 0
Strays slot from size before after t u = IsKept slot t → Since (Leaves slot (IsStray from size (slot_of slot t).bytes) t) before after u

pub starts : (slot from size : ℕ) (past : List Moment) (t : Option SlotsTold) → BothTell (Walks slot from size past past) t t
starts slot from size past None = tt
starts slot from size past (Some t) = walk_start slot from size past t

pub writes : (slot from size : ℕ) (before mid after : List Moment) (t u v : Option SlotsTold) (pos : ℕ) (piece : List ℕ) → IsIn from size (range_of pos (length piece)) → BothTell (Walks slot from size before mid) t u
    → BothTell (λ u v. v ≡ with_slot slot (after_write pos piece (slot_of slot u)) u) u v → BothTell (λ u v. Passes u v mid after) u v → BothTell (Walks slot from size before after) t v
writes slot from size before mid after t u v pos piece is w x y =
    both_then (Walks slot from size before mid) (λ u v. (v ≡ with_slot slot (after_write pos piece (slot_of slot u)) u) × Passes u v mid after) (Walks slot from size before after)
    (λ t u v w xy kept. walk_write slot from size before mid after t u v pos piece is (w kept) xy.0 xy.1) t u v w
    (both_both (λ u v. v ≡ with_slot slot (after_write pos piece (slot_of slot u)) u) (λ u v. Passes u v mid after) u v x y)

pub tears : (slot from size : ℕ) (before mid after : List Moment) (t u v : Option SlotsTold) (pos len : ℕ) → IsIn from size (range_of pos len) → BothTell (Walks slot from size before mid) t u
    → BothTell (ChangesSlot slot (IsTorn (range_of pos len))) u v → BothTell (λ u v. Passes u v mid after) u v → BothTell (Strays slot from size before after) t v
tears slot from size before mid after t u v pos len is w x y =
    both_then (Walks slot from size before mid) (λ u v. ChangesSlot slot (IsTorn (range_of pos len)) u v × Passes u v mid after) (Strays slot from size before after)
    (λ t u v w xy kept. (walk_torn slot from size before mid after t u v pos len is (w kept) xy.0 xy.1).since) t u v w
    (both_both (ChangesSlot slot (IsTorn (range_of pos len))) (λ u v. Passes u v mid after) u v x y)

pub syncs : {T E : Type 0} (r : Result T E) (slot from size : ℕ) (before mid after : List Moment) (t u v : Option SlotsTold) → BothTell (Walks slot from size before mid) t u
    → OnOk r (BothTell (λ u v. v ≡ with_slot slot (after_sync (slot_of slot u)) u) u v) → OnErr r (BothTell (ChangesSlot slot IsScrambled) u v)
    → BothTell (λ u v. Passes u v mid after) u v → BothTell (Strays slot from size before after) t v
syncs (Ok z) slot from size before mid after t u v w x e y =
    both_then (Walks slot from size before mid) (λ u v. (v ≡ with_slot slot (after_sync (slot_of slot u)) u) × Passes u v mid after) (Strays slot from size before after)
    (λ t u v w xy kept. walk_synced slot from size before mid after t u v (w kept) xy.0 xy.1) t u v w
    (both_both (λ u v. v ≡ with_slot slot (after_sync (slot_of slot u)) u) (λ u v. Passes u v mid after) u v x y)
syncs (Err z) slot from size before mid after t u v w x e y =
    both_then (Walks slot from size before mid) (λ u v. ChangesSlot slot IsScrambled u v × Passes u v mid after) (Strays slot from size before after)
    (λ t u v w xy kept. (walk_scrambled slot from size before mid after t u v (w kept) xy.0 xy.1).since) t u v w
    (both_both (ChangesSlot slot IsScrambled) (λ u v. Passes u v mid after) u v e y)

-- the number and the length of a body stand within the range of a filling
pub label_in : (n x len : ℕ) (label : List ℕ) → label ≡ n ∷ big_bytes 8 x → IsIn 1 (9 + len) (range_of 1 (length label))
label_in n x len label e = record { begins = omega arith; ends = omega (arith, ap length e, length-bytes_high_first 8 x) }
