-- What a call that failed leaves of settled slots, and what stays of all.
use Rattle.std.proofs.Common.{◌≡◌, ℕ, ◌==◌, Bool, true, false, cond, List, [], refl, sym, ap, subst, ◌∙◌, Option, Some, None}
use Rattle.std.specs.Prelude.{All}
use Rattle.std.proofs.lemmas.List.{ext_get_or}
use Rattle.std.proofs.lemmas.List.Elements.{All-nil}
use Rattle.ports.specs.Outside.{BothTell, WhereTold}
use Rattle.ports.specs.Slots.{Range, SlotsTold, SlotTold, slot_of, with_slot, kept_slot, after_sync, IsOutside, IsScrambled, ChangesSlot}
use Rattle.slotstore.specs.Crashing.{Breaks, IsSettled, settled}
use Rattle.slotstore.specs.Store.{target, ChangesTarget, after_save}
use Rattle.slotstore.specs.Writing.{KeepsOthers}
use Rattle.slotstore.specs.Standing.{IsNext}
use Rattle.slotstore.specs.declared.target.Target.{Target}
use Rattle.slotstore.proofs.Changes.{both_then, both_map, both_same, keeps_all}

same_slot : (r s : SlotTold) → r.bytes ≡ s.bytes → r.unsynced ≡ s.unsynced → r.synced ≡ s.synced → r ≡ s
same_slot r s bytes unsynced synced =
    let of : List ℕ → List Range → ℕ → SlotTold = λ b u n. record { bytes = b; unsynced = u; synced = n } in
    ap (λ b. of b r.unsynced r.synced) bytes ∙ ap (λ u. of s.bytes u r.synced) unsynced ∙ ap (λ n. of s.bytes s.unsynced n) synced

-- a sync that failed changes nothing where all was synced
scrambled_same : (s r : SlotTold) → s ≡ kept_slot s.bytes → IsScrambled s r → r ≡ s
scrambled_same s r kept x =
    let none : s.unsynced ≡ [] = ap (λ (y : SlotTold). y.unsynced) kept in
    same_slot r s
    (ext_get_or 0 r.bytes s.bytes x.same_length (λ k within. x.outside k within (subst (λ l. All (IsOutside k) l) (sym none) (All-nil (IsOutside k)))))
    x.ranges x.synced

with_path_same : (slot : ℕ) (s : SlotTold) (t : SlotsTold) → (with_slot slot s t).path ≡ t.path
with_path_same slot s t = go (slot == 0)
  where
    go : (b : Bool) → (cond b (record t { slot0 = s }) (record t { slot1 = s })).path ≡ t.path
    go true = refl
    go false = refl

with_binds_same : (slot : ℕ) (s : SlotTold) (t : SlotsTold) → (with_slot slot s t).binds ≡ t.binds
with_binds_same slot s t = go (slot == 0)
  where
    go : (b : Bool) → (cond b (record t { slot0 = s }) (record t { slot1 = s })).binds ≡ t.binds
    go true = refl
    go false = refl

path_of : (slot : ℕ) (s : SlotTold) (t u : SlotsTold) → u ≡ with_slot slot s t → u.path ≡ t.path
path_of slot s t u e = ap (λ (w : SlotsTold). w.path) e ∙ with_path_same slot s t

binds_of : (slot : ℕ) (s : SlotTold) (t u : SlotsTold) → u ≡ with_slot slot s t → u.binds ≡ t.binds
binds_of slot s t u e = ap (λ (w : SlotsTold). w.binds) e ∙ with_binds_same slot s t

pub settled_same : (t : SlotsTold) → IsSettled t → settled t ≡ t
settled_same t s =
    ap (λ x. record t { slot0 = x; slot1 = kept_slot t.slot1.bytes }) (sym s.slot0) ∙ ap (λ x. record t { slot1 = x }) (sym s.slot1)

-- syncing both
first_breaks : (t u : SlotsTold) → ChangesSlot 0 IsScrambled t u → Breaks (λ t u. u ≡ t) t u
first_breaks t u x = record {
  path = path_of 0 (slot_of 0 u) t u x.others;
  binds = binds_of 0 (slot_of 0 u) t u x.others;
  kept = λ s. x.others ∙ ap (λ y. with_slot 0 y t) (scrambled_same t.slot0 u.slot0 s.slot0 x.changed);
}

second_breaks : (t m u : SlotsTold) → m ≡ with_slot 0 (after_sync (slot_of 0 t)) t → ChangesSlot 1 IsScrambled m u → Breaks (λ t u. u ≡ t) t u
second_breaks t m u e x = record {
  path = path_of 1 (slot_of 1 u) m u x.others ∙ path_of 0 (after_sync (slot_of 0 t)) t m e;
  binds = binds_of 1 (slot_of 1 u) m u x.others ∙ binds_of 0 (after_sync (slot_of 0 t)) t m e;
  kept = λ s.
      let first : m ≡ t = e ∙ ap (λ y. with_slot 0 y t) (sym s.slot0) in
      let kept : m.slot1 ≡ kept_slot m.slot1.bytes = subst (λ (w : SlotsTold). w.slot1 ≡ kept_slot w.slot1.bytes) (sym first) s.slot1 in
      x.others ∙ ap (λ y. with_slot 1 y m) (scrambled_same m.slot1 u.slot1 kept x.changed) ∙ first;
}

pub first_breaks_told : (t u : Option SlotsTold) → BothTell (ChangesSlot 0 IsScrambled) t u → BothTell (Breaks (λ t u. u ≡ t)) t u
first_breaks_told t u = both_map (ChangesSlot 0 IsScrambled) (Breaks (λ t u. u ≡ t)) first_breaks t u

pub second_breaks_told : (t m u : Option SlotsTold) → BothTell (λ t u. u ≡ with_slot 0 (after_sync (slot_of 0 t)) t) t m → BothTell (ChangesSlot 1 IsScrambled) m u → BothTell (Breaks (λ t u. u ≡ t)) t u
second_breaks_told t m u = both_then (λ t u. u ≡ with_slot 0 (after_sync (slot_of 0 t)) t) (ChangesSlot 1 IsScrambled) (Breaks (λ t u. u ≡ t)) second_breaks t m u

-- slots that were settled, after which a read failed
settled_breaks : (t u : SlotsTold) → u ≡ settled t → Breaks (λ t u. u ≡ t) t u
settled_breaks t u e = record {
  path = ap (λ (w : SlotsTold). w.path) e;
  binds = ap (λ (w : SlotsTold). w.binds) e;
  kept = λ s. e ∙ settled_same t s;
}

pub settled_breaks_told : (t m u : Option SlotsTold) → BothTell (λ t u. u ≡ settled t) t m → u ≡ m → BothTell (Breaks (λ t u. u ≡ t)) t u
settled_breaks_told t m u x e = subst (λ w. BothTell (Breaks (λ t u. u ≡ t)) t w) (sym e) (both_map (λ t u. u ≡ settled t) (Breaks (λ t u. u ≡ t)) settled_breaks t m x)

-- a save: before it began to write
pub breaks_target : (t u : SlotsTold) → Breaks (λ t u. u ≡ t) t u → Breaks ChangesTarget t u
breaks_target t u b = record { path = b.path; binds = b.binds; kept = λ s. subst (λ w. ChangesTarget t w) (sym (b.kept s)) (keeps_all (target t) t) }

pub breaks_target_told : (t u : Option SlotsTold) → BothTell (Breaks (λ t u. u ≡ t)) t u → BothTell (Breaks ChangesTarget) t u
breaks_target_told t u = both_map (Breaks (λ t u. u ≡ t)) (Breaks ChangesTarget) breaks_target t u

-- and after that
target_breaks : (t m u : SlotsTold) → m ≡ settled t → ChangesTarget m u → Breaks ChangesTarget t u
target_breaks t m u e x = record {
  path = path_of (target m) (slot_of (target m) u) m u x ∙ ap (λ (w : SlotsTold). w.path) e;
  binds = binds_of (target m) (slot_of (target m) u) m u x ∙ ap (λ (w : SlotsTold). w.binds) e;
  kept = λ s. subst (λ w. ChangesTarget w u) (e ∙ settled_same t s) x;
}

pub target_breaks_told : (t m u : Option SlotsTold) → BothTell (λ t u. u ≡ settled t) t m → BothTell ChangesTarget m u → BothTell (Breaks ChangesTarget) t u
target_breaks_told t m u = both_then (λ t u. u ≡ settled t) ChangesTarget (Breaks ChangesTarget) target_breaks t m u

-- only the slot that the save goes to
to_target : (slot : ℕ) (t u : SlotsTold) → slot ≡ target t → KeepsOthers slot t u → ChangesTarget t u
to_target slot t u e x = subst (λ k. KeepsOthers k t u) e x

pub to_target_told : (next : Target) (t u : Option SlotsTold) → WhereTold (IsNext next) t → BothTell (KeepsOthers next.slot) t u → BothTell ChangesTarget t u
to_target_told next None None is x = tt
to_target_told next None (Some u) is x = x
to_target_told next (Some t) None is x = x
to_target_told next (Some t) (Some u) is x = to_target next.slot t u is.slot x

pub unchanged_told : (slot : ℕ) (t u : Option SlotsTold) → u ≡ t → BothTell (KeepsOthers slot) t u
unchanged_told slot t u e = both_same (KeepsOthers slot) (keeps_all slot) t u e

-- both were synced and nothing is known: nothing happened
pub same_settled : (next : Target) (t : Option SlotsTold) → WhereTold (IsNext next) t → BothTell (λ t u. u ≡ settled t) t t
same_settled next None is = tt
same_settled next (Some t) is = sym (settled_same t is.settled)

-- steps of equations
pub saved_settled : (body : List ℕ) (t m u : Option SlotsTold) → BothTell (λ t u. u ≡ settled t) t m → BothTell (λ t u. u ≡ after_save body t) m u → BothTell (λ t u. u ≡ after_save body (settled t)) t u
saved_settled body t m u = both_then (λ t u. u ≡ settled t) (λ t u. u ≡ after_save body t) (λ t u. u ≡ after_save body (settled t)) (λ t m u e f. f ∙ ap (after_save body) e) t m u
