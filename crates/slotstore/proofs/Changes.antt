-- One slot changed, one step after another.
use Rattle.std.proofs.Common.{◌≡◌, ℕ, ◌==◌, Bool, true, false, cond, List, refl, sym, ap, subst, ◌∙◌, Option, Some, None, Result, Ok, Err, OnOk, OnErr}
use Rattle.ports.specs.Outside.{BothTell, WhereTold}
use Rattle.ports.specs.Slots.{kept_slot, SlotsTold, SlotTold, slot_of, with_slot, after_write, ChangesSlot}
use Rattle.slotstore.specs.Writing.{KeepsOthers, Becomes}

-- slots keep what is written to a slot
pub slot_of-with_slot : (slot : ℕ) (s : SlotTold) (t : SlotsTold) → slot_of slot (with_slot slot s t) ≡ s
slot_of-with_slot slot s t = go (slot == 0)
  where
    go : (b : Bool) → cond b (cond b (record t { slot0 = s }) (record t { slot1 = s })).slot0 (cond b (record t { slot0 = s }) (record t { slot1 = s })).slot1 ≡ s
    go true = refl
    go false = refl

pub with_slot-twice : (slot : ℕ) (r s : SlotTold) (t : SlotsTold) → with_slot slot s (with_slot slot r t) ≡ with_slot slot s t
with_slot-twice slot r s t = go (slot == 0)
  where
    go : (b : Bool) → cond b (record (cond b (record t { slot0 = r }) (record t { slot1 = r })) { slot0 = s }) (record (cond b (record t { slot0 = r }) (record t { slot1 = r })) { slot1 = s }) ≡ cond b (record t { slot0 = s }) (record t { slot1 = s })
    go true = refl
    go false = refl

pub with_slot-same : (slot : ℕ) (t : SlotsTold) → with_slot slot (slot_of slot t) t ≡ t
with_slot-same slot t = go (slot == 0)
  where
    go : (b : Bool) → cond b (record t { slot0 = cond b t.slot0 t.slot1 }) (record t { slot1 = cond b t.slot0 t.slot1 }) ≡ t
    go true = refl
    go false = refl

-- a slot that was set is kept beside the others
pub set_keeps : (slot : ℕ) (s : SlotTold) (t u : SlotsTold) → u ≡ with_slot slot s t → KeepsOthers slot t u
set_keeps slot s t u e =
    let held : slot_of slot u ≡ s = ap (slot_of slot) e ∙ slot_of-with_slot slot s t in
    e ∙ ap (λ x. with_slot slot x t) (sym held)

pub keeps_more : (slot : ℕ) (t u v : SlotsTold) → KeepsOthers slot t u → KeepsOthers slot u v → KeepsOthers slot t v
keeps_more slot t u v x y =
    y ∙ ap (λ w. with_slot slot (slot_of slot v) w) x ∙ with_slot-twice slot (slot_of slot u) (slot_of slot v) t

-- steps where slots may tell
pub both_then : (P Q R : SlotsTold → SlotsTold → Type 0) → ((t u v : SlotsTold) → P t u → Q u v → R t v)
    → (t u v : Option SlotsTold) → BothTell P t u → BothTell Q u v → BothTell R t v
both_then P Q R f None None None x y = tt
both_then P Q R f None None (Some v) x y = y
both_then P Q R f None (Some u) v x y = absurd x
both_then P Q R f (Some t) None v x y = absurd x
both_then P Q R f (Some t) (Some u) None x y = y
both_then P Q R f (Some t) (Some u) (Some v) x y = f t u v x y

pub both_map : (P Q : SlotsTold → SlotsTold → Type 0) → ((t u : SlotsTold) → P t u → Q t u)
    → (t u : Option SlotsTold) → BothTell P t u → BothTell Q t u
both_map P Q f None None x = tt
both_map P Q f None (Some u) x = x
both_map P Q f (Some t) None x = x
both_map P Q f (Some t) (Some u) x = f t u x

-- nothing changed
pub both_same : (P : SlotsTold → SlotsTold → Type 0) → ((t : SlotsTold) → P t t) → (t u : Option SlotsTold) → u ≡ t → BothTell P t u
both_same P f None u e = subst (λ w. BothTell P None w) (sym e) tt
both_same P f (Some t) u e = subst (λ w. BothTell P (Some t) w) (sym e) (f t)

pub keeps_all : (slot : ℕ) (t : SlotsTold) → KeepsOthers slot t t
keeps_all slot t = sym (with_slot-same slot t)

-- a failed call keeps the others
pub changes_keep : (slot : ℕ) (R : SlotTold → SlotTold → Type 0) (t u : Option SlotsTold) → BothTell (ChangesSlot slot R) t u → BothTell (KeepsOthers slot) t u
changes_keep slot R t u = both_map (ChangesSlot slot R) (KeepsOthers slot) (λ t u x. x.others) t u

-- a write, and a sync
pub Wrote : ℕ → ℕ → List ℕ → SlotsTold → SlotsTold → Type 0
Wrote slot pos bytes t u = u ≡ with_slot slot (after_write pos bytes (slot_of slot t)) t

pub kept_then : (slot : ℕ) (t u v : Option SlotsTold) → BothTell (KeepsOthers slot) t u → BothTell (KeepsOthers slot) u v → BothTell (KeepsOthers slot) t v
kept_then slot t u v = both_then (KeepsOthers slot) (KeepsOthers slot) (KeepsOthers slot) (keeps_more slot) t u v

-- one step's bytes after another's
pub becomes_then : (slot : ℕ) (f h : List ℕ → List ℕ) (t u v : SlotsTold) → Becomes slot f t u → Becomes slot h u v → Becomes slot (λ bytes. h (f bytes)) t v
becomes_then slot f h t u v x y =
    let first : SlotTold = kept_slot (f (slot_of slot t).bytes) in
    let second : SlotTold = kept_slot (h (f (slot_of slot t).bytes)) in
    let held : slot_of slot u ≡ first = ap (slot_of slot) x ∙ slot_of-with_slot slot first t in
    y ∙ ap (λ s. with_slot slot (kept_slot (h s.bytes)) u) held
    ∙ ap (λ w. with_slot slot second w) x
    ∙ with_slot-twice slot first second t

-- what holds at a success
pub on_ok : {T E : Type 0} (r : Result T E) (P Q : Type 0) → (P → Q) → OnOk r P → OnOk r Q
on_ok (Ok x) P Q f h = f h
on_ok (Err e) P Q f h = h

-- and at a failure
pub on_err : {T E : Type 0} (r : Result T E) (P Q : Type 0) → (P → Q) → OnErr r P → OnErr r Q
on_err (Ok x) P Q f h = h
on_err (Err e) P Q f h = f h

pub always_err : {T E : Type 0} (r : Result T E) (P : Type 0) → P → OnErr r P
always_err (Ok x) P h = tt
always_err (Err e) P h = h

-- what is told of one moment is told of another where they tell the same
pub where_moved : (P : SlotsTold → Type 0) (t u : Option SlotsTold) → u ≡ t → WhereTold P u → WhereTold P t
where_moved P t u e h = subst (λ w. WhereTold P w) e h

pub where_both : (P Q R : SlotsTold → Type 0) → ((t : SlotsTold) → P t → Q t → R t) → (t : Option SlotsTold) → WhereTold P t → WhereTold Q t → WhereTold R t
where_both P Q R f None x y = tt
where_both P Q R f (Some t) x y = f t x y

pub where_all : (P : SlotsTold → Type 0) → ((t : SlotsTold) → P t) → (t : Option SlotsTold) → WhereTold P t
where_all P f None = tt
where_all P f (Some t) = f t
