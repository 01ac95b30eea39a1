-- What a crash leaves while slots are synced, and the moments of begin and save.
use Rattle.std.proofs.Common.{◌≡◌, ℕ, ◌-◌, ◌^◌, ◌≤◌, ◌<◌, List, length, get_or, refl, sym, ap, subst, ◌∙◌, arith, inl, inr, ⊎_elim, Option, Some, None, Result, Ok, Err, OnOk, OnErr}
use Rattle.std.specs.Prelude.{All}
use Rattle.std.proofs.lemmas.Bool.{cases_lt}
use Rattle.std.proofs.lemmas.List.{get_or_past}
use Rattle.ports.specs.Outside.{BothTell, WhereTold}
use Rattle.ports.specs.Slots.{SlotsTold, SlotTold, slot_of, with_slot, kept_slot, after_sync, IsScrambled, ChangesSlot, IsOutside}
use Rattle.ports.specs.Crash.{Moment, IsImage, MayLeave, Passes, Since, moment_of, reach}
use Rattle.slotstore.specs.Store.{loaded, after_save}
use Rattle.slotstore.specs.Crashing.{LoadsAs, LoadsAsOr, LoadsOnly, MayLoad, ReadsOr, settled}
use Rattle.slotstore.proofs.Changes.{both_then, both_map}
use Rattle.slotstore.proofs.Loading.{loads_saved}
use Rattle.slotstore.proofs.Leaving.{settled_only, settled_is, settled_after}
use Rattle.slotstore.proofs.Strays.{kept_image, reads_image}
use Rattle.slotstore.proofs.Told.{both_both}
use Rattle.slotstore.proofs.Walks.{since_start, since_pass, since_weaken, since_then}

scrambled_covers : (s r : SlotTold) → IsScrambled s r → (c : List ℕ) → IsImage r c → IsImage s c
scrambled_covers s r x c image = record {
  no_shorter = omega (arith, image.no_shorter, x.synced, x.same_length);
  no_longer = subst (λ n. length c ≤ n) (ap (λ n. reach n r.unsynced) x.same_length ∙ ap (λ l. reach (length s.bytes) l) x.ranges) image.no_longer;
  outside = λ k old within out. image.outside k (omega (arith, old, x.synced)) within (subst (λ l. All (IsOutside k) l) (sym x.ranges) out) ∙ same k out;
} where
  same : (k : ℕ) → All (IsOutside k) s.unsynced → get_or r.bytes k 0 ≡ get_or s.bytes k 0
  same k out = ⊎_elim
      (λ (inside : k < length r.bytes). x.outside k inside out)
      (λ (past : length r.bytes ≤ k). get_or_past r.bytes k 0 past ∙ sym (get_or_past s.bytes k 0 (omega (arith, past, x.same_length))))
      (cases_lt k (length r.bytes))

synced_covers : (s r : SlotTold) → r ≡ kept_slot s.bytes → (c : List ℕ) → IsImage r c → IsImage s c
synced_covers s r e c image = subst (IsImage s) (sym (kept_image s.bytes c (subst (λ x. IsImage x c) e image))) (reads_image s)

-- whatever a crash leaves later, one could leave before
abbrev pub Covers : SlotsTold → SlotsTold → Type 0
Covers t u = (left : SlotsTold) → MayLeave (moment_of u) left → MayLeave (moment_of t) left

covers_first : (t u : SlotsTold) → u ≡ with_slot 0 (slot_of 0 u) t → ((c : List ℕ) → IsImage u.slot0 c → IsImage t.slot0 c) → Covers t u
covers_first t u e f left may =
    let same : u.slot1 ≡ t.slot1 = ap (λ (x : SlotsTold). x.slot1) e in
    record { slot0 = f left.slot0.bytes may.slot0; slot1 = subst (λ s. IsImage s left.slot1.bytes) same may.slot1 }

covers_second : (t u : SlotsTold) → u ≡ with_slot 1 (slot_of 1 u) t → ((c : List ℕ) → IsImage u.slot1 c → IsImage t.slot1 c) → Covers t u
covers_second t u e f left may =
    let same : u.slot0 ≡ t.slot0 = ap (λ (x : SlotsTold). x.slot0) e in
    record { slot0 = subst (λ s. IsImage s left.slot0.bytes) same may.slot0; slot1 = f left.slot1.bytes may.slot1 }

ok_first : (t u : SlotsTold) → u ≡ with_slot 0 (after_sync (slot_of 0 t)) t → Covers t u
ok_first t u e =
    let held : u.slot0 ≡ kept_slot t.slot0.bytes = ap (λ (x : SlotsTold). x.slot0) e in
    covers_first t u (e ∙ ap (λ s. with_slot 0 s t) (sym held)) (synced_covers t.slot0 u.slot0 held)

ok_second : (t u : SlotsTold) → u ≡ with_slot 1 (after_sync (slot_of 1 t)) t → Covers t u
ok_second t u e =
    let held : u.slot1 ≡ kept_slot t.slot1.bytes = ap (λ (x : SlotsTold). x.slot1) e in
    covers_second t u (e ∙ ap (λ s. with_slot 1 s t) (sym held)) (synced_covers t.slot1 u.slot1 held)

err_first : (t u : SlotsTold) → ChangesSlot 0 IsScrambled t u → Covers t u
err_first t u x = covers_first t u x.others (scrambled_covers t.slot0 u.slot0 x.changed)

err_second : (t u : SlotsTold) → ChangesSlot 1 IsScrambled t u → Covers t u
err_second t u x = covers_second t u x.others (scrambled_covers t.slot1 u.slot1 x.changed)

pub stays : (t u : SlotsTold) → Covers t u → LoadsAs (moment_of t) (moment_of u)
stays t u f left may = (left, f left may, refl)

pub here : (t : SlotsTold) → Covers t t
here t left may = may

-- a sync on the way
abbrev pub Settles : List Moment → List Moment → SlotsTold → SlotsTold → Type 0
Settles before after t u = Since (LoadsAs (moment_of t)) before after u × Covers t u

on : (before mid after : List Moment) (t u v : SlotsTold) → Since (LoadsAs (moment_of t)) before mid u → Covers t u → Covers u v → Passes u v mid after → Since (LoadsAs (moment_of t)) before after v
on before mid after t u v s f h passes = since_pass (LoadsAs (moment_of t)) before mid after u v s passes (stays t v (λ left may. f left (h left may)))

pub first_failed : (past after : List Moment) (t u : Option SlotsTold) → BothTell (ChangesSlot 0 IsScrambled) t u → BothTell (λ t u. Passes t u past after) t u → BothTell (λ t u. Since (LoadsAs (moment_of t)) past after u) t u
first_failed past after t u x y =
    both_map (λ t u. ChangesSlot 0 IsScrambled t u × Passes t u past after) (λ t u. Since (LoadsAs (moment_of t)) past after u)
    (λ t u xy. on past past after t t u (since_start (LoadsAs (moment_of t)) past t (stays t t (here t))) (here t) (err_first t u xy.0) xy.1) t u
    (both_both (ChangesSlot 0 IsScrambled) (λ t u. Passes t u past after) t u x y)

first_done : (past after : List Moment) (t u : Option SlotsTold) → BothTell (λ t u. u ≡ with_slot 0 (after_sync (slot_of 0 t)) t) t u → BothTell (λ t u. Passes t u past after) t u → BothTell (Settles past after) t u
first_done past after t u x y =
    both_map (λ t u. (u ≡ with_slot 0 (after_sync (slot_of 0 t)) t) × Passes t u past after) (Settles past after)
    (λ t u xy. (on past past after t t u (since_start (LoadsAs (moment_of t)) past t (stays t t (here t))) (here t) (ok_first t u xy.0) xy.1, ok_first t u xy.0)) t u
    (both_both (λ t u. u ≡ with_slot 0 (after_sync (slot_of 0 t)) t) (λ t u. Passes t u past after) t u x y)

pub second_done : {T E : Type 0} (r : Result T E) (past mid after : List Moment) (t u v : Option SlotsTold) → BothTell (λ t u. u ≡ with_slot 0 (after_sync (slot_of 0 t)) t) t u → BothTell (λ t u. Passes t u past mid) t u
    → OnOk r (BothTell (λ t u. u ≡ with_slot 1 (after_sync (slot_of 1 t)) t) u v) → OnErr r (BothTell (ChangesSlot 1 IsScrambled) u v) → BothTell (λ t u. Passes t u mid after) u v
    → BothTell (λ t u. Since (LoadsAs (moment_of t)) past after u) t v
second_done (Ok z) past mid after t u v x y ok err passes =
    both_then (Settles past mid) (λ u v. (v ≡ with_slot 1 (after_sync (slot_of 1 u)) u) × Passes u v mid after) (λ t v. Since (LoadsAs (moment_of t)) past after v)
    (λ t u v s xy. on past mid after t u v s.0 s.1 (ok_second u v xy.0) xy.1) t u v (first_done past mid t u x y)
    (both_both (λ u v. v ≡ with_slot 1 (after_sync (slot_of 1 u)) u) (λ u v. Passes u v mid after) u v ok passes)
second_done (Err z) past mid after t u v x y ok err passes =
    both_then (Settles past mid) (λ u v. ChangesSlot 1 IsScrambled u v × Passes u v mid after) (λ t v. Since (LoadsAs (moment_of t)) past after v)
    (λ t u v s xy. on past mid after t u v s.0 s.1 (err_second u v xy.0) xy.1) t u v (first_done past mid t u x y)
    (both_both (ChangesSlot 1 IsScrambled) (λ u v. Passes u v mid after) u v err passes)

pub nothing_yet : (past : List Moment) (t : Option SlotsTold) → BothTell (λ t u. Since (LoadsAs (moment_of t)) past past u) t t
nothing_yet past None = tt
nothing_yet past (Some t) = since_start (LoadsAs (moment_of t)) past t (stays t t (here t))

pub only_told : (t u : Option SlotsTold) → BothTell (λ t u. u ≡ settled t) t u → WhereTold (λ u. LoadsOnly (loaded u) u) u
only_told None None e = tt
only_told None (Some u) e = absurd e
only_told (Some t) None e = tt
only_told (Some t) (Some u) e = settled_only u (settled_is t u e)

-- a save, after both slots were synced
or_new : (body : List ℕ) (before after : List Moment) (t u : SlotsTold) → Since (LoadsAs (moment_of t)) before after u → Since (LoadsAsOr (moment_of t) body) before after u
or_new body before after t u s = since_weaken (LoadsAs (moment_of t)) (LoadsAsOr (moment_of t) body) before after u (λ m f left may. inl (f left may)) s

pub or_new_told : (body : List ℕ) (before after : List Moment) (t u : Option SlotsTold) → BothTell (λ t u. Since (LoadsAs (moment_of t)) before after u) t u → BothTell (λ t u. Since (LoadsAsOr (moment_of t) body) before after u) t u
or_new_told body before after t u x = both_map (λ t u. Since (LoadsAs (moment_of t)) before after u) (λ t u. Since (LoadsAsOr (moment_of t) body) before after u) (or_new body before after) t u x

from_reads : (body : List ℕ) (t u : SlotsTold) (m : Moment) → LoadsAs (moment_of t) (moment_of u) → ReadsOr u body m → LoadsAsOr (moment_of t) body m
from_reads body t u m stayed reads left may = ⊎_elim
    (λ (same : loaded left ≡ loaded u). inl (subst (MayLoad (moment_of t)) (sym same) (stayed u (record { slot0 = reads_image u.slot0; slot1 = reads_image u.slot1 }))))
    (λ (new : loaded left ≡ Some body). inr new)
    (reads left may)

pub replaced : (body : List ℕ) (before mid after : List Moment) (t u v : Option SlotsTold) → BothTell (λ t u. Since (LoadsAs (moment_of t)) before mid u) t u
    → BothTell (λ u v. Since (ReadsOr u body) mid after v) u v → BothTell (λ t v. Since (LoadsAsOr (moment_of t) body) before after v) t v
replaced body before mid after t u v x y =
    both_then (λ t u. Since (LoadsAs (moment_of t)) before mid u) (λ u v. Since (ReadsOr u body) mid after v) (λ t v. Since (LoadsAsOr (moment_of t) body) before after v)
    (λ t u v s r. since_then (LoadsAsOr (moment_of t) body) before mid after u v (or_new body before mid t u s)
    (since_weaken (ReadsOr u body) (LoadsAsOr (moment_of t) body) mid after v (λ m reads. from_reads body t u m s.now_too reads) r)) t u v x y

pub saved_only : (body : List ℕ) (t u v : Option SlotsTold) → length body < 2 ^ 64 - 10 → BothTell (λ t u. u ≡ settled t) t u → BothTell (λ t u. u ≡ after_save body t) u v → WhereTold (LoadsOnly (Some body)) v
saved_only body t u None small x y = tt
saved_only body t None (Some v) small x y = absurd y
saved_only body None (Some u) (Some v) small x y = absurd x
saved_only body (Some t) (Some u) (Some v) small x y =
    let is : loaded v ≡ Some body = ap loaded y ∙ loads_saved body u small in
    subst (λ b. LoadsOnly b v) is (settled_only v (settled_after body u v (settled_is t u x) y))
