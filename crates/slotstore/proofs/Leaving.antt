-- What two slots load that a crash left while one of them was written.
use Rattle.std.proofs.Common.{◌≡◌, ℕ, ◌+◌, ◌-◌, ◌^◌, ◌<◌, ◌==◌, zero, suc, Bool, true, false, cond, List, ◌∷◌, ◌++◌, length, drop, refl, sym, ap, subst, ◌∙◌, append_assoc, arith, inl, inr, ◌⊎◌, Option, Some, None}
use Rattle.std.specs.Prelude.{option_map}
use Rattle.std.specs.Option.{option_map_or}
use Rattle.ports.specs.Slots.{SlotsTold, SlotTold, slot_of, with_slot, kept_slot}
use Rattle.ports.specs.Crash.{Moment, IsImage, MayLeave, Since, moment_of}
use Rattle.ports.specs.History.{slot_at, with_slot_at}
use Rattle.slotstore.specs.Slot.{number, is_valid, body_of, label, whole_slot}
use Rattle.slotstore.specs.Store.{valid_number, next_number, newer_by, newer, loaded, target, target_number, after_save}
use Rattle.slotstore.specs.Writing.{KeepsOthers, Becomes, with_gate, with_body}
use Rattle.slotstore.specs.Crashing.{IsKept, IsSettled, IsStray, Leaves, LoadsOnly, ReadsOr, SameOrNone, shut, settled}
use Rattle.slotstore.proofs.Changes.{slot_of-with_slot, set_keeps, becomes_then}
use Rattle.slotstore.proofs.Gates.{shut_is, stray_fill, stray_open}
use Rattle.slotstore.proofs.Loading.{loads_saved}
use Rattle.slotstore.proofs.Strays.{kept_image}
use Rattle.slotstore.proofs.Walks.{since_weaken, moment-with_slot}
use Rattle.slotstore.proofs.Written.{filled_whole, opened}

-- what slots with these bytes load
abbrev pub by_bytes : List ℕ → List ℕ → Option (List ℕ)
by_bytes a b = option_map (λ slot. body_of (cond (slot == 0) a b)) (newer_by (valid_number a) (valid_number b))

pub by_bytes_is : (t : SlotsTold) → loaded t ≡ by_bytes t.slot0.bytes t.slot1.bytes
by_bytes_is t = go (newer t)
  where
    pick : (b : Bool) → (cond b t.slot0 t.slot1).bytes ≡ cond b t.slot0.bytes t.slot1.bytes
    pick true = refl
    pick false = refl

    go : (o : Option ℕ) → option_map (λ slot. body_of (slot_of slot t).bytes) o ≡ option_map (λ slot. body_of (cond (slot == 0) t.slot0.bytes t.slot1.bytes)) o
    go None = refl
    go (Some s) = ap (λ l. Some (body_of l)) (pick (s == 0))

-- where the slot that a save writes is none that is whole, the other is loaded as before
none_first : (a b : Option ℕ) (x y c : List ℕ) → option_map_or (λ slot. 1 - slot) (newer_by a b) 0 ≡ 0
    → option_map (λ s. body_of (cond (s == 0) c y)) (newer_by None b) ≡ option_map (λ s. body_of (cond (s == 0) x y)) (newer_by a b)
none_first None None x y c e = refl
none_first (Some a) None x y c e = absurd (omega (arith, e))
none_first None (Some b) x y c e = refl
none_first (Some a) (Some b) x y c e = go (b == next_number a) e
  where
    go : (q : Bool) → option_map_or (λ slot. 1 - slot) (cond q (Some 1) (Some 0)) 0 ≡ 0
        → option_map (λ s. body_of (cond (s == 0) c y)) (Some 1) ≡ option_map (λ s. body_of (cond (s == 0) x y)) (cond q (Some 1) (Some 0))
    go true e = refl
    go false e = absurd (omega (arith, e))

none_second : (a b : Option ℕ) (x y c : List ℕ) → option_map_or (λ slot. 1 - slot) (newer_by a b) 0 ≡ 1
    → option_map (λ s. body_of (cond (s == 0) x c)) (newer_by a None) ≡ option_map (λ s. body_of (cond (s == 0) x y)) (newer_by a b)
none_second None None x y c e = absurd (omega (arith, e))
none_second (Some a) None x y c e = refl
none_second None (Some b) x y c e = absurd (omega (arith, e))
none_second (Some a) (Some b) x y c e = go (b == next_number a) e
  where
    go : (q : Bool) → option_map_or (λ slot. 1 - slot) (cond q (Some 1) (Some 0)) 0 ≡ 1
        → option_map (λ s. body_of (cond (s == 0) x c)) (Some 0) ≡ option_map (λ s. body_of (cond (s == 0) x y)) (cond q (Some 1) (Some 0))
    go true e = absurd (omega (arith, e))
    go false e = refl

not_valid : (c : List ℕ) → is_valid c ≡ false → valid_number c ≡ None
not_valid c e = ap (λ b. cond b (Some (number c)) None) e

-- what a crash may leave of the slot that a save writes
abbrev pub Outcome : ℕ → List ℕ → List ℕ → List ℕ → Type 0
Outcome n body old bytes = SameOrNone old bytes ⊎ (bytes ≡ whole_slot n body ++ drop (10 + length body) old)

first_left : (Q : List ℕ → Type 0) (t : SlotsTold) (m : Moment) (left : SlotsTold) → IsSettled t → Leaves 0 Q t m → MayLeave m left → Q left.slot0.bytes × (left.slot1.bytes ≡ t.slot1.bytes)
first_left Q t m left kept l may =
    let other : m.slot1 ≡ t.slot1 = ap (λ (x : Moment). x.slot1) l.others in
    (l.images left.slot0.bytes may.slot0, kept_image t.slot1.bytes left.slot1.bytes (subst (λ s. IsImage s left.slot1.bytes) (other ∙ kept.slot1) may.slot1))

second_left : (Q : List ℕ → Type 0) (t : SlotsTold) (m : Moment) (left : SlotsTold) → IsSettled t → Leaves 1 Q t m → MayLeave m left → Q left.slot1.bytes × (left.slot0.bytes ≡ t.slot0.bytes)
second_left Q t m left kept l may =
    let other : m.slot0 ≡ t.slot0 = ap (λ (x : Moment). x.slot0) l.others in
    (l.images left.slot1.bytes may.slot1, kept_image t.slot0.bytes left.slot0.bytes (subst (λ s. IsImage s left.slot0.bytes) (other ∙ kept.slot0) may.slot0))

-- a slot before a save: what is told of it, and where the save goes
pub record Start (slot n : ℕ) (t : SlotsTold) : Type 0 where
  pub settled : IsSettled t
  pub to : slot ≡ target t
  pub number : n ≡ target_number t

new_at : (slot n : ℕ) (body : List ℕ) (t : SlotsTold) → Start slot n t → with_slot slot (kept_slot (whole_slot n body ++ drop (10 + length body) (slot_of slot t).bytes)) t ≡ after_save body t
new_at slot n body t start =
    ap (λ k. with_slot k (kept_slot (whole_slot n body ++ drop (10 + length body) (slot_of k t).bytes)) t) start.to
    ∙ ap (λ j. with_slot (target t) (kept_slot (whole_slot j body ++ drop (10 + length body) (slot_of (target t) t).bytes)) t) start.number

reads_first : (n : ℕ) (body : List ℕ) (t : SlotsTold) (m : Moment) → length body < 2 ^ 64 - 10 → Start 0 n t → Leaves 0 (Outcome n body t.slot0.bytes) t m → ReadsOr t body m
reads_first n body t m small start l left may =
    let f = first_left (Outcome n body t.slot0.bytes) t m left start.settled l may in
    go left.slot0.bytes (by_bytes_is left ∙ ap (λ b. by_bytes left.slot0.bytes b) f.1) f.0
  where
    go : (c : List ℕ) → loaded left ≡ by_bytes c t.slot1.bytes → Outcome n body t.slot0.bytes c → (loaded left ≡ loaded t) ⊎ (loaded left ≡ Some body)
    go c here (inl (inl same)) = inl (here ∙ ap (λ a. by_bytes a t.slot1.bytes) same ∙ sym (by_bytes_is t))
    go c here (inl (inr none)) =
        inl (here ∙ ap (λ v. option_map (λ s. body_of (cond (s == 0) c t.slot1.bytes)) (newer_by v (valid_number t.slot1.bytes))) (not_valid c none)
        ∙ none_first (valid_number t.slot0.bytes) (valid_number t.slot1.bytes) t.slot0.bytes t.slot1.bytes c (sym start.to) ∙ sym (by_bytes_is t))
    go c here (inr new) =
        inr (here ∙ ap (λ a. by_bytes a t.slot1.bytes) new ∙ sym (by_bytes_is (with_slot 0 (kept_slot (whole_slot n body ++ drop (10 + length body) t.slot0.bytes)) t))
        ∙ ap loaded (new_at 0 n body t start) ∙ loads_saved body t small)

reads_second : (n : ℕ) (body : List ℕ) (t : SlotsTold) (m : Moment) → length body < 2 ^ 64 - 10 → Start 1 n t → Leaves 1 (Outcome n body t.slot1.bytes) t m → ReadsOr t body m
reads_second n body t m small start l left may =
    let f = second_left (Outcome n body t.slot1.bytes) t m left start.settled l may in
    go left.slot1.bytes (by_bytes_is left ∙ ap (λ a. by_bytes a left.slot1.bytes) f.1) f.0
  where
    go : (c : List ℕ) → loaded left ≡ by_bytes t.slot0.bytes c → Outcome n body t.slot1.bytes c → (loaded left ≡ loaded t) ⊎ (loaded left ≡ Some body)
    go c here (inl (inl same)) = inl (here ∙ ap (λ b. by_bytes t.slot0.bytes b) same ∙ sym (by_bytes_is t))
    go c here (inl (inr none)) =
        inl (here ∙ ap (λ v. option_map (λ s. body_of (cond (s == 0) t.slot0.bytes c)) (newer_by (valid_number t.slot0.bytes) v)) (not_valid c none)
        ∙ none_second (valid_number t.slot0.bytes) (valid_number t.slot1.bytes) t.slot0.bytes t.slot1.bytes c (sym start.to) ∙ sym (by_bytes_is t))
    go c here (inr new) =
        inr (here ∙ ap (λ b. by_bytes t.slot0.bytes b) new ∙ sym (by_bytes_is (with_slot 1 (kept_slot (whole_slot n body ++ drop (10 + length body) t.slot1.bytes)) t))
        ∙ ap loaded (new_at 1 n body t start) ∙ loads_saved body t small)

reads_at : (slot n : ℕ) (body : List ℕ) (t : SlotsTold) (m : Moment) → slot < 2 → length body < 2 ^ 64 - 10 → Start slot n t → Leaves slot (Outcome n body (slot_of slot t).bytes) t m → ReadsOr t body m
reads_at zero n body t m within small start l = reads_first n body t m small start l
reads_at (suc zero) n body t m within small start l = reads_second n body t m small start l
reads_at (suc (suc k)) n body t m within small start l = absurd (omega (arith, within))

-- the steps
twice_at : (slot : ℕ) (r s : SlotTold) (m : Moment) → with_slot_at slot s (with_slot_at slot r m) ≡ with_slot_at slot s m
twice_at slot r s m = go (slot == 0)
  where
    go : (b : Bool) → cond b (record (cond b (record m { slot0 = r }) (record m { slot1 = r })) { slot0 = s }) (record (cond b (record m { slot0 = r }) (record m { slot1 = r })) { slot1 = s }) ≡ cond b (record m { slot0 = s }) (record m { slot1 = s })
    go true = refl
    go false = refl

leaves_from : (slot : ℕ) (Q R : List ℕ → Type 0) (t u : SlotsTold) (m : Moment) → KeepsOthers slot t u → ((c : List ℕ) → Q c → R c) → Leaves slot Q u m → Leaves slot R t m
leaves_from slot Q R t u m kept f l = record {
  others = l.others ∙ ap (λ x. with_slot_at slot (slot_at slot m) x) (ap moment_of kept ∙ moment-with_slot slot (slot_of slot u) t) ∙ twice_at slot (slot_of slot u) (slot_at slot m) (moment_of t);
  images = λ c image. f c (l.images c image);
}

pub becomes_bytes : (slot : ℕ) (f : List ℕ → List ℕ) (t u : SlotsTold) → Becomes slot f t u → slot_of slot u ≡ kept_slot (f (slot_of slot t).bytes)
becomes_bytes slot f t u x = ap (slot_of slot) x ∙ slot_of-with_slot slot (kept_slot (f (slot_of slot t).bytes)) t

pub becomes_kept : (slot : ℕ) (f : List ℕ → List ℕ) (t u : SlotsTold) → Becomes slot f t u → IsKept slot u
becomes_kept slot f t u x = let held = becomes_bytes slot f t u x in held ∙ ap (λ s. kept_slot s.bytes) (sym held)

pub is_kept : (slot : ℕ) (t : SlotsTold) → slot < 2 → IsSettled t → IsKept slot t
is_kept zero t within s = s.slot0
is_kept (suc zero) t within s = s.slot1
is_kept (suc (suc k)) t within s = absurd (omega (arith, within))

pub shut_reads : (slot n : ℕ) (body : List ℕ) (before after : List Moment) (t u : SlotsTold) → slot < 2 → length body < 2 ^ 64 - 10 → Start slot n t
    → Since (Leaves slot (SameOrNone (slot_of slot t).bytes) t) before after u → Since (ReadsOr t body) before after u
shut_reads slot n body before after t u within small start s = since_weaken (Leaves slot (SameOrNone (slot_of slot t).bytes) t) (ReadsOr t body) before after u
    (λ m l. reads_at slot n body t m within small start (record { others = l.others; images = λ c image. inl (l.images c image) })) s

fills_to : (slot n size : ℕ) (body b x c : List ℕ) → x ≡ shut b → IsStray 1 size x c → Outcome n body b c
fills_to slot n size body b x c e s = go (shut_is b)
  where
    go : ((g : ℕ) × ((g == 1) ≡ false) × (shut b ≡ g ∷ drop 1 b)) → Outcome n body b c
    go (g, barred, is) = inl (inr (stray_fill g size (drop 1 b) c barred (subst (λ y. IsStray 1 size y c) (e ∙ is) s)))

pub fill_reads : (slot n size : ℕ) (body : List ℕ) (before after : List Moment) (t u v : SlotsTold) → slot < 2 → length body < 2 ^ 64 - 10 → Start slot n t → Becomes slot shut t u
    → Since (Leaves slot (IsStray 1 size (slot_of slot u).bytes) u) before after v → Since (ReadsOr t body) before after v
fill_reads slot n size body before after t u v within small start x s =
    let bytes : (slot_of slot u).bytes ≡ shut (slot_of slot t).bytes = ap (λ s. s.bytes) (becomes_bytes slot shut t u x) in
    since_weaken (Leaves slot (IsStray 1 size (slot_of slot u).bytes) u) (ReadsOr t body) before after v
    (λ m l. reads_at slot n body t m within small start
    (leaves_from slot (IsStray 1 size (slot_of slot u).bytes) (Outcome n body (slot_of slot t).bytes) t u m (set_keeps slot (kept_slot (shut (slot_of slot t).bytes)) t u x)
    (λ c stray. fills_to slot n size body (slot_of slot t).bytes (slot_of slot u).bytes c bytes stray) l)) s

opens_to : (n : ℕ) (body b x c : List ℕ) → x ≡ with_body n body (shut b) → IsStray 0 1 x c → Outcome n body b c
opens_to n body b x c e s = go (shut_is b)
  where
    rest : List ℕ
    rest = drop (10 + length body) b

    by_open : (g : ℕ) → (c ≡ 1 ∷ (label n body ++ (body ++ rest))) ⊎ (is_valid c ≡ false) → Outcome n body b c
    by_open g (inl new) = inr (new ∙ ap (λ s. 1 ∷ s) (sym (append_assoc (label n body) body rest)))
    by_open g (inr none) = inl (inr none)

    go : ((g : ℕ) × ((g == 1) ≡ false) × (shut b ≡ g ∷ drop 1 b)) → Outcome n body b c
    go (g, barred, is) = by_open g (stray_open g (label n body ++ (body ++ rest)) c (subst (λ y. IsStray 0 1 y c) (e ∙ ap (with_body n body) is ∙ filled_whole g n body b) s))

pub open_reads : (slot n : ℕ) (body : List ℕ) (before after : List Moment) (t u v : SlotsTold) → slot < 2 → length body < 2 ^ 64 - 10 → Start slot n t → Becomes slot (λ b. with_body n body (shut b)) t u
    → Since (Leaves slot (IsStray 0 1 (slot_of slot u).bytes) u) before after v → Since (ReadsOr t body) before after v
open_reads slot n body before after t u v within small start x s =
    let bytes : (slot_of slot u).bytes ≡ with_body n body (shut (slot_of slot t).bytes) = ap (λ s. s.bytes) (becomes_bytes slot (λ b. with_body n body (shut b)) t u x) in
    since_weaken (Leaves slot (IsStray 0 1 (slot_of slot u).bytes) u) (ReadsOr t body) before after v
    (λ m l. reads_at slot n body t m within small start
    (leaves_from slot (IsStray 0 1 (slot_of slot u).bytes) (Outcome n body (slot_of slot t).bytes) t u m (set_keeps slot (kept_slot (with_body n body (shut (slot_of slot t).bytes))) t u x)
    (λ c stray. opens_to n body (slot_of slot t).bytes (slot_of slot u).bytes c bytes stray) l)) s

opened_shut : (n : ℕ) (body b : List ℕ) → with_gate 1 (with_body n body (shut b)) ≡ whole_slot n body ++ drop (10 + length body) b
opened_shut n body b = go (shut_is b)
  where
    go : ((g : ℕ) × ((g == 1) ≡ false) × (shut b ≡ g ∷ drop 1 b)) → with_gate 1 (with_body n body (shut b)) ≡ whole_slot n body ++ drop (10 + length body) b
    go (g, barred, is) = ap (λ s. with_gate 1 (with_body n body s)) is ∙ opened g n body b

pub saves_as : (slot n : ℕ) (body : List ℕ) (t u v : SlotsTold) → Start slot n t → Becomes slot (λ b. with_body n body (shut b)) t u → Becomes slot (with_gate 1) u v → v ≡ after_save body t
saves_as slot n body t u v start x y =
    becomes_then slot (λ b. with_body n body (shut b)) (with_gate 1) t u v x y
    ∙ ap (λ b. with_slot slot (kept_slot b) t) (opened_shut n body (slot_of slot t).bytes)
    ∙ new_at slot n body t start

-- of settled slots a crash leaves what they load
pub settled_only : (u : SlotsTold) → IsSettled u → LoadsOnly (loaded u) u
settled_only u s left may =
    let first : left.slot0.bytes ≡ u.slot0.bytes = kept_image u.slot0.bytes left.slot0.bytes (subst (λ x. IsImage x left.slot0.bytes) s.slot0 may.slot0) in
    let second : left.slot1.bytes ≡ u.slot1.bytes = kept_image u.slot1.bytes left.slot1.bytes (subst (λ x. IsImage x left.slot1.bytes) s.slot1 may.slot1) in
    by_bytes_is left ∙ ap (λ a. by_bytes a left.slot1.bytes) first ∙ ap (λ b. by_bytes u.slot0.bytes b) second ∙ sym (by_bytes_is u)

pub settled_is : (t u : SlotsTold) → u ≡ settled t → IsSettled u
settled_is t u e = subst IsSettled (sym e) (record { slot0 = refl; slot1 = refl })

pub settled_after : (body : List ℕ) (t u : SlotsTold) → IsSettled t → u ≡ after_save body t → IsSettled u
settled_after body t u s e = subst IsSettled (sym e) (go (target t == 0) (whole_slot (target_number t) body ++ drop (10 + length body) (slot_of (target t) t).bytes))
  where
    go : (b : Bool) (bytes : List ℕ) → IsSettled (cond b (record t { slot0 = kept_slot bytes }) (record t { slot1 = kept_slot bytes }))
    go true bytes = record { slot0 = refl; slot1 = s.slot1 }
    go false bytes = record { slot0 = s.slot0; slot1 = refl }
