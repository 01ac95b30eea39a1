-- The moments of a call, one write or sync after another.
use Rattle.std.proofs.Common.{◌≡◌, ℕ, ◌==◌, Bool, true, false, cond, List, [], ◌∷◌, ◌++◌, length, refl, sym, ap, subst, ◌∙◌, append_assoc, inl, inr}
use Rattle.std.proofs.lemmas.List.Elements.{All-cons, All-nil, All-append, All-weaker}
use Rattle.ports.specs.Slots.{SlotsTold, SlotTold, slot_of, with_slot, kept_slot, after_write, after_sync, IsTorn, IsScrambled, ChangesSlot}
use Rattle.ports.specs.Crash.{Moment, IsImage, Passes, Since, moment_of}
use Rattle.ports.specs.History.{slot_at, with_slot_at}
use Rattle.slotstore.specs.Crashing.{IsKept, IsStray, Leaves}
use Rattle.slotstore.specs.Writing.{KeepsOthers}
use Rattle.slotstore.proofs.Changes.{slot_of-with_slot, keeps_more, set_keeps, keeps_all}
use Rattle.slotstore.proofs.Strays.{Within, IsIn, range_of, kept_within, write_within, torn_within, scrambled_within, stray_image, stray_bytes, kept_image}

pub since_start : (P : Moment → Type 0) (past : List Moment) (t : SlotsTold) → P (moment_of t) → Since P past past t
since_start P past t here = record { between = []; past = refl; each = All-nil P; now_too = here }

pub since_pass : (P : Moment → Type 0) (before mid after : List Moment) (t u : SlotsTold) → Since P before mid t → Passes t u mid after → P (moment_of u) → Since P before after u
since_pass P before mid after t u s (inl e) here = record {
  between = moment_of t ∷ s.between;
  past = e ∙ ap (λ p. moment_of t ∷ p) s.past;
  each = All-cons P (moment_of t) s.between s.now_too s.each;
  now_too = here;
}
since_pass P before mid after t u s (inr (same, e)) here = record { between = s.between; past = e ∙ s.past; each = s.each; now_too = here }

pub since_weaken : (P Q : Moment → Type 0) (before after : List Moment) (t : SlotsTold) → ((m : Moment) → P m → Q m) → Since P before after t → Since Q before after t
since_weaken P Q before after t f s = record { between = s.between; past = s.past; each = All-weaker P Q f s.between s.each; now_too = f (moment_of t) s.now_too }

pub since_then : (P : Moment → Type 0) (before mid after : List Moment) (t u : SlotsTold) → Since P before mid t → Since P mid after u → Since P before after u
since_then P before mid after t u first second = record {
  between = second.between ++ first.between;
  past = second.past ∙ ap (λ p. second.between ++ p) first.past ∙ sym (append_assoc second.between first.between before);
  each = All-append P second.between first.between second.each first.each;
  now_too = second.now_too;
}

-- moments by slots
pub slot_at-moment : (slot : ℕ) (t : SlotsTold) → slot_at slot (moment_of t) ≡ slot_of slot t
slot_at-moment slot t = go (slot == 0)
  where
    go : (b : Bool) → cond b t.slot0 t.slot1 ≡ cond b t.slot0 t.slot1
    go b = refl

pub moment-with_slot : (slot : ℕ) (s : SlotTold) (t : SlotsTold) → moment_of (with_slot slot s t) ≡ with_slot_at slot s (moment_of t)
moment-with_slot slot s t = go (slot == 0)
  where
    go : (b : Bool) → moment_of (cond b (record t { slot0 = s }) (record t { slot1 = s })) ≡ cond b (record (moment_of t) { slot0 = s }) (record (moment_of t) { slot1 = s })
    go true = refl
    go false = refl

pub leaves_now : (slot : ℕ) (Q : List ℕ → Type 0) (t u : SlotsTold) → KeepsOthers slot t u → ((bytes : List ℕ) → IsImage (slot_of slot u) bytes → Q bytes) → Leaves slot Q t (moment_of u)
leaves_now slot Q t u kept images = record {
  others = ap moment_of kept ∙ moment-with_slot slot (slot_of slot u) t ∙ ap (λ s. with_slot_at slot s (moment_of t)) (sym (slot_at-moment slot u));
  images = λ bytes image. images bytes (subst (λ s. IsImage s bytes) (slot_at-moment slot u) image);
}

-- a call on its way: only a range of one slot was written
pub record Walk (slot from size : ℕ) (before after : List Moment) (t u : SlotsTold) : Type 0 where
  pub kept : KeepsOthers slot t u
  pub within : Within from size (slot_of slot t).bytes (slot_of slot u)
  pub since : Since (Leaves slot (IsStray from size (slot_of slot t).bytes) t) before after u

walks_to : (slot from size : ℕ) (before mid after : List Moment) (t u v : SlotsTold) → Walk slot from size before mid t u → Passes u v mid after → KeepsOthers slot t v
    → Within from size (slot_of slot t).bytes (slot_of slot v) → Walk slot from size before after t v
walks_to slot from size before mid after t u v w passes kept within = record {
  kept = kept;
  within = within;
  since = since_pass (Leaves slot (IsStray from size (slot_of slot t).bytes) t) before mid after u v w.since passes
      (leaves_now slot (IsStray from size (slot_of slot t).bytes) t v kept (λ bytes image. stray_image from size (slot_of slot t).bytes (slot_of slot v) bytes within image));
}

pub walk_start : (slot from size : ℕ) (past : List Moment) (t : SlotsTold) → IsKept slot t → Walk slot from size past past t t
walk_start slot from size past t is =
    let within : Within from size (slot_of slot t).bytes (slot_of slot t) = subst (Within from size (slot_of slot t).bytes) (sym is) (kept_within from size (slot_of slot t).bytes) in
    let kept = keeps_all slot t in record {
      kept = kept;
      within = within;
      since = since_start (Leaves slot (IsStray from size (slot_of slot t).bytes) t) past t
          (leaves_now slot (IsStray from size (slot_of slot t).bytes) t t kept (λ bytes image. stray_image from size (slot_of slot t).bytes (slot_of slot t) bytes within image));
    }

pub walk_write : (slot from size : ℕ) (before mid after : List Moment) (t u v : SlotsTold) (pos : ℕ) (piece : List ℕ) → IsIn from size (range_of pos (length piece)) → Walk slot from size before mid t u
    → v ≡ with_slot slot (after_write pos piece (slot_of slot u)) u → Passes u v mid after → Walk slot from size before after t v
walk_write slot from size before mid after t u v pos piece is w e passes =
    let held : slot_of slot v ≡ after_write pos piece (slot_of slot u) = ap (slot_of slot) e ∙ slot_of-with_slot slot (after_write pos piece (slot_of slot u)) u in
    walks_to slot from size before mid after t u v w passes (keeps_more slot t u v w.kept (set_keeps slot (after_write pos piece (slot_of slot u)) u v e))
    (subst (Within from size (slot_of slot t).bytes) (sym held) (write_within from size (slot_of slot t).bytes (slot_of slot u) pos piece w.within is))

pub walk_torn : (slot from size : ℕ) (before mid after : List Moment) (t u v : SlotsTold) (pos len : ℕ) → IsIn from size (range_of pos len) → Walk slot from size before mid t u
    → ChangesSlot slot (IsTorn (range_of pos len)) u v → Passes u v mid after → Walk slot from size before after t v
walk_torn slot from size before mid after t u v pos len is w c passes =
    walks_to slot from size before mid after t u v w passes (keeps_more slot t u v w.kept c.others)
    (torn_within from size (slot_of slot t).bytes (slot_of slot u) (slot_of slot v) (range_of pos len) w.within is c.changed)

pub walk_scrambled : (slot from size : ℕ) (before mid after : List Moment) (t u v : SlotsTold) → Walk slot from size before mid t u
    → ChangesSlot slot IsScrambled u v → Passes u v mid after → Walk slot from size before after t v
walk_scrambled slot from size before mid after t u v w c passes =
    walks_to slot from size before mid after t u v w passes (keeps_more slot t u v w.kept c.others)
    (scrambled_within from size (slot_of slot t).bytes (slot_of slot u) (slot_of slot v) w.within c.changed)

pub walk_synced : (slot from size : ℕ) (before mid after : List Moment) (t u v : SlotsTold) → Walk slot from size before mid t u
    → v ≡ with_slot slot (after_sync (slot_of slot u)) u → Passes u v mid after → Since (Leaves slot (IsStray from size (slot_of slot t).bytes) t) before after v
walk_synced slot from size before mid after t u v w e passes =
    let held : slot_of slot v ≡ kept_slot (slot_of slot u).bytes = ap (slot_of slot) e ∙ slot_of-with_slot slot (after_sync (slot_of slot u)) u in
    let kept = keeps_more slot t u v w.kept (set_keeps slot (after_sync (slot_of slot u)) u v e) in
    since_pass (Leaves slot (IsStray from size (slot_of slot t).bytes) t) before mid after u v w.since passes
    (leaves_now slot (IsStray from size (slot_of slot t).bytes) t v kept
    (λ bytes image. subst (IsStray from size (slot_of slot t).bytes) (sym (kept_image (slot_of slot u).bytes bytes (subst (λ s. IsImage s bytes) held image))) (stray_bytes from size (slot_of slot t).bytes (slot_of slot u) w.within)))
