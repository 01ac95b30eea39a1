-- The moments of a save's steps, where slots may tell.
use Rattle.std.proofs.Common.{◌≡◌, ℕ, ◌-◌, ◌^◌, ◌<◌, Bool, false, List, length, sym, subst, ◌∙◌, inl, Option, Some, None, Result, OnOk}
use Rattle.ports.specs.Outside.{BothTell, WhereTold}
use Rattle.ports.specs.Slots.{SlotsTold, slot_of}
use Rattle.ports.specs.Crash.{Moment, Since}
use Rattle.slotstore.specs.Store.{target, target_number, after_save}
use Rattle.slotstore.specs.Writing.{Becomes, with_gate, with_body}
use Rattle.slotstore.specs.Crashing.{IsKept, IsSettled, IsStray, Leaves, ReadsOr, SameOrNone, is_shut, shut}
use Rattle.slotstore.proofs.Changes.{both_then, both_map, becomes_then, keeps_all, on_ok}
use Rattle.slotstore.proofs.Gates.{stray_shut}
use Rattle.slotstore.proofs.Leaving.{Start, is_kept, becomes_kept, shut_reads, fill_reads, open_reads, saves_as, settled_only}
use Rattle.slotstore.proofs.Strays.{kept_image}
use Rattle.slotstore.proofs.Told.{both_both, both_where, Strays}
use Rattle.slotstore.proofs.Walks.{since_start, since_weaken, since_then, leaves_now}
use Rattle.ports.specs.Crash.{IsImage}

abbrev pub Shuts : ℕ → List Moment → List Moment → SlotsTold → SlotsTold → Type 0
Shuts slot before after t u = IsKept slot t → Since (Leaves slot (SameOrNone (slot_of slot t).bytes) t) before after u

-- nothing was written
pub unshut : (slot : ℕ) (before after : List Moment) (t u : Option SlotsTold) → u ≡ t → after ≡ before → BothTell (Shuts slot before after) t u
unshut slot before after t u e f = subst (λ w. BothTell (Shuts slot before after) t w) (sym e) (subst (λ r. BothTell (Shuts slot before r) t t) (sym f) (go t))
  where
    go : (t : Option SlotsTold) → BothTell (Shuts slot before before) t t
    go None = tt
    go (Some t) = λ kept. since_start (Leaves slot (SameOrNone (slot_of slot t).bytes) t) before t
        (leaves_now slot (SameOrNone (slot_of slot t).bytes) t t (keeps_all slot t)
        (λ c image. inl (kept_image (slot_of slot t).bytes c (subst (λ s. IsImage s c) kept image))))

-- a gate was shut that was open, or not there
pub shuts : (slot : ℕ) (before mid after : List Moment) (closed : Bool) (t m u : Option SlotsTold) → m ≡ t → mid ≡ before → closed ≡ false → WhereTold (λ t. closed ≡ is_shut (slot_of slot t).bytes) t
    → BothTell (Strays slot 0 1 mid after) m u → BothTell (Shuts slot before after) t u
shuts slot before mid after closed t m u e f open_gate is x =
    both_map (λ t u. (closed ≡ is_shut (slot_of slot t).bytes) × Strays slot 0 1 before after t u) (Shuts slot before after)
    (λ t u y kept. since_weaken (Leaves slot (IsStray 0 1 (slot_of slot t).bytes) t) (Leaves slot (SameOrNone (slot_of slot t).bytes) t) before after u
    (λ m l. record { others = l.others; images = λ c image. stray_shut (slot_of slot t).bytes c (sym y.0 ∙ open_gate) (l.images c image) }) (y.1 kept)) t u
    (both_where (λ t. closed ≡ is_shut (slot_of slot t).bytes) (Strays slot 0 1 before after) t u is
    (subst (λ w. BothTell (Strays slot 0 1 before after) w u) e (subst (λ p. BothTell (Strays slot 0 1 p after) m u) f x)))

pub starts_at : (slot n : ℕ) (t : Option SlotsTold) → WhereTold IsSettled t → WhereTold (λ t. slot ≡ target t) t → WhereTold (λ t. n ≡ target_number t) t → WhereTold (Start slot n) t
starts_at slot n None s to num = tt
starts_at slot n (Some t) s to num = record { settled = s; to = to; number = num }

-- the first step
pub shut_first : (slot n : ℕ) (body : List ℕ) (before after : List Moment) (t u : Option SlotsTold) → slot < 2 → length body < 2 ^ 64 - 10 → WhereTold (Start slot n) t
    → BothTell (Shuts slot before after) t u → BothTell (λ t u. Since (ReadsOr t body) before after u) t u
shut_first slot n body before after t u within small start x =
    both_map (λ t u. Start slot n t × Shuts slot before after t u) (λ t u. Since (ReadsOr t body) before after u)
    (λ t u y. shut_reads slot n body before after t u within small y.0 (y.1 (is_kept slot t within y.0.settled))) t u
    (both_where (Start slot n) (Shuts slot before after) t u start x)

-- the way so far: the moments, and what the slot has become
pub record Way (slot n : ℕ) (body : List ℕ) (change : List ℕ → List ℕ) (before after : List Moment) (t u : SlotsTold) : Type 0 where
  pub start : Start slot n t
  pub becomes : Becomes slot change t u
  pub since : Since (ReadsOr t body) before after u

pub shut_way : (slot n : ℕ) (body : List ℕ) (before after : List Moment) (t u : Option SlotsTold) → slot < 2 → length body < 2 ^ 64 - 10 → WhereTold (Start slot n) t
    → BothTell (Shuts slot before after) t u → BothTell (λ t u. IsKept slot t → Becomes slot shut t u) t u → BothTell (Way slot n body shut before after) t u
shut_way slot n body before after t u within small start x y =
    both_map (λ t u. Start slot n t × (λ (t u : SlotsTold). Shuts slot before after t u × (IsKept slot t → Becomes slot shut t u)) t u) (Way slot n body shut before after)
    (λ t u z. way t u z.0 z.1) t u
    (both_where (Start slot n) (λ t u. Shuts slot before after t u × (IsKept slot t → Becomes slot shut t u)) t u start
    (both_both (Shuts slot before after) (λ t u. IsKept slot t → Becomes slot shut t u) t u x y))
  where
    way : (t u : SlotsTold) → Start slot n t → Shuts slot before after t u × (IsKept slot t → Becomes slot shut t u) → Way slot n body shut before after t u
    way t u s (f, h) = let kept = is_kept slot t within s.settled in record {
      start = s;
      becomes = h kept;
      since = shut_reads slot n body before after t u within small s (f kept);
    }

pub fill_next : (slot n size : ℕ) (body : List ℕ) (before mid after : List Moment) (t u v : Option SlotsTold) → slot < 2 → length body < 2 ^ 64 - 10 → BothTell (Way slot n body shut before mid) t u
    → BothTell (Strays slot 1 size mid after) u v → BothTell (λ t v. Since (ReadsOr t body) before after v) t v
fill_next slot n size body before mid after t u v within small w x =
    both_then (Way slot n body shut before mid) (Strays slot 1 size mid after) (λ t v. Since (ReadsOr t body) before after v)
    (λ t u v w x. since_then (ReadsOr t body) before mid after u v w.since
    (fill_reads slot n size body mid after t u v within small w.start w.becomes (x (becomes_kept slot shut t u w.becomes)))) t u v w x

pub fill_way : (slot n size : ℕ) (body : List ℕ) (before mid after : List Moment) (t u v : Option SlotsTold) → slot < 2 → length body < 2 ^ 64 - 10 → BothTell (Way slot n body shut before mid) t u
    → BothTell (Strays slot 1 size mid after) u v → BothTell (Becomes slot (with_body n body)) u v → BothTell (Way slot n body (λ b. with_body n body (shut b)) before after) t v
fill_way slot n size body before mid after t u v within small w x y =
    both_then (Way slot n body shut before mid) (λ u v. Strays slot 1 size mid after u v × Becomes slot (with_body n body) u v) (Way slot n body (λ b. with_body n body (shut b)) before after)
    (λ t u v w xy. record {
      start = w.start;
      becomes = becomes_then slot shut (with_body n body) t u v w.becomes xy.1;
      since = since_then (ReadsOr t body) before mid after u v w.since (fill_reads slot n size body mid after t u v within small w.start w.becomes (xy.0 (becomes_kept slot shut t u w.becomes)));
    }) t u v w (both_both (Strays slot 1 size mid after) (Becomes slot (with_body n body)) u v x y)

pub open_next : (slot n : ℕ) (body : List ℕ) (before mid after : List Moment) (t u v : Option SlotsTold) → slot < 2 → length body < 2 ^ 64 - 10 → BothTell (Way slot n body (λ b. with_body n body (shut b)) before mid) t u
    → BothTell (Strays slot 0 1 mid after) u v → BothTell (λ t v. Since (ReadsOr t body) before after v) t v
open_next slot n body before mid after t u v within small w x =
    both_then (Way slot n body (λ b. with_body n body (shut b)) before mid) (Strays slot 0 1 mid after) (λ t v. Since (ReadsOr t body) before after v)
    (λ t u v w x. since_then (ReadsOr t body) before mid after u v w.since
    (open_reads slot n body mid after t u v within small w.start w.becomes (x (becomes_kept slot (λ b. with_body n body (shut b)) t u w.becomes)))) t u v w x

pub all_saved : {T E : Type 0} (r : Result T E) (slot n : ℕ) (body : List ℕ) (before mid : List Moment) (t u v : Option SlotsTold) → BothTell (Way slot n body (λ b. with_body n body (shut b)) before mid) t u
    → OnOk r (BothTell (Becomes slot (with_gate 1)) u v) → OnOk r (BothTell (λ t v. v ≡ after_save body t) t v)
all_saved r slot n body before mid t u v w x =
    on_ok r (BothTell (Becomes slot (with_gate 1)) u v) (BothTell (λ t v. v ≡ after_save body t) t v)
    (λ y. both_then (Way slot n body (λ b. with_body n body (shut b)) before mid) (Becomes slot (with_gate 1)) (λ t v. v ≡ after_save body t)
    (λ t u v w y. saves_as slot n body t u v w.start w.becomes y) t u v w y) x

-- nothing was written at all
pub unread : (body : List ℕ) (before after : List Moment) (t u : Option SlotsTold) → WhereTold IsSettled t → u ≡ t → after ≡ before → BothTell (λ t u. Since (ReadsOr t body) before after u) t u
unread body before after t u s e f =
    subst (λ w. BothTell (λ t u. Since (ReadsOr t body) before after u) t w) (sym e) (subst (λ r. BothTell (λ t u. Since (ReadsOr t body) before r u) t t) (sym f) (go t s))
  where
    go : (t : Option SlotsTold) → WhereTold IsSettled t → BothTell (λ t u. Since (ReadsOr t body) before before u) t t
    go None s = tt
    go (Some t) s = since_start (ReadsOr t body) before t (λ left may. inl (settled_only t s left may))
