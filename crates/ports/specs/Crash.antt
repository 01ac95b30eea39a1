-- What a crash may leave of slots.
use Rattle.std.specs.Prelude.{◌≡◌, ℕ, ◌+◌, ◌<◌, ◌≤◌, ◌⊎◌, min, max, List, ◌∷◌, ◌++◌, length, slice_index, fold, All}
use Rattle.ports.specs.Slots.{Range, IsOutside, SlotTold, SlotsTold}

-- the end of the ranges that reach farthest
abbrev pub reach : ℕ → List Range → ℕ
reach end ranges = fold (λ farthest range. max farthest (range.start + range.size)) end ranges

-- Bytes that a crash may leave of a slot. What was written since its last sync, and what stands past the end that it
-- had then, may be any bytes; the latter may also be missing. The others stay.
pub record IsImage (s : SlotTold) (bytes : List ℕ) : Type 0 where
  pub no_shorter : min s.synced (length s.bytes) ≤ length bytes
  pub no_longer : length bytes ≤ reach (length s.bytes) s.unsynced
  pub outside : (k : ℕ) → k < s.synced → k < length bytes → All (IsOutside k) s.unsynced → slice_index bytes k ≡ slice_index s.bytes k

-- both slots at a moment
pub record Moment : Type 0 where
  pub slot0 : SlotTold
  pub slot1 : SlotTold

abbrev pub moment_of : SlotsTold → Moment
moment_of t = record { slot0 = t.slot0; slot1 = t.slot1 }

-- a crash at a moment may leave slots that read so
pub record MayLeave (m : Moment) (left : SlotsTold) : Type 0 where
  pub slot0 : IsImage m.slot0 left.slot0.bytes
  pub slot1 : IsImage m.slot1 left.slot1.bytes

-- A write or a sync puts the moment before it into the past. One that failed may instead have done nothing.
abbrev pub Passes : SlotsTold → SlotsTold → List Moment → List Moment → Type 0
Passes old new before after = (after ≡ moment_of old ∷ before) ⊎ ((new ≡ old) × (after ≡ before))

-- The moments since an earlier one, of which the past was `before`, have P: those in between, the last first, and now.
pub record Since (P : Moment → Type 0) (before : List Moment) (after : List Moment) (now : SlotsTold) : Type 0 where
  pub between : List Moment
  pub past : after ≡ between ++ before
  pub each : All P between
  pub now_too : P (moment_of now)
