-- What a crash may leave of a slot while a range of it is written.
use Rattle.std.proofs.Common.{◌≡◌, ℕ, ◌+◌, ◌-◌, ◌≤◌, ◌<◌, max, List, [], ◌∷◌, ◌++◌, length, take, drop, replicate, get_or, refl, sym, ap, subst, ◌∙◌, length-append, arith, inl, inr, ⊎_elim}
use Rattle.std.proofs.lemmas.List.{get_or_append_left, get_or-append_right, get_or-take, get_or-drop, length-take, length-drop, length-replicate, ext_get_or}
use Rattle.std.proofs.lemmas.List.Elements.{All-push, All-weaker, All-nil, All-head, All-tail}
use Rattle.std.specs.Prelude.{All}
use Rattle.ports.specs.Slots.{Range, SlotTold, IsOutside, IsTorn, IsScrambled, put_at, kept_slot, after_write}
use Rattle.ports.specs.Crash.{IsImage, reach}
use Rattle.slotstore.specs.Crashing.{IsStray}

abbrev pub range_of : ℕ → ℕ → Range
range_of from size = record { start = from; size = size }

-- a range within a range
pub record IsIn (from size : ℕ) (range : Range) : Type 0 where
  pub begins : from ≤ range.start
  pub ends : range.start + range.size ≤ from + size

put_longer : (pos : ℕ) (piece old : List ℕ) → length old ≤ length (put_at pos piece old)
put_longer pos [] old = omega arith
put_longer pos (b ∷ bs) old =
    let back = drop (pos + length (b ∷ bs)) old in
    omega (
      arith,
      length-append (take pos old) (replicate (pos - length old) 0 ++ (b ∷ bs ++ back)),
      length-append (replicate {A = ℕ} (pos - length old) 0) (b ∷ bs ++ back),
      length-append (b ∷ bs) back,
      length-take pos old,
      length-drop (pos + length (b ∷ bs)) old,
      length-replicate {A = ℕ} (pos - length old) 0,
    )

put_shorter : (pos : ℕ) (piece old : List ℕ) → length (put_at pos piece old) ≤ max (length old) (pos + length piece)
put_shorter pos [] old = omega arith
put_shorter pos (b ∷ bs) old =
    let back = drop (pos + length (b ∷ bs)) old in
    omega (
      arith,
      length-append (take pos old) (replicate (pos - length old) 0 ++ (b ∷ bs ++ back)),
      length-append (replicate {A = ℕ} (pos - length old) 0) (b ∷ bs ++ back),
      length-append (b ∷ bs) back,
      length-take pos old,
      length-drop (pos + length (b ∷ bs)) old,
      length-replicate {A = ℕ} (pos - length old) 0,
    )

put_same : (pos : ℕ) (piece old : List ℕ) (k : ℕ) → k < length old → IsOutside k (range_of pos (length piece)) → get_or (put_at pos piece old) k 0 ≡ get_or old k 0
put_same pos [] old k within out = refl
put_same pos (b ∷ bs) old k within (inl before) =
    let back = replicate (pos - length old) 0 ++ (b ∷ bs ++ drop (pos + length (b ∷ bs)) old) in
    get_or_append_left (take pos old) back 0 k (omega (arith, length-take pos old)) ∙ get_or-take pos old k 0 before
put_same pos (b ∷ bs) old k within (inr after) =
    let n = length (b ∷ bs) in
    let back = drop (pos + n) old in
    let zeros : List ℕ = replicate (pos - length old) 0 in
    let none : pos - length old ≡ 0 = omega arith in
    let front : length (take pos old) ≡ pos = omega (arith, length-take pos old) in
    let gap : length zeros ≡ 0 = length-replicate {A = ℕ} (pos - length old) 0 ∙ none in
    let at : pos + n + (k - pos - 0 - n) ≡ k = omega arith in
    get_or-append_right (take pos old) (zeros ++ (b ∷ bs ++ back)) pos k 0 front (omega arith)
    ∙ get_or-append_right zeros (b ∷ bs ++ back) 0 (k - pos) 0 gap (omega arith)
    ∙ get_or-append_right (b ∷ bs) back n (k - pos - 0) 0 refl (omega arith)
    ∙ get_or-drop (pos + n) old (k - pos - 0 - n) 0
    ∙ ap (λ i. get_or old i 0) at

-- a slot of which only a range was written since it was kept
pub record Within (from size : ℕ) (old : List ℕ) (s : SlotTold) : Type 0 where
  pub synced : s.synced ≡ length old
  pub no_shorter : length old ≤ length s.bytes
  pub no_longer : length s.bytes ≤ max (length old) (from + size)
  pub inside : All (IsIn from size) s.unsynced
  pub same : (k : ℕ) → k < length old → IsOutside k (range_of from size) → get_or s.bytes k 0 ≡ get_or old k 0

outside_in : (from size k : ℕ) (range : Range) → IsIn from size range → IsOutside k (range_of from size) → IsOutside k range
outside_in from size k range is (inl before) = inl (omega (arith, is.begins))
outside_in from size k range is (inr after) = inr (omega (arith, is.ends))

reach_most : (end most : ℕ) (ranges : List Range) → end ≤ most → All (λ range. range.start + range.size ≤ most) ranges → reach end ranges ≤ most
reach_most end most [] few each = few
reach_most end most (r ∷ rs) few each =
    let first = All-head (λ range. range.start + range.size ≤ most) r rs each in
    reach_most (max end (r.start + r.size)) most rs (omega arith) (All-tail (λ range. range.start + range.size ≤ most) r rs each)

pub kept_within : (from size : ℕ) (old : List ℕ) → Within from size old (kept_slot old)
kept_within from size old = record {
  synced = refl;
  no_shorter = omega arith;
  no_longer = omega arith;
  inside = All-nil (IsIn from size);
  same = λ k within out. refl;
}

pub write_within : (from size : ℕ) (old : List ℕ) (s : SlotTold) (pos : ℕ) (piece : List ℕ) → Within from size old s → IsIn from size (range_of pos (length piece))
    → Within from size old (after_write pos piece s)
write_within from size old s pos piece w is = record {
  synced = w.synced;
  no_shorter = omega (arith, w.no_shorter, put_longer pos piece s.bytes);
  no_longer = omega (arith, w.no_longer, put_shorter pos piece s.bytes, is.ends);
  inside = All-push (IsIn from size) s.unsynced (range_of pos (length piece)) w.inside is;
  same = λ k within out. put_same pos piece s.bytes k (omega (arith, w.no_shorter, within)) (outside_in from size k (range_of pos (length piece)) is out) ∙ w.same k within out;
}

pub torn_within : (from size : ℕ) (old : List ℕ) (s r : SlotTold) (range : Range) → Within from size old s → IsIn from size range → IsTorn range s r → Within from size old r
torn_within from size old s r range w is torn = record {
  synced = torn.synced ∙ w.synced;
  no_shorter = omega (arith, w.no_shorter, torn.no_shorter);
  no_longer = omega (arith, w.no_longer, torn.no_longer, is.ends);
  inside = ⊎_elim
      (λ (e : r.unsynced ≡ s.unsynced). subst (All (IsIn from size)) (sym e) w.inside)
      (λ (e : r.unsynced ≡ s.unsynced ++ range ∷ []). subst (All (IsIn from size)) (sym e) (All-push (IsIn from size) s.unsynced range w.inside is))
      torn.ranges;
  same = λ k within out. torn.outside k (omega (arith, w.no_shorter, torn.no_shorter, within)) (outside_in from size k range is out) ∙ w.same k within out;
}

pub scrambled_within : (from size : ℕ) (old : List ℕ) (s r : SlotTold) → Within from size old s → IsScrambled s r → Within from size old r
scrambled_within from size old s r w torn = record {
  synced = torn.synced ∙ w.synced;
  no_shorter = omega (arith, w.no_shorter, torn.same_length);
  no_longer = omega (arith, w.no_longer, torn.same_length);
  inside = subst (All (IsIn from size)) (sym torn.ranges) w.inside;
  same = λ k within out. torn.outside k (omega (arith, w.no_shorter, torn.same_length, within)) (All-weaker (IsIn from size) (IsOutside k) (λ range is. outside_in from size k range is out) s.unsynced w.inside) ∙ w.same k within out;
}

-- what a crash leaves then
pub stray_image : (from size : ℕ) (old : List ℕ) (s : SlotTold) (bytes : List ℕ) → Within from size old s → IsImage s bytes → IsStray from size old bytes
stray_image from size old s bytes w image =
    let long : length old ≤ length bytes = omega (arith, image.no_shorter, w.synced, w.no_shorter) in record {
      no_shorter = long;
      no_longer = omega (
        arith,
        image.no_longer,
        reach_most (length s.bytes) (max (length old) (from + size)) s.unsynced w.no_longer
            (All-weaker (IsIn from size) (λ range. range.start + range.size ≤ max (length old) (from + size)) (λ range is. omega (arith, is.ends)) s.unsynced w.inside),
      );
      same = λ k within out. image.outside k (omega (arith, w.synced, within)) (omega (arith, long, within))
          (All-weaker (IsIn from size) (IsOutside k) (λ range is. outside_in from size k range is out) s.unsynced w.inside) ∙ w.same k within out;
    }

-- what stands in the slot is so too
pub stray_bytes : (from size : ℕ) (old : List ℕ) (s : SlotTold) → Within from size old s → IsStray from size old s.bytes
stray_bytes from size old s w = record { no_shorter = w.no_shorter; no_longer = w.no_longer; same = w.same }

-- of a kept slot a crash leaves what reads give
pub kept_image : (old bytes : List ℕ) → IsImage (kept_slot old) bytes → bytes ≡ old
kept_image old bytes image =
    let len : length bytes ≡ length old = omega (arith, image.no_shorter, image.no_longer) in
    ext_get_or 0 bytes old len (λ k within. image.outside k (omega (arith, len, within)) within (All-nil (IsOutside k)))

pub reads_image : (s : SlotTold) → IsImage s s.bytes
reads_image s = record { no_shorter = omega arith; no_longer = reach_least (length s.bytes) s.unsynced; outside = λ k old within out. refl }
  where
    reach_least : (end : ℕ) (ranges : List Range) → end ≤ reach end ranges
    reach_least end [] = omega arith
    reach_least end (r ∷ rs) = omega (arith, reach_least (max end (r.start + r.size)) rs)
