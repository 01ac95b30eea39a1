use Rattle.std.proofs.Common.{◌≡◌, ◌<◌, ℕ, Bool, true, false, not, List, length, slice_index, sym, ap, ◌∙◌, subst, arith}
use Rattle.tspdef.specs.Sets.{has}
use Rattle.maxflow.specs.Flows.{is_stop}
use Rattle.sepodd.specs.Folding.{differ, joined}
use Rattle.sepodd.specs.Sides.{is_marked, IsBelowParting, IsEvenLeast}
use Rattle.sepodd.proofs.StepLemmas.{none_below, groups_merged, groups_joined, merged_below, split_below, even_others, even_members, home_others, home_members}
use Rattle.sepodd.proofs.uncrossing.+least_of_groups.Goals as goal

has_read : (a b : List ℕ) → a ≡ b → (g : ℕ) → has b g ≡ true → has a g ≡ true
has_read a b e g h = ap (λ (v : List ℕ). has v g) e ∙ h

stop_read : (a b : List Bool) → a ≡ b → (v : Bool) (k : ℕ) → is_stop b k ≡ v → is_stop a k ≡ v
stop_read a b e v k h = ap (λ (m : List Bool). is_stop m k) e ∙ h

mark_differs : (b : Bool) → b ≡ true → differ b false ≡ true
mark_differs true h = h
mark_differs false h = h

mark_lacks : (b : Bool) → b ≡ false → differ b true ≡ true
mark_lacks true h = sym h
mark_lacks false h = ap not h

joined_read : (now ns ms : List ℕ) (one other : List Bool) (marked : Bool) (to : ℕ) → ns ≡ ms → one ≡ other
    → ((k : ℕ) → k < length ns → slice_index now k ≡ joined (λ g. not (differ (is_marked one g) marked)) to (slice_index ns k))
    → (k : ℕ) → k < length ms → slice_index now k ≡ joined (λ g. not (differ (is_marked other g) marked)) to (slice_index ms k)
joined_read now ns ms one other marked to e f h =
    subst (λ (v : List ℕ). (k : ℕ) → k < length v → slice_index now k ≡ joined (λ g. not (differ (is_marked other g) marked)) to (slice_index v k)) e
    (subst (λ (v : List Bool). (k : ℕ) → k < length ns → slice_index now k ≡ joined (λ g. not (differ (is_marked v g) marked)) to (slice_index ns k)) f h)

kept_read : (rest gs hs : List ℕ) (one other : List Bool) (marked : Bool) → gs ≡ hs → one ≡ other
    → ((g : ℕ) → has gs g ≡ true → differ (is_marked one g) marked ≡ false → has rest g ≡ true)
    → (g : ℕ) → has hs g ≡ true → differ (is_marked other g) marked ≡ false → has rest g ≡ true
kept_read rest gs hs one other marked e f h =
    subst (λ (v : List ℕ). (g : ℕ) → has v g ≡ true → differ (is_marked other g) marked ≡ false → has rest g ≡ true) e
    (subst (λ (v : List Bool). (g : ℕ) → has gs g ≡ true → differ (is_marked v g) marked ≡ false → has rest g ≡ true) f h)

known_read : (rest gs hs : List ℕ) → gs ≡ hs → ((g : ℕ) → has rest g ≡ true → has gs g ≡ true) → (g : ℕ) → has rest g ≡ true → has hs g ≡ true
known_read rest gs hs e h = subst (λ (v : List ℕ). (g : ℕ) → has rest g ≡ true → has v g ≡ true) e h

fewer_read : (m : ℕ) (gs hs : List ℕ) (one other : List Bool) (marked : Bool) → gs ≡ hs → one ≡ other
    → ((g : ℕ) → has gs g ≡ true → differ (is_marked one g) marked ≡ true → m < length gs)
    → (g : ℕ) → has hs g ≡ true → differ (is_marked other g) marked ≡ true → m < length hs
fewer_read m gs hs one other marked e f h =
    subst (λ (v : List ℕ). (g : ℕ) → has v g ≡ true → differ (is_marked other g) marked ≡ true → m < length v) e
    (subst (λ (v : List Bool). (g : ℕ) → has gs g ≡ true → differ (is_marked v g) marked ≡ true → m < length gs) f h)

pub returns-in_default-clause-least : goal.returns-in_default-clause-least
returns-in_default-clause-least t c =
    let alone = rw c.in_default.is at c.two_of.ensures in
    none_below c.args.x.now c.args.numbers.items c.args.groups.items c.args.best.weight c.entries-entries.ensures.entries.each c.requires.groups
    (λ g h a b. alone g h (has_read c.deref.result.now c.args.groups.items c.deref.ensures.value g a) (has_read c.deref.result.now c.args.groups.items c.deref.ensures.value h b))

pub least_of_groups-requires : goal.least_of_groups-requires
least_of_groups-requires t c =
    let two = c.in-Some.ensures in
    let s = c.in-Some.s in
    let u = c.in-Some.t in
    let groups = c.args.groups.items in
    let stops = c.in_ok-stop_at.field-0.items in
    let has_s : has groups s ≡ true = has_read groups c.deref.result.now (sym c.deref.ensures.value) s two.0 in
    let has_t : has groups u ≡ true = has_read groups c.deref.result.now (sym c.deref.ensures.value) u two.1.0 in
    let e = c.deref-in_default-side.ensures.value in
    let f = c.deref-in_default-side-2.ensures.value in
    let r = c.in_ok-rest.ensures in
    let less : length c.in_ok-rest.rest.items < length groups =
    fewer_read (length c.in_ok-rest.rest.items) c.deref-in_default-side.result.now groups c.deref-in_default-side-2.result.now stops false e f r.fewer u has_t (mark_differs (is_marked stops u) c.in_ok-stop_at.ensures.here) in (
      omega (arith, less),
      (
        c.requires.size,
        (
          c.requires.entries,
          (
            groups_merged c.args.x.now c.args.numbers.items groups c.merged-fewer.result.items c.in_ok-rest.rest.items s u stops c.entries-entries.ensures.entries.each c.requires.groups has_s has_t two.1.1
                c.in_ok-stop_at.ensures.others c.merged-fewer.ensures.size c.merged-fewer.ensures.each
                (kept_read c.in_ok-rest.rest.items c.deref-in_default-side.result.now groups c.deref-in_default-side-2.result.now stops false e f r.kept)
                (known_read c.in_ok-rest.rest.items c.deref-in_default-side.result.now groups e r.known),
            c.in_ok-best.ensures.best,
          ),
        ),
      ),
    )

pub least_of_groups-requires-2 : goal.least_of_groups-requires-2
least_of_groups-requires-2 t c =
    let two = c.in-Some.ensures in
    let s = c.in-Some.s in
    let u = c.in-Some.t in
    let x = c.args.x.now in
    let groups = c.args.groups.items in
    let numbers = c.args.numbers.items in
    let side = c.in-Some-side.side.items in
    let all = c.entries-entries.ensures.entries.each in
    let has_s : has groups s ≡ true = has_read groups c.deref.result.now (sym c.deref.ensures.value) s two.0 in
    let has_t : has groups u ≡ true = has_read groups c.deref.result.now (sym c.deref.ensures.value) u two.1.0 in
    let even : IsEvenLeast x (slice_index numbers) s u (is_marked side) = subst (λ (v : List ℕ). IsEvenLeast x (slice_index v) s u (is_marked side)) c.deref-2.ensures.value (rw c.in-Some-side.is at c.in_ok-best.ensures.parted) in
    let e = c.deref-3.ensures.value in
    let f = c.deref-4.ensures.value in
    let r = c.in_ok-inside.ensures in
    let less : length c.in_ok-inside.inside.items < length groups =
    fewer_read (length c.in_ok-inside.inside.items) c.deref-3.result.now groups c.deref-4.result.now side true e f r.fewer u has_t (mark_lacks (is_marked side u) even.lacks) in (
      omega (arith, less),
      (
        c.requires.size,
        (
          c.requires.entries,
          (
            groups_joined x numbers groups c.in_ok-inner.inner.items c.in_ok-inside.inside.items side false u all c.requires.groups (c.requires.groups.known u has_t)
                (home_others (is_marked side u) even.lacks) (even_others x numbers side s u all even)
                (c.in_ok-inner.ensures.size ∙ ap (λ (v : List ℕ). length v) c.deref-5.ensures.value)
                (joined_read c.in_ok-inner.inner.items c.deref-5.result.now numbers c.deref-6.result.now side false u c.deref-5.ensures.value c.deref-6.ensures.value c.in_ok-inner.ensures.each)
                (kept_read c.in_ok-inside.inside.items c.deref-3.result.now groups c.deref-4.result.now side true e f r.kept)
                (known_read c.in_ok-inside.inside.items c.deref-3.result.now groups e r.known),
            c.in_ok-best.ensures.best,
          ),
        ),
      ),
    )

pub returns-in_default-side-clause-least : goal.returns-in_default-side-clause-least
returns-in_default-side-clause-least t c =
    let x = c.args.x.now in
    let numbers = c.args.numbers.items in
    let parting = subst (λ (v : List ℕ). IsBelowParting x (slice_index v) c.in-Some.s c.in-Some.t c.in_ok-best.field-0.best.weight) c.deref-2.ensures.value (rw c.in_default-side.is at c.in_ok-best.ensures.parted) in
    merged_below x numbers c.merged-fewer.result.items c.in-Some.s c.in-Some.t c.in_ok-best.field-0.best.weight c.in_ok-merged.merged.weight c.entries-entries.ensures.entries.each
    c.requires.groups.size c.merged-fewer.ensures.each parting c.in_ok-merged.ensures.no_more c.in_ok-merged.ensures.least

pub least_of_groups-requires-3 : goal.least_of_groups-requires-3
least_of_groups-requires-3 t c =
    let two = c.in-Some.ensures in
    let s = c.in-Some.s in
    let u = c.in-Some.t in
    let x = c.args.x.now in
    let groups = c.args.groups.items in
    let numbers = c.args.numbers.items in
    let side = c.in-Some-side.side.items in
    let all = c.entries-entries.ensures.entries.each in
    let has_s : has groups s ≡ true = has_read groups c.deref.result.now (sym c.deref.ensures.value) s two.0 in
    let even : IsEvenLeast x (slice_index numbers) s u (is_marked side) = subst (λ (v : List ℕ). IsEvenLeast x (slice_index v) s u (is_marked side)) c.deref-2.ensures.value (rw c.in-Some-side.is at c.in_ok-best.ensures.parted) in
    let e = c.deref-7.ensures.value in
    let f = c.deref-8.ensures.value in
    let r = c.in_ok-outside.ensures in
    let less : length c.in_ok-outside.outside.items < length groups =
    fewer_read (length c.in_ok-outside.outside.items) c.deref-7.result.now groups c.deref-8.result.now side false e f r.fewer s has_s (mark_differs (is_marked side s) even.holds) in (
      omega (arith, less),
      (
        c.requires.size,
        (
          c.requires.entries,
          (
            groups_joined x numbers groups c.in_ok-outer.outer.items c.in_ok-outside.outside.items side true s all c.requires.groups (c.requires.groups.known s has_s)
                (home_members (is_marked side s) even.holds) (even_members x numbers side s u all even)
                (c.in_ok-outer.ensures.size ∙ ap (λ (v : List ℕ). length v) c.deref-9.ensures.value)
                (joined_read c.in_ok-outer.outer.items c.deref-9.result.now numbers c.deref-10.result.now side true s c.deref-9.ensures.value c.deref-10.ensures.value c.in_ok-outer.ensures.each)
                (kept_read c.in_ok-outside.outside.items c.deref-7.result.now groups c.deref-8.result.now side false e f r.kept)
                (known_read c.in_ok-outside.outside.items c.deref-7.result.now groups e r.known),
            c.in_ok-first.ensures.best,
          ),
        ),
      ),
    )

pub returns-clause-least : goal.returns-clause-least
returns-clause-least t c =
    let s = c.in-Some.s in
    let u = c.in-Some.t in
    let x = c.args.x.now in
    let numbers = c.args.numbers.items in
    let side = c.in-Some-side.side.items in
    let even : IsEvenLeast x (slice_index numbers) s u (is_marked side) = subst (λ (v : List ℕ). IsEvenLeast x (slice_index v) s u (is_marked side)) c.deref-2.ensures.value (rw c.in-Some-side.is at c.in_ok-best.ensures.parted) in
    split_below x numbers c.in_ok-inner.inner.items c.in_ok-outer.outer.items side s u c.in_ok-first.first.weight c.in_ok-last.last.weight c.entries-entries.ensures.entries.each c.requires.groups.size even
    (joined_read c.in_ok-inner.inner.items c.deref-5.result.now numbers c.deref-6.result.now side false u c.deref-5.ensures.value c.deref-6.ensures.value c.in_ok-inner.ensures.each)
    (joined_read c.in_ok-outer.outer.items c.deref-9.result.now numbers c.deref-10.result.now side true s c.deref-9.ensures.value c.deref-10.ensures.value c.in_ok-outer.ensures.each)
    c.in_ok-first.ensures.least c.in_ok-last.ensures.no_more c.in_ok-last.ensures.least
