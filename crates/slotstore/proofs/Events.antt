-- Nothing is lost over lists of calls.
use Rattle.std.proofs.Common.{◌≡◌, ℕ, List, [], ◌∷◌, refl, sym, subst, ◌∙◌, inl, inr, ⊎_elim, ◌⊎◌, Option, Some}
use Rattle.std.specs.Prelude.{Contains}
use Rattle.std.proofs.lemmas.List.{append_cancel_right}
use Rattle.std.proofs.lemmas.List.Elements.{All-contains}
use Rattle.ports.specs.Slots.{SlotsTold}
use Rattle.ports.specs.Crash.{Moment, MayLeave, Since, moment_of}
use Rattle.slotstore.specs.Crashing.{LoadsAs, LoadsAsOr, MayLoad}
use Rattle.slotstore.specs.Runs.{Point, Begun, NotBegun, Loaded, NotLoaded, Saved, NotSaved, IsMomentOf, Event, Returned, Cut, Crash, Happens, Run, IsLast, NothingIsLost}
use Rattle.slotstore.specs.Store.{loaded}
use Rattle.slotstore.proofs.Settling.{stays, here}
use Rattle.slotstore.proofs.Strays.{reads_image}
use Rattle.slotstore.proofs.Walks.{since_start}

-- what holds of each moment since a call began holds of each of its moments
since_at : (P : Moment → Type 0) (p q : Point) (m : Moment) → Since P p.past q.past q.slots → IsMomentOf p q m → P m
since_at P p q m s is =
    let same : is.between ≡ s.between = append_cancel_right is.between s.between p.past (sym is.past ∙ s.past) in
    ⊎_elim
    (λ (one : Contains is.between m). All-contains P s.between m s.each (subst (λ l. Contains l m) same one))
    (λ (e : m ≡ moment_of q.slots). subst P (sym e) s.now_too)
    is.one

-- a call that did nothing
nothing_since : (p q : Point) → q ≡ p → Since (LoadsAs (moment_of p.slots)) p.past q.past q.slots
nothing_since p q e =
    let P : Moment → Type 0 = LoadsAs (moment_of p.slots) in
    subst (λ (r : Point). Since P p.past r.past r.slots) (sym e) (since_start P p.past p.slots (stays p.slots p.slots (here p.slots)))

-- after these events each crash leaves one of the bodies that are last
abbrev pub Among : Point → List Event → Point → Type 0
Among first events now = (left : SlotsTold) → MayLeave (moment_of now.slots) left → IsLast first events (loaded left)

as_before : (first mid : Point) (older : List Event) (body : Option (List ℕ)) → Among first older mid → MayLoad (moment_of mid.slots) body → IsLast first older body
as_before first mid older body before (left, may, e) = subst (λ b. IsLast first older b) e (before left may)

or_before : (first mid : Point) (older : List Event) (new : List ℕ) (body : Option (List ℕ)) → Among first older mid → MayLoad (moment_of mid.slots) body ⊎ (body ≡ Some new)
    → (body ≡ Some new) ⊎ IsLast first older body
or_before first mid older new body before (inl x) = inr (as_before first mid older body before x)
or_before first mid older new body before (inr e) = inl e

step : (first mid now : Point) (older : List Event) (event : Event) → Among first older mid → Happens event mid now → Among first (event ∷ older) now
step first mid now older (Returned (Begun found)) before h left may = h.kept left may
step first mid now older (Returned NotBegun) before h left may = as_before first mid older (loaded left) before (h.now_too left may)
step first mid now older (Returned (Loaded given)) before h left may = before left (subst (λ (p : Point). MayLeave (moment_of p.slots) left) h.1 may)
step first mid now older (Returned NotLoaded) before h left may = before left (subst (λ (p : Point). MayLeave (moment_of p.slots) left) h may)
step first mid now older (Returned (Saved body)) before h left may = h.kept left may
step first mid now older (Returned (NotSaved body)) before h left may = or_before first mid older body (loaded left) before (h.now_too left may)
step first mid now older (Cut (Begun found)) before h left may =
    as_before first mid older (loaded left) before (since_at (LoadsAs (moment_of mid.slots)) mid h.end h.at h.does.crash h.is_moment left (h.left left may))
step first mid now older (Cut NotBegun) before h left may =
    as_before first mid older (loaded left) before (since_at (LoadsAs (moment_of mid.slots)) mid h.end h.at h.does h.is_moment left (h.left left may))
step first mid now older (Cut (Loaded given)) before h left may =
    as_before first mid older (loaded left) before (since_at (LoadsAs (moment_of mid.slots)) mid h.end h.at (nothing_since mid h.end h.does.1) h.is_moment left (h.left left may))
step first mid now older (Cut NotLoaded) before h left may =
    as_before first mid older (loaded left) before (since_at (LoadsAs (moment_of mid.slots)) mid h.end h.at (nothing_since mid h.end h.does) h.is_moment left (h.left left may))
step first mid now older (Cut (Saved body)) before h left may =
    or_before first mid older body (loaded left) before (since_at (LoadsAsOr (moment_of mid.slots) body) mid h.end h.at h.does.crash h.is_moment left (h.left left may))
step first mid now older (Cut (NotSaved body)) before h left may =
    or_before first mid older body (loaded left) before (since_at (LoadsAsOr (moment_of mid.slots) body) mid h.end h.at h.does h.is_moment left (h.left left may))
step first mid now older Crash before h left may = before left (h left may)

among : (first now : Point) (events : List Event) → Run first events now → Among first events now
among first now [] run left may = (left, subst (λ (p : Point). MayLeave (moment_of p.slots) left) run may, refl)
among first now (event ∷ older) (mid, rest) left may = step first mid now older event (among first mid older rest.0) rest.1 left may

-- what reads give is one of them
reads_among : (first now : Point) (events : List Event) → Run first events now → IsLast first events (loaded now.slots)
reads_among first now events run = among first now events run now.slots (record { slot0 = reads_image now.slots.slot0; slot1 = reads_image now.slots.slot1 })

pub nothing_is_lost : NothingIsLost
nothing_is_lost = record {
  a_crash_leaves = among;
  slots_load = reads_among;
  a_begin_finds = λ first now events found (mid, rest). subst (λ b. IsLast first events b) (sym rest.1.finds) (reads_among first mid events rest.0);
  a_load_gives = λ first now events given (mid, rest). subst (λ b. IsLast first events b) (sym rest.1.0) (reads_among first mid events rest.0);
}
