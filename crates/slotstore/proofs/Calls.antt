-- What the calls of a store do, where the slots tell.
use Rattle.std.proofs.Common.{◌≡◌, ℕ, ◌-◌, ◌^◌, ◌<◌, List, length, refl, sym, ap, subst, ◌∙◌, Option, Some, None, Result, Ok, Err, IsErr, IfOk, IfSome}
use Rattle.std.specs.Global.{Vec}
use Rattle.std.proofs.lemmas.Bool.{false≢true}
use Rattle.ports.specs.Outside.{BothTell, WhereTold}
use Rattle.ports.specs.Slots.{SlotsTold}
use Rattle.ports.specs.Crash.{Moment, Since, moment_of}
use Rattle.slotstore.specs.Crashing.{LoadsAs, LoadsAsOr, LoadsOnly, settled}
use Rattle.slotstore.specs.Loads.{items_of}
use Rattle.slotstore.specs.Runs.{Begins, Saves, Does, begun, loads_so, saves_so, point}
use Rattle.slotstore.specs.Standing.{IsNext}
use Rattle.slotstore.specs.Store.{loaded, target, target_number, next_number, after_save}
use Rattle.slotstore.specs.declared.target.Target.{Target}
use Rattle.slotstore.proofs.Changes.{both_map}
use Rattle.slotstore.proofs.Leaving.{Start, by_bytes_is, settled_is, settled_after}
use Rattle.slotstore.proofs.Loading.{target_saved, number_saved}

-- where the next save goes, after both slots were synced and read
pub next_told : (next : Target) (t m u : Option SlotsTold) → BothTell (λ t u. u ≡ settled t) t m → u ≡ m → WhereTold (λ t. next.slot ≡ target t) m → WhereTold (λ t. next.number ≡ target_number t) m
    → WhereTold (IsNext next) u
next_told next t m u x e slot number = subst (WhereTold (IsNext next)) (sym e) (go t m x slot number)
  where
    go : (t m : Option SlotsTold) → BothTell (λ t u. u ≡ settled t) t m → WhereTold (λ t. next.slot ≡ target t) m → WhereTold (λ t. next.number ≡ target_number t) m → WhereTold (IsNext next) m
    go t None x slot number = tt
    go None (Some m) x slot number = absurd x
    go (Some t) (Some m) x slot number = record { settled = settled_is t m x; slot = slot; number = number }

pub next_result : {E : Type 0} (r : Result Target E) (t m u : Option SlotsTold) → BothTell (λ t u. u ≡ settled t) t m → u ≡ m → IfOk r (λ next. WhereTold (λ t. next.slot ≡ target t) m)
    → IfOk r (λ next. WhereTold (λ t. next.number ≡ target_number t) m) → IfOk r (λ next. WhereTold (IsNext next) u)
next_result (Ok next) t m u x e slot number = next_told next t m u x e slot number
next_result (Err e') t m u x e slot number = tt

-- where it was kept
pub kept_next : (next : Target) (kept : Option Target) (t : Option SlotsTold) → kept ≡ Some next → WhereTold (λ t. IfSome kept (λ next. IsNext next t)) t → WhereTold (IsNext next) t
kept_next next kept t e is = subst (λ (k : Option Target). WhereTold (λ t. IfSome k (λ next. IsNext next t)) t) e is

pub starts_next : (next : Target) (t : Option SlotsTold) → WhereTold (IsNext next) t → WhereTold (Start next.slot next.number) t
starts_next next None is = tt
starts_next next (Some t) is = record { settled = is.settled; to = is.slot; number = is.number }

-- and after a save
pub next_after : (next after : Target) (body : List ℕ) (m u : Option SlotsTold) → length body < 2 ^ 64 - 10 → after.slot ≡ 1 - next.slot → after.number ≡ next_number next.number
    → WhereTold (IsNext next) m → BothTell (λ t u. u ≡ after_save body t) m u → WhereTold (IsNext after) u
next_after next after body m None small slot number is x = tt
next_after next after body None (Some u) small slot number is x = absurd x
next_after next after body (Some m) (Some u) small slot number is x = record {
  settled = settled_after body m u is.settled x;
  slot = slot ∙ ap (λ k. 1 - k) is.slot ∙ sym (target_saved body m small) ∙ sym (ap target x);
  number = number ∙ ap next_number is.number ∙ sym (number_saved body m small) ∙ sym (ap target_number x);
}

-- syncing changes nothing that is loaded
pub found_told : (t u : Option SlotsTold) → BothTell (λ t u. u ≡ settled t) t u → BothTell (λ t u. loaded u ≡ loaded t) t u
found_told t u = both_map (λ t u. u ≡ settled t) (λ t u. loaded u ≡ loaded t) (λ t u e. ap loaded e ∙ by_bytes_is (settled t) ∙ sym (by_bytes_is t)) t u

-- the steps of lists of calls
pub begins_told : (past later : List Moment) (t u : Option SlotsTold) → BothTell (λ t u. loaded u ≡ loaded t) t u → WhereTold (λ u. LoadsOnly (loaded u) u) u
    → BothTell (λ t u. Since (LoadsAs (moment_of t)) past later u) t u → BothTell (λ t u. Begins (loaded t) (point t past) (point u later)) t u
begins_told past later None None found kept crash = tt
begins_told past later None (Some u) found kept crash = found
begins_told past later (Some t) None found kept crash = found
begins_told past later (Some t) (Some u) found kept crash = record { finds = refl; kept = subst (λ b. LoadsOnly b u) found kept; crash = crash }

pub saves_told : (body : List ℕ) (past later : List Moment) (t u : Option SlotsTold) → WhereTold (LoadsOnly (Some body)) u
    → BothTell (λ t u. Since (LoadsAsOr (moment_of t) body) past later u) t u → BothTell (λ t u. Saves body (point t past) (point u later)) t u
saves_told body past later None None kept crash = tt
saves_told body past later None (Some u) kept crash = crash
saves_told body past later (Some t) None kept crash = crash
saves_told body past later (Some t) (Some u) kept crash = record { kept = kept; crash = crash }

same_point : (past later : List Moment) (t u : SlotsTold) → u ≡ t → later ≡ past → point u later ≡ point t past
same_point past later t u e f = ap (λ w. point w later) e ∙ ap (point t) f

pub loads_so_told : (body : Option (Vec ℕ)) (past later : List Moment) (t u : Option SlotsTold) → WhereTold (λ t. items_of body ≡ loaded t) t → u ≡ t → later ≡ past
    → BothTell (λ t u. (items_of body ≡ loaded t) × (point u later ≡ point t past)) t u
loads_so_told body past later t u is e f = subst (λ w. BothTell (λ t u. (items_of body ≡ loaded t) × (point u later ≡ point t past)) t w) (sym e) (go t is)
  where
    go : (t : Option SlotsTold) → WhereTold (λ t. items_of body ≡ loaded t) t → BothTell (λ t u. (items_of body ≡ loaded t) × (point u later ≡ point t past)) t t
    go None is = tt
    go (Some t) is = (is, same_point past later t t refl f)

pub not_loaded_told : (past later : List Moment) (t u : Option SlotsTold) → u ≡ t → later ≡ past → BothTell (λ t u. point u later ≡ point t past) t u
not_loaded_told past later t u e f = subst (λ w. BothTell (λ t u. point u later ≡ point t past) t w) (sym e) (go t)
  where
    go : (t : Option SlotsTold) → BothTell (λ t u. point u later ≡ point t past) t t
    go None = tt
    go (Some t) = same_point past later t t refl f

-- calls that failed, by their results
pub not_begun_told : {T E : Type 0} (r : Result T E) (past later : List Moment) (t u : Option SlotsTold) → IsErr r → BothTell (λ t u. Since (LoadsAs (moment_of t)) past later u) t u
    → BothTell (λ t u. Does (begun r (loaded t)) (point t past) (point u later)) t u
not_begun_told (Ok store) past later t u bad crash = absurd (false≢true bad)
not_begun_told (Err e) past later t u bad crash = crash

pub not_saved_told : {T E : Type 0} (r : Result T E) (body : List ℕ) (past later : List Moment) (t u : Option SlotsTold) → IsErr r → BothTell (λ t u. Since (LoadsAsOr (moment_of t) body) past later u) t u
    → BothTell (λ t u. Does (saves_so r body) (point t past) (point u later)) t u
not_saved_told (Ok done) body past later t u bad crash = absurd (false≢true bad)
not_saved_told (Err e) body past later t u bad crash = crash

pub load_does : {E : Type 0} (r : Result (Option (Vec ℕ)) E) (past later : List Moment) (t u : Option SlotsTold) → IfOk r (λ body. WhereTold (λ t. items_of body ≡ loaded t) t) → u ≡ t → later ≡ past
    → BothTell (λ t u. Does (loads_so r) (point t past) (point u later)) t u
load_does (Ok body) past later t u is e f = loads_so_told body past later t u is e f
load_does (Err x) past later t u is e f = not_loaded_told past later t u e f
