-- The store of a call: bound, begun and saved to.
use Rattle.std.proofs.Common.{◌≡◌, ℕ, List, [], ◌∷◌, ◌++◌, refl, sym, ap, subst, ◌∙◌, ◌⊎◌, inl, inr, Option, Some}
use Rattle.std.specs.List.{AllByRecursion}
use Rattle.ports.specs.Outside.{BothTell}
use Rattle.ports.specs.Slots.{SlotsTold, with_path}
use Rattle.ports.specs.Crash.{Moment, Since, moment_of}
use Rattle.certdef.specs.Proofs.{Proof, text}
use Rattle.slotstore.specs.Store.{loaded, after_save, ChangesTarget}
use Rattle.slotstore.specs.Crashing.{Breaks, LoadsAs, LoadsAsOr, MayLoad, settled}
use Rattle.slotstore.proofs.Failing.{breaks_target}
use Rattle.slotstore.proofs.Settling.{nothing_yet}
use Rattle.slotstore.proofs.Told.{both_both}
use Rattle.slotstore.proofs.Walks.{since_start, since_weaken, since_then}
use Rattle.verification.proofs.Tells.{both_to, both_then}
use Rattle.tspengine.specs.Calls.{Call, SlotsPass}
use Rattle.tspengine.specs.Saves.{IsOneOf, LoadsAsOrOneOf, after_saves, HasSaved, HasFailed}
use Rattle.tspengine.specs.Solving.{IsBegun, HasSavedOn, HasBroken}

-- ---- one of some bodies

-- where none was saved a crash leaves what one before could have left
pub as_none : (bodies : List Proof) (before m : Moment) → LoadsAs before m → LoadsAsOrOneOf before bodies m
as_none bodies before m f left may = inl (f left may)

either : (bodies : List Proof) (before : Moment) (bytes : Option (List ℕ)) → MayLoad before bytes ⊎ IsOneOf bodies bytes → (b : Option (List ℕ)) → bytes ≡ b → MayLoad before b ⊎ IsOneOf bodies b
either bodies before bytes x b e = subst (λ (y : Option (List ℕ)). MayLoad before y ⊎ IsOneOf bodies y) e x

more : (body : Proof) (bodies : List Proof) (before : Moment) (bytes : Option (List ℕ)) → MayLoad before bytes ⊎ IsOneOf bodies bytes → MayLoad before bytes ⊎ IsOneOf (body ∷ bodies) bytes
more body bodies before bytes (inl x) = inl x
more body bodies before bytes (inr x) = inr (inr x)

-- a save after others: what it may leave
either_body : (body : Proof) (bodies : List Proof) (before : Moment) (t : SlotsTold) (x : Moment) → LoadsAsOrOneOf before bodies (moment_of t) → LoadsAsOr (moment_of t) (text body) x
    → LoadsAsOrOneOf before (body ∷ bodies) x
either_body body bodies before t x first second left may = go (second left may)
  where
    go : MayLoad (moment_of t) (loaded left) ⊎ (loaded left ≡ Some (text body)) → MayLoad before (loaded left) ⊎ IsOneOf (body ∷ bodies) (loaded left)
    go (inl (old, could, same)) = more body bodies before (loaded left) (either bodies before (loaded old) (first old could) (loaded left) same)
    go (inr new) = inr (inl new)

since_more : (body : Proof) (bodies : List Proof) (before : Moment) (past later : List Moment) (t : SlotsTold) → Since (LoadsAsOrOneOf before bodies) past later t → Since (LoadsAsOrOneOf before (body ∷ bodies)) past later t
since_more body bodies before past later t s = since_weaken (LoadsAsOrOneOf before bodies) (LoadsAsOrOneOf before (body ∷ bodies)) past later t (λ m f left may. more body bodies before (loaded left) (f left may)) s

-- bodies were saved, and one more was handed in
pub since_saved : (body : Proof) (bodies : List Proof) (before : Moment) (past mid later : List Moment) (m u : SlotsTold) → Since (LoadsAsOrOneOf before bodies) past mid m
    → Since (LoadsAsOr (moment_of m) (text body)) mid later u → Since (LoadsAsOrOneOf before (body ∷ bodies)) past later u
since_saved body bodies before past mid later m u first second =
    since_then (LoadsAsOrOneOf before (body ∷ bodies)) past mid later m u (since_more body bodies before past mid m first)
    (since_weaken (LoadsAsOr (moment_of m) (text body)) (LoadsAsOrOneOf before (body ∷ bodies)) mid later u (λ y f. either_body body bodies before m y first.now_too f) second)

-- ---- saves in a search

pub none_saved : (past : List Moment) (t : SlotsTold) → HasSaved [] past past t t
none_saved past t = record { slots = refl; crash = since_start (LoadsAsOrOneOf (moment_of t) []) past t (λ left may. inl (left, may, refl)) }

pub saved_more : (body : Proof) (bodies : List Proof) (past mid later : List Moment) (t m u : SlotsTold) → HasSaved bodies past mid t m → u ≡ after_save (text body) (settled m)
    → Since (LoadsAsOr (moment_of m) (text body)) mid later u → HasSaved (body ∷ bodies) past later t u
saved_more body bodies past mid later t m u first e crash = record {
  slots = e ∙ ap (λ (x : SlotsTold). after_save (text body) (settled x)) first.slots;
  crash = since_saved body bodies (moment_of t) past mid later m u first.crash crash;
}

pub failed_more : (body : Proof) (bodies : List Proof) (past mid later : List Moment) (t m u : SlotsTold) → HasSaved bodies past mid t m → Breaks ChangesTarget m u
    → Since (LoadsAsOr (moment_of m) (text body)) mid later u → HasFailed bodies body past later t u
failed_more body bodies past mid later t m u first breaks crash = record {
  slots = subst (λ (x : SlotsTold). Breaks ChangesTarget x u) first.slots breaks;
  crash = since_saved body bodies (moment_of t) past mid later m u first.crash crash;
}

-- ---- saves of saves

after_both : (newer older : List Proof) (t : SlotsTold) → after_saves (newer ++ older) t ≡ after_saves newer (after_saves older t)
after_both [] older t = refl
after_both (body ∷ newer) older t = ap (λ (x : SlotsTold). after_save (text body) (settled x)) (after_both newer older t)

one_of_both : (newer older : List Proof) (before : Moment) (t : SlotsTold) (left : Option (List ℕ)) → LoadsAsOrOneOf before older (moment_of t) → MayLoad (moment_of t) left ⊎ IsOneOf newer left
    → MayLoad before left ⊎ IsOneOf (newer ++ older) left
one_of_both newer older before t left first (inl (old, could, same)) = go newer (either older before (loaded old) (first old could) left same)
  where
    go : (newer : List Proof) → MayLoad before left ⊎ IsOneOf older left → MayLoad before left ⊎ IsOneOf (newer ++ older) left
    go [] x = x
    go (b ∷ bs) x = more b (bs ++ older) before left (go bs x)
one_of_both newer older before t left first (inr x) = inr (go newer x)
  where
    go : (newer : List Proof) → IsOneOf newer left → IsOneOf (newer ++ older) left
    go [] x = absurd x
    go (b ∷ bs) (inl x) = inl x
    go (b ∷ bs) (inr x) = inr (go bs x)

pub all_both : (P : Proof → Type 0) (newer older : List Proof) → AllByRecursion P newer → AllByRecursion P older → AllByRecursion P (newer ++ older)
all_both P [] older x y = y
all_both P (b ∷ bs) older x y = (x.0, all_both P bs older x.1 y)

pub since_both : (newer older : List Proof) (before : Moment) (past mid later : List Moment) (m u : SlotsTold) → Since (LoadsAsOrOneOf before older) past mid m
    → Since (LoadsAsOrOneOf (moment_of m) newer) mid later u → Since (LoadsAsOrOneOf before (newer ++ older)) past later u
since_both newer older before past mid later m u first second =
    since_then (LoadsAsOrOneOf before (newer ++ older)) past mid later m u
    (since_weaken (LoadsAsOrOneOf before older) (LoadsAsOrOneOf before (newer ++ older)) past mid m (λ y f left may. go newer left (f left may)) first)
    (since_weaken (LoadsAsOrOneOf (moment_of m) newer) (LoadsAsOrOneOf before (newer ++ older)) mid later u (λ y f left may. one_of_both newer older before m (loaded left) first.now_too (f left may)) second)
  where
    go : (newer : List Proof) (left : SlotsTold) → MayLoad before (loaded left) ⊎ IsOneOf older (loaded left) → MayLoad before (loaded left) ⊎ IsOneOf (newer ++ older) (loaded left)
    go [] left x = x
    go (b ∷ bs) left x = more b (bs ++ older) before (loaded left) (go bs left x)

-- ---- the slots were not called

pub no_moments : (saved : List Proof) (c : Call) → c.after.slots ≡ c.before.slots → c.after.moments ≡ c.before.moments → SlotsPass (λ t. LoadsAsOrOneOf (moment_of t) saved) c
no_moments saved c kept none =
    subst (λ (w : Option SlotsTold). BothTell (λ t u. Since (LoadsAsOrOneOf (moment_of t) saved) c.before.moments c.after.moments u) c.before.slots w) (sym kept)
    (subst (λ (m : List Moment). BothTell (λ t u. Since (LoadsAsOrOneOf (moment_of t) saved) c.before.moments m u) c.before.slots c.before.slots) (sym none)
    (both_to (λ t u. Since (LoadsAs (moment_of t)) c.before.moments c.before.moments u) (λ t u. Since (LoadsAsOrOneOf (moment_of t) saved) c.before.moments c.before.moments u)
    (λ t u s. since_weaken (LoadsAs (moment_of t)) (LoadsAsOrOneOf (moment_of t) saved) c.before.moments c.before.moments u (λ m f. as_none saved (moment_of t) m f) s) c.before.slots c.before.slots (nothing_yet c.before.moments c.before.slots)))

-- ---- they were bound, and the store was begun

pub begun_on : (word : List ℕ) (past later : List Moment) (s m u : Option SlotsTold) → BothTell (λ t u. u ≡ with_path word t) s m → BothTell (λ t u. u ≡ settled t) m u
    → BothTell (λ t u. Since (LoadsAs (moment_of t)) past later u) m u → BothTell (IsBegun word past later) s u
begun_on word past later s m u bound done crash =
    both_then (λ t u. u ≡ with_path word t) (λ t u. (u ≡ settled t) × Since (LoadsAs (moment_of t)) past later u) (IsBegun word past later)
    (λ t m u e xy. record {
      settled = xy.0 ∙ ap settled e;
      crash = subst (λ (w : SlotsTold). Since (LoadsAs (moment_of w)) past later u) e xy.1;
    }) s m u bound
    (both_both (λ t u. u ≡ settled t) (λ t u. Since (LoadsAs (moment_of t)) past later u) m u done crash)

pub begun_slots : (word : List ℕ) (past later : List Moment) (s u : Option SlotsTold) → BothTell (IsBegun word past later) s u → BothTell (λ t u. u ≡ settled (with_path word t)) s u
begun_slots word past later s u b = both_to (IsBegun word past later) (λ t u. u ≡ settled (with_path word t)) (λ t u x. x.settled) s u b

pub begun_moments : (word : List ℕ) (past later : List Moment) (s u : Option SlotsTold) → BothTell (IsBegun word past later) s u → BothTell (λ t u. Since (LoadsAs (moment_of t)) past later u) s u
begun_moments word past later s u b = both_to (IsBegun word past later) (λ t u. Since (LoadsAs (moment_of t)) past later u) (λ t u x. x.crash) s u b

-- nothing was saved yet
begun_saved_now : (word : List ℕ) (past later : List Moment) (t u : SlotsTold) → IsBegun word past later t u → HasSavedOn word [] past later t u
begun_saved_now word past later t u b = record {
  slots = b.settled;
  crash = since_weaken (LoadsAs (moment_of t)) (LoadsAsOrOneOf (moment_of t) []) past later u (λ m f. as_none [] (moment_of t) m f) b.crash;
}

pub begun_saved : (word : List ℕ) (past later : List Moment) (s u : Option SlotsTold) → BothTell (IsBegun word past later) s u → BothTell (HasSavedOn word [] past later) s u
begun_saved word past later s u b = both_to (IsBegun word past later) (HasSavedOn word [] past later) (begun_saved_now word past later) s u b

-- ---- they were bound, and the store was not begun

pub broken_begin : (word : List ℕ) (s m u : Option SlotsTold) → BothTell (λ t u. u ≡ with_path word t) s m → BothTell (Breaks (λ t u. u ≡ t)) m u → BothTell (HasBroken [] word) s u
broken_begin word s m u bound breaks =
    both_then (λ t u. u ≡ with_path word t) (Breaks (λ t u. u ≡ t)) (HasBroken [] word)
    (λ t m u e x. inr (inl (subst (λ (w : SlotsTold). Breaks ChangesTarget w u) e (breaks_target m u x)))) s m u bound breaks

pub bound_moments : (word : List ℕ) (past later : List Moment) (s m u : Option SlotsTold) → BothTell (λ t u. u ≡ with_path word t) s m
    → BothTell (λ t u. Since (LoadsAs (moment_of t)) past later u) m u → BothTell (λ t u. Since (LoadsAsOrOneOf (moment_of t) []) past later u) s u
bound_moments word past later s m u bound crash =
    both_then (λ t u. u ≡ with_path word t) (λ t u. Since (LoadsAs (moment_of t)) past later u) (λ t u. Since (LoadsAsOrOneOf (moment_of t) []) past later u)
    (λ t m u e x. since_weaken (LoadsAs (moment_of t)) (LoadsAsOrOneOf (moment_of t) []) past later u (λ m f. as_none [] (moment_of t) m f)
    (subst (λ (w : SlotsTold). Since (LoadsAs (moment_of w)) past later u) e x)) s m u bound crash

-- the store was begun, and not read
load_broken_now : (word : List ℕ) (past later : List Moment) (t u : SlotsTold) → IsBegun word past later t u → HasBroken [] word t u
load_broken_now word past later t u b = inr (inr (subst (λ (x : SlotsTold). Breaks ChangesTarget x u) b.settled (breaks_target u u (record { path = refl; binds = refl; kept = λ _. refl }))))

pub load_broken : (word : List ℕ) (past later : List Moment) (s u : Option SlotsTold) → BothTell (IsBegun word past later) s u → BothTell (HasBroken [] word) s u
load_broken word past later s u b = both_to (IsBegun word past later) (HasBroken [] word) (load_broken_now word past later) s u b

-- ---- bodies were handed in

saved_on_now : (word : List ℕ) (bodies : List Proof) (past mid later : List Moment) (t m u : SlotsTold) → IsBegun word past mid t m → HasSaved bodies mid later m u → HasSavedOn word bodies past later t u
saved_on_now word bodies past mid later t m u b s =
    let first = begun_saved_now word past mid t m b in
    let both = since_both bodies [] (moment_of t) past mid later m u first.crash s.crash in
    record {
      slots = s.slots ∙ ap (after_saves bodies) b.settled;
      crash = subst (λ (x : List Proof). Since (LoadsAsOrOneOf (moment_of t) x) past later u) (append_none bodies) both;
    }
  where
    append_none : (xs : List Proof) → xs ++ [] ≡ xs
    append_none [] = refl
    append_none (x ∷ xs) = ap (λ (r : List Proof). x ∷ r) (append_none xs)

pub saved_on : (word : List ℕ) (bodies : List Proof) (past mid later : List Moment) (s m u : Option SlotsTold) → BothTell (IsBegun word past mid) s m → BothTell (HasSaved bodies mid later) m u
    → BothTell (HasSavedOn word bodies past later) s u
saved_on word bodies past mid later s m u begun saved = both_then (IsBegun word past mid) (HasSaved bodies mid later) (HasSavedOn word bodies past later) (saved_on_now word bodies past mid later) s m u begun saved

failed_on_now : (word : List ℕ) (bodies : List Proof) (body : Proof) (past mid later : List Moment) (t m u : SlotsTold) → IsBegun word past mid t m → HasFailed bodies body mid later m u
    → HasBroken bodies word t u × Since (LoadsAsOrOneOf (moment_of t) (body ∷ bodies)) past later u
failed_on_now word bodies body past mid later t m u b f =
    let first = begun_saved_now word past mid t m b in (
      inr (inr (subst (λ (x : SlotsTold). Breaks ChangesTarget (after_saves bodies x) u) b.settled f.slots)),
      subst (λ (x : List Proof). Since (LoadsAsOrOneOf (moment_of t) x) past later u) (append_none (body ∷ bodies))
          (since_both (body ∷ bodies) [] (moment_of t) past mid later m u first.crash f.crash),
    )
  where
    append_none : (xs : List Proof) → xs ++ [] ≡ xs
    append_none [] = refl
    append_none (x ∷ xs) = ap (λ (r : List Proof). x ∷ r) (append_none xs)

abbrev pub BrokenOn : List ℕ → List Proof → Proof → List Moment → List Moment → SlotsTold → SlotsTold → Type 0
BrokenOn word bodies body past later t u = HasBroken bodies word t u × Since (LoadsAsOrOneOf (moment_of t) (body ∷ bodies)) past later u

pub failed_on : (word : List ℕ) (bodies : List Proof) (body : Proof) (past mid later : List Moment) (s m u : Option SlotsTold) → BothTell (IsBegun word past mid) s m
    → BothTell (HasFailed bodies body mid later) m u → BothTell (BrokenOn word bodies body past later) s u
failed_on word bodies body past mid later s m u begun failed =
    both_then (IsBegun word past mid) (HasFailed bodies body mid later) (BrokenOn word bodies body past later) (failed_on_now word bodies body past mid later) s m u begun failed

-- ---- the last body

last_saved_now : (word : List ℕ) (bodies : List Proof) (body : Proof) (past mid later : List Moment) (t m u : SlotsTold) → HasSavedOn word bodies past mid t m
    → (u ≡ after_save (text body) (settled m)) × Since (LoadsAsOr (moment_of m) (text body)) mid later u → HasSavedOn word (body ∷ bodies) past later t u
last_saved_now word bodies body past mid later t m u first (e, crash) = record {
  slots = e ∙ ap (λ (x : SlotsTold). after_save (text body) (settled x)) first.slots;
  crash = since_saved body bodies (moment_of t) past mid later m u first.crash crash;
}

pub last_saved : (word : List ℕ) (bodies : List Proof) (body : Proof) (past mid later : List Moment) (s m u : Option SlotsTold) → BothTell (HasSavedOn word bodies past mid) s m
    → BothTell (λ t u. u ≡ after_save (text body) (settled t)) m u → BothTell (λ t u. Since (LoadsAsOr (moment_of t) (text body)) mid later u) m u → BothTell (HasSavedOn word (body ∷ bodies) past later) s u
last_saved word bodies body past mid later s m u first saved crash =
    both_then (HasSavedOn word bodies past mid) (λ t u. (u ≡ after_save (text body) (settled t)) × Since (LoadsAsOr (moment_of t) (text body)) mid later u) (HasSavedOn word (body ∷ bodies) past later)
    (last_saved_now word bodies body past mid later) s m u first
    (both_both (λ t u. u ≡ after_save (text body) (settled t)) (λ t u. Since (LoadsAsOr (moment_of t) (text body)) mid later u) m u saved crash)

last_failed_now : (word : List ℕ) (bodies : List Proof) (body : Proof) (past mid later : List Moment) (t m u : SlotsTold) → HasSavedOn word bodies past mid t m
    → Breaks ChangesTarget m u × Since (LoadsAsOr (moment_of m) (text body)) mid later u → BrokenOn word bodies body past later t u
last_failed_now word bodies body past mid later t m u first (breaks, crash) = (
  inr (inr (subst (λ (x : SlotsTold). Breaks ChangesTarget x u) first.slots breaks)),
  since_saved body bodies (moment_of t) past mid later m u first.crash crash,
)

pub last_failed : (word : List ℕ) (bodies : List Proof) (body : Proof) (past mid later : List Moment) (s m u : Option SlotsTold) → BothTell (HasSavedOn word bodies past mid) s m
    → BothTell (Breaks ChangesTarget) m u → BothTell (λ t u. Since (LoadsAsOr (moment_of t) (text body)) mid later u) m u → BothTell (BrokenOn word bodies body past later) s u
last_failed word bodies body past mid later s m u first failed crash =
    both_then (HasSavedOn word bodies past mid) (λ t u. Breaks ChangesTarget t u × Since (LoadsAsOr (moment_of t) (text body)) mid later u) (BrokenOn word bodies body past later)
    (last_failed_now word bodies body past mid later) s m u first
    (both_both (Breaks ChangesTarget) (λ t u. Since (LoadsAsOr (moment_of t) (text body)) mid later u) m u failed crash)

-- ---- the parts of these

pub on_slots_of : (word : List ℕ) (bodies : List Proof) (past later : List Moment) (s u : Option SlotsTold) → BothTell (HasSavedOn word bodies past later) s u
    → BothTell (λ t u. u ≡ after_saves bodies (settled (with_path word t))) s u
on_slots_of word bodies past later s u b = both_to (HasSavedOn word bodies past later) (λ t u. u ≡ after_saves bodies (settled (with_path word t))) (λ t u x. x.slots) s u b

pub on_moments_of : (word : List ℕ) (bodies : List Proof) (past later : List Moment) (s u : Option SlotsTold) → BothTell (HasSavedOn word bodies past later) s u
    → BothTell (λ t u. Since (LoadsAsOrOneOf (moment_of t) bodies) past later u) s u
on_moments_of word bodies past later s u b = both_to (HasSavedOn word bodies past later) (λ t u. Since (LoadsAsOrOneOf (moment_of t) bodies) past later u) (λ t u x. x.crash) s u b

pub broken_slots_of : (word : List ℕ) (bodies : List Proof) (body : Proof) (past later : List Moment) (s u : Option SlotsTold) → BothTell (BrokenOn word bodies body past later) s u → BothTell (HasBroken bodies word) s u
broken_slots_of word bodies body past later s u b = both_to (BrokenOn word bodies body past later) (HasBroken bodies word) (λ t u x. x.0) s u b

pub broken_moments_of : (word : List ℕ) (bodies : List Proof) (body : Proof) (past later : List Moment) (s u : Option SlotsTold) → BothTell (BrokenOn word bodies body past later) s u
    → BothTell (λ t u. Since (LoadsAsOrOneOf (moment_of t) (body ∷ bodies)) past later u) s u
broken_moments_of word bodies body past later s u b = both_to (BrokenOn word bodies body past later) (λ t u. Since (LoadsAsOrOneOf (moment_of t) (body ∷ bodies)) past later u) (λ t u x. x.1) s u b
