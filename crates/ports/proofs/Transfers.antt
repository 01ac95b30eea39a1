-- One read or write after another, where a desk may tell.
use Rattle.std.proofs.Common.{◌≡◌, ℕ, ◌+◌, ◌-◌, ◌≤◌, ◌<◌, List, [], ◌++◌, length, take, drop, refl, sym, ap, subst, ◌∙◌, append_assoc, length-append, arith, Option, Some, None, Result, Ok, Err, IsErrAnd, IsErrOf}
use Rattle.std.proofs.lemmas.List.{drop_at, append-nil, take-take, drop-take, take-append-drop}
use Rattle.ports.specs.Outside.{BothTell, WhereTold}
use Rattle.ports.specs.Desk.{Told, Adds, Takes, TakesFirst, TakesAll, IsAtEnd, with_added, with_left, left}
use Rattle.ports.specs.declared.desk.Outlet.{Outlet}
use Rattle.ports.specs.declared.desk.Outlet.TheVariants as outlet
use Rattle.ports.specs.declared.desk.Inlet.{Inlet}
use Rattle.ports.specs.declared.desk.Inlet.TheVariants as inlet
use Rattle.ports.specs.declared.transfer.ReadError.{ReadError}
use Rattle.ports.specs.declared.transfer.ReadError.TheVariants as ReadErrors

with_added-twice : (to : Outlet) (a b : List ℕ) (t : Told) → with_added to b (with_added to a t) ≡ with_added to (a ++ b) t
with_added-twice outlet.Text a b t = ap (λ x. record t { text = x }) (append_assoc t.text a b)
with_added-twice outlet.Proof a b t = ap (λ x. record t { proof_out = x }) (append_assoc t.proof_out a b)

with_added-nothing : (to : Outlet) (t : Told) → with_added to [] t ≡ t
with_added-nothing outlet.Text t = ap (λ x. record t { text = x }) (append-nil t.text)
with_added-nothing outlet.Proof t = ap (λ x. record t { proof_out = x }) (append-nil t.proof_out)

-- nothing written yet
pub adds_none : (to : Outlet) (t : Option Told) → BothTell (Adds to []) t t
adds_none to None = tt
adds_none to (Some t) = sym (with_added-nothing to t)

-- one write more
pub adds_more : (to : Outlet) (a b c : List ℕ) (t u v : Option Told) → BothTell (Adds to a) t u → BothTell (Adds to b) u v → c ≡ a ++ b → BothTell (Adds to c) t v
adds_more to a b c None None None x y e = tt
adds_more to a b c None None (Some v) x y e = y
adds_more to a b c None (Some u) v x y e = absurd x
adds_more to a b c (Some t) None v x y e = absurd x
adds_more to a b c (Some t) (Some u) None x y e = y
adds_more to a b c (Some t) (Some u) (Some v) x y e =
    y ∙ ap (with_added to b) x ∙ with_added-twice to a b t ∙ ap (λ bytes. with_added to bytes t) (sym e)

with_left-left : (from : Inlet) (t : Told) → with_left from (left from t) t ≡ t
with_left-left inlet.Instance t = refl
with_left-left inlet.Proof t = refl

with_left-twice : (from : Inlet) (a b : List ℕ) (t : Told) → with_left from b (with_left from a t) ≡ with_left from b t
with_left-twice inlet.Instance a b t = refl
with_left-twice inlet.Proof a b t = refl

-- nothing read yet
pub takes_none : (from : Inlet) (t : Option Told) → BothTell (Takes from []) t t
takes_none from None = tt
takes_none from (Some t) = record { front = refl; others = sym (with_left-left from t) }

takes_twice : (from : Inlet) (a b : List ℕ) (t u v : Told) → Takes from a t u → Takes from b u v → Takes from (a ++ b) t v
takes_twice from a b t u v x y = record {
  front = x.front ∙ ap (λ s. a ++ s) y.front ∙ sym (append_assoc a b (left from v));
  others = y.others ∙ ap (with_left from (left from v)) x.others ∙ with_left-twice from (left from u) (left from v) t;
}

-- one read more
pub takes_more : (from : Inlet) (a b c : List ℕ) (t u v : Option Told) → BothTell (Takes from a) t u → BothTell (Takes from b) u v → c ≡ a ++ b → BothTell (Takes from c) t v
takes_more from a b c None None None x y e = tt
takes_more from a b c None None (Some v) x y e = y
takes_more from a b c None (Some u) v x y e = absurd x
takes_more from a b c (Some t) None v x y e = absurd x
takes_more from a b c (Some t) (Some u) None x y e = y
takes_more from a b c (Some t) (Some u) (Some v) x y e = subst (λ s. Takes from s t v) (sym e) (takes_twice from a b t u v x y)

takes_first : (from : Inlet) (a : List ℕ) (t u : Option Told) → BothTell (Takes from a) t u → BothTell (TakesFirst from (length a)) t u
takes_first from a None None x = tt
takes_first from a None (Some u) x = x
takes_first from a (Some t) None x = x
takes_first from a (Some t) (Some u) x =
    x.others ∙ ap (λ s. with_left from s t) (sym (ap (drop (length a)) x.front ∙ drop_at a (left from u) (length a) refl))

-- how much was read, where the next read fails
pub takes_then_stops : (from : Inlet) (a : List ℕ) (most : ℕ) (t u v : Option Told) → BothTell (Takes from a) t u → v ≡ u → length a ≤ most → (k : ℕ) × (k ≤ most) × BothTell (TakesFirst from k) t v
takes_then_stops from a most t u v x same few =
    (length a, few, subst (λ w. BothTell (TakesFirst from (length a)) t w) (sym same) (takes_first from a t u x))

-- how much was read, after one read more
pub takes_once_more : (from : Inlet) (a b : List ℕ) (most : ℕ) (t u v : Option Told) → BothTell (Takes from a) t u → BothTell (Takes from b) u v → length a + length b ≤ most → (k : ℕ) × (k ≤ most) × BothTell (TakesFirst from k) t v
takes_once_more from a b most t u v x y few =
    (length (a ++ b), omega (arith, length-append a b), takes_first from (a ++ b) t v (takes_more from a b (a ++ b) t u v x y refl))

-- a read of nothing at the end
pub takes_all : (from : Inlet) (a b : List ℕ) (t u v : Option Told) → BothTell (Takes from a) t u → BothTell (Takes from b) u v → b ≡ [] → WhereTold (IsAtEnd from) u → BothTell (TakesAll from a) t v
takes_all from a b None None None x y e end = tt
takes_all from a b None None (Some v) x y e end = y
takes_all from a b None (Some u) v x y e end = absurd x
takes_all from a b (Some t) None v x y e end = absurd x
takes_all from a b (Some t) (Some u) None x y e end = y
takes_all from a b (Some t) (Some u) (Some v) x y e end =
    let over : left from v ≡ [] = sym (y.front ∙ ap (λ s. s ++ left from v) e) ∙ end in record {
      whole = x.front ∙ ap (λ s. a ++ s) end ∙ append-nil a;
      others = y.others ∙ ap (λ s. with_left from s u) over ∙ ap (with_left from []) x.others ∙ with_left-twice from (left from u) [] t;
    }

-- more was read than the limit allows
pub takes_too_much : (from : Inlet) (a : List ℕ) (most : ℕ) (t u : Option Told) → BothTell (Takes from a) t u → most < length a → WhereTold (λ t. most < length (left from t)) t
takes_too_much from a most None u x more = tt
takes_too_much from a most (Some t) None x more = absurd x
takes_too_much from a most (Some t) (Some u) x more = omega (arith, ap length x.front, length-append a (left from u))

-- want of memory is no fault
pub no_memory_is_no_fault : {T : Type 0} → (r : Result T ReadError) → IsErrAnd r (λ e. e ≡ ReadErrors.NoMemory) → IsErrOf r ReadErrors.Failed → ⊥
no_memory_is_no_fault (Ok x) is was = is
no_memory_is_no_fault (Err e) is was = cc (is, was)

-- an error that is passed on
pub passed_on : {T : Type 0} → (r : Result T ReadError) (x y : ReadError) → IsErrAnd r (λ e. e ≡ x) → IsErrOf r y → x ≡ y
passed_on (Ok a) x y is was = absurd is
passed_on (Err e) x y is was = cc (is, was)

-- the bytes that one write more takes
pub take_more_of : (piece : List ℕ) (done k : ℕ) → done ≤ length piece → k ≤ length piece - done → take (done + k) piece ≡ take done piece ++ take k (take (length piece - done) (drop done piece))
take_more_of piece done k within few =
    let rest = take-take k (length piece - done) (drop done piece) few in
    let front = take-take done (done + k) piece (omega arith) in
    let back = drop-take done k piece in
    let whole = take-append-drop done (take (done + k) piece) in cc
