use Rattle.std.proofs.Common.{◌≡◌, sym, subst, Option, Some, None, Result, Ok, Err, true, false}
use Rattle.std.specs.Prelude.{OnOk, OnErr}
use Rattle.std.specs.Result.{is_err}
use Rattle.ports.specs.Outside.{BothTell}

-- what two objects tell is related by what follows from how they are related
pub both_to : {T : Type 0} (P Q : T → T → Type 0) → ((t u : T) → P t u → Q t u) → (a b : Option T) → BothTell P a b → BothTell Q a b
both_to P Q f None None r = tt
both_to P Q f None (Some u) r = absurd r
both_to P Q f (Some t) None r = absurd r
both_to P Q f (Some t) (Some u) r = f t u r

-- one after the other
pub both_then : {T : Type 0} (P Q R : T → T → Type 0) → ((t u v : T) → P t u → Q u v → R t v) → (a b c : Option T) → BothTell P a b → BothTell Q b c → BothTell R a c
both_then P Q R f None None None p q = tt
both_then P Q R f None None (Some v) p q = absurd q
both_then P Q R f None (Some u) c p q = absurd p
both_then P Q R f (Some t) None c p q = absurd p
both_then P Q R f (Some t) (Some u) None p q = absurd q
both_then P Q R f (Some t) (Some u) (Some v) p q = f t u v p q

-- an object that did not change
pub both_same : {T : Type 0} (P : T → T → Type 0) → ((t : T) → P t t) → (a b : Option T) → b ≡ a → BothTell P a b
both_same P f None b e = subst (λ x. BothTell P None x) (sym e) tt
both_same P f (Some t) b e = subst (λ x. BothTell P (Some t) x) (sym e) (f t)

-- two relations at once
pub both_and : {T : Type 0} (P Q R : T → T → Type 0) → ((t u : T) → P t u → Q t u → R t u) → (a b : Option T) → BothTell P a b → BothTell Q a b → BothTell R a b
both_and P Q R f None None p q = tt
both_and P Q R f None (Some u) p q = absurd p
both_and P Q R f (Some t) None p q = absurd p
both_and P Q R f (Some t) (Some u) p q = f t u p q

pub on_err : {A E P : Type 0} (r : Result A E) → is_err r ≡ true → OnErr r P → P
on_err (Ok a) e h = absurd cc
on_err (Err x) e h = h

pub on_ok : {A E P : Type 0} (r : Result A E) → is_err r ≡ false → OnOk r P → P
on_ok (Ok a) e h = h
on_ok (Err x) e h = absurd cc
