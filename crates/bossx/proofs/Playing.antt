-- Events that are played in turn.
use Rattle.std.proofs.Common.{◌≡◌, ℕ, List, [], ◌∷◌, ◌++◌, refl, sym, ◌∙◌, ap, subst}
use Rattle.std.specs.List.{AllByRecursion}
use Rattle.bossx.specs.declared.events.Event.{Event}
use Rattle.bossx.specs.declared.events.Reply.{Reply}
use Rattle.bossx.specs.Books.{Book}
use Rattle.bossx.specs.Steps.{Step, Run, run_ends, run_goes_on, IsCall}
use Rattle.bossx.proofs.Charging.{steps_charge}

run_and_step : (b mid new : Book) (es : List Event) (rs : List Reply) (e : Event) (r : Reply) → Run b es rs mid → Step mid e r new → Run b (es ++ e ∷ []) (rs ++ r ∷ []) new
run_and_step b mid new es rs e r (run_ends b') s = run_goes_on b new new e r [] [] s (run_ends new)
run_and_step b mid new es rs e r (run_goes_on b' x mid' e1 r1 es1 rs1 first rest) s = run_goes_on b x new e1 r1 (es1 ++ e ∷ []) (rs1 ++ r ∷ []) first (run_and_step x mid new es1 rs1 e r rest s)

-- some of the events are played, and these are the replies to them; the others are calls that may be made
pub record IsPlayed (old : Book) (all rest : List Event) (rs : List Reply) (now : Book) : Type 0 where
  pub done : List Event
  pub all_of : all ≡ done ++ rest
  pub run : Run old done rs now
  pub calls : AllByRecursion (IsCall now.grunts) rest

pub none_played : (b : Book) (all : List Event) → AllByRecursion (IsCall b.grunts) all → IsPlayed b all all [] b
none_played b all calls = record { done = []; all_of = refl; run = run_ends b; calls = calls }

pub first_call : (old now : Book) (all rest : List Event) (rs : List Reply) (e : Event) → IsPlayed old all (e ∷ rest) rs now → IsCall now.grunts e
first_call old now all rest rs e p = p.calls.0

behind : (done rest : List Event) (e : Event) → done ++ e ∷ rest ≡ (done ++ e ∷ []) ++ rest
behind [] rest e = refl
behind (d ∷ done) rest e = ap (λ (z : List Event). d ∷ z) (behind done rest e)

pub one_more : (old mid new : Book) (all rest : List Event) (rs : List Reply) (e : Event) (r : Reply) → IsPlayed old all (e ∷ rest) rs mid → Step mid e r new → IsPlayed old all rest (rs ++ r ∷ []) new
one_more old mid new all rest rs e r p s = record {
  done = p.done ++ e ∷ [];
  all_of = p.all_of ∙ behind p.done rest e;
  run = run_and_step old mid new p.done rs e r p.run s;
  calls = subst (λ (g : ℕ). AllByRecursion (IsCall g) rest) (sym (steps_charge mid new e r s).start.grunts) p.calls.1;
}

none_left : (done : List Event) → done ++ [] ≡ done
none_left [] = refl
none_left (d ∷ done) = ap (λ (z : List Event). d ∷ z) (none_left done)

pub all_played : (old now : Book) (all : List Event) (rs : List Reply) → IsPlayed old all [] rs now → Run old all rs now
all_played old now all rs p = subst (λ (es : List Event). Run old es rs now) (sym (p.all_of ∙ none_left p.done)) p.run
