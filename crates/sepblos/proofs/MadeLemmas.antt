-- Cuts that sets make, set by set.
use Rattle.std.proofs.Common.{◌≡◌, ℕ, ◌+◌, ◌<◌, Option, Some, None, List, [], ◌∷◌, ◌++◌, length, drop, get_or, inl, inr, refl, sym, ap, subst, ◌∙◌}
use Rattle.std.specs.Prelude.{MatchOption}
use Rattle.std.proofs.lemmas.List.{drop_more}
use Rattle.tspdef.specs.Cuts.{Cut}
use Rattle.cyc.specs.CitySet.{Members}
use Rattle.sepblos.specs.Made.{AreMade}

-- the cuts so far and those of the sets that are left are those of all
abbrev pub GoOn : (Members → Cut → Type 0) → List Members → ℕ → List Cut → Type 0
GoOn Makes sets i cuts = (rest : List Cut) → AreMade Makes (drop i sets) rest → AreMade Makes sets (cuts ++ rest)

here : (sets : List Members) (i : ℕ) (s : Members) → i < length sets → s ≡ get_or sets i s → drop i sets ≡ s ∷ drop (i + 1) sets
here sets i s h is = drop_more sets i s h ∙ ap (λ t. t ∷ drop (i + 1) sets) (sym is)

append_one : (cuts rest : List Cut) (c : Cut) → (cuts ++ c ∷ []) ++ rest ≡ cuts ++ (c ∷ rest)
append_one [] rest c = refl
append_one (d ∷ ds) rest c = ap (λ es. d ∷ es) (append_one ds rest c)

pub go_on_with : (Makes : Members → Cut → Type 0) (sets : List Members) (i : ℕ) (s : Members) (cuts : List Cut) (c : Cut) → i < length sets → s ≡ get_or sets i s → Makes s c
    → GoOn Makes sets i cuts → GoOn Makes sets (i + 1) (cuts ++ c ∷ [])
go_on_with Makes sets i s cuts c h is made old = λ rest more.
    subst (AreMade Makes sets) (sym (append_one cuts rest c))
    (old (c ∷ rest) (subst (λ ss. AreMade Makes ss (c ∷ rest)) (sym (here sets i s h is)) (inl (c, rest, made, refl, more))))

pub go_on_without : (Makes : Members → Cut → Type 0) (sets : List Members) (i : ℕ) (s : Members) (cuts : List Cut) → i < length sets → s ≡ get_or sets i s → ((c : Cut) → Makes s c → ⊥)
    → GoOn Makes sets i cuts → GoOn Makes sets (i + 1) cuts
go_on_without Makes sets i s cuts h is none old = λ rest more.
    old rest (subst (λ ss. AreMade Makes ss rest) (sym (here sets i s h is)) (inr (none, more)))

append_none : (cuts : List Cut) → cuts ++ [] ≡ cuts
append_none [] = refl
append_none (c ∷ cs) = ap (λ ds. c ∷ ds) (append_none cs)

pub gone_through : (Makes : Members → Cut → Type 0) (sets : List Members) (i : ℕ) (cuts : List Cut) → drop i sets ≡ [] → GoOn Makes sets i cuts → AreMade Makes sets cuts
gone_through Makes sets i cuts e old =
    subst (AreMade Makes sets) (append_none cuts) (old [] (subst (λ ss. AreMade Makes ss []) (sym e) refl))

pub none_at : (o : Option Cut) (P : Type 0) (Q : Cut → Type 0) → ((c : Cut) → o ≡ Some c → ⊥) → MatchOption o P Q → P
none_at None P Q never m = m
none_at (Some c) P Q never m = absurd (never c refl)
