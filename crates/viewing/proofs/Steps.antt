-- What becomes of the desk where a text is read and judged.
use Rattle.std.proofs.Common.{ℕ, List, sym, subst, inl, Option}
use Rattle.ports.specs.Outside.{BothTell}
use Rattle.ports.specs.Desk.{Told}
use Rattle.tspdef.specs.Instances.{Instance}
use Rattle.verification.proofs.Tells.{both_then}
use Rattle.viewing.specs.Readings.{ReadsText, text_told}
use Rattle.viewing.specs.Showing.{Judges, ShowsOn}
use Rattle.viewing.specs.declared.statuses.ViewStatus.{ViewStatus}

judged_at : (i : Instance) (text word bytes : List ℕ) (s : ViewStatus) (t u v : Told) → ReadsText text bytes t u → Judges i bytes word s u v → ShowsOn i text word s t v
judged_at i text word bytes s t u v r j =
    inl (subst (λ (x : List ℕ). Judges i x word s (text_told text t) v) (sym r.whole) (subst (λ (x : Told). Judges i bytes word s x v) r.others j))

pub judged : (i : Instance) (text word bytes : List ℕ) (s : ViewStatus) (a b c : Option Told) → BothTell (ReadsText text bytes) a b → BothTell (Judges i bytes word s) b c
    → BothTell (ShowsOn i text word s) a c
judged i text word bytes s a b c = both_then (ReadsText text bytes) (Judges i bytes word s) (ShowsOn i text word s) (λ t u v r j. judged_at i text word bytes s t u v r j) a b c
