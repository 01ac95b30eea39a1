use Rattle.std.proofs.Common.{◌≡◌, Some, None, sym, ◌∙◌, subst}
use Rattle.tournament.specs.Places.{Places, IsLeast, NoneTakesPart, entry_at}
use Rattle.tournament.proofs.EntryLemmas.{least_at_top, nobody_at_top, some_at_top}
use Rattle.tournament.proofs.Tournament.least.Goals as goal

pub returns-in-Some : goal.returns-in-Some
returns-in-Some c =
    let top : entry_at c.self.inside.entries.items 1 ≡ Some c.in-Some.first = rw (← c.deref.ensures.value) (sym c.top.ensures ∙ c.in-Some.is) in
    subst (λ (p : Places). IsLeast p c.in-Some.first.number) c.self.view_is
    (least_at_top c.self.inside.entries.items c.self.inside.size c.in-Some.first c.self.invariant (some_at_top c.self.inside.entries.items c.in-Some.first top) top)

pub returns-in-None : goal.returns-in-None
returns-in-None c =
    let top : entry_at c.self.inside.entries.items 1 ≡ None = rw (← c.deref.ensures.value) (sym c.top.ensures ∙ c.in-None.is) in
    subst NoneTakesPart c.self.view_is (nobody_at_top c.self.inside.entries.items c.self.inside.size c.self.invariant top)
