use Rattle.std.proofs.Common.{ℕ, List, sym, ap, subst, ◌∙◌}
use Rattle.tspdef.specs.Tours.{IsCanonicalForm}
use Rattle.tspengine.specs.Outcomes.{IsProved}
use Rattle.tspengine.specs.Searches.{start_in}
use Rattle.tspengine.specs.Texts.{closed_text}
use Rattle.tspengine.proofs.Writing.{proved_of}
use Rattle.tspengine.proofs.outcomes.proof_of.Goals as goal

pub returns : goal.returns
returns c =
    let b = c.args.boss.now in
    let bound = c.args.text.bound in
    let bytes = c.args.text.bytes.items in
    let tour = c.in_ok-tour.tour in
    let length = c.best_length-length.result in
    let form = subst (λ (t : List ℕ). IsCanonicalForm t tour) c.snapshot.ensures.tour c.in_ok-tour.ensures in
    let proved = proved_of c.accepted_is_below.ensures c.closed_is_accepted.ensures c.tours_are_cycles.ensures.same c.tours_are_cycles.ensures.one
    b bound bytes tour c.snapshot.ensures.book c.requires.text c.requires.none_open form in
    record {
      tour = tour;
      proved = subst (λ (k : ℕ). IsProved b.instance b.budget b.gap (start_in b) tour k bound bytes) (sym c.best_length-length.ensures) proved;
      prints = c.in_ok-printed.ensures ∙ ap (closed_text length bound) c.cities.ensures.value;
      lines = c.in_ok-line.ensures;
    }
