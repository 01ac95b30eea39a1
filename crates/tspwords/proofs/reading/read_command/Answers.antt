use Rattle.std.proofs.Common.{◌∙◌, ap, sym, map, string_bytes}
use Rattle.std.specs.Prelude.{option_map}
use Rattle.clap.specs.Matches.{found_of}
use Rattle.clap.specs.Walk.{rows_of}
use Rattle.clap.specs.Simple.{subcommand_of}
use Rattle.tspwords.specs.Program.{program}
use Rattle.tspwords.proofs.Says.{found_rows, found_name, name_of_rows, says_solve, says_tour, says_bench, says_replay, says_bound, says_checkbound}
use Rattle.tspwords.proofs.reading.read_command.Goals as goal

pub returns-in-Some-solve-default-clause-says : goal.returns-in-Some-solve-default-clause-says
returns-in-Some-solve-default-clause-says c =
    let words = map string_bytes c.args.words.now in
    let here = c.in-Some-solve-default in
    let rows = rows_of (found_of here.found.now) in
    let m = c.in_ok-matches.matches in
    let inner = c.in_ok-matches.ensures.rows in
    let name = found_name here.field-0-0.now (subcommand_of program words) (here.ensures.name ∙ name_of_rows words m inner) in
    says_solve words rows c.in_ok-solve-in-Some-solve-default.field-0 c.in_ok-matches.ensures.taken
    (sym name ∙ here.is-solve)
    (found_rows rows (subcommand_of program words) (here.ensures.rows ∙ ap (λ o. option_map (λ p. p.1) o) inner))
    c.in_ok-solve-in-Some-solve-default.ensures

pub returns-in-Some-tour-default-clause-says : goal.returns-in-Some-tour-default-clause-says
returns-in-Some-tour-default-clause-says c =
    let words = map string_bytes c.args.words.now in
    let here = c.in-Some-tour-default in
    let rows = rows_of (found_of here.found.now) in
    let m = c.in_ok-matches.matches in
    let inner = c.in_ok-matches.ensures.rows in
    let name = found_name here.field-0-0.now (subcommand_of program words) (here.ensures.name ∙ name_of_rows words m inner) in
    says_tour words rows c.in_ok-tour-in-Some-tour-default.field-0 c.in_ok-matches.ensures.taken
    (sym name ∙ here.is-tour)
    (found_rows rows (subcommand_of program words) (here.ensures.rows ∙ ap (λ o. option_map (λ p. p.1) o) inner))
    c.in_ok-tour-in-Some-tour-default.ensures

pub returns-in-Some-bench-default-clause-says : goal.returns-in-Some-bench-default-clause-says
returns-in-Some-bench-default-clause-says c =
    let words = map string_bytes c.args.words.now in
    let here = c.in-Some-bench-default in
    let rows = rows_of (found_of here.found.now) in
    let m = c.in_ok-matches.matches in
    let inner = c.in_ok-matches.ensures.rows in
    let name = found_name here.field-0-0.now (subcommand_of program words) (here.ensures.name ∙ name_of_rows words m inner) in
    says_bench words rows c.in_ok-bench-in-Some-bench-default.field-0 c.in_ok-matches.ensures.taken
    (sym name ∙ here.is-bench)
    (found_rows rows (subcommand_of program words) (here.ensures.rows ∙ ap (λ o. option_map (λ p. p.1) o) inner))
    c.in_ok-bench-in-Some-bench-default.ensures

pub returns-in-Some-replay-default-clause-says : goal.returns-in-Some-replay-default-clause-says
returns-in-Some-replay-default-clause-says c =
    let words = map string_bytes c.args.words.now in
    let here = c.in-Some-replay-default in
    let rows = rows_of (found_of here.found.now) in
    let m = c.in_ok-matches.matches in
    let inner = c.in_ok-matches.ensures.rows in
    let name = found_name here.field-0-0.now (subcommand_of program words) (here.ensures.name ∙ name_of_rows words m inner) in
    says_replay words rows c.in_ok-replay-in-Some-replay-default.field-0 c.in_ok-matches.ensures.taken
    (sym name ∙ here.is-replay)
    (found_rows rows (subcommand_of program words) (here.ensures.rows ∙ ap (λ o. option_map (λ p. p.1) o) inner))
    c.in_ok-replay-in-Some-replay-default.ensures

pub returns-in-Some-bound-default-clause-says : goal.returns-in-Some-bound-default-clause-says
returns-in-Some-bound-default-clause-says c =
    let words = map string_bytes c.args.words.now in
    let here = c.in-Some-bound-default in
    let rows = rows_of (found_of here.found.now) in
    let m = c.in_ok-matches.matches in
    let inner = c.in_ok-matches.ensures.rows in
    let name = found_name here.field-0-0.now (subcommand_of program words) (here.ensures.name ∙ name_of_rows words m inner) in
    says_bound words rows c.in_ok-bound-in-Some-bound-default.field-0 c.in_ok-matches.ensures.taken
    (sym name ∙ here.is-bound)
    (found_rows rows (subcommand_of program words) (here.ensures.rows ∙ ap (λ o. option_map (λ p. p.1) o) inner))
    c.in_ok-bound-in-Some-bound-default.ensures

pub returns-in-Some-checkbound-default-clause-says : goal.returns-in-Some-checkbound-default-clause-says
returns-in-Some-checkbound-default-clause-says c =
    let words = map string_bytes c.args.words.now in
    let here = c.in-Some-checkbound-default in
    let rows = rows_of (found_of here.found.now) in
    let m = c.in_ok-matches.matches in
    let inner = c.in_ok-matches.ensures.rows in
    let name = found_name here.field-0-0.now (subcommand_of program words) (here.ensures.name ∙ name_of_rows words m inner) in
    says_checkbound words rows c.in_ok-checkbound-in-Some-checkbound-default.field-0
    (sym name ∙ here.is-checkbound)
    (found_rows rows (subcommand_of program words) (here.ensures.rows ∙ ap (λ o. option_map (λ p. p.1) o) inner))
    c.in_ok-checkbound-in-Some-checkbound-default.ensures
