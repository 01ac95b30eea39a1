use Rattle.std.proofs.Common.{◌≡◌, [], map, string_bytes, subst, IfOk}
use Rattle.std.specs.Prelude.{IsErrOf}
use Rattle.clap.specs.Simple.{App, app_of, subcommand_of, subcommand_rows_of}
use Rattle.clap.specs.Faults.{fault_of}
use Rattle.tspwords.specs.declared.words.WordsError.TheVariants.{Usage}
use Rattle.tspwords.proofs.Says.{commands_there}
use Rattle.tspwords.proofs.reading.matches.Goals as goal

pub returns-clause-taken : goal.returns-clause-taken
returns-clause-taken c = subst (λ (a : App). IfOk c.parsed.result (λ m. fault_of a (map string_bytes c.args.words.now) ≡ [])) c.in_ok-program.ensures.app c.parsed.ensures.faults

pub returns-clause-rows : goal.returns-clause-rows
returns-clause-rows c = subst (λ (a : App). IfOk c.parsed.result (λ m. subcommand_rows_of m ≡ subcommand_of a (map string_bytes c.args.words.now))) c.in_ok-program.ensures.app c.parsed.ensures.inner

pub returns-clause-named : goal.returns-clause-named
returns-clause-named c = commands_there (map string_bytes c.args.words.now) (app_of c.in_ok-program.field-0) c.parsed.result
    c.in_ok-program.ensures.app c.parsed.ensures.faults c.parsed.ensures.inner

pub returns-clause-usage : goal.returns-clause-usage
returns-clause-usage c = subst (λ (a : App). IsErrOf c.parsed.result Usage → fault_of a (map string_bytes c.args.words.now) ≡ [] → ⊥) c.in_ok-program.ensures.app c.parsed.ensures.usage
