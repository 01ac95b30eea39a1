use Rattle.std.proofs.Common.{arith}
use Rattle.std.proofs.lemmas.Grind.{common_steps}
use Rattle.clap.specs.Matches.{found_of}
use Rattle.clap.proofs.WalkLemmas.{first_value-rows}
use Rattle.tspwords.proofs.reading.word.Goals as goal

pub returns : goal.returns
returns c = grind (arith, common_steps, first_value-rows (found_of c.args.found.now) c.args.id.now)
