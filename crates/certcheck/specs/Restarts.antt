-- What is told of a restart body that is refused.
use Rattle.std.specs.Prelude.{◌≡◌, ℕ, List}
use Rattle.tspdef.specs.Instances.{Instance}
use Rattle.certdef.specs.Verdicts.{no}
use Rattle.verdict.specs.Bodies.{body_verdict}
use Rattle.certcheck.specs.declared.answer.Trouble.{Trouble}
use Rattle.certcheck.specs.declared.answer.Trouble.TheVariants as troubles

-- the verdict on the body is this refusal, or memory ran out
abbrev pub IsRefusalOfBody : Instance → Trouble → List ℕ → Type 0
IsRefusalOfBody i troubles.NoMemory body = Unit {0}
IsRefusalOfBody i (troubles.Refused k at) body = body_verdict i body ≡ no k at
