-- What is told of trouble with a body.
use Rattle.std.specs.Prelude.{◌≡◌}
use Rattle.certcheck.specs.declared.answer.Trouble.{Trouble}
use Rattle.certcheck.specs.declared.answer.Trouble.TheVariants as troubles
use Rattle.resume_form.specs.Resumed.{told_as}
use Rattle.resume_form.specs.declared.error.ReadError.{ReadError}
use Rattle.resume_form.specs.declared.error.ReadError.TheVariants as errors

abbrev pub IsToldOf : Trouble → ReadError → Type 0
IsToldOf troubles.NoMemory e = e ≡ errors.NoMemory
IsToldOf (troubles.Refused k at) e = e ≡ errors.Refused (told_as k) at
