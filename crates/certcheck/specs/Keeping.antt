-- Parts that are kept.
use Rattle.std.specs.Prelude.{◌≡◌, ◌<◌, Bool, true, false, List, length}
use Rattle.verdict.specs.Parts as defs
use Rattle.certcheck.specs.declared.part.Part.{Part}
use Rattle.certcheck.specs.declared.part.Parts.{Parts}
use Rattle.certcheck.specs.Parts.{parts_of}

-- these parts were said: all are kept, or there are more than 1,048,577 of them
pub record Kept (ps : List Part) (full : Bool) (said : List defs.Part) : Type 0 where
  pub all : full ≡ false → parts_of ps ≡ said
  pub over : full ≡ true → 1048577 < length said

abbrev pub Keeps : Parts → List defs.Part → Type 0
Keeps p said = Kept p.kept.items p.full said
