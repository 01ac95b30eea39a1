-- A run's end in words.
use Rattle.std.specs.Prelude.{ℕ, List, Option, Some, None, codes}
use Rattle.wording.specs.Rows.{words_of, said}
use Rattle.wording.specs.declared.rows.Tables.{Tables}
use Rattle.wording.specs.declared.explaining.Subject.{Subject}
use Rattle.wording.specs.declared.explaining.Subject.TheVariants as subject

-- a printed line in words, by the table of its subject
abbrev pub explained_line : Tables → Subject → List ℕ → Option (List ℕ)
explained_line tables subject.Certificate line = said (codes "line") tables.certificates.now line
explained_line tables subject.Tape line = said (codes "frame") tables.frames.now line
explained_line tables subject.Other line = said (codes "line") tables.refusals.now line

-- these words, or else those
abbrev pub words_or : Option (List ℕ) → Option (List ℕ) → Option (List ℕ)
words_or (Some words) rest = Some words
words_or None rest = rest

-- the words of the status, or else those of the line
abbrev pub explained : Tables → ℕ → Subject → List ℕ → Option (List ℕ)
explained tables status s line = words_or (words_of tables.statuses.now status) (explained_line tables s line)
