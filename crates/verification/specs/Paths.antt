-- The paths that a call of the verifier names.
use Rattle.std.specs.Prelude.{ℕ, List, codes, string_bytes}
use Rattle.clap.specs.Walk.{Text}
use Rattle.tspwords.specs.Program.{verifier_word}
use Rattle.tspwords.specs.declared.words.VerifyWords.{VerifyWords}

-- those of the instance and of the proof
pub record Paths : Type 0 where
  pub instance : List ℕ
  pub proof : List ℕ

-- as the words of the program of its own name them
abbrev pub paths_of : List Text → Paths
paths_of words = record { instance = verifier_word (codes "instance") words; proof = verifier_word (codes "proof") words }

-- as words that are read name them
abbrev pub paths_in : VerifyWords → Paths
paths_in v = record { instance = string_bytes v.instance; proof = string_bytes v.proof }
