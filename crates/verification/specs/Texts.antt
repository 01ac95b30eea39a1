-- What is printed. Each line ends with one LF.
use Rattle.std.specs.Prelude.{ℕ, List, ◌++◌, codes, decimal}
use Rattle.tspinst.specs.declared.refusals.Refusal.{Refusal}
use Rattle.tspinst.specs.Refusals.{refusal_text}

-- the first refusal of the instance's text
abbrev pub instance_text : Refusal → List ℕ
instance_text r = codes "INSTANCE " ++ refusal_text r ++ codes "\n"

-- the proof is accepted with this length as its bound
abbrev pub verified_text : ℕ → List ℕ
verified_text l = codes "VERIFIED " ++ decimal l ++ codes "\n"

-- the proof is accepted with this length, and with this bound, which is below it
abbrev pub within_text : ℕ → ℕ → List ℕ
within_text l b = codes "WITHIN " ++ decimal l ++ codes " " ++ decimal b ++ codes "\n"

-- the proof has this first refusal, at this line
abbrev pub refused_text : ℕ → ℕ → List ℕ
refused_text k line = codes "REFUSED " ++ decimal k ++ codes " " ++ decimal line ++ codes "\n"

-- the usage of the program of its own
abbrev pub usage_text : List ℕ
usage_text = codes "USAGE tspverify INSTANCE PROOF\n"
