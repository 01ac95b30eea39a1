-- What is printed. Each line ends with one LF. Refusals of instances and of texts are printed as the verifier prints them.
use Rattle.std.specs.Prelude.{ℕ, List, ◌++◌, codes, decimal}

-- a tour of this length is drawn
abbrev pub drawn_text : ℕ → List ℕ
drawn_text l = codes "DRAWN " ++ decimal l ++ codes "\n"

-- the form of the program's words
abbrev pub usage_text : List ℕ
usage_text = codes "USAGE tspview INSTANCE TEXT OUT\n"
