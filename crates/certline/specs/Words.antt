-- The first words of lines.
use Rattle.std.specs.Prelude.{ℕ, List, codes}
use Rattle.certline.specs.declared.keyword.Keyword.{Keyword}
use Rattle.certline.specs.declared.keyword.Keyword.TheVariants as keywords

abbrev pub word_of : Keyword → List ℕ
word_of keywords.Cert = codes "TSPCERT"
word_of keywords.N = codes "N"
word_of keywords.Length = codes "LENGTH"
word_of keywords.Bound = codes "BOUND"
word_of keywords.Tour = codes "TOUR"
word_of keywords.Cuts = codes "CUTS"
word_of keywords.Subtour = codes "S"
word_of keywords.Comb = codes "C"
word_of keywords.Handle = codes "H"
word_of keywords.Tooth = codes "T"
word_of keywords.Odd = codes "B"
word_of keywords.Pair = codes "F"
word_of keywords.Edge = codes "E"
word_of keywords.Clique = codes "K"
word_of keywords.Leaf = codes "L"
word_of keywords.City = codes "P"
word_of keywords.CutDual = codes "Y"
word_of keywords.CondDual = codes "Z"
word_of keywords.Open = codes "O"
