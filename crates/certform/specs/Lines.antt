-- The bytes of lines, as they are put together.
use Rattle.std.specs.Prelude.{ℕ, ◌+◌, List, [], ◌∷◌, ◌++◌, map, decimal}
use Rattle.std.specs.List.{flat_map, join_with_byte}
use Rattle.tspdef.specs.Cuts.{Cut}
use Rattle.certdef.specs.Items.{Item, set_words, line}
use Rattle.certdef.specs.Proofs.{listed_items, text_of}
use Rattle.certform.specs.Written.{from_one, listed}

-- the bytes of lines with their ends
abbrev pub said : List Item → List ℕ
said xs = text_of (map line xs)

-- a number behind a space
abbrev pub behind_space : ℕ → List ℕ
behind_space k = 32 ∷ decimal k

-- cities from 0, each from 1 and behind a space
abbrev pub spelled : List ℕ → List ℕ
spelled cities = flat_map (λ c. behind_space (c + 1)) cities

-- the line of a first word and a set of cities from 0, with its end
abbrev pub set_bytes : List ℕ → List ℕ → List ℕ
set_bytes word s = join_with_byte 32 (word ∷ set_words (from_one s)) ++ 10 ∷ []

-- the lines that list a cut
abbrev pub cut_items : Cut → List Item
cut_items c = listed_items (listed c)
