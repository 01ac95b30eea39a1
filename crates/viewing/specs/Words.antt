-- The words of the viewer's command line: the program's name and three paths. No path begins with a dash, as options do.
use Rattle.std.specs.Prelude.{◌≡◌, ℕ, ◌==◌, ◌&&◌, Bool, true, not, List, [], ◌∷◌, length, slice_index_or}
use Rattle.viewing.specs.declared.arguments.Paths.{Paths as WordPaths}

-- the bytes of a word
abbrev pub Text : Type 0
Text = List ℕ

-- the paths of the instance, of the proof or the restart body, and of the picture
pub record Paths : Type 0 where
  pub instance : Text
  pub text : Text
  pub out : Text

-- a word may be a path
abbrev pub is_path : Text → Bool
is_path [] = true
is_path (b ∷ bs) = not (b == 45)

abbrev pub word_at : List Text → ℕ → Text
word_at words k = slice_index_or words k []

-- the words are of the viewer's form
abbrev pub is_view_call : List Text → Bool
is_view_call words = (length words == 4) && (is_path (word_at words 1) && is_path (word_at words 2) && is_path (word_at words 3))

abbrev pub IsViewCall : List Text → Type 0
IsViewCall words = is_view_call words ≡ true

-- the paths that the words name
abbrev pub paths_of : List Text → Paths
paths_of words = record { instance = word_at words 1; text = word_at words 2; out = word_at words 3 }

-- paths without where they lie in memory
abbrev pub paths_in : WordPaths → Paths
paths_in p = record { instance = p.instance.now; text = p.text.now; out = p.out.now }
