-- The laws of lines, of yes, and of readers.
use Rattle.std.specs.Prelude.{◌≡◌, ℕ, ◌<◌, ◌^◌, ◌↔◌, true, List, ◌++◌, Some}
use Rattle.tspdef.specs.Instances.{Instance}
use Rattle.certdef.specs.Items.{Item, line, fits, item_of}
use Rattle.certdef.specs.Proofs.{Proof, items, lines}
use Rattle.certdef.specs.Accepted.{IsReadable, IsAcceptedText}
use Rattle.certdef.specs.Tests.{Tests}
use Rattle.certdef.specs.Verdicts.{yes}
use Rattle.certdef.specs.Bytes.{Read, bytes_on, verdict}
use Rattle.verdict.specs.Forms.{at_trees, items_read}

-- Bytes are the line of an item within its bounds exactly where they are read as that item.
pub record IsExactLine (n : ℕ) (bytes : List ℕ) (x : Item) : Type 0 where
  pub said : item_of n bytes ≡ Some x → (bytes ≡ line x) × (fits n x ≡ true)
  pub again : bytes ≡ line x → fits n x ≡ true → item_of n bytes ≡ Some x

abbrev pub LinesAreExact : Type 0
LinesAreExact = (n : ℕ) (bytes : List ℕ) (x : Item) → n < 2 ^ 32 → IsExactLine n bytes x

-- The verdict is yes with a length and a bound exactly on the texts of values of the grammar that are accepted with them.
abbrev pub YesIsAcceptedText : Type 0
YesIsAcceptedText = (i : Instance) (bytes : List ℕ) (l b : ℕ) → i.n < 2 ^ 32 → (verdict i bytes ≡ yes l b) ↔ IsAcceptedText i bytes l b

-- Bytes may come in pieces.
abbrev pub ReadsInPieces : Type 0
ReadsInPieces = (j : Tests) (r : Read) (xs ys : List ℕ) → bytes_on j r (xs ++ ys) ≡ bytes_on j (bytes_on j r xs) ys

-- The lines are those of a value of the grammar, and these are its items.
pub record AreItemsOf (n : ℕ) (ls : List (List ℕ)) (xs : List Item) (p : Proof) : Type 0 where
  pub lines : ls ≡ lines p
  pub readable : IsReadable n p
  pub items : xs ≡ items p

-- A reader of the form alone is at the end exactly after the lines of a value of the grammar, and gives its items.
abbrev pub ReadIsReadable : Type 0
ReadIsReadable = (n : ℕ) (ls : List (List ℕ)) (xs : List Item) → n < 2 ^ 32
    → ((k : ℕ) × (items_read n ls ≡ Some (xs, at_trees 0 k))) ↔ ((p : Proof) × AreItemsOf n ls xs p)
