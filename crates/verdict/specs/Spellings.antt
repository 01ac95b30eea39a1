-- The laws of spellings.
use Rattle.std.specs.Prelude.{◌≡◌, ℕ, ◌<◌, ◌^◌, List, [], ◌++◌}
use Rattle.certdef.specs.Proofs.{Proof, text}
use Rattle.certdef.specs.Accepted.{IsReadable}

-- Where the texts of two values of the grammar begin the same bytes, the values are one, and so is what follows them.
abbrev pub SpellingsAreApart : Type 0
SpellingsAreApart = (n m : ℕ) (p q : Proof) (xs ys : List ℕ) → n < 2 ^ 32 → m < 2 ^ 32 → IsReadable n p → IsReadable m q
    → text p ++ xs ≡ text q ++ ys → (p ≡ q) × (xs ≡ ys)

-- No text of a value begins that of another one.
abbrev pub NoTextBeginsAnother : Type 0
NoTextBeginsAnother = (n m : ℕ) (p q : Proof) (more : List ℕ) → n < 2 ^ 32 → m < 2 ^ 32 → IsReadable n p → IsReadable m q
    → text q ≡ text p ++ more → (q ≡ p) × (more ≡ [])

-- Bytes are the text of at most one value.
abbrev pub BytesHaveOneValue : Type 0
BytesHaveOneValue = (n m : ℕ) (p q : Proof) → n < 2 ^ 32 → m < 2 ^ 32 → IsReadable n p → IsReadable m q → text p ≡ text q → p ≡ q
