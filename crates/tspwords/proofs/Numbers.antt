-- The number that a word says.
use Rattle.std.proofs.Common.{◌≡◌, ◌≤◌, ℕ, Bool, true, false, cond, List, refl, sym, ap, ◌∙◌, arith, Result, Ok, Err}
use Rattle.std.specs.Result.{result_unwrap_or}
use Rattle.std.specs.Str.Parse.{ParsesUnsigned}
use Rattle.clap.specs.Values.{IsUnsignedIn}
use Rattle.clap.specs.ValueTests.{is_unsigned_in}
use Rattle.clap.proofs.ValueTestLemmas.{accepts-Accepts, Accepts-accepts}
use Rattle.clap.specs.declared.builder.value_parser.ValueParser.TheVariants as parser
use Rattle.tspwords.specs.Found.{number_in}
use Rattle.tspwords.specs.Program.{number_of}

pub unsigned_in : (least most : ℕ) (word : List ℕ) → is_unsigned_in least most word ≡ true → IsUnsignedIn least most word
unsigned_in least most word h = accepts-Accepts false (parser.Unsigned least most) word h

pub in_unsigned : (least most : ℕ) (word : List ℕ) → IsUnsignedIn least most word → is_unsigned_in least most word ≡ true
in_unsigned least most word h = Accepts-accepts false (parser.Unsigned least most) word h

pub number_taken : (least most default : ℕ) (word : List ℕ) → is_unsigned_in least most word ≡ true → number_in least most default word ≡ number_of word
number_taken least most default word h = ap (λ b. cond b (number_of word) default) h

number_left : (least most default : ℕ) (word : List ℕ) → (IsUnsignedIn least most word → ⊥) → number_in least most default word ≡ default
number_left least most default word other = go (is_unsigned_in least most word) refl
  where
    go : (b : Bool) → is_unsigned_in least most word ≡ b → cond b (number_of word) default ≡ default
    go true e = absurd (other (unsigned_in least most word e))
    go false e = refl

-- a number that was read within the range
pub number_within : {E : Type 0} (least most default : ℕ) (word : List ℕ) (r : Result ℕ E) → ParsesUnsigned 64 10 word r
    → least ≤ result_unwrap_or r default → result_unwrap_or r default ≤ most → result_unwrap_or r default ≡ number_in least most default word
number_within least most default word (Ok n) h low high =
    let all : IsUnsignedIn least most word = (h.0.0, h.0.1, omega arith, omega arith) in
    h.1 ∙ sym (number_taken least most default word (in_unsigned least most word all))
number_within least most default word (Err x) h low high = sym (number_left least most default word (λ all. h (all.0, all.1)))

-- a number that was not
pub number_without : {E : Type 0} (least most default : ℕ) (word : List ℕ) (r : Result ℕ E) → ParsesUnsigned 64 10 word r
    → (least ≤ result_unwrap_or r default → result_unwrap_or r default ≤ most → ⊥) → default ≡ number_in least most default word
number_without least most default word (Ok n) h other = sym (number_left least most default word (λ all. other (omega arith) (omega arith)))
number_without least most default word (Err x) h other = sym (number_left least most default word (λ all. h (all.0, all.1)))
