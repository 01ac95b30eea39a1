use Rattle.std.proofs.Common.{ℕ, suc, ◌+◌, ◌≤◌, Bool, true, false, cond, List, [], ◌∷◌, map, length, arith, length-append}
use Rattle.std.proofs.lemmas.List.{length-map}
use Rattle.std.specs.List.{slice_split, onto_first, filter}
use Rattle.tsplex.specs.Text.{has_bytes, is_blank, is_line_end, words, numbered, tokens_from}

filter_less : (w : List ℕ) (ws : List (List ℕ)) → length (filter has_bytes ws) ≤ length (filter has_bytes (w ∷ ws))
filter_less [] ws = omega arith
filter_less (b ∷ w) ws = omega arith

onto_words : (b n : ℕ) (ws : List (List ℕ)) → length (filter has_bytes ws) ≤ n → length (filter has_bytes (onto_first b ws)) ≤ suc n
onto_words b n [] h = omega arith
onto_words b n (w ∷ ws) h = omega (arith, filter_less w ws)

count_words : (line : List ℕ) → length (words line) ≤ length line
count_words [] = omega arith
count_words (b ∷ line) = at (is_blank b) (count_words line)
  where
    at : (blank : Bool) → length (words line) ≤ length line → length (filter has_bytes (cond blank ([] ∷ slice_split is_blank line) (onto_first b (slice_split is_blank line)))) ≤ suc (length line)
    at true h = omega arith
    at false h = onto_words b (length line) (slice_split is_blank line) h

-- the bytes of some lines
abbrev bytes_of : List (List ℕ) → ℕ
bytes_of [] = 0
bytes_of (line ∷ lines) = length line + bytes_of lines

onto_bytes : (b n : ℕ) (lines : List (List ℕ)) → bytes_of lines ≤ n → bytes_of (onto_first b lines) ≤ suc n
onto_bytes b n [] h = omega arith
onto_bytes b n (line ∷ lines) h = omega arith

split_bytes : (bs : List ℕ) → bytes_of (slice_split is_line_end bs) ≤ length bs
split_bytes [] = omega arith
split_bytes (b ∷ bs) = at (is_line_end b) (split_bytes bs)
  where
    at : (end : Bool) → bytes_of (slice_split is_line_end bs) ≤ length bs → bytes_of (cond end ([] ∷ slice_split is_line_end bs) (onto_first b (slice_split is_line_end bs))) ≤ suc (length bs)
    at true h = omega arith
    at false h = onto_bytes b (length bs) (slice_split is_line_end bs) h

count_numbered : (k : ℕ) (lines : List (List ℕ)) → length (numbered k lines) ≤ bytes_of lines
unfolding numbered
count_numbered k [] = omega arith
count_numbered k (line ∷ lines) = omega (arith, length-append (map (λ w. (k, w)) (words line)) (numbered (suc k) lines), length-map {B = ℕ × List ℕ} (words line) (λ w. (k, w)), count_words line, count_numbered (suc k) lines)

-- a text has no more words than bytes
pub count_tokens : (k : ℕ) (bs : List ℕ) → length (tokens_from k bs) ≤ length bs
unfolding tokens_from
count_tokens k bs = omega (arith, count_numbered k (slice_split is_line_end bs), split_bytes bs)
