use Rattle.std.proofs.Common.{◌≡◌, ℕ, ◌<◌, false, List, length, get_or, refl, arith}
use Rattle.std.specs.List.{position_or_len}
use Rattle.std.proofs.lemmas.List.Sums.{position_or_len_is}
use Rattle.tspinst.specs.Headers.{is_colon}

pub colon_found : (xs : List ℕ) (i : ℕ) → i < length xs → ((k : ℕ) → k < i → is_colon (get_or xs k 0) ≡ false) → get_or xs i 0 ≡ 58 → position_or_len is_colon xs ≡ i
colon_found xs i l before here = position_or_len_is is_colon xs i 0 (omega arith) before (λ h. rw here refl)

pub colon_whole : (xs : List ℕ) (i : ℕ) → i ≡ length xs → ((k : ℕ) → k < i → is_colon (get_or xs k 0) ≡ false) → position_or_len is_colon xs ≡ i
colon_whole xs i e before = position_or_len_is is_colon xs i 0 (omega arith) before (λ h. absurd (omega arith))

pub ruleset colon_steps = (colon_found, colon_whole)
