-- Entries of a table, read in their order.
use Rattle.std.proofs.Common.{◌≡◌, ℕ, zero, suc, ◌+◌, ◌<◌, List, [], ◌∷◌, ◌++◌, map, Result, Ok, Err, refl, ◌∙◌, arith}
use Rattle.std.specs.List.{range_with_len, flat_map}
use Rattle.tspinst.specs.declared.refusals.Refusal.{Refusal}
use Rattle.tspinst.specs.declared.keywords.Format.{Format}
use Rattle.tspinst.specs.Headers.{Token}
use Rattle.tspinst.specs.Sections.{entry_read, entries_read, entries, row, ◌>>=◌}

module _ (format : Format) (n : ℕ) where
  pub entries_done : (places : List (ℕ × ℕ)) (table : List ℕ) (ts : List Token) → places ≡ [] → entries_read format n places table ts ≡ Ok (table, ts)
  unfolding entries_read
  entries_done places table ts e = rw e refl

  onward : (places more : List (ℕ × ℕ)) (r : Result (List ℕ × List Token) Refusal) → ((x : List ℕ × List Token) → entries_read format n (places ++ more) x.0 x.1 ≡ (entries_read format n places x.0 x.1 >>= λ y. entries_read format n more y.0 y.1)) → (r >>= λ x. entries_read format n (places ++ more) x.0 x.1) ≡ ((r >>= λ x. entries_read format n places x.0 x.1) >>= λ y. entries_read format n more y.0 y.1)
  onward places more (Ok x) h = h x
  onward places more (Err e) h = refl

  pub entries_append : (places more : List (ℕ × ℕ)) (table : List ℕ) (ts : List Token) → entries_read format n (places ++ more) table ts ≡ (entries_read format n places table ts >>= λ x. entries_read format n more x.0 x.1)
  unfolding entries_read
  entries_append [] more table ts = refl
  entries_append (place ∷ places) more table ts = onward places more (entry_read format n place table ts) (λ x. entries_append places more x.0 x.1)

  -- the entries of a row from column j on
  abbrev pub in_row : ℕ → ℕ → ℕ → List (ℕ × ℕ)
  in_row i j m = map (λ k. (i, k)) (range_with_len j m)

  pub row_step : (i j m k : ℕ) (table : List ℕ) (ts : List Token) (x : List ℕ × List Token) → m ≡ k + 1 → entry_read format n (i, j) table ts ≡ Ok x → entries_read format n (in_row i j m) table ts ≡ entries_read format n (in_row i (j + 1) k) x.0 x.1
  unfolding entries_read
  row_step i j zero k table ts x l e = absurd (omega arith)
  row_step i j (suc m) k table ts x l e = let same : m ≡ k = omega arith in rw (e, same) refl

  pub row_stop : (i j m : ℕ) (table : List ℕ) (ts : List Token) (r : Refusal) → 0 < m → entry_read format n (i, j) table ts ≡ Err r → entries_read format n (in_row i j m) table ts ≡ Err r
  unfolding entries_read
  row_stop i j zero table ts r l e = absurd (omega arith)
  row_stop i j (suc m) table ts r l e = rw e refl

  pub row_done : (i j m : ℕ) (table : List ℕ) (ts : List Token) → m ≡ 0 → entries_read format n (in_row i j m) table ts ≡ Ok (table, ts)
  unfolding entries_read
  row_done i j m table ts e = rw e refl

  -- the entries of m rows from row i on
  abbrev pub in_rows : ℕ → ℕ → List (ℕ × ℕ)
  in_rows i m = flat_map (row format n) (range_with_len i m)

  pub rows_step : (i m k : ℕ) (table : List ℕ) (ts : List Token) (x : List ℕ × List Token) → m ≡ k + 1 → entries_read format n (row format n i) table ts ≡ Ok x → entries_read format n (in_rows i m) table ts ≡ entries_read format n (in_rows (i + 1) k) x.0 x.1
  rows_step i zero k table ts x l e = absurd (omega arith)
  rows_step i (suc m) k table ts x l e =
      let same : m ≡ k = omega arith in
      entries_append (row format n i) (in_rows (i + 1) m) table ts ∙ rw (e, same) refl

  pub rows_stop : (i m : ℕ) (table : List ℕ) (ts : List Token) (r : Refusal) → 0 < m → entries_read format n (row format n i) table ts ≡ Err r → entries_read format n (in_rows i m) table ts ≡ Err r
  rows_stop i zero table ts r l e = absurd (omega arith)
  rows_stop i (suc m) table ts r l e = entries_append (row format n i) (in_rows (i + 1) m) table ts ∙ rw e refl

  pub rows_done : (i m : ℕ) (table : List ℕ) (ts : List Token) → m ≡ 0 → entries_read format n (in_rows i m) table ts ≡ Ok (table, ts)
  unfolding entries_read
  rows_done i m table ts e = rw e refl

  pub all_rows : entries format n ≡ in_rows 0 n
  unfolding entries
  all_rows = refl

pub ruleset entry_steps = (row_step, row_stop, row_done)

pub ruleset row_steps = (rows_step, rows_stop, rows_done, all_rows)
