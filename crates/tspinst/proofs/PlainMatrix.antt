-- The plain text of an instance's table.
use Rattle.std.proofs.Common.{◌≡◌, ℕ, zero, suc, ◌+◌, ◌-◌, ◌*◌, ◌/◌, ◌%◌, ◌^◌, ◌<◌, ◌≤◌, ◌⊎◌, inl, inr, true, false, eqb, ltb, leb, List, [], ◌∷◌, ◌++◌, length, get_or, set, map, replicate, codes, decimal, Some, Ok, Result, refl, sym, ap, ◌∙◌, subst, arith, rules}
use Rattle.std.specs.List.{range_with_len}
use Rattle.std.proofs.lemmas.Bool.{ne_eqb}
use Rattle.std.proofs.lemmas.Bool.Decides.{nat_tests}
use Rattle.std.proofs.lemmas.Nat.{mul-add-lt, same_from_place, div_below, div-add-mod', mod_below}
use Rattle.tspdef.specs.Instances.{Instance, IsInstance}
use Rattle.tsplex.specs.Number.{whole_of}
use Rattle.tsplex.specs.Text.{tokens, tokens_from}
use Rattle.tsplex.proofs.PlainLemmas.{plain_number}
use Rattle.tsplex.proofs.TextLemmas.{tokens_line}
use Rattle.tspinst.specs.declared.keywords.Keyword.TheVariants as keywords
use Rattle.tspinst.specs.declared.keywords.WeightType.TheVariants.{Explicit}
use Rattle.tspinst.specs.declared.keywords.Format.TheVariants.{Full}
use Rattle.tspinst.specs.Headers.{Token}
use Rattle.tspinst.specs.Tables.{IsTable, put}
use Rattle.tspinst.specs.Sections.{entry_read, entries_read, weights_read}
use Rattle.tspinst.specs.Texts.{Said, nothing_said, edge_weights, said, keyword_line, line, lines}
use Rattle.tspinst.specs.Plain.{IsLine, header, word_line, row_line, row_lines, plain_matrix, PlainMatricesAreRead}
use Rattle.tspinst.proofs.FillLemmas.{same_places, some_row}
use Rattle.tspinst.proofs.LineLemmas.{lines_step, lines_none}
use Rattle.tspinst.proofs.PlainLines.{number_word, spaced, ended, header_line, header_read, next_line, sized, front_read}
use Rattle.tspinst.proofs.Shrinking.{outcome_short}
use Rattle.tspinst.proofs.TableLemmas.{two_writes, same_eqb, put_table, zeros_table}
use Rattle.tspinst.proofs.WeightLemmas.{row_step, row_done, in_row, rows_step, rows_done, in_rows, all_rows}

order : (i j : ℕ) → (i < j) ⊎ ((i ≡ j) ⊎ (j < i))
order i j = grind (arith, nat_tests)

module _ (t : Instance) (whole : IsInstance t) where
  abbrev pub entry : ℕ → ℕ → ℕ
  entry i j = get_or t.table (i * t.n + j) 0

  -- ---- the words of a row

  abbrev row_tokens : ℕ → ℕ → ℕ → ℕ → List Token
  row_tokens k i j m = map (λ c. (k, decimal (entry i c))) (range_with_len j m)

  row_words : (k i j m : ℕ) (rest : List ℕ) → tokens_from k (row_line t i j m rest) ≡ row_tokens k i j m ++ tokens_from (k + 1) rest
  unfolding row_line
  row_words k i j zero rest = tokens_line k 10 rest refl
  row_words k i j (suc m) rest =
      let w = number_word (entry i j) (omega (arith, whole.small (i * t.n + j))) in
      spaced k (decimal (entry i j)) (row_line t i (j + 1) m rest) w.0 w.1
      ∙ ap (λ (ts : List Token). (k, decimal (entry i j)) ∷ ts) (row_words k i (j + 1) m rest)

  -- ---- what was read of the table so far

  -- a table with the entries above the diagonal of the rows before i, and of row i before column j
  record Holds (table : List ℕ) (i j : ℕ) : Type 0 where
    is_table : IsTable t.n table
    upper : (a b : ℕ) → a < b → b < t.n → (a < i) ⊎ ((a ≡ i) × (b < j)) → get_or table (a * t.n + b) 0 ≡ entry a b

  weight_plain : (w : ℕ) → w < 2 ^ 30 → whole_of (decimal w) (2 ^ 30 - 1) ≡ Ok (Rattle.std.proofs.Common.pos w)
  weight_plain w l = plain_number w (2 ^ 30 - 1) (omega arith) (omega arith)

  on_diagonal : (table : List ℕ) (k i j : ℕ) (ts : List Token) → i ≡ j → entry_read Full t.n (i, j) table ((k, decimal (entry i j)) ∷ ts) ≡ Ok (table, ts)
  unfolding entry_read
  on_diagonal table k i j ts e = rw (e, same_eqb j) refl

  below_diagonal : (table : List ℕ) (k i j : ℕ) (ts : List Token) → Holds table i j → j < i → i < t.n → entry_read Full t.n (i, j) table ((k, decimal (entry i j)) ∷ ts) ≡ Ok (table, ts)
  unfolding entry_read
  below_diagonal table k i j ts h l li =
      let apart : eqb i j ≡ false = ne_eqb i j (λ e. omega arith) in
      let under : ltb j i ≡ true = grind (arith, nat_tests) in
      let same : get_or table (j * t.n + i) 0 ≡ entry i j = h.upper j i l li (inl l) ∙ whole.symmetric j i (omega arith) li in
      rw (apart, weight_plain (entry i j) (whole.small (i * t.n + j)), under, same, same_eqb (entry i j)) refl

  above_diagonal : (table : List ℕ) (k i j : ℕ) (ts : List Token) → i < j → entry_read Full t.n (i, j) table ((k, decimal (entry i j)) ∷ ts) ≡ Ok (put t.n table i j (entry i j), ts)
  unfolding entry_read
  above_diagonal table k i j ts l =
      let apart : eqb i j ≡ false = ne_eqb i j (λ e. omega arith) in
      let over : ltb j i ≡ false = grind (arith, nat_tests) in
      rw (apart, weight_plain (entry i j) (whole.small (i * t.n + j)), over) refl

  -- one column more changes nothing where it is not above the diagonal
  not_above : (table : List ℕ) (i j : ℕ) → Holds table i j → j ≤ i → Holds table i (j + 1)
  not_above table i j h l = record {
    is_table = h.is_table;
    upper = λ a b lab lb before. h.upper a b lab lb (narrower a b lab before);
  }
    where
      narrower : (a b : ℕ) → a < b → (a < i) ⊎ ((a ≡ i) × (b < j + 1)) → (a < i) ⊎ ((a ≡ i) × (b < j))
      narrower a b lab (inl x) = inl x
      narrower a b lab (inr x) = inr (x.0, omega (arith, x.0, x.1))

  put_holds : (table : List ℕ) (i j : ℕ) → Holds table i j → i < j → j < t.n → Holds (put t.n table i j (entry i j)) i (j + 1)
  put_holds table i j h l lj = record {
    is_table = put_table t.n table i j (entry i j) h.is_table (omega arith) lj (λ e. omega arith) (whole.small (i * t.n + j));
    upper = λ a b lab lb before. at a b lab lb before;
  }
    where
      lx : i * t.n + j < length table
      lx = rw h.is_table.square (mul-add-lt i t.n j t.n (omega arith) lj)

      ly : j * t.n + i < length table
      ly = rw h.is_table.square (mul-add-lt j t.n i t.n lj (omega arith))

      not_here : (a b : ℕ) → a ≡ i → b ≡ j → (a < i) ⊎ ((a ≡ i) × (b < j)) → ⊥
      not_here a b e f (inl x) = omega arith
      not_here a b e f (inr x) = omega (arith, x.1)

      last : (b : ℕ) → b < j + 1 → (b < j) ⊎ (b ≡ j)
      last b l = grind (arith, nat_tests)

      other : (a b : ℕ) → a < b → b < t.n → (a < i) ⊎ ((a ≡ i) × (b < j)) → get_or (put t.n table i j (entry i j)) (a * t.n + b) 0 ≡ entry a b
      other a b lab lb before =
          let x : eqb (a * t.n + b) (j * t.n + i) ≡ false = ne_eqb _ _ (λ e. let p = same_from_place a b j i t.n lb (omega arith) e in omega (arith, p.0, p.1)) in
          let y : eqb (a * t.n + b) (i * t.n + j) ≡ false = ne_eqb _ _ (λ e. let p = same_from_place a b i j t.n lb lj e in not_here a b p.0 p.1 before) in
          two_writes table (i * t.n + j) (j * t.n + i) (entry i j) (a * t.n + b) lx ly ∙ rw (x, y) (h.upper a b lab lb before)

      here : get_or (put t.n table i j (entry i j)) (i * t.n + j) 0 ≡ entry i j
      here =
          let x : eqb (i * t.n + j) (j * t.n + i) ≡ false = ne_eqb _ _ (λ e. let p = same_from_place i j j i t.n lj (omega arith) e in omega (arith, p.0)) in
          two_writes table (i * t.n + j) (j * t.n + i) (entry i j) (i * t.n + j) lx ly ∙ rw (x, same_eqb (i * t.n + j)) refl

      at : (a b : ℕ) → a < b → b < t.n → (a < i) ⊎ ((a ≡ i) × (b < j + 1)) → get_or (put t.n table i j (entry i j)) (a * t.n + b) 0 ≡ entry a b
      at a b lab lb (inl x) = other a b lab lb (inl x)
      at a b lab lb (inr x) = elim (last b x.1) [ inl before ↦ other a b lab lb (inr (x.0, before)) | inr same ↦ rw (x.0, same) here ]

  -- ---- reading entries

  -- what reading gives is a table that holds more
  record Reads (i j : ℕ) (ts : List Token) (read : Result (List ℕ × List Token) Rattle.tspinst.specs.declared.refusals.Refusal.Refusal) : Type 0 where
    table : List ℕ
    is_read : read ≡ Ok (table, ts)
    holds : Holds table i j

  entry_reads : (table : List ℕ) (k i j : ℕ) (ts : List Token) → Holds table i j → i < t.n → j < t.n → Reads i (j + 1) ts (entry_read Full t.n (i, j) table ((k, decimal (entry i j)) ∷ ts))
  entry_reads table k i j ts h li lj = elim (order i j) [
    | inl above ↦ record { table = put t.n table i j (entry i j); is_read = above_diagonal table k i j ts above; holds = put_holds table i j h above lj }
    | inr rest ↦ elim rest [
      | inl on ↦ record { table = table; is_read = on_diagonal table k i j ts on; holds = not_above table i j h (omega arith) }
      | inr below ↦ record { table = table; is_read = below_diagonal table k i j ts h below li; holds = not_above table i j h (omega arith) }
    ]
  ]

  row_reads : (m k i j : ℕ) (table : List ℕ) (ts : List Token) → Holds table i j → i < t.n → j + m ≡ t.n → Reads i t.n ts (entries_read Full t.n (in_row Full t.n i j m) table (row_tokens k i j m ++ ts))
  row_reads zero k i j table ts h li e = record {
    table = table;
    is_read = row_done Full t.n i j 0 table ts refl;
    holds = (let same : j ≡ t.n = omega arith in subst (λ c. Holds table i c) same h);
  }
  row_reads (suc m) k i j table ts h li e =
      let first = entry_reads table k i j (row_tokens k i (j + 1) m ++ ts) h li (omega arith) in
      let more = row_reads m k i (j + 1) first.table ts first.holds li (omega arith) in
      record {
        table = more.table;
        is_read = row_step Full t.n i j (suc m) m table _ (first.table, row_tokens k i (j + 1) m ++ ts) (omega arith) first.is_read ∙ more.is_read;
        holds = more.holds;
      }

  next_row : (table : List ℕ) (i : ℕ) → Holds table i t.n → Holds table (i + 1) 0
  next_row table i h = record { is_table = h.is_table; upper = λ a b lab lb before. h.upper a b lab lb (narrower a b lb before) }
    where
      last : (a b : ℕ) → b < t.n → a < i + 1 → (a < i) ⊎ ((a ≡ i) × (b < t.n))
      last a b lb x = elim (order a i) [ inl less ↦ inl less | inr rest ↦ elim rest [ inl same ↦ inr (same, lb) | inr more ↦ absurd (omega arith) ] ]

      narrower : (a b : ℕ) → b < t.n → (a < i + 1) ⊎ ((a ≡ i + 1) × (b < 0)) → (a < i) ⊎ ((a ≡ i) × (b < t.n))
      narrower a b lb (inl x) = last a b lb x
      narrower a b lb (inr x) = absurd (omega (arith, x.1))

  rows_read : (m k i : ℕ) (table : List ℕ) (rest : List ℕ) → Holds table i 0 → i + m ≡ t.n → Reads t.n 0 (tokens_from (k + m) rest) (entries_read Full t.n (in_rows Full t.n i m) table (tokens_from k (row_lines t i m rest)))
  unfolding row_lines
  rows_read zero k i table rest h e = record {
    table = table;
    is_read = rows_done Full t.n i 0 table (tokens_from k rest) refl ∙ ap (λ j. Ok (table, tokens_from j rest)) (omega arith);
    holds = (let same : i ≡ t.n = omega arith in subst (λ c. Holds table c 0) same h);
  }
  rows_read (suc m) k i table rest h e =
      let behind : List ℕ = row_lines t (i + 1) m rest in
      let first = row_reads t.n k i 0 table (tokens_from (k + 1) behind) h (omega arith) (omega arith) in
      let more = rows_read m (k + 1) (i + 1) first.table rest (next_row first.table i first.holds) (omega arith) in
      record {
        table = more.table;
        is_read = ap (entries_read Full t.n (in_rows Full t.n i (suc m)) table) (row_words k i 0 t.n behind)
            ∙ rows_step Full t.n i (suc m) m table _ (first.table, tokens_from (k + 1) behind) (omega arith) first.is_read
            ∙ more.is_read ∙ ap (λ j. Ok (more.table, tokens_from j rest)) (omega arith);
        holds = more.holds;
      }

  -- ---- the whole table

  all_entries : (table : List ℕ) → Holds table t.n 0 → (a b : ℕ) → a < t.n → b < t.n → get_or table (a * t.n + b) 0 ≡ entry a b
  all_entries table h a b la lb = elim (order a b) [
    | inl above ↦ h.upper a b above lb (inl la)
    | inr rest ↦ elim rest [
      | inl on ↦ rw on (h.is_table.at_home b lb ∙ sym (whole.at_home b lb))
      | inr below ↦ h.is_table.symmetric a b la lb ∙ h.upper b a below la (inl lb) ∙ whole.symmetric b a lb la
    ]
  ]

  whole_table : (table : List ℕ) → Holds table t.n 0 → table ≡ t.table
  whole_table table h = same_places table t.table (h.is_table.square ∙ sym whole.square) (λ k l.
      let within : k < t.n * t.n = omega (arith, h.is_table.square) in
      let some : 0 < t.n = some_row t.n k within in
      let place : k / t.n * t.n + k % t.n ≡ k = div-add-mod' k t.n in
      ap (λ x. get_or table x 0) (sym place)
      ∙ all_entries table h (k / t.n) (k % t.n) (div_below k t.n t.n some within) (mod_below k t.n some)
      ∙ ap (λ x. get_or t.table x 0) place)

  nothing_held : Holds (replicate (t.n * t.n) 0) 0 0
  nothing_held = record {
    is_table = zeros_table t.n _ whole.many whole.few refl;
    upper = λ a b lab lb before. elim before [ inl x ↦ absurd (omega arith) | inr x ↦ absurd (omega (arith, x.1)) ];
  }

  pub weights_plain : (k : ℕ) (rest : List ℕ) → weights_read Full t.n (tokens_from k (row_lines t 0 t.n rest)) ≡ Ok (t.table, tokens_from (k + t.n) rest)
  unfolding weights_read
  weights_plain k rest =
      let read = rows_read t.n k 0 (replicate (t.n * t.n) 0) rest nothing_held (omega arith) in
      ap (λ places. entries_read Full t.n places (replicate (t.n * t.n) 0) (tokens_from k (row_lines t 0 t.n rest))) (all_rows Full t.n)
      ∙ read.is_read ∙ ap (λ (table : List ℕ). Ok (table, tokens_from (k + t.n) rest)) (whole_table read.table read.holds)

-- ---- the text

explicit : ℕ → Said
explicit n = record (sized n) { seen = set (sized n).seen 4 true; weight_type = Some Explicit }

formatted : ℕ → Said
formatted n = record (sized n) { seen = set (set (sized n).seen 4 true) 5 true; weight_type = Some Explicit; format = Some Full }

weighed : Instance → Said
weighed t = record (sized t.n) { seen = set (set (set (sized t.n).seen 4 true) 5 true) 9 true; weight_type = Some Explicit; format = Some Full; instance = Some t }

weight_type_read : (n : ℕ) (rest : List ℕ) → line (sized n) 4 (codes "EDGE_WEIGHT_TYPE") ((4, 58 ∷ []) ∷ (4, codes "EXPLICIT") ∷ tokens_from 5 rest) ≡ Ok (explicit n, tokens_from 5 rest)
unfolding explicit keyword_line said
weight_type_read n rest = header_read (sized n) 4 (codes "EDGE_WEIGHT_TYPE") (codes "EXPLICIT") rest keywords.EdgeWeightType refl refl ∙ refl

format_read : (n : ℕ) (rest : List ℕ) → line (explicit n) 5 (codes "EDGE_WEIGHT_FORMAT") ((5, 58 ∷ []) ∷ (5, codes "FULL_MATRIX") ∷ tokens_from 6 rest) ≡ Ok (formatted n, tokens_from 6 rest)
unfolding explicit formatted keyword_line said
format_read n rest = header_read (explicit n) 5 (codes "EDGE_WEIGHT_FORMAT") (codes "FULL_MATRIX") rest keywords.EdgeWeightFormat refl refl ∙ refl

section_read : (t : Instance) (rest : List ℕ) (ts : List Token) → t.fixed ≡ [] → weights_read Full t.n (tokens_from 7 rest) ≡ Ok (t.table, ts) → line (formatted t.n) 6 (codes "EDGE_WEIGHT_SECTION") (tokens_from 7 rest) ≡ Ok (weighed t, ts)
unfolding formatted weighed keyword_line said edge_weights
section_read t rest ts none e = rw (next_line 6 rest) (rw (e, none) refl)

bare : (t : Instance) → t.fixed ≡ [] → ◌≡◌ {A = Result Instance Rattle.tspinst.specs.declared.refusals.Refusal.Refusal} (Ok (record { n = t.n; table = t.table; fixed = [] })) (Ok t)
bare t none = ap (λ (f : List (ℕ × ℕ)). let j : Instance = record { n = t.n; table = t.table; fixed = f } in the j) (sym none)
  where
    the : Instance → Result Instance Rattle.tspinst.specs.declared.refusals.Refusal.Refusal
    the j = Ok j

eof_read : (k m : ℕ) (t : Instance) (ts : List Token) → lines (1 + m) (weighed t) ((k, codes "EOF") ∷ ts) ≡ Ok (record { n = t.n; table = t.table; fixed = [] })
unfolding weighed keyword_line said
eof_read k m t ts =
    lines_step (1 + m) m (weighed t) ((k, codes "EOF") ∷ ts) ts (k, codes "EOF") (record (weighed t) { seen = set (weighed t).seen 12 true }, []) (omega arith) refl refl
    ∙ lines_none m (record (weighed t) { seen = set (weighed t).seen 12 true }) [] refl ∙ refl

matrix_lines : (m : ℕ) (name : List ℕ) (t : Instance) → IsLine name → IsInstance t → t.fixed ≡ [] → lines (7 + m) nothing_said (tokens (plain_matrix name t)) ≡ Ok t
matrix_lines m name t h whole none =
    let eof : List ℕ = word_line (codes "EOF") [] in
    let rows : List ℕ = row_lines t 0 t.n eof in
    let section : List ℕ = word_line (codes "EDGE_WEIGHT_SECTION") rows in
    let format : List ℕ = header (codes "EDGE_WEIGHT_FORMAT") (codes "FULL_MATRIX") section in
    front_read (7 + m) (4 + m) t.n name (header (codes "EDGE_WEIGHT_TYPE") (codes "EXPLICIT") format) (omega arith) h whole.many whole.few
    ∙ lines_step (4 + m) (3 + m) (sized t.n) _ _ (4, codes "EDGE_WEIGHT_TYPE") (explicit t.n, tokens_from 5 format) (omega arith)
    (header_line 4 (codes "EDGE_WEIGHT_TYPE") (codes "EXPLICIT") format (omega arith) (search rules) (omega arith) (search rules)) (weight_type_read t.n format)
    ∙ lines_step (3 + m) (2 + m) (explicit t.n) _ _ (5, codes "EDGE_WEIGHT_FORMAT") (formatted t.n, tokens_from 6 section) (omega arith)
    (header_line 5 (codes "EDGE_WEIGHT_FORMAT") (codes "FULL_MATRIX") section (omega arith) (search rules) (omega arith) (search rules)) (format_read t.n section)
    ∙ lines_step (2 + m) (1 + m) (formatted t.n) _ _ (6, codes "EDGE_WEIGHT_SECTION") (weighed t, tokens_from (7 + t.n) eof) (omega arith)
    (ended 6 (codes "EDGE_WEIGHT_SECTION") rows (omega arith) (search rules))
    (section_read t rows (tokens_from (7 + t.n) eof) none (weights_plain t whole 7 eof))
    ∙ ap (lines (1 + m) (weighed t)) (ended (7 + t.n) (codes "EOF") [] (omega arith) (search rules))
    ∙ eof_read (7 + t.n) m t (tokens_from (7 + t.n + 1) []) ∙ bare t none

pub plain_matrices_read : PlainMatricesAreRead
plain_matrices_read name t h whole none short =
    outcome_short (plain_matrix name t) (7 + length (tokens (plain_matrix name t))) short (omega arith)
    ∙ matrix_lines (length (tokens (plain_matrix name t))) name t h whole none
