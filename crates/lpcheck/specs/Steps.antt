-- What a step of one dual gains.
use Rattle.std.specs.Prelude.{◌≡◌, ℕ, ◌^◌, Bool, true, false, List, [], ◌∷◌, ℤ, pos, negsuc, ◌+ℤ◌, ◌-ℤ◌, ◌*ℤ◌, ◌≤ℤ◌, slice_index_or}
use Rattle.lpcheck.specs.Rows.{coef, signed, reduced, term}
use Rattle.lpcheck.specs.Rests.{IsDual}
use Rattle.lpcheck.specs.Cells.{no_column}
use Rattle.lpcheck.specs.declared.row.Sense.{Sense}
use Rattle.lpcheck.specs.declared.row.Row.{Row}
use Rattle.lpcheck.specs.declared.column.Column.{Column}
use Rattle.lpcheck.specs.declared.cells.Cell.{Cell}
use Rattle.lpcheck.specs.declared.piece.Piece.{Piece}

-- from y by 2^k, up where told so, else down
abbrev pub IsMove : Bool → ℤ → ℕ → ℤ → Type 0
IsMove true y k z = z ≡ y +ℤ pos (2 ^ k)
IsMove false y k z = z ≡ y -ℤ pos (2 ^ k)

-- what a column of reduced cost r gains where its row's signed dual rises by d
abbrev pub column_gain : Bool → ℤ → ℕ → ℤ → ℤ
column_gain must r k d = term must (r -ℤ d *ℤ pos k) -ℤ term must r

abbrev pub columns_gain : List Row → List ℤ → Row → ℤ → List Column → ℤ
columns_gain rows ys row d [] = pos 0
columns_gain rows ys row d (c ∷ cs) = column_gain c.must (reduced rows ys c) (coef row c.u c.v) d +ℤ columns_gain rows ys row d cs

-- what the lower side gains
abbrev pub gain : List Row → List ℤ → List Column → Row → ℤ → ℤ
gain rows ys cols row d = d *ℤ pos row.rhs +ℤ columns_gain rows ys row d cols

abbrev pub cell_gain : List Column → List ℤ → Cell → ℤ → ℤ
cell_gain cols rs cell d = column_gain (slice_index_or cols cell.column no_column).must (slice_index_or rs cell.column (pos 0)) cell.coef d

abbrev pub cells_gain : List Column → List ℤ → List Cell → ℤ → ℤ
cells_gain cols rs [] d = pos 0
cells_gain cols rs (cell ∷ cells) d = cell_gain cols rs cell d +ℤ cells_gain cols rs cells d

abbrev pub pieces_gain : List Piece → ℤ → ℤ
pieces_gain [] d = pos 0
pieces_gain (p ∷ ps) d = column_gain p.must p.r p.coef d +ℤ pieces_gain ps d

-- what a step of a dual from y to z gains
abbrev pub step_gain : Sense → ℕ → List Piece → ℤ → ℤ → ℤ
step_gain sense rhs ps y z = (signed sense z -ℤ signed sense y) *ℤ pos rhs +ℤ pieces_gain ps (signed sense z -ℤ signed sense y)

-- a dual, 2^61 from y at most, with what it gains
pub record IsFound (sense : Sense) (rhs : ℕ) (ps : List Piece) (y next gained : ℤ) : Type 0 where
  pub dual : IsDual sense next
  pub gains : gained ≡ step_gain sense rhs ps y next
  pub above : (y -ℤ pos (2 ^ 61)) ≤ℤ next
  pub below : next ≤ℤ (y +ℤ pos (2 ^ 61))

-- the number, or 0 where it is negative
abbrev pub room : ℤ → ℕ
room (pos n) = n
room (negsuc n) = 0
