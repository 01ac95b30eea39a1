-- How far a certificate was read.
use Rattle.std.specs.Prelude.{◌≡◌, ℕ, ◌+◌, ◌⊎◌, true, List, [], ◌∷◌, ◌++◌, length, map, ℤ, Option, Some, None}
use Rattle.certdef.specs.Items.{Item, line, size_line, bound_line, city_line, fits}
use Rattle.certdef.specs.Proofs.{city_item, ended}
use Rattle.certdef.specs.Accepted.{duals_from}
use Rattle.onetree.specs.Certificates.{title, said, AreRising, IsNoCertificate, IsOfOtherSize}
use Rattle.onetree.specs.declared.heading.Stop.{Stop}
use Rattle.onetree.specs.declared.heading.Stop.TheVariants as stops

-- the text begins with the line of this item, and goes on so
abbrev pub BeginsWith : ℕ → List ℕ → Item → List ℕ → Type 0
BeginsWith n text x rest = (text ≡ ended (line x) ++ rest) × (fits n x ≡ true)

-- a title, the number of cities and a bound stand in front of the rest
pub record HasHead (n : ℕ) (bytes : List ℕ) (b : ℕ) (rest : List ℕ) : Type 0 where
  pub whole : bytes ≡ ended title ++ (ended (line (size_line n)) ++ (ended (line (bound_line b)) ++ rest))
  pub size : fits n (size_line n) ≡ true
  pub bound : fits n (bound_line b) ≡ true

-- why the lines before the duals are refused
abbrev pub IsStop : ℕ → List ℕ → Stop → Type 0
IsStop n bytes stops.NoMemory = Unit {0}
IsStop n bytes (stops.Refused k at) = ((k ≡ 1) × IsNoCertificate n bytes at) ⊎ ((k ≡ 2) × (at ≡ 2) × IsOfOtherSize n bytes)

-- the whole text says these duals
pub record SaysDuals (n : ℕ) (text : List ℕ) (p : List ℤ) : Type 0 where
  pub said_duals : List (ℕ × ℤ)
  pub whole : text ≡ said (map city_item said_duals)
  pub rising : AreRising n said_duals
  pub duals : p ≡ duals_from said_duals 1 n

-- behind some lines of duals stands a line that may not stand there; the first one is line 4
pub record StopsDuals (n : ℕ) (text : List ℕ) (at : ℕ) : Type 0 where
  pub said_duals : List (ℕ × ℤ)
  pub rest : List ℕ
  pub whole : text ≡ said (map city_item said_duals) ++ rest
  pub rising : AreRising n said_duals
  pub place : at ≡ length said_duals + 4
  pub stuck : (v : ℕ) (y : ℤ) (more : List ℕ) → BeginsWith n rest (city_line v y) more → AreRising n (said_duals ++ (v, y) ∷ []) → ⊥
  pub some : rest ≡ [] → ⊥

abbrev pub ReadsDuals : ℕ → List ℕ → List ℤ → Option ℕ → Type 0
ReadsDuals n text p None = SaysDuals n text p
ReadsDuals n text p (Some at) = StopsDuals n text at

-- the least city that may come next, where cities rise
abbrev pub next_city : ℕ → List (ℕ × ℤ) → ℕ
next_city from [] = from
next_city from (p ∷ ps) = next_city (p.0 + 1) ps
