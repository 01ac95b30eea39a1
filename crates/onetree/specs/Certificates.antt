-- The certificate of a Held-Karp bound: what it says, how it is spelled, and which bytes are accepted or refused as one.
use Rattle.std.specs.Prelude.{◌≡◌, ◌≢◌, ℕ, ◌+◌, ◌≤◌, ◌⊎◌, true, cond, ◌==◌, List, [], ◌∷◌, ◌++◌, length, map, codes, decimal, ℤ, nat_abs, ◌≤ℤ◌, ◌<ℤ◌}
use Rattle.std.specs.List.{AllByRecursion}
use Rattle.tspdef.specs.Instances.{Instance}
use Rattle.tspdef.specs.Bounds.{needed}
use Rattle.certdef.specs.Items.{Item, size_line, bound_line, line, rises, fits}
use Rattle.certdef.specs.Proofs.{city_item, ended, text_of}
use Rattle.certdef.specs.Accepted.{duals_from}
use Rattle.onetree.specs.OneTrees.{IsHeldKarp}

-- the first line
abbrev pub title : List ℕ
title = codes "TSPTREE 1"

-- what a certificate says: how many cities there are, the bound, and the duals that are not 0, of cities from 1
pub record Certificate : Type 0 where
  pub cities : ℕ
  pub bound : ℕ
  pub duals : List (ℕ × ℤ)

-- the lines behind the first
abbrev pub items : Certificate → List Item
items c = size_line c.cities ∷ bound_line c.bound ∷ map city_item c.duals

-- the lines, without the LF at the end of each
abbrev pub lines : Certificate → List (List ℕ)
lines c = title ∷ map line (items c)

-- the bytes of lines that say these items, with their ends
abbrev pub said : List Item → List ℕ
said xs = text_of (map line xs)

-- a number behind a space
abbrev pub behind_space : ℕ → List ℕ
behind_space k = 32 ∷ decimal k

-- the text of a certificate
abbrev pub text : Certificate → List ℕ
text c = text_of (lines c)

-- Of the form, for n cities: each line is within its bounds, and cities rise strictly.
pub record HasForm (n : ℕ) (c : Certificate) : Type 0 where
  pub fit : AllByRecursion (λ x. fits n x ≡ true) (items c)
  pub rise : rises 1 n (map (λ p. p.0) c.duals) ≡ true

-- Bytes are the text of a certificate of this form about n cities.
pub record IsText (n : ℕ) (bytes : List ℕ) (c : Certificate) : Type 0 where
  pub whole : bytes ≡ text c
  pub form : HasForm n c
  pub size : c.cities ≡ n

-- duals of rising cities from 1 to n, each line within its bounds
pub record AreRising (n : ℕ) (ps : List (ℕ × ℤ)) : Type 0 where
  pub fit : AllByRecursion (λ x. fits n x ≡ true) (map city_item ps)
  pub rise : rises 1 n (map (λ p. p.0) ps) ≡ true

-- the duals of n cities that a certificate says
abbrev pub duals_of : ℕ → Certificate → List ℤ
duals_of n c = duals_from c.duals 1 n

-- The value of its duals exceeds the units of the length one below the bound, so that no tour is shorter than the bound.
abbrev pub Proves : Instance → Certificate → Type 0
Proves i c = (h : ℤ) × IsHeldKarp i (duals_of i.n c) h × (needed c.bound <ℤ h)

-- it does not
abbrev pub IsWeak : Instance → Certificate → Type 0
IsWeak i c = (h : ℤ) × IsHeldKarp i (duals_of i.n c) h × (h ≤ℤ needed c.bound)

-- Bytes are accepted with a bound: they are the text of a certificate that proves it.
abbrev pub IsAccepted : Instance → List ℕ → ℕ → Type 0
IsAccepted i bytes b = (c : Certificate) × IsText i.n bytes c × (c.bound ≡ b) × Proves i c

-- ---- refusals

-- Behind the title stand lines that say the first items of some certificate about n cities. But no certificate goes on with an item that
-- the next line says, and the bytes do not end where a certificate does.
pub record StopsAt (n : ℕ) (bytes : List ℕ) (at : ℕ) : Type 0 where
  pub before : List Item
  pub rest : List ℕ
  pub whole : bytes ≡ ended title ++ (said before ++ rest)
  pub place : at ≡ length before + 2
  pub begins : (c : Certificate) × HasForm n c × (c.cities ≡ n) × ((more : List Item) × (items c ≡ before ++ more))
  pub stuck : (c : Certificate) (x : Item) (later : List Item) (more : List ℕ) → HasForm n c → rest ≡ ended (line x) ++ more → items c ≡ before ++ x ∷ later → ⊥
  pub unfinished : (c : Certificate) → HasForm n c → rest ≡ [] → items c ≡ before → ⊥

-- the bytes do not begin with the title's line
abbrev pub HasNoTitle : List ℕ → Type 0
HasNoTitle bytes = (rest : List ℕ) → bytes ≡ ended title ++ rest → ⊥

-- no certificate: this is the first line that cannot be one's
abbrev pub IsNoCertificate : ℕ → List ℕ → ℕ → Type 0
IsNoCertificate n bytes at = ((at ≡ 1) × HasNoTitle bytes) ⊎ StopsAt n bytes at

-- the second line tells another number of cities
abbrev pub IsOfOtherSize : ℕ → List ℕ → Type 0
IsOfOtherSize n bytes = (m : ℕ) × ((rest : List ℕ) × (fits n (size_line m) ≡ true) × (m ≢ n) × (bytes ≡ ended title ++ (ended (line (size_line m)) ++ rest)))

-- the text of a certificate whose duals do not prove its bound
abbrev pub IsWeakText : Instance → List ℕ → Type 0
IsWeakText i bytes = (c : Certificate) × IsText i.n bytes c × IsWeak i c

-- Bytes are refused with this number at this line: 1 no certificate, 2 another number of cities, 7 a bound that is not proved.
abbrev pub IsRefused : Instance → List ℕ → ℕ → ℕ → Type 0
IsRefused i bytes k at = ((k ≡ 1) × IsNoCertificate i.n bytes at) ⊎ (((k ≡ 2) × (at ≡ 2) × IsOfOtherSize i.n bytes) ⊎ ((k ≡ 7) × (at ≡ 3) × IsWeakText i bytes))

-- ---- what is written

-- the duals that are not 0, with their cities, the first of which is v
abbrev pub written_duals : ℕ → List ℤ → List (ℕ × ℤ)
written_duals v [] = []
written_duals v (y ∷ ys) = cond (nat_abs y == 0) (written_duals (v + 1) ys) ((v, y) ∷ written_duals (v + 1) ys)

-- the certificate of some duals with a bound
abbrev pub certificate_of : List ℤ → ℕ → Certificate
certificate_of p b = record { cities = length p; bound = b; duals = written_duals 1 p }

-- the greatest bound that some duals prove
pub record IsBoundOf (i : Instance) (p : List ℤ) (b : ℕ) : Type 0 where
  pub value : ℤ
  pub value_is : IsHeldKarp i p value
  pub proved : needed b <ℤ value
  pub greatest : (a : ℕ) → needed a <ℤ value → a ≤ b
