-- The parts of a body, put together.
use Rattle.std.proofs.Common.{◌≡◌, ℕ, List, [], ◌∷◌, ◌++◌, length, map, sym, ◌∙◌, ap, arith, ⊎_elim, length-append, append_assoc}
use Rattle.std.specs.Prelude.{reverse}
use Rattle.std.specs.List.{flat_map}
use Rattle.std.proofs.lemmas.List.{append-nil, length-map, length-reverse}
use Rattle.std.proofs.lemmas.List.Folds.{flat_map-map}
use Rattle.tspdef.specs.Cuts.{Cut}
use Rattle.tspdef.specs.Tours.{IsTurned, IsCanonicalForm}
use Rattle.tspdef.specs.Instances.{Instance, length_in}
use Rattle.tspdef.specs.Trees.{Tree}
use Rattle.treebook.specs.Tables.{Node, tree_of}
use Rattle.certdef.specs.Items.{Item, tour_line, cuts_line}
use Rattle.certdef.specs.Proofs.{listed_items, tree_items, head_items, text}
use Rattle.certform.specs.Written.{from_one, listed, used_cuts, written_tree, told, written, IsBody}
use Rattle.certform.specs.Lines.{said, cut_items}
use Rattle.certform.specs.Walks.{IsPreorder, node_cuts, node_items}
use Rattle.certform.proofs.LineLemmas.{said-append}
use Rattle.certform.proofs.Walking.{cuts_in_preorder, items_in_preorder}

-- ---- a canonical form is as long as its tour

turned_length : (tour other : List ℕ) → IsTurned tour other → length other ≡ length tour
turned_length tour other h =
    let x = length-append h.0 h.1 in let y = length-append h.1 h.0 in let e = ap length h.2 in let f = ap length h.3 in omega arith

pub form_length : (tour form : List ℕ) → IsCanonicalForm tour form → length form ≡ length tour
form_length tour form h = ⊎_elim (λ a. turned_length tour form a) (λ b. turned_length (reverse tour) form b ∙ length-reverse tour) h.same

-- ---- the parts

abbrev pub head : ℕ → List ℕ → ℕ → ℕ → List Item
head n form l b = head_items n l (told l b) ++ tour_line (from_one form) ∷ []

put_together : (h : List Item) (t c : Item) (a : List Item) → ((h ++ t ∷ []) ++ c ∷ []) ++ a ≡ h ++ (t ∷ c ∷ a)
put_together h t c a = ap (λ r. r ++ a) (append_assoc h (t ∷ []) (c ∷ [])) ∙ append_assoc h (t ∷ c ∷ []) a

parts : (n l b : ℕ) (form : List ℕ) (t : Tree) → said (head n form l b) ++ said (cuts_line (length (used_cuts t)) ∷ []) ++ said (flat_map cut_items (used_cuts t)) ++ said (tree_items (written_tree (used_cuts t) t) ++ [])
    ≡ text (written n form l b t)
parts n l b form t =
    let cs = used_cuts t in
    let h = head n form l b in
    let c = cuts_line (length cs) ∷ [] in
    let a = flat_map cut_items cs in
    let ts = tree_items (written_tree cs t) in
    let k : ◌≡◌ {A = List Item} (cuts_line (length cs) ∷ []) (cuts_line (length (map listed cs)) ∷ []) = ap (λ x. cuts_line x ∷ []) (sym (length-map cs listed)) in
    ap (λ r. (r ++ said a) ++ said (ts ++ [])) (sym (said-append h c))
    ∙ ap (λ r. r ++ said (ts ++ [])) (sym (said-append (h ++ c) a))
    ∙ ap (λ r. said ((h ++ c) ++ a) ++ said r) (append-nil ts)
    ∙ sym (said-append ((h ++ c) ++ a) ts)
    ∙ ap (λ r. said (((h ++ r) ++ a) ++ ts)) k
    ∙ ap (λ r. said (((h ++ (cuts_line (length (map listed cs)) ∷ [])) ++ r) ++ ts)) (sym (flat_map-map listed_items listed cs))
    ∙ ap (λ r. said (r ++ ts)) (put_together (head_items n l (told l b)) (tour_line (from_one form)) (cuts_line (length (map listed cs))) (flat_map listed_items (map listed cs)))

pub body_is : (n l b count : ℕ) (form : List ℕ) (keys : List Cut) (nodes : List Node) (order : List ℕ) → IsPreorder nodes order (tree_of nodes ∷ []) → keys ≡ node_cuts nodes order → count ≡ length keys
    → said (head n form l b) ++ said (cuts_line count ∷ []) ++ said (flat_map cut_items keys) ++ said (node_items keys nodes order) ≡ text (written n form l b (tree_of nodes))
body_is n l b count form keys nodes order p e k =
    let t = tree_of nodes in
    let u : keys ≡ used_cuts t = e ∙ cuts_in_preorder nodes order (t ∷ []) [] p in
    let s = items_in_preorder (used_cuts t) nodes order (t ∷ []) p in
    ap (λ c. said (head n form l b) ++ said (cuts_line c ∷ []) ++ said (flat_map cut_items keys) ++ said (node_items keys nodes order)) k
    ∙ ap (λ cs. said (head n form l b) ++ said (cuts_line (length cs) ∷ []) ++ said (flat_map cut_items cs) ++ said (node_items cs nodes order)) u
    ∙ ap (λ xs. said (head n form l b) ++ said (cuts_line (length (used_cuts t)) ∷ []) ++ said (flat_map cut_items (used_cuts t)) ++ said xs) s
    ∙ parts n l b form t

pub body_puts : (i : Instance) (tour form : List ℕ) (keys : List Cut) (nodes : List Node) (order p q : List ℕ) (count bound : ℕ) (o a b c d : List ℕ) → IsPreorder nodes order (tree_of nodes ∷ [])
    → p ≡ order → q ≡ order → keys ≡ node_cuts nodes p → count ≡ length keys → IsCanonicalForm tour form
    → o ≡ [] → a ≡ o ++ said (head i.n form (length_in i form) bound) → b ≡ a ++ said (cuts_line count ∷ []) → c ≡ b ++ said (flat_map cut_items keys) → d ≡ c ++ said (node_items keys nodes q)
    → IsBody i tour bound (tree_of nodes) d
body_puts i tour form keys nodes order p q count bound o a b c d walk e f k n canonical g h s t u = (
  form,
  canonical,
  u ∙ ap (λ ks. c ++ said (node_items keys nodes ks)) f
      ∙ ap (λ r. r ++ said (node_items keys nodes order)) (t ∙ ap (λ r. r ++ said (flat_map cut_items keys)) (s ∙ ap (λ r. r ++ said (cuts_line count ∷ [])) (h ∙ ap (λ r. r ++ said (head i.n form (length_in i form) bound)) g)))
      ∙ body_is i.n (length_in i form) bound count form keys nodes order walk (k ∙ ap (node_cuts nodes) e) n,
)
