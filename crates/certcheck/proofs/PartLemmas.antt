-- Parts as they are kept.
use Rattle.std.proofs.Common.{◌≡◌, ◌+◌, ◌≤◌, Bool, true, false, List, [], ◌∷◌, ◌++◌, length, length-append, map, refl, sym, ap, ◌∙◌, arith}
use Rattle.std.proofs.lemmas.List.{map-append}
use Rattle.std.proofs.lemmas.Bool.{false≢true}
use Rattle.verdict.specs.Parts as defs
use Rattle.certcheck.specs.declared.part.Part.{Part}
use Rattle.certcheck.specs.Parts.{part_of, parts_of}
use Rattle.certcheck.specs.Keeping.{Kept}

length_parts : (ps : List Part) → length (parts_of ps) ≡ length ps
length_parts [] = refl
length_parts (p ∷ ps) = let r = length_parts ps in omega arith

-- one more part
pub one_kept : (ps qs : List Part) (full : Bool) (p : Part) (said : List defs.Part) → qs ≡ ps ++ p ∷ [] → Kept ps full said → Kept qs full (said ++ part_of p ∷ [])
one_kept ps qs full p said e k =
    let len = length-append said (part_of p ∷ []) in
    record {
      all = λ f. ap parts_of e ∙ (map-append part_of ps (p ∷ []) ∙ ap (λ xs. xs ++ part_of p ∷ []) (k.all f));
      over = λ f. let h = k.over f in omega arith;
    }

either_over : (b : Bool) (ps : List Part) (said : List defs.Part) → 1048577 ≤ length ps → Kept ps b said → 1048577 ≤ length said
either_over true ps said l k = let h = k.over refl in omega arith
either_over false ps said l k = let same = ap length (k.all refl) in let n = length_parts ps in omega arith

-- one too many
pub one_too_many : (ps : List Part) (full : Bool) (p : Part) (said : List defs.Part) → 1048577 ≤ length ps → Kept ps full said → Kept ps true (said ++ part_of p ∷ [])
one_too_many ps full p said l k =
    let len = length-append said (part_of p ∷ []) in
    let h = either_over full ps said l k in
    record { all = λ f. absurd (false≢true (sym f)); over = λ f. omega arith }
