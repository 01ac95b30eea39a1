-- What follows where the bytes of the instance are refused.
use Rattle.std.proofs.Common.{◌≡◌, ℕ, List, ◌++◌, refl, sym, ap, ◌∙◌, inl, inr, codes, decimal, flat_map, arith}
use Rattle.ports.specs.Desk.{Told, Adds, with_added}
use Rattle.ports.specs.declared.desk.Outlet.TheVariants as outlet
use Rattle.tspinst.specs.Refusals.{number_of, line_of, extras_of}
use Rattle.tspinst.specs.declared.refusals.Refusal.{Refusal}
use Rattle.tspinst.specs.declared.refusals.Refusal.TheVariants as refusals
use Rattle.verification.specs.Headline.{BadInstance}
use Rattle.verification.specs.Texts.{instance_text}
use Rattle.verification.specs.Transfers.{RefusesInstance, instance_told}

-- only the first refusal is the first
too_long : (r : Refusal) → number_of r ≡ 1 → r ≡ refusals.TooLong
too_long refusals.TooLong e = refl
too_long (refusals.UnknownKeyword k) e = absurd (omega arith)
too_long (refusals.Repeated k) e = absurd (omega arith)
too_long (refusals.WrongType k) e = absurd (omega arith)
too_long (refusals.WrongWeightType k) e = absurd (omega arith)
too_long (refusals.WrongWeightFormat k) e = absurd (omega arith)
too_long (refusals.WrongDimension k) e = absurd (omega arith)
too_long (refusals.Misplaced k) e = absurd (omega arith)
too_long (refusals.BadNumber k fault) e = absurd (omega arith)
too_long (refusals.BadNode k) e = absurd (omega arith)
too_long (refusals.Asymmetric k i j) e = absurd (omega arith)
too_long refusals.Truncated e = absurd (omega arith)
too_long (refusals.Missing part) e = absurd (omega arith)
too_long (refusals.FixedEdges k f) e = absurd (omega arith)

-- the text of the numbers of a refusal
abbrev text_of : ℕ → ℕ → List ℕ → List ℕ
text_of n k xs = codes "INSTANCE " ++ (decimal n ++ codes " " ++ decimal k ++ flat_map (λ x. codes " " ++ decimal x) xs) ++ codes "\n"

same_text : (r s : Refusal) → number_of s ≡ number_of r → line_of s ≡ line_of r → extras_of s ≡ extras_of r → instance_text r ≡ instance_text s
same_text r s n k xs = sym (ap (λ (x : ℕ). text_of x (line_of s) (extras_of s)) n
    ∙ ap (λ (x : ℕ). text_of (number_of r) x (extras_of s)) k
    ∙ ap (λ (x : List ℕ). text_of (number_of r) (line_of r) x) xs)

-- the refusal is printed
pub bad_instance : (path : List ℕ) (r : Refusal) (t u v : Told) → RefusesInstance path r t u → Adds outlet.Text (instance_text r) u v → BadInstance path t v
bad_instance path r t u v is adds = record {
  refusal = is.refused.refusal;
  bytes_taken = is.count;
  first_refusal = is.refused.first;
  read_to_its_end = elim is.whole [ inl e ↦ inl e | inr e ↦ inr (too_long is.refused.refusal (is.refused.numbered ∙ e)) ];
  few = is.few;
  desk = adds ∙ ap (with_added outlet.Text (instance_text r)) is.others
      ∙ ap (λ (x : List ℕ). with_added outlet.Text x (instance_told path is.count t))
      (same_text r is.refused.refusal is.refused.numbered is.refused.placed is.refused.told);
}
