-- What is answered about a text that was read.
use Rattle.std.proofs.Common.{◌≡◌, ℕ, ◌+◌, ◌≤◌, true, ◌&&◌, List, [], ◌∷◌, ◌++◌, map, refl, sym, ap, subst, ◌∙◌, arith, append_assoc, inr}
use Rattle.std.specs.Prelude.{nat_le, ℤ}
use Rattle.std.specs.List.{AllByRecursion}
use Rattle.std.proofs.lemmas.Bool.{and_parts}
use Rattle.std.proofs.lemmas.List.{append-nil, length-map, map-append}
use Rattle.tspdef.specs.Instances.{Instance, length_in}
use Rattle.certdef.specs.Items.{Item, size_line, bound_line, city_line, line, fits, rises}
use Rattle.certdef.specs.Proofs.{city_item, ended}
use Rattle.verdict.proofs.Values.{all_first}
use Rattle.onetree.specs.OneTrees.{IsHeldKarp}
use Rattle.onetree.specs.Certificates.{Certificate, title, items, said, HasForm, IsText, StopsAt, AreRising}
use Rattle.onetree.specs.Readings.{HasHead, SaysDuals, StopsDuals}
use Rattle.onetree.specs.Answers.{Judges, NoTourIsShorterThan, Prices}
use Rattle.onetree.specs.declared.answer.Answer.{Answer}
use Rattle.onetree.specs.declared.answer.Answer.TheVariants as answers
use Rattle.onetree.proofs.Tours.{no_tour_is_shorter}
use Rattle.onetree.proofs.CertificateLemmas.{certificate}

-- one dual more than some, among those that a certificate says
record GoesOn (ds ps : List (ℕ × ℤ)) (x : Item) : Type 0 where
  pub city : ℕ
  pub dual : ℤ
  pub later : List (ℕ × ℤ)
  pub whole : ds ≡ ps ++ (city, dual) ∷ later
  pub item : x ≡ city_line city dual

one_more : (ds ps : List (ℕ × ℤ)) (x : Item) (later : List Item) → map city_item ds ≡ map city_item ps ++ x ∷ later → GoesOn ds ps x
one_more [] [] x later e = absurd (cc)
one_more [] (p ∷ ps) x later e = absurd (cc)
one_more (d ∷ ds) [] x later e = let h : city_item d ≡ x = cc in record { city = d.0; dual = d.1; later = ds; whole = refl; item = sym h }
one_more (d ∷ ds) (p ∷ ps) x later e =
    let h : city_item d ≡ city_item p = cc in
    let t : map city_item ds ≡ map city_item ps ++ x ∷ later = cc in
    let v : d.0 ≡ p.0 = cc in
    let y : d.1 ≡ p.1 = cc in
    let same : d ≡ p = ap (λ k. (k, d.1)) v ∙ ap (λ z. (p.0, z)) y in
    let g = one_more ds ps x later t in
    record { city = g.city; dual = g.dual; later = g.later; whole = ap (λ q. q ∷ ds) same ∙ ap (λ qs. p ∷ qs) g.whole; item = g.item }

rise_front : (from n : ℕ) (ps : List (ℕ × ℤ)) (q : ℕ × ℤ) (ds : List (ℕ × ℤ)) → rises from n (map (λ p. p.0) (ps ++ q ∷ ds)) ≡ true → rises from n (map (λ p. p.0) (ps ++ q ∷ [])) ≡ true
rise_front from n [] q ds h = let a = and_parts (nat_le from q.0 && nat_le q.0 n) _ h in rw (a.0) refl
rise_front from n (p ∷ ps) q ds h =
    let a = and_parts (nat_le from p.0 && nat_le p.0 n) _ h in
    rw (a.0, rise_front (p.0 + 1) n ps q ds a.1) refl

front_rises : (n : ℕ) (c : Certificate) (ps : List (ℕ × ℤ)) (v : ℕ) (y : ℤ) (ds : List (ℕ × ℤ)) → HasForm n c → c.duals ≡ ps ++ (v, y) ∷ ds → AreRising n (ps ++ (v, y) ∷ [])
front_rises n c ps v y ds f e =
    let P : Item → Type 0 = λ x. fits n x ≡ true in
    let all : AllByRecursion P (map city_item (ps ++ (v, y) ∷ ds)) = subst (λ qs. AllByRecursion P (map city_item qs)) e f.fit.1.1 in
    let split : map city_item (ps ++ (v, y) ∷ ds) ≡ map city_item (ps ++ (v, y) ∷ []) ++ map city_item ds =
    ap (map city_item) (sym (append_assoc ps ((v, y) ∷ []) ds)) ∙ map-append city_item (ps ++ (v, y) ∷ []) ds in record {
      fit = all_first P (map city_item (ps ++ (v, y) ∷ [])) (map city_item ds) (subst (λ xs. AllByRecursion P xs) split all);
      rise = rise_front 1 n ps (v, y) ds (subst (λ qs. rises 1 n (map (λ p. p.0) qs) ≡ true) e f.rise);
    }

last_fits : (n : ℕ) (ps : List (ℕ × ℤ)) (v : ℕ) (y : ℤ) → AllByRecursion (λ x. fits n x ≡ true) (map city_item (ps ++ (v, y) ∷ [])) → fits n (city_line v y) ≡ true
last_fits n [] v y h = h.0
last_fits n (p ∷ ps) v y h = last_fits n ps v y h.1

pub stops_at_dual : (n : ℕ) (bytes rest : List ℕ) (b at : ℕ) → HasHead n bytes b rest → StopsDuals n rest at → StopsAt n bytes at
stops_at_dual n bytes rest b at h s =
    let one = ended (line (size_line n)) in
    let two = ended (line (bound_line b)) in
    let cs = said (map city_item s.said_duals) in
    let m = length-map s.said_duals city_item in
    let p = s.place in record {
      before = size_line n ∷ bound_line b ∷ map city_item s.said_duals;
      rest = s.rest;
      whole = h.whole ∙ ap (λ r. ended title ++ (one ++ (two ++ r))) s.whole ∙ ap (λ r. ended title ++ (one ++ r)) (sym (append_assoc two cs s.rest)) ∙ ap (λ r. ended title ++ r) (sym (append_assoc one (two ++ cs) s.rest));
      place = omega arith;
      begins = (certificate n b s.said_duals, record { fit = (h.size, (h.bound, s.rising.fit)); rise = s.rising.rise }, refl, ([], sym (append-nil (items (certificate n b s.said_duals)))));
      stuck = λ c x later more f g k.
          let t : map city_item c.duals ≡ map city_item s.said_duals ++ x ∷ later = cc in
          let o = one_more c.duals s.said_duals x later t in
          let r = front_rises n c s.said_duals o.city o.dual o.later f o.whole in
          s.stuck o.city o.dual more (g ∙ ap (λ z. ended (line z) ++ more) o.item, last_fits n s.said_duals o.city o.dual r.fit) r;
      unfinished = λ c f g k. s.some g;
    }

read_whole : (n : ℕ) (bytes rest : List ℕ) (p : List ℤ) (b : ℕ) → (h : HasHead n bytes b rest) (s : SaysDuals n rest p) → IsText n bytes (certificate n b s.said_duals)
read_whole n bytes rest p b h s = record {
  whole = h.whole ∙ ap (λ r. ended title ++ (ended (line (size_line n)) ++ (ended (line (bound_line b)) ++ r))) s.whole;
  form = record { fit = (h.size, (h.bound, s.rising.fit)); rise = s.rising.rise };
  size = refl;
}

pub judged : (i : Instance) (bytes rest : List ℕ) (p q : List ℤ) (b : ℕ) (a : Answer) → HasHead i.n bytes b rest → SaysDuals i.n rest p → q ≡ p → Prices i q b a → Judges i bytes a
judged i bytes rest p q b (answers.Yes x) h s e v =
    (certificate i.n b s.said_duals, read_whole i.n bytes rest p b h s, sym v.0, (v.1.0, subst (λ ps. IsHeldKarp i ps v.1.0) (e ∙ s.duals) v.1.1, v.1.2))
judged i bytes rest p q b (answers.No k at) h s e v =
    inr (inr (v.0, v.1, (certificate i.n b s.said_duals, read_whole i.n bytes rest p b h s, (v.2.0, subst (λ ps. IsHeldKarp i ps v.2.0) (e ∙ s.duals) v.2.1, v.2.2))))

pub shorter_than : (i : Instance) (p : List ℤ) (b : ℕ) (a : Answer) → 3 ≤ i.n → Prices i p b a → NoTourIsShorterThan i a
shorter_than i p b (answers.Yes x) many v = λ tour is. subst (λ k. k ≤ length_in i tour) (sym v.0) (no_tour_is_shorter i p v.1.0 b tour many is v.1.1 v.1.2)
shorter_than i p b (answers.No k at) many v = tt
