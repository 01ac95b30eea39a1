-- How the steps of a call end on the desk.
use Rattle.std.proofs.Common.{◌≡◌, ℕ, List, length, take, refl, sym, ap, subst, ◌∙◌, inl, inr, Option}
use Rattle.std.proofs.Math.Seq.{drop-length}
use Rattle.ports.specs.Outside.{BothTell}
use Rattle.ports.specs.Desk.{Told, Adds, with_added, with_left, with_inlet_path}
use Rattle.ports.specs.declared.desk.Inlet.TheVariants as inlet
use Rattle.ports.specs.declared.desk.Outlet.TheVariants as outlet
use Rattle.tspdef.specs.Instances.{Instance}
use Rattle.tspinst.specs.Texts.{InstanceText}
use Rattle.tspinst.specs.declared.refusals.Refusal.{Refusal}
use Rattle.certdef.specs.Accepted.{from_zero}
use Rattle.picture.specs.declared.tree.Node.{Node}
use Rattle.verification.specs.Headline.{BadInstance}
use Rattle.verification.specs.Texts.{instance_text, refused_text}
use Rattle.verification.specs.Transfers.{ReadsInstance, RefusesInstance, TouchesProof, Torn, read_told}
use Rattle.verification.specs.Readings.{IsRefuseStatus}
use Rattle.verification.specs.declared.statuses.VerifyStatus.{VerifyStatus}
use Rattle.verification.specs.declared.statuses.VerifyStatus.TheVariants as verify
use Rattle.verification.proofs.Tells.{both_to, both_then}
use Rattle.verification.proofs.Torn.{torn_by}
use Rattle.verification.proofs.Refusing.{bad_instance}
use Rattle.viewing.specs.Words.{Paths}
use Rattle.viewing.specs.Codes.{view_status}
use Rattle.viewing.specs.Texts.{drawn_text}
use Rattle.viewing.specs.Saying.{IsRefusedAs}
use Rattle.viewing.specs.Pictures.{Shows}
use Rattle.viewing.specs.Headline.{Drawn, Refused}
use Rattle.viewing.specs.Readings.{text_told}
use Rattle.viewing.specs.Showing.{IsMade, PutsFront, Draws, Refuses, IsUnread, ShowsOn, drawn_told}
use Rattle.viewing.specs.Runs.{IsAnswered, IsSilent, HalfDrawn, Ends}
use Rattle.viewing.specs.declared.statuses.ViewStatus.{ViewStatus}
use Rattle.viewing.specs.declared.statuses.ViewStatus.TheVariants as status

-- once both files are read
abbrev both_read : Paths → Told → Told
both_read paths t = text_told paths.text (read_told paths.instance t)

-- ---- a text that is drawn

-- the whole answer
abbrev whole_of : Paths → (picture printed : List ℕ) → Told → Told
whole_of paths picture printed t = with_added outlet.Text printed (drawn_told paths.out picture (both_read paths t))

drawn_at : (paths : Paths) (i : Instance) (picture printed : List ℕ) (t : Told) → InstanceText t.instance i → IsMade i t.proof_in picture printed → Drawn paths t (whole_of paths picture printed t)
drawn_at paths i picture printed t read made =
    let (scene, shows, is) = made.shown in
    let said = made.said in record {
      instance = i;
      long = made.long;
      bound = said.bound;
      value = said.value;
      scene = scene;
      instance_text = read;
      few_bytes = said.few_bytes;
      body = said.body;
      is_tour = said.body.body.is_tour;
      length_told = sym said.body.body.long;
      shows = subst (λ (ns : List Node). Shows i made.long (from_zero said.value.tour) ns scene) said.nodes_told
          (subst (λ (cs : List ℕ). Shows i made.long cs made.nodes scene) said.tour_told shows);
      desk = ap (λ (x : List ℕ). whole_of paths picture x t) made.told ∙ ap (λ (x : List ℕ). whole_of paths x (drawn_text made.long) t) is;
    }

half_at : (paths : Paths) (i : Instance) (picture printed : List ℕ) (t v : Told) → InstanceText t.instance i → IsMade i t.proof_in picture printed
    → PutsFront paths.out picture (both_read paths t) v → HalfDrawn paths t v
half_at paths i picture printed t v read made x = record {
  whole = whole_of paths picture printed t;
  step = drawn_at paths i picture printed t read made;
  picture = picture;
  of_it = refl;
  others = x;
}

draws_at : (paths : Paths) (i : Instance) (s : ViewStatus) (t v : Told) → InstanceText t.instance i → Draws i t.proof_in paths.out s (both_read paths t) v → Ends paths s t v
draws_at paths i status.Drawn t v read (picture, printed, made, f) = subst (λ (x : Told). Drawn paths t x) (sym f) (drawn_at paths i picture printed t read made)
draws_at paths i status.Usage t v read (picture, printed, made, f) = absurd f
draws_at paths i status.BadInstance t v read (picture, printed, made, f) = absurd f
draws_at paths i status.Refused t v read (picture, printed, made, f) = absurd f
draws_at paths i status.ReadFault t v read (picture, printed, made, f) = absurd f
draws_at paths i status.WriteFault t v read (picture, printed, made, inl x) = inr (half_at paths i picture printed t v read made x)
draws_at paths i status.WriteFault t v read (picture, printed, made, inr (k, f)) =
    inl (torn_by (IsAnswered paths) printed k t (drawn_told paths.out picture (both_read paths t)) v (inl (drawn_at paths i picture printed t read made)) refl f)
draws_at paths i status.NoMemory t v read (picture, printed, made, f) = absurd f

-- ---- a text that is refused

refused_at : (paths : Paths) (i : Instance) (k line : ℕ) (t v : Told) → InstanceText t.instance i → IsRefusedAs i t.proof_in k line → Adds outlet.Text (refused_text k line) (both_read paths t) v → Refused paths t v
refused_at paths i k line t v read refused f = record { instance = i; refusal = k; line = line; instance_text = read; refused = refused; desk = f }

silent_at : (paths : Paths) (t : Told) → IsSilent paths t (both_read paths t)
silent_at paths t = inr (inr (length t.proof_in, ap (λ (rest : List ℕ). with_left inlet.Proof rest (with_inlet_path inlet.Proof paths.text (read_told paths.instance t))) (sym (drop-length t.proof_in))))

refuses_at : (paths : Paths) (i : Instance) (s : ViewStatus) (t v : Told) → InstanceText t.instance i → Refuses i t.proof_in s (both_read paths t) v → Ends paths s t v
refuses_at paths i status.Drawn t v read (k, line, refused, f) = absurd f
refuses_at paths i status.Usage t v read (k, line, refused, f) = absurd f
refuses_at paths i status.BadInstance t v read (k, line, refused, f) = absurd f
refuses_at paths i status.Refused t v read (k, line, refused, f) = refused_at paths i k line t v read refused f
refuses_at paths i status.ReadFault t v read (k, line, refused, f) = absurd f
refuses_at paths i status.WriteFault t v read (k, line, refused, (j, f)) =
    inl (torn_by (IsAnswered paths) (refused_text k line) j t (both_read paths t) v (inr (inl (refused_at paths i k line t _ read refused refl))) refl f)
refuses_at paths i status.NoMemory t v read (k, line, refused, f) = subst (λ (x : Told). IsSilent paths t x) (sym f) (silent_at paths t)

-- ---- a text that was not read

unread_at : (paths : Paths) (t v : Told) → TouchesProof paths.text (read_told paths.instance t) v → IsSilent paths t v
unread_at paths t v x = elim x [
  | inl e ↦ inr (inl (length t.instance, e ∙ ap (λ (rest : List ℕ). with_left inlet.Instance rest (with_inlet_path inlet.Instance paths.instance t)) (sym (drop-length t.instance))))
  | inr y ↦ inr (inr y)
]

silent_ends : (paths : Paths) (s : ViewStatus) (t v : Told) → IsUnread s → IsSilent paths t v → Ends paths s t v
silent_ends paths s t v which x = elim which [
  | inl e ↦ subst (λ (q : ViewStatus). Ends paths q t v) (sym e) x
  | inr e ↦ subst (λ (q : ViewStatus). Ends paths q t v) (sym e) x
]

shown_at : (paths : Paths) (i : Instance) (s : ViewStatus) (t v : Told) → InstanceText t.instance i → ShowsOn i paths.text paths.out s (read_told paths.instance t) v → Ends paths s t v
shown_at paths i s t v read x = elim x [
  | inl (inl d) ↦ draws_at paths i s t v read d
  | inl (inr (inl r)) ↦ refuses_at paths i s t v read r
  | inl (inr (inr (e, same))) ↦ silent_ends paths s t v (inr e) (subst (λ (q : Told). IsSilent paths t q) (sym same) (silent_at paths t))
  | inr (which, y) ↦ silent_ends paths s t v which (unread_at paths t v y)
]

pub shown_ends : (paths : Paths) (i : Instance) (s : ViewStatus) (a b c : Option Told) → BothTell (ReadsInstance paths.instance i) a b → BothTell (ShowsOn i paths.text paths.out s) b c
    → BothTell (Ends paths s) a c
shown_ends paths i s a b c = both_then (ReadsInstance paths.instance i) (ShowsOn i paths.text paths.out s) (Ends paths s)
    (λ t u v r f. shown_at paths i s t v r.read (subst (λ (x : Told). ShowsOn i paths.text paths.out s x v) r.others f)) a b c

-- ---- a refusal of the instance

bad_torn_at : (paths : Paths) (r : Refusal) (k : ℕ) (t u v : Told) → RefusesInstance paths.instance r t u → Adds outlet.Text (take k (instance_text r)) u v → Torn (IsAnswered paths) t v
bad_torn_at paths r k t u v is adds = torn_by (IsAnswered paths) (instance_text r) k t u v
    (inr (inr (bad_instance paths.instance r t u (with_added outlet.Text (instance_text r) u) is refl))) (ap (λ (x : Told). x.text) is.others) adds

pub bad_ends : (paths : Paths) (r : Refusal) (s : VerifyStatus) (a b c : Option Told) → BothTell (RefusesInstance paths.instance r) a b
    → IsRefuseStatus s → (s ≡ verify.BadInstance → BothTell (Adds outlet.Text (instance_text r)) b c)
    → (s ≡ verify.WriteFault → (k : ℕ) × BothTell (Adds outlet.Text (take k (instance_text r))) b c) → (s ≡ verify.NoMemory → c ≡ b)
    → BothTell (Ends paths (view_status s)) a c
bad_ends paths r s a b c refuses which whole torn same = elim which [
  | inl e ↦ subst (λ (x : VerifyStatus). BothTell (Ends paths (view_status x)) a c) (sym e)
      (both_then (RefusesInstance paths.instance r) (Adds outlet.Text (instance_text r)) (BadInstance paths.instance)
      (λ t u v is f. bad_instance paths.instance r t u v is f) a b c refuses (whole e))
  | inr (inl e) ↦ subst (λ (x : VerifyStatus). BothTell (Ends paths (view_status x)) a c) (sym e)
      (let (k, front) = torn e in
      both_then (RefusesInstance paths.instance r) (Adds outlet.Text (take k (instance_text r))) (Ends paths status.WriteFault)
      (λ t u v is f. inl (bad_torn_at paths r k t u v is f)) a b c refuses front)
  | inr (inr e) ↦ subst (λ (x : VerifyStatus). BothTell (Ends paths (view_status x)) a c) (sym e)
      (subst (λ (x : Option Told). BothTell (IsSilent paths) a x) (sym (same e))
      (both_to (RefusesInstance paths.instance r) (IsSilent paths) (λ t u is. inr (inl (is.count, is.others))) a b refuses))
]
