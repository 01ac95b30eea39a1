-- What the second step does: it reads a text for an instance, and draws what it says or prints its first refusal.
use Rattle.std.specs.Prelude.{◌≡◌, ℕ, ◌⊎◌, List, take}
use Rattle.ports.specs.Desk.{Told, Adds, with_added, with_outlet_path}
use Rattle.ports.specs.declared.desk.Outlet.TheVariants as outlet
use Rattle.tspdef.specs.Instances.{Instance}
use Rattle.picture.specs.declared.tree.Node.{Node}
use Rattle.verification.specs.Texts.{refused_text}
use Rattle.verification.specs.Transfers.{TouchesProof}
use Rattle.viewing.specs.Texts.{drawn_text}
use Rattle.viewing.specs.Saying.{IsSaid, IsRefusedAs}
use Rattle.viewing.specs.Pictures.{IsPicture}
use Rattle.viewing.specs.Readings.{text_told}
use Rattle.viewing.specs.declared.statuses.ViewStatus.{ViewStatus}
use Rattle.viewing.specs.declared.statuses.ViewStatus.TheVariants as status

-- the picture is one of what the bytes say, and this is printed then
pub record IsMade (i : Instance) (bytes picture printed : List ℕ) : Type 0 where
  pub long : ℕ
  pub tour : List ℕ
  pub nodes : List Node
  pub said : IsSaid i bytes long tour nodes
  pub shown : IsPicture i long tour nodes picture
  pub told : printed ≡ drawn_text long

-- the outlet was bound to a word, and took a picture
abbrev pub drawn_told : List ℕ → List ℕ → Told → Told
drawn_told word picture t = with_added outlet.Proof picture (with_outlet_path word t)

-- nothing was done, or the outlet was bound to a word and took a front of a picture
abbrev pub PutsFront : List ℕ → List ℕ → Told → Told → Type 0
PutsFront word picture t u = (u ≡ t) ⊎ ((k : ℕ) × (u ≡ drawn_told word (take k picture) t))

-- the picture is written, and all of a text is printed; or a fault cut that short
abbrev pub Finishes : ViewStatus → (word picture printed : List ℕ) → Told → Told → Type 0
Finishes status.Drawn word picture printed t u = u ≡ with_added outlet.Text printed (drawn_told word picture t)
Finishes status.Usage word picture printed t u = ⊥
Finishes status.BadInstance word picture printed t u = ⊥
Finishes status.Refused word picture printed t u = ⊥
Finishes status.ReadFault word picture printed t u = ⊥
Finishes status.WriteFault word picture printed t u = PutsFront word picture t u ⊎ ((k : ℕ) × (u ≡ with_added outlet.Text (take k printed) (drawn_told word picture t)))
Finishes status.NoMemory word picture printed t u = ⊥

-- a refusal is printed; or a fault cut that short, or memory ran out
abbrev pub Says : ViewStatus → List ℕ → Told → Told → Type 0
Says status.Drawn printed t u = ⊥
Says status.Usage printed t u = ⊥
Says status.BadInstance printed t u = ⊥
Says status.Refused printed t u = Adds outlet.Text printed t u
Says status.ReadFault printed t u = ⊥
Says status.WriteFault printed t u = (k : ℕ) × Adds outlet.Text (take k printed) t u
Says status.NoMemory printed t u = u ≡ t

-- a picture of the bytes is made, and it ends so
abbrev pub Draws : Instance → (bytes word : List ℕ) → ViewStatus → Told → Told → Type 0
Draws i bytes word s t u = (picture : List ℕ) × (printed : List ℕ) × IsMade i bytes picture printed × Finishes s word picture printed t u

-- the bytes are refused, and it ends so
abbrev pub Refuses : Instance → List ℕ → ViewStatus → Told → Told → Type 0
Refuses i bytes s t u = (k : ℕ) × (line : ℕ) × IsRefusedAs i bytes k line × Says s (refused_text k line) t u

-- how the bytes are judged, by the status
abbrev pub Judges : Instance → (bytes word : List ℕ) → ViewStatus → Told → Told → Type 0
Judges i bytes word s t u = Draws i bytes word s t u ⊎ Refuses i bytes s t u ⊎ ((s ≡ status.NoMemory) × (u ≡ t))

-- a read failed, or memory ran out
abbrev pub IsUnread : ViewStatus → Type 0
IsUnread s = (s ≡ status.ReadFault) ⊎ (s ≡ status.NoMemory)

-- the text was read and judged, or a front of it was read
abbrev pub ShowsOn : Instance → (text word : List ℕ) → ViewStatus → Told → Told → Type 0
ShowsOn i text word s t u = Judges i t.proof_in word s (text_told text t) u ⊎ (IsUnread s × TouchesProof text t u)
