-- How a call of `verify` ends.
use Rattle.std.proofs.Common.{◌≡◌, ◌≢◌, List, ℕ, refl, ap, subst, ◌∙◌, inl, inr, string_bytes}
use Rattle.ports.specs.Outside.{BothTell}
use Rattle.clap.specs.Walk.{Text}
use Rattle.tspwords.specs.Says.{SaysVerify}
use Rattle.tspwords.specs.declared.words.VerifyWords.{VerifyWords}
use Rattle.verification.specs.Paths.{Paths, paths_in}
use Rattle.verification.specs.Runs.{Ends}
use Rattle.verification.specs.declared.statuses.VerifyStatus.{VerifyStatus}
use Rattle.verification.specs.declared.statuses.VerifyStatus.TheVariants as checked
use Rattle.tspengine.specs.Calls.{Call, SlotsKept}
use Rattle.tspengine.specs.Verifying.{paths_of, Verifies}
use Rattle.tspengine.specs.Statuses.{status_of}

-- the words' paths
same_paths : (words : List Text) (v : VerifyWords) → SaysVerify words v → paths_in v ≡ paths_of words
same_paths words v says = ap (λ (x : List ℕ). record { instance = x; proof = string_bytes v.proof }) says.instance
    ∙ ap (λ (x : List ℕ). record { instance = (paths_of words).instance; proof = x }) says.proof

verifies_at : (v : VerifyStatus) (c : Call) → v ≢ checked.Usage → SlotsKept c → BothTell (Ends (paths_of c.words) v) c.before.desk c.after.desk → Verifies (status_of v) c
verifies_at checked.Verified c used kept ends = record { desk = inl (refl, ends); slots = kept }
verifies_at checked.Usage c used kept ends = absurd (used refl)
verifies_at checked.Within c used kept ends = record { desk = inr (inl (refl, ends)); slots = kept }
verifies_at checked.BadInstance c used kept ends = record { desk = inr (inr (inr (inl (refl, ends)))); slots = kept }
verifies_at checked.Refused c used kept ends = record { desk = inr (inr (inl (refl, ends))); slots = kept }
verifies_at checked.ReadFault c used kept ends = record { desk = inr (inr (inr (inr (inl (refl, ends))))); slots = kept }
verifies_at checked.WriteFault c used kept ends = record { desk = inr (inr (inr (inr (inr (inl (refl, ends)))))); slots = kept }
verifies_at checked.NoMemory c used kept ends = record { desk = inr (inr (inr (inr (inr (inr (refl, ends)))))); slots = kept }

pub verifies : (v : VerifyStatus) (w : VerifyWords) (c : Call) → SaysVerify c.words w → v ≢ checked.Usage → SlotsKept c
    → BothTell (Ends (paths_in w) v) c.before.desk c.after.desk → Verifies (status_of v) c
verifies v w c says used kept ends = verifies_at v c used kept
    (subst (λ (p : Paths). BothTell (Ends p v) c.before.desk c.after.desk) (same_paths c.words w says) ends)
