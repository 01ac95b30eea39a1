-- What `run` promises where it answers Optimal, Within, Stopped, Toured, Benched or BenchStopped. A call `c` has its words, and the
-- outside before and after it. `reads`, `writes` and `prints` are the steps on the desk: each bind and each byte is in one of them, and
-- nothing else changes. What holds of `verify` stands in the headline of `verification`.
use Rattle.std.specs.Prelude.{◌≡◌, ℕ, ◌+◌, ◌-◌, ◌<◌, ◌≤◌, List, ◌∷◌, Some}
use Rattle.ports.specs.Slots.{with_path}
use Rattle.tspdef.specs.Tours.{IsCanonical}
use Rattle.tspdef.specs.Instances.{Instance, IsTourOf, length_in}
use Rattle.tspdef.specs.Paths.{root}
use Rattle.tspdef.specs.Trees.{Covers, open_leaves, settled}
use Rattle.tspinst.specs.Texts.{InstanceText}
use Rattle.certdef.specs.Proofs.{Proof, text}
use Rattle.certdef.specs.Accepted.{HasForm, IsAcceptedText, IsTextOf, from_zero, tree_in}
use Rattle.certdef.specs.Restarts.{IsSoundProof}
use Rattle.opening.specs.Openings.{IsOpeningTour}
use Rattle.tourfmt.specs.Texts.{IsTourText}
use Rattle.worker.specs.Splits.{IsNeededSplit}
use Rattle.tspengine.specs.Growth.{HasGrown}
use Rattle.ports.specs.Crash.{moment_of}
use Rattle.slotstore.specs.Store.{loaded}
use Rattle.slotstore.specs.Crashing.{LoadsOnly, settled as synced}
use Rattle.tspwords.specs.Program.{instance_word, proof_word, restart_word, out_word, budget_of, gap_of}
use Rattle.tspengine.specs.Calls.{Call, DeskHad, DeskIs, SlotsAre, SlotsKept, SlotsHold, SlotsPass}
use Rattle.tspengine.specs.Steps.{reads, writes, prints}
use Rattle.tspengine.specs.Texts.{optimal_text, within_text, length_text, stopped_text}
use Rattle.tspengine.specs.Drawn.{drawn_by}
use Rattle.tspengine.specs.Starts.{Start, Begins, BeginsAnew}
use Rattle.tspengine.specs.Saves.{AreBodiesOn, LoadsAsOrOneOf, after_saves}
use Rattle.tspengine.specs.Outcomes.{Bears}

-- `solve` answers Optimal: no tour of the instance is shorter than the printed one, and the proof of that is written. The slots were
-- synced, and perhaps bodies saved on the way; a crash at any moment of the call leaves one of these, or what one at its start could
-- have left.
pub record Optimal (c : Call) : Type 0 where
  pub instance : Instance
  pub start : Start
  pub tour : List ℕ
  pub length : ℕ
  pub proof : List ℕ
  pub value : Proof
  pub saved : List Proof
  pub bytes_read : DeskHad (λ t. InstanceText t.instance instance) c
  pub begins : Begins c instance start
  pub tour_visits_each_city_once : IsTourOf instance tour × IsCanonical tour
  pub tour_has_this_length : length ≡ length_in instance tour
  pub no_tour_is_shorter : (other : List ℕ) → IsTourOf instance other → length ≤ length_in instance other
  pub proof_is_accepted : IsAcceptedText instance proof length length
  pub proof_text : IsTextOf instance proof length length value × (from_zero value.tour ≡ tour)
  pub within_budget : settled (tree_in instance.n value) ≤ settled start.tree + budget_of c.words
  pub desk : DeskIs (λ t. prints (optimal_text length tour) (writes (proof_word c.words) proof (reads (instance_word c.words) t))) c
  pub saved_bodies_go_on : AreBodiesOn instance (budget_of c.words) (gap_of c.words) start saved
  pub slots : SlotsAre (λ t. after_saves saved (synced (with_path (restart_word c.words) t))) c
  pub a_crash_leaves_a_body : SlotsPass (λ t. LoadsAsOrOneOf (moment_of t) saved) c

-- `solve` answers Within: no tour of the instance is shorter than the printed bound, the greatest that the tree bears; it is below the
-- printed tour's length by no more than the gap. The proof of that is written. The slots as above.
pub record Within (c : Call) : Type 0 where
  pub instance : Instance
  pub start : Start
  pub tour : List ℕ
  pub length : ℕ
  pub bound : ℕ
  pub proof : List ℕ
  pub value : Proof
  pub saved : List Proof
  pub bytes_read : DeskHad (λ t. InstanceText t.instance instance) c
  pub begins : Begins c instance start
  pub tour_visits_each_city_once : IsTourOf instance tour × IsCanonical tour
  pub tour_has_this_length : length ≡ length_in instance tour
  pub bound_is_below : (bound < length) × (length ≤ bound + gap_of c.words)
  pub no_tour_is_shorter : (other : List ℕ) → IsTourOf instance other → bound ≤ length_in instance other
  pub proof_is_accepted : IsAcceptedText instance proof length bound
  pub proof_text : IsTextOf instance proof length bound value × (from_zero value.tour ≡ tour)
  pub bound_is_greatest : Bears instance length bound value
  pub within_budget : settled (tree_in instance.n value) ≤ settled start.tree + budget_of c.words
  pub desk : DeskIs (λ t. prints (within_text length bound tour) (writes (proof_word c.words) proof (reads (instance_word c.words) t))) c
  pub saved_bodies_go_on : AreBodiesOn instance (budget_of c.words) (gap_of c.words) start saved
  pub slots : SlotsAre (λ t. after_saves saved (synced (with_path (restart_word c.words) t))) c
  pub a_crash_leaves_a_body : SlotsPass (λ t. LoadsAsOrOneOf (moment_of t) saved) c

-- `solve` answers Stopped: a node is open, and as many nodes were newly settled as the budget says. The slots hold a body to go on from,
-- and no proof is written. Each tour that is shorter than the body's by more than the gap lies under an open node of it. A crash at any
-- moment of the call leaves a body that one at its start could have left, or one saved, and each crash after it the last one.
pub record Stopped (c : Call) : Type 0 where
  pub instance : Instance
  pub start : Start
  pub body : Proof
  pub bound : ℕ
  pub saved : List Proof
  pub bytes_read : DeskHad (λ t. InstanceText t.instance instance) c
  pub begins : Begins c instance start
  pub body_is_sound : HasForm instance.n body × IsSoundProof instance body.long bound body
  pub bound_is_near : body.long ≤ bound + gap_of c.words
  pub no_longer_than_start : body.long ≤ start.long
  pub a_node_is_open : 0 < open_leaves (tree_in instance.n body)
  pub budget_is_settled : settled (tree_in instance.n body) ≡ settled start.tree + budget_of c.words
  pub new_splits_were_needed : HasGrown (λ path b. IsNeededSplit instance path start.long b (gap_of c.words)) (root instance) start.tree (tree_in instance.n body)
  pub each_better_tour_is_under_an_open_node : Covers instance (tree_in instance.n body) (body.long - gap_of c.words)
  pub desk : DeskIs (λ t. prints (stopped_text body.long (open_leaves (tree_in instance.n body))) (reads (instance_word c.words) t)) c
  pub saved_bodies_go_on : AreBodiesOn instance (budget_of c.words) (gap_of c.words) start saved
  pub slots : SlotsAre (λ t. after_saves (body ∷ saved) (synced (with_path (restart_word c.words) t))) c
  pub slots_hold_the_body : SlotsHold (λ t. loaded t ≡ Some (text body)) c
  pub each_crash_after_it_leaves_the_body : SlotsHold (LoadsOnly (Some (text body))) c
  pub a_crash_leaves_a_body : SlotsPass (λ t. LoadsAsOrOneOf (moment_of t) (body ∷ saved)) c

-- `tour` answers Toured: a tour is printed that is no longer than the nearest-neighbour walk, and that no exchange of two steps
-- with a near replacement shortens.
pub record Toured (c : Call) : Type 0 where
  pub instance : Instance
  pub tour : List ℕ
  pub tour_text : List ℕ
  pub bytes_read : DeskHad (λ t. InstanceText t.instance instance) c
  pub is_good : IsOpeningTour instance tour
  pub says_the_tour : IsTourText tour tour_text
  pub desk : DeskIs (λ t. prints tour_text (reads (instance_word c.words) t)) c
  pub slots : SlotsKept c

-- `bench` answers Benched: no tour of the drawn instance is shorter than the printed length, and the proof of that is written.
pub record Benched (c : Call) : Type 0 where
  pub length : ℕ
  pub proof : List ℕ
  pub value : Proof
  pub no_tour_is_shorter : (tour : List ℕ) → IsTourOf (drawn_by c.words) tour → length ≤ length_in (drawn_by c.words) tour
  pub proof_is_accepted : IsAcceptedText (drawn_by c.words) proof length length
  pub proof_text : IsTextOf (drawn_by c.words) proof length length value
  pub within_budget : settled (tree_in (drawn_by c.words).n value) ≤ budget_of c.words
  pub desk : DeskIs (λ t. prints (length_text length) (writes (out_word c.words) proof t)) c
  pub slots : SlotsKept c

-- `bench` answers BenchStopped: the budget is settled and a node is open. A body to go on from is written.
pub record BenchStopped (c : Call) : Type 0 where
  pub start : Start
  pub body : Proof
  pub begins : BeginsAnew (drawn_by c.words) start
  pub body_is_sound : HasForm (drawn_by c.words).n body × IsSoundProof (drawn_by c.words) body.long body.long body
  pub no_longer_than_opening : body.long ≤ start.long
  pub a_node_is_open : 0 < open_leaves (tree_in (drawn_by c.words).n body)
  pub budget_is_settled : settled (tree_in (drawn_by c.words).n body) ≡ budget_of c.words
  pub splits_were_needed : HasGrown (λ path b. IsNeededSplit (drawn_by c.words) path start.long b 0) (root (drawn_by c.words)) start.tree (tree_in (drawn_by c.words).n body)
  pub desk : DeskIs (λ t. prints (stopped_text body.long (open_leaves (tree_in (drawn_by c.words).n body))) (writes (out_word c.words) (text body) t)) c
  pub slots : SlotsKept c
