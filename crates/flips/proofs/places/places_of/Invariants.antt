use Rattle.std.proofs.Common.{◌≡◌, ◌<◌, ℕ, vec_len, slice_index, length}
use Rattle.flips.proofs.places.places_of.Given as goal

abbrev pub invariant-loop-k : goal.invariant-loop-k
invariant-loop-k l = record {
  size : vec_len l.place ≡ length l.cities;
  within : (m : ℕ) → m < length l.cities → slice_index l.place.items m < length l.cities;
  back : (m : ℕ) → m < l.k → slice_index l.place.items (slice_index l.cities m) ≡ m;
}
