use Rattle.std.proofs.Common.{◌≡◌, ℕ, Bool, ◌-◌, ◌<◌, ◌≤◌}
use Rattle.scheme.specs.Lists.{passing}
use Rattle.opening.specs.Listing.{Listed}
use Rattle.opening.proofs.places.list_places.Given as goal

abbrev pub invariant-loop-j : goal.invariant-loop-j
invariant-loop-j g l = record {
  few : l.count ≤ l.j - l.from;
  listed : (p : ℕ → Bool) → ((j : ℕ) (yes : Bool) → l.from ≤ j → j < l.to → goal.F-post g l.passes j yes → yes ≡ p j) → Listed (passing p l.from (l.j - l.from)) l.out l.count;
}
