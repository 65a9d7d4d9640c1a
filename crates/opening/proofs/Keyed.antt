-- What a value of the type of private keys says of its bytes.
use mathlib.Core.Path.{◌≡◌}
use mathlib.Core.List.{List}
use Prim.Native.Nat.{ℕ}
use Rattle.scheme.specs.Keys.{WellFormed}
use Rattle.scheme.specs.Lists.{inverse_of}
use Rattle.scheme.specs.Opening.{places_i, places_t}
use Rattle.opening.specs.declared.key.PrivateKey.{PrivateKey}
use Rattle.opening.specs.Given.{KeyGiven}
use Rattle.opening.specs.Held.{held}
use Rattle.opening.specs.Bounds.{Bounds}
use Rattle.opening.proofs.Parting.{bounds-as}

pub given : (key : PrivateKey) → KeyGiven key.parameters.set key.bytes.now
given key = record { valid = key.parameters.valid; element = key.element; long = key.whole }

pub bounds_of : (key : PrivateKey) (ge first second mixed plain : List ℕ) → WellFormed key.parameters.set key.bytes.now
    → ge ≡ (held key).ge → first ≡ inverse_of (held key).q1 → second ≡ inverse_of (held key).q2
    → mixed ≡ places_i key.parameters.set (held key) → plain ≡ places_t key.parameters.set (held key)
    → Bounds key.parameters.set (held key) ge first second mixed plain
bounds_of key ge first second mixed plain wf = bounds-as key.parameters.set key.bytes.now (given key) wf ge first second mixed plain
