-- The length of a repeat, by its law: counting would go too deep.
use mathlib.Core.Path.{◌≡◌, sym}
use Prim.Native.Nat.{ℕ}
use lib.ListN.{length, replicate, length-replicate}

pub told : (n x : ℕ) → n ≡ length (replicate n x)
told n x = sym (length-replicate n x)
