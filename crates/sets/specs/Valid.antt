-- The facts of a set's numbers that proofs go by. They are shown for each set of the table by computation; no proof names a set.
use Rattle.std.specs.Prelude.{◌≡◌, ℕ, ◌+◌, ◌-◌, ◌*◌, ◌^◌, ◌≤◌, ◌<◌}
use Rattle.bits.specs.Bits.{bytes_for}
use Rattle.sets.specs.declared.Set.{Set}

-- the elements that setup draws from its random bytes
abbrev pub setup_elements : Set → ℕ
setup_elements s = s.n + (4 + s.k) * s.w + 25

-- the elements of GE, which has k rows and n + w - k columns
abbrev pub key_elements : Set → ℕ
key_elements s = s.k * (s.n + s.w - s.k)

pub record Valid (s : Set) : Type 0 where
  -- the code corrects t places: n - k = 2t
  pub code : s.n ≡ s.k + (s.t + s.t)
  pub some_k : 0 < s.k
  pub some_t : 0 < s.t
  pub some_w : 0 < s.w
  -- the first n - w columns hold at least k unmixed ones
  pub room : s.k + s.w ≤ s.n
  -- an element has m bits, between 8 and 16, and α has n distinct powers
  pub narrow : 8 ≤ s.m
  pub wide : s.m ≤ 16
  pub points : s.n < 2 ^ s.m
  -- a place is a 16-bit number
  pub places : s.n + s.w ≤ 65536
  -- specification, section 7.13: message, check bytes and pad seed are the k + t elements, up to less than a byte
  pub padded : s.k1 + s.k2 + s.k3 ≡ bytes_for s.m (s.k + s.t)
  pub some_message : 0 < s.k1
  pub some_check : 0 < s.k2
  pub some_seed : 0 < s.k3
  -- the lengths
  pub public_is : s.public ≡ 1 + bytes_for s.m (key_elements s)
  pub private_is : s.private ≡ 1 + 2 * s.n + 2 * (s.n + s.w) + bytes_for s.m (2 * s.w + s.n + key_elements s)
  pub cipher_is : s.cipher ≡ bytes_for s.m (s.n + s.w)
  -- the elements, n - 1 numbers for P1, n + w - 1 for P2, and four bytes more for the last window
  pub random_is : s.random ≡ bytes_for s.m (setup_elements s) + 2 * (s.n - 1) + 2 * (s.n + s.w - 1) + 4
  pub block_is : s.block ≡ s.k3 + 2 * s.t
  pub work_is : s.work ≡ 4 * s.n * (s.n + s.w)
  -- no length comes near what a machine's numbers hold
  pub small : s.work < 2 ^ 32
