-- RLCEpad and RLCEpadDecode (RLCE-KEM specification of September 14, 2017, section 7.13), over a set's numbers k1, k2, k3 and ν. The string e0 may have
-- any length.
use Rattle.std.specs.Prelude.{◌≡◌, List, ◌++◌, ℕ, ◌+◌, ◌-◌, ◌*◌, ◌/◌, ◌^◌, length, get_or, set, take, drop}
use Rattle.sets.specs.declared.Set.{Set}
use Rattle.hash.specs.Mask.{mgf, xored}

-- section 7.13, step 3: ν, how many bits of the padded string are lost, and how many of the pad seed are forced to zero
abbrev pub lost_bits : Set → ℕ
lost_bits s = 8 * (s.k1 + s.k2 + s.k3) - s.m * (s.k + s.t)

-- section 7.13, step 4: the string with the last ν bits of its last byte zero
unfoldable pub cleared : ℕ → List ℕ → List ℕ
cleared ν r = set r (length r - 1) (get_or r (length r - 1) 0 / 2 ^ ν * 2 ^ ν)

-- section 7.13, steps 5 to 8: paddedMSG1, of k1 + k2 bytes, where r is the pad seed with its forced bits zero
unfoldable pub padded_front : Set → List ℕ → List ℕ → List ℕ → List ℕ
padded_front s msg r e0 = xored (msg ++ mgf (msg ++ (r ++ e0)) s.k2) (mgf (r ++ e0) (s.k1 + s.k2))

-- section 7.13, steps 9 and 10: paddedMSG, of k1 + k2 + k3 bytes
unfoldable pub padded : Set → List ℕ → List ℕ → List ℕ → List ℕ
padded s msg seed e0 =
    let r = cleared (lost_bits s) seed in
    let front = padded_front s msg r e0 in
    front ++ xored r (mgf front s.k3)

-- ---- back again: p is a padded string of k1 + k2 + k3 bytes

-- section 7.13, decoding, 3 to 7: the pad seed
unfoldable pub seed_of : Set → List ℕ → List ℕ
seed_of s p =
    let front = take (s.k1 + s.k2) p in
    cleared (lost_bits s) (xored (drop (s.k1 + s.k2) p) (mgf front s.k3))

-- section 7.13, decoding, 8 to 10: the message and the check bytes
unfoldable pub unmasked : Set → List ℕ → List ℕ → List ℕ
unmasked s p e0 = xored (take (s.k1 + s.k2) p) (mgf (seed_of s p ++ e0) (s.k1 + s.k2))

-- section 7.13, decoding, 11
unfoldable pub message_of : Set → List ℕ → List ℕ → List ℕ
message_of s p e0 = take s.k1 (unmasked s p e0)

-- section 7.13, decoding, 12 to 14: the check bytes are those of the message
unfoldable pub Checks : Set → List ℕ → List ℕ → Type 0
Checks s p e0 = drop s.k1 (unmasked s p e0) ≡ mgf (message_of s p e0 ++ (seed_of s p ++ e0)) s.k2
