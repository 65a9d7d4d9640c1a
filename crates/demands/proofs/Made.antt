-- What setup's pair is made of, where it makes one.
use mathlib.Core.Path.{◌≡◌, refl}
use mathlib.Core.Bool.{Bool, true, false}
use mathlib.Core.List.{List}
use Prim.Native.Nat.{ℕ, ◌+◌, ◌≤◌}
use native.Mathlib.Omega.{arith}
use lib.Dec.{ltb}
use lib.ListN.{length}
use Rattle.lists.specs.Loops.{pick}
use Rattle.sets.specs.declared.Set.{Set}
use Rattle.linear.specs.Elimination.{Done, eliminated}
use Rattle.scheme.specs.declared.Refusal.{Refusal}
use Rattle.scheme.specs.declared.Refusal.TheVariants.{FewMultipliers, NoWindow, Dependent}
use Rattle.scheme.specs.Lists.{inverse_of}
use Rattle.scheme.specs.Field.{field_of}
use Rattle.scheme.specs.Matrices.{listed}
use Rattle.scheme.specs.Keys.{Private, public_key, private_key}
use Rattle.scheme.specs.Setup.{usable, multipliers, block_elements, Found, found, none, blocks, permutation1, permutation2, window, chain, right_part, inverse_columns, inverses, Made, made, fails, reduced_pair, with_blocks, setup}
use Rattle.tie.proofs.Choices.{lt-false}

module _ (s : Set) (random A : List ℕ) (p : ℕ) where
  -- the matrix that is reduced, and what its reduction ends with
  abbrev pub matrix_of : List ℕ
  matrix_of = listed s.k (s.n + s.w) (chain s random A (permutation2 s random p))

  abbrev pub end_of : Done
  end_of = eliminated (field_of s) s.k (s.n + s.w) s.k matrix_of

  abbrev pub ge_of : List ℕ
  ge_of = right_part s end_of.mat

  abbrev pub key_made : Private
  key_made =
      record {
        q1 = inverse_of (permutation1 s random);
        q2 = inverse_of (permutation2 s random p);
        columns = inverse_columns (field_of s) A;
        inverses = inverses (field_of s) (multipliers s random);
        ge = ge_of;
      }

-- the blocks A, the window p, and what they lead to
pub record MadeOf (s : Set) (random public private : List ℕ) : Type 0 where
  pub A : List ℕ
  pub p : ℕ
  pub many : s.n ≤ length (usable s random)
  pub blocks_are : blocks (field_of s) s.w (block_elements s random) ≡ found A
  pub done : s.k ≤ (end_of s random A p).cols
  pub public_is : public ≡ public_key s (ge_of s random A p)
  pub private_is : private ≡ private_key s (key_made s random A p)

-- what is made did not fail
past : (b : Bool) (a : Refusal) (m : Made) (x y : List ℕ) (c : ℕ) → pick b (fails a) m ≡ made x y c → (b ≡ false) × (m ≡ made x y c)
past true a m x y c e = absurd (let z : ◌≡◌ {A = ℕ} 0 1 = cc in omega arith)
past false a m x y c e = (refl, e)

within : (b : Bool) (a : Refusal) (m : Made) (x y : List ℕ) (c : ℕ) → pick b m (fails a) ≡ made x y c → m ≡ made x y c
within true a m x y c e = e
within false a m x y c e = absurd (let z : ◌≡◌ {A = ℕ} 0 1 = cc in omega arith)

public-of : (x y x' y' : List ℕ) (c c' : ℕ) → made x y c ≡ made x' y' c' → x' ≡ x
public-of x y x' y' c c' e = cc

private-of : (x y x' y' : List ℕ) (c c' : ℕ) → made x y c ≡ made x' y' c' → y' ≡ y
private-of x y x' y' c c' e = cc

module _ (s : Set) (random public private : List ℕ) (count : ℕ) where
  with-blocks : (f : Found) → blocks (field_of s) s.w (block_elements s random) ≡ f → s.n ≤ length (usable s random) → with_blocks s random f ≡ made public private count
      → MadeOf s random public private
  unfolding with_blocks reduced_pair
  with-blocks none q many e = absurd (let z : ◌≡◌ {A = ℕ} 0 1 = cc in omega arith)
  with-blocks (found A) q many e =
      let w = window s random in
      let pair = made (public_key s (ge_of s random A w)) (private_key s (key_made s random A w)) (w + 1) in
      let r = past (ltb (end_of s random A w).cols s.k) Dependent pair public private count (within (ltb w 5) NoWindow (reduced_pair s random A w) public private count e) in
      record {
        A = A;
        p = window s random;
        many = many;
        blocks_are = q;
        done = lt-false _ _ r.0;
        public_is = public-of _ (private_key s (key_made s random A w)) public private (w + 1) count r.1;
        private_is = private-of (public_key s (ge_of s random A w)) _ public private (w + 1) count r.1;
      }

  pub made_of : setup s random ≡ made public private count → MadeOf s random public private
  unfolding setup
  made_of e =
      let r = past (ltb (length (usable s random)) s.n) FewMultipliers (with_blocks s random (blocks (field_of s) s.w (block_elements s random))) public private count e in
      with-blocks (blocks (field_of s) s.w (block_elements s random)) refl (lt-false _ _ r.0) r.1
