-- What the block search leaves.
use Rattle.std.specs.Prelude.{◌≡◌, List, ℕ, suc}
use Rattle.gf.specs.Ten.{ten}
use Rattle.scheme.specs.Setup.{with_block, none, blocks}
use Rattle.making.specs.declared.blocks.Block.{Block}

-- the search among x for one block or more takes the block b, and goes on behind it
pub record FirstBlock (x : List ℕ) (b : Block) (rest : List ℕ) : Type 0 where
  pub leads : (w : ℕ) → blocks ten (suc w) x ≡ with_block b.a b.b b.c b.d (blocks ten w rest)

-- the search for one block or more finds none
abbrev pub NoBlock : List ℕ → Type 0
NoBlock x = (w : ℕ) → blocks ten (suc w) x ≡ none
