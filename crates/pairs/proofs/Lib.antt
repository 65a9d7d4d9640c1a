-- Lemmas and theorems about key pairs. The main ones are marked THEOREM where they stand:
--   Undo      undone-weight
--   Listing   listed-once, listed-weight
--   Places    enough (T has its u places), split
--   Solve     solved-once
--   Opening   vector-once, finds-once (every well-formed key whose W is regular)
--   Good      far, opens-near, opens-nearest, opens, opens-once (every good pair)
--   Triples   triples-once (every good pair)
--   Chain     undone-chain
--   Regular   regular
--   Setup     setup-good (every pair of setup is good)
pub mod Inverse
pub mod Undo
pub mod Encode
pub mod Listing
pub mod Places
pub mod Solve
pub mod Opening
pub mod Good
pub mod Triples
pub mod Chain
pub mod Regular
pub mod Setup
