-- The theorems of specs/Demands.antt; they stand together in Demands. The main ones are marked THEOREM where they stand:
--   Finding    at-most-one (every key that is neither malformed nor singular)
--   Opening    opens, once (every good pair)
--   Only       only (every key)
--   Promised   promised (every good pair)
--   Setup      setup-pairs (every pair of setup is good)
--   Blocks     block-triple, sealed (what sealing gives is the ciphertext of a triple)
--   Ending     demand1 (how every call ends);  Giving  demand2 (what it gives)
--   Calls      open-all, seal-opens;  Wrapping  wrap-opens
--   Choosing   seal-chooses, wrap-chooses (a block is passed over exactly if it has a zero error value)
--   Settled    open-once, unwrap-once (what opening promises leaves one answer, for all inputs)
--   Demands    known-demands (all of it, of every set of the table); demands-6, demands-1
--   Arriving   sealed-arrives, wrapped-arrives, strings-answered (through setup, sealing and opening, for every set byte)
-- opening, of any key
mod Sound
mod Reading
pub mod Finding
-- triples and good pairs
mod Lost
mod Errors
mod Pairs
mod Sent
mod Triples
pub mod Opening
pub mod Only
pub mod Promised
-- setup
mod Drawing
mod Keys
mod Chain
mod Made
mod Matrices
pub mod Setup
-- the calls: how each ends, and what it gives
pub mod Ending
pub mod Choosing
pub mod Blocks
pub mod Calls
pub mod Wrapping
pub mod Giving
pub mod Known
pub mod Settled
pub mod Demands
pub mod Arriving
