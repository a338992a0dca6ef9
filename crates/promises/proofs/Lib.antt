-- The demands as theorems about the public calls: Promises has them all, in the users' words, and Examples document 01's starred
-- examples. Below them, from the bottom:
--   Standing             entries in place of slots
--   Agrees, Pop, Push    one call on a sound pool is the rule's call on the entries that stand in it
--   Calls                every call, malformed ones included
--   Holding              a pool that holds the entries of a plain list answers as that list, whatever the calls
--   Begin                what new, new_at, clear and clear_to leave holds nothing; any sound pool holds its entries
--   Moving               the moves that calls report are the rule's
--   Releasing, InTime    what is handed out while no clear comes
--   Slots                when a push is refused; freed slots
--   Codes                every call gives the first code that is due
--   Batches              batches and bulk pushes are sequences of calls
pub mod Standing
pub mod Agrees
pub mod Pop
pub mod Push
pub mod Calls
pub mod Holding
pub mod Begin
pub mod Moving
pub mod Releasing
pub mod InTime
pub mod Slots
pub mod Codes
pub mod Batches
pub mod Promises
mod Examples
