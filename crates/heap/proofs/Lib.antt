-- The laws of the calls. What they end in:
--   push_core_lem, pop_core_lem, constrain_core_lem, clear_core_lem, clear_to_core_lem, list_core_lem (Calls, ListLaws)
--                                     on a sound world the core does what document 01 says
--   push_follows, pop_follows, constrain_follows, clear_follows, clear_to_follows (Calls), made_follows, made_at_follows (Public)
--                                     sound world in, sound world out, the rule's call at slots
--   refused_changes_nothing (Public)   any call, any world: a refused call gives back what it got
--   determined_.. (Determined)         no second outcome
-- Code..: what the proofs of the code lean on.
pub mod Calls
pub mod Public
pub mod ListLaws
pub mod CodeChecked
pub mod CodeFresh
pub mod CodeCalls
pub mod Determined
