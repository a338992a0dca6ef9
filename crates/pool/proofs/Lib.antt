-- The laws of the pool. What they end in:
--   examined_sound, examined_unfit, examined_unsound (Exam)     the examination gives 0 just if a pool is fit and sound, 1 just if it is not fit
--   laid_out_once, lay_chains (Lay)                             head, keys, values and the 131 chains determine every link and the busy words
--   fresh_follows, enter_follows, constrain_follows, pop_follows (Follows)
--                                                               a sound world stays sound, its chains are those of the rule's call at slots
--   enter_links, constrain_links, fresh_core_lem; constrain_step, pop_step (Follows)
--                                                               and its links those that the chains are laid out as; moves, slots and words given
--   held_len, free_len (Follows)                                the length counts the entries held, and the rest is free
--   whole_ready (Fine)                                          an examined pool has the bounds that the core asks for
-- Below them: Chains (lists of slots), Digits, Marks and Lowest (the busy words), Laid (links laid out as chains, with slots off), OnChains
-- (one chain changes), Keys (words of slots), Push, Take, FreshPool, Drain (what a step does to chains), Refine and Pop (the rule's
-- steps), Fine and Steps (what steps keep on any links, sound or not), Code.. (what the proofs of the code lean on).
pub mod Chains
pub mod Digits
pub mod Marks
pub mod Lowest
pub mod Exam
pub mod Laid
pub mod OnChains
pub mod Lay
pub mod Keys
pub mod Push
pub mod Take
pub mod FreshPool
pub mod Drain
pub mod Refine
pub mod Pop
pub mod Follows
pub mod Fine
pub mod Steps
pub mod CodeState
pub mod CodeMarks
pub mod CodeAgainst
pub mod CodeAlong
pub mod CodeFresh
pub mod CodeExam
pub mod Refusals
