-- The laws of the bucket rule. What they end in:
--   answers_as_the_plain_list, pop_takes_the_last_greatest, entries_stand_arranged (PlainWords)   demand 2
--   push_refused_exactly (Calls)                                                                  demand 2
--   moves_accounted, moves_within_bound, moves_exact, moves_within_summed_bound (Moves)           demand 3
--   ledger_answers, ledger_heap, ledger_taken, ledger_moves (Moves)                               the ledger changes nothing
--   clear_is_fresh, clear_to_is_fresh (Moves)                                                     "since a fresh heap or a clear"
--   calls_keep_soundness, stands_plain (Stands)                                                   soundness
--   released_in_order (Released)                                                                  the safety office's sentence
-- Below them: Width (distances and zero bits), Lists, Arranged (every call keeps the entries arranged), Line (what a call does
-- to the list in push order), Forget (what entries carry besides does not change the rule). Examples computes document 01's.
-- A proof about code starts from Stands and Line.
pub mod Width
pub mod Lists
pub mod Calls
pub mod Arranged
pub mod Line
pub mod PlainWords
pub mod Stands
pub mod Forget
pub mod Moves
pub mod Released
mod Examples
