-- The laws of a batch. What they end in:
--   number_bytes, bytes_number, answer_fields (Numbers)           what is written is what is read: numbers as bytes, and the fields of an answer
--   served_core_lem, served_whole, served_keeps (Served)          a record: the core does what document 01 says, and a sound world stays sound
--   ran_all, batch_whole, batch_refused, batch_is_the_calls (Batches)   a batch: it is its records one after the other, and these are the public calls
-- Below them, what the proofs of the code lean on: CodeBytes (bytes, records and answers), CodeServing (a record), CodeRuns (the batch).
pub mod Numbers
pub mod Served
pub mod Batches
pub mod CodeBytes
pub mod CodeServing
pub mod CodeRuns
