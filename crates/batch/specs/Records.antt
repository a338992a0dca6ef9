-- Document 01, "Batch records": records of 32 bytes, "byte 0 the operation .., bytes 1 to 7 zero, then first key word, second key
-- word, value. Fields an operation doesn't use are zero, as is the second word in kinds 1 to 3."
use Rattle.std.specs.Prelude.{Bool, cond, ◌&&◌, ◌||◌, List, [], ◌∷◌, ℕ, zero, suc, ◌+◌, eqb, get_or}
use Rattle.keys.specs.declared.kind.Kind.{Kind}
use Rattle.keys.specs.Ordered.{well_formed}
use Rattle.batch.specs.declared.records.Record.{Record}
use Rattle.batch.specs.Bytes.{number}

-- the record that starts at a place: `rest` says whether bytes 1 to 7 are zero
unfoldable pub record_at : List ℕ → ℕ → Record
record_at bs at = record {
  op = get_or bs at 0;
  rest = eqb (number 7 bs (at + 1)) 0;
  key = record { first = number 8 bs (at + 8); second = number 8 bs (at + 16) };
  value = number 8 bs (at + 24);
}

-- k records from a place on
unfoldable pub records_from : ℕ → List ℕ → ℕ → List Record
records_from zero bs at = []
records_from (suc k) bs at = record_at bs at ∷ records_from k bs (at + 32)

-- no key and no value
abbrev pub bare : Record → Bool
bare r = eqb r.key.first 0 && eqb r.key.second 0 && eqb r.value 0

-- "unknown operation or a field not zero that must be" is code 5: the fields that each operation uses
unfoldable pub fields_fit : Kind → Record → Bool
fields_fit kind r =
    cond (eqb r.op 1) (well_formed kind r.key.first r.key.second)
    (cond (eqb r.op 5) (well_formed kind r.key.first r.key.second && eqb r.value 0)
    ((eqb r.op 2 || eqb r.op 3 || eqb r.op 4 || eqb r.op 6 || eqb r.op 7) && bare r))

unfoldable pub formed : Kind → Record → Bool
formed kind r = r.rest && fields_fit kind r
