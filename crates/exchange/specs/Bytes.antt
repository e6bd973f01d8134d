-- The twenty bytes of an exchange.
use Rattle.std.specs.Prelude.{ℕ, cond, List, [], ◌∷◌, ◌++◌, length, Err, Result, nat_lt, slice_index}
use Rattle.std.specs.Int.{w32}
use Rattle.wire.specs.Bytes.{bytes, number, signed_bytes, signed_number, part}
use Rattle.record.specs.Reading.{unless}
use Rattle.exchange.specs.declared.Exchange.{Exchange}
use Rattle.exchange.specs.declared.ExchangeFault.{ExchangeFault}
use Rattle.exchange.specs.declared.ExchangeFault.TheVariants.{CutOff}
use Rattle.exchange.specs.Meaning.{fault_of}

-- the fields as they stand in the first twenty bytes
abbrev pub fields_of : List ℕ → Exchange
fields_of s = record { product = slice_index s 0; period = number (part 1 2 s); border = slice_index s 3; importer = slice_index s 4; exporter = slice_index s 5; volume = number (part 6 4 s); importing = signed_number w32 (part 10 4 s); exporting = signed_number w32 (part 14 4 s); percentage = slice_index s 18; reserved = slice_index s 19 }

abbrev pub bytes_of : Exchange → List ℕ
bytes_of e = e.product ∷ (bytes 2 e.period ++ (e.border ∷ e.importer ∷ e.exporter ∷ (bytes 4 e.volume ++ (signed_bytes w32 4 e.importing ++ (signed_bytes w32 4 e.exporting ++ (e.percentage ∷ e.reserved ∷ []))))))

-- reading: cut off first, then the checks of the fields
abbrev pub read_of : List ℕ → Result Exchange ExchangeFault
read_of s = cond (nat_lt (length s) 20) (Err CutOff) (unless (fault_of (fields_of s)) (fields_of s))
