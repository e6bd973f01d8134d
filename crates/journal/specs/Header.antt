-- The header of a settlement file.
use Rattle.std.specs.Prelude.{ℕ, cond, ◌&&◌, List, length, Ok, Err, Result, nat_le, slice_index}
use Rattle.refusal.specs.declared.Refusal.{Refusal}
use Rattle.refusal.specs.Told.{plain}
use Rattle.wire.specs.Bytes.{number, part}
use Rattle.journal.specs.declared.Header.{Header}
use Rattle.journal.specs.declared.FileFault.{FileFault}
use Rattle.journal.specs.declared.FileFault.TheVariants.{Length, UnknownKind}

-- a file of 5 to 32,768 bytes begins with the kind's code and the book's number
abbrev pub header_of : List ℕ → Result Header FileFault
header_of file =
    cond (nat_le 5 (length file) && nat_le (length file) 32768)
    (Ok (record { code = slice_index file 0; number = number (part 1 4 file) }))
    (Err Length)

abbrev pub told_of_file : FileFault → Refusal
told_of_file Length = plain 1
told_of_file UnknownKind = plain 2
