-- A file that is refused as a whole.
use Rattle.std.specs.Prelude.{ℕ, cond, List, Some, None, Ok, Err, Option, Result, nat_eq, option_map}
use Rattle.journal.specs.declared.Header.{Header}
use Rattle.journal.specs.declared.FileFault.{FileFault}
use Rattle.journal.specs.declared.FileFault.TheVariants.{UnknownKind}
use Rattle.journal.specs.Header.{header_of, told_of_file}
use Rattle.report.specs.Line.{refusal_line}

-- what a file of this header is refused for as a whole: its length, or a kind other than the exchanges, of code 1
abbrev pub whole_fault : Result Header FileFault → Option FileFault
whole_fault (Err fault) = Some fault
whole_fault (Ok header) = cond (nat_eq header.code 1) None (Some UnknownKind)

-- the report of a file that is refused as a whole: the line of that refusal, at the place 0
abbrev pub whole_refused : List ℕ → Option (List ℕ)
whole_refused file = option_map (λ fault. refusal_line 0 (told_of_file fault).number) (whole_fault (header_of file))
