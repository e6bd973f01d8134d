-- The bytes of a statement, and what writing it into a page answers.
use Rattle.std.specs.Prelude.{ℕ, ◌+◌, cond, List, ◌∷◌, ◌++◌, length, ℤ, Ok, Err, Result, nat_le}
use Rattle.std.specs.Int.{w64}
use Rattle.std.specs.List.{flat_map}
use Rattle.refusal.specs.declared.PageFault.{PageFault}
use Rattle.refusal.specs.declared.PageFault.TheVariants.{TooShort}
use Rattle.wire.specs.Bytes.{bytes, signed_bytes}
use Rattle.statement.specs.declared.Statement.{Statement}

-- amounts of 8 bytes each, one after another
abbrev pub amounts : List ℤ → List ℕ
amounts zs = flat_map (signed_bytes w64 8) zs

-- the byte 30, the book's number in 4 bytes, the edition in 2, and the last charges of the members 1 to 32
abbrev pub bytes_of : Statement → List ℕ
bytes_of s = 0x30 ∷ (bytes 4 s.number ++ (bytes 2 s.edition ++ amounts s.charges))

-- a statement has 263 bytes
abbrev pub writes : ℕ → List ℕ → Result (Unit {0}) PageFault
writes at page = cond (nat_le (at + 263) (length page)) (Ok tt) (Err TooShort)
