-- The commands of a file of bookings.
use Rattle.std.specs.Prelude.{ℕ, cond, List, take, ◌==◌}
use Rattle.journal.specs.Steps.{Step, fails, reads, whole}
use Rattle.journal.specs.declared.Command.{Command}
use Rattle.journal.specs.declared.Command.TheVariants.{Book, Close}
use Rattle.journal.specs.declared.CommandFault.TheVariants.{Unknown}

-- A command by its place and operands.
pub data Plain : Type 0 where
  books : ℕ → List ℕ → Plain
  closes : ℕ → Plain

abbrev pub plain : Command → Plain
plain (Book p r) = books p r.now
plain (Close p) = closes p

-- what a code starts at place p, where a record has w bytes, before the rest of the file
abbrev pub step_of : ℕ → ℕ → ℕ → List ℕ → Step Plain
step_of code p w rest =
    cond (code == 0x10) (whole w p rest (books p (take w rest)))
    (cond (code == 0x13) (reads (closes p))
    (fails (Unknown p)))

-- how many bytes of operands a command has
abbrev pub size : Plain → ℕ → ℕ
size (books _ _) w = w
size (closes _) w = 0

-- the place of a command's byte
abbrev pub place_of : Plain → ℕ
place_of (books p _) = p
place_of (closes p) = p
