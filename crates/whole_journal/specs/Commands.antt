-- The commands of a file for a book that can be corrected.
use Rattle.std.specs.Prelude.{ℕ, ◌+◌, cond, List, take, drop, ◌==◌}
use Rattle.wire.specs.Bytes.{number}
use Rattle.journal.specs.Steps.{Step, fails, reads, whole}
use Rattle.journal.specs.declared.CommandFault.TheVariants.{Unknown}
use Rattle.whole_journal.specs.declared.Command.{Command}
use Rattle.whole_journal.specs.declared.Command.TheVariants.{Book, Correct, Withdraw, Close, Reopen, Reissue, Abandon}

-- A command by its place and operands.
pub data Plain : Type 0 where
  books : ℕ → List ℕ → Plain
  corrects : ℕ → ℕ → List ℕ → Plain
  withdraws : ℕ → ℕ → Plain
  closes : ℕ → Plain
  reopens : ℕ → Plain
  reissues : ℕ → Plain
  abandons : ℕ → Plain

abbrev pub plain : Command → Plain
plain (Book p r) = books p r.now
plain (Correct p n r) = corrects p n r.now
plain (Withdraw p n) = withdraws p n
plain (Close p) = closes p
plain (Reopen p) = reopens p
plain (Reissue p) = reissues p
plain (Abandon p) = abandons p

-- what a code starts at place p, where a record has w bytes, before the rest of the file
abbrev pub step_of : ℕ → ℕ → ℕ → List ℕ → Step Plain
step_of code p w rest =
    cond (code == 0x10) (whole w p rest (books p (take w rest)))
    (cond (code == 0x11) (whole (2 + w) p rest (corrects p (number (take 2 rest)) (take w (drop 2 rest))))
    (cond (code == 0x12) (whole 2 p rest (withdraws p (number (take 2 rest))))
    (cond (code == 0x13) (reads (closes p))
    (cond (code == 0x14) (reads (reopens p))
    (cond (code == 0x15) (reads (reissues p))
    (cond (code == 0x16) (reads (abandons p))
    (fails (Unknown p))))))))

-- how many bytes of operands a command has
abbrev pub size : Plain → ℕ → ℕ
size (books _ _) w = w
size (corrects _ _ _) w = 2 + w
size (withdraws _ _) w = 2
size (closes _) w = 0
size (reopens _) w = 0
size (reissues _) w = 0
size (abandons _) w = 0

-- the place of a command's byte
abbrev pub place_of : Plain → ℕ
place_of (books p _) = p
place_of (corrects p _ _) = p
place_of (withdraws p _) = p
place_of (closes p) = p
place_of (reopens p) = p
place_of (reissues p) = p
place_of (abandons p) = p
