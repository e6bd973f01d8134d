-- The steps through a settlement file, whatever its commands are.
use Rattle.std.specs.Prelude.{◌≡◌, ℕ, ◌+◌, cond, List, length, drop, Some, None, Ok, Err, Option, Result, nat_le, nat_lt, slice_index}
use Rattle.refusal.specs.declared.Refusal.{Refusal}
use Rattle.refusal.specs.Told as told
use Rattle.journal.specs.declared.CommandFault.{CommandFault}
use Rattle.journal.specs.declared.CommandFault.TheVariants.{Unknown, CutOff}
use Rattle.journal.specs.declared.FileReader.{FileReader}

-- A step through a file: a command by its place and operands, a fault, or the end.
pub data Step (C : Type 0) : Type 0 where
  ends : Step C
  fails : CommandFault → Step C
  reads : C → Step C

-- a reader's answer as a step
abbrev pub step : {A C : Type 0} → (A → C) → Option (Result A CommandFault) → Step C
step plain None = ends
step plain (Some (Err f)) = fails f
step plain (Some (Ok c)) = reads (plain c)

-- a command at place p whose n bytes of operands have to stand in what follows
abbrev pub whole : {C : Type 0} → ℕ → ℕ → List ℕ → C → Step C
whole n p rest c = cond (nat_le n (length rest)) (reads c) (fails (CutOff p))

-- the step at place p, where a record has w bytes
abbrev pub step_at : {C : Type 0} → (ℕ → ℕ → ℕ → List ℕ → Step C) → ℕ → List ℕ → ℕ → Step C
step_at step_of w xs p = cond (nat_lt p (length xs)) (step_of (slice_index xs p) p w (drop (p + 1) xs)) ends

-- where the reader stands after a step: a fault ends the file
abbrev pub after_step : {C : Type 0} → (C → ℕ → ℕ) → Step C → ℕ → List ℕ → ℕ → ℕ
after_step size ends w xs p = p
after_step size (fails _) w xs p = length xs
after_step size (reads c) w xs p = p + 1 + size c w

-- a call gives the step at the reader's place, and moves the reader past that step in the same file
pub record Gives {A C : Type 0} (plain : A → C) (step_of : ℕ → ℕ → ℕ → List ℕ → Step C) (size : C → ℕ → ℕ) (s : FileReader A) (r : Option (Result A CommandFault)) (t : FileReader A) : Type 0 where
  pub value : step plain r ≡ step_at step_of s.width s.bytes.now s.at
  pub at : t.at ≡ after_step size (step plain r) s.width s.bytes.now s.at
  pub same : (t.bytes.now ≡ s.bytes.now) × (t.width ≡ s.width)

-- the place of a fault's command byte
abbrev pub place_of_fault : CommandFault → ℕ
place_of_fault (Unknown p) = p
place_of_fault (CutOff p) = p

abbrev pub told_of_command : CommandFault → Refusal
told_of_command (Unknown _) = told.plain 3
told_of_command (CutOff _) = told.plain 4
