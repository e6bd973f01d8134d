-- What is written for a file that is refused as a whole.
use Rattle.std.proofs.Common.{◌≡◌, ℕ, ◌+◌, ◌<◌, Bool, true, false, cond, ◌&&◌, List, [], ◌∷◌, length, take, drop, Some, None, Option, option_map, IfSome, sym, refl, ap, ◌∙◌, subst, ⊎_elim, arith}
use Rattle.std.specs.Prelude.{Ok, Err, Result, is_ok, nat_le}
use Rattle.std.specs.Borrow.{MutBor}
use Rattle.std.specs.Io.KnownBytes.{Appends}
use Rattle.std.proofs.KnownBytes.{Appends-trans}
use Rattle.std.proofs.lemmas.Bool.{and_right, cases_lt, cond-false, lt-leb}
use Rattle.std.proofs.lemmas.List.{length-take-le, take_all}
use Rattle.std.proofs.Math.Seq.{take-append_seam}
use Rattle.refusal.specs.declared.PageFault.{PageFault}
use Rattle.refusal.specs.declared.PageFault.TheVariants.{TooShort}
use Rattle.journal.specs.declared.FileFault.TheVariants.{Length}
use Rattle.journal.specs.Header.{header_of, told_of_file}
use Rattle.report.specs.Line.{refusal_line}
use Rattle.report.specs.Lines.{Added, all_added}
use Rattle.desk.specs.Refused.{whole_fault, whole_refused}

-- a page, the place where its lines end, and an answer
abbrev State : Type 0
State = List ℕ × (ℕ × Result (Unit {0}) PageFault)

-- an answer that is Ok
pub fitted : (r : Result (Unit {0}) PageFault) → true ≡ is_ok r → r ≡ Ok tt
fitted (Ok _) e = refl
fitted (Err f) e = grind arith

-- a line that was added was added whole
added : (b : Bool) (fit stop after : State) → stop.1.1 ≡ Err TooShort → after.1.1 ≡ Ok tt → cond b fit stop ≡ after → fit ≡ after
added true fit stop after short ok came = came
added false fit stop after short ok came = let same = ap (λ s. s.1.1) came in absurd (grind arith)

-- on a page of no lines, it is all of them
only_line : (line before after : List ℕ) (start end : ℕ) → start ≡ 0 → all_added (line ∷ []) before start ≡ (after, (end, Ok tt)) → take end after ≡ line
only_line line before after start end none came =
    let first : all_added (line ∷ []) before 0 ≡ (after, (end, Ok tt)) = ap (all_added (line ∷ []) before) (sym none) ∙ came in
    let fit = added (nat_le (0 + length line) (length before)) _ _ (after, (end, Ok tt)) refl refl first in
    let last = sym (ap (λ s. s.1.0) fit) in
    let ends : end ≡ length line = omega arith in
    let page = sym (ap (λ s. s.0) fit) in
    ap (λ n. take n after) ends ∙ ap (take (length line)) page ∙ take-append_seam line (drop (0 + length line) before)

-- what is written after nothing: so that the proof of `run` holds of what is written, and not of one call of `write_all`
pub after_nothing : (a b c : Option (List ℕ)) (bs : List ℕ) → Appends a b [] → Appends b c bs → Appends a c bs
after_nothing a b c bs none wrote = Appends-trans a b c [] bs none wrote

long : (file : List ℕ) → 32768 < length file → header_of file ≡ Err Length
long file h = cond-false (nat_le 5 (length file) && nat_le (length file) 32768) _ _ (and_right _ _ (lt-leb (length file) 32768 h))

-- a file that is cut after 32,769 bytes is refused as it is whole
cut_refused : (file : List ℕ) → whole_refused (take 32769 file) ≡ whole_refused file
cut_refused file =
    ⊎_elim
    (λ more.
    let cut : length (take 32769 file) ≡ 32769 = length-take-le 32769 file (omega arith) in
    ap (λ h. option_map (λ fault. refusal_line 0 (told_of_file fault).number) (whole_fault h)) (long (take 32769 file) (omega arith) ∙ sym (long file more)))
    (λ all. ap whole_refused (take_all 32769 file (omega arith)))
    (cases_lt 32768 (length file))

-- the lines of a report that was begun on a page of no lines were written
module _ (before after : MutBor (List ℕ)) (lines : List ℕ) (start end : ℕ) (old new : Option (List ℕ)) (none : start ≡ 0) (all : lines ≡ take end after.now) (wrote : Appends old new lines) where
  line_written : (o : Option (List ℕ)) → IfSome o (λ line. Added (line ∷ []) before start after end (Ok tt)) → IfSome o (λ line. Appends old new line)
  line_written None came = tt
  line_written (Some line) came = subst (Appends old new) (all ∙ only_line line before.now after.now start end none came.came) wrote

  -- of a file, of which the first 32,769 bytes were read
  pub whole_written : (known : Option (List ℕ)) (file : List ℕ) → IfSome known (λ bytes. file ≡ take 32769 bytes)
      → IfSome (whole_refused file) (λ line. Added (line ∷ []) before start after end (Ok tt))
      → IfSome known (λ bytes. IfSome (whole_refused bytes) (λ line. Appends old new line))
  whole_written None file read came = tt
  whole_written (Some bytes) file read came =
      subst (λ o. IfSome o (λ line. Appends old new line)) (ap whole_refused read ∙ cut_refused bytes) (line_written (whole_refused file) came)
