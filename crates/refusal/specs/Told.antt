-- How a refusal is told: its number and detail, and the layer that it comes from.
use Rattle.std.specs.Prelude.{ℕ, cond, List, [], ◌++◌, Some, None, Option, codes, decimal, nat_le}
use Rattle.refusal.specs.declared.Refusal.{Refusal}
use Rattle.refusal.specs.declared.Layer.{Layer}
use Rattle.refusal.specs.declared.Layer.TheVariants.{File, Record, Book}
use Rattle.refusal.specs.declared.MemberFault.{MemberFault}
use Rattle.refusal.specs.declared.MemberFault.TheVariants.{Unknown}
use Rattle.refusal.specs.declared.PageFault.{PageFault}
use Rattle.refusal.specs.declared.PageFault.TheVariants.{TooShort}

-- a refusal that is its number alone, and one with the value that goes with it
abbrev pub plain : ℕ → Refusal
plain n = record { number = n; detail = None }

abbrev pub detailed : ℕ → ℕ → Refusal
detailed n v = record { number = n; detail = Some v }

-- how a refusal is printed: its number, and the detail in parentheses where there is one
abbrev pub detail_text : Option ℕ → List ℕ
detail_text None = []
detail_text (Some v) = codes " (" ++ decimal v ++ codes ")"

abbrev pub text_of : Refusal → List ℕ
text_of r = decimal r.number ++ detail_text r.detail

-- file for 1 to 4, record for 5 to 10, book for the rest
abbrev pub layer_of : ℕ → Layer
layer_of n = cond (nat_le n 4) File (cond (nat_le n 10) Record Book)

abbrev pub name_of : Layer → List ℕ
name_of File = codes "file"
name_of Record = codes "record"
name_of Book = codes "book"

abbrev pub told_of_member : MemberFault → Refusal
told_of_member Unknown = plain 12

abbrev pub told_of_page : PageFault → Refusal
told_of_page TooShort = plain 13
