-- What the calls on a book of slots answer, and what they leave. B is what the book keeps beside its slots.
use Rattle.std.specs.Prelude.{◌≡◌, ℕ, min, List, length, Result}
use Rattle.std.specs.Borrow.{MutBor}
use Rattle.slots.specs.declared.Slot.{Slot}
use Rattle.slots.specs.declared.SlotState.TheVariants.{Standing}

-- how many slots are used at most
abbrev pub capacity : {R : Type 0} → List (Slot R) → ℕ
capacity ss = min (length ss) 4096

abbrev pub standing : {R : Type 0} → R → Slot R
standing x = record { item = x; state = Standing }

-- an answer, with the slots and the register that it comes with
pub record Done (R B A E : Type 0) : Type 0 where
  pub answer : Result A E
  pub slots : List (Slot R)
  pub register : B

-- a call came out as d says
pub record Comes {R B A E : Type 0} (d : Done R B A E) (answer : Result A E) (slots : List (Slot R)) (register : B) : Type 0 where
  pub answers : answer ≡ d.answer
  pub leaves : slots ≡ d.slots
  pub keeps : register ≡ d.register

-- a call came out as d says, and its slots are those that were lent
pub record Called {R B A E : Type 0} (d : Done R B A E) (answer : Result A E) (before after : MutBor (List (Slot R))) (register : B) : Type 0 where
  pub came : Comes d answer after.now register
  pub lent : after.ghost_name ≡ before.ghost_name
