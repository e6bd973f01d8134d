-- The checks of reading in their order, and the refusal of the first that fails.
use Rattle.std.specs.Prelude.{◌≡◌, ℕ, ◌<◌, Bool, cond, ◌&&◌, List, [], ◌∷◌, ℤ, Some, None, Ok, Err, Option, Result, ◌≢◌, nat_le, unsigned_abs}
use Rattle.refusal.specs.declared.Refusal.{Refusal}
use Rattle.refusal.specs.declared.Layer.{Layer}
use Rattle.refusal.specs.Told.{detailed, plain, layer_of}

-- low ≤ n ≤ high
abbrev pub in_range : ℕ → ℕ → ℕ → Bool
in_range low high n = nat_le low n && nat_le n high

-- members are numbered 1 to 32, the quarter hours of a month 1 to 2,980
abbrev pub is_member : ℕ → Bool
is_member n = in_range 1 32 n

abbrev pub is_period : ℕ → Bool
is_period n = in_range 1 2980 n

-- -limit ≤ z ≤ limit
abbrev pub within : ℕ → ℤ → Bool
within limit z = nat_le (unsigned_abs z) limit

-- what must hold, and the fault where it does not
pub record Check (F : Type 0) : Type 0 where
  pub holds : Bool
  pub fault : F

abbrev pub check : {F : Type 0} → Bool → F → Check F
check b f = record { holds = b; fault = f }

-- what one check answers
abbrev pub answer_of : {F : Type 0} → Check F → Result (Unit {0}) F
answer_of t = cond t.holds (Ok tt) (Err t.fault)

-- the fault of the first check that fails
abbrev pub first_of : {F : Type 0} → List (Check F) → Option F
first_of [] = None
first_of (t ∷ ts) = cond t.holds (first_of ts) (Some t.fault)

-- the record, unless there is a fault
abbrev pub unless : {R F : Type 0} → Option F → R → Result R F
unless None r = Ok r
unless (Some f) r = Err f

-- the refusal of an answer
abbrev pub refusal_of : {R F : Type 0} → (F → Refusal) → Result R F → Option Refusal
refusal_of told (Ok r) = None
refusal_of told (Err f) = Some (told f)

-- A refusal of a record of this width: 5 comes with the place of a field inside the record, the others of the layer come alone.
pub data OfRecord (wide : ℕ) : Refusal → Type 0 where
  field : (place : ℕ) → place < wide → OfRecord wide (detailed 5 place)
  whole : (n : ℕ) → layer_of n ≡ Layer.Record → (n ≢ 5) → OfRecord wide (plain n)
