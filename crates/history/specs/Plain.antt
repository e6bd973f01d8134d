-- The plain book: a settlement book without slots and accounts, told from its rules alone.
-- It is fed the number of slots that may be used, its book number, and the calls.
use Rattle.std.specs.Prelude.{ℕ, ◌+◌, ◌-◌, Bool, true, false, cond, not, ◌&&◌, ◌||◌, List, [], ◌∷◌, ◌++◌, map, length, replicate, ℤ, pos, ◌+ℤ◌, Some, None, fold, Option, ◌==◌, nat_lt, slice_index_or}
use Rattle.std.specs.List.{range_with_len}
use Rattle.refusal.specs.declared.Refusal.{Refusal}
use Rattle.refusal.specs.Told.{detailed, plain}
use Rattle.record.specs.declared.Posting.{Posting}
use Rattle.record.specs.Reading.{Check, check, first_of}
use Rattle.whole_book.specs.declared.permit.Permit.{Permit}

-- a record, and whether it stands or was withdrawn
pub record Entry (R : Type 0) : Type 0 where
  pub item : R
  pub stands : Bool

pub data State : Type 0 where
  Open : State
  Closed : State
  Reopened : State

-- the calls that change a book, with their arguments
pub data Call (R : Type 0) : Type 0 where
  Books : R → Call R
  Corrects : ℕ → R → Call R
  Withdraws : ℕ → Call R
  Closes : Call R
  Reopens : Call R
  Reissues : Permit → Call R
  Abandons : Permit → Call R

-- What a call answers: nothing more than that it is done, a record's number, a permit, or a refusal. A permit that was handed in comes back with a refusal.
pub data Answer : Type 0 where
  Done : Answer
  Numbered : ℕ → Answer
  Permits : Permit → Answer
  Refuses : Refusal → Answer
  Returns : Refusal → Permit → Answer

-- The mark says whether a record changed since the book was reopened; the sums are noted at each issue.
pub record Plain (R : Type 0) : Type 0 where
  pub entries : List (Entry R)
  pub state : State
  pub edition : ℕ
  pub mark : Bool
  pub noted : List ℤ

abbrev pub new_plain : {R : Type 0} → Plain R
new_plain = record { entries = []; state = Open; edition = 0; mark = false; noted = replicate 32 (pos 0) }

abbrev pub is_open : State → Bool
is_open Open = true
is_open Closed = false
is_open Reopened = false

abbrev pub is_closed : State → Bool
is_closed Open = false
is_closed Closed = true
is_closed Reopened = false

abbrev pub is_reopened : State → Bool
is_reopened Open = false
is_reopened Closed = false
is_reopened Reopened = true

-- the numbers of the entries that pass a test, where the first entry has number n
abbrev pub numbers_from : {R : Type 0} → ℕ → (Entry R → Bool) → List (Entry R) → List ℕ
numbers_from n test [] = []
numbers_from n test (e ∷ es) = cond (test e) (n ∷ numbers_from (n + 1) test es) (numbers_from (n + 1) test es)

-- records are numbered from 1
abbrev pub numbers : {R : Type 0} → (Entry R → Bool) → List (Entry R) → List ℕ
numbers test es = numbers_from 1 test es

abbrev pub is_in : ℕ → List ℕ → Bool
is_in n [] = false
is_in n (m ∷ ms) = n == m || is_in n ms

abbrev pub first_in : List ℕ → Option ℕ
first_in [] = None
first_in (n ∷ ns) = Some n

-- the entries with the one of number n changed
abbrev pub with_number : {R : Type 0} → ℕ → (Entry R → Entry R) → List (Entry R) → List (Entry R)
with_number n f [] = []
with_number n f (e ∷ es) = cond (n == 1) (f e ∷ es) (e ∷ with_number (n - 1) f es)

abbrev pub standing : {R : Type 0} → R → Entry R
standing x = record { item = x; stands = true }

abbrev pub withdrawn : {R : Type 0} → Entry R → Entry R
withdrawn e = record { item = e.item; stands = false }

-- the numbers of the records that stand
abbrev pub all_standing : {R : Type 0} → List (Entry R) → List ℕ
all_standing es = numbers (λ e. e.stands) es

-- the numbers of the records that stand under key k
abbrev pub standing_as : {R : Type 0} → (R → ℕ) → ℕ → List (Entry R) → List ℕ
standing_as keyed k es = numbers (λ e. e.stands && keyed e.item == k) es

-- what some postings move member m by
abbrev pub share : ℕ → List Posting → ℤ
share m [] = pos 0
share m (p ∷ ps) = cond (p.member == m) p.cents (pos 0) +ℤ share m ps

-- a member's sum: its postings in the standing records
abbrev pub sum_of : {R : Type 0} → (R → List Posting) → ℕ → List (Entry R) → ℤ
sum_of posted m [] = pos 0
sum_of posted m (e ∷ es) = cond e.stands (share m (posted e.item)) (pos 0) +ℤ sum_of posted m es

-- one figure for each of the members 1 to 32
abbrev pub per_member : (ℕ → ℤ) → List ℤ
per_member f = map f (range_with_len 1 32)

abbrev pub of_member : ℕ → List ℤ → ℤ
of_member m zs = slice_index_or zs (m - 1) (pos 0)

module _ {R : Type 0} (keyed : R → ℕ) (posted : R → List Posting) (slots number : ℕ) where
  abbrev not_blank : R → Check Refusal
  not_blank x = check (not (keyed x == 0)) (plain 11)

  -- records change in an open or reopened book
  abbrev changeable : Plain R → Check Refusal
  changeable p = check (is_open p.state || is_reopened p.state) (plain 21)

  -- no record of this key stands; else the first that does is told
  abbrev free : List ℕ → Check Refusal
  free [] = check true (plain 23)
  free (n ∷ ns) = check false (detailed 23 n)

  abbrev fitting : Plain R → Permit → Check Refusal
  fitting p t = check (t.number == number && t.edition == p.edition) (plain 27)

  -- what each call checks, in this order, and how it is refused where that fails
  abbrev pub checks : Plain R → Call R → List (Check Refusal)
  checks p (Books x) =
      not_blank x
      ∷ changeable p
      ∷ free (standing_as keyed (keyed x) p.entries)
      ∷ check (nat_lt (length p.entries) slots) (plain 22)
      ∷ []
  checks p (Corrects n x) =
      not_blank x
      ∷ changeable p
      ∷ check (is_in n (all_standing p.entries)) (plain 24)
      ∷ check (is_in n (standing_as keyed (keyed x) p.entries)) (plain 25)
      ∷ []
  checks p (Withdraws n) = changeable p ∷ check (is_in n (all_standing p.entries)) (plain 24) ∷ []
  checks p Closes = check (is_open p.state) (plain 21) ∷ []
  checks p Reopens = check (is_closed p.state) (plain 21) ∷ check (nat_lt p.edition 1000) (plain 26) ∷ []
  checks p (Reissues t) = check (is_reopened p.state) (plain 21) ∷ fitting p t ∷ []
  checks p (Abandons t) = check (is_reopened p.state) (plain 21) ∷ fitting p t ∷ check (not p.mark) (plain 28) ∷ []

  abbrev pub refusal : Plain R → Call R → Option Refusal
  refusal p c = first_of (checks p c)

  abbrev changed : Plain R → List (Entry R) → Plain R
  changed p es = record { entries = es; state = p.state; edition = p.edition; mark = true; noted = p.noted }

  -- an issue closes the book, raises the edition and notes the sums
  abbrev issue : Plain R → Plain R
  issue p = record { entries = p.entries; state = Closed; edition = p.edition + 1; mark = p.mark; noted = per_member (λ m. sum_of posted m p.entries) }

  -- what an accepted call makes of the book
  abbrev pub effect : Plain R → Call R → Plain R
  effect p (Books x) = changed p (p.entries ++ standing x ∷ [])
  effect p (Corrects n x) = changed p (with_number n (λ _. standing x) p.entries)
  effect p (Withdraws n) = changed p (with_number n withdrawn p.entries)
  effect p Closes = issue p
  effect p Reopens = record { entries = p.entries; state = Reopened; edition = p.edition; mark = false; noted = p.noted }
  effect p (Reissues t) = issue p
  effect p (Abandons t) = record { entries = p.entries; state = Closed; edition = p.edition; mark = p.mark; noted = p.noted }

  -- what an accepted call answers
  abbrev grants : Plain R → Call R → Answer
  grants p (Books x) = Numbered (length p.entries + 1)
  grants p (Corrects n x) = Done
  grants p (Withdraws n) = Done
  grants p Closes = Done
  grants p Reopens = Permits (record { number = number; edition = p.edition })
  grants p (Reissues t) = Done
  grants p (Abandons t) = Done

  -- what a refused call answers
  abbrev denies : Call R → Refusal → Answer
  denies (Books x) r = Refuses r
  denies (Corrects n x) r = Refuses r
  denies (Withdraws n) r = Refuses r
  denies Closes r = Refuses r
  denies Reopens r = Refuses r
  denies (Reissues t) r = Returns r t
  denies (Abandons t) r = Returns r t

  abbrev answer_to : Option Refusal → Plain R → Call R → Answer
  answer_to None p c = grants p c
  answer_to (Some r) p c = denies c r

  abbrev pub answer : Plain R → Call R → Answer
  answer p c = answer_to (refusal p c) p c

  -- a refused call changes nothing
  abbrev step_on : Option Refusal → Plain R → Call R → Plain R
  step_on None p c = effect p c
  step_on (Some r) p c = p

  abbrev pub step : Plain R → Call R → Plain R
  step p c = step_on (refusal p c) p c

  -- the book after some calls
  abbrev pub after : List (Call R) → Plain R
  after calls = fold step new_plain calls

  abbrev issues_on : Option Refusal → Call R → Bool
  issues_on (Some r) c = false
  issues_on None (Books x) = false
  issues_on None (Corrects n x) = false
  issues_on None (Withdraws n) = false
  issues_on None Closes = true
  issues_on None Reopens = false
  issues_on None (Reissues t) = true
  issues_on None (Abandons t) = false

  -- whether a call is an issue
  abbrev pub issues : Plain R → Call R → Bool
  issues p c = issues_on (refusal p c) c
