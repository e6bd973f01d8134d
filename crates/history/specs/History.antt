-- What every life of a book comes to, told by the plain book.
use Rattle.std.specs.Prelude.{◌≡◌, ℕ, ◌≤◌, true, List, [], ◌∷◌, map, length, replicate, ℤ, pos, Ok, Err, fold, Result}
use Rattle.std.specs.List.{AllByRecursion}
use Rattle.refusal.specs.declared.MemberFault.{MemberFault}
use Rattle.amounts.specs.Cut.{total}
use Rattle.record.specs.declared.Posting.{Posting}
use Rattle.record.specs.Reading.{is_member}
use Rattle.ledger.specs.declared.Account.{Account}
use Rattle.ledger.specs.Moves.{account_of, last_charges}
use Rattle.slots.specs.declared.Slot.{Slot}
use Rattle.whole_book.specs.declared.register.Register.{Register}
use Rattle.whole_book.specs.declared.register.BookState.{BookState}
use Rattle.whole_book.specs.declared.register.BookState.TheVariants as register
use Rattle.slots.specs.Entries.{lookup, stands}
use Rattle.slots.specs.Calls.{capacity}
use Rattle.whole_book.specs.Steps.{entries}
use Rattle.history.specs.Plain.{Call, Answer, Entry, Plain, State, Open, Closed, Reopened, new_plain, after, answer, first_in, of_member, per_member, standing_as, step, sum_of}
use Rattle.history.specs.Lives.{Life}

-- member m's account, as the account call answers it
pub record Holds (b : Register) (m : ℕ) (balance charged : ℤ) : Type 0 where
  pub account : Account
  pub answers : account_of b.ledger m ≡ Ok account
  pub balances : account.balance ≡ balance
  pub charges : account.charged ≡ charged

-- the balance that the account call answers
abbrev pub balance_in : Result Account MemberFault → ℤ
balance_in (Ok a) = a.balance
balance_in (Err f) = pos 0

abbrev pub state_of : BookState → State
state_of register.Open = Open
state_of register.Closed = Closed
state_of register.Reopened = Reopened

-- a slot as an entry of the plain book
abbrev pub entry_of : {R : Type 0} → Slot R → Entry R
entry_of s = record { item = s.item; stands = stands s.state }

-- the newest of some rows of 32; zeros before the first
abbrev pub newest : List (List ℤ) → List ℤ
newest rows = fold (λ _ row. row) (replicate 32 (pos 0)) rows

module _ {R : Type 0} (keyed : R → ℕ) (posted : R → List Posting) where
  -- what the plain book answers to calls from p on
  abbrev pub answers_from : ℕ → ℕ → Plain R → List (Call R) → List Answer
  answers_from slots number p [] = []
  answers_from slots number p (c ∷ cs) = answer keyed posted slots number p c ∷ answers_from slots number (step keyed posted slots number p c) cs

  -- What holds of a book after some calls, where p is the plain book after the same calls.
  pub record Stands (p : Plain R) (number : ℕ) (reads : List (List ℤ)) (ss : List (Slot R)) (b : Register) : Type 0 where
    -- each balance is the member's sum, and what was charged is its sum noted at the last issue
    pub accounts : (m : ℕ) → is_member m ≡ true → Holds b m (sum_of posted m p.entries) (of_member m p.noted)
    -- all balances add up to zero
    pub even : total (per_member (λ m. balance_in (account_of b.ledger m))) ≡ pos 0
    -- a member's last charges, read after each issue, add up to its noted sum
    pub charges : (m : ℕ) → is_member m ≡ true → total (map (of_member m) reads) ≡ of_member m p.noted
    -- the last charges of an issue add up to zero
    pub flat : AllByRecursion (λ row. total row ≡ pos 0) reads
    -- a statement shows each member's charge of the last issue
    pub stated : (m : ℕ) → is_member m ≡ true → of_member m (last_charges b.ledger) ≡ of_member m (newest reads)
    -- the booked slots hold the records
    pub shows : map entry_of (entries ss b) ≡ p.entries
    -- no two records stand under one key, and none is blank
    pub sole : (k : ℕ) → length (standing_as keyed k p.entries) ≤ 1
    pub keyed_all : standing_as keyed 0 p.entries ≡ []
    -- a look-up answers the number of the record that stands under a key
    pub found : (k : ℕ) → lookup keyed k (entries ss b) ≡ first_in (standing_as keyed k p.entries)
    pub numbered : b.number ≡ number
    pub edition : b.edition ≡ p.edition
    pub state : state_of b.state ≡ p.state

  -- In every life the answers are those of the plain book, and the book stands as it does.
  abbrev pub LivesStand : Type 0
  LivesStand =
      (number : ℕ) (slots : List (Slot R)) (calls : List (Call R)) (answers : List Answer) (reads : List (List ℤ)) (ss : List (Slot R)) (b : Register) →
      Life keyed posted number slots calls answers reads ss b →
      (answers ≡ answers_from (capacity slots) number new_plain calls)
      × Stands (after keyed posted (capacity slots) number calls) number reads ss b

  -- some life of these calls
  pub record Lived (number : ℕ) (slots : List (Slot R)) (calls : List (Call R)) : Type 0 where
    pub answers : List Answer
    pub reads : List (List ℤ)
    pub ss : List (Slot R)
    pub b : Register
    pub life : Life keyed posted number slots calls answers reads ss b

  -- Every list of calls can be made on a book newly opened under any number over any slots.
  abbrev pub AllLived : Type 0
  AllLived = (number : ℕ) (slots : List (Slot R)) (calls : List (Call R)) → Lived number slots calls

  abbrev pub HistoryStands : Type 0
  HistoryStands = LivesStand × AllLived
