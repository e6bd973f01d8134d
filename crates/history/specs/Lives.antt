-- The lives of a book: calls one after another, each as its contract promises it.
use Rattle.std.specs.Prelude.{◌≡◌, ℕ, cond, List, [], ◌∷◌, ◌++◌, ℤ, pos, Ok, Err, Result}
use Rattle.refusal.specs.declared.MemberFault.{MemberFault}
use Rattle.record.specs.declared.Posting.{Posting}
use Rattle.ledger.specs.declared.Account.{Account}
use Rattle.ledger.specs.Moves.{account_of}
use Rattle.slots.specs.declared.Slot.{Slot}
use Rattle.whole_book.specs.declared.permit.Unspent.{Unspent}
use Rattle.whole_book.specs.declared.register.Register.{Register}
use Rattle.whole_book.specs.declared.register.BookFault.{BookFault}
use Rattle.whole_book.specs.Rules.{told_of}
use Rattle.slots.specs.Calls as calls
use Rattle.slots.specs.Calls.{Comes, capacity}
use Rattle.whole_book.specs.Steps.{abandoning, booking, closing, correcting, new_register, reissuing, reopening, withdrawing}
use Rattle.history.specs.Plain.{Call, Books, Corrects, Withdraws, Closes, Reopens, Reissues, Abandons, Answer, Done, Numbered, Permits, Refuses, Returns, after, issues, per_member}

-- a call's result as an answer
abbrev pub told : {A : Type 0} → (A → Answer) → Result A BookFault → Answer
told f (Ok a) = f a
told f (Err e) = Refuses (told_of e)

abbrev pub told_unspent : Result (Unit {0}) Unspent → Answer
told_unspent (Ok _) = Done
told_unspent (Err u) = Returns (told_of u.fault) u.permit

-- a call whose contract is d came to slots ss and register b, and to a result that is told as a
pub record Came {R A E : Type 0} (d : calls.Done R Register A E) (tell : Result A E → Answer) (a : Answer) (ss : List (Slot R)) (b : Register) : Type 0 where
  pub result : Result A E
  pub came : Comes d result ss b
  pub tells : a ≡ tell result

-- the last charge that the account call answers
abbrev pub last_in : Result Account MemberFault → ℤ
last_in (Ok a) = a.last
last_in (Err f) = pos 0

-- the 32 last charges, as the account call answers them
abbrev pub read_charges : Register → List ℤ
read_charges b = per_member (λ m. last_in (account_of b.ledger m))

module _ {R : Type 0} (keyed : R → ℕ) (posted : R → List Posting) where
  -- What the contract of each call promises: from slots ss and register b, with answer a, to ss' and b'.
  abbrev pub Acts : Call R → Answer → List (Slot R) → Register → List (Slot R) → Register → Type 0
  Acts (Books x) a ss b ss' b' = Came (booking keyed posted ss b x) (told Numbered) a ss' b'
  Acts (Corrects n x) a ss b ss' b' = Came (correcting keyed posted ss b n x) (told (λ _. Done)) a ss' b'
  Acts (Withdraws n) a ss b ss' b' = Came (withdrawing posted ss b n) (told (λ _. Done)) a ss' b'
  Acts Closes a ss b ss' b' = Came (closing ss b) (told (λ _. Done)) a ss' b'
  Acts Reopens a ss b ss' b' = Came (reopening ss b) (told Permits) a ss' b'
  Acts (Reissues t) a ss b ss' b' = Came (reissuing ss b t) told_unspent a ss' b'
  Acts (Abandons t) a ss b ss' b' = Came (abandoning ss b t) told_unspent a ss' b'

  -- A life of a book that was opened under a number over some slots: the calls and their answers so far, the last charges
  -- that were read just after each issue of the plain book, and the slots and the register that the book has now.
  pub data Life (number : ℕ) (slots : List (Slot R)) : List (Call R) → List Answer → List (List ℤ) → List (Slot R) → Register → Type 0 where
    opened : Life number slots [] [] [] slots (new_register number)
    further : {calls : List (Call R)} {answers : List Answer} {reads : List (List ℤ)} {ss ss' : List (Slot R)} {b b' : Register} →
        Life number slots calls answers reads ss b → (c : Call R) (a : Answer) → Acts c a ss b ss' b' →
        Life number slots (calls ++ c ∷ []) (answers ++ a ∷ []) (reads ++ cond (issues keyed posted (capacity slots) number (after keyed posted (capacity slots) number calls) c) (read_charges b' ∷ []) []) ss' b'
