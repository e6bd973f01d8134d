use Rattle.std.proofs.Common.{◌-◌, List, set, Ok, Err, Result, sym, subst}
use Rattle.ledger.specs.Moves.{all_posted}
use Rattle.slots.specs.declared.Slot.{Slot}
use Rattle.whole_book.specs.declared.permit.Permit.{Permit}
use Rattle.whole_book.specs.declared.register.Register.{Register}
use Rattle.whole_book.specs.declared.register.BookFault.{BookFault}
use Rattle.whole_book.specs.Rules.{Fitting, correctable}
use Rattle.slots.specs.Calls.{Comes, Done, standing}
use Rattle.whole_book.specs.Steps.{accepted, alone, changed_to, entries, unless_refused, without}
use Rattle.exchange.specs.Meaning.{key_of, postings}
use Rattle.runs.proofs.tests.correct_first.Goals as goal

-- a permit fits after a call, accepted or refused, if it fits what an accepted one leaves
after : {R : Type 0} (p : Permit) (ss : List (Slot R)) (b : Register) (r : Result (Unit {0}) BookFault) (ss' : List (Slot R)) (b' : Register) (o : Result R BookFault) (next : R → Done R Register (Unit {0}) BookFault)
    → ((x : R) → Fitting p (next x).register) → Fitting p b → Comes (unless_refused alone o ss b next) r ss' b' → Fitting p b'
after p ss b r ss' b' (Ok x) next then was came = subst (Fitting p) (sym came.keeps) (then x)
after p ss b r ss' b' (Err e) next then was came = subst (Fitting p) (sym came.keeps) was

pub returns : goal.returns
returns c =
    let ss = c.args.book.now.slots.now in
    let b = c.args.book.now.register in
    let x = c.args.correction in
    after c.args.permit.now ss b c.correct.result _ _ (correctable key_of (entries ss b) b.state 1 x) (λ old. accepted tt (set ss (1 - 1) (standing x)) (changed_to b b.used (all_posted (without b.ledger (postings old)) (postings x)))) (λ _. c.requires) c.requires c.correct.ensures.came
