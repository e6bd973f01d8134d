-- Every list of calls has a life.
use Rattle.std.proofs.Common.{ℕ, List, [], ◌∷◌, ◌++◌, Result, sym, refl, subst}
use Rattle.std.proofs.lemmas.List.{append_assoc, append-nil}
use Rattle.record.specs.declared.Posting.{Posting}
use Rattle.slots.specs.declared.Slot.{Slot}
use Rattle.whole_book.specs.declared.register.Register.{Register}
use Rattle.slots.specs.Calls as calls
use Rattle.whole_book.specs.Steps.{abandoning, booking, closing, correcting, new_register, reissuing, reopening, withdrawing}
use Rattle.history.specs.Plain.{Abandons, Answer, Books, Call, Closes, Corrects, Done, Numbered, Permits, Reissues, Reopens, Withdraws}
use Rattle.history.specs.Lives.{Acts, Came, further, opened, told, told_unspent}
use Rattle.history.specs.History.{AllLived, Lived}

-- a call comes out as its contract says
as_said : {R A E : Type 0} (d : calls.Done R Register A E) (tell : Result A E → Answer) → Came d tell (tell d.answer) d.slots d.register
as_said d tell = record { result = d.answer; came = record { answers = refl; leaves = refl; keeps = refl }; tells = refl }

module _ {R : Type 0} (keyed : R → ℕ) (posted : R → List Posting) where
  record Made (c : Call R) (ss : List (Slot R)) (b : Register) : Type 0 where
    a : Answer
    ss' : List (Slot R)
    b' : Register
    acts : Acts keyed posted c a ss b ss' b'

  made : (c : Call R) (ss : List (Slot R)) (b : Register) → Made c ss b
  made (Books x) ss b = record { a = _; ss' = _; b' = _; acts = as_said (booking keyed posted ss b x) (told Numbered) }
  made (Corrects n x) ss b = record { a = _; ss' = _; b' = _; acts = as_said (correcting keyed posted ss b n x) (told (λ _. Done)) }
  made (Withdraws n) ss b = record { a = _; ss' = _; b' = _; acts = as_said (withdrawing posted ss b n) (told (λ _. Done)) }
  made Closes ss b = record { a = _; ss' = _; b' = _; acts = as_said (closing ss b) (told (λ _. Done)) }
  made Reopens ss b = record { a = _; ss' = _; b' = _; acts = as_said (reopening ss b) (told Permits) }
  made (Reissues t) ss b = record { a = _; ss' = _; b' = _; acts = as_said (reissuing ss b t) told_unspent }
  made (Abandons t) ss b = record { a = _; ss' = _; b' = _; acts = as_said (abandoning ss b t) told_unspent }

  module _ (number : ℕ) (slots : List (Slot R)) where
    abbrev L : List (Call R) → Type 0
    L calls = Lived keyed posted number slots calls

    on : (more calls : List (Call R)) → L calls → L (calls ++ more)
    on [] calls h = subst L (sym (append-nil calls)) h
    on (c ∷ more) calls h =
        let m = made c h.ss h.b in
        subst L (append_assoc calls (c ∷ []) more)
        (on more (calls ++ c ∷ []) (record { answers = _; reads = _; ss = m.ss'; b = m.b'; life = further h.life c m.a m.acts }))

  pub all_lived : AllLived keyed posted
  all_lived number slots calls = on number slots calls [] (record { answers = []; reads = []; ss = slots; b = new_register number; life = opened })
