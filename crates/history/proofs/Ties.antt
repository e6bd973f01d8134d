-- A book and its plain book go together, call by call.
use Rattle.std.proofs.Common.{◌≡◌, ℕ, ◌+◌, ◌-◌, ◌<◌, ◌≤◌, min, Bool, true, false, cond, List, [], ◌∷◌, ◌++◌, map, length, take, set, replicate, ℤ, pos, Some, None, Ok, Err, fold, Option, Result, sym, refl, ap, ◌∙◌, subst, ap₂, arith, length-set}
use lib.Seq.{take-set-lt}
use Rattle.std.proofs.lemmas.List.{append-nil, length-take-le, map_push, take_more_set}
use Rattle.std.proofs.lemmas.List.Sums.{fold_push}
use Rattle.std.proofs.lemmas.Bool.{ltb-true}
use Rattle.std.specs.List.{AllByRecursion}
use Rattle.refusal.specs.declared.Refusal.{Refusal}
use Rattle.record.specs.declared.Posting.{Posting}
use Rattle.record.specs.Meaning.{total as posted_total, Fair}
use Rattle.ledger.specs.declared.Ledger.{Ledger}
use Rattle.ledger.specs.Moves.{all_posted}
use Rattle.slots.specs.declared.Slot.{Slot}
use Rattle.whole_book.specs.declared.register.Register.{Register}
use Rattle.whole_book.specs.declared.register.BookState.{BookState}
use Rattle.whole_book.specs.declared.register.BookState.TheVariants.{Closed, Reopened}
use Rattle.whole_book.specs.declared.register.BookFault.{BookFault}
use Rattle.slots.specs.Entries.{standing_at}
use Rattle.whole_book.specs.Rules.{told_of}
use Rattle.slots.specs.Calls as calls
use Rattle.whole_book.specs.Steps as steps
use Rattle.slots.specs.Calls.{capacity}
use Rattle.slots.proofs.Numbers.{number_within}
use Rattle.whole_book.specs.Steps.{alone, changed_to, entries, in_state, issuing, new_register, unless_refused, unspent, without}
use Rattle.history.proofs.Accepted.{corrected_stands, withdrawn_stands}
use Rattle.history.specs.Plain as plain
use Rattle.history.specs.Plain.{Abandons, Answer, Books, Call, Closes, Corrects, Done, Entry, Numbered, Permits, Plain, Reissues, Reopens, Withdraws, after, answer, checks, issues, new_plain, per_member, refusal, standing, standing_as, step, sum_of, with_number, withdrawn}
use Rattle.history.specs.Lives.{Acts, Came, Life, further, opened, read_charges, told, told_unspent}
use Rattle.history.specs.History.{entry_of, LivesStand, Stands, answers_from, state_of}
use Rattle.history.proofs.Split.{Stood}
use Rattle.history.proofs.Shows.{looked, stood, written}
use Rattle.history.proofs.Agrees as agrees
use Rattle.history.proofs.Agrees.{length_shown, refused, shown}
use Rattle.history.proofs.Keeps.{Kept, at_first, booked, charged_in_all, charged_now, evenly, held, replaced, taken_back, stated_as}
use Rattle.history.proofs.Sole.{all_hold, keyed_all_lem, sole}

module _ {R : Type 0} (keyed : R → ℕ) (posted : R → List Posting) (nought : (r : R) → posted_total (posted r) ≡ pos 0) (few : (r : R) → length (posted r) ≤ 64) (fair : (r : R) → AllByRecursion Fair (posted r)) where
  -- plain book p, with room for so many slots, is what the book shows, and the accounts keep its sums
  record Tied (slots number : ℕ) (p : Plain R) (reads : List (List ℤ)) (ss : List (Slot R)) (b : Register) : Type 0 where
    ns : List ℤ
    shows : p ≡ shown ss b ns
    room : b.used ≤ capacity ss
    size : capacity ss ≡ slots
    numbered : b.number ≡ number
    kept : Kept posted nought few fair (map entry_of (entries ss b)) b.ledger.accounts ns reads

  -- call c was answered with a, and led to ss and b, as in the plain book
  record Next (slots number : ℕ) (p : Plain R) (reads : List (List ℤ)) (c : Call R) (a : Answer) (ss : List (Slot R)) (b : Register) : Type 0 where
    answers : a ≡ answer keyed posted slots number p c
    tied : Tied slots number (step keyed posted slots number p c) (reads ++ cond (issues keyed posted slots number p c) (read_charges b ∷ []) []) ss b

  module _ (ss : List (Slot R)) (b : Register) (ns : List ℤ) (reads : List (List ℤ)) (room : b.used ≤ capacity ss) (kept : Kept posted nought few fair (map entry_of (entries ss b)) b.ledger.accounts ns reads) where
    -- the plain book, how it refuses, and what is to be shown
    abbrev p : Plain R
    p = shown ss b ns

    abbrev refuses : Call R → Option Refusal
    refuses c = refusal keyed posted (capacity ss) b.number p c

    abbrev T : Plain R → List (List ℤ) → List (Slot R) → Register → Type 0
    T q rs ss' b' = Tied (capacity ss) b.number q rs ss' b'

    abbrev N : Call R → Answer → List (Slot R) → Register → Type 0
    N c a ss' b' = Next (capacity ss) b.number p reads c a ss' b'

    -- the book is in another state
    moved : (state : BookState) (mark : Bool) → T (record { entries = p.entries; state = state_of state; edition = b.edition; mark = mark; noted = ns }) (reads ++ []) ss (in_state b state mark)
    moved state mark = rw append-nil (record { ns = ns; shows = refl; room = room; size = refl; numbered = refl; kept = kept })

    -- a call that is judged as by the plain book
    finish : {A B E : Type 0} (c : Call R) (tell : Result B E → Answer) (hand : BookFault → E) (judged : Result A BookFault) (next : A → calls.Done R Register B E) (a : Answer) (ss' : List (Slot R)) (b' : Register) →
        refused judged ≡ refuses c →
        ((e : BookFault) → refuses c ≡ Some (told_of e) → tell (Err (hand e)) ≡ answer keyed posted (capacity ss) b.number p c) →
        ((x : A) → Ok x ≡ judged → refuses c ≡ None → N c (tell (next x).answer) (next x).slots (next x).register) →
        Came (unless_refused hand judged ss b next) tell a ss' b' → N c a ss' b'
    finish c tell hand (Err e) next a ss' b' same denies go came =
        let h = sym same in
        rw (came.tells ∙ ap tell came.came.answers, came.came.leaves, came.came.keeps) (record { answers = denies e h; tied = rw h (moved b.state b.changed) })
    finish c tell hand (Ok x) next a ss' b' same denies go came =
        rw (came.tells ∙ ap tell came.came.answers, came.came.leaves, came.came.keeps) (go x refl (sym same))

    -- a slot is written, and the accounts go with it
    changed : (i used : ℕ) (s : Slot R) (l : Ledger) (es : List (Entry R)) → used ≤ capacity ss → map entry_of (take used (set ss i s)) ≡ es → Kept posted nought few fair es l.accounts ns reads →
        T (record { entries = es; state = state_of b.state; edition = b.edition; mark = true; noted = ns }) (reads ++ []) (set ss i s) (changed_to b used l)
    changed i used s l es fits shape k =
        let size : capacity (set ss i s) ≡ capacity ss = ap (λ n. min n 4096) (length-set ss i s) in
        rw (append-nil, sym shape)
        (record { ns = ns; shows = refl; room = omega (arith, size); size = size; numbered = refl; kept = rw shape k })

    books : (x : R) → refuses (Books x) ≡ None → N (Books x) (Numbered (b.used + 1)) (set ss b.used (calls.standing x)) (changed_to b (b.used + 1) (all_posted b.ledger (posted x)))
    books x h =
        let long = length_shown ss b (omega arith) in
        let held = all_hold (checks keyed posted (capacity ss) b.number p (Books x)) h in
        let free : length (map entry_of (entries ss b)) < capacity ss = ltb-true (length (map entry_of (entries ss b))) (capacity ss) held.1.1.1.0 in
        record {
          answers = rw h (ap (λ n. Numbered (n + 1)) (sym long));
          tied = rw h
              (changed b.used (b.used + 1) (calls.standing x) (all_posted b.ledger (posted x)) (map entry_of (entries ss b) ++ standing x ∷ []) (omega arith)
              (ap (map entry_of) (take_more_set ss b.used (calls.standing x) (omega arith)) ∙ map_push entry_of (entries ss b) (calls.standing x))
              (booked posted nought few fair kept x (omega arith)));
        }

    module _ (n : ℕ) (old : R) (stands : Some old ≡ standing_at n (entries ss b)) where
      there : Stood n old (map entry_of (entries ss b))
      there = stood n old (entries ss b) stands

      -- the slot of a standing record is written
      rewritten : (s : Slot R) (f : Entry R → Entry R) → f (standing old) ≡ entry_of s → map entry_of (take b.used (set ss (n - 1) s)) ≡ with_number n f (map entry_of (entries ss b))
      rewritten s f same =
          let within = number_within (entries ss b) n old stands in
          let long = length-take-le b.used ss (omega arith) in
          ap (map entry_of) (take-set-lt b.used ss (n - 1) s (omega arith)) ∙ written n old (entries ss b) s f there same

      corrects : (x : R) → refuses (Corrects n x) ≡ None → N (Corrects n x) Done (set ss (n - 1) (calls.standing x)) (changed_to b b.used (all_posted (without b.ledger (posted old)) (posted x)))
      corrects x h =
          record {
            answers = rw h;
            tied = rw h
                (changed (n - 1) b.used (calls.standing x) (all_posted (without b.ledger (posted old)) (posted x)) (with_number n (λ _. standing x) (map entry_of (entries ss b))) room
                (rewritten (calls.standing x) (λ _. standing x) refl)
                (replaced posted nought few fair kept n old x there));
          }

      withdraws : refuses (Withdraws n) ≡ None → N (Withdraws n) Done (set ss (n - 1) (steps.withdrawn old)) (changed_to b b.used (without b.ledger (posted old)))
      withdraws h =
          record {
            answers = rw h;
            tied = rw h
                (changed (n - 1) b.used (steps.withdrawn old) (without b.ledger (posted old)) (with_number n withdrawn (map entry_of (entries ss b))) room
                (rewritten (steps.withdrawn old) withdrawn refl)
                (taken_back posted nought few fair kept n old there));
          }

    -- a statement is issued
    issued : T (record { entries = p.entries; state = plain.Closed; edition = b.edition + 1; mark = b.changed; noted = per_member (λ m. sum_of posted m p.entries) }) (reads ++ read_charges (issuing b) ∷ []) ss (issuing b)
    issued = record { ns = per_member (λ m. sum_of posted m p.entries); shows = refl; room = room; size = refl; numbered = refl; kept = charged_now posted nought few fair kept }

    -- each call, where the plain book is what the book shows
    next : (c : Call R) (a : Answer) (ss' : List (Slot R)) (b' : Register) → Acts keyed posted c a ss b ss' b' → N c a ss' b'
    next (Books x) a ss' b' came =
        finish (Books x) (told Numbered) alone _ _ a ss' b' (agrees.books keyed posted ss b ns x (omega arith)) (λ e h. rw h) (λ _ is h. books x h) came
    next (Corrects n x) a ss' b' came =
        finish (Corrects n x) (told (λ _. Done)) alone _ _ a ss' b' (agrees.corrects keyed posted ss b ns n x) (λ e h. rw h)
        (λ old is h. corrects n old (corrected_stands keyed (entries ss b) b.state n x old is) x h) came
    next (Withdraws n) a ss' b' came =
        finish (Withdraws n) (told (λ _. Done)) alone _ _ a ss' b' (agrees.withdraws keyed posted ss b ns n) (λ e h. rw h)
        (λ old is h. withdraws n old (withdrawn_stands (entries ss b) b.state n old is) h) came
    next Closes a ss' b' came =
        finish Closes (told (λ _. Done)) alone _ _ a ss' b' (agrees.closes keyed posted ss b ns) (λ e h. rw h) (λ _ is h. record { answers = rw h; tied = rw h issued }) came
    next Reopens a ss' b' came =
        finish Reopens (told Permits) alone _ _ a ss' b' (agrees.reopens keyed posted ss b ns) (λ e h. rw h) (λ _ is h. record { answers = rw h; tied = rw h (moved Reopened false) }) came
    next (Reissues t) a ss' b' came =
        finish (Reissues t) told_unspent (unspent t) _ _ a ss' b' (agrees.reissues keyed posted ss b ns t) (λ e h. rw h) (λ _ is h. record { answers = rw h; tied = rw h issued }) came
    next (Abandons t) a ss' b' came =
        finish (Abandons t) told_unspent (unspent t) _ _ a ss' b' (agrees.abandons keyed posted ss b ns t) (λ e h. rw h) (λ _ is h. record { answers = rw h; tied = rw h (moved Closed b.changed) }) came

  module _ (slots number : ℕ) where
    -- each call, wherever the two go together
    goes_on : {p : Plain R} {reads : List (List ℤ)} {ss : List (Slot R)} {b : Register} → Tied slots number p reads ss b →
        (c : Call R) (a : Answer) (ss' : List (Slot R)) (b' : Register) → Acts keyed posted c a ss b ss' b' → Next slots number p reads c a ss' b'
    goes_on {p} {reads} {ss} {b} t c a ss' b' acts = rw (t.shows, sym t.size, sym t.numbered) (next ss b t.ns reads t.room t.kept c a ss' b' acts)

    answers_push : (p : Plain R) (calls : List (Call R)) (c : Call R) →
        answers_from keyed posted slots number p (calls ++ c ∷ []) ≡ answers_from keyed posted slots number p calls ++ answer keyed posted slots number (fold (step keyed posted slots number) p calls) c ∷ []
    answers_push p [] c = refl
    answers_push p (d ∷ calls) c = ap (λ rest. answer keyed posted slots number p d ∷ rest) (answers_push (step keyed posted slots number p d) calls c)

    -- what Stands asks for, from what is tied
    stands : {p : Plain R} {reads : List (List ℤ)} {ss : List (Slot R)} {b : Register} → Tied slots number p reads ss b →
        ((k : ℕ) → length (standing_as keyed k p.entries) ≤ 1) → standing_as keyed 0 p.entries ≡ [] → Stands keyed posted p number reads ss b
    stands {p} {reads} {ss} {b} t one none =
        record {
          accounts = λ m is.
              let a = held posted nought few fair t.kept m is in
              rw t.shows (record { account = a.0; answers = a.1.0; balances = a.1.1.0; charges = a.1.1.1 });
          even = evenly posted nought few fair t.kept;
          charges = λ m is. rw t.shows (charged_in_all posted nought few fair t.kept m is);
          flat = t.kept.flat;
          stated = λ m is. stated_as posted nought few fair t.kept m is;
          shows = rw t.shows;
          sole = one;
          keyed_all = none;
          found = λ k. rw t.shows (looked keyed k (entries ss b));
          numbered = t.numbered;
          edition = rw t.shows;
          state = rw t.shows;
        }

    -- after some calls
    record Together (calls : List (Call R)) (answers : List Answer) (reads : List (List ℤ)) (ss : List (Slot R)) (b : Register) : Type 0 where
      same : answers ≡ answers_from keyed posted slots number new_plain calls
      tied : Tied slots number (after keyed posted slots number calls) reads ss b

    one_more : {calls : List (Call R)} {answers : List Answer} {reads : List (List ℤ)} {ss ss' : List (Slot R)} {b b' : Register} → Together calls answers reads ss b → (c : Call R) (a : Answer) → Acts keyed posted c a ss b ss' b' →
        Together (calls ++ c ∷ []) (answers ++ a ∷ []) (reads ++ cond (issues keyed posted slots number (after keyed posted slots number calls) c) (read_charges b' ∷ []) []) ss' b'
    one_more {calls} {answers} {reads} {ss} {ss'} {b} {b'} h c a acts =
        let p = after keyed posted slots number calls in
        let now = goes_on h.tied c a ss' b' acts in
        record {
          same = ap₂ (λ xs x. xs ++ x ∷ []) h.same now.answers ∙ sym (answers_push new_plain calls c);
          tied = subst (λ q. Tied slots number q (reads ++ cond (issues keyed posted slots number p c) (read_charges b' ∷ []) []) ss' b') (sym (fold_push (step keyed posted slots number) new_plain calls c)) now.tied;
        }

  at_opening : (number : ℕ) (slots : List (Slot R)) → Together (capacity slots) number [] [] [] slots (new_register number)
  at_opening number slots = record { same = refl; tied = record { ns = replicate 32 (pos 0); shows = refl; room = omega arith; size = refl; numbered = refl; kept = at_first posted nought few fair } }

  -- by induction over a life
  together : (number : ℕ) (slots : List (Slot R)) {calls : List (Call R)} {answers : List Answer} {reads : List (List ℤ)} {ss : List (Slot R)} {b : Register} → Life keyed posted number slots calls answers reads ss b → Together (capacity slots) number calls answers reads ss b
  together number slots opened = at_opening number slots
  together number slots (further life c a acts) = one_more (capacity slots) number (together number slots life) c a acts

  pub lives_stand : LivesStand keyed posted
  lives_stand number slots calls answers reads ss b life =
      let both = together number slots life in
      (both.same, stands (capacity slots) number both.tied (sole keyed posted (capacity slots) number calls) (keyed_all_lem keyed posted (capacity slots) number calls))
