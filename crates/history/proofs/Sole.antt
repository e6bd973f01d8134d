-- In the plain book no two records stand under one key, and none is blank.
use Rattle.std.proofs.Common.{◌≡◌, ℕ, ◌+◌, ◌≤◌, Bool, true, false, cond, ◌&&◌, eqb, ◌⊎◌, List, [], ◌∷◌, ◌++◌, length, Some, None, fold, sum_by, Option, sym, refl, ap, ◌∙◌, inl, inr, ⊎_elim, arith}
use Rattle.std.proofs.lemmas.List.{nil_from_length}
use Rattle.std.proofs.lemmas.List.Sums.{sum_by-append, sum_by-cons, sum_by_push}
use Rattle.std.proofs.lemmas.Bool.{and_parts, cases_Bool, cases_eq, cond-false, cond-true, eqb-false, eqb-true, ne_eqb, not-true, or_cases}
use Rattle.std.specs.List.{AllByRecursion}
use Rattle.refusal.specs.declared.Refusal.{Refusal}
use Rattle.record.specs.declared.Posting.{Posting}
use Rattle.record.specs.Reading.{Check, first_of}
use Rattle.history.specs.Plain.{Abandons, Books, Call, Closes, Corrects, Entry, Plain, Reissues, Reopens, Withdraws, after, checks, effect, is_in, new_plain, numbers_from, refusal, standing, standing_as, step, with_number, withdrawn}
use Rattle.history.proofs.Split.{changed_at}

length_cons : (b : Bool) (n : ℕ) (ns : List ℕ) → length (cond b (n ∷ ns) ns) ≡ cond b 1 0 + length ns
length_cons true n ns = omega arith
length_cons false n ns = omega arith

in_cons : (b : Bool) (n m : ℕ) (ns : List ℕ) → is_in n (cond b (m ∷ ns) ns) ≡ true → ((b ≡ true) × (n ≡ m)) ⊎ (is_in n ns ≡ true)
in_cons true n m ns h = ⊎_elim (λ e. inl (refl, eqb-true n m e)) (λ k. inr k) (or_cases (eqb n m) (is_in n ns) h)
in_cons false n m ns h = inr h

module _ {R : Type 0} (test : Entry R → Bool) where
  -- how many entries pass
  abbrev many : List (Entry R) → ℕ
  many es = sum_by (λ e. cond (test e) 1 0) es

  -- each entry that passes has a number
  counted : (m : ℕ) (es : List (Entry R)) → length (numbers_from m test es) ≡ many es
  counted m [] = refl
  counted m (e ∷ es) =
      let rest = counted (m + 1) es in
      let here = length_cons (test e) m (numbers_from (m + 1) test es) in
      let more = sum_by-cons (λ (e : Entry R). cond (test e) 1 0) e es in
      omega arith

  -- the entry of number n, where the first has number m
  record Passed (m n : ℕ) (es : List (Entry R)) : Type 0 where
    front : List (Entry R)
    entry : Entry R
    back : List (Entry R)
    is : es ≡ front ++ entry ∷ back
    at : n ≡ length front + m
    passes : test entry ≡ true

  passed : (m n : ℕ) (es : List (Entry R)) → is_in n (numbers_from m test es) ≡ true → Passed m n es
  passed m n [] h = let z : ◌≡◌ {A = ℕ} 0 1 = cc in absurd (omega arith)
  passed m n (e ∷ es) h =
      ⊎_elim
      (λ (here : (test e ≡ true) × (n ≡ m)). record { front = []; entry = e; back = es; is = refl; at = omega arith; passes = here.0 })
      (λ later. let rest = passed (m + 1) n es later in record { front = e ∷ rest.front; entry = rest.entry; back = rest.back; is = ap (λ es. e ∷ es) rest.is; at = omega (arith, rest.at); passes = rest.passes })
      (in_cons (test e) n m (numbers_from (m + 1) test es) h)

  parts : (front : List (Entry R)) (e : Entry R) (back : List (Entry R)) → many (front ++ e ∷ back) ≡ many front + (cond (test e) 1 0 + many back)
  parts front e back = sum_by-append (λ e. cond (test e) 1 0) front (e ∷ back) ∙ ap (λ n. many front + n) (sum_by-cons (λ e. cond (test e) 1 0) e back)

one_at_most : (b : Bool) → cond b 1 0 ≤ 1
one_at_most true = omega arith
one_at_most false = omega arith

none_of : (b : Bool) → b ≡ false → ◌≡◌ {A = ℕ} (cond b 1 0) 0
none_of b h = ap (λ b. cond b 1 0) h

module _ {R : Type 0} (keyed : R → ℕ) where
  -- an entry that stands under key k
  abbrev as_key : ℕ → Entry R → Bool
  as_key k e = e.stands && eqb (keyed e.item) k

  -- at most one entry stands under each key, and none under 0
  record Sole (es : List (Entry R)) : Type 0 where
    one : (k : ℕ) → many (as_key k) es ≤ 1
    none : many (as_key 0) es ≡ 0

  module _ (es : List (Entry R)) (sole : Sole es) where
    booked : (x : R) → (keyed x ≡ 0 → ⊥) → standing_as keyed (keyed x) es ≡ [] → Sole (es ++ standing x ∷ [])
    booked x full free =
        let grown : (k : ℕ) → many (as_key k) (es ++ standing x ∷ []) ≡ many (as_key k) es + cond (eqb (keyed x) k) 1 0 = λ k. sum_by_push (λ e. cond (as_key k e) 1 0) es (standing x) in
        let gone : many (as_key (keyed x)) es ≡ 0 = sym (counted (as_key (keyed x)) 1 es) ∙ ap length free in
        record {
          one = λ k.
              ⊎_elim
              (λ (e : keyed x ≡ k). let none : many (as_key k) es ≡ 0 = rw (sym e) gone in omega (arith, grown k, one_at_most (eqb (keyed x) k)))
              (λ (ne : keyed x ≡ k → ⊥). omega (arith, grown k, sole.one k, none_of (eqb (keyed x) k) (ne_eqb (keyed x) k ne)))
              (cases_eq (keyed x) k);
          none = omega (arith, grown 0, sole.none, none_of (eqb (keyed x) 0) (ne_eqb (keyed x) 0 full));
        }

    -- the entry of a number is changed, to one that counts no more than it
    module _ (test : Entry R → Bool) (n : ℕ) (f : Entry R → Entry R) (there : is_in n (numbers_from 1 test es) ≡ true) (less : (e : Entry R) → test e ≡ true → (k : ℕ) → cond (as_key k (f e)) 1 0 ≤ cond (as_key k e) 1 0) where
      fewer : (k : ℕ) → many (as_key k) (with_number n f es) ≤ many (as_key k) es
      fewer k =
          let t = passed test 1 n es there in
          let shape = ap (with_number n f) t.is ∙ changed_at n f t.front t.back t.entry t.at in
          let new = ap (many (as_key k)) shape ∙ parts (as_key k) t.front (f t.entry) t.back in
          let old = ap (many (as_key k)) t.is ∙ parts (as_key k) t.front t.entry t.back in
          omega (arith, less t.entry t.passes k)

      changed : Sole (with_number n f es)
      changed = record { one = λ k. omega (arith, fewer k, sole.one k); none = omega (arith, fewer 0, sole.none) }

-- all checks of a call that is not refused
pub all_hold : (ts : List (Check Refusal)) → first_of ts ≡ None → AllByRecursion (λ t. t.holds ≡ true) ts
all_hold [] h = tt
all_hold (t ∷ ts) h =
    ⊎_elim
    (λ yes'. (yes', all_hold ts (sym (cond-true t.holds (first_of ts) (Some t.fault) yes') ∙ h)))
    (λ no'. let told = cond-false t.holds (first_of ts) (Some t.fault) no' in let z : ◌≡◌ {A = ℕ} 0 1 = cc in absurd (omega arith))
    (cases_Bool t.holds)

module _ {R : Type 0} (keyed : R → ℕ) (posted : R → List Posting) (slots number : ℕ) where
  abbrev refuses : Plain R → Call R → Option Refusal
  refuses p c = refusal keyed posted slots number p c

  -- ms are the numbers that stand under the key of a record that is booked
  was_free : (p : Plain R) (x : R) (ms : List ℕ) → standing_as keyed (keyed x) p.entries ≡ ms → refuses p (Books x) ≡ None → ms ≡ []
  was_free p x [] is h = refl
  was_free p x (m ∷ ms) is h =
      let told : false ≡ true = rw is at (all_hold (checks keyed posted slots number p (Books x)) h).1.1.0 in
      let z : ◌≡◌ {A = ℕ} 0 1 = cc in
      absurd (omega arith)

  -- what an accepted call keeps
  kept : (p : Plain R) (c : Call R) → Sole keyed p.entries → refuses p c ≡ None → Sole keyed (effect keyed posted slots number p c).entries
  kept p (Books x) sole h =
      let held = all_hold (checks keyed posted slots number p (Books x)) h in
      booked keyed p.entries sole x (eqb-false (keyed x) 0 (not-true (eqb (keyed x) 0) held.0)) (was_free p x _ refl h)
  kept p (Corrects n x) sole h =
      let held = all_hold (checks keyed posted slots number p (Corrects n x)) h in
      changed keyed p.entries sole (as_key keyed (keyed x)) n (λ _. standing x) held.1.1.1.0
      (λ e is k.
      let both = and_parts e.stands (eqb (keyed e.item) (keyed x)) is in
      rw (both.0, eqb-true (keyed e.item) (keyed x) both.1) (omega arith))
  kept p (Withdraws n) sole h =
      let held = all_hold (checks keyed posted slots number p (Withdraws n)) h in
      changed keyed p.entries sole (λ e. e.stands) n withdrawn held.1.0 (λ e is k. omega arith)
  kept p Closes sole h = sole
  kept p Reopens sole h = sole
  kept p (Reissues t) sole h = sole
  kept p (Abandons t) sole h = sole

  -- a refused call changes nothing
  on_step : (p : Plain R) (c : Call R) (o : Option Refusal) → refuses p c ≡ o → Sole keyed p.entries → Sole keyed (step keyed posted slots number p c).entries
  on_step p c (Some r) h sole = rw h sole
  on_step p c None h sole = rw h (kept p c sole h)

  -- by induction over the calls
  from : (p : Plain R) (calls : List (Call R)) → Sole keyed p.entries → Sole keyed (fold (step keyed posted slots number) p calls).entries
  from p [] sole = sole
  from p (c ∷ calls) sole = from (step keyed posted slots number p c) calls (on_step p c (refuses p c) refl sole)

  module _ (calls : List (Call R)) where
    always : Sole keyed (after keyed posted slots number calls).entries
    always = from new_plain calls (record { one = λ k. omega arith; none = refl })

    pub sole : (k : ℕ) → length (standing_as keyed k (after keyed posted slots number calls).entries) ≤ 1
    sole k = rw (counted (as_key keyed k) 1 (after keyed posted slots number calls).entries) (always.one k)

    pub keyed_all_lem : standing_as keyed 0 (after keyed posted slots number calls).entries ≡ []
    keyed_all_lem = nil_from_length (standing_as keyed 0 (after keyed posted slots number calls).entries) (counted (as_key keyed 0) 1 (after keyed posted slots number calls).entries ∙ always.none)
