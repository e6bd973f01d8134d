-- The accounts keep the sums, call by call.
use Rattle.std.proofs.Common.{◌≡◌, ℕ, ◌*◌, ◌<◌, ◌≤◌, true, cond, List, [], ◌∷◌, ◌++◌, map, length, replicate, ℤ, pos, ◌+ℤ◌, ◌-ℤ◌, Ok, fold, sym, refl, ap, ◌∙◌, subst, arith}
use Rattle.std.proofs.lemmas.Int.{ints}
use Rattle.std.proofs.ByRecursion.{All-push}
use Rattle.std.proofs.lemmas.List.{length-append, length-map, map_push}
use Rattle.std.proofs.lemmas.List.Sums.{fold_push}
use Rattle.std.specs.List.{range_with_len, AllByRecursion}
use Rattle.amounts.specs.Cut.{total}
use Rattle.amounts.specs.Floor.{Under}
use Rattle.record.specs.declared.Posting.{Posting}
use Rattle.record.specs.Meaning.{total as posted_total, Fair}
use Rattle.record.specs.Reading.{is_member}
use Rattle.ledger.specs.declared.Account.{Account}
use Rattle.ledger.specs.Moves.{account_of, charge, last_charges, ledger_of, moved, no_account, opposite}
use Rattle.history.specs.Plain.{Entry, of_member, per_member, share, standing, sum_of, with_number, withdrawn}
use Rattle.history.specs.Lives.{last_in}
use Rattle.history.specs.History.{balance_in, newest}
use Rattle.history.proofs.Split.{Stood, changed_at}
use Rattle.history.proofs.Sums.{of_row, of_same, same_row, saturated_is, sum_append, sum_under, sums_even, total_add, total_append}
use Rattle.history.proofs.Moves.{account, answered, charged_at, fair_opposite, length_moves, moves_at, share_opposite, shifted}

module _ {R : Type 0} {n : ℕ} {old : R} {es : List (Entry R)} (f : Entry R → Entry R) (stood : Stood n old es) where
  changed_here : with_number n f es ≡ stood.front ++ f (standing old) ∷ stood.back
  changed_here = ap (with_number n f) stood.is ∙ changed_at n f stood.front stood.back (standing old) stood.at

  -- there are as many entries as before
  length_changed : length (with_number n f es) ≡ length es
  length_changed =
      ap length changed_here
      ∙ length-append stood.front (f (standing old) ∷ stood.back)
      ∙ sym (length-append stood.front (standing old ∷ stood.back))
      ∙ sym (ap length stood.is)

  -- a sum loses the share of the record that stood, and gains that of the entry in its place
  sum_changed : (posted : R → List Posting) (m : ℕ) → sum_of posted m (with_number n f es) +ℤ share m (posted old) ≡ sum_of posted m es +ℤ cond (f (standing old)).stands (share m (posted (f (standing old)).item)) (pos 0)
  sum_changed posted m =
      let now = ap (sum_of posted m) changed_here ∙ sum_append posted m stood.front (f (standing old) ∷ stood.back) in
      let was = ap (sum_of posted m) stood.is ∙ sum_append posted m stood.front (standing old ∷ stood.back) in
      omega (arith, ints)

module _ {R : Type 0} (posted : R → List Posting) (nought : (r : R) → posted_total (posted r) ≡ pos 0) (few : (r : R) → length (posted r) ≤ 64) (fair : (r : R) → AllByRecursion Fair (posted r)) where
  -- es are the entries, xs the accounts, ns the sums noted at the last issue, reads the last charges read after each
  pub record Kept (es : List (Entry R)) (xs : List Account) (ns : List ℤ) (reads : List (List ℤ)) : Type 0 where
    pub small : length es ≤ 4096
    pub long : length xs ≡ 32
    pub balance : (m : ℕ) → is_member m ≡ true → (account xs m).balance ≡ sum_of posted m es
    pub charged : (m : ℕ) → is_member m ≡ true → (account xs m).charged ≡ of_member m ns
    pub noted_under : (m : ℕ) → is_member m ≡ true → Under (4096 * (64 * 20000000000)) (of_member m ns)
    pub noted_even : total (per_member (λ m. of_member m ns)) ≡ pos 0
    pub charges : (m : ℕ) → is_member m ≡ true → total (map (of_member m) reads) ≡ of_member m ns
    pub flat : AllByRecursion (λ row. total row ≡ pos 0) reads
    pub lasts : (m : ℕ) → is_member m ≡ true → (account xs m).last ≡ of_member m (newest reads)

  -- a new book
  pub at_first : Kept [] (replicate 32 no_account) (replicate 32 (pos 0)) []
  at_first = record {
    small = omega arith;
    long = refl;
    balance = λ m is. ap (λ a. a.balance) (of_same no_account m is);
    charged = λ m is. ap (λ a. a.charged) (of_same no_account m is) ∙ sym (of_same (pos 0) m is);
    noted_under = λ m is. let none = of_same (pos 0) m is in omega (arith, ints);
    noted_even = refl;
    charges = λ m is. sym (of_same (pos 0) m is);
    flat = tt;
    lasts = λ m is. ap (λ a. a.last) (of_same no_account m is) ∙ sym (of_same (pos 0) m is);
  }

  module _ {es : List (Entry R)} {xs : List Account} {ns : List ℤ} {reads : List (List ℤ)} (h : Kept es xs ns reads) where
    -- 4096 records of 64 postings move a member by no more
    sum_small : (m : ℕ) → Under (4096 * (64 * 20000000000)) (sum_of posted m es)
    sum_small m =
        let small = h.small in
        let under = sum_under posted few fair m es in
        omega (arith, ints)

    -- fair postings move each account by the member's share
    after : (ps : List Posting) → AllByRecursion Fair ps → length ps ≤ 64 → (m : ℕ) → is_member m ≡ true → account (fold moved xs ps) m ≡ shifted (account xs m) (share m ps)
    after ps fair-ps few-ps m is =
        let under = sum_small m in
        let same = h.balance m is in
        moves_at ps xs m (4096 * (64 * 20000000000)) h.long is fair-ps (omega (arith, ints)) (omega arith)

    -- the accounts keep the sums of other entries, where the postings make up for the change
    posted_more : (ps : List Posting) → AllByRecursion Fair ps → length ps ≤ 64 → (es' : List (Entry R)) → length es' ≤ 4096 → ((m : ℕ) → sum_of posted m es +ℤ share m ps ≡ sum_of posted m es') → Kept es' (fold moved xs ps) ns reads
    posted_more ps fair-ps few-ps es' small' sum = record {
      small = small';
      long = length_moves ps xs ∙ h.long;
      balance = λ m is. ap (λ a. a.balance) (after ps fair-ps few-ps m is) ∙ ap (λ z. z +ℤ share m ps) (h.balance m is) ∙ sum m;
      charged = λ m is. ap (λ a. a.charged) (after ps fair-ps few-ps m is) ∙ h.charged m is;
      noted_under = h.noted_under;
      noted_even = h.noted_even;
      charges = h.charges;
      flat = h.flat;
      lasts = λ m is. ap (λ a. a.last) (after ps fair-ps few-ps m is) ∙ h.lasts m is;
    }

    -- a record is booked
    pub booked : (x : R) → length es < 4096 → Kept (es ++ standing x ∷ []) (fold moved xs (posted x)) ns reads
    booked x room =
        posted_more (posted x) (fair x) (few x) (es ++ standing x ∷ [])
        (let long = length-append es (standing x ∷ []) in omega arith)
        (λ m. let more = sum_append posted m es (standing x ∷ []) in omega (arith, ints))

    -- the record of number n is withdrawn
    pub taken_back : (n : ℕ) (old : R) → Stood n old es → Kept (with_number n withdrawn es) (fold moved xs (map opposite (posted old))) ns reads
    taken_back n old stood =
        let small = h.small in
        let few-old = few old in
        posted_more (map opposite (posted old)) (fair_opposite (posted old) (fair old))
        (let long = length-map (posted old) opposite in omega arith)
        (with_number n withdrawn es)
        (let long = length_changed withdrawn stood in omega arith)
        (λ m.
        let back = share_opposite m (posted old) in
        let less = sum_changed withdrawn stood posted m in
        omega (arith, ints))

    -- what an issue charges a member, with what was noted of it, is its sum
    last_at : (m : ℕ) → is_member m ≡ true → last_in (account_of (ledger_of (map charge xs)) m) +ℤ of_member m ns ≡ sum_of posted m es
    last_at m is =
        let a = account xs m in
        let balance = h.balance m is in
        let charged = h.charged m is in
        let under = sum_small m in
        let noted = h.noted_under m is in
        let here = ap last_in (answered (map charge xs) m is) ∙ ap (λ b. b.last) (charged_at xs m h.long is) ∙ saturated_is (a.balance -ℤ a.charged) (omega (arith, ints)) in
        omega (arith, ints)

    -- what an issue charges adds up to zero
    row_even : total (per_member (λ m. last_in (account_of (ledger_of (map charge xs)) m))) ≡ pos 0
    row_even =
        let last : ℕ → ℤ = λ m. last_in (account_of (ledger_of (map charge xs)) m) in
        let noted : ℕ → ℤ = λ m. of_member m ns in
        let added = total_add last noted (range_with_len 1 32) in
        let sums = ap total (same_row (λ m. last m +ℤ noted m) (λ m. sum_of posted m es) last_at) ∙ sums_even posted nought fair es in
        let none = h.noted_even in
        omega (arith, ints)

    -- a statement is issued
    pub charged_now : Kept es (map charge xs) (per_member (λ m. sum_of posted m es)) (reads ++ per_member (λ m. last_in (account_of (ledger_of (map charge xs)) m)) ∷ [])
    charged_now =
        let last : ℕ → ℤ = λ m. last_in (account_of (ledger_of (map charge xs)) m) in
        let sums : ℕ → ℤ = λ m. sum_of posted m es in
        record {
          small = h.small;
          long = length-map xs charge ∙ h.long;
          balance = λ m is. ap (λ a. a.balance) (charged_at xs m h.long is) ∙ h.balance m is;
          charged = λ m is. ap (λ a. a.charged) (charged_at xs m h.long is) ∙ h.balance m is ∙ sym (of_row sums m is);
          noted_under = λ m is. subst (Under (4096 * (64 * 20000000000))) (sym (of_row sums m is)) (sum_small m);
          noted_even = ap total (same_row (λ m. of_member m (per_member sums)) sums (of_row sums)) ∙ sums_even posted nought fair es;
          charges = λ m is.
              let more = ap total (map_push (of_member m) reads (per_member last)) ∙ total_append (map (of_member m) reads) (of_member m (per_member last) ∷ []) in
              let before = h.charges m is in
              let here = of_row last m is in
              let now = of_row sums m is in
              let gain = last_at m is in
              omega (arith, ints);
          flat = All-push (λ row. total row ≡ pos 0) reads (per_member last) h.flat row_even;
          lasts = λ m is.
              sym (ap last_in (answered (map charge xs) m is))
              ∙ sym (of_row last m is)
              ∙ ap (of_member m) (sym (fold_push (λ _ row. row) (replicate 32 (pos 0)) reads (per_member last)));
        }

    -- what the account call answers
    pub held : (m : ℕ) → is_member m ≡ true → (a : Account) × ((account_of (ledger_of xs) m ≡ Ok a) × ((a.balance ≡ sum_of posted m es) × (a.charged ≡ of_member m ns)))
    held m is = (account xs m, (answered xs m is, (h.balance m is, h.charged m is)))

    -- all balances add up to zero
    pub evenly : total (per_member (λ m. balance_in (account_of (ledger_of xs) m))) ≡ pos 0
    evenly =
        ap total (same_row (λ m. balance_in (account_of (ledger_of xs) m)) (λ m. sum_of posted m es) (λ m is. ap balance_in (answered xs m is) ∙ h.balance m is))
        ∙ sums_even posted nought fair es

    -- a member's last charges add up to its noted sum
    pub charged_in_all : (m : ℕ) → is_member m ≡ true → total (map (of_member m) reads) ≡ of_member m ns
    charged_in_all m is = h.charges m is

    -- what a statement shows
    pub stated_as : (m : ℕ) → is_member m ≡ true → of_member m (last_charges (ledger_of xs)) ≡ of_member m (newest reads)
    stated_as m is = of_row (λ k. (account xs k).last) m is ∙ h.lasts m is

  -- the record of number n is replaced
  pub replaced : {es : List (Entry R)} {xs : List Account} {ns : List ℤ} {reads : List (List ℤ)} (h : Kept es xs ns reads) (n : ℕ) (old x : R) → Stood n old es → Kept (with_number n (λ _. standing x) es) (fold moved (fold moved xs (map opposite (posted old))) (posted x)) ns reads
  replaced {es} h n old x stood =
      let small = h.small in
      posted_more (taken_back h n old stood) (posted x) (fair x) (few x) (with_number n (λ _. standing x) es)
      (let long = length_changed (λ _. standing x) stood in omega arith)
      (λ m.
      let less = sum_changed withdrawn stood posted m in
      let other = sum_changed (λ _. standing x) stood posted m in
      omega (arith, ints))
