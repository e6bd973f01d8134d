-- What postings and statements do to the accounts.
use Rattle.std.specs.Prelude.{ℕ, ◌-◌, cond, List, map, get_or, replicate, ℤ, pos, ◌+ℤ◌, ◌-ℤ◌, neg_ℤ, Ok, Err, fold, Result, slice_index_or, slice_set}
use Rattle.std.specs.Int.{saturate_to_bits}
use Rattle.std.specs.List.{range_with_len}
use Rattle.refusal.specs.declared.MemberFault.{MemberFault}
use Rattle.refusal.specs.declared.MemberFault.TheVariants.{Unknown}
use Rattle.record.specs.declared.Posting.{Posting}
use Rattle.record.specs.Meaning.{post}
use Rattle.record.specs.Reading.{is_member}
use Rattle.ledger.specs.declared.Account.{Account}
use Rattle.ledger.specs.declared.Ledger.{Ledger}

abbrev pub no_account : Account
no_account = record { balance = pos 0; charged = pos 0; last = pos 0 }

abbrev pub ledger_of : List Account → Ledger
ledger_of xs = record { accounts = xs }

abbrev pub new_ledger : Ledger
new_ledger = ledger_of (replicate 32 no_account)

-- the account of a member 1 to 32
abbrev pub account_of : Ledger → ℕ → Result Account MemberFault
account_of l m = cond (is_member m) (Ok (slice_index_or l.accounts (m - 1) no_account)) (Err Unknown)

-- an amount is added to the balance, and held within 64 bits
abbrev pub raised : Account → ℤ → Account
raised a c = record { balance = saturate_to_bits 63 (a.balance +ℤ c); charged = a.charged; last = a.last }

-- one posting moves the account of its member
abbrev pub moved : List Account → Posting → List Account
moved xs p = slice_set xs (p.member - 1) (raised (slice_index_or xs (p.member - 1) no_account) p.cents)

abbrev pub posted_to : Ledger → Posting → Ledger
posted_to l p = ledger_of (moved l.accounts p)

abbrev pub all_posted : Ledger → List Posting → Ledger
all_posted l ps = ledger_of (fold moved l.accounts ps)

-- the posting that takes another back
abbrev pub opposite : Posting → Posting
opposite p = post p.member (neg_ℤ p.cents)

-- The last charge is what the balance has beyond what was charged, and that is charged.
abbrev pub charge : Account → Account
charge a = record { balance = a.balance; charged = a.balance; last = saturate_to_bits 63 (a.balance -ℤ a.charged) }

-- a statement charges every member
abbrev pub issued : Ledger → Ledger
issued l = ledger_of (map charge l.accounts)

-- the last charges of the members 1 to 32
abbrev pub last_charges : Ledger → List ℤ
last_charges l = map (λ m. (get_or l.accounts (m - 1) no_account).last) (range_with_len 1 32)
