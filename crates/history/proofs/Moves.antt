-- What postings and statements make of one account.
use Rattle.std.proofs.Common.{◌≡◌, ℕ, ◌+◌, ◌-◌, ◌*◌, ◌^◌, ◌<◌, Bool, true, false, cond, eqb, List, [], ◌∷◌, map, length, get_or, ℤ, pos, ◌+ℤ◌, neg_ℤ, Ok, Err, fold, sym, refl, ap, ◌∙◌, ⊎_elim, arith}
use lib.IntN.{+ℤ_assoc, +ℤ_idr}
use Rattle.std.proofs.lemmas.Int.{ints}
use Rattle.std.proofs.lemmas.List.{get_or-map, get_or-set_same, get_or-set_other, length-set}
use Rattle.std.proofs.lemmas.Bool.{eq-eqb, ne_eqb, cases_eq, cond-true}
use Rattle.std.specs.List.{AllByRecursion}
use Rattle.amounts.specs.Floor.{Under}
use Rattle.refusal.specs.declared.MemberFault.TheVariants.{Unknown}
use Rattle.record.specs.declared.Posting.{Posting}
use Rattle.record.specs.Meaning.{Fair}
use Rattle.record.specs.Reading.{is_member}
use Rattle.ledger.specs.declared.Account.{Account}
use Rattle.ledger.specs.Moves.{account_of, charge, ledger_of, moved, no_account, opposite, raised}
use Rattle.history.specs.Plain.{share}
use Rattle.history.proofs.Sums.{member_within, part_under, saturated_is}

-- member m's account
abbrev pub account : List Account → ℕ → Account
account xs m = get_or xs (m - 1) no_account

-- the account call answers it
pub answered : (xs : List Account) (m : ℕ) → is_member m ≡ true → account_of (ledger_of xs) m ≡ Ok (account xs m)
answered xs m is = cond-true (is_member m) (Ok (account xs m)) (Err Unknown) is

abbrev with_balance : Account → ℤ → Account
with_balance a z = record { balance = z; charged = a.charged; last = a.last }

-- an account whose balance is moved by z
abbrev pub shifted : Account → ℤ → Account
shifted a z = with_balance a (a.balance +ℤ z)

-- one posting, where the balance stays within 64 bits
moved_at : (xs : List Account) (p : Posting) (m room : ℕ) → length xs ≡ 32 → is_member m ≡ true → Fair p → Under room (account xs m).balance → room + 20000000000 < 2 ^ 63 → account (moved xs p) m ≡ shifted (account xs m) (cond (eqb p.member m) p.cents (pos 0))
moved_at xs p m room long is fair under fits =
    let w = member_within m is in
    let a = account xs m in
    ⊎_elim
    (λ (e : p.member ≡ m).
    let same = eq-eqb p.member m e in
    let there = get_or-set_same xs (p.member - 1) (raised (account xs p.member) p.cents) no_account (omega arith) in
    let calm = saturated_is (a.balance +ℤ p.cents) (omega (arith, ints)) in
    cc)
    (λ (ne : p.member ≡ m → ⊥).
    get_or-set_other xs (p.member - 1) (m - 1) (raised (account xs p.member) p.cents) no_account (λ e. ne (omega arith))
    ∙ rw (ne_eqb p.member m ne) (ap (with_balance a) (sym (+ℤ_idr a.balance))))
    (cases_eq p.member m)

length_moved : (xs : List Account) (p : Posting) → length (moved xs p) ≡ length xs
length_moved xs p = length-set xs (p.member - 1) (raised (account xs p.member) p.cents)

pub length_moves : (ps : List Posting) (xs : List Account) → length (fold moved xs ps) ≡ length xs
length_moves [] xs = refl
length_moves (p ∷ ps) xs = length_moves ps (moved xs p) ∙ length_moved xs p

-- some postings move a member's account by its share
pub moves_at : (ps : List Posting) (xs : List Account) (m room : ℕ) → length xs ≡ 32 → is_member m ≡ true → AllByRecursion Fair ps → Under room (account xs m).balance → room + length ps * 20000000000 < 2 ^ 63 → account (fold moved xs ps) m ≡ shifted (account xs m) (share m ps)
moves_at [] xs m room long is fair under fits =
    let a = account xs m in
    ap (with_balance a) (sym (+ℤ_idr a.balance))
moves_at (p ∷ ps) xs m room long is fair under fits =
    let a = account xs m in
    let z = cond (eqb p.member m) p.cents (pos 0) in
    let part = part_under m p fair.0 in
    let here : account (moved xs p) m ≡ shifted a z = moved_at xs p m room long is fair.0 under (omega arith) in
    let next : Under (room + 20000000000) (account (moved xs p) m).balance = rw here (omega (arith, ints)) in
    moves_at ps (moved xs p) m (room + 20000000000) (length_moved xs p ∙ long) is fair.1 next (omega arith)
    ∙ ap (λ b. shifted b (share m ps)) here
    ∙ ap (with_balance a) (+ℤ_assoc a.balance z (share m ps))

neg_cond : (b : Bool) (z : ℤ) → cond b (neg_ℤ z) (pos 0) ≡ neg_ℤ (cond b z (pos 0))
neg_cond true z = refl
neg_cond false z = refl

-- the share of postings that take others back
pub share_opposite : (m : ℕ) (ps : List Posting) → share m (map opposite ps) ≡ neg_ℤ (share m ps)
share_opposite m [] = refl
share_opposite m (p ∷ ps) =
    let one = neg_cond (eqb p.member m) p.cents in
    let rest = share_opposite m ps in
    omega (arith, ints)

pub fair_opposite : (ps : List Posting) → AllByRecursion Fair ps → AllByRecursion Fair (map opposite ps)
fair_opposite [] fair = tt
fair_opposite (p ∷ ps) fair =
    let here = fair.0 in (
      record { first = here.first; last = here.last; low = omega (arith, ints); high = omega (arith, ints) },
      fair_opposite ps fair.1,
    )

-- a statement charges each account
pub charged_at : (xs : List Account) (m : ℕ) → length xs ≡ 32 → is_member m ≡ true → account (map charge xs) m ≡ charge (account xs m)
charged_at xs m long is = let w = member_within m is in get_or-map charge xs (m - 1) no_account no_account (omega arith)
