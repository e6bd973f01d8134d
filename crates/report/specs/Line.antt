-- The lines of a report, and a page that one of them is written into.
use Rattle.std.specs.Prelude.{ℕ, ◌+◌, cond, List, [], ◌∷◌, ◌++◌, length, ℤ, pos, ◌&&◌, Ok, Err, codes, decimal, Result, nat_le}
use Rattle.std.specs.Fmt.{signed_decimal}
use Rattle.std.specs.Ordering.{int_eq}
use Rattle.refusal.specs.declared.PageFault.{PageFault}
use Rattle.refusal.specs.declared.PageFault.TheVariants.{TooShort}
use Rattle.ledger.specs.declared.Account.{Account}
use Rattle.refusal.specs.Told.{layer_of, name_of}

-- fields parted by one space, and a line feed at the end
abbrev pub line : List ℕ → List (List ℕ) → List ℕ
line first [] = first ++ (10 ∷ [])
line first (next ∷ rest) = first ++ (32 ∷ line next rest)

-- the place of the command byte, the layer and the number of the refusal
abbrev pub refusal_line : ℕ → ℕ → List ℕ
refusal_line place number = line (codes "R") (decimal place ∷ name_of (layer_of number) ∷ decimal number ∷ [])

-- a member, its balance and what it was charged
abbrev pub account_line : ℕ → ℤ → ℤ → List ℕ
account_line member balance charged = line (codes "B") (decimal member ∷ signed_decimal balance ∷ signed_decimal charged ∷ [])

-- the line of a member whose balance or charged is not 0, and no bytes for another
abbrev pub shown : ℕ → Account → List ℕ
shown member account = cond (int_eq account.balance (pos 0) && int_eq account.charged (pos 0)) [] (account_line member account.balance account.charged)

-- what writing bs from a place of the page xs on answers: the place after them, if there is room
abbrev pub written : ℕ → List ℕ → List ℕ → Result ℕ PageFault
written at bs xs = cond (nat_le (at + length bs) (length xs)) (Ok (at + length bs)) (Err TooShort)
