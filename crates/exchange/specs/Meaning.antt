-- What an exchange means: what reading checks, its key and its postings.
use Rattle.std.specs.Prelude.{ℕ, ◌+◌, ◌*◌, Bool, cond, not, List, [], ◌∷◌, ℤ, pos, ◌-ℤ◌, ◌*ℤ◌, neg_ℤ, is_some, Option, ◌==◌, int_le, nat_le}
use Rattle.amounts.specs.Floor.{floor_div, nearest}
use Rattle.refusal.specs.declared.Refusal.{Refusal}
use Rattle.refusal.specs.Told.{detailed, plain}
use Rattle.record.specs.declared.Posting.{Posting}
use Rattle.record.specs.Meaning.{post}
use Rattle.record.specs.Reading.{Check, check, first_of, in_range, is_member, is_period, within}
use Rattle.exchange.specs.declared.Exchange.{Exchange}
use Rattle.exchange.specs.declared.ExchangeField.{ExchangeField}
use Rattle.exchange.specs.declared.ExchangeField.TheVariants.{Product, Period, Importer, Exporter, Volume, ImportingPrice, ExportingPrice, Percentage, Reserved}
use Rattle.exchange.specs.declared.ExchangeFault.{ExchangeFault}
use Rattle.exchange.specs.declared.ExchangeFault.TheVariants.{CutOff, OutOfRange, SameMember, PriceOrder}

-- what reading checks of the fields, in its order
abbrev pub checks : Exchange → List (Check ExchangeFault)
checks e =
    check (in_range 1 3 e.product) (OutOfRange Product)
    ∷ check (is_period e.period) (OutOfRange Period)
    ∷ check (is_member e.importer) (OutOfRange Importer)
    ∷ check (is_member e.exporter) (OutOfRange Exporter)
    ∷ check (in_range 1 1000000 e.volume) (OutOfRange Volume)
    ∷ check (within 9999999 e.importing) (OutOfRange ImportingPrice)
    ∷ check (within 9999999 e.exporting) (OutOfRange ExportingPrice)
    ∷ check (nat_le e.percentage 100) (OutOfRange Percentage)
    ∷ check (e.reserved == 0) (OutOfRange Reserved)
    ∷ check (not (e.importer == e.exporter)) SameMember
    ∷ check (int_le e.exporting e.importing) PriceOrder
    ∷ []

abbrev pub fault_of : Exchange → Option ExchangeFault
fault_of e = first_of (checks e)

-- fields that do not pass count as the blank record
abbrev pub passing : Exchange → Bool
passing e = not (is_some (fault_of e))

-- where a field stands, in bytes from the record's start
abbrev pub place_of : ExchangeField → ℕ
place_of Product = 0
place_of Period = 1
place_of Importer = 4
place_of Exporter = 5
place_of Volume = 6
place_of ImportingPrice = 10
place_of ExportingPrice = 14
place_of Percentage = 18
place_of Reserved = 19

-- what each fault is told as
abbrev pub told_of : ExchangeFault → Refusal
told_of CutOff = plain 4
told_of (OutOfRange f) = detailed 5 (place_of f)
told_of SameMember = plain 6
told_of PriceOrder = plain 7

-- the key of the fields
abbrev pub own_key : Exchange → ℕ
own_key e = ((e.product * 4096 + e.period) * 256 + e.border) * 64 + e.importer

abbrev pub key_of : Exchange → ℕ
key_of e = cond (passing e) (own_key e) 0

-- the nearest cents of volume times a price
abbrev pub worth : ℕ → ℤ → ℤ
worth volume price = nearest (pos volume *ℤ price)

-- the importer's share of the income
abbrev pub share_of : ℤ → ℕ → ℤ
share_of income percentage = floor_div (income *ℤ pos percentage) 100

-- The importer pays a and the exporter is paid b; of the income a - b the importer gets its share s and the exporter the rest.
abbrev pub four_postings : ℕ → ℕ → ℤ → ℤ → ℤ → List Posting
four_postings importer exporter a b s = post importer (neg_ℤ a) ∷ post exporter b ∷ post importer s ∷ post exporter ((a -ℤ b) -ℤ s) ∷ []

-- the postings of the fields
abbrev pub own_postings : Exchange → List Posting
own_postings e =
    let a = worth e.volume e.importing in
    let b = worth e.volume e.exporting in
    four_postings e.importer e.exporter a b (share_of (a -ℤ b) e.percentage)

abbrev pub postings : Exchange → List Posting
postings e = cond (passing e) (own_postings e) []

abbrev pub no_exchange : Exchange
no_exchange = record { product = 0; period = 0; border = 0; importer = 0; exporter = 0; volume = 0; importing = pos 0; exporting = pos 0; percentage = 0; reserved = 0 }
