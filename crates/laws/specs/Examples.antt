-- Reckoned examples: nearest cents, and exchanges from their bytes to their postings.
use Rattle.std.specs.Prelude.{◌≡◌, ℕ, List, [], ◌∷◌, pos, neg_ℤ, Ok}
use Rattle.amounts.specs.Floor.{nearest}
use Rattle.record.specs.declared.Posting.{Posting}
use Rattle.record.specs.Meaning.{post}
use Rattle.exchange.specs.declared.Exchange.{Exchange}
use Rattle.exchange.specs.Meaning.{postings}
use Rattle.exchange.specs.Bytes.{read_of}

-- these bytes are read as an exchange with these postings
abbrev pub Posts : List ℕ → List Posting → Type 0
Posts xs ps = (e : Exchange) × ((read_of xs ≡ Ok e) × (postings e ≡ ps))

-- aFRR, quarter hour 1, border 5, importer 1, exporter 2, 12,345 kWh at 6,001 and 4,000, 50 %
abbrev pub first_bytes : List ℕ
first_bytes = 0x03 ∷ 0x00 ∷ 0x01 ∷ 0x05 ∷ 0x01 ∷ 0x02 ∷ 0x00 ∷ 0x00 ∷ 0x30 ∷ 0x39 ∷ 0x00 ∷ 0x00 ∷ 0x17 ∷ 0x71 ∷ 0x00 ∷ 0x00 ∷ 0x0F ∷ 0xA0 ∷ 0x32 ∷ 0x00 ∷ []

-- the same parties, 1,000 kWh at 1,001 and 1,000, 50 %
abbrev pub second_bytes : List ℕ
second_bytes = 0x03 ∷ 0x00 ∷ 0x01 ∷ 0x05 ∷ 0x01 ∷ 0x02 ∷ 0x00 ∷ 0x00 ∷ 0x03 ∷ 0xE8 ∷ 0x00 ∷ 0x00 ∷ 0x03 ∷ 0xE9 ∷ 0x00 ∷ 0x00 ∷ 0x03 ∷ 0xE8 ∷ 0x32 ∷ 0x00 ∷ []

pub record Reckoned : Type 0 where
  pub below_half : nearest (pos 499) ≡ pos 0
  pub at_half : nearest (pos 500) ≡ pos 1
  pub at_minus_half : nearest (neg_ℤ (pos 500)) ≡ pos 0
  pub first_exchange : Posts first_bytes (post 1 (neg_ℤ (pos 74082)) ∷ post 2 (pos 49380) ∷ post 1 (pos 12351) ∷ post 2 (pos 12351) ∷ [])
  pub second_exchange : Posts second_bytes (post 1 (neg_ℤ (pos 1001)) ∷ post 2 (pos 1000) ∷ post 1 (pos 0) ∷ post 2 (pos 1) ∷ [])
