-- What follows of an exchange that passes.
use Rattle.std.specs.Prelude.{◌≡◌, ℕ, suc, ◌≤◌, Bool, true, false, cond, List, [], ℤ, pos, negsuc, ◌-ℤ◌, ◌*ℤ◌, None, nat_le, unsigned_abs, refl}
use Rattle.std.proofs.Common.{arith, mul-le-mul_left}
use Rattle.std.proofs.lemmas.Int.{ints}
use Rattle.std.proofs.lemmas.Bool.{and_parts, leb-true, cond-true, cond-false}
use Rattle.amounts.specs.Floor.{Under}
use Rattle.amounts.proofs.Floors.{floor_is}
use Rattle.record.proofs.Checks.{all_hold, none_of}
use Rattle.record.specs.declared.Posting.{Posting}
use Rattle.exchange.specs.declared.Exchange.{Exchange}
use Rattle.record.specs.Reading.{in_range, within}
use Rattle.exchange.specs.Sound.{Sound}
use Rattle.exchange.specs.Meaning.{checks, fault_of, passing, share_of, postings, own_postings, key_of, own_key}

range_kept : (low high n : ℕ) → in_range low high n ≡ true → (low ≤ n) × (n ≤ high)
range_kept low high n h = let p = and_parts (nat_le low n) (nat_le n high) h in (leb-true low n p.0, leb-true n high p.1)

is_within : (b : ℕ) (z : ℤ) → within b z ≡ true → Under b z
is_within b z h = let l = leb-true (unsigned_abs z) b h in omega (arith, ints)

pub faultless_sound : (e : Exchange) → fault_of e ≡ None → Sound e
faultless_sound e h =
    let a = all_hold (checks e) h in
    let product = range_kept 1 3 e.product a.0 in
    let period = range_kept 1 2980 e.period a.1.0 in
    let importer = range_kept 1 32 e.importer a.1.1.0 in
    let exporter = range_kept 1 32 e.exporter a.1.1.1.0 in
    let volume = range_kept 1 1000000 e.volume a.1.1.1.1.0 in
    let b = a.1.1.1.1.1 in
    record { product_high = product.1; period_high = period.1; importer_low = importer.0; importer_high = importer.1; exporter_low = exporter.0; exporter_high = exporter.1; volume_high = volume.1; importing_fair = is_within 9999999 e.importing b.0; exporting_fair = is_within 9999999 e.exporting b.1.0; percentage_high = leb-true e.percentage 100 b.1.1.0 }

pub passing_sound : (e : Exchange) → passing e ≡ true → Sound e
passing_sound e h = faultless_sound e (none_of (fault_of e) h)

pub share_under : (z : ℤ) (p b : ℕ) → p ≤ 100 → Under b z → Under b (share_of z p) × Under b (z -ℤ share_of z p)
share_under (pos n) p b h u =
    let m = mul-le-mul_left n h in
    let f = floor_is (pos n *ℤ pos p) 100 (omega arith) in
    (omega (arith, ints), omega (arith, ints))
share_under (negsuc n) p b h u =
    let m = mul-le-mul_left (suc n) h in
    let f = floor_is (negsuc n *ℤ pos p) 100 (omega arith) in
    (omega (arith, ints), omega (arith, ints))

-- where the exchange passes, and where it does not
pub by_passing : (e : Exchange) (P : List Posting → ℕ → Type 0) → (Sound e → P (own_postings e) (own_key e)) → P [] 0 → P (postings e) (key_of e)
by_passing e P yes' no' = by (passing e) refl
  where
    by : (t : Bool) → passing e ≡ t → P (cond t (own_postings e) []) (cond t (own_key e) 0)
    by true h = yes' (passing_sound e h)
    by false h = no'

pub key_when : (e : Exchange) → passing e ≡ true → key_of e ≡ own_key e
key_when e h = cond-true (passing e) (own_key e) 0 h

pub no_key_when : (e : Exchange) → passing e ≡ false → key_of e ≡ 0
no_key_when e h = cond-false (passing e) (own_key e) 0 h
