-- What every exchange keeps to.
use Rattle.std.specs.Prelude.{◌≡◌, ℕ, ◌≤◌, true, List, [], ◌++◌, length, take, ℤ, pos, ◌-ℤ◌, ◌*ℤ◌, neg_ℤ, Ok, ◌≢◌, refl}
use Rattle.std.proofs.Common.{sym, ap, ◌∙◌, ⊎_elim, arith}
use Rattle.std.proofs.lemmas.Int.{ints}
use Rattle.std.specs.List.{AllByRecursion}
use Rattle.std.proofs.lemmas.Bool.{cases_Bool}
use Rattle.amounts.specs.Floor.{Under}
use Rattle.amounts.proofs.Floors.{times_under, nearest_under}
use Rattle.wire.specs.Bytes.{Byte}
use Rattle.record.specs.Meaning.{total, Fair}
use Rattle.record.proofs.Checks.{none_of, passes_none}
use Rattle.exchange.specs.declared.Exchange.{Exchange}
use Rattle.exchange.specs.Meaning.{passing, fault_of, share_of, worth, key_of, postings, four_postings}
use Rattle.exchange.specs.Bytes.{bytes_of, read_of}
use Rattle.exchange.specs.Passing.{passing_sound, share_under, by_passing, key_when, no_key_when}
use Rattle.exchange.specs.BytesLemmas as bytes

four_zero : (i x : ℕ) (a b s : ℤ) → total (four_postings i x a b s) ≡ pos 0
four_zero i x a b s = omega (arith, ints)

pub zero_sum : (e : Exchange) → total (postings e) ≡ pos 0
zero_sum e = by_passing e (λ l k. total l ≡ pos 0) (λ s. four_zero e.importer e.exporter (worth e.volume e.importing) (worth e.volume e.exporting) (share_of (worth e.volume e.importing -ℤ worth e.volume e.exporting) e.percentage)) refl

pub few : (e : Exchange) → length (postings e) ≤ 64
few e = by_passing e (λ l k. length l ≤ 64) (λ s. omega arith) (omega arith)

pub worth_under : (v : ℕ) (z : ℤ) → v ≤ 1000000 → Under 9999999 z → Under 9999999000 (worth v z)
worth_under v z h u = nearest_under (pos v *ℤ z) 9999999000 (times_under (pos v) z 1000000 9999999 (omega (arith, ints)) u)

one_fair : (m : ℕ) (z : ℤ) → 1 ≤ m → m ≤ 32 → Under 20000000000 z → Fair (record { member = m; cents = z })
one_fair m z a b u = record { first = a; last = b; low = u.0; high = u.1 }

four_fair : (i x p : ℕ) (a b : ℤ) → 1 ≤ i → i ≤ 32 → 1 ≤ x → x ≤ 32 → p ≤ 100 → Under 9999999000 a → Under 9999999000 b → AllByRecursion Fair (four_postings i x a b (share_of (a -ℤ b) p))
four_fair i x p a b i1 i2 x1 x2 p1 ua ub =
    let s = share_under (a -ℤ b) p 19999998000 p1 (omega (arith, ints)) in
    (one_fair i (neg_ℤ a) i1 i2 (omega (arith, ints)), (one_fair x b x1 x2 (omega (arith, ints)), (one_fair i (share_of (a -ℤ b) p) i1 i2 (omega (arith, ints)), (one_fair x ((a -ℤ b) -ℤ share_of (a -ℤ b) p) x1 x2 (omega (arith, ints)), tt))))

pub fair : (e : Exchange) → AllByRecursion Fair (postings e)
fair e = by_passing e (λ l k. AllByRecursion Fair l)
    (λ s. four_fair e.importer e.exporter e.percentage (worth e.volume e.importing) (worth e.volume e.exporting) s.importer_low s.importer_high s.exporter_low s.exporter_high s.percentage_high (worth_under e.volume e.importing s.volume_high s.importing_fair) (worth_under e.volume e.exporting s.volume_high s.exporting_fair))
    tt

pub alone : (e : Exchange) → key_of e ≡ 0 → postings e ≡ []
alone e = by_passing e (λ l k. k ≡ 0 → l ≡ []) (λ s h. absurd (omega (arith, s.importer_low))) (λ h. refl)

-- an exchange with a key passes
pub keyed_passes : (e : Exchange) → (key_of e ≢ 0) → passing e ≡ true
keyed_passes e h = ⊎_elim (λ t. t) (λ f. absurd (h (no_key_when e f))) (cases_Bool (passing e))

pub passing_keyed : (e : Exchange) → passing e ≡ true → key_of e ≢ 0
passing_keyed e p h = let s = passing_sound e p in let k = key_when e p in omega (arith, s.importer_low)

pub back : (e : Exchange) (rest : List ℕ) → (key_of e ≢ 0) → read_of (bytes_of e ++ rest) ≡ Ok e
back e rest h = let p = keyed_passes e h in bytes.reads_back e rest (passing_sound e p) (none_of (fault_of e) p)

pub forth : (xs : List ℕ) (e : Exchange) → AllByRecursion Byte xs → read_of xs ≡ Ok e → bytes_of e ≡ take 20 xs
forth xs e all h = let a = bytes.answered xs e h in ap bytes_of (sym a.fields) ∙ bytes.bytes_forth xs all a.long

pub sure : (xs : List ℕ) (e : Exchange) → read_of xs ≡ Ok e → key_of e ≢ 0
sure xs e h = let a = bytes.answered xs e h in passing_keyed e (passes_none (fault_of e) a.faultless)
