-- The bytes of an exchange, written and read back, and read and written back.
use Rattle.std.specs.Prelude.{◌≡◌, ℕ, ◌+◌, ◌<◌, ◌≤◌, Bool, true, false, cond, List, ◌++◌, length, take, drop, ℤ, Some, None, Ok, Err, nat_lt, slice_set, refl}
use Rattle.std.proofs.Common.{sym, ap, ◌∙◌, ⊎_elim, arith, lit<, length-take, length-drop}
use Rattle.std.proofs.lemmas.Int.{ints}
use borrow.Rule.Slice.PartMut.{put_mid}
use Rattle.std.specs.Int.{w32}
use Rattle.std.specs.List.{AllByRecursion}
use Rattle.std.specs.Result.{result_ok}
use Rattle.std.proofs.lemmas.Option.{none-some}
use Rattle.std.proofs.ByRecursion.{All-take, All-drop}
use Rattle.std.proofs.lemmas.List.{take_all}
use Rattle.std.proofs.lemmas.Bool.{ltb-false, le-ltb, lt-ltb, cond-true, cond-false, cases_lt}
use Rattle.amounts.specs.Floor.{Under}
use Rattle.refusal.specs.Told.{plain}
use Rattle.wire.specs.Bytes.{Byte, bytes, number, part, signed_bytes, signed_number}
use Rattle.wire.specs.Fields.{number_back, signed_back, bytes_at_width, signed_forth, spread, spread_is, spread_all}
use Rattle.record.specs.Reading.{OfRecord, field, whole, refusal_of, unless}
use Rattle.record.proofs.Checks.{first_among, unless_err, unless_ok}
use Rattle.exchange.specs.declared.Exchange.{Exchange}
use Rattle.exchange.specs.declared.ExchangeFault.{ExchangeFault}
use Rattle.exchange.specs.declared.ExchangeFault.TheVariants.{CutOff}
use Rattle.exchange.specs.Meaning.{checks, fault_of, told_of}
use Rattle.exchange.specs.Sound.{Sound}
use Rattle.exchange.specs.Bytes.{fields_of, bytes_of, read_of}

-- an exchange with four of its fields replaced
abbrev with' : Exchange → ℕ → ℕ → ℤ → ℤ → Exchange
with' e p v i x = record { product = e.product; period = p; border = e.border; importer = e.importer; exporter = e.exporter; volume = v; importing = i; exporting = x; percentage = e.percentage; reserved = e.reserved }

same_with : (e : Exchange) {p q v w : ℕ} {i j x y : ℤ} → p ≡ q → v ≡ w → i ≡ j → x ≡ y → with' e p v i x ≡ with' e q w j y
same_with e a b c d = cc

price_back : (z : ℤ) → Under 9999999 z → signed_number w32 (signed_bytes w32 4 z) ≡ z
price_back z u = signed_back w32 4 refl z (omega (arith, ints)) (omega (arith, ints))

pub fields_back : (e : Exchange) (rest : List ℕ) → Sound e → fields_of (bytes_of e ++ rest) ≡ e
fields_back e rest s =
    same_with e (number_back 2 e.period (omega (arith, s.period_high))) (number_back 4 e.volume (omega (arith, s.volume_high)))
    (price_back e.importing s.importing_fair) (price_back e.exporting s.exporting_fair)

long_enough : (e : Exchange) (rest : List ℕ) → 20 ≤ length (bytes_of e ++ rest)
long_enough e rest = omega arith

pub reads_back : (e : Exchange) (rest : List ℕ) → Sound e → fault_of e ≡ None → read_of (bytes_of e ++ rest) ≡ Ok e
reads_back e rest s h =
    cond-false (nat_lt (length (bytes_of e ++ rest)) 20) _ _ (le-ltb (length (bytes_of e ++ rest)) 20 (long_enough e rest))
    ∙ ap (λ x. unless (fault_of x) x) (fields_back e rest s)
    ∙ ap (λ o. unless o e) h

-- what was answered is what stands in the bytes
pub record Answered (xs : List ℕ) (e : Exchange) : Type 0 where
  pub long : 20 ≤ length xs
  pub faultless : fault_of e ≡ None
  pub fields : fields_of xs ≡ e

pub answered : (xs : List ℕ) (e : Exchange) → read_of xs ≡ Ok e → Answered xs e
answered xs e h = by (nat_lt (length xs) 20) refl h
  where
    by : (b : Bool) → nat_lt (length xs) 20 ≡ b → cond b (Err CutOff) (unless (fault_of (fields_of xs)) (fields_of xs)) ≡ Ok e → Answered xs e
    by true t k = absurd (none-some e (ap result_ok k))
    by false t k =
        let u = unless_ok (fault_of (fields_of xs)) (fields_of xs) e k in
        record { long = ltb-false (length xs) 20 t; faultless = ap fault_of (sym u.1) ∙ u.0; fields = u.1 }

-- a field's bytes are those that stand in the record
module _ (xs : List ℕ) (all : AllByRecursion Byte xs) (k n : ℕ) (h : k + n ≤ length xs) where
  part_bytes : AllByRecursion Byte (part k n xs)
  part_bytes = All-take Byte n (drop k xs) (All-drop Byte k xs all)

  part_long : length (part k n xs) ≡ n
  part_long = simp (length-take, length-drop) (omega arith)

  unsigned_at : bytes n (number (part k n xs)) ≡ spread k n xs
  unsigned_at = bytes_at_width n (part k n xs) part_bytes part_long ∙ spread_is k n xs h

price_at : (xs : List ℕ) → AllByRecursion Byte xs → (k : ℕ) → k + 4 ≤ length xs → signed_bytes w32 4 (signed_number w32 (part k 4 xs)) ≡ spread k 4 xs
price_at xs all k h = signed_forth w32 4 refl (part k 4 xs) (part_bytes xs all k 4 h) (part_long xs all k 4 h) ∙ spread_is k 4 xs h

pub bytes_forth : (xs : List ℕ) → AllByRecursion Byte xs → 20 ≤ length xs → bytes_of (fields_of xs) ≡ take 20 xs
bytes_forth xs all h =
    let p = unsigned_at xs all 1 2 (omega arith) in
    let v = unsigned_at xs all 6 4 (omega arith) in
    let i = price_at xs all 10 (omega arith) in
    let x = price_at xs all 14 (omega arith) in
    let s = spread_is 0 20 xs h in
    cc

pub cut_off : (xs : List ℕ) → length xs < 20 → refusal_of told_of (read_of xs) ≡ Some (plain 4)
cut_off xs h = ap (refusal_of told_of) (cond-true (nat_lt (length xs) 20) _ _ (lt-ltb (length xs) 20 h))

pub long_read : (xs : List ℕ) → 20 ≤ length xs → read_of xs ≡ unless (fault_of (fields_of xs)) (fields_of xs)
long_read xs h = cond-false (nat_lt (length xs) 20) _ _ (le-ltb (length xs) 20 h)

-- every check of the fields is told as a refusal of the layer `record`
all_of_record : (e : Exchange) → AllByRecursion (λ t. OfRecord 20 (told_of t.fault)) (checks e)
all_of_record e =
    (field 0 (lit< tt), (field 1 (lit< tt), (field 4 (lit< tt), (field 5 (lit< tt), (field 6 (lit< tt), (field 10 (lit< tt), (field 14 (lit< tt), (field 18 (lit< tt), (field 19 (lit< tt), (whole 6 refl (λ n. omega arith), (whole 7 refl (λ n. omega arith), tt)))))))))))

pub of_record : (xs : List ℕ) (f : ExchangeFault) → 20 ≤ length xs → read_of xs ≡ Err f → OfRecord 20 (told_of f)
of_record xs f h r =
    first_among (λ g. OfRecord 20 (told_of g)) (checks (fields_of xs)) f (all_of_record (fields_of xs))
    (unless_err (fault_of (fields_of xs)) (fields_of xs) f (sym (long_read xs h) ∙ r))

-- the fields are read from the first twenty bytes
fields_spread : (xs : List ℕ) → 20 ≤ length xs → fields_of (spread 0 20 xs) ≡ fields_of xs
fields_spread xs h =
    same_with (fields_of xs) (ap number (sym (spread_is 1 2 xs (omega arith)))) (ap number (sym (spread_is 6 4 xs (omega arith))))
    (ap (signed_number w32) (sym (spread_is 10 4 xs (omega arith)))) (ap (signed_number w32) (sym (spread_is 14 4 xs (omega arith))))

length_first : (xs : List ℕ) → 20 ≤ length xs → 20 ≤ length (take 20 xs)
length_first xs h = simp length-take (omega arith)

pub first_fields : (xs : List ℕ) → 20 ≤ length xs → fields_of (take 20 xs) ≡ fields_of xs
first_fields xs h = ap fields_of (spread_is 0 20 xs h) ∙ fields_spread xs h

-- further bytes are ignored
pub ahead : (xs : List ℕ) → read_of (take 20 xs) ≡ read_of xs
ahead xs = ⊎_elim
    (λ l. ap read_of (take_all 20 xs (omega arith)))
    (λ g. long_read (take 20 xs) (length_first xs g) ∙ ap (λ e. unless (fault_of e) e) (first_fields xs g) ∙ sym (long_read xs g))
    (cases_lt (length xs) 20)

-- the twenty bytes of a lent part, overwritten field by field
abbrev overwrite : Exchange → List ℕ → List ℕ → List ℕ → List ℕ → List ℕ → List ℕ
overwrite e xs p v i x =
    slice_set (slice_set (put_mid 14 4 (put_mid 10 4 (put_mid 6 4 (slice_set (slice_set (slice_set (put_mid 1 2 (slice_set xs 0 e.product) p) 3 e.border) 4 e.importer) 5 e.exporter) v) i) x) 18 e.percentage) 19 e.reserved

pub overwritten : (e : Exchange) (xs p v i x : List ℕ) → length xs ≡ 20 → p ≡ bytes 2 e.period → v ≡ bytes 4 e.volume → i ≡ signed_bytes w32 4 e.importing → x ≡ signed_bytes w32 4 e.exporting
    → overwrite e xs p v i x ≡ bytes_of e
overwritten e xs p v i x h ep ev ei ex =
    ap (λ l. overwrite e l p v i x) (spread_all 20 xs h)
    ∙ ap (λ q. overwrite e (spread 0 20 xs) q v i x) ep
    ∙ ap (λ q. overwrite e (spread 0 20 xs) (bytes 2 e.period) q i x) ev
    ∙ ap (λ q. overwrite e (spread 0 20 xs) (bytes 2 e.period) (bytes 4 e.volume) q x) ei
    ∙ ap (λ q. overwrite e (spread 0 20 xs) (bytes 2 e.period) (bytes 4 e.volume) (signed_bytes w32 4 e.importing) q) ex
