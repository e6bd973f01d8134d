-- Cutting.
use Rattle.std.proofs.Common.{◌≡◌, ℕ, zero, suc, ◌+◌, ◌<◌, ◌≤◌, List, [], ◌∷◌, ◌++◌, length, get_or, take, drop, set, ℤ, pos, ◌+ℤ◌, ◌-ℤ◌, ◌*ℤ◌, ◌<ℤ◌, sym, refl, ap, ◌∙◌, append_assoc, arith}
use native.Mathlib.Nat.{zero-div}
use lib.IntN.{+ℤ_assoc, +ℤ_idl, +ℤ_idr}
use borrow.Author.Differences.{ints}
use Rattle.std.proofs.lemmas.List.{take_more_set, drop_more, drop-set-lt}
use Rattle.amounts.specs.Floor.{floor_div, ceil_div}
use Rattle.amounts.specs.Cut.{total, cutting_from, cutting}
use Rattle.amounts.specs.Laws.{AddsUp, LiesBetween, KeepsBounds, AsMany}
use Rattle.amounts.proofs.Floors.{floor_is, below_whole, ceil_above, near}

adds_from : (d : ℕ) (s : ℤ) (xs : List ℤ) → total (cutting_from d s xs) ≡ floor_div (s +ℤ total xs) d -ℤ floor_div s d
adds_from d s [] = let e = ap (λ z. floor_div z d) (+ℤ_idr s) in omega (arith, ints, e)
adds_from d s (x ∷ xs) =
    let e = ap (λ z. floor_div z d) (+ℤ_assoc s x (total xs)) in
    let r = adds_from d (s +ℤ x) xs in
    omega (arith, ints)

pub adds_up : AddsUp
adds_up d xs =
    let e = ap (λ z. floor_div z d) (+ℤ_idl (total xs)) in
    let z = ap pos (zero-div d) in
    let r = adds_from d (pos 0) xs in
    omega (arith, ints)

-- each part is less than 1 off its exact amount
near_from : (d : ℕ) (s : ℤ) (xs : List ℤ) (i : ℕ) → 0 < d → i < length xs → ((get_or (cutting_from d s xs) i (pos 0) *ℤ pos d) <ℤ (get_or xs i (pos 0) +ℤ pos d)) × ((get_or xs i (pos 0)) <ℤ (get_or (cutting_from d s xs) i (pos 0) *ℤ pos d +ℤ pos d))
near_from d s [] i h l = absurd (omega arith)
near_from d s (x ∷ xs) zero h l = near s x d h
near_from d s (x ∷ xs) (suc i) h l = near_from d (s +ℤ x) xs i h (omega arith)

pub lies_between : LiesBetween
lies_between d xs i h l =
    let n = near_from d (pos 0) xs i h l in
    let f = floor_is (get_or xs i (pos 0)) d h in
    let g = ceil_above (get_or xs i (pos 0)) d h in
    (below_whole (floor_div (get_or xs i (pos 0)) d) (get_or (cutting d xs) i (pos 0)) d (omega (arith, ints)), below_whole (get_or (cutting d xs) i (pos 0)) (ceil_div (get_or xs i (pos 0)) d) d (omega (arith, ints)))

pub keeps_bounds : KeepsBounds
keeps_bounds d xs i k h l =
    let n = near_from d (pos 0) xs i h l in
    (λ b. below_whole (get_or (cutting d xs) i (pos 0)) k d (omega (arith, ints)), λ b. below_whole k (get_or (cutting d xs) i (pos 0)) d (omega (arith, ints)))

many_from : (d : ℕ) (s : ℤ) (xs : List ℤ) → length (cutting_from d s xs) ≡ length xs
many_from d s [] = refl
many_from d s (x ∷ xs) = ap suc (many_from d (s +ℤ x) xs)

pub as_many : AsMany
as_many d xs = many_from d (pos 0) xs

-- one turn of a loop that turns each amount in xs into its part
pub cut_more : (d : ℕ) (s : ℤ) (whole xs : List ℤ) (i : ℕ) (t v : ℤ) → i < length xs → t ≡ s +ℤ get_or xs i (pos 0) → v ≡ floor_div t d -ℤ floor_div s d → take i xs ++ cutting_from d s (drop i xs) ≡ whole → take (i + 1) (set xs i v) ++ cutting_from d t (drop (i + 1) (set xs i v)) ≡ whole
cut_more d s whole xs i t v l te ve inv =
    let a = take_more_set xs i v l in
    let b = ap (cutting_from d s) (drop_more xs i (pos 0) l) in
    let e : floor_div (s +ℤ get_or xs i (pos 0)) d -ℤ floor_div s d ≡ v = ap (λ z. floor_div z d -ℤ floor_div s d) (sym te) ∙ sym ve in
    let f : cutting_from d (s +ℤ get_or xs i (pos 0)) (drop (i + 1) xs) ≡ cutting_from d t (drop (i + 1) (set xs i v)) = ap (λ z. cutting_from d z (drop (i + 1) xs)) (sym te) ∙ ap (cutting_from d t) (sym (drop-set-lt (i + 1) xs i v (omega arith))) in
    let g = append_assoc (take i xs) (v ∷ []) (cutting_from d t (drop (i + 1) (set xs i v))) in
    cc
