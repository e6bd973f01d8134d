-- Writing one part after another into a page.
use Rattle.std.proofs.Common.{◌≡◌, ℕ, ◌+◌, ◌≤◌, List, [], ◌++◌, length, take, drop, sym, ap, ◌∙◌, append_assoc, arith, length-append, take-append-drop, length-take, drop-drop}
use borrow.Rule.Slice.PartMut.{put_mid}
use Rattle.std.proofs.lemmas.List.{take_at, drop_at}
use Rattle.wire.specs.Bytes.{placed}

length_front : (at : ℕ) (xs bs : List ℕ) (a : ℕ) → a ≡ at + length bs → a ≤ length xs → length (take at xs ++ bs) ≡ a
length_front at xs bs a e h = simp (length-append, length-take) (omega arith)

pub placed_more : (at a k : ℕ) (xs bs cs : List ℕ) → a ≡ at + length bs → k ≡ length cs → a + k ≤ length xs
    → put_mid a k (placed at bs xs) cs ≡ placed at (bs ++ cs) xs
placed_more at a k xs bs cs ea ek h =
    let long : length (take at xs ++ bs) ≡ a = length_front at xs bs a ea (omega arith) in
    let whole : placed at bs xs ≡ (take at xs ++ bs) ++ drop a xs = ap (λ n. take at xs ++ (bs ++ drop n xs)) (sym ea) ∙ sym (append_assoc (take at xs) bs (drop a xs)) in
    let end : a + k ≡ at + length (bs ++ cs) = simp length-append (omega arith) in
    simp (whole, take_at (take at xs ++ bs) (drop a xs) a long, drop_at (take at xs ++ bs) (drop a xs) a long) (simp (drop-drop, append_assoc, end))

pub placed_none : (at : ℕ) (xs : List ℕ) → xs ≡ placed at [] xs
placed_none at xs = grind (arith, take-append-drop)
