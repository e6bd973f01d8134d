-- The fields of a statement, written one after another.
use Rattle.std.proofs.Common.{◌≡◌, ℕ, ◌+◌, ◌*◌, ◌<◌, ◌≤◌, List, [], ◌∷◌, ◌++◌, length, get_or, take, set, ℤ, sym, refl, ap, ◌∙◌, arith, length-append, w64}
use borrow.Rule.Slice.PartMut.{put_mid}
use Rattle.std.proofs.lemmas.List.{append-nil, drop_all, flat_map_more, length-take-le, set_split, take_more}
use Rattle.wire.specs.Bytes.{bytes, placed, signed_bytes}
use Rattle.wire.proofs.Placing.{placed_more}
use Rattle.statement.specs.declared.Statement.{Statement}
use Rattle.statement.specs.Page.{amounts, bytes_of}

pub length_amounts : (zs : List ℤ) → length (amounts zs) ≡ 8 * length zs
length_amounts [] = refl
length_amounts (z ∷ zs) = let h = length_amounts zs in simp length-append (omega arith)

-- one amount more
pub amounts_more : (i k : ℕ) (xs page : List ℕ) (zs : List ℤ) (d : ℤ)
    → page ≡ placed 0 (amounts (take i zs)) xs → i < length zs → 8 * length zs ≤ length xs → k ≡ 8
    → put_mid (8 * i) k page (signed_bytes w64 8 (get_or zs i d)) ≡ placed 0 (amounts (take (i + 1) zs)) xs
amounts_more i k xs page zs d e h room k8 =
    let long : length (amounts (take i zs)) ≡ 8 * i = length_amounts (take i zs) ∙ ap (λ n. 8 * n) (length-take-le i zs (omega arith)) in
    ap (λ p. put_mid (8 * i) k p (signed_bytes w64 8 (get_or zs i d))) e
    ∙ placed_more 0 (8 * i) k xs (amounts (take i zs)) (signed_bytes w64 8 (get_or zs i d)) (omega arith) k8 (omega arith)
    ∙ ap (λ bs. placed 0 bs xs) (flat_map_more (signed_bytes w64 8) [] (take i zs) (get_or zs i d) ∙ ap amounts (sym (take_more zs i d h)))

-- all fields of a statement, laid over a part of 263 bytes
pub laid : (s : Statement) (xs a b d : List ℕ) → length xs ≡ 263 → length s.charges ≡ 32 → a ≡ bytes 4 s.number → b ≡ bytes 2 s.edition → d ≡ amounts s.charges
    → put_mid 7 256 (put_mid 5 2 (put_mid 1 4 (set xs 0 48) a) b) d ≡ bytes_of s
laid s xs a b d wide full ea eb ed =
    let long = length_amounts s.charges in
    let n4 = bytes 4 s.number in
    let n2 = bytes 2 s.edition in
    let zs = amounts s.charges in
    ap (λ d. put_mid 7 256 (put_mid 5 2 (put_mid 1 4 (set xs 0 48) a) b) d) ed
    ∙ ap (λ b. put_mid 7 256 (put_mid 5 2 (put_mid 1 4 (set xs 0 48) a) b) zs) eb
    ∙ ap (λ a. put_mid 7 256 (put_mid 5 2 (put_mid 1 4 (set xs 0 48) a) n2) zs) ea
    ∙ ap (λ p. put_mid 7 256 (put_mid 5 2 (put_mid 1 4 p n4) n2) zs) (set_split xs 0 48 (omega arith))
    ∙ ap (λ p. put_mid 7 256 (put_mid 5 2 p n2) zs) (placed_more 0 1 4 xs (48 ∷ []) n4 refl refl (omega arith))
    ∙ ap (λ p. put_mid 7 256 p zs) (placed_more 0 5 2 xs (48 ∷ n4) n2 refl refl (omega arith))
    ∙ placed_more 0 7 256 xs (48 ∷ (n4 ++ n2)) zs refl (omega arith) (omega arith)
    ∙ ap (λ rest. bytes_of s ++ rest) (drop_all (0 + length (bytes_of s)) xs (omega arith))
    ∙ append-nil (bytes_of s)
