use Rattle.std.proofs.Common.{rules, ◌≡◌, ◌≤◌, ℕ, List, ◌++◌, length, take, ◌+◌, ◌-◌, sym, ap, ◌∙◌, subst, length-take-le}
use Rattle.std.specs.Io.KnownBytes.{Consumes}
use Rattle.std.proofs.KnownBytes.{Consumes-trans}
use Rattle.std.proofs.Math.Seq.{take-append-add}
use borrow.Rule.Slice.PartMut.{put_mid, post_of}
use lib.Seq.{take-append-le}
use Rattle.desk.proofs.read_up_to.Goals as goal

-- a buffer into whose rest a read put ys, of which the first n bytes are its answer
answered : (a k n : ℕ) (xs ys : List ℕ) → a ≤ length xs → n ≤ length ys → take (a + n) (put_mid a k xs ys) ≡ take a xs ++ take n ys
answered a k n xs ys within fits =
    let after = post_of a k xs in
    ap (λ m. take (m + n) (put_mid a k xs ys)) (sym (length-take-le a xs within))
    ∙ take-append-add (take a xs) (ys ++ after) n
    ∙ ap (λ l. take a xs ++ l) (take-append-le n ys after fits)

pub loop-n-preserved : goal.loop-n-preserved
loop-n-preserved g c =
    let more = c.in_ok-more.ensures in
    let bytes = answered c.loop-n.n (length c.loop-n.buf - c.loop-n.n) c.in_ok-more.more c.loop-n.buf c.read.new.buf c.loop-n.invariant.1 more.bound.0 in
    (search rules, search rules, subst (Consumes _ _) (sym bytes) (Consumes-trans _ _ _ _ _ c.loop-n.invariant.2 more.bytes.0))
