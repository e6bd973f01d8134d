use Rattle.std.proofs.Common.{◌≡◌, ◌+◌, ◌-◌, ◌*◌, ◌++◌, length, get_or, take, pos, ap, ◌∙◌, arith, w64, SFits, rules}
use borrow.Rule.Slice.PartMut.{put_mid}
use Rattle.std.proofs.lemmas.Int.{to_z-of_z}
use Rattle.std.proofs.lemmas.List.{take_all, drop_all, append-nil}
use Rattle.wire.specs.Bytes.{placed, signed_bytes}
use Rattle.statement.specs.Page.{amounts}
use Rattle.statement.proofs.Laying.{length_amounts, amounts_more}
use Rattle.statement.proofs.put_charges.Goals as goal

pub loop-at-preserved : goal.loop-at-preserved
loop-at-preserved c =
    let i = c.loop-at.at in
    let all : length c.args.charges.now ≡ 32 = search rules in
    let more = amounts_more i (8 * i + 8 - 8 * i) c.args.part.now c.loop-at.part c.args.charges.now (pos 0) c.loop-at.invariant (omega arith) (omega arith) (omega arith) in
    let f : SFits w64 (get_or c.args.charges.now i (pos 0)) = search rules in
    let wrote : c.put.new.part ≡ signed_bytes w64 8 (get_or c.args.charges.now i (pos 0)) = simp to_z-of_z at c.put.ensures in
    ap (put_mid (8 * i) (8 * i + 8 - 8 * i) c.loop-at.part) wrote ∙ more

pub returns : goal.returns
returns c =
    let zs = c.args.charges.now in
    let wide : length zs ≡ 32 = search rules in
    let long = length_amounts zs in
    let all : take c.loop-at.at zs ≡ zs = take_all c.loop-at.at zs (omega arith) in
    c.loop-at.invariant
    ∙ ap (λ zs. placed 0 (amounts zs) c.args.part.now) all
    ∙ ap (λ rest. amounts zs ++ rest) (drop_all (0 + length (amounts zs)) c.args.part.now (omega arith))
    ∙ append-nil (amounts zs)
