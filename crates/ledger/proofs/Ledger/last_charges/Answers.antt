use Rattle.std.proofs.Common.{◌≡◌, ℕ, ◌+◌, ◌-◌, ◌<◌, get_or, set, ℤ, pos, sym, ap, ◌∙◌, arith, length-set, w64, SFits, to_z, of_z, rules}
use Rattle.std.proofs.lemmas.Int.{to_z-of_z}
use Rattle.std.proofs.lemmas.List.FromFn.{get_or-map-range_with_len, length-map-range_with_len}
use Rattle.std.proofs.lemmas.List.{ext_get_or}
use Rattle.std.proofs.lemmas.List.Edits.{fill_by_more}
use Rattle.ledger.specs.declared.Ledger.{Ledger}
use Rattle.ledger.specs.Moves.{no_account, last_charges}
use Rattle.ledger.proofs.Ledger.last_charges.Goals as goal

-- the last charge at a place counted from 0
at_place : (l : Ledger) (i : ℕ) → i < 32 → get_or (last_charges l) i (pos 0) ≡ (get_or l.accounts i no_account).last
at_place l i below =
    get_or-map-range_with_len (λ m. (get_or l.accounts (m - 1) no_account).last) 1 32 i (i + 1) (pos 0) below (omega arith)
    ∙ ap (λ k. (get_or l.accounts k no_account).last) (let e : i + 1 - 1 ≡ i = omega arith in e)

pub loop-at-init : goal.loop-at-init
loop-at-init c = (search rules, search rules, λ k below. absurd (omega arith))

pub loop-at-preserved : goal.loop-at-preserved
loop-at-preserved c =
    let l = c.args.self.now in
    let i = c.loop-at.at in
    let a = get_or l.accounts i no_account in
    let same = c.loop-at.invariant.0 in
    let wide = c.loop-at.invariant.1 in
    let fits : SFits w64 a.last = search rules in
    let here = to_z-of_z w64 a.last fits ∙ sym (at_place l i (omega arith)) in (
      same,
      length-set c.loop-at.charges i (to_z w64 (of_z w64 a.last)) ∙ wide,
      λ k below. ap (λ (z : ℤ). get_or (set c.loop-at.charges i z) k (pos 0)) here
          ∙ fill_by_more (λ j. get_or (last_charges l) j (pos 0)) c.loop-at.charges i (pos 0) (omega arith) c.loop-at.invariant.2 k below,
    )

pub returns : goal.returns
returns c =
    let l = c.args.self.now in
    let wide = c.loop-at.invariant.1 in
    let long = length-map-range_with_len (λ m. (get_or l.accounts (m - 1) no_account).last) 1 32 in
    ext_get_or (pos 0) c.loop-at.charges (last_charges l) (omega arith) (λ k below. c.loop-at.invariant.2 k (omega arith))
