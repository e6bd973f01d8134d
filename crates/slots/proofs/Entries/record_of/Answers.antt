use Rattle.std.proofs.Common.{rules, ◌≡◌, suc, ◌<◌, true, false, cond, get_or, length, Some, None, sym, refl, ap, ◌∙◌, arith}
use Rattle.std.specs.Bool.{then_some}
use Rattle.slots.specs.declared.Slot.{Slot}
use Rattle.slots.specs.Entries.{standing_at, standing_in, stands}
use Rattle.slots.proofs.Numbers.{at_place, none_at_zero, none_past}
use Rattle.slots.proofs.Entries.record_of.Goals as goal

as_standing_in : {R : Type 0} (s : Slot R) → then_some (stands s.state) s.item ≡ standing_in s
as_standing_in s = elim (stands s.state) as (λ b. then_some b s.item ≡ cond b (Some s.item) None) [ true ↦ refl | false ↦ refl ]

pub returns-in_err-at-clause-stood : goal.returns-in_err-at-clause-stood
returns-in_err-at-clause-stood g c =
    let zero : c.args.number ≡ 0 = omega (arith, c.in_err-at.ensures) in
    c.from_residual.ensures ∙ sym (ap (λ n. standing_at n c.args.self.now.slots.now) zero ∙ none_at_zero c.args.self.now.slots.now)

pub returns-in_err-slot-clause-stood : goal.returns-in_err-slot-clause-stood
returns-in_err-slot-clause-stood g c =
    let past : length c.args.self.now.slots.now < c.args.number = search rules in
    c.from_residual-in_err-slot.ensures ∙ sym (none_past c.args.self.now.slots.now c.args.number past)

pub returns-clause-stood : goal.returns-clause-stood
returns-clause-stood g c =
    let ss = c.args.self.now.slots.now in
    let slot = c.in_ok-slot.slot.now in
    let stood : c.eq.result ≡ stands slot.state = search rules in
    let within : c.in_ok-at.at < length ss = search rules in
    let up : c.args.number ≡ suc c.in_ok-at.at = search rules in
    let read : slot ≡ get_or ss c.in_ok-at.at slot = search rules in
    let place = at_place ss c.in_ok-at.at slot within in
    let stands' = as_standing_in slot in
    let answered = c.then_some.ensures in
    cc
