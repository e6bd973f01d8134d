-- The lines of the members, added to a report one by one.
use Rattle.std.proofs.Common.{◌≡◌, ℕ, suc, ◌+◌, ◌-◌, ◌<◌, ◌≤◌, Bool, true, false, cond, [], leb, List, ◌∷◌, length, sym, refl, ap, ◌∙◌, arith}
use Rattle.std.specs.Prelude.{Ok, Err, Result, nat_le}
use Rattle.std.proofs.lemmas.Bool.{cond-true, le-leb}
use Rattle.refusal.specs.declared.MemberFault.{MemberFault}
use Rattle.refusal.specs.declared.PageFault.{PageFault}
use Rattle.refusal.specs.declared.PageFault.TheVariants.{TooShort}
use Rattle.ledger.specs.declared.Account.{Account}
use Rattle.wire.proofs.Placing.{placed_none}
use Rattle.report.specs.Line.{shown}
use Rattle.report.specs.Lines.{all_added, members, told_line}

-- a page, the place where its lines end, and an answer
abbrev State : Type 0
State = List ℕ × (ℕ × Result (Unit {0}) PageFault)

-- a line that fits, before more of them
taken : (b : Bool) (more : List (List ℕ)) (fit stop after : State) → stop.1.1 ≡ Err TooShort → after.1.1 ≡ Ok tt
    → cond b fit stop ≡ after → cond b (all_added more fit.0 fit.1.0) stop ≡ all_added more after.0 after.1.0
taken true more fit stop after short ok came = ap (λ s. all_added more s.0 s.1.0) came
taken false more fit stop after short ok came = let same = ap (λ s. s.1.1) came in absurd (grind arith)

-- and one that does not
left : (b : Bool) (next fit stop after : State) (f : PageFault) → fit.1.1 ≡ Ok tt → after.1.1 ≡ Err f
    → cond b fit stop ≡ after → cond b next stop ≡ after
left true next fit stop after f ok short came = let same = ap (λ s. s.1.1) came in absurd (grind arith)
left false next fit stop after f ok short came = came

-- the members from m to 32: m, and those after it
split : (told : ℕ → Result Account MemberFault) (m : ℕ) → m < 33 → members told m (33 - m) ≡ told_line m (told m) ∷ members told (m + 1) (33 - (m + 1))
split told m h =
    let e : 33 - m ≡ suc (33 - (m + 1)) = omega arith in
    let n : suc m ≡ m + 1 = omega arith in
    ap (members told m) e ∙ ap (λ k. told_line m (told m) ∷ members told k (33 - (m + 1))) n

module _ (told : ℕ → Result Account MemberFault) (m : ℕ) (page : List ℕ) (end : ℕ) (h : m < 33) where
  first : (t : Result Account MemberFault) → told m ≡ t
      → all_added (members told m (33 - m)) page end ≡ all_added (told_line m t ∷ members told (m + 1) (33 - (m + 1))) page end
  first t is =
      ap (λ ls. all_added ls page end) (split told m h)
      ∙ ap (λ t. all_added (told_line m t ∷ members told (m + 1) (33 - (m + 1))) page end) is

  -- the line of this member fits
  pub member_fits : (a : Account) (p : List ℕ) (e : ℕ) → told m ≡ Ok a → all_added (shown m a ∷ []) page end ≡ (p, (e, Ok tt))
      → all_added (members told m (33 - m)) page end ≡ all_added (members told (m + 1) (33 - (m + 1))) p e
  member_fits a p e is came = first (Ok a) is ∙ taken (nat_le (end + length (shown m a)) (length page)) _ _ _ (p, (e, Ok tt)) refl refl came

  -- it does not fit
  pub member_stops : (a : Account) (p : List ℕ) (e : ℕ) (f : PageFault) → told m ≡ Ok a → all_added (shown m a ∷ []) page end ≡ (p, (e, Err f))
      → all_added (members told m (33 - m)) page end ≡ (p, (e, Err f))
  member_stops a p e f is came = first (Ok a) is ∙ left (nat_le (end + length (shown m a)) (length page)) _ _ _ (p, (e, Err f)) f refl refl came

  -- no account is told of it
  pub member_unknown : (f : MemberFault) → told m ≡ Err f → end ≤ length page
      → all_added (members told m (33 - m)) page end ≡ all_added (members told (m + 1) (33 - (m + 1))) page end
  member_unknown f is within =
      let same : end + 0 ≡ end = omega arith in
      first (Err f) is
      ∙ cond-true (leb (end + 0) (length page)) _ _ (le-leb (end + 0) (length page) (omega arith))
      ∙ ap (λ p. all_added (members told (m + 1) (33 - (m + 1))) p (end + 0)) (sym (placed_none end page))
      ∙ ap (all_added (members told (m + 1) (33 - (m + 1))) page) same
