use Rattle.std.proofs.Common.{rules, ◌≡◌, ◌+◌, ◌-◌, sym, ap, ◌∙◌}
use Rattle.std.specs.Prelude.{Ok, Err}
use Rattle.report.specs.Lines.{all_added, members}
use Rattle.report.proofs.Adding.{member_fits, member_stops, member_unknown}
use Rattle.report.proofs.Report.accounts.Goals as goal
use Rattle.report.proofs.Report.accounts.Goals.{in-Ok+in_ok-account, in_default}

pub returns-in_err-account-clause-came : goal.returns-in_err-account-clause-came
returns-in_err-account-clause-came g c told tells =
    let m = c.loop-member.member in
    let f = c.in_err-account.field-0.0 in
    let after = c.account.new.self in
    let is : told m ≡ Ok c.in-Ok.account = sym (tells m (search rules) (search rules) c.account_of.result (search rules)) ∙ c.in-Ok.is in
    let was : c.account.result ≡ Err f = c.in_err-account.was in
    let gave : c.from_residual.result ≡ Err f = search rules in
    c.loop-member.invariant.0 told tells
    ∙ member_stops told m _ _ (search rules) c.in-Ok.account _ _ f is (c.account.ensures.came ∙ ap (λ r. (after.page.now, (after.end, r))) was)
    ∙ ap (λ r. (after.page.now, (after.end, r))) (sym gave)

pub loop-member-preserved : goal.loop-member-preserved
loop-member-preserved g c =
    let m = c.loop-member.member in
    elim c.match-account_of.branch [
      | in-Ok+in_ok-account w ↦
          (let after = w.account.new.self in
          let was : w.account.result ≡ Ok tt = w.in_ok-account.was in (
            (λ told tells. let is : told m ≡ Ok w.in-Ok.account = sym (tells m (search rules) (search rules) c.account_of.result (search rules)) ∙ w.in-Ok.is in
                c.loop-member.invariant.0 told tells
                ∙ member_fits told m _ _ (search rules) w.in-Ok.account _ _ is (w.account.ensures.came ∙ ap (λ r. (after.page.now, (after.end, r))) was)
                ∙ ap (λ s. all_added (members told (m + 1) (33 - (m + 1))) s.page.now s.end) (sym w.self-is)),
            ap (λ s. s.page.ghost_name) w.self-is ∙ w.account.ensures.lent ∙ c.loop-member.invariant.1,
          ))
      | in_default w ↦ (
        (λ told tells. let is : told m ≡ Err w.in_default.field-0 = sym (tells m (search rules) (search rules) c.account_of.result (search rules)) ∙ w.in_default.is in
            c.loop-member.invariant.0 told tells
            ∙ member_unknown told m _ _ (search rules) w.in_default.field-0 is c.loop-member.self.within
            ∙ ap (λ s. all_added (members told (m + 1) (33 - (m + 1))) s.page.now s.end) (sym w.self-is)),
        ap (λ s. s.page.ghost_name) w.self-is ∙ c.loop-member.invariant.1,
      )
    ]
