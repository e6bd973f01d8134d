use Rattle.std.proofs.Common.{◌≡◌, [], ◌∷◌, ◌++◌, append_assoc, arith, ap, ◌∙◌, w64, SFits}
use Rattle.std.proofs.lemmas.Int.{to_z-of_z}
use Rattle.std.proofs.lemmas.Grind.{common_steps}
use Rattle.report.specs.Line.{account_line, written}
use Rattle.report.proofs.put_account.Goals as goal

pub returns-clause-answer : goal.returns-clause-answer
returns-clause-answer c =
    let x : SFits w64 c.args.balance = c.ranges.balance in
    let y : SFits w64 c.args.charged = c.ranges.charged in
    let whole : c.number-3.new.self.bytes.items ++ 10 ∷ [] ≡ account_line c.args.member c.args.balance c.args.charged =
    grind (arith, common_steps, to_z-of_z, append_assoc) in
    c.put.ensures.answer ∙ ap (λ bs. written c.args.at bs c.args.page.now) whole
