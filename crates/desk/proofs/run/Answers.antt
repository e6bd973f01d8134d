use Rattle.std.proofs.Common.{rules, ◌≡◌, [], ◌∷◌, IfSome, Ok, subst, ◌∙◌, take, drop, length}
use Rattle.std.proofs.lemmas.List.{take_at}
use Rattle.report.specs.Lines.{Added}
use Rattle.desk.specs.Refused.{whole_refused}
use Rattle.desk.proofs.Whole.{after_nothing, fitted, whole_written}
use Rattle.desk.proofs.run.Goals as goal

pub returns-clause-refused : goal.returns-clause-refused
returns-clause-refused g c =
    let known = g.I.Read.remaining c.args.input.now in
    let file = take c.in_ok-n.n c.read_up_to.new.buf in
    let full : length c.deref_mut.result.now ≡ 32769 = search rules in
    let same : c.deref.result.now ≡ c.read_up_to.new.buf = c.deref.ensures.value ∙ take_at c.read_up_to.new.buf (drop (length c.read_up_to.new.buf) c.in_ok-buf.buf.items) c.in_ok-buf.buf.len (search rules) in
    let fitted : c.settle.result ≡ Ok tt = fitted c.settle.result c.in_ok-map_err.ensures.variant in
    whole_written _ c.settle.new.report.page _ _ c.settle.new.report.end _ _ c.new-report.ensures.empty c.lines-lines.ensures (search (rules, after_nothing)) known file
    (subst (λ most. IfSome known (λ bytes. file ≡ take most bytes)) full c.in_ok-n.ensures.bytes)
    (subst (λ r. IfSome (whole_refused file) (λ line. Added (line ∷ []) c.new-report.result.page c.new-report.result.end c.settle.new.report.page c.settle.new.report.end r)) fitted
    (subst (λ buf. IfSome (whole_refused (take c.in_ok-n.n buf)) (λ line. Added (line ∷ []) c.new-report.result.page c.new-report.result.end c.settle.new.report.page c.settle.new.report.end c.settle.result)) same c.settle.ensures.refused))
