use Rattle.std.proofs.Common.{◌≡◌, ℕ, ◌+◌, ◌<◌, List, length, map, get_or, take, fold, sym, ap, ◌∙◌, subst, rules}
use Rattle.std.proofs.ByRecursion.{All-get_or}
use Rattle.std.proofs.lemmas.List.{map_more}
use Rattle.std.proofs.lemmas.List.Sums.{fold_push}
use Rattle.std.specs.List.{AllByRecursion}
use Rattle.record.specs.declared.Posting.{Posting}
use Rattle.record.specs.Meaning.{Fair, no_posting, post}
use Rattle.ledger.specs.declared.Ledger.{Ledger}
use Rattle.ledger.specs.Moves.{all_posted, ledger_of, moved, posted_to}
use Rattle.ledger.proofs.Ledger.post_each.Goals as goal

-- one posting more
posted_more : (turned : Posting → Posting) (l : Ledger) (ps : List Posting) (i : ℕ) → i < length ps → posted_to (all_posted l (map turned (take i ps))) (turned (get_or ps i no_posting)) ≡ all_posted l (map turned (take (i + 1) ps))
posted_more turned l ps i below =
    ap ledger_of (sym (ap (fold moved l.accounts) (map_more turned ps i no_posting below) ∙ fold_push moved l.accounts (map turned (take i ps)) (turned (get_or ps i no_posting))))

pub loop-p-preserved : goal.loop-p-preserved
loop-p-preserved g c =
    let all = c.loop-p.invariant.0 in
    let here = c.loop-p-test.true in
    let fair = All-get_or Fair _ _ no_posting here (subst (AllByRecursion Fair) (sym all) (g.met.R.Record.fair c.args.item.now)) in (
      all,
      λ turns exact.
          let cents = exact _ c.turned.result fair (search rules) in
          let before = c.loop-p.invariant.1 turns exact in
          let more = posted_more (λ p. post p.member (turns p.cents)) c.args.self.now _ _ here in
          search rules,
    )
