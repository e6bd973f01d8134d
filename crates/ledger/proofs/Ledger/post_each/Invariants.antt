use Rattle.std.proofs.Common.{◌≡◌, map, take, ℤ}
use Rattle.record.specs.declared.Posting.{Posting}
use Rattle.record.specs.Meaning.{post, Fair}
use Rattle.ledger.specs.Moves.{all_posted}
use Rattle.ledger.proofs.Ledger.post_each.Given as goal

abbrev pub invariant-loop-p : goal.invariant-loop-p
invariant-loop-p g l =
    (l.p-items ≡ g.R.Record.posted l.item)
    × ((turns : ℤ → ℤ) → ((p : Posting) (cents : ℤ) → Fair p → goal.F-post g l.turned p.cents cents → cents ≡ turns p.cents)
    → l.self ≡ all_posted l.fn.self (map (λ p. post p.member (turns p.cents)) (take l.p-index l.p-items)))
