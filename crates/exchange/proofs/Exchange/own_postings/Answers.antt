use Rattle.std.proofs.Common.{◌≡◌, ◌-ℤ◌, neg_ℤ, ap, ◌∙◌, arith, rules}
use borrow.Author.Differences.{ints}
use Rattle.record.specs.Meaning.{post}
use Rattle.exchange.specs.Meaning.{four_postings, own_postings, share_of}
use Rattle.exchange.specs.Passing.{share_under}
use Rattle.exchange.proofs.Exchange.own_postings.Goals as goal

pub overflow_sub-worths-3 : goal.overflow_sub-worths-3
overflow_sub-worths-3 c =
    let w = c.worths-worths.result in
    let u = share_under (w.importing -ℤ w.exporting) w.percentage 19999998000 w.part (omega (arith, ints)) in
    let e : c.share-share.result ≡ share_of (w.importing -ℤ w.exporting) w.percentage = search rules in
    omega (arith, ints)

pub returns : goal.returns
returns c =
    let e = c.args.self.now in
    let w = c.worths-worths.result in
    let s = c.share-share.result in
    let u = share_under (w.importing -ℤ w.exporting) w.percentage 19999998000 w.part (omega (arith, ints)) in
    let es : s ≡ share_of (w.importing -ℤ w.exporting) w.percentage = search rules in
    let p1 : c.to.result ≡ post e.importer (neg_ℤ w.importing) = c.to.ensures ∙ ap (post e.importer) (omega (arith, ints)) in
    let p2 : c.to-2.result ≡ post e.exporter w.exporting = c.to-2.ensures ∙ ap (post e.exporter) (omega (arith, ints)) in
    let p3 : c.to-3.result ≡ post e.importer s = c.to-3.ensures ∙ ap (post e.importer) (omega (arith, ints)) in
    let p4 : c.to-4.result ≡ post e.exporter (w.importing -ℤ w.exporting -ℤ s) = c.to-4.ensures ∙ ap (post e.exporter) (omega (arith, ints)) in
    let same : four_postings e.importer e.exporter w.importing w.exporting s ≡ own_postings e = search rules in
    cc
