use Rattle.std.proofs.Common.{◌≡◌, sym, w64, rules}
use Rattle.std.proofs.lemmas.Int.{to_z-of_z}
use Rattle.slots.specs.Entries.{first_where, offers}
use Rattle.whole_book.specs.Steps.{entries}
use Rattle.whole_book.proofs.Finding.{finds}
use Rattle.whole_book.proofs.Book.search.Goals as goal

pub returns : goal.returns
returns g c =
    let es = entries c.args.self.now.slots.now c.args.self.now.register in
    let exact = to_z-of_z w64 c.args.cents c.ranges.cents in
    let booked = c.entries.ensures in
    let found = c.number_giving.ensures in
    let first : c.number_giving.result ≡ first_where (offers g.R.Record.posted c.args.member c.args.cents) es = search rules in
    finds g.R.Record.posted c.args.member c.args.cents es _ (sym c.if-not-is_member.ensures) first
