use Rattle.whole_book.proofs.Book.write_statement.Goals as goal

pub returns-clause-after : goal.returns-clause-after
returns-clause-after g c = let made = c.statement.ensures in let after = c.in_ok-write.ensures.after in cc
