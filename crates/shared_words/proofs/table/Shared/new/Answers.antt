use Rattle.std.proofs.Common.{List, ℕ, sym, ap, subst}
use Rattle.shared_words.specs.Making.{AreBegun}
use Rattle.shared_words.proofs.OpeningRule.{rule_begins}
use Rattle.shared_words.specs.declared.opening.Opening.{Opening}
use Rattle.shared_words.proofs.WriterSeats.{writer_seat_begins, handing_all}
use Rattle.shared_words.proofs.table.Shared.new.Goals as goal

-- the rule holds of the table as it begins
pub of_words-requires : goal.of_words-requires
of_words-requires g c =
    rule_begins g.N.Served.served _ c.as_slice.result.now c.requires.members.0 c.requires.members.1 c.requires.watchers c.requires.served (subst (λ (ws : List ℕ). AreBegun c.args.members ws) (sym c.as_slice.ensures.value) c.in_ok-words.ensures)

-- the writer has handed out all seats
pub returns-clause-token : goal.returns-clause-token
returns-clause-token g c = writer_seat_begins _ _ c.args.watchers _ (ap (λ (k : Opening). k.watchers) c.in_ok-table.ensures.5) c.in_ok-observers.ensures.writer

pub returns-clause-writer : goal.returns-clause-writer
returns-clause-writer g c = handing_all _ _ c.args.members c.args.watchers _ (ap (λ (k : Opening). k.members) c.in_ok-table.ensures.5) c.in_ok-observers.ensures.writer
