-- The set's keys after an insertion, as texts.
use Rattle.std.proofs.Common.{ap, ◌∙◌, map, string_bytes}
use Rattle.term_core.proofs.NameTables.{insert_key-texts}
use Rattle.term_core.proofs.names.insert_text.Goals as goal

-- they are those before with the text named
pub returns-clause-ok : goal.returns-clause-ok
returns-clause-ok c = ap (map string_bytes) c.in_ok-insert.ensures.keys ∙ insert_key-texts c.args.texts.now.keys c.in_ok-owned.owned c.args.text.now c.in_ok-owned.ensures.ok
