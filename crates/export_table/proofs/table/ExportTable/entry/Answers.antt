-- The set has the key of the name at its number, or has it not.
use Rattle.std.proofs.Common.{sym, ◌∙◌}
use Rattle.export_table.specs.Exports.{entry_of}
use Rattle.export_table.proofs.Entries.{key_place}
use Rattle.export_table.proofs.table.ExportTable.entry.Goals as goal

pub returns-in_err-number-clause-value : goal.returns-in_err-number-clause-value
returns-in_err-number-clause-value c =
    c.from_residual.ensures ∙ sym (c.in_err-number.was) ∙ c.get_index_of.ensures.index ∙ sym (key_place c.self.inside.keys.keys c.function_key.result) ∙ (λ i. entry_of (c.self.view_is i) (c.function_key.ensures i))

pub returns-clause-value : goal.returns-clause-value
returns-clause-value c =
    sym (c.in_ok-number.was) ∙ c.get_index_of.ensures.index ∙ sym (key_place c.self.inside.keys.keys c.function_key.result) ∙ (λ i. entry_of (c.self.view_is i) (c.function_key.ensures i))
