-- The values that lemmas speak of.
pub use Rattle.mod_core.specs.declared.code.Module.{Module}
pub use Rattle.mod_text.specs.declared.fault.LineFault.{LineFault}
pub use Rattle.script_core.specs.declared.script.Script.{Script}
pub use Rattle.script_core.specs.declared.script.ScriptCmd.{ScriptCmd}
pub use Rattle.script_core.specs.declared.script.ScriptCmd.TheVariants.{Load, Put, Trace, Spawn}
pub use Rattle.script_text.specs.declared.fault.ScriptFault.{ScriptFault}
pub use Rattle.script_text.specs.declared.reading.cause.LineCause.{LineCause}
pub use Rattle.script_text.specs.declared.reading.reader.Place.{Place}
pub use Rattle.script_text.specs.declared.reading.reader.Place.TheVariants.{Between, Observing, Loading, Finished, Unread, Within}
pub use Rattle.script_text.specs.declared.reading.reader.ScriptReader.{ScriptReader}
pub use Rattle.server_core.specs.declared.command.ModRef.{ModRef}
pub use Rattle.term_core.specs.declared.atom.AtomId.{AtomId}
pub use Rattle.term_core.specs.declared.atom.Mfa.{Mfa}
pub use Rattle.term_core.specs.declared.term.Term.{Term}
pub use Rattle.term_core.specs.declared.term.Term.TheVariants.{Int, Atom, Tuple}
