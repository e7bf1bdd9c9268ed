-- The values that lemmas speak of.
pub use Rattle.mod_core.specs.declared.code.Function.{Function}
pub use Rattle.mod_core.specs.declared.code.Instr.{Instr}
pub use Rattle.mod_core.specs.declared.code.Module.{Module}
pub use Rattle.mod_core.specs.declared.code.Operand.{Operand}
pub use Rattle.mod_text.specs.declared.fault.FinishFault.{FinishFault}
pub use Rattle.mod_text.specs.declared.fault.LineFault.{LineFault}
pub use Rattle.mod_text.specs.declared.fault.LineStop.{LineStop}
pub use Rattle.mod_text.specs.declared.fault.ModFault.{ModFault}
pub use Rattle.term_core.specs.declared.atom.AtomId.{AtomId}
