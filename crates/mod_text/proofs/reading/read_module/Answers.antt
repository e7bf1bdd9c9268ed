-- Each clause by the way in which the reading ended.
use Rattle.mod_text.proofs.Endings.{read_is, only_read, sound_is, cause_is, fault_refuses, missing_refuses}
use Rattle.mod_text.proofs.ModuleHeld.{held_is}
use Rattle.mod_text.proofs.reading.read_module.Goals as goal

pub returns-clause-ok : goal.returns-clause-ok
returns-clause-ok c = read_is c.args.names.now c.args.lines.now c.args.first c.read_text.new.names c.read_text.result c.read_text.ensures.ends

pub returns-clause-only : goal.returns-clause-only
returns-clause-only c = only_read c.args.names.now c.args.lines.now c.args.first c.read_text.new.names c.read_text.result c.read_text.ensures.ends

pub returns-clause-sound : goal.returns-clause-sound
returns-clause-sound c = sound_is c.args.names.now c.args.lines.now c.args.first c.read_text.new.names c.read_text.result c.read_text.ensures.room c.read_text.ensures.ends

pub returns-clause-cause : goal.returns-clause-cause
returns-clause-cause c = cause_is c.args.names.now c.args.lines.now c.args.first c.read_text.new.names c.read_text.result c.read_text.ensures.ends

pub returns-clause-fault : goal.returns-clause-fault
returns-clause-fault c = fault_refuses c.args.names.now c.args.lines.now c.args.first c.read_text.new.names c.read_text.result c.read_text.ensures.ends

pub returns-clause-missing : goal.returns-clause-missing
returns-clause-missing c = missing_refuses c.args.names.now c.args.lines.now c.args.first c.read_text.new.names c.read_text.result c.read_text.ensures.ends

pub returns-clause-held : goal.returns-clause-held
returns-clause-held c = held_is c.args.names.now c.args.lines.now c.args.first c.read_text.new.names c.read_text.result c.read_text.ensures.sound c.read_text.ensures.ends
