-- Each clause follows from what the text is read as.
use Rattle.script_text.proofs.Outcomes.{found_so, only_so, fault_so, refused_so, sound_so}
use Rattle.script_text.proofs.reading.read_script.Goals as goal

pub returns-clause-found : goal.returns-clause-found
returns-clause-found c = found_so c.args.text.now c.read_text.result c.read_text.ensures

pub returns-clause-only : goal.returns-clause-only
returns-clause-only c = only_so c.args.text.now c.read_text.result c.read_text.ensures

pub returns-clause-fault : goal.returns-clause-fault
returns-clause-fault c = fault_so c.args.text.now c.read_text.result c.read_text.ensures

pub returns-clause-refused : goal.returns-clause-refused
returns-clause-refused c = refused_so c.args.text.now c.read_text.result c.read_text.ensures

pub returns-clause-sound : goal.returns-clause-sound
returns-clause-sound c = sound_so c.args.text.now c.read_text.result c.read_text.ensures
