use Rattle.report_text.proofs.Wholes.{found_is, only_is, fault_is, refused_is}
use Rattle.report_text.proofs.reading.read_counted.Goals as goal

-- what is read is the log of the text
pub returns-clause-found : goal.returns-clause-found
returns-clause-found c = found_is c.args.names.now c.are_names.ensures c.args.text.now c.read_lines.result c.read_lines.ensures

-- the text of a log is read as it
pub returns-clause-only : goal.returns-clause-only
returns-clause-only c = only_is c.args.names.now c.are_names.ensures c.args.text.now c.read_lines.result c.requires c.read_lines.ensures

-- what is refused has this fault
pub returns-clause-fault : goal.returns-clause-fault
returns-clause-fault c = fault_is c.args.names.now c.are_names.ensures c.args.text.now c.read_lines.result c.requires c.read_lines.ensures

-- what has a fault is refused with it
pub returns-clause-refused : goal.returns-clause-refused
returns-clause-refused c = refused_is c.args.names.now c.are_names.ensures c.args.text.now c.read_lines.result c.requires c.read_lines.ensures
