-- The law is that of proofs/MadeScripts.
use Rattle.script_maker.proofs.MadeScripts.{made_script-IsScript}
use Rattle.script_maker.proofs.laws.made_scripts_are_scripts.Goals as goal

pub returns : goal.returns
returns c = made_script-IsScript
