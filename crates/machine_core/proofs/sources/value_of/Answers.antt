-- Each kind of source has its value.
use Rattle.machine_core.proofs.ReadValues.{constant_value, immediate_value, register_read}
use Rattle.machine_core.proofs.sources.value_of.Goals as goal

pub returns-in-Register : goal.returns-in-Register
returns-in-Register c = register_read c.get.result c.args.frame.now c.args.source.now c.in-Register.register c.in-Register.is c.get.ensures

pub returns-in_ok-clone-in-Immediate : goal.returns-in_ok-clone-in-Immediate
returns-in_ok-clone-in-Immediate c = λ shown held ready is.
    immediate_value shown held c.args.frame.now ready c.args.source.now c.in-Immediate.term c.in_ok-clone-in-Immediate.field-0 c.in-Immediate.is c.in_ok-clone-in-Immediate.ensures.cases is

pub returns-in-Constant : goal.returns-in-Constant
returns-in-Constant c = λ shown held ready is. constant_value shown held c.args.frame.now ready c.args.source.now c.in-Constant.at c.in-Constant.is is
